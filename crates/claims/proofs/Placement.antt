-- What the placement module sends leaves every page as stations know it, and a page can be had back. In order: one
-- message; the messages of a file; a read of a page with a CURRENT copy; a copy set current; a copy made of a null one.
use Prim.Native.Nat.{ℕ, suc, ◌≤◌, ◌<◌}
use mathlib.Core.Path.{◌≡◌, refl, sym, ap, ◌∙◌, subst}
use mathlib.Core.Bool.{Bool, true, false, not, ◌&&◌, cond, true≢false, false≢true, and-false}
use mathlib.Core.List.{List, [], ◌∷◌}
use native.Mathlib.Omega.{arith}
use lib.ListN.{length, get_or, set, length-set}
use lib.Seq.{get_or-take, get_or-set_same}
use lib.Dec.{eqb}
use borrow.Author.Tests.{eqb-true, ne_eqb, le-ltb, lt-ltb, lt-leb, not-true}
use Rattle.tables.specs.declared.Copy.{Copy}
use Rattle.tables.specs.declared.Page.{Page}
use Rattle.tables.specs.declared.Edit.TheVariants.{Placed, Marked}
use Rattle.tables.specs.Lists.{all, count, listed}
use Rattle.tables.specs.Numbers.{accepted, out_of_range, no_right}
use Rattle.tables.specs.Model.{frames, is_null, copies_in_use, absent, zero_copy, page_at}
use Rattle.tables.specs.Rules.{free, is_recent, is_current}
use Rattle.tables.specs.Search.{is_free, is_retired, shown}
use Rattle.tables.specs.Register.{registered}
use Rattle.tables.specs.Changes.{new_copy, with_current, changed, edited, after}
use Rattle.tables.proofs.ListLaws.{and_left, and_right, all_first, all_rest, count_at, count_some}
use Rattle.tables.proofs.RuleLaws.{length_in_use, copy_at_lem, sound_of, few_frames}
use Rattle.tables.proofs.RegisterLaws.{registered_free}
use Rattle.tables.proofs.ChangeLaws.{in_use_marked, after_same}
use Rattle.steps.specs.declared.Kind.{Kind}
use Rattle.steps.specs.declared.Kind.TheVariants.{Create, DeletePage, Grant, Read, Write, MakeCopy, DeleteCopy, SetCurrent, RemoveCurrent, LookPage, LookFrame, Retire}
use Rattle.steps.specs.declared.Act.TheVariants as Act
use Rattle.steps.specs.declared.Call.{Call}
use Rattle.steps.specs.declared.View.{View}
use Rattle.steps.specs.declared.Lay.TheVariants.{Zeros}
use Rattle.steps.specs.declared.Show.TheVariants as Show
use Rattle.steps.specs.declared.Work.TheVariants.{Lays}
use Rattle.steps.specs.Kinds.{station, page, names, kind_number, kinds, is_read, code, among, has, argument, call_of}
use Rattle.steps.specs.declared.Plan.{Plan}
use Rattle.steps.specs.Steps.{Outcome, refuse, accept, guarded, mapped, plan_of, no_work, showing, may, copy_at, currents, first_current, perform, decide_on, page_for, view_of, decide, number_of}
use Rattle.steps.specs.Effects.{State, Result, carried_out, step, left}
use Rattle.steps.proofs.KindLaws.{kind_is}
use Rattle.steps.proofs.RangeLaws.{outside_listed}
use Rattle.steps.proofs.StepLaws.{Good, page_stands_lem, good_rules, decide_ruled}
use Rattle.messages.specs.Messages.{parse}
use Rattle.messages.specs.Replies.{is_refusal}
use Rattle.messages.specs.Run.{Sent, whole, asked, bytes_of, answer, turn_of, left_by, split, messages_of, turns_of, end_of}
use Rattle.claims.specs.History.{PageHistory, is_of, history_after}
use Rattle.claims.specs.Latest.{next_history}
use Rattle.theorems.specs.Flat.{gone, here}
use Rattle.claims.specs.Note.{seen, asks_for, to_modify, to_rule}
use Rattle.claims.specs.Placement.{unstamped, from_placement, BroughtBack, PagesSafe, Placement}
use Rattle.claims.proofs.NoOldCopy.{came, message_good}
use Rattle.claims.proofs.Note.{slot_told, seen_told, data_told, access_told, data_left, access_left, Histories, histories_left, start_histories}

-- ---- one message

-- a kind that names no station is none of 1 to 5
six_on : (k : Kind) → has station k ≡ false → 6 ≤ kind_number k
unfolding names among code
six_on Create e = absurd (true≢false e)
six_on DeletePage e = absurd (true≢false e)
six_on Grant e = absurd (true≢false e)
six_on Read e = absurd (true≢false e)
six_on Write e = absurd (true≢false e)
six_on MakeCopy e = omega arith
six_on DeleteCopy e = omega arith
six_on SetCurrent e = omega arith
six_on RemoveCurrent e = omega arith
six_on LookPage e = omega arith
six_on LookFrame e = omega arith
six_on Retire e = omega arith

-- so that a call of it is entitled neither to modify a page nor to rule it
entitled_none : (g : Page) (c : Call) → has station c.kind ≡ false → (to_modify g c ≡ false) × (to_rule g c ≡ false)
entitled_none g c e =
    let high = six_on c.kind e in
    let k = kind_number c.kind in
    let one = ne_eqb k 1 (omega arith) in
    let two = ne_eqb k 2 (omega arith) in
    (rw (one, two, ne_eqb k 5 (omega arith)) refl, rw (one, two, ne_eqb k 3 (omega arith)) refl)

asks_none : (q : ℕ) (f : Call → Bool) (a : Outcome Call) → unstamped a ≡ true
    → ((c : Call) → has station c.kind ≡ false → f c ≡ false)
    → asks_for q f a ≡ false
asks_none q f (refuse n) e h = refl
asks_none q f (accept c) e h = rw (h c (not-true _ e)) (and-false (is_of q c))

-- a page that has the same data and the same access is the same
slot_same : (h h' : PageHistory) (g g' : Page) → data_told h' ≡ data_told h → access_told h' g' ≡ access_told h g
    → slot_told h' g' ≡ slot_told h g
slot_same h h' g g' d a = go h.stands h'.stands d a
  where
    go : (b b' : Bool) → cond b' h'.last.bytes [] ≡ cond b h.last.bytes []
        → ◌≡◌ {A = List (ℕ × List ℕ)} (cond b' ((g'.owner, g'.rights) ∷ []) [])
        (cond b ((g.owner, g.rights) ∷ []) [])
        → cond b' (here (record { owner = g'.owner; rights = g'.rights; bytes = h'.last.bytes })) gone
        ≡ cond b (here (record { owner = g.owner; rights = g.rights; bytes = h.last.bytes })) gone
    go true true d a =
        let e : ◌≡◌ {A = ℕ × List ℕ} (g'.owner, g'.rights) (g.owner, g.rights) = cc in
        let owners : g'.owner ≡ g.owner = ap (λ (x : ℕ × List ℕ). x.0) e in
        let rights : g'.rights ≡ g.rights = ap (λ (x : ℕ × List ℕ). x.1) e in
        rw (owners, rights, d)
    go true false d a = cc
    go false true d a = cc
    go false false d a = refl

module _ (n : ℕ) (H : ℕ → PageHistory) (s : State) (k : Histories n H s) (room : ℕ) (x : Sent)
    (e : unstamped (asked x) ≡ true) where
  message_kept : (q : ℕ) → q < 64 → seen (left_by room s x) q ≡ seen s q
  unfolding history_after
  message_kept q near =
      let s' = left_by room s x in
      let o = answer room s x in
      let k' = histories_left n H s k room x in
      let h' = next_history q n (turn_of room s x) (H q) in
      let g = page_at s.tables q in
      let none : (f : Page → Call → Bool) → ((c : Call) → has station c.kind ≡ false → f g c ≡ false)
      → (not (is_refusal o) && asks_for q (f g) (asked x)) ≡ false =
      λ f h. rw (asks_none q (f g) (asked x) e h) (and-false (not (is_refusal o))) in
      seen_told q near (suc n) h' s' k'.good (k'.told q near)
      ∙ slot_same (H q) h' g (page_at s'.tables q)
      (data_left q near n (H q) s x o (came room s x) (none to_modify (λ c z. (entitled_none g c z).0)))
      (access_left q near n (H q) s x o (came room s x) (none to_rule (λ c z. (entitled_none g c z).1)))
      ∙ sym (seen_told q near n (H q) s k.good (k.told q near))

-- ---- the messages of a file

messages_kept : (room : ℕ) (xs : List Sent) (n : ℕ) (H : ℕ → PageHistory) (s : State) → Histories n H s
    → from_placement xs ≡ true
    → (q : ℕ) → q < 64 → seen (end_of room s xs) q ≡ seen s q
unfolding end_of
messages_kept room [] n H s k e q near = refl
messages_kept room (x ∷ xs) n H s k e q near =
    let one = all_first (λ (y : Sent). unstamped (asked y)) x xs e in
    let rest = all_rest (λ (y : Sent). unstamped (asked y)) x xs e in
    messages_kept room xs (suc n) _ (left_by room s x) (histories_left n H s k room x) rest q near
    ∙ message_kept n H s k room x one q near

-- ---- a read of a page that has a CURRENT copy

abbrev fine : List ℕ
fine = accepted ∷ out_of_range ∷ no_right ∷ []

read_number : (v : View) (c : Call) (size : ℕ) → c.kind ≡ Read → absent v.page ≡ false
    → eqb (currents v.page) 0 ≡ false
    → listed (number_of (decide_on v c size)) fine ≡ true
unfolding decide_on perform
read_number v c size is some cur =
    outside_listed v.frames size c (λ (n : ℕ). listed (number_of (guarded n (perform v c size c.kind))) fine
    ≡ true)
    (rw (is, some, cur) (by (may v.page c.station Act.Read))) refl
  where
    by : (b : Bool) → listed (number_of (guarded (cond b accepted no_right)
        (showing c.count (Show.Frame (first_current (copies_in_use v.page)) c.offset)))) fine ≡ true
    by true = refl
    by false = refl

number_kept : (o : Outcome Plan) (f : Plan → Result) → number_of (mapped f o) ≡ number_of o
number_kept (refuse n) f = refl
number_kept (accept plan) f = refl

-- a message that asks for call c, where the rules hold and the reply buffer is long enough
answered : (room : ℕ) → 70 ≤ room → (s : State) → Good s → (x : Sent) (c : Call) → asked x ≡ accept c
    → answer room s x ≡ mapped (carried_out s c (bytes_of x)) (decide s.tables c (length (bytes_of x)))
unfolding answer step
answered room wide s good x c is =
    rw (le-ltb room 70 wide, is)
    (ap (mapped (carried_out s c (bytes_of x)))
    (decide_ruled s.tables (length s.fast) (length s.slow) c (length (bytes_of x)) (good_rules good)))

-- so many bytes of replies, and page q
module _ (room q : ℕ) (wide : 70 ≤ room) (near : q < 64) where
  pub reads_answered : (s : State) → Good s → absent (page_at s.tables q) ≡ false
      → 1 ≤ currents (page_at s.tables q) → (x : Sent)
      → asks_for q (λ c. is_read c.kind) (asked x) ≡ true → listed (number_of (answer room s x)) fine ≡ true
  reads_answered s good some cur x e = go (asked x) refl e
    where
      go : (a : Outcome Call) → asked x ≡ a → asks_for q (λ c. is_read c.kind) a ≡ true
          → listed (number_of (answer room s x)) fine ≡ true
      go (refuse n) is e = absurd (false≢true e)
      go (accept c) is e =
          let of = and_left (is_of q c) _ e in
          let named = eqb-true c.page q (and_right (has page c.kind) _ of) in
          let kind = kind_is c.kind Read (and_right (is_of q c) _ e) in
          let at : page_for c ≡ q = rw (named, lt-ltb q 64 near) in
          let g : Page = page_at s.tables (page_for c) in
          let some' : absent g ≡ false = ap (λ (i : ℕ). absent (page_at s.tables i)) at ∙ some in
          let cur' : 1 ≤ currents g = subst (λ (i : ℕ). 1 ≤ currents (page_at s.tables i)) (sym at) cur in
          subst (λ (n : ℕ). listed n fine ≡ true)
          (sym (ap number_of (answered room wide s good x c is)
          ∙ number_kept (decide s.tables c (length (bytes_of x))) (carried_out s c (bytes_of x))))
          (read_number (view_of s.tables c) c (length (bytes_of x)) kind some'
          (ne_eqb (currents g) 0 (λ z. omega arith)))

  -- ---- a MOST RECENT copy that has a frame is set current

  abbrev set_message : ℕ → List ℕ
  set_message k = 1 ∷ 8 ∷ q ∷ k ∷ []

  module _ (s : State) (good : Good s) (k : ℕ) (less : k < (page_at s.tables q).n)
      (recent : (copy_at (page_at s.tables q) k).recent ≡ true) (framed : is_null (copy_at (page_at s.tables q) k)
      ≡ false) where
    abbrev g : Page
    g = page_at s.tables q

    some : absent g ≡ false
    some = ne_eqb g.n 0 (λ z. omega arith)

    set_decided : (size : ℕ)
        → decide s.tables (call_of SetCurrent (q ∷ k ∷ [])) size ≡ accept (plan_of (Marked k true) 255 0 0 no_work)
    unfolding decide_on perform names code among argument call_of
    set_decided size = rw (lt-ltb q 64 near, le-ltb 63 q (omega arith), some, lt-leb g.n k less, framed, recent)

    set_leaves : page_at (left_by room s (whole (set_message k))).tables q ≡ changed g (Marked k true)
    unfolding parse names kinds code among argument call_of
    set_leaves =
        let c = call_of SetCurrent (q ∷ k ∷ []) in
        let at : page_for c ≡ q = rw (lt-ltb q 64 near) in
        let pages : q < length s.tables.pages = rw
        (sound_of s.tables good.tables_sound).paged.pages_long near in
        ap (λ (o : Outcome Result). page_at (left s o).tables q)
        (answered room wide s good (whole (set_message k)) c refl ∙ ap (mapped (carried_out s c [])) (set_decided 0))
        ∙ ap (λ (i : ℕ). page_at (after s.tables (edited s.tables i (Marked k true) 255)) q) at
        ∙ after_same s.tables q (Marked k true) 255 pages

    current_there : 1 ≤ currents (changed g (Marked k true))
    current_there =
        let d = page_stands_lem good q near some in
        let l : k < length (copies_in_use g) = omega (arith, length_in_use d) in
        let v = with_current (copy_at g k) true in
        subst (λ (cs : List Copy). 1 ≤ count is_current cs) (sym (in_use_marked g k true less))
        (count_at is_current (set (copies_in_use g) k v) k zero_copy (omega (arith, length-set (copies_in_use g) k v))
        (ap (λ (c : Copy). c.current) (get_or-set_same (copies_in_use g) k v zero_copy l)))

    set_reads : (x : Sent) → asks_for q (λ c. is_read c.kind) (asked x) ≡ true
        → listed (number_of (answer room (left_by room s (whole (set_message k))) x)) fine ≡ true
    unfolding changed
    set_reads =
        let s' = left_by room s (whole (set_message k)) in
        reads_answered s' (message_good room s (whole (set_message k)) good) (ap absent set_leaves ∙ some)
        (subst (λ (h : Page). 1 ≤ currents h) (sym set_leaves) current_there)

    few_copies : k < 8
    few_copies = let d = page_stands_lem good q near some in omega (arith, d.most)

    back_from : BroughtBack room s q
    unfolding messages_of split turns_of end_of parse names kinds code among argument call_of all
    back_from =
        record {
          file = 0 ∷ 4 ∷ set_message k;
          of_bytes = rw (lt-ltb q 256 (omega arith), lt-ltb k 256 (omega (arith, few_copies)));
          few = omega arith;
          by_placement = refl;
          reads_answered = set_reads;
        }

  -- ---- a null copy is placed on a free frame

  module _ (s : State) (good : Good s) (some : absent (page_at s.tables q) ≡ false)
      (null : is_null (copy_at (page_at s.tables q) 0) ≡ true)
      (f : ℕ) (low : f < frames s.tables) (spare : free s.tables f ≡ true) where
    abbrev was : Page
    was = page_at s.tables q

    abbrev make_message : List ℕ
    make_message = 1 ∷ 6 ∷ q ∷ 0 ∷ f ∷ []

    one : was.n ≡ 1
    one = let d = page_stands_lem good q near some in (copy_at_lem d 0 d.some).lone null

    frame_free : is_free (registered s.tables f) ≡ true
    frame_free = sym (registered_free s.tables f good.tables_sound low) ∙ spare

    not_retired : is_retired (registered s.tables f) ≡ false
    not_retired = ap (λ (n : ℕ). eqb n 2) (eqb-true (get_or (shown (registered s.tables f)) 0 0) 0 frame_free)

    make_decided : (size : ℕ)
        → decide s.tables (call_of MakeCopy (q ∷ 0 ∷ f ∷ [])) size
        ≡ accept (plan_of (Placed f) 255 64 0 (Lays (Zeros f) 255))
    unfolding decide_on perform names code among argument call_of
    make_decided size =
        rw (
          lt-ltb q 64 near,
          le-ltb 63 q (omega arith),
          some,
          one,
          null,
          lt-leb
              (frames s.tables) f low,
          not_retired,
          frame_free,
        )

    make_leaves : page_at (left_by room s (whole make_message)).tables q ≡ changed was (Placed f)
    unfolding parse names kinds code among argument call_of
    make_leaves =
        let c = call_of MakeCopy (q ∷ 0 ∷ f ∷ []) in
        let at : page_for c ≡ q = rw (lt-ltb q 64 near) in
        let pages : q < length s.tables.pages = rw
        (sound_of s.tables good.tables_sound).paged.pages_long near in
        ap (λ (o : Outcome Result). page_at (left s o).tables q)
        (answered room wide s good (whole make_message) c refl ∙ ap (mapped (carried_out s c _)) (make_decided _))
        ∙ ap (λ (i : ℕ). page_at (after s.tables (edited s.tables i (Placed f) 255)) q) at
        ∙ after_same s.tables q (Placed f) 255 pages

    placed_copy : copy_at (changed was (Placed f)) 0 ≡ new_copy f true
    unfolding changed
    placed_copy =
        let d = page_stands_lem good q near some in
        get_or-set_same was.copies 0 (new_copy f true) zero_copy (omega (arith, d.copies_long))

    back_placed : BroughtBack room s q
    unfolding messages_of split turns_of end_of parse names kinds code among argument call_of all changed
    back_placed =
        let s' = left_by room s (whole make_message) in
        let small = few_frames (sound_of s.tables good.tables_sound) in
        let there : copy_at (page_at s'.tables q) 0 ≡ new_copy f true = ap (λ (h : Page). copy_at h 0) make_leaves
        ∙ placed_copy in
        let many : (page_at s'.tables q).n ≡ 1 = ap (λ (h : Page). h.n) make_leaves ∙ one in
        record {
          file = 0 ∷ 5 ∷ 1 ∷ 6 ∷ q ∷ 0 ∷ f ∷ 0 ∷ 4 ∷ set_message 0;
          of_bytes = rw (lt-ltb q 256 (omega arith), lt-ltb f 256 (omega arith));
          few = omega arith;
          by_placement = refl;
          reads_answered =
              set_reads s' (message_good room s (whole make_message) good) 0 (omega arith)
              (ap (λ (c : Copy). c.recent) there)
              (ap is_null there ∙ ne_eqb f 255 (omega arith));
        }

  back_to : (s : State) → Good s → absent (page_at s.tables q) ≡ false → (f : ℕ) → f < frames s.tables
      → free s.tables f ≡ true
      → BroughtBack room s q
  back_to s good some f low spare =
      let g = page_at s.tables q in
      let d = page_stands_lem good q near some in
      let k = count_some is_recent (copies_in_use g) zero_copy d.recent_ok in
      let less : k.0 < g.n = omega (arith, k.1, length_in_use d) in
      let recent : (copy_at g k.0).recent ≡ true =
      ap (λ (c : Copy). c.recent) (sym (get_or-take g.n g.copies k.0 zero_copy less)) ∙ k.2 in
      go k.0 less recent (is_null (copy_at g k.0)) refl
    where
      go : (k : ℕ) → k < (page_at s.tables q).n → (copy_at (page_at s.tables q) k).recent ≡ true
          → (z : Bool) → is_null (copy_at (page_at s.tables q) k) ≡ z → BroughtBack room s q
      go k less recent true z =
          let d = page_stands_lem good q near some in
          let alone = (copy_at_lem d k less).lone z in
          let first : k ≡ 0 = omega arith in
          back_placed s good some
          (subst (λ (i : ℕ). is_null (copy_at (page_at s.tables q) i) ≡ true) first z) f low spare
      go k less recent false z = back_from s good k less recent z

-- ---- every state

pages_safe : (n : ℕ) (H : ℕ → PageHistory) (s : State) → Histories n H s → PagesSafe s
pages_safe n H s k =
    record {
      pages_kept = λ room xs e q near. messages_kept room xs n H s k e q near;
      back_from_copy = λ room q i wide near less recent framed.
          back_from room q wide near s k.good i less recent framed;
      back_to_frame = λ room q f wide near some low spare. back_to room q wide near s k.good some f low spare;
    }

end_safe : (room : ℕ) (xs : List Sent) (n : ℕ) (H : ℕ → PageHistory) (s : State) → Histories n H s
    → PagesSafe (end_of room s xs)
unfolding end_of
end_safe room [] n H s k = pages_safe n H s k
end_safe room (x ∷ xs) n H s k = end_safe room xs (suc n) _ (left_by room s x) (histories_left n H s k room x)

pub placement : Placement
placement p s room fast slow xs hp hs lp ls = end_safe room xs 1 _ _ (start_histories p s fast slow hp hs lp ls)
