-- The note's claims, from the histories of the pages. In order: the copies of a page; a page as stations know it; what
-- one message leaves of that; its reply; the messages of a run.
use Prim.Native.Nat.{ℕ, suc, ◌+◌, ◌*◌, ◌≤◌, ◌<◌}
use mathlib.Core.Path.{◌≡◌, refl, sym, ap, ◌∙◌, subst}
use mathlib.Core.Bool.{Bool, true, false, not, ◌&&◌, cond, true≢false}
use mathlib.Core.List.{List, [], ◌∷◌, ◌++◌}
use native.Mathlib.Omega.{arith}
use lib.ListN.{get_or-eq_default, length, set}
use lib.Seq.{get_or-take}
use lib.Dec.{leb, ltb, eqb}
use borrow.Author.Tests.{eqb-true, eqb-false, eq-eqb, leb-true, ltb-true, ltb-false}
use Rattle.tables.specs.declared.Copy.{Copy}
use Rattle.tables.specs.declared.Page.{Page}
use Rattle.tables.specs.Model.{frames, is_null, copies_in_use, absent, zero_copy, page_at, fresh_tables}
use Rattle.tables.specs.Numbers.{accepted, short_buffer}
use Rattle.tables.specs.Rules.{is_current, is_recent, at_most}
use Rattle.tables.specs.Changes.{new_copy, with_copies, changed}
use Rattle.tables.proofs.ListLaws.{and_left, and_right, all_at}
use Rattle.tables.proofs.RuleLaws.{current_placed, StandingPage, length_in_use, copy_at_lem}
use Rattle.steps.specs.declared.Kind.{Kind}
use Rattle.steps.specs.declared.Kind.TheVariants.{Create, DeletePage, Grant, Read, Write, MakeCopy, DeleteCopy, SetCurrent, RemoveCurrent, LookPage, LookFrame, Retire}
use Rattle.steps.specs.declared.Act.TheVariants as Act
use Rattle.steps.specs.declared.Call.{Call}
use Rattle.steps.specs.declared.View.{View}
use Rattle.steps.specs.Kinds.{page, names, is_read, code, among, has}
use Rattle.steps.specs.Stores.{part, block, contents}
use Rattle.steps.specs.declared.Plan.{Plan}
use Rattle.steps.specs.Steps.{Outcome, refuse, accept, test, mapped, right_of, may, copy_at, currents, first_current, page_for, view_of}
use Rattle.steps.specs.Effects.{shown_of, work_data, State, joined, Result, carried_out, step, left}
use Rattle.steps.specs.Promises.{state_of}
use Rattle.steps.proofs.KindLaws.{kind_is}
use Rattle.steps.proofs.RightLaws.{allows_least}
use Rattle.steps.proofs.DecisionLaws.{page_near}
use Rattle.steps.proofs.DecideLaws.{IfAccepted, if_accepted}
use Rattle.steps.proofs.PlanLaws.{Access, Needs, copy_plan, plan_for}
use Rattle.steps.proofs.StepLaws.{Good, page_stands_lem}
use Rattle.messages.specs.Replies.{be16, reply, reply_in, is_refusal}
use Rattle.messages.specs.Run.{Sent, asked, bytes_of, respond, answer, turn_of, left_by, turns_of, end_of}
use Rattle.theorems.specs.Flat.{Slot, gone, here}
use Rattle.theorems.specs.Hidden.{run_over}
use Rattle.theorems.proofs.HiddenLaws.{hidden}
use Rattle.theorems.proofs.Whole.{start_inv}
use Rattle.claims.specs.History.{PageWrite, PageHistory, absent_history, followed, is_of, followed_in, history_after}
use Rattle.claims.specs.Latest.{next_history}
use Rattle.claims.specs.Note.{first_of, seen, data_in, access_in, CopiesAgree, asks_for, is_entitled, to_modify, to_rule, to_read, SameContents, Secure, Claims, NoteClaims}
use Rattle.claims.proofs.History.{Told, copy_told, held_told, aged_told}
use Rattle.claims.proofs.NoOldCopy.{Known, known, Came, was_refused, was_accepted, came, page_named, view_at, record_left, message_told, first_at, first_current_lem, message_good, told_start}

-- ---- the copies of a page

module _ {limit : ℕ} {g : Page} (d : StandingPage limit g) {n : ℕ} {h : PageHistory} {st : List ℕ}
    (told : Told n h st g) where
  -- a MOST RECENT copy holds the bytes of the last write
  recent_bytes : (k : ℕ) → k < g.n → (copy_at g k).recent ≡ true → contents st (copy_at g k) ≡ h.last.bytes
  recent_bytes k less e =
      let is = copy_told d told k less in
      let last = (aged_told d told k less).0 (ap (λ (c : Copy). c.recent) (sym is) ∙ e) in
      ap (contents st) is ∙ held_told d told k less ∙ ap (λ (w : PageWrite). w.bytes) last

  copies_agree : CopiesAgree st g
  copies_agree =
      record {
        recent_same = λ i j l m e f. recent_bytes i l e ∙ sym (recent_bytes j m f);
        current_same = λ i j l m e f.
            recent_bytes i l ((copy_at_lem d i l).marks e) ∙ sym (recent_bytes j m ((copy_at_lem d j m).marks f));
        current_recent = λ i l e. (copy_at_lem d i l).marks e;
        some_recent = λ _. d.recent_ok;
        null_recent = λ i l z. ((copy_at_lem d i l).null_recent z, (copy_at_lem d i l).null_idle z);
      }

-- an absent page has none
absent_agree : (st : List ℕ) (g : Page) → absent g ≡ true → CopiesAgree st g
absent_agree st g none =
    let z = eqb-true g.n 0 none in
    record {
      recent_same = λ i j l m e f. absurd (omega arith);
      current_same = λ i j l m e f. absurd (omega arith);
      current_recent = λ i l e. absurd (omega arith);
      some_recent = λ some. absurd (true≢false (sym none ∙ some));
      null_recent = λ i l null. absurd (omega arith);
    }

-- ---- a page as stations know it

-- by its history, and its record g
abbrev pub slot_told : PageHistory → Page → Slot
slot_told h g = cond h.stands (here (record { owner = g.owner; rights = g.rights; bytes = h.last.bytes })) gone

pub seen_told : (q : ℕ) → q < 64 → (n : ℕ) (h : PageHistory) (s : State) → Good s
    → Told n h (joined s) (page_at s.tables q)
    → seen s q ≡ slot_told h (page_at s.tables q)
seen_told q near n h s good told = go h.stands refl
  where
    g : Page
    g = page_at s.tables q

    go : (b : Bool) → h.stands ≡ b
        → cond (absent g) gone
        (here (record {
          owner = g.owner;
          rights = g.rights;
          bytes = contents (joined s)
              (first_of is_recent (copies_in_use g));
        }))
        ≡ cond b (here (record { owner = g.owner; rights = g.rights; bytes = h.last.bytes })) gone
    go true e =
        let some : absent g ≡ false = told.standing ∙ ap not e in
        let d = page_stands_lem good q near some in
        let f = first_at is_recent (copies_in_use g) d.recent_ok in
        let less : f.at < g.n = omega (arith, f.within, length_in_use d) in
        let at = get_or-take g.n g.copies f.at zero_copy less in
        rw some
        (ap (λ (l : List ℕ). here (record { owner = g.owner; rights = g.rights; bytes = l }))
        (ap (contents (joined s)) (f.first ∙ at)
        ∙ recent_bytes d told f.at less (ap (λ (c : Copy). c.recent) (sym at) ∙ f.is)))
    go false e = let none : absent g ≡ true = told.standing ∙ ap not e in rw none

-- ---- what one message leaves of that

abbrev pub data_told : PageHistory → List ℕ
data_told h = cond h.stands h.last.bytes []

abbrev pub access_told : PageHistory → Page → List (ℕ × List ℕ)
access_told h g = cond h.stands ((g.owner, g.rights) ∷ []) []

data_of : (h : PageHistory) (g : Page) → data_in (slot_told h g) ≡ data_told h
data_of h g = go h.stands
  where
    go : (b : Bool)
        → data_in (cond b (here (record { owner = g.owner; rights = g.rights; bytes = h.last.bytes })) gone)
        ≡ cond b h.last.bytes []
    go true = refl
    go false = refl

access_of : (h : PageHistory) (g : Page) → access_in (slot_told h g) ≡ access_told h g
access_of h g = go h.stands
  where
    go : (b : Bool)
        → access_in (cond b (here (record { owner = g.owner; rights = g.rights; bytes = h.last.bytes })) gone)
        ≡ cond b ((g.owner, g.rights) ∷ []) []
    go true = refl
    go false = refl

-- no right is above 2
right_low : {limit : ℕ} {g : Page} → StandingPage limit g → (station : ℕ) → right_of g station ≤ 2
right_low {g = g} d station = go (ltb station (length g.rights)) refl
  where
    go : (b : Bool) → ltb station (length g.rights) ≡ b → right_of g station ≤ 2
    go true e = leb-true (right_of g station) 2
        (all_at (at_most 2) g.rights station 0 d.rights_ok (ltb-true station _ e))
    go false e = rw (get_or-eq_default g.rights 0 (ltb-false station _ e)) (omega arith)

-- a right that allows a write is 2
right_two : {limit : ℕ} {g : Page} → StandingPage limit g → (station : ℕ) → may g station Act.Write ≡ true
    → eqb (right_of g station) 2 ≡ true
right_two {g = g} d station e =
    let least = leb-true 2 (right_of g station) (sym (allows_least (right_of g station) Act.Write) ∙ e) in
    let most : right_of g station ≤ 2 = right_low d station in
    eq-eqb (right_of g station) 2 (omega arith)

-- an accepted call c of kind k, on page g with history h
module _ (limit n size : ℕ) (v : View) (c : Call) (bs : List ℕ) (h : PageHistory) where
  data_kind : (k : Kind) → c.kind ≡ k → Needs v.page c k → (absent v.page ≡ false → StandingPage limit v.page)
      → to_modify v.page c ≡ false
      → data_told (followed k n c bs h) ≡ data_told h
  unfolding followed
  data_kind Create is need d e = let r : ◌≡◌ {A = Bool} true false = rw (is, need) at e in absurd (true≢false r)
  data_kind DeletePage is need d e = let r : ◌≡◌ {A = Bool} true false = rw (is, need.0, need.1) at e in absurd
      (true≢false r)
  data_kind Grant is need d e = refl
  data_kind Read is need d e = refl
  data_kind Write is need d e =
      let two = right_two (d need.0) c.station need.1.0 in
      let r : ◌≡◌ {A = Bool} true false = rw (is, need.0, two) at e in absurd (true≢false r)
  data_kind MakeCopy is need d e = refl
  data_kind DeleteCopy is need d e = refl
  data_kind SetCurrent is need d e = refl
  data_kind RemoveCurrent is need d e = refl
  data_kind LookPage is need d e = refl
  data_kind LookFrame is need d e = refl
  data_kind Retire is need d e = refl

  access_made : (k : Copy) (f : ℕ) (z : Bool)
      → access_told h (changed v.page (copy_plan k f z).edit) ≡ access_told h v.page
  unfolding changed
  access_made k f true = refl
  access_made k f false = go (ltb v.page.n 8)
    where
      go : (b : Bool)
          → access_told h
          (cond b (with_copies v.page (v.page.n + 1)
          (set v.page.copies v.page.n (new_copy f k.recent))) v.page)
          ≡ access_told h v.page
      go true = refl
      go false = refl

  access_kind : (k : Kind) → c.kind ≡ k → Needs v.page c k → to_rule v.page c ≡ false
      → access_told (followed k n c bs h) (changed v.page (plan_for v c size k).edit) ≡ access_told h v.page
  unfolding followed changed
  access_kind Create is need e = let r : ◌≡◌ {A = Bool} true false = rw (is, need) at e in absurd (true≢false r)
  access_kind DeletePage is need e = let r : ◌≡◌ {A = Bool} true false = rw (is, need.0, need.1) at e in absurd
      (true≢false r)
  access_kind Grant is need e = let r : ◌≡◌ {A = Bool} true false = rw (is, need.0, need.1) at e in absurd
      (true≢false r)
  access_kind Read is need e = refl
  access_kind Write is need e = refl
  access_kind MakeCopy is need e =
      access_made (copy_at v.page c.copy) c.frame (is_null (copy_at v.page c.copy))
  access_kind DeleteCopy is need e = refl
  access_kind SetCurrent is need e = refl
  access_kind RemoveCurrent is need e = refl
  access_kind LookPage is need e = refl
  access_kind LookFrame is need e = refl
  access_kind Retire is need e = refl

-- one message, on page q with history h
module _ (q : ℕ) (near : q < 64) (n : ℕ) (h : PageHistory) (s : State) (x : Sent) where
  abbrev was : Page
  was = page_at s.tables q

  -- what is known of an accepted call of page q, by the record of that page
  needs_own : (c : Call) (plan : Plan) → Known s c (bytes_of x) plan → is_of q c ≡ true
      → (page_for c ≡ q) × Needs was c c.kind
  needs_own c plan u e =
      let named = page_named s c (bytes_of x) plan u (and_left (has page c.kind) _ e) in
      let at : page_for c ≡ q = sym named ∙ eqb-true c.page q (and_right (has page c.kind) _ e) in
      (at, subst (λ (i : ℕ). Needs (page_at s.tables i) c c.kind) at u.does.needs)

  pub data_left : (o : Outcome Result) → Came s x o → (not (is_refusal o) && asks_for q (to_modify was) (asked x)) ≡ false
      → data_told (cond (is_refusal o) h (followed_in q n (asked x) (bytes_of x) h)) ≡ data_told h
  data_left (refuse m) was_refused e = refl
  data_left (accept _) (was_accepted c plan is u) e = rw is (by (is_of q c) refl (rw is at e))
    where
      by : (b : Bool) → is_of q c ≡ b → (b && to_modify was c) ≡ false
          → data_told (cond b (followed c.kind n c (bytes_of x) h) h) ≡ data_told h
      by true of e =
          let k = needs_own c plan u of in
          data_kind (frames s.tables) n (length (bytes_of x)) (view_at s q c) c (bytes_of x) h
          c.kind refl k.1 (page_stands_lem u.good q near) e
      by false of e = refl

  pub access_left : (o : Outcome Result) → Came s x o → (not (is_refusal o) && asks_for q (to_rule was) (asked x)) ≡ false
      → access_told (cond (is_refusal o) h (followed_in q n (asked x) (bytes_of x) h)) (page_at (left s o).tables q)
      ≡ access_told h was
  access_left (refuse m) was_refused e = refl
  access_left (accept _) (was_accepted c plan is u) e =
      rw (is, record_left s c (bytes_of x) plan u q) (by (is_of q c) refl (rw is at e))
    where
      by : (b : Bool) → is_of q c ≡ b → (b && to_rule was c) ≡ false
          → access_told (cond b (followed c.kind n c (bytes_of x) h) h)
          (cond b (changed was (plan_for (view_at s q c) c (length (bytes_of x)) c.kind).edit) was)
          ≡ access_told h was
      by true of e =
          let k = needs_own c plan u of in
          access_kind (frames s.tables) n (length (bytes_of x)) (view_at s q c) c (bytes_of x) h c.kind refl k.1 e
      by false of e = refl

-- ---- its reply

-- the same message on other stores, of the same lengths
module _ (room : ℕ) (s : State) (fast slow : List ℕ) (fl : length s.fast ≡ length fast)
    (sl : length s.slow ≡ length slow) (x : Sent) where
  abbrev s' : State
  s' = state_of s.tables fast slow

  -- what its plan shows of page g
  abbrev ShowsSame : Call → Plan → Type 0
  ShowsSame c plan =
      let g = page_at s.tables (page_for c) in
      work_data g plan.work plan.len (joined s) ≡ work_data g plan.work plan.len (fast ++ slow)

  reply_same : ((c : Call) (plan : Plan) → asked x ≡ accept c → Known s c (bytes_of x) plan
      → answer room s x ≡ accept (carried_out s c (bytes_of x) plan) → ShowsSame c plan)
      → reply_in room (answer room s x) ≡ reply_in room (answer room s' x)
  unfolding answer step reply
  reply_same same = behind (ltb room 70) (asked x) refl refl
    where
      by : (c : Call) → asked x ≡ accept c → (o : Outcome Plan) → answer room s x ≡ mapped (carried_out s c (bytes_of x)) o
          → IfAccepted (Known s c (bytes_of x)) o
          → reply (mapped (carried_out s c (bytes_of x)) o) ≡ reply (mapped (carried_out s' c (bytes_of x)) o)
      by c is (refuse m) out k = refl
      by c is (accept plan) out (if_accepted u) =
          ap (λ (l : List ℕ). be16 (4 + length l) ++ (1 ∷ accepted ∷ be16 plan.laid ++ l)) (same c plan is u out)

      behind : (b : Bool) (a : Outcome Call) → asked x ≡ a → answer room s x ≡ test b short_buffer (respond s a (bytes_of x))
          → cond b [] (reply (test b short_buffer (respond s a (bytes_of x))))
          ≡ cond b [] (reply (test b short_buffer (respond s' a (bytes_of x))))
      behind true a is out = refl
      behind false (refuse m) is out = refl
      behind false (accept c) is out = rw (← fl, ← sl) (by c is _ out (known s c (bytes_of x)))

  -- one that is entitled to read no page
  blind : ((q : ℕ) → q < 64 → is_entitled to_read (turn_of room s x) q ≡ false)
      → reply_in room (answer room s x) ≡ reply_in room (answer room s' x)
  unfolding names among code
  blind none = reply_same (λ c plan is u out. go c plan is u out (is_read c.kind) refl)
    where
      go : (c : Call) (plan : Plan) → asked x ≡ accept c → Known s c (bytes_of x) plan
          → answer room s x ≡ accept (carried_out s c (bytes_of x) plan)
          → (b : Bool) → is_read c.kind ≡ b → ShowsSame c plan
      go c plan is u out false e = u.plan_ok.hides e (joined s) (fast ++ slow)
      go c plan is u out true e =
          let g = page_at s.tables (page_for c) in
          let kind = kind_is c.kind Read e in
          let need : Access g c.station Act.Read = subst (Needs g c) kind u.does.needs in
          let named : has page c.kind ≡ true = ap (has page) kind in
          let right : leb 1 (right_of g c.station) ≡ true = sym (allows_least (right_of g c.station) Act.Read)
          ∙ need.1.0 in
          let r : ◌≡◌ {A = Bool} true false =
          rw (out, is, named, eq-eqb c.page (page_for c) (page_named s c (bytes_of x) plan u named), e, need.0, right)
          at (none (page_for c) (page_near c)) in
          absurd (true≢false r)

  -- one that reads page q, which holds the same there
  own : (q : ℕ) → is_entitled to_read (turn_of room s x) q ≡ true
      → SameContents (joined s) (fast ++ slow) (page_at s.tables q)
      → reply_in room (answer room s x) ≡ reply_in room (answer room s' x)
  unfolding shown_of
  own q e held = reply_same go
    where
      go : (c : Call) (plan : Plan) → asked x ≡ accept c → Known s c (bytes_of x) plan
          → answer room s x ≡ accept (carried_out s c (bytes_of x) plan)
          → ShowsSame c plan
      go c plan is u out =
          let v = view_of s.tables c in
          let g = page_at s.tables (page_for c) in
          let asks : (is_of q c && to_read (page_at s.tables q) c) ≡ true = rw (out, is) at e in
          let of = and_left (is_of q c) _ asks in
          let at : page_for c ≡ q =
          sym (page_named s c (bytes_of x) plan u (and_left (has page c.kind) _ of))
          ∙ eqb-true c.page q (and_right (has page c.kind) _ of) in
          let kind = kind_is c.kind Read (and_left (is_read c.kind) _ (and_right (is_of q c) _ asks)) in
          let need : Access g c.station Act.Read = subst (Needs g c) kind u.does.needs in
          let plans : plan ≡ plan_for v c (length (bytes_of x)) Read = u.does.plan_is
          ∙ ap (plan_for v c (length (bytes_of x))) kind in
          let d = page_stands_lem u.good (page_for c) (page_near c) need.0 in
          let cur = eqb-false (currents g) 0 need.1.1 in
          let f = first_at is_current (copies_in_use g) (omega arith) in
          let less : f.at < g.n = omega (arith, f.within, length_in_use d) in
          let there = get_or-take g.n g.copies f.at zero_copy less in
          let is_cur : (copy_at g f.at).current ≡ true = ap (λ (k : Copy). k.current) (sym there) ∙ f.is in
          let frame : first_current (copies_in_use g) ≡ (copy_at g f.at).frame =
          first_current_lem (copies_in_use g) ∙ ap (λ (k : Copy). k.frame) (f.first ∙ there) in
          let framed = current_placed (copy_at_lem d f.at less) is_cur in
          let same : SameContents (joined s) (fast ++ slow) g = subst
          (λ (i : ℕ). SameContents (joined s) (fast ++ slow) (page_at s.tables i)) (sym at) held in
          let blocks : block (joined s) (copy_at g f.at).frame ≡ block (fast ++ slow) (copy_at g f.at).frame =
          rw framed at (same f.at less is_cur) in
          ap (λ (w : Plan). work_data g w.work w.len (joined s)) plans
          ∙ ap (λ (l : List ℕ). part l c.offset c.count) (ap (block (joined s)) frame ∙ blocks
          ∙ ap (block (fast ++ slow)) (sym frame))
          ∙ ap (λ (w : Plan). work_data g w.work w.len (fast ++ slow)) (sym plans)

-- ---- the messages of a run

-- every page beside its history; message n comes next
pub record Histories (n : ℕ) (H : ℕ → PageHistory) (s : State) : Type 0 where
  pub good : Good s
  pub told : (q : ℕ) → q < 64 → Told n (H q) (joined s) (page_at s.tables q)

pub histories_left : (n : ℕ) (H : ℕ → PageHistory) (s : State) → Histories n H s → (room : ℕ) (x : Sent)
    → Histories (suc n) (λ (q : ℕ). next_history q n (turn_of room s x) (H q)) (left_by room s x)
histories_left n H s k room x =
    record {
      good = message_good room s x k.good;
      told = λ q near. message_told q near n (H q) s k.good (k.told q near) room x;
    }

agree_all : (n : ℕ) (H : ℕ → PageHistory) (s : State) → Histories n H s → (q : ℕ) → q < 64
    → CopiesAgree (joined s) (page_at s.tables q)
agree_all n H s k q near = go (absent (page_at s.tables q)) refl
  where
    go : (b : Bool) → absent (page_at s.tables q) ≡ b → CopiesAgree (joined s) (page_at s.tables q)
    go true none = absent_agree (joined s) (page_at s.tables q) none
    go false some = copies_agree (page_stands_lem k.good q near some) (k.told q near)

secure : (n : ℕ) (H : ℕ → PageHistory) (s : State) → Histories n H s → (room : ℕ) (x : Sent)
    → Secure (answer room) room (turn_of room s x)
unfolding history_after
secure n H s k room x =
    let h' : ℕ → PageHistory = λ q. next_history q n (turn_of room s x) (H q) in
    let k' = histories_left n H s k room x in
    let o = answer room s x in
    let s' = left_by room s x in
    record {
      data_kept = λ q near e.
          ap data_in (seen_told q near (suc n) (h' q) s' k'.good (k'.told q near))
          ∙ data_of (h' q) (page_at s'.tables q)
          ∙ data_left q near n (H q) s x o (came room s x) e
          ∙ sym (ap data_in (seen_told q near n (H q) s k.good (k.told q near))
          ∙ data_of (H q) (page_at s.tables q));
      access_kept = λ q near e.
          ap access_in (seen_told q near (suc n) (h' q) s' k'.good (k'.told q near))
          ∙ access_of (h' q) (page_at s'.tables q)
          ∙ access_left q near n (H q) s x o (came room s x) e
          ∙ sym (ap access_in (seen_told q near n (H q) s k.good (k.told q near))
          ∙ access_of (H q) (page_at s.tables q));
      reply_blind = λ none fast slow fl sl. blind room s fast slow fl sl x none;
      read_own = λ q near e fast slow fl sl held. own room s fast slow fl sl x q e held;
    }

claims : (room : ℕ) (xs : List Sent) (n : ℕ) (H : ℕ → PageHistory) (s : State) → Histories n H s
    → Claims room (run_over room xs s)
unfolding turns_of end_of
claims room [] n H s k = record { every_state = agree_all n H s k; every_turn = tt }
claims room (x ∷ xs) n H s k =
    let c = claims room xs (suc n) _ (left_by room s x) (histories_left n H s k room x) in
    record { every_state = (agree_all n H s k, c.every_state); every_turn = (secure n H s k room x, c.every_turn) }

pub start_histories : (p s : ℕ) (fast slow : List ℕ) → p ≤ 127 → s ≤ 127 → length fast ≡ 64 * p → length slow ≡ 64 * s
    → Histories 1 (λ (q : ℕ). absent_history) (state_of (fresh_tables p s) fast slow)
start_histories p s fast slow hp hs lp ls =
    record { good = (start_inv p s fast slow hp hs lp ls).good; told = λ q near. told_start p s fast slow q near }

pub note_claims : NoteClaims
note_claims =
    record {
      of_runs = λ p s room fast slow xs hp hs lp ls. claims room xs 1 _ _ (start_histories p s fast slow hp hs lp ls);
      over_turns = hidden;
    }
