-- The calls that the flat memory passes over leave every page alike: copies are made, deleted and marked, and nothing
-- that it holds changes.
use Prim.Native.Nat.{ℕ, ◌+◌, ◌*◌, ◌≤◌, ◌<◌}
use mathlib.Core.Path.{◌≡◌, refl, sym, ◌∙◌, subst}
use mathlib.Core.Logic.{◌≢◌}
use mathlib.Core.Bool.{Bool, true, false, not, ◌&&◌, cond, true≢false}
use mathlib.Core.List.{List, [], ◌∷◌, ◌++◌}
use native.Mathlib.Omega.{arith}
use lib.ListN.{length, take, set}
use lib.Seq.{get_or-take}
use lib.Dec.{leb, eqb}
use borrow.Author.Tests.{leb-false, eqb-true, eqb-false, eq-eqb, ne_eqb, not-false}
use Rattle.tables.specs.declared.Copy.{Copy}
use Rattle.tables.specs.declared.Page.{Page}
use Rattle.tables.specs.declared.Edit.{Edit}
use Rattle.tables.specs.declared.Edit.TheVariants.{Kept, Placed, Added, Removed, Marked}
use Rattle.tables.specs.Lists.{count}
use Rattle.tables.specs.Numbers.{accepted, out_of_range, no_page, nothing_current, no_copy, frame_held, eight_copies, last_recent, stale, no_frame, retired}
use Rattle.tables.specs.Model.{frames, is_null, copies_in_use, absent, page_at, zero_copy, on_frame}
use Rattle.tables.specs.Rules.{holders, copy_rule}
use Rattle.tables.specs.Search.{is_free, is_retired}
use Rattle.tables.specs.Register.{registered}
use Rattle.tables.specs.Changes.{with_copies, new_copy, with_current, changed}
use Rattle.tables.proofs.RuleLaws.{StandingPage, not_absent, length_in_use, copy_at_lem, Sound, sound_of, few_frames}
use Rattle.tables.proofs.UsesLaws.{holders_at, holders_two, other_frame}
use Rattle.tables.proofs.HolderLaws.{free_nobody}
use Rattle.tables.proofs.RegisterLaws.{registered_free}
use Rattle.tables.proofs.ChangeLaws.{without, all_without, in_use_marked, in_use_placed, added, in_use_added, in_use_removed}
use Rattle.tables.proofs.EachLaws.{each_at, each_set, each_last, each_without}
use Rattle.tables.proofs.Allowed.{RemoveOk}
use Rattle.tables.proofs.PageChanges.{removed_ok, removed_on}
use Rattle.steps.specs.declared.Kind.TheVariants.{MakeCopy, DeleteCopy, SetCurrent, RemoveCurrent, LookPage, LookFrame, Retire}
use Rattle.steps.specs.declared.Call.{Call}
use Rattle.steps.specs.declared.Lay.TheVariants.{Zeros, Duplicate}
use Rattle.steps.specs.Kinds.{names, code, among}
use Rattle.steps.specs.Calls.{outside}
use Rattle.steps.specs.Stores.{block, lay_frame, contents, zeros, lay_frames}
use Rattle.steps.specs.declared.Plan.{Plan}
use Rattle.steps.specs.Steps.{Outcome, test, guarded, editing, retiring, laying, copy_at, recents, lacks_copy, copying, perform, decide_on, page_for, view_of}
use Rattle.steps.specs.Effects.{laid_frames, State, joined, carried_out}
use Rattle.steps.proofs.Blocks.{block_lay_whole, block_lay_other}
use Rattle.steps.proofs.ClearLaws.{on}
use Rattle.steps.proofs.RangeLaws.{Ranged, outside_listed, ranged}
use Rattle.steps.proofs.DecisionLaws.{page_near}
use Rattle.steps.proofs.DecideLaws.{removed_placed}
use Rattle.steps.proofs.StepLaws.{joined_long, page_stands_lem, length_held}
use Rattle.theorems.specs.Flat.{Flat, Slot, gone, here, slot_at, silent, react_as}
use Rattle.theorems.specs.Demand3.{Holds}
use Rattle.theorems.proofs.Holding.{HoldsOne, held_framed, holds_kept}
use Rattle.theorems.proofs.Agreement.{AlikeSlot, Same, Inv, Agree, passed_over, turned_back, alone, alone_number, applied, page_moved, of_kind, CallAgrees, stores_kept, page_kept, page_retired}

-- a page that stands, with other copies
recopied_alike : (st st' : List ℕ) (g : Page) (n : ℕ) (cs : List Copy) (x : Slot) → absent g ≡ false → eqb n 0 ≡ false
    → ((bs : List ℕ) → Holds st (copies_in_use g) bs → Holds st' (take n cs) bs) → AlikeSlot st g x → AlikeSlot st' (with_copies g n cs) x
recopied_alike st st' g n cs gone some some' h e = absurd (true≢false (sym e ∙ some))
recopied_alike st st' g n cs (here b) some some' h e =
    (some', record { owners = e.1.owners; rights = e.1.rights; holds = h b.bytes e.1.holds })

-- ---- one page g that stands

module _ {limit : ℕ} {g : Page} (d : StandingPage limit g) (st : List ℕ) (k : ℕ) where
  -- copy k
  holds_copy : k < g.n → (bs : List ℕ) → Holds st (copies_in_use g) bs → HoldsOne st (copy_at g k) bs
  holds_copy less bs e =
      subst (λ (c : Copy). HoldsOne st c bs) (get_or-take g.n g.copies k zero_copy less)
      (each_at (λ (c : Copy). HoldsOne st c bs) (copies_in_use g) k zero_copy (rw (length_in_use d) less) e)

  -- without it, and in stores that have the other copies' frames as they were
  removed_alike : RemoveOk g k → (st' : List ℕ)
      → ((y : ℕ) → y < limit → 1 ≤ count (on_frame y) (copies_in_use (changed g (Removed k))) → block st' y ≡ block st y)
      → (x : Slot) → AlikeSlot st g x → AlikeSlot st' (changed g (Removed k)) x
  unfolding changed
  removed_alike a st' kept x =
      let used = in_use_removed g d.copies_long k a.in_use d.most in
      recopied_alike st st' g _ _ x (not_absent d) (not_absent (removed_ok d k a)) (λ bs e.
      rw used (holds_kept limit g.n st st' bs (without (copies_in_use g) k) (all_without (copy_rule limit g.n) (copies_in_use g) k d.copies_ok) (rw used at kept)
      (each_without (λ (c : Copy). HoldsOne st c bs) (copies_in_use g) k e)))

  marked_alike : k < g.n → (b : Bool) (x : Slot) → AlikeSlot st g x → AlikeSlot st (changed g (Marked k b)) x
  unfolding changed
  marked_alike less b x =
      recopied_alike st st g _ _ x (not_absent d) (not_absent d) (λ bs e.
      rw (in_use_marked g k b less)
      (each_set (λ (c : Copy). HoldsOne st c bs) (copies_in_use g) k (with_current (copy_at g k) b) (holds_copy less bs e) e))

-- a copy of copy k made on frame f, which no copy of the page has
module _ {limit : ℕ} (small : limit < 255) {g : Page} (d : StandingPage limit g) (st : List ℕ) (long : length st ≡ 64 * limit)
    (k : ℕ) (less : k < g.n) (f : ℕ) (near : f < limit) (spare : count (on_frame f) (copies_in_use g) ≡ 0) where
  abbrev bytes : List ℕ
  bytes = contents st (copy_at g k)

  wide : length bytes ≡ 64
  wide = length_held d st long k less

  new_holds : (r : Bool) (bs : List ℕ) → (r ≡ true → bytes ≡ bs) → HoldsOne (lay_frame st f 0 bytes) (new_copy f r) bs
  new_holds r bs h e =
      held_framed (lay_frame st f 0 bytes) (new_copy f r) (ne_eqb f 255 (omega arith)) ∙ block_lay_whole st f (omega arith) bytes wide ∙ h e

  old_hold : (bs : List ℕ) → Holds st (copies_in_use g) bs → Holds (lay_frame st f 0 bytes) (copies_in_use g) bs
  old_hold bs =
      holds_kept limit g.n st (lay_frame st f 0 bytes) bs (copies_in_use g) d.copies_ok (λ y l used.
      block_lay_other st f (omega arith) 0 bytes (omega (arith, wide)) y (other_frame f y (copies_in_use g) spare used))

  placed_alike : is_null (copy_at g k) ≡ true → (x : Slot) → AlikeSlot st g x → AlikeSlot (lay_frame st f 0 bytes) (changed g (Placed f)) x
  unfolding changed
  placed_alike z x =
      recopied_alike st (lay_frame st f 0 bytes) g _ _ x (not_absent d) (not_absent d) (λ bs e.
      rw (in_use_placed g f d.some)
      (each_set (λ (c : Copy). HoldsOne (lay_frame st f 0 bytes) c bs) (copies_in_use g) 0 (new_copy f true)
      (new_holds true bs (λ _. holds_copy d st k less bs e ((copy_at_lem d k less).null_recent z))) (old_hold bs e)))

  added_alike : g.n < 8 → (x : Slot) → AlikeSlot st g x → AlikeSlot (lay_frame st f 0 bytes) (changed g (Added f (copy_at g k).recent)) x
  added_alike room x =
      let c : Copy = new_copy f (copy_at g k).recent in
      let plus = added g f (copy_at g k).recent room in
      let used : take (g.n + 1) (set g.copies g.n c) ≡ copies_in_use g ++ (c ∷ []) = rw plus at (in_use_added g d.copies_long f (copy_at g k).recent room) in
      rw plus (recopied_alike st (lay_frame st f 0 bytes) g _ _ x (not_absent d) (ne_eqb (g.n + 1) 0 (omega arith)) (λ bs e.
      rw used
      (each_last (λ (c : Copy). HoldsOne (lay_frame st f 0 bytes) c bs) (copies_in_use g) c
      (new_holds (copy_at g k).recent bs (holds_copy d st k less bs e)) (old_hold bs e))))

-- ---- the calls

-- 7
alone_range : {P : Plan → Flat → Type 0} {shows : Plan → List ℕ} {f : Flat} (limit size : ℕ) (c : Call) (o : Outcome Plan)
    → (Ranged limit size c → Agree P shows f false false o silent) → Agree P shows f false false (guarded (outside limit size c) o) silent
alone_range {P} {shows} {f} limit size c o h = go (eqb (outside limit size c) accepted) refl
  where
    go : (b : Bool) → eqb (outside limit size c) accepted ≡ b → Agree P shows f false false (guarded (outside limit size c) o) silent
    go true e = rw e (h (ranged limit size c (eqb-true (outside limit size c) accepted e)))
    go false e =
        rw e (turned_back (outside_listed limit size c (λ (n : ℕ). eqb n nothing_current ≡ false) refl refl))

-- 9 and 12
alone_copy : {P : Plan → Flat → Type 0} {shows : Plan → List ℕ} {f : Flat} {o : Outcome Plan} (g : Page) (k : ℕ)
    → (absent g ≡ false → k < g.n → Agree P shows f false false o silent) → Agree P shows f false false (guarded (lacks_copy g k) o) silent
alone_copy g k h =
    alone_number _ (absent g) no_page _ refl refl (λ some. alone_number _ (leb g.n k) no_copy _ refl refl (λ less. h some (leb-false g.n k less)))

module _ (s : State) (f : Flat) (i : Inv s f) (c : Call) (bs : List ℕ) where
  -- the page that it acts on, where it acts on one
  abbrev p : ℕ
  p = page_for c

  near : p < 64
  near = page_near c

  abbrev page : Page
  page = page_at s.tables p

  -- the stores as they were
  moved : absent page ≡ false → (e : Edit)
      → (StandingPage (frames s.tables) page → (x : Slot) → AlikeSlot (joined s) page x → AlikeSlot (joined s) (changed page e) x)
      → Same (applied s p e (joined s)) f
  moved some e h =
      page_moved s f i p near e (joined s)
      (h (page_stands_lem i.good p near some) (slot_at f p) (i.same.alike p near)) (stores_kept s p)

  pub look_page_agrees : CallAgrees s f (of_kind LookPage c) bs
  unfolding decide_on perform react_as names code among laid_frames lay_frames
  look_page_agrees =
      alone_range (frames s.tables) (length bs) (of_kind LookPage c) (perform (view_of s.tables (of_kind LookPage c)) (of_kind LookPage c) (length bs) LookPage) (λ r.
      alone (absent page) no_page refl (λ _. passed_over (page_kept s f i p near)))

  pub look_frame_agrees : CallAgrees s f (of_kind LookFrame c) bs
  unfolding decide_on perform react_as names code among laid_frames lay_frames
  look_frame_agrees =
      alone_number _ (leb (frames s.tables) c.frame) out_of_range _ refl refl (λ _. passed_over (page_kept s f i p near))

  pub retire_agrees : CallAgrees s f (of_kind Retire c) bs
  unfolding decide_on perform react_as names code among laid_frames lay_frames
  retire_agrees =
      alone_number _ (leb (frames s.tables) c.frame) out_of_range _ refl refl (λ _. by (is_retired (registered s.tables c.frame)))
    where
      by : (b : Bool)
          → Agree (λ (plan : Plan). Same (carried_out s (of_kind Retire c) bs plan).state) (λ (plan : Plan). (carried_out s (of_kind Retire c) bs plan).data_out) f
          false false (cond b (editing Kept) (test (not (is_free (registered s.tables c.frame))) frame_held (retiring c.frame))) silent
      by true = passed_over (page_kept s f i p near)
      by false =
          alone (not (is_free (registered s.tables c.frame))) frame_held refl (λ _. passed_over (page_retired s f i p near c.frame))

  pub set_current_agrees : CallAgrees s f (of_kind SetCurrent c) bs
  unfolding decide_on perform react_as names code among laid_frames lay_frames
  set_current_agrees =
      alone_range (frames s.tables) (length bs) (of_kind SetCurrent c) (perform (view_of s.tables (of_kind SetCurrent c)) (of_kind SetCurrent c) (length bs) SetCurrent) (λ r.
      alone_copy page c.copy (λ some less.
      alone (is_null (copy_at page c.copy)) no_frame refl (λ _. alone (not (copy_at page c.copy).recent) stale refl (λ _.
      passed_over (moved some (Marked c.copy true) (λ d. marked_alike d (joined s) c.copy less true))))))

  pub remove_current_agrees : CallAgrees s f (of_kind RemoveCurrent c) bs
  unfolding decide_on perform react_as names code among laid_frames lay_frames
  remove_current_agrees =
      alone_range (frames s.tables) (length bs) (of_kind RemoveCurrent c) (perform (view_of s.tables (of_kind RemoveCurrent c)) (of_kind RemoveCurrent c) (length bs) RemoveCurrent) (λ r.
      alone_copy page c.copy (λ some less.
      passed_over (moved some (Marked c.copy false) (λ d. marked_alike d (joined s) c.copy less false))))

  -- copy k of the page deleted, and its frame cleared, which no other copy has
  deleted : absent page ≡ false → RemoveOk page c.copy
      → Same (applied s p (Removed c.copy) (lay_frame (joined s) (copy_at page c.copy).frame 0 zeros)) f
  deleted some a =
      page_moved s f i p near (Removed c.copy) _
      (removed_alike d (joined s) c.copy a _ (λ y l used. others y (λ e.
      omega (arith, left y e, once y l, holders_at s.tables y p))) (slot_at f p) (i.same.alike p near))
      (λ q d' y l used. others y (λ e. omega (arith, left y e, once y l, holders_two s.tables y p q (λ e. d' (sym e)))))
    where
      d : StandingPage (frames s.tables) page
      d = page_stands_lem i.good p near some

      once : (y : ℕ) → y < frames s.tables → holders s.tables y ≤ 1
      once = (sound_of s.tables i.good.tables_sound).once

      x : ℕ
      x = (copy_at page c.copy).frame

      -- its frame has one copy fewer
      left : (y : ℕ) → x ≡ y → on y (changed page (Removed c.copy)) + 1 ≡ on y page
      left y e = rw (eq-eqb x y e) at (removed_on d c.copy y a.in_use)

      low : x < frames s.tables
      low = (copy_at_lem d c.copy a.in_use).placed (removed_placed d c.copy a)

      others : (y : ℕ) → x ≢ y → block (lay_frame (joined s) x 0 zeros) y ≡ block (joined s) y
      others = block_lay_other (joined s) x (omega (arith, low, joined_long i.good)) 0 zeros (omega arith)

  pub delete_copy_agrees : CallAgrees s f (of_kind DeleteCopy c) bs
  unfolding decide_on perform react_as names code among laid_frames lay_frames
  delete_copy_agrees =
      alone_range (frames s.tables) (length bs) (of_kind DeleteCopy c) (perform (view_of s.tables (of_kind DeleteCopy c)) (of_kind DeleteCopy c) (length bs) DeleteCopy) (λ r.
      alone_copy page c.copy (λ some less.
      alone ((copy_at page c.copy).recent && eqb (recents page) 1) last_recent refl (λ last.
      let ok : RemoveOk page c.copy = record { in_use = less; not_last = last } in
      passed_over (rw (removed_placed (page_stands_lem i.good p near some) c.copy ok) (deleted some ok)))))

  -- on a free frame, which no page has
  module _ (some : absent page ≡ false) (less : c.copy < page.n) (in_range : c.frame < frames s.tables)
      (unused : holders s.tables c.frame ≡ 0) (room : page.n ≢ 8) where
    rules : Sound s.tables
    rules = sound_of s.tables i.good.tables_sound

    d : StandingPage (frames s.tables) page
    d = page_stands_lem i.good p near some

    long : length (joined s) ≡ 64 * frames s.tables
    long = joined_long i.good

    -- the edit e with the copy's bytes laid on the frame
    placed : (e : Edit) → AlikeSlot (lay_frame (joined s) c.frame 0 (contents (joined s) (copy_at page c.copy))) (changed page e) (slot_at f p)
        → Same (applied s p e (lay_frame (joined s) c.frame 0 (contents (joined s) (copy_at page c.copy)))) f
    placed e own =
        page_moved s f i p near e _ own
        (λ q ne y l used. block_lay_other (joined s) c.frame (omega (arith, long)) 0 _
        (omega (arith, length_held d (joined s) long c.copy less)) y
        (other_frame c.frame y (copies_in_use (page_at s.tables q)) (omega (arith, unused, holders_at s.tables c.frame q)) used))

    alike : AlikeSlot (joined s) page (slot_at f p)
    alike = i.same.alike p near

    small : frames s.tables < 255
    small = omega (arith, few_frames rules)

    spare : count (on_frame c.frame) (copies_in_use page) ≡ 0
    spare = omega (arith, unused, holders_at s.tables c.frame p)

    copying_agrees : Agree (λ (plan : Plan). Same (carried_out s (of_kind MakeCopy c) bs plan).state)
        (λ (plan : Plan). (carried_out s (of_kind MakeCopy c) bs plan).data_out) f false false (copying (copy_at page c.copy) c.frame) silent
    unfolding laid_frames lay_frames
    copying_agrees = go (is_null (copy_at page c.copy)) refl
      where
        laid : (e : Edit) (b : List ℕ) → contents (joined s) (copy_at page c.copy) ≡ b
            → AlikeSlot (lay_frame (joined s) c.frame 0 (contents (joined s) (copy_at page c.copy))) (changed page e) (slot_at f p)
            → Same (applied s p e (lay_frame (joined s) c.frame 0 b)) f
        laid e b h own = subst (λ (l : List ℕ). Same (applied s p e (lay_frame (joined s) c.frame 0 l)) f) h (placed e own)

        go : (z : Bool) → is_null (copy_at page c.copy) ≡ z
            → Agree (λ (plan : Plan). Same (carried_out s (of_kind MakeCopy c) bs plan).state)
            (λ (plan : Plan). (carried_out s (of_kind MakeCopy c) bs plan).data_out) f false false
            (cond z (laying (Placed c.frame) 64 (Zeros c.frame))
            (laying (Added c.frame (copy_at page c.copy).recent) 64 (Duplicate (copy_at page c.copy).frame c.frame))) silent
        go true z =
            passed_over (laid (Placed c.frame) zeros (rw z)
            (placed_alike small d (joined s) long c.copy less c.frame in_range spare z (slot_at f p) alike))
        go false z =
            passed_over (laid (Added c.frame (copy_at page c.copy).recent) _ (held_framed (joined s) (copy_at page c.copy) z)
            (added_alike small d (joined s) long c.copy less c.frame in_range spare (omega (arith, d.most)) (slot_at f p) alike))

  pub make_copy_agrees : CallAgrees s f (of_kind MakeCopy c) bs
  unfolding decide_on perform react_as names code among
  make_copy_agrees =
      alone_range (frames s.tables) (length bs) (of_kind MakeCopy c) (perform (view_of s.tables (of_kind MakeCopy c)) (of_kind MakeCopy c) (length bs) MakeCopy) (λ r.
      alone_copy page c.copy (λ some less.
      alone (is_retired (registered s.tables c.frame)) retired refl (λ _.
      alone (not (is_free (registered s.tables c.frame))) frame_held refl (λ is. alone (eqb page.n 8) eight_copies refl (λ room.
      let low = leb-false (frames s.tables) c.frame r.frame_in in
      copying_agrees some less low
      (free_nobody s.tables c.frame
      (registered_free s.tables c.frame i.good.tables_sound low ∙ not-false (is_free (registered s.tables c.frame)) is))
      (eqb-false page.n 8 room))))))
