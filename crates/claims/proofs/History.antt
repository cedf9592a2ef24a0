-- The copies of one page stay as its history tells them, through each change of its record and of the stores. In order:
-- what is kept; the copies of the record and those of the history; one change of each form.
use Prim.Native.Nat.{ℕ, suc, ◌+◌, ◌≤◌, ◌<◌, zero-le}
use mathlib.Core.Path.{◌≡◌, refl, sym, ap, ap₂, ◌∙◌, subst}
use mathlib.Core.Logic.{◌≢◌}
use mathlib.Core.Bool.{Bool, true, false, not, ◌&&◌, cond, and-false}
use mathlib.Core.List.{List, [], ◌∷◌, ◌++◌, map, map-append}
use native.Mathlib.Numerals.{add-one}
use native.Mathlib.Omega.{arith}
use lib.ListN.{get_or-map, length, take, drop, get_or, set, length-map}
use lib.Seq.{get_or-take}
use lib.Dec.{eqb}
use borrow.Author.Tests.{eqb-true, eq-eqb, ne_eqb}
use Rattle.tables.specs.declared.Copy.{Copy}
use Rattle.tables.specs.declared.Page.{Page}
use Rattle.tables.specs.declared.Edit.TheVariants.{Created, Staled, Placed, Added, Removed, Marked}
use Rattle.tables.specs.Lists.{count, Each}
use Rattle.tables.specs.Model.{null_frame, is_null, copies_in_use, absent, zero_copy, on_frame}
use Rattle.tables.specs.Rules.{is_current}
use Rattle.tables.specs.Changes.{created, stale_copy, new_copy, with_current, changed}
use Rattle.tables.proofs.ListLaws.{and_intro, any_default, count_at}
use Rattle.tables.proofs.RuleLaws.{GoodCopy, current_placed, current_frame, StandingPage, not_absent, length_in_use, copy_at_lem}
use Rattle.tables.proofs.UsesLaws.{other_frame}
use Rattle.tables.proofs.ChangeLaws.{without, in_use_staled, in_use_placed, in_use_marked, added, in_use_added, in_use_removed}
use Rattle.tables.proofs.EachLaws.{each_at, each_of, each_map, each_set, each_last, each_without, without_is, map_set, map_without, count_parts}
use Rattle.steps.specs.Stores.{splice, block, zeros}
use Rattle.steps.specs.Steps.{copy_at}
use Rattle.steps.proofs.Blocks.{one_on}
use Rattle.claims.specs.History.{PageWrite, CopyHistory, null_history, PageHistory, absent_history, copy_of, begun, taking, wrote, copied_to, dropped, switched}
use Rattle.claims.specs.Latest.{carries_last, as_copy}

-- ---- what is kept

-- a copy carries the last write, or an earlier one
abbrev pub AgedOne : PageHistory → CopyHistory → Type 0
AgedOne h c = (carries_last h c ≡ true → c.carries ≡ h.last) × (c.carries.message ≤ h.last.message)

-- a copy holds the bytes of the write that it carries; what it holds is `contents`, which goes by the frame alone
abbrev pub HoldingOne : List ℕ → CopyHistory → Type 0
HoldingOne st c = cond (eqb c.frame null_frame) zeros (block st c.frame) ≡ c.carries.bytes

-- the record g of a page and the joined stores st beside its history; message n comes next
pub record Told (n : ℕ) (h : PageHistory) (st : List ℕ) (g : Page) : Type 0 where
  pub standing : absent g ≡ not h.stands
  pub copies : copies_in_use g ≡ map (as_copy h) h.copies
  pub bytes : Each (HoldingOne st) h.copies
  pub aged : Each (AgedOne h) h.copies
  pub before : h.last.message < n

-- a page that does not stand, and one that is created
pub told_absent : (n : ℕ) (st : List ℕ) (g : Page) → g.n ≡ 0 → Told (suc n) absent_history st g
told_absent n st g none =
    record {
      standing = eq-eqb g.n 0 none;
      copies = ap (λ (k : ℕ). take k g.copies) none;
      bytes = tt;
      aged = tt;
      before = omega arith;
    }

pub told_begun : (n station : ℕ) (st : List ℕ) (g : Page) → Told (suc n) begun st (changed g (Created station))
unfolding changed created
told_begun n station st g =
    record {
      standing = refl;
      copies = refl;
      bytes = (refl, tt);
      aged = ((λ _. refl, zero-le), tt);
      before = omega arith;
    }

-- the same copies in another record, and in stores that hold the same
pub told_same : {n : ℕ} {h : PageHistory} {st st' : List ℕ} {g g' : Page} → Told n h st g
    → absent g' ≡ absent g → copies_in_use g' ≡ copies_in_use g → Each (HoldingOne st') h.copies → Told (suc n) h st' g'
told_same told still same bytes =
    let b = told.before in
    record {
      standing = still ∙ told.standing;
      copies = same ∙ told.copies;
      bytes = bytes;
      aged = told.aged;
      before = omega arith;
    }

-- a page that is absent has no copy there
pub absent_long : {n : ℕ} {h : PageHistory} {st : List ℕ} {g : Page} → absent g ≡ true → Told n h st g
    → length h.copies ≡ 0
absent_long {h = h} {g = g} none told =
    sym (length-map h.copies (as_copy h)) ∙ ap length (sym told.copies)
    ∙ ap (λ (k : ℕ). length (take k g.copies)) (eqb-true g.n 0 none)

-- ---- the copies of the record and those of the history

module _ {limit : ℕ} {g : Page} (d : StandingPage limit g) {n : ℕ} {h : PageHistory} {st : List ℕ}
    (told : Told n h st g) where
  pub copies_long : length h.copies ≡ g.n
  copies_long = sym (length-map h.copies (as_copy h)) ∙ ap length (sym told.copies) ∙ length_in_use d

  module _ (k : ℕ) (less : k < g.n) where
    less_past : k < length h.copies
    less_past = omega (arith, copies_long)

    less_used : k < length (copies_in_use g)
    less_used = omega (arith, length_in_use d)

    pub used_told : get_or (copies_in_use g) k zero_copy ≡ as_copy h (copy_of h k)
    used_told =
        any_default (copies_in_use g) k zero_copy (as_copy h null_history) less_used
        ∙ ap (λ (l : List Copy). get_or l k (as_copy h null_history)) told.copies
        ∙ get_or-map (as_copy h) h.copies k null_history

    pub copy_told : copy_at g k ≡ as_copy h (copy_of h k)
    copy_told = sym (get_or-take g.n g.copies k zero_copy less) ∙ used_told

    pub good_told : GoodCopy limit g.n (as_copy h (copy_of h k))
    good_told = subst (GoodCopy limit g.n) copy_told (copy_at_lem d k less)

    pub held_told : HoldingOne st (copy_of h k)
    held_told = each_at (HoldingOne st) h.copies k null_history less_past told.bytes

    pub aged_told : AgedOne h (copy_of h k)
    aged_told = each_at (AgedOne h) h.copies k null_history less_past told.aged

    -- a copy counts on its own frame
    own_frame : 1 ≤ count (on_frame (copy_of h k).frame) (copies_in_use g)
    own_frame =
        count_at (on_frame (copy_of h k).frame) (copies_in_use g) k zero_copy less_used
        (ap (λ (c : Copy). eqb c.frame (copy_of h k).frame) used_told
        ∙ eq-eqb (copy_of h k).frame (copy_of h k).frame refl)

  -- in stores that have the copies' frames as they were
  pub holding_kept : (st' : List ℕ)
      → ((y : ℕ) → y < limit → 1 ≤ count (on_frame y) (copies_in_use g) → block st' y ≡ block st y)
      → Each (HoldingOne st') h.copies
  holding_kept st' same =
      each_of (HoldingOne st') h.copies null_history (λ k l.
      let less : k < g.n = omega (arith, copies_long) in
      one k less (eqb (copy_of h k).frame 255) refl ∙ held_told k less)
    where
      one : (k : ℕ) → k < g.n → (z : Bool) → eqb (copy_of h k).frame 255 ≡ z
          → cond z zeros (block st' (copy_of h k).frame) ≡ cond z zeros (block st (copy_of h k).frame)
      one k less true z = refl
      one k less false z = same (copy_of h k).frame ((good_told k less).placed z) (own_frame k less)

  pub told_stored : (st' : List ℕ)
      → ((y : ℕ) → y < limit → 1 ≤ count (on_frame y) (copies_in_use g) → block st' y ≡ block st y) → Told n h st' g
  told_stored st' same =
      record {
        standing = told.standing;
        copies = told.copies;
        bytes = holding_kept st' same;
        aged = told.aged;
        before = told.before;
      }

  -- ---- a write

  module _ (o : ℕ) (bs st' : List ℕ) (once : (y : ℕ) → y < limit → count (on_frame y) (copies_in_use g) ≤ 1)
      (laid : (y : ℕ) → y < limit → 1 ≤ count (one_on is_current y) (copies_in_use g) → block st' y ≡ splice (block st y) o bs)
      (spared : (y : ℕ) → y < limit → count (one_on is_current y) (copies_in_use g) ≡ 0 → block st' y ≡ block st y) where
    abbrev new : PageHistory
    new = wrote n o bs h

    abbrev v : PageWrite
    v = new.last

    -- its mark
    mark_told : (c : CopyHistory) → (c.current ≡ true → carries_last h c ≡ true)
        → c.carries.message ≤ h.last.message
        → (carries_last h c && c.current) ≡ eqb (cond c.current v c.carries).message n
    mark_told c marks old = go c.current refl
      where
        go : (u : Bool) → c.current ≡ u → (carries_last h c && u) ≡ eqb (cond u v c.carries).message n
        go true e = rw (marks e) (sym (eq-eqb n n refl))
        go false e =
            and-false (carries_last h c) ∙ sym (ne_eqb c.carries.message n (omega (arith, old, told.before)))

    each_told : (cs : List CopyHistory)
        → Each (λ (c : CopyHistory). (c.current ≡ true → carries_last h c ≡ true)
        × (c.carries.message ≤ h.last.message)) cs
        → map stale_copy (map (as_copy h) cs) ≡ map (as_copy new) (map (taking v) cs)
    each_told [] e = refl
    each_told (c ∷ cs) e =
        ap₂ (λ (x : Copy) (xs : List Copy). x ∷ xs)
        (ap (λ (r : Bool). record { frame = c.frame; current = c.current; recent = r })
        (mark_told c e.0.0 e.0.1))
        (each_told cs e.1)

    -- a copy that is not CURRENT is spared, as its frame is under no other
    spared_one : (k : ℕ) → k < g.n → (copy_of h k).current ≡ false → (copy_of h k).frame < limit
        → count (one_on is_current (copy_of h k).frame) (copies_in_use g) ≡ 0
    spared_one k less e low =
        let x = (copy_of h k).frame in
        let hit = count_at (λ (c : Copy). not (is_current c) && on_frame x c) (copies_in_use g) k zero_copy (less_used k less)
        (ap (λ (c : Copy). not c.current && eqb c.frame x) (used_told k less)
        ∙ and_intro (ap not e) (eq-eqb x x refl)) in
        omega (arith, hit, count_parts (on_frame x) is_current (copies_in_use g), once x low)

    holding_written : (k : ℕ) → k < g.n → HoldingOne st' (taking v (copy_of h k))
    holding_written k less = go c.current refl
      where
        c : CopyHistory
        c = copy_of h k

        go : (u : Bool) → c.current ≡ u
            → cond (eqb c.frame 255) zeros (block st' c.frame) ≡ (cond u v c.carries).bytes
        go true e =
            let framed = current_placed (good_told k less) e in
            let marked = (good_told k less).marks e in
            let hit = count_at (one_on is_current c.frame) (copies_in_use g) k zero_copy (less_used k less)
            (ap (λ (x : Copy). x.current && eqb x.frame c.frame) (used_told k less)
            ∙ and_intro e (eq-eqb c.frame c.frame refl)) in
            rw framed
            (laid c.frame (current_frame (good_told k less) e) hit
            ∙ ap (λ (l : List ℕ). splice l o bs) (rw framed at (held_told k less)
            ∙ ap (λ (w : PageWrite). w.bytes) ((aged_told k less).0 marked)))
        go false e = by (eqb c.frame 255) refl ∙ held_told k less
          where
            by : (z : Bool) → eqb c.frame 255 ≡ z
                → cond z zeros (block st' c.frame) ≡ cond z zeros (block st c.frame)
            by true z = refl
            by false z =
                let low = (good_told k less).placed z in
                spared c.frame low (spared_one k less e low)

    aged_written : (c : CopyHistory) → c.carries.message ≤ h.last.message → AgedOne new (taking v c)
    aged_written c old = go c.current
      where
        go : (u : Bool)
            → (eqb (cond u v c.carries).message n ≡ true → cond u v c.carries ≡ v)
            × ((cond u v c.carries).message ≤ n)
        go true = (λ _. refl, omega arith)
        go false = (
          λ e. let s = eqb-true c.carries.message n e in let b = told.before in absurd (omega arith),
          let b = told.before in omega arith,
        )

    pub told_written : Told (suc n) new st' (changed g Staled)
    unfolding changed
    told_written =
        record {
          standing = told.standing;
          copies =
              in_use_staled g ∙ ap (map stale_copy) told.copies
              ∙ each_told h.copies (each_of _ h.copies null_history (λ k l.
              let less : k < g.n = omega (arith, copies_long) in
              ((good_told k less).marks, (aged_told k less).1)));
          bytes = each_map (HoldingOne st') (taking v) h.copies (each_of _ h.copies null_history (λ k l.
              holding_written k (omega (arith, copies_long))));
          aged = each_map (AgedOne new) (taking v) h.copies (each_of _ h.copies null_history (λ k l.
              aged_written (copy_of h k) (aged_told k (omega (arith, copies_long))).1));
          before = omega arith;
        }

  -- ---- a copy marked

  pub told_marked : (k : ℕ) → k < g.n → (b : Bool) → Told (suc n) (switched k b h) st (changed g (Marked k b))
  unfolding changed
  told_marked k less b =
      let c = copy_of h k in
      let p = told.before in
      record {
        standing = told.standing;
        copies =
            in_use_marked g k b less
            ∙ ap (λ (l : List Copy). set l k (with_current (copy_at g k) b)) told.copies
            ∙ ap (λ (x : Copy). set (map (as_copy h) h.copies) k (with_current x b)) (copy_told k less)
            ∙ sym (map_set (as_copy h) h.copies k (record { frame = c.frame; current = b; carries = c.carries }));
        bytes = each_set (HoldingOne st) h.copies k _ (held_told k less) told.bytes;
        aged = each_set (AgedOne h) h.copies k _ (aged_told k less) told.aged;
        before = omega arith;
      }

  -- ---- a copy deleted

  pub told_removed : (k : ℕ) → k < g.n → absent (changed g (Removed k)) ≡ false
      → Told (suc n) (dropped k h) st (changed g (Removed k))
  told_removed k less still =
      let p = told.before in
      let is : without h.copies k ≡ take k h.copies ++ drop (k + 1) h.copies =
      without_is h.copies k ∙ ap (λ (m : ℕ). take k h.copies ++ drop m h.copies) (sym (add-one k)) in
      record {
        standing = still ∙ sym (not_absent d) ∙ told.standing;
        copies =
            in_use_removed g d.copies_long k less d.most ∙ ap (λ (l : List Copy). without l k) told.copies
            ∙ sym (map_without (as_copy h) h.copies k) ∙ ap (map (as_copy h)) is;
        bytes = subst (Each (HoldingOne st)) is (each_without (HoldingOne st) h.copies k told.bytes);
        aged = subst (Each (AgedOne h)) is (each_without (AgedOne h) h.copies k told.aged);
        before = omega arith;
      }

  -- ---- a copy of copy k made on frame f, which no copy of the page has

  module _ (k : ℕ) (less : k < g.n) (f : ℕ) (low : f < limit) (small : limit < 255)
      (spare : count (on_frame f) (copies_in_use g) ≡ 0)
      (st' : List ℕ) (laid : block st' f ≡ (copy_of h k).carries.bytes)
      (others : (y : ℕ) → y < limit → f ≢ y → block st' y ≡ block st y) where
    abbrev made : CopyHistory
    made = record { frame = f; current = false; carries = (copy_of h k).carries }

    made_holds : HoldingOne st' made
    made_holds = rw (ne_eqb f 255 (omega arith)) laid

    olds_hold : Each (HoldingOne st') h.copies
    olds_hold = holding_kept st' (λ y l used. others y l (other_frame f y (copies_in_use g) spare used))

    -- it takes the place of a null copy
    pub told_placed : is_null (copy_at g k) ≡ true → Told (suc n) (copied_to k f h) st' (changed g (Placed f))
    unfolding changed
    told_placed null =
        let p = told.before in
        let z : eqb (copy_of h k).frame 255 ≡ true = ap is_null (sym (copy_told k less)) ∙ null in
        let recent : carries_last h (copy_of h k) ≡ true = (good_told k less).null_recent z in
        let one = (copy_at_lem d k less).lone null in
        let first : 0 ≡ k = omega arith in
        rw z
        (record {
          standing = told.standing;
          copies =
              in_use_placed g f d.some ∙ ap (λ (i : ℕ). set (copies_in_use g) i (new_copy f true)) first
              ∙ ap (λ (l : List Copy). set l k (new_copy f true)) told.copies
              ∙ ap (λ (r : Bool). set (map (as_copy h) h.copies) k (new_copy f r)) (sym recent)
              ∙ sym (map_set (as_copy h) h.copies k made);
          bytes = each_set (HoldingOne st') h.copies k made made_holds olds_hold;
          aged = each_set (AgedOne h) h.copies k made (aged_told k less) told.aged;
          before = omega arith;
        })

    -- or goes to the end
    pub told_added : is_null (copy_at g k) ≡ false → g.n < 8
        → Told (suc n) (copied_to k f h) st' (changed g (Added f (copy_at g k).recent))
    told_added framed room =
        let p = told.before in
        let z : eqb (copy_of h k).frame 255 ≡ false = ap is_null (sym (copy_told k less)) ∙ framed in
        rw z
        (record {
          standing =
              ap absent (added g f (copy_at g k).recent room) ∙ ne_eqb (g.n + 1) 0 (λ z. omega arith)
              ∙ sym (not_absent d)
              ∙ told.standing;
          copies =
              in_use_added g d.copies_long f (copy_at g k).recent room
              ∙ ap (λ (c : Copy). copies_in_use g ++ (new_copy f c.recent ∷ [])) (copy_told k less)
              ∙ ap (λ (l : List Copy). l ++ (as_copy h made ∷ [])) told.copies
              ∙ sym (map-append (as_copy h) h.copies (made ∷ []));
          bytes = each_last (HoldingOne st') h.copies made made_holds olds_hold;
          aged = each_last (AgedOne h) h.copies made (aged_told k less) told.aged;
          before = omega arith;
        })
