-- The search for a frame's holder: whom it passes over, and that a free frame is one that it does not find.
use Prim.Native.Nat.{ℕ, ◌+◌}
use mathlib.Core.Bool.{Bool, true, false, not, ◌&&◌, cond}
use mathlib.Core.List.{List, [], ◌∷◌}
use mathlib.Core.Path.{◌≡◌, refl, sym, ap, ◌∙◌}
use native.Mathlib.Nat.{zero-add}
use native.Mathlib.Omega.{arith}
use lib.Dec.{eqb}
use lib.ListN.{length}
use borrow.Author.Tests.{eqb-true, eq-eqb, ne_eqb, not-true}
use Rattle.tables.specs.declared.Copy.{Copy}
use Rattle.tables.specs.declared.Page.{Page}
use Rattle.tables.specs.declared.Tables.{Tables}
use Rattle.tables.specs.declared.Holder.{Holder}
use Rattle.tables.specs.declared.Holder.TheVariants.{At, Free, Retired}
use Rattle.tables.specs.Lists.{count}
use Rattle.tables.specs.Model.{retired_at, copies_in_use, on_frame}
use Rattle.tables.specs.Rules.{uses, holders, free}
use Rattle.tables.specs.Search.{in_copies, in_pages, searched, holder_of, shown, HolderIs, is_free}
use Rattle.tables.proofs.ListLaws.{and_left, and_right, iff_eq, and_intro}

-- ---- whom it passes over

-- copies that are not on frame f are passed over
pub skip : (f p k : ℕ) (cs : List Copy) (h : Holder) → count (on_frame f) cs ≡ 0 → in_copies f p k cs h ≡ h
unfolding in_copies count
skip f p k [] h e = refl
skip f p k (c ∷ cs) h e = by (on_frame f c) (skip f p (k + 1) cs h) e
  where
    by : (b : Bool) → (count (on_frame f) cs ≡ 0 → in_copies f p (k + 1) cs h ≡ h) → cond b 1 0 + count (on_frame f) cs ≡ 0
        → cond b (At p k) (in_copies f p (k + 1) cs h) ≡ h
    by true rest e = absurd (omega arith)
    by false rest e = rest (omega arith)

-- a frame that no copy is on has no holder
pub nobody : (f b : ℕ) (gs : List Page) → uses f gs ≡ 0 → in_pages f b gs ≡ Free
unfolding in_pages uses
nobody f b [] e = refl
nobody f b (g ∷ gs) e = skip f b 0 (copies_in_use g) (in_pages f (b + 1) gs) (omega arith) ∙ nobody f (b + 1) gs (omega arith)

-- ---- a free frame

sum_zero : (a b : ℕ) → (eqb a 0 && eqb b 0) ≡ eqb (a + b) 0
sum_zero a b =
    iff_eq (eqb a 0 && eqb b 0) (eqb (a + b) 0)
    (λ e.
    let p = eqb-true a 0 (and_left (eqb a 0) (eqb b 0) e) in
    let q = eqb-true b 0 (and_right (eqb a 0) (eqb b 0) e) in
    eq-eqb (a + b) 0 (omega arith))
    (λ e. let p = eqb-true (a + b) 0 e in and_intro (eq-eqb a 0 (omega arith)) (eq-eqb b 0 (omega arith)))

free_copies : (f p c : ℕ) (cs : List Copy) (later : Holder)
    → is_free (in_copies f p c cs later) ≡ (eqb (count (on_frame f) cs) 0 && is_free later)
unfolding in_copies count
free_copies f p c [] later = refl
free_copies f p c (x ∷ xs) later = by (on_frame f x) (free_copies f p (c + 1) xs later)
  where
    by : (b : Bool) → is_free (in_copies f p (c + 1) xs later) ≡ (eqb (count (on_frame f) xs) 0 && is_free later)
        → is_free (cond b (At p c) (in_copies f p (c + 1) xs later)) ≡ (eqb (cond b 1 0 + count (on_frame f) xs) 0 && is_free later)
    by true k = rw (ne_eqb (1 + count (on_frame f) xs) 0 (λ z. omega arith))
    by false k = rw (zero-add (count (on_frame f) xs)) k

pub free_pages : (f p : ℕ) (gs : List Page) → is_free (in_pages f p gs) ≡ eqb (uses f gs) 0
unfolding in_pages uses
free_pages f p [] = refl
free_pages f p (g ∷ gs) =
    free_copies f p 0 (copies_in_use g) (in_pages f (p + 1) gs)
    ∙ rw (free_pages f (p + 1) gs) (sum_zero (count (on_frame f) (copies_in_use g)) (uses f gs))

-- it is not retired, and no copy is on it
pub free_kept : (t : Tables) (f : ℕ) → free t f ≡ true → retired_at t f ≡ false
unfolding free
free_kept t f e = not-true (retired_at t f) (and_left (not (retired_at t f)) _ e)

pub free_nobody : (t : Tables) (f : ℕ) → free t f ≡ true → holders t f ≡ 0
unfolding free
free_nobody t f e = eqb-true (holders t f) 0 (and_right (not (retired_at t f)) _ e)

-- the search finds nobody just where no copy has the frame
searched_free : (t : Tables) (f : ℕ) → is_free (searched t f) ≡ eqb (holders t f) 0
unfolding holders
searched_free t f = free_pages f 0 t.pages

-- a free frame is one that the search does not find and that is not retired
pub free_holder : (t : Tables) (f : ℕ) → free t f ≡ is_free (holder_of t f)
unfolding free
free_holder t f = go (retired_at t f)
  where
    go : (b : Bool) → (not b && eqb (holders t f) 0) ≡ is_free (cond b Retired (searched t f))
    go true = refl
    go false = sym (searched_free t f)

-- what is shown of a frame has three bytes
pub three_shown : (h : Holder) → length (shown h) ≡ 3
three_shown (At p k) = refl
three_shown Free = refl
three_shown Retired = refl

-- what is promised of an answer that is the holder
pub tells_it : {h r : Holder} → r ≡ h → HolderIs h r
tells_it e = record { case = e; values = ap shown e }

-- which so tells whether the frame is free
pub told_free : (t : Tables) (f : ℕ) {h : Holder} → h ≡ holder_of t f → is_free h ≡ free t f
told_free t f e = ap is_free e ∙ sym (free_holder t f)
