-- How many copies are on a frame: of one page, of two, of all; and what that says of the tables.
use Prim.Native.Nat.{ℕ, zero, suc, ◌+◌, ◌≤◌, ◌<◌, zero-le}
use mathlib.Core.List.{List, [], ◌∷◌}
use mathlib.Core.Logic.{◌≢◌}
use mathlib.Core.Path.{◌≡◌, refl, ap}
use native.Mathlib.Nat.{not-suc-le-zero, le_of_suc-le-suc, le_refl}
use native.Mathlib.Omega.{arith}
use lib.ListN.{length, get_or, set}
use borrow.Author.Tests.{eq-eqb}
use Rattle.tables.specs.declared.Copy.{Copy}
use Rattle.tables.specs.declared.Page.{Page}
use Rattle.tables.specs.declared.Tables.{Tables}
use Rattle.tables.specs.Lists.{count}
use Rattle.tables.specs.Model.{copies_in_use, zero_page, page_at, on_frame}
use Rattle.tables.specs.Rules.{uses, holders}
use Rattle.tables.specs.Changes.{change_to, after}
use Rattle.tables.proofs.ListLaws.{count_hit}

-- one page replaced: the copies of the old record no longer count, those of the new one do
pub uses_set : (f : ℕ) (gs : List Page) (p : ℕ) (g : Page) → p < length gs
    → uses f (set gs p g) + count (on_frame f) (copies_in_use (get_or gs p zero_page)) ≡ uses f gs + count (on_frame f) (copies_in_use g)
unfolding uses
uses_set f [] p g h = absurd (not-suc-le-zero h)
uses_set f (x ∷ xs) zero g h = omega arith
uses_set f (x ∷ xs) (suc p) g h = let k = uses_set f xs p g (le_of_suc-le-suc h) in omega arith

-- the copies of one page are among those of all
pub uses_at : (f : ℕ) (gs : List Page) (p : ℕ) → count (on_frame f) (copies_in_use (get_or gs p zero_page)) ≤ uses f gs
unfolding uses count
uses_at f [] p = zero-le
uses_at f (x ∷ xs) zero = omega arith
uses_at f (x ∷ xs) (suc p) = let k = uses_at f xs p in omega arith

-- and so are those of two
pub uses_two : (f : ℕ) (gs : List Page) (p q : ℕ) → p ≢ q
    → count (on_frame f) (copies_in_use (get_or gs p zero_page)) + count (on_frame f) (copies_in_use (get_or gs q zero_page)) ≤ uses f gs
unfolding uses count
uses_two f [] p q d = zero-le
uses_two f (x ∷ xs) zero zero d = absurd (d refl)
uses_two f (x ∷ xs) zero (suc q) d = let k = uses_at f xs q in omega arith
uses_two f (x ∷ xs) (suc p) zero d = let k = uses_at f xs p in omega arith
uses_two f (x ∷ xs) (suc p) (suc q) d = let k = uses_two f xs p q (λ e. d (ap suc e)) in omega arith

-- ---- the tables

module _ (t : Tables) (f : ℕ) where
  -- a copy of a page holds its frame
  pub uses_hold : uses f t.pages ≤ holders t f
  unfolding holders
  uses_hold = le_refl (uses f t.pages)

  -- those of one page are among the holders
  pub holders_at : (p : ℕ) → count (on_frame f) (copies_in_use (page_at t p)) ≤ holders t f
  holders_at p = omega (arith, uses_at f t.pages p, uses_hold)

  -- and so are those of two
  pub holders_two : (p q : ℕ) → p ≢ q → count (on_frame f) (copies_in_use (page_at t p)) + count (on_frame f) (copies_in_use (page_at t q)) ≤ holders t f
  holders_two p q d = omega (arith, uses_two f t.pages p q d, uses_hold)

  -- after a change those of the old record no longer count, and those of the new one do
  pub holders_after : (p : ℕ) (g : Page) (x : ℕ) → p < length t.pages
      → holders (after t (change_to p g x)) f + count (on_frame f) (copies_in_use (page_at t p)) ≡ holders t f + count (on_frame f) (copies_in_use g)
  unfolding holders after
  holders_after p g x h = uses_set f t.pages p g h

-- ---- the copies of a page

-- a copy is on its own frame
pub on_own : (c : Copy) (cs : List Copy) → count (on_frame c.frame) (c ∷ cs) ≡ 1 + count (on_frame c.frame) cs
on_own c cs = count_hit (on_frame c.frame) c cs (eq-eqb c.frame c.frame refl)

-- a frame that no copy is on is not one that some copy is on
pub other_frame : (x y : ℕ) (cs : List Copy) → count (on_frame x) cs ≡ 0 → 1 ≤ count (on_frame y) cs → x ≢ y
other_frame x y cs none some same = let k : 1 ≤ count (on_frame x) cs = rw same some in omega arith
