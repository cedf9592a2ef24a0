-- What the cases of a right say of every number, and what a read or a write lacks, in the flat memory's words.
use Prim.Native.Nat.{ℕ, zero, suc, ◌≤◌}
use mathlib.Core.Path.{◌≡◌, refl, sym, ap, ◌∙◌}
use mathlib.Core.Bool.{true, not}
use native.Mathlib.Omega.{arith}
use lib.Dec.{leb, ltb, eqb}
use borrow.Author.Tests.{le-leb, le-ltb, ne_eqb}
use Rattle.tables.specs.declared.Page.{Page}
use Rattle.steps.specs.declared.Act.{Act}
use Rattle.steps.specs.declared.Act.TheVariants.{Read, Write}
use Rattle.steps.specs.Rights.{allows}
use Rattle.steps.specs.Steps.{right_of, may}

-- the least right that allows an act
abbrev least : Act → ℕ
least Read = 1
least Write = 2

-- The six cases are a comparison, of every number, those above 2 too: a right below the least is document 01's "right
-- too low".
pub allows_least : (right : ℕ) (act : Act) → allows right act ≡ leb (least act) right
allows_least zero Read = refl
allows_least zero Write = refl
allows_least (suc zero) Read = refl
allows_least (suc zero) Write = refl
allows_least (suc (suc r)) Read = sym (le-leb 1 (suc (suc r)) (omega arith))
allows_least (suc (suc r)) Write = sym (le-leb 2 (suc (suc r)) (omega arith))

-- the case of 2 takes every number from 2 on
pub allows_above : (right : ℕ) (act : Act) → 2 ≤ right → allows right act ≡ true
allows_above right Read h = allows_least right Read ∙ le-leb 1 right (omega arith)
allows_above right Write h = allows_least right Write ∙ le-leb 2 right h

not_least_one : (r : ℕ) → not (leb 1 r) ≡ eqb r 0
not_least_one zero = refl
not_least_one (suc r) = rw (le-leb 1 (suc r) (omega arith), ne_eqb (suc r) 0 (λ z. omega arith))

not_least_two : (r : ℕ) → not (leb 2 r) ≡ ltb r 2
not_least_two zero = refl
not_least_two (suc zero) = refl
not_least_two (suc (suc r)) = rw (le-leb 2 (suc (suc r)) (omega arith), le-ltb (suc (suc r)) 2 (omega arith))

-- "read with right 0"
pub lacks_read : (g : Page) (station : ℕ) → not (may g station Read) ≡ eqb (right_of g station) 0
lacks_read g station = ap not (allows_least (right_of g station) Read) ∙ not_least_one (right_of g station)

-- "write with right below 2"
pub lacks_write : (g : Page) (station : ℕ) → not (may g station Write) ≡ ltb (right_of g station) 2
lacks_write g station = ap not (allows_least (right_of g station) Write) ∙ not_least_two (right_of g station)
