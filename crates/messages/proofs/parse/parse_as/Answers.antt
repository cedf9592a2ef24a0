-- `parse_as` meets its contract: a kind names four arguments at the most, so its call is that of the first four.
use Prim.Native.Nat.{ℕ, ◌≤◌}
use native.Mathlib.Omega.{arith}
use borrow.Author.Tests.{le-ltb}
use mathlib.Core.List.{List, [], ◌∷◌}
use mathlib.Core.Path.{◌≡◌, refl, ap}
use lib.ListN.{length, get_or, drop}
use lib.Seq.{get_or-drop}
use Rattle.steps.specs.declared.Kind.{Kind}
use Rattle.steps.specs.declared.Kind.TheVariants.{Create, DeletePage, Grant, Read, Write, MakeCopy, DeleteCopy, SetCurrent, RemoveCurrent, LookPage, LookFrame, Retire}
use Rattle.steps.specs.declared.Form.{Form}
use Rattle.steps.specs.Kinds.{names, code, argument, least_length, most_length, call_of}
use Rattle.steps.specs.Steps.{accept}
use Rattle.messages.proofs.parse.parse_as.Goals as goal

-- a kind names four arguments at the most, and they stand behind the version and the kind
first_of : (k : Kind) (r : List ℕ) → call_of k (get_or r 0 0 ∷ get_or r 1 0 ∷ get_or r 2 0 ∷ get_or r 3 0 ∷ []) ≡ call_of k r
unfolding names code argument call_of
first_of Create r = refl
first_of DeletePage r = refl
first_of Grant r = refl
first_of Read r = refl
first_of Write r = refl
first_of MakeCopy r = refl
first_of DeleteCopy r = refl
first_of SetCurrent r = refl
first_of RemoveCurrent r = refl
first_of LookPage r = refl
first_of LookFrame r = refl
first_of Retire r = refl

first_four : (k : Kind) (m : List ℕ) → accept (call_of k (get_or m 2 0 ∷ get_or m 3 0 ∷ get_or m 4 0 ∷ get_or m 5 0 ∷ [])) ≡ accept (call_of k (drop 2 m))
first_four k m = rw (← get_or-drop 2 m 0 0, ← get_or-drop 2 m 1 0, ← get_or-drop 2 m 2 0, ← get_or-drop 2 m 3 0) (ap accept (first_of k (drop 2 m)))

pub returns : goal.returns
returns c =
    let m = c.args.m.now in
    let k = c.args.kind in
    let least : least_length k ≤ length m = let e = ap (λ (f : Form). f.least) c.form-form.ensures in omega arith in
    let most : length m ≤ most_length k = let e = ap (λ (f : Form). f.most) c.form-form.ensures in omega arith in
    rw (le-ltb (length m) (least_length k) least, le-ltb (most_length k) (length m) most, c.form-form.ensures)
    (rw (c.byte_at-4.ensures, c.byte_at-3.ensures, c.byte_at-2.ensures, c.byte_at.ensures) (first_four _ m))
