-- An outcome behind a number: turned back with it, or as it is where the number is 0. In order: behind a number; behind
-- the answer of a test.
use Prim.Native.Nat.{ℕ}
use mathlib.Core.Path.{◌≡◌, refl}
use native.Mathlib.Omega.{arith}
use borrow.Author.Tests.{eq-eqb, ne_eqb}
use Rattle.tables.specs.declared.refusals.Refusal.{Refusal}
use Rattle.tables.specs.declared.refusals.Refusal.TheVariants.{CutShort, ForeignVersion, UnknownKind, WrongLength, BrokenTables, MisfitStore, OutOfRange, PageStands, NoPage, NoRight, NothingCurrent, NoCopy, FrameHeld, EightCopies, LastRecent, Stale, NoFrame, ShortBuffer, TooManyFrames, Retired}
use Rattle.tables.specs.Numbers.{accepted, refusal_number}
use Rattle.steps.specs.Steps.{Outcome, refuse, guarded}

module _ {A : Type 0} (n : ℕ) (o : Outcome A) where
  pub turned_back : (n ≡ accepted → ⊥) → guarded n o ≡ refuse n
  turned_back s = rw (ne_eqb n accepted s)

  pub passed : n ≡ accepted → guarded n o ≡ o
  passed z = rw (eq-eqb n accepted z)

-- no refusal has the number 0
pub refusal_some : (refusal : Refusal) → refusal_number refusal ≡ accepted → ⊥
refusal_some CutShort e = omega arith
refusal_some ForeignVersion e = omega arith
refusal_some UnknownKind e = omega arith
refusal_some WrongLength e = omega arith
refusal_some BrokenTables e = omega arith
refusal_some MisfitStore e = omega arith
refusal_some OutOfRange e = omega arith
refusal_some PageStands e = omega arith
refusal_some NoPage e = omega arith
refusal_some NoRight e = omega arith
refusal_some NothingCurrent e = omega arith
refusal_some NoCopy e = omega arith
refusal_some FrameHeld e = omega arith
refusal_some EightCopies e = omega arith
refusal_some LastRecent e = omega arith
refusal_some Stale e = omega arith
refusal_some NoFrame e = omega arith
refusal_some ShortBuffer e = omega arith
refusal_some TooManyFrames e = omega arith
refusal_some Retired e = omega arith

-- what comes behind a test that gave an answer
module _ {n : ℕ} {A : Type 0} (o : Outcome A) where
  pub guard_refused : (refusal : Refusal) → refusal_number refusal ≡ n → refuse (refusal_number refusal) ≡ guarded n o
  guard_refused refusal is = rw (← is, turned_back (refusal_number refusal) o (refusal_some refusal)) refl

  pub guard_on : {r : Outcome A} → accepted ≡ n → r ≡ o → r ≡ guarded n o
  guard_on z e = rw (← z) e

-- both, for the functions that test a call
pub ruleset guards = (guard_refused, guard_on)
