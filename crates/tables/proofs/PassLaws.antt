-- What the one pass over the copies of a page answers.
use Prim.Native.Nat.{ℕ, ◌+◌}
use mathlib.Core.Path.{◌≡◌, refl, sym, ap}
use mathlib.Core.Bool.{Bool, true, false, ◌&&◌, ◌||◌, cond, true≢false, false≢true}
use mathlib.Core.List.{List, [], ◌∷◌}
use native.Mathlib.Nat.{zero-add}
use native.Mathlib.Omega.{arith}
use lib.Dec.{leb}
use borrow.Author.Tests.{le-leb}
use Rattle.tables.specs.declared.Copy.{Copy}
use Rattle.tables.specs.Lists.{all, count}
use Rattle.tables.specs.Rules.{is_recent, copy_rule}
use Rattle.tables.specs.Register.{entry_for}
use Rattle.tables.specs.PrivatePass.{entry_is, entries_are, scan_copies}

-- what the pass over the copies answers
regroup : (r u a m q : Bool) → (r && (u && (a && (m && q)))) ≡ ((r && a) && ((u && m) && q))
regroup false u a m q = refl
regroup true false false m q = refl
regroup true false true m q = refl
regroup true true false m q = refl
regroup true true true m q = refl

some_recent : (before own : Bool) (later : ℕ) → ((before || own) || leb 1 later) ≡ (before || leb 1 (cond own 1 0 + later))
some_recent true own later = refl
some_recent false true later = sym (le-leb 1 (1 + later) (omega arith))
some_recent false false later = ap (leb 1) (sym (zero-add later))

pub scan_copies_lem : (limit n : ℕ) (r : List ℕ) (p k : ℕ) (before : Bool) (cs : List Copy)
    → scan_copies limit n r p k before cs
    ≡ (all (copy_rule limit n) cs && (entries_are r p k cs && (before || leb 1 (count is_recent cs))))
unfolding scan_copies entries_are all count
scan_copies_lem limit n r p k true [] = refl
scan_copies_lem limit n r p k false [] = refl
scan_copies_lem limit n r p k before (c ∷ cs) =
    rw (scan_copies_lem limit n r p (k + 1) (before || c.recent) cs, some_recent before c.recent (count is_recent cs))
    (regroup (copy_rule limit n c) (entry_is r c.frame (entry_for p k)) (all (copy_rule limit n) cs) (entries_are r p (k + 1) cs)
    (before || leb 1 (cond c.recent 1 0 + count is_recent cs)))

-- with d for the unused entries: the rule of a standing page ends in a, d and q, and m is that its copies are named
pub scan_fails : (a m q d : Bool) → (a && (m && q)) ≡ false → ((a && (d && q)) && m) ≡ false
scan_fails false m q d e = refl
scan_fails true false q false e = refl
scan_fails true false false true e = refl
scan_fails true false true true e = refl
scan_fails true true false false e = refl
scan_fails true true false true e = refl
scan_fails true true true d e = absurd (true≢false e)

pub scan_passes : (a m q d : Bool) → (a && (m && q)) ≡ true → ((a && (d && q)) && m) ≡ d
scan_passes false m q d e = absurd (false≢true e)
scan_passes true false q d e = absurd (false≢true e)
scan_passes true true false d e = absurd (false≢true e)
scan_passes true true true false e = refl
scan_passes true true true true e = refl
