-- `marks_valid`. What is found so far and the copies from i on give the answer.
use Prim.Native.Nat.{◌*◌, ◌-◌}
use mathlib.Core.Bool.{◌&&◌}
use mathlib.Core.Path.{◌≡◌}
use lib.ListN.{drop}
use Rattle.steps.specs.Data.{copy_marks_valid, each_is}
use Rattle.stations.proofs.reader.marks_valid.Given as goal

abbrev pub invariant-loop-i : goal.invariant-loop-i
invariant-loop-i l =
    (l.ok && each_is (l.fn.n - l.i) 3 copy_marks_valid (drop (3 * l.i) l.fn.copies)) ≡ each_is l.fn.n 3 copy_marks_valid l.fn.copies
