-- `marks_valid`. What is found so far and the copies from i on give the answer.
use Prim.Native.Nat.{◌+◌, ◌*◌, ◌-◌}
use mathlib.Core.Bool.{◌&&◌, and_assoc, and-true}
use mathlib.Core.Path.{◌≡◌, refl, sym, ◌∙◌}
use native.Mathlib.Omega.{arith}
use lib.ListN.{get_or}
use Rattle.steps.specs.Data.{is_mark, copy_marks_valid, each_is}
use Rattle.steps.proofs.DataLaws.{each_next}
use Rattle.stations.proofs.ReaderLaws.{marks_at}
use Rattle.stations.proofs.reader.marks_valid.Goals as goal

pub loop-i-init : goal.loop-i-init
loop-i-init c =
    let e : c.args.n - 0 ≡ c.args.n = omega arith in
    rw e refl

pub loop-i-preserved : goal.loop-i-preserved
loop-i-preserved c =
    let d = c.args.copies.now in
    let l = c.loop-i in
    and_assoc l.ok (is_mark (get_or d (3 * l.i + 1) 0) && is_mark (get_or d (3 * l.i + 2) 0)) _
    ∙ rw (marks_at d l.i, ← each_next 3 copy_marks_valid c.args.n l.i d (omega arith)) l.invariant

pub returns : goal.returns
unfolding each_is
returns c =
    let e : c.args.n - c.loop-i.i ≡ 0 = omega arith in
    sym (and-true c.loop-i.ok) ∙ rw e at c.loop-i.invariant
