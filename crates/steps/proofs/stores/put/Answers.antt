-- `put`. The invariant: the first j bytes of src are laid.
use mathlib.Core.Path.{◌≡◌, refl, ◌∙◌}
use Prim.Native.Nat.{◌+◌, ◌<◌}
use native.Mathlib.Numerals.{add-one}
use native.Mathlib.Omega.{arith}
use lib.ListN.{length, length-set}
use lib.Seq.{paste-zero, paste-suc}
use Rattle.steps.proofs.StoreLaws.{pasted}
use Rattle.steps.proofs.stores.put.Goals as goal

pub loop-j-init : goal.loop-j-init
loop-j-init c = (refl, paste-zero c.args.dst.now c.args.at c.args.src.now)

pub loop-j-preserved : goal.loop-j-preserved
loop-j-preserved c =
    let dst = c.args.dst.now in
    let src = c.args.src.now in
    let v = c.loop-j in
    let h : c.args.at + v.j < length dst = omega arith in
    let k : v.j < length src = omega arith in
    (simp length-set v.invariant.0, rw (v.invariant.1, add-one) (paste-suc dst c.args.at src v.j 0 h k))

pub returns : goal.returns
returns c =
    let a = c.args in
    let e : c.loop-j.j ≡ length a.src.now = omega arith in
    c.loop-j.invariant.1 ∙ rw e (pasted a.dst.now a.at a.src.now)
