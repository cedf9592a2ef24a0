-- `lay`: bytes laid into the fast store or into the slow one are laid into the joined stores.
use Prim.Native.Nat.{◌/◌}
use native.Mathlib.Omega.{arith}
use lib.ListN.{length}
use Rattle.steps.proofs.StoreLaws.{lay_fast, lay_slow}
use Rattle.steps.proofs.stores.Stores.lay.Goals as goal

pub returns-then-f-p-clause-laid : goal.returns-then-f-p-clause-laid
returns-then-f-p-clause-laid c =
    let a = c.args in
    let s = a.self.now in
    rw c.put.ensures
    (lay_fast s.fast.now s.slow.now (length s.fast.now / 64) a.frame (omega arith) a.offset a.src.now (omega arith) (omega arith))

pub returns-else-f-p-clause-laid : goal.returns-else-f-p-clause-laid
returns-else-f-p-clause-laid c =
    let a = c.args in
    let s = a.self.now in
    rw c.put-else-f-p.ensures
    (lay_slow s.fast.now s.slow.now (length s.fast.now / 64) a.frame (omega arith) a.offset a.src.now (omega arith))
