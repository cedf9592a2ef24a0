-- `vacate`. One copy more at each turn, and none left at the end.
use mathlib.Core.Path.{refl, sym, ◌∙◌}
use Rattle.tables.specs.Register.{vacated}
use Rattle.tables.specs.Model.{zero_copy}
use Rattle.tables.proofs.Loops.{drop_more, drop_end}
use native.Mathlib.Omega.{arith}
use Rattle.tables.proofs.register.vacate.Goals as goal

pub loop-copy-init : goal.loop-copy-init
loop-copy-init c = refl

pub loop-copy-preserved : goal.loop-copy-preserved
unfolding vacated
loop-copy-preserved c =
    let v = c.loop-copy in
    let m = drop_more c.copies_in_use-copy-items.result.now v.copy-index zero_copy (omega arith) in
    v.invariant ∙ rw (m, c.enter.ensures)

pub returns : goal.returns
unfolding vacated
returns c =
    let v = c.loop-copy in
    let items = c.copies_in_use-copy-items in
    sym (rw (← items.ensures.items) (v.invariant ∙ rw (drop_end items.result.now v.copy-index (omega arith))))
