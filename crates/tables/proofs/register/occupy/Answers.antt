-- `occupy`. One copy more at each turn, and none left at the end.
use mathlib.Core.Path.{refl, sym, ◌∙◌}
use Rattle.tables.specs.Register.{occupied}
use Rattle.tables.specs.Model.{zero_copy}
use Rattle.tables.proofs.Loops.{drop_more, drop_end}
use native.Mathlib.Omega.{arith}
use Rattle.tables.proofs.register.occupy.Goals as goal

pub loop-k-init : goal.loop-k-init
loop-k-init c = refl

pub loop-k-preserved : goal.loop-k-preserved
unfolding occupied
loop-k-preserved c =
    let v = c.loop-k in
    let m = drop_more c.copies_in_use-copy-items.result.now v.k zero_copy (omega arith) in
    v.invariant ∙ rw (m, c.enter.ensures, c.entry_for.ensures)

pub returns : goal.returns
unfolding occupied
returns c =
    let v = c.loop-k in
    let items = c.copies_in_use-copy-items in
    sym (rw (← items.ensures.items) (v.invariant ∙ rw (drop_end items.result.now v.k (omega arith))))
