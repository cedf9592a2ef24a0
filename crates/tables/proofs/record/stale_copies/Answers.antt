-- `stale_copies`. The entries before this one are stale, the others as they came.
use mathlib.Core.List.{map}
use mathlib.Core.Path.{◌≡◌, refl, ◌∙◌}
use native.Mathlib.Omega.{arith}
use lib.ListN.{get_or-map, length, length-map}
use borrow.Author.Rules.{rules}
use Rattle.tables.proofs.Filling.{filled, fill_more, fill_rest, fill_end}
use Rattle.tables.specs.Changes.{stale_copy}
use Rattle.tables.specs.Model.{zero_copy}
use Rattle.tables.proofs.record.stale_copies.Goals as goal

pub loop-c-init : goal.loop-c-init
unfolding filled
loop-c-init c = refl

pub loop-c-preserved : goal.loop-c-preserved
loop-c-preserved c =
    let cs = c.args.copies in
    let j = c.loop-c.c-index in
    let n : length cs ≡ 8 = search rules in
    let m : length (map stale_copy cs) ≡ 8 = length-map cs stale_copy ∙ n in
    rw (c.loop-c.invariant, fill_rest (map stale_copy cs) cs j j zero_copy (omega arith) (omega arith))
    (fill_more _ _ _ zero_copy _ (length-map cs stale_copy) (omega arith) (get_or-map stale_copy cs j zero_copy))

pub returns : goal.returns
returns c =
    let cs = c.args.copies in
    let n : length cs ≡ 8 = search rules in
    let e : c.loop-c.c-index ≡ 8 = omega arith in
    rw (c.loop-c.invariant, e) (fill_end _ _ 8 (length-map cs stale_copy ∙ n) n)
