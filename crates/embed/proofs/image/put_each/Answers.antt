-- `put_each`. The values before i are laid.
use mathlib.Core.Path.{◌∙◌, ap}
use native.Mathlib.Omega.{arith}
use borrow.Author.Rules.{rules}
use Rattle.embed.proofs.Rows.{laid_none, laid_more, laid_all}
use Rattle.embed.proofs.image.put_each.Goals as goal

pub loop-i-init : goal.loop-i-init
loop-i-init g c = λ to puts. laid_none

pub loop-i-preserved : goal.loop-i-preserved
loop-i-preserved g c = λ to puts.
    let e = puts _ _ _ (search rules) c.put.ensures in
    laid_more c.index-values-i.result (c.loop-i.invariant to puts) (omega arith) (search rules)
    (e ∙ ap to c.index-values-i.is) (search rules)

pub returns : goal.returns
returns g c = λ to puts. laid_all (c.loop-i.invariant to puts) (omega arith) (search rules)
