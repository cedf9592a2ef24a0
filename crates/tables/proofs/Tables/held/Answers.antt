-- `Tables::held`. `held` and the frames of the pages from here on are the frames of all.
use mathlib.Core.Path.{sym, ◌∙◌}
use native.Mathlib.Nat.{add-zero, zero-add, add_assoc}
use native.Mathlib.Omega.{arith}
use Rattle.tables.specs.Model.{zero_page}
use Rattle.tables.specs.Rules.{frame_totals}
use Rattle.tables.proofs.Loops.{drop_more, drop_end}
use Rattle.tables.proofs.Tables.held.Goals as goal

pub loop-page-init : goal.loop-page-init
loop-page-init c = (omega arith, sym (zero-add _))

pub loop-page-preserved : goal.loop-page-preserved
unfolding frame_totals
loop-page-preserved c =
    let v = c.loop-page in
    let m = drop_more c.args.self.pages v.page-index zero_page (omega arith) in
    (omega arith, v.invariant.1 ∙ rw (m, c.from-held.ensures, c.frame_total.ensures) (sym (add_assoc _ _ _)))

pub returns : goal.returns
unfolding frame_totals
returns c =
    let v = c.loop-page in
    let end = drop_end c.args.self.pages v.page-index (omega arith) in
    (sym (v.invariant.1 ∙ rw end (add-zero _)), omega (arith, v.invariant.0))
