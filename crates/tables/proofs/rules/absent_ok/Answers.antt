-- `absent_ok`: the tests of its contract, one after the other.
use mathlib.Core.Bool.{true, false, false≢true}
use mathlib.Core.Path.{◌≡◌, sym, ◌∙◌}
use borrow.Author.Tests.{eq-eqb, ne_eqb}
use Rattle.tables.specs.Lists.{all}
use Rattle.tables.specs.Rules.{at_most, is_fresh, absent_rule}
use Rattle.tables.proofs.ListLaws.{all_is, all_folded}
use Rattle.tables.proofs.rules.absent_ok.Goals as goal
use Rattle.tables.proofs.rules.absent_ok.Goals.{then-page-eq0, else-page-eq0}

pub returns-then-rights_ok : goal.returns-then-rights_ok
unfolding absent_rule
returns-then-rights_ok c =
    let g = c.args.page.now in
    elim c.if-page-eq0.branch [
      | then-page-eq0 w ↦
          let r : all (at_most 0) g.rights ≡ true = sym (all_folded (at_most 0) g.rights) ∙ sym w.rights_ok.ensures ∙ sym w.value-is ∙ c.if-rights_ok.true in
          c.unused_ok.ensures ∙ all_is is_fresh g.copies ∙ sym (rw (eq-eqb _ _ w.if-page-eq0.true, r))
      | else-page-eq0 w ↦ absurd (false≢true (sym (ne_eqb _ _ w.if-page-eq0.false) ∙ sym w.value-is ∙ c.if-rights_ok.true))
    ]

pub returns-else-rights_ok : goal.returns-else-rights_ok
unfolding absent_rule
returns-else-rights_ok c =
    let g = c.args.page.now in
    elim c.if-page-eq0.branch [
      | then-page-eq0 w ↦
          let r : all (at_most 0) g.rights ≡ false = sym (all_folded (at_most 0) g.rights) ∙ sym w.rights_ok.ensures ∙ sym w.value-is ∙ c.if-rights_ok.false in
          c.if-rights_ok.false ∙ sym (rw (eq-eqb _ _ w.if-page-eq0.true, r))
      | else-page-eq0 w ↦ c.if-rights_ok.false ∙ sym (rw (ne_eqb _ _ w.if-page-eq0.false))
    ]
