-- `Frames::others_ok`: the tests of its `if`s are those of its contract, one after the other.
use mathlib.Core.Path.{sym, ◌∙◌}
use lib.ListN.{drop}
use borrow.Author.Tests.{eq-eqb, ne_eqb}
use borrow.Author.Rules.{rules}
use Rattle.tables.specs.Model.{free_entry, retired_entry}
use Rattle.tables.specs.PrivatePass.{is_entry, not_retired}
use Rattle.tables.proofs.Loops.{rest_from}
use Rattle.tables.proofs.ListLaws.{all_folded, count_is}
use Rattle.tables.proofs.rules.Frames.others_ok.Goals as goal

pub returns-then-held-free-eq254 : goal.returns-then-held-free-eq254
returns-then-held-free-eq254 c =
    let f = c.from-free.ensures ∙ c.entries_of.ensures ∙ count_is (is_entry free_entry) c.args.self.register.now in
    sym (rw (← f, eq-eqb _ _ c.if-held-free-eq254.true))

pub returns-then-held-free-ne254 : goal.returns-then-held-free-ne254
returns-then-held-free-ne254 c =
    let f = c.from-free.ensures ∙ c.entries_of.ensures ∙ count_is (is_entry free_entry) c.args.self.register.now in
    let r = c.from-retired.ensures ∙ c.entries_of-2.ensures ∙ count_is (is_entry retired_entry) c.args.self.register.now in
    sym (rw (← f, ← r, ne_eqb _ _ c.if-held-free-eq254.false, ne_eqb _ _ c.if-held-free-ne254.true))

pub returns : goal.returns
returns c =
    let g = c.args.self in
    let f = c.from-free.ensures ∙ c.entries_of.ensures ∙ count_is (is_entry free_entry) g.register.now in
    let r = c.from-retired.ensures ∙ c.entries_of-2.ensures ∙ count_is (is_entry retired_entry) g.register.now in
    let rest = rw (rest_from g.register.now 254 g.limit c.from.result c.from.ensures (search rules)) at c.none_retired.ensures in
    rest
    ∙ all_folded not_retired (drop g.limit g.register.now)
    ∙ (sym (rw (← f, ← r, ne_eqb _ _ c.if-held-free-eq254.false, eq-eqb _ _ c.if-held-free-ne254.false)))
