-- `Tables::search`. Outer loop: the answer is the search from page p on. Inner loop: from copy c of page p on, and then
-- the pages after it.
use mathlib.Core.Path.{sym, ◌∙◌}
use native.Mathlib.Omega.{arith}
use borrow.Author.Tests.{eq-eqb, ne_eqb}
use Rattle.tables.specs.Model.{zero_copy, zero_page}
use Rattle.tables.specs.Search.{in_copies, in_pages}
use Rattle.tables.proofs.Loops.{drop_more, drop_end}
use Rattle.tables.proofs.HolderLaws.{tells_it}
use Rattle.tables.proofs.Tables.search.Goals as goal

pub loop-c-init : goal.loop-c-init
unfolding in_pages
loop-c-init c =
    let v = c.loop-p in
    v.invariant ∙ rw (drop_more c.args.self.pages v.p zero_page (omega arith), c.copies_in_use-copy-items.ensures.items)

pub loop-c-preserved : goal.loop-c-preserved
unfolding in_copies
loop-c-preserved c =
    let v = c.loop-c in
    v.invariant ∙ rw (drop_more c.copies_in_use-copy-items.result.now v.c zero_copy (omega arith), ne_eqb _ _ c.if-copy-frame.false)

pub loop-p-preserved : goal.loop-p-preserved
unfolding in_copies
loop-p-preserved c =
    let v = c.loop-c in
    v.invariant ∙ rw (drop_end c.copies_in_use-copy-items.result.now v.c (omega arith))

pub returns-then-copy-frame : goal.returns-then-copy-frame
unfolding in_copies
returns-then-copy-frame c =
    let v = c.loop-c in
    tells_it (sym (v.invariant ∙ rw (drop_more c.copies_in_use-copy-items.result.now v.c zero_copy (omega arith), eq-eqb _ _ c.if-copy-frame.true)))

pub returns-after-loop-p : goal.returns-after-loop-p
unfolding in_pages
returns-after-loop-p c =
    let v = c.loop-p in
    tells_it (sym (v.invariant ∙ rw (drop_end c.args.self.pages v.p (omega arith))))
