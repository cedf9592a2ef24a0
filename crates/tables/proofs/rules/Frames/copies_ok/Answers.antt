-- `Frames::copies_ok`. The answer is that of the copies from k on.
use mathlib.Core.Path.{sym, ◌∙◌}
use native.Mathlib.Omega.{arith}
use Rattle.tables.specs.Model.{zero_copy}
use Rattle.tables.specs.PrivatePass.{scan_copies}
use Rattle.tables.proofs.Loops.{drop_more, drop_end}
use Rattle.tables.proofs.rules.Frames.copies_ok.Goals as goal

pub returns-then-not-copy_ok : goal.returns-then-not-copy_ok
unfolding scan_copies
returns-then-not-copy_ok c =
    let v = c.loop-k in
    let items = c.copies_in_use-c-items.result.now in
    let e = sym c.copy_ok.ensures ∙ c.if-not-copy_ok.true in
    sym (rw (← c.copies_in_use-c-items.ensures.items) (v.invariant ∙ rw (drop_more items v.k zero_copy (omega arith), e)))

pub returns-then-not-entry_is : goal.returns-then-not-entry_is
unfolding scan_copies
returns-then-not-entry_is c =
    let v = c.loop-k in
    let items = c.copies_in_use-c-items.result.now in
    let e = sym c.copy_ok.ensures ∙ c.if-not-copy_ok.false in
    let u = rw c.entry_for.ensures at (sym c.entry_is.ensures ∙ c.if-not-entry_is.true) in
    sym (rw (← c.copies_in_use-c-items.ensures.items) (v.invariant ∙ rw (drop_more items v.k zero_copy (omega arith), e, u)))

pub loop-k-preserved : goal.loop-k-preserved
unfolding scan_copies
loop-k-preserved c =
    let v = c.loop-k in
    let items = c.copies_in_use-c-items.result.now in
    let e = sym c.copy_ok.ensures ∙ c.if-not-copy_ok.false in
    let u = rw c.entry_for.ensures at (sym c.entry_is.ensures ∙ c.if-not-entry_is.false) in
    v.invariant ∙ rw (drop_more items v.k zero_copy (omega arith), e, u)

pub returns : goal.returns
unfolding scan_copies
returns c =
    let v = c.loop-k in
    let items = c.copies_in_use-c-items.result.now in
    sym (rw (← c.copies_in_use-c-items.ensures.items) (v.invariant ∙ rw (drop_end items v.k (omega arith))))
