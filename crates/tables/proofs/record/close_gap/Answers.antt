-- `close_gap`: the entries after it moved down, and the last one fresh; a number with no entry changes nothing.
use mathlib.Core.Path.{◌≡◌, sym}
use native.Mathlib.Omega.{arith}
use lib.ListN.{length}
use borrow.Author.Rules.{rules}
use Rattle.tables.proofs.GapLaws.{gap_closed, gap_out}
use Rattle.tables.proofs.record.close_gap.Goals as goal

pub returns-then-k-lt8 : goal.returns-then-k-lt8
returns-then-k-lt8 c =
    let a = c.args in
    let n : length a.copies ≡ 8 = search rules in
    rw (c.copy_within.ensures.after, c.from-k.ensures, c.fresh_copy.ensures) (gap_closed a.copies a.k 7 (omega arith) (omega arith))

pub returns-else-k-lt8 : goal.returns-else-k-lt8
returns-else-k-lt8 c =
    let a = c.args in
    let n : length a.copies ≡ 8 = search rules in
    sym (gap_out a.copies a.k (omega arith))
