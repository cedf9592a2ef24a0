-- `pages_from`. The pages before i are read.
use Prim.Native.Nat.{◌<◌}
use native.Mathlib.Omega.{arith}
use borrow.Author.Rules.{rules}
use lib.ListN.{length}
use Rattle.std.proofs.Common.{◌≢◌, get_or-set_other, get_or-set_same, below_more}
use Rattle.tables.specs.Model.{zero_page}
use Rattle.embed.specs.Bytes.{page_size, page_from}
use Rattle.embed.proofs.Rows.{each_read}
use Rattle.embed.proofs.image.pages_from.Goals as goal

pub loop-i-preserved : goal.loop-i-preserved
loop-i-preserved c =
    let i = c.loop-i.i in
    let before = c.loop-i.invariant in
    let lt : i < length c.loop-i.page-items = omega arith in (
      search rules,
      below_more _ _
          (λ k h. let ne : k ≢ i = omega arith in rw get_or-set_other (before.1 k h)) (rw get_or-set_same c.page_at.ensures),
    )

pub returns : goal.returns
returns c =
    let all = c.loop-i.invariant in
    each_read page_size page_from c.args.row.now zero_page all.0 (λ i h. all.1 i (omega arith))
