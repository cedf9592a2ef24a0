-- `page_at` reads a page.
use Prim.Native.Nat.{◌*◌, ◌-◌}
use mathlib.Core.Path.{refl, ap}
use borrow.Author.Rules.{rules}
use lib.ListN.{length, drop, take}
use Rattle.std.proofs.lemmas.List.{take_rest}
use Rattle.tables.specs.Model.{zero_copy}
use Rattle.embed.specs.Bytes.{page_size, page_from, copy_from}
use Rattle.embed.proofs.Rows.{each_made}
use Rattle.embed.proofs.image.page_at.Goals as goal

pub returns : goal.returns
unfolding page_from
returns c =
    let row = c.args.row.now in
    let b = take (length row - page_size * c.args.i) (drop (page_size * c.args.i) row) in
    let copies =
    each_made 3 copy_from (take (length b - 16) (drop 16 b)) zero_copy c.from_fn.ensures.items
    (λ i y q called. (ap (λ s. record { 0 = s }) called.met.1, search rules)) in
    rw (c.copy_from_slice.ensures.after, copies, take_rest, take_rest) refl
