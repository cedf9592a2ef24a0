-- `pages_from`. The pages before i are read.
use Prim.Native.Nat.{ℕ, ◌*◌, ◌<◌}
use mathlib.Core.Path.{◌≡◌}
use lib.ListN.{length, drop, get_or}
use Rattle.tables.specs.Model.{zero_page}
use Rattle.embed.specs.Bytes.{page_size, page_from}
use Rattle.embed.proofs.image.pages_from.Given as goal

abbrev pub invariant-loop-i : goal.invariant-loop-i
invariant-loop-i l =
    (length l.page-items ≡ 64)
    × ((k : ℕ) → k < l.i → get_or l.page-items k zero_page ≡ page_from (drop (page_size * k) l.row))
