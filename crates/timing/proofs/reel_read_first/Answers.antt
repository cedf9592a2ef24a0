-- `reel_read_first` reads on the tables in the lent bytes; the part that it is given has at most 64 bytes.
use mathlib.Core.Path.{◌∙◌}
use native.Mathlib.Omega.{arith}
use lib.ListN.{length}
use Rattle.steps.specs.Effects.{read_call}
use Rattle.embed.proofs.PlaceLaws.{read_small}
use Rattle.timing.proofs.reel_read_first.Goals as goal

pub first_number-requires : goal.first_number-requires
first_number-requires c =
    let a = c.args in
    let place = read_small c.tables_of-t.result (length a.fast.now) (length a.slow.now)
    (read_call a.station a.page a.offset a.count) in
    omega (arith, c.read-bytes.ensures.len_told, place.len_low)

pub returns : goal.returns
returns c = c.first_number.ensures ∙ rw (c.read-bytes.ensures.bytes_told, c.tables_of-t.ensures)
