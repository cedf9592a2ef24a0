-- `reel_read` finds the place of a read on the tables in the lent bytes; it goes into one number.
use mathlib.Core.Path.{◌∙◌}
use Rattle.steps.specs.Effects.{read_call}
use Rattle.embed.proofs.PlaceLaws.{read_small}
use Rattle.embed.proofs.reel_read.Goals as goal

pub place_number-requires : goal.place_number-requires
place_number-requires c =
    let a = c.args in
    rw c.read_place-place.ensures
    (read_small c.tables_of-t.result a.fast a.slow
    (read_call a.station a.page a.offset a.count))

pub returns : goal.returns
returns c = c.place_number.ensures ∙ rw (c.read_place-place.ensures, c.tables_of-t.ensures)
