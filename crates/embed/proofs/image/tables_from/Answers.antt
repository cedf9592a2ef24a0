-- `tables_from` reads the tables.
use mathlib.Core.Path.{refl}
use Rattle.std.proofs.lemmas.List.{take_rest}
use Rattle.embed.specs.Bytes.{tables_from}
use Rattle.embed.proofs.image.tables_from.Goals as goal

pub returns : goal.returns
unfolding tables_from
returns c = rw (c.pages_from.ensures, c.register_from.ensures, take_rest, take_rest) refl
