-- `no_tables`: fresh tables with another P.
use mathlib.Core.Path.{◌∙◌, ap}
use Rattle.std.proofs.Common.{rules}
use Rattle.tables.specs.Model.{Made, fresh_tables}
use Rattle.tables.proofs.FreshLaws.{taken}
use Rattle.embed.proofs.lent.no_tables.Goals as goal

pub returns : goal.returns
unfolding fresh_tables
returns c =
    let t = taken c.fresh.result c.unwrap_or_else-t.result c.unwrap_or_else-t.ensures (λ e h. search rules) in
    rw (t ∙ ap (λ (m : Made). m.tables) c.fresh.ensures)
