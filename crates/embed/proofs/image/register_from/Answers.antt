-- `register_from` reads a row of numbers of two bytes.
use mathlib.Core.Path.{ap}
use native.Mathlib.Nat.{add-zero}
use native.Mathlib.Omega.{arith}
use lib.Seq.{get_or-drop}
use Rattle.embed.specs.Bytes.{entry_from}
use Rattle.embed.proofs.Rows.{each_made}
use Rattle.embed.proofs.image.register_from.Goals as goal

pub returns : goal.returns
returns c =
    each_made 2 entry_from c.args.row.now 0 c.from_fn.ensures.items
    (λ i y q called. (ap (λ s. record { 0 = s }) called.met.1, grind (arith, get_or-drop, add-zero)))
