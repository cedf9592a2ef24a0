-- `fill` meets its contract.
use Rattle.messages.proofs.PartLaws.{part_ended}
use Rattle.messages.proofs.turns.fill.Goals as goal

pub returns : goal.returns
returns c = part_ended _ _ _ _ _ _ _ _ c.serve.ensures
