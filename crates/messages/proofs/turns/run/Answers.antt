-- `run` meets its contract.
use Rattle.messages.proofs.PartLaws.{run_ended}
use Rattle.messages.proofs.turns.run.Goals as goal

pub returns : goal.returns
returns c = run_ended _ _ _ _ _ _ _ c.serve-done.ensures
