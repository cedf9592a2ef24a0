-- `lay_message` meets its contract: the first bytes, and then those that end the message.
use native.Mathlib.Omega.{arith}
use Rattle.stations.proofs.WriterLaws.{gets, message_laid}
use Rattle.stations.proofs.writer.lay_message.Goals as goal

pub returns-clause-out_after : goal.returns-clause-out_after
unfolding gets
returns-clause-out_after c =
    message_laid _ _ _ _ _ _ _ _ _ _ (omega arith) c.requires c.count_of-count.ensures c.tail_of-tail.ensures
    (rw (← c.from.ensures) c.lay_bytes.ensures) c.lay_bytes-2.ensures
