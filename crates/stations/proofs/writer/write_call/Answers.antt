-- `write_call` meets its contract: its arguments are those of its kind.
use Rattle.stations.proofs.WriterLaws.{gets, wrote_call}
use Rattle.stations.proofs.writer.write_call.Goals as goal

pub returns : goal.returns
unfolding gets
returns c = wrote_call _ _ _ _ _ _ _ c.from.ensures c.arguments_of.ensures c.write_kind.ensures
