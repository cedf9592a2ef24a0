-- `reel_write` meets its contract: a message has 71 bytes at the most.
use native.Mathlib.Omega.{arith}
use Rattle.stations.specs.Writer.{written_length}
use mathlib.Core.Path.{ap}
use Rattle.stations.proofs.WriterLaws.{wrote_short}
use Rattle.embed.proofs.reel_write.Goals as goal

pub packed-requires : goal.packed-requires
packed-requires c = omega (arith, wrote_short _ _ _ _ c.write_kind.ensures (omega arith), ap written_length c.in-Ok.is)
