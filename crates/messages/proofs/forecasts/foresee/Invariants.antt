-- `foresee` meets its contract. The loop's invariant is `Foreseeing`; the measure is what is left of the file.
use Prim.Native.Nat.{◌-◌}
use lib.ListN.{length}
use Rattle.messages.proofs.ForecastLaws.{Foreseeing}
use Rattle.messages.proofs.forecasts.foresee.Given as goal

abbrev pub invariant-loop-tables : goal.invariant-loop-tables
invariant-loop-tables l = Foreseeing l.file l.initial.tables l.at l.tables l.held l.most l.laid l.counts

abbrev pub decreases-loop-tables : goal.decreases-loop-tables
decreases-loop-tables l = length l.file - l.at
