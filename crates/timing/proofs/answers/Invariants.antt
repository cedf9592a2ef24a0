-- `answers` meets its contract: the rest of the run gives what the whole run does. The measure is what is left of the
-- file.
use Prim.Native.Nat.{◌-◌}
use lib.ListN.{length}
use Rattle.steps.specs.Promises.{state_of}
use Rattle.timing.proofs.AnswerLaws.{Going}
use Rattle.timing.proofs.answers.Given as goal

abbrev pub invariant-loop-next : goal.invariant-loop-next
invariant-loop-next l = Going (state_of l.initial.tables l.initial.fast l.initial.slow) l.file l.initial.out l.initial.tally l.at (state_of l.tables l.fast l.slow) l.out l.tally

abbrev pub decreases-loop-next : goal.decreases-loop-next
decreases-loop-next l = length l.file - l.at
