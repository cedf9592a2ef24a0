-- `serve` meets its contract. The loop's invariant, `Going`: the rest gives what the whole does, and the rules stand as
-- they were tested. The measure is what is left of the file.
use Prim.Native.Nat.{◌-◌}
use mathlib.Core.Path.{◌≡◌}
use mathlib.Core.Bool.{false}
use lib.ListN.{length}
use Rattle.tables.specs.Numbers.{answer_number}
use Rattle.steps.specs.Promises.{state_of}
use Rattle.messages.specs.Private.{serving}
use Rattle.messages.proofs.RunLaws.{Going}
use Rattle.messages.proofs.turns.serve.Given as goal

abbrev pub invariant-loop-known : goal.invariant-loop-known
invariant-loop-known l = Going l.keep l.file (serving l.initial.at 0 (state_of l.initial.tables l.initial.fast l.initial.slow) l.initial.out l.initial.tally false) (answer_number l.known)
    (serving l.at l.used (state_of l.tables l.fast l.slow) l.out l.tally l.moved)
    × (l.last ≡ length l.initial.out - 70)

abbrev pub decreases-loop-known : goal.decreases-loop-known
decreases-loop-known l = length l.file - l.at
