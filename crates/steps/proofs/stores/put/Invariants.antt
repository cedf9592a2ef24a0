-- `put`. The invariant: the first j bytes of src are laid.
use mathlib.Core.Path.{◌≡◌}
use lib.ListN.{length}
use lib.Seq.{paste}
use Rattle.steps.proofs.stores.put.Given as goal

abbrev pub invariant-loop-j : goal.invariant-loop-j
invariant-loop-j l = (length l.dst ≡ length l.fn.dst) × (l.dst ≡ paste l.fn.dst l.at l.src l.j)
