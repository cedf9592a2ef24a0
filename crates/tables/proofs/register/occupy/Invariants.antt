-- `occupy`. What is left to do to the register from this copy on makes of it what all of it makes of the first one.
use mathlib.Core.Path.{◌≡◌}
use lib.ListN.{drop}
use Rattle.tables.specs.Register.{occupied}
use Rattle.tables.proofs.register.occupy.Given as goal

abbrev pub invariant-loop-k : goal.invariant-loop-k
invariant-loop-k l = occupied l.p 0 l.copy-items l.fn.register ≡ occupied l.p l.k (drop l.k l.copy-items) l.register
