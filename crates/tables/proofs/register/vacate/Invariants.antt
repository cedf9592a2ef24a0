-- `vacate`. What is left to do to the register from this copy on makes of it what all of it makes of the first one.
use mathlib.Core.Path.{◌≡◌}
use lib.ListN.{drop}
use Rattle.tables.specs.Register.{vacated}
use Rattle.tables.proofs.register.vacate.Given as goal

abbrev pub invariant-loop-copy : goal.invariant-loop-copy
invariant-loop-copy l = vacated l.copy-items l.fn.register ≡ vacated (drop l.copy-index l.copy-items) l.register
