-- `lay_each`. The invariant: what is still to be laid gives the whole.
use mathlib.Core.Path.{◌≡◌}
use mathlib.Core.Bool.{Bool}
use lib.ListN.{drop}
use Rattle.tables.specs.declared.Copy.{Copy}
use Rattle.steps.specs.Private.{Tells, Same, bytes_of, lay_each}
use Rattle.steps.proofs.stores.Stores.lay_each.Given as goal

abbrev pub invariant-loop-c : goal.invariant-loop-c
invariant-loop-c g l =
    Same l.fn.self l.self
    × ((those : Copy → Bool)
    → Tells (goal.F-post g l.meant) those
    → lay_each those (bytes_of l.self) (drop l.c-index l.c-items) l.offset l.src
    ≡ lay_each those (bytes_of l.fn.self) l.c-items l.offset l.src)
