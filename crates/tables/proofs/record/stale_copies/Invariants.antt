-- `stale_copies`. The entries before this one are stale, the others as they came.
use mathlib.Core.Path.{◌≡◌}
use mathlib.Core.List.{map}
use Rattle.tables.proofs.Filling.{filled}
use Rattle.tables.specs.Changes.{stale_copy}
use Rattle.tables.proofs.record.stale_copies.Given as goal

abbrev pub invariant-loop-c : goal.invariant-loop-c
invariant-loop-c l = l.c-items ≡ filled (map stale_copy l.fn.copies) l.fn.copies l.c-index
