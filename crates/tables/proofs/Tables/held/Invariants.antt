-- `Tables::held`. `held` and the frames of the pages from here on are the frames of all.
use Prim.Native.Nat.{◌+◌, ◌*◌, ◌≤◌}
use mathlib.Core.Path.{◌≡◌}
use lib.ListN.{drop}
use Rattle.tables.specs.Rules.{frame_totals}
use Rattle.tables.proofs.Tables.held.Given as goal

abbrev pub invariant-loop-page : goal.invariant-loop-page
invariant-loop-page l = (l.held ≤ 255 * l.page-index) × (frame_totals l.page-items ≡ l.held + frame_totals (drop l.page-index l.page-items))
