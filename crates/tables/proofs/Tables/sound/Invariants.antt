-- `Tables::sound`. What the pass says of the pages is what it says of those from page p on; `held` and the frames of
-- those are the frames of all.
use Prim.Native.Nat.{◌+◌, ◌*◌, ◌≤◌}
use mathlib.Core.Path.{◌≡◌}
use lib.ListN.{drop}
use Rattle.tables.specs.Rules.{frame_totals}
use Rattle.tables.specs.PrivatePass.{scan_pages}
use Rattle.tables.proofs.Tables.sound.Given as goal

abbrev pub invariant-loop-p : goal.invariant-loop-p
invariant-loop-p l = (l.held ≤ 255 * l.p)
    × (scan_pages (l.fn.self.shared.p + l.fn.self.shared.s) l.fn.self.register 0 l.page-items ≡ scan_pages (l.fn.self.shared.p + l.fn.self.shared.s) l.fn.self.register l.p (drop l.p l.page-items))
    × (frame_totals l.page-items ≡ l.held + frame_totals (drop l.p l.page-items))
