-- `Frames::copies_ok`. The answer is that of the copies from k on.
use mathlib.Core.Bool.{false}
use mathlib.Core.Path.{◌≡◌}
use lib.ListN.{drop}
use Rattle.tables.specs.PrivatePass.{scan_copies}
use Rattle.tables.proofs.rules.Frames.copies_ok.Given as goal

abbrev pub invariant-loop-k : goal.invariant-loop-k
invariant-loop-k l = scan_copies l.self.limit l.page.n l.self.register.now l.p 0 false l.c-items ≡ scan_copies l.self.limit l.page.n l.self.register.now l.p l.k l.recent (drop l.k l.c-items)
