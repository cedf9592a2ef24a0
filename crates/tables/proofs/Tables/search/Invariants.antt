-- `Tables::search`. Outer loop: the answer is the search from page p on. Inner loop: from copy c of page p on, and then
-- the pages after it.
use Prim.Native.Nat.{◌+◌}
use mathlib.Core.Path.{◌≡◌}
use lib.ListN.{drop}
use Rattle.tables.specs.Search.{in_copies, in_pages}
use Rattle.tables.proofs.Tables.search.Given as goal

abbrev pub invariant-loop-c : goal.invariant-loop-c
invariant-loop-c l = (in_pages l.frame 0 l.page-items ≡ in_copies l.frame l.p l.c (drop l.c l.copy-items) (in_pages l.frame (l.p + 1) (drop (l.p + 1) l.page-items)))

abbrev pub invariant-loop-p : goal.invariant-loop-p
invariant-loop-p l = in_pages l.frame 0 l.page-items ≡ in_pages l.frame l.p (drop l.p l.page-items)
