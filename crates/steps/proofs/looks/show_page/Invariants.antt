-- `show_page`. The invariant: the entries that are still to be laid give the whole.
use Prim.Native.Nat.{◌+◌, ◌*◌}
use mathlib.Core.Path.{◌≡◌}
use mathlib.Core.List.{◌∷◌}
use lib.ListN.{length, drop}
use Rattle.steps.specs.Stores.{splice, over}
use Rattle.steps.specs.Effects.{copies_shown}
use Rattle.steps.proofs.looks.show_page.Given as goal

abbrev pub invariant-loop-k : goal.invariant-loop-k
invariant-loop-k l =
    (length l.out ≡ length l.fn.out)
    × (splice l.out (1 + 3 * l.k) (copies_shown (drop l.k l.c-items)) ≡ over (l.fn.page.n ∷ copies_shown l.c-items) l.fn.out)
