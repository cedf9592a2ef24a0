-- `put_each`. The values before i are laid.
use Prim.Native.Nat.{ℕ}
use mathlib.Core.List.{List}
use Rattle.embed.specs.Private.{Puts}
use Rattle.embed.proofs.Rows.{Laid}
use Rattle.embed.proofs.image.put_each.Given as goal

abbrev pub invariant-loop-i : goal.invariant-loop-i
invariant-loop-i g l =
    (to : _ → List ℕ) → Puts l.size (goal.F-post g l.put) to → Laid l.size to l.values l.fn.bytes l.bytes l.i
