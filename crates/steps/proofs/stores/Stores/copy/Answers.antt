-- `copy`: what `part` reads, all of the frame, `lay` lays.
use Prim.Native.Nat.{ℕ, ◌+◌, ◌*◌, ◌≤◌}
use mathlib.Core.Path.{ap, ◌∙◌}
use mathlib.Core.List.{List}
use native.Mathlib.Omega.{arith}
use lib.ListN.{length, length-append}
use Rattle.steps.specs.Stores.{lay_frame}
use Rattle.steps.specs.Private.{bytes_of}
use Rattle.steps.proofs.StoreLaws.{splice_all, whole_block}
use Rattle.steps.proofs.stores.Stores.copy.Goals as goal

pub returns-clause-laid : goal.returns-clause-laid
returns-clause-laid c =
    let st = bytes_of c.args.self.now in
    let inside : 64 * c.args.from + 64 ≤ length st = simp length-append (omega arith) in
    c.lay.ensures.laid
    ∙ ap (λ (b : List ℕ). lay_frame st c.args.to 0 b) (c.put.ensures ∙ splice_all _ _ c.part.ensures.len ∙ c.part.ensures.bytes ∙ whole_block st c.args.from inside)
