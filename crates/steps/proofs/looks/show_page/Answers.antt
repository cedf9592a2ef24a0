-- `show_page`. The invariant: the entries that are still to be laid give the whole.
use Prim.Native.Nat.{◌+◌, ◌*◌}
use mathlib.Core.Path.{ap, ◌∙◌}
use mathlib.Core.List.{List, ◌∷◌}
use native.Mathlib.Omega.{arith}
use lib.ListN.{length-set}
use Rattle.tables.specs.declared.Copy.{Copy}
use Rattle.steps.specs.Stores.{splice, over}
use Rattle.steps.specs.Effects.{copies_shown}
use Rattle.steps.proofs.StoreLaws.{splice_second}
use Rattle.steps.proofs.CopyLaws.{entries_turn, entries_ended}
use Rattle.steps.proofs.looks.show_page.Goals as goal

pub loop-k-init : goal.loop-k-init
loop-k-init c = (simp length-set, splice_second c.args.out.now _ _ (omega arith))

pub loop-k-preserved : goal.loop-k-preserved
loop-k-preserved c =
    let v = c.loop-k in
    let w = c.put in
    let items = c.copies_in_use-c-items in (
      w.auto.dst ∙ v.invariant.0,
      entries_turn items.result.now v.k v.out w.new.dst _ (omega arith) (omega (arith, items.ensures.few))
          (w.ensures ∙ ap (splice v.out (1 + 3 * v.k)) c.copy_shown.ensures) v.invariant.1,
    )

pub returns : goal.returns
returns c =
    let v = c.loop-k in
    let items = c.copies_in_use-c-items in
    let a = c.args in
    entries_ended items.result.now v.k v.out _ (omega arith) v.invariant.1
    ∙ ap (λ (cs : List Copy). over (a.page.n ∷ copies_shown cs) a.out.now) items.ensures.items
