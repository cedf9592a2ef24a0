-- `lay_each`. The invariant: what is still to be laid gives the whole.
use mathlib.Core.Path.{refl, sym, ◌∙◌}
use native.Mathlib.Omega.{arith}
use Rattle.steps.specs.Private.{bytes_of}
use Rattle.steps.proofs.CopyLaws.{lay_turn, lay_ended}
use Rattle.steps.proofs.stores.Stores.lay_each.Goals as goal
use Rattle.steps.proofs.stores.Stores.lay_each.Goals.{then-meant, else-meant}

pub loop-c-preserved : goal.loop-c-preserved
loop-c-preserved g c =
    let v = c.loop-c in
    let a = c.args in
    elim c.if-meant.branch [
      | then-meant w ↦ (
        (let m = w.lay.ensures.same in let i = v.invariant.0 in rw w.self-is (m.0 ∙ i.0, m.1 ∙ i.1, m.2 ∙ i.2, m.3 ∙ i.3)),
        λ those tells.
            lay_turn c.copies_in_use-c-items.result.now v.c-index those a.offset a.src.now (bytes_of v.self) _ _ (omega arith)
            (rw (w.self-is, sym (tells _ _ c.meant.ensures) ∙ w.if-meant.true) w.lay.ensures.laid) (v.invariant.1 those tells),
      )
      | else-meant w ↦ (
        rw w.self-is v.invariant.0,
        λ those tells.
            lay_turn c.copies_in_use-c-items.result.now v.c-index those a.offset a.src.now (bytes_of v.self) _ _ (omega arith)
            (rw (w.self-is, sym (tells _ _ c.meant.ensures) ∙ w.if-meant.false) refl) (v.invariant.1 those tells),
      )
    ]

pub returns-clause-laid : goal.returns-clause-laid
returns-clause-laid g c = λ those tells.
    let v = c.loop-c in
    let a = c.args in
    lay_ended c.copies_in_use-c-items.result.now v.c-index those a.offset a.src.now (bytes_of v.self) _ (omega arith) (v.invariant.1 those tells)
    ∙ rw c.copies_in_use-c-items.ensures.items refl
