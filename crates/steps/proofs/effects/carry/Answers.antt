-- `carry`: where the decision lies within what is lent, what it shows or lays; else all as lent.
use mathlib.Core.Path.{refl, sym, ap, ◌∙◌}
use mathlib.Core.List.{List}
use Prim.Native.Nat.{ℕ}
use Rattle.std.proofs.Common.{rules}
use Rattle.tables.proofs.ListLaws.{and_intro}
use lib.ListN.{length}
use Rattle.steps.specs.Effects.{cleared_in}
use Rattle.steps.specs.Promises.{lay_within}
use Rattle.steps.specs.Private.{frames_in}
use Rattle.steps.proofs.CarryLaws.{not_left, not_right, carried_unfit, carried_outside, carried_fit}
use Rattle.steps.proofs.effects.carry.Goals as goal
use Rattle.steps.proofs.effects.carry.Goals.{else-clear_within-via-then-clear_within+else-lay_within, else-clear_within-via-else-clear_within}

pub returns-then-out-fast : goal.returns-then-out-fast
returns-then-out-fast c = carried_unfit _ _ _ _ _ c.if-out-fast.true

pub returns-then-show_within : goal.returns-then-show_within
returns-then-show_within c =
    carried_fit _ _ _ _ _ c.if-out-fast.false _ c.in-Shows.is
    (sym c.show_within.ensures ∙ c.if-show_within.true) _ _ _ refl refl c.show_in.ensures

pub returns-else-show_within : goal.returns-else-show_within
returns-else-show_within c =
    carried_outside _ _ _ _ _ c.if-out-fast.false _ c.in-Shows.is
    (sym c.show_within.ensures ∙ c.if-show_within.false)

pub returns-then-lay_within : goal.returns-then-lay_within
returns-then-lay_within c =
    let w = c.in-Lays in
    let laid = c.clear_in.ensures.laid ∙ ap (λ (st : List ℕ). cleared_in w.clears st) c.lay_in.ensures.laid in
    carried_fit _ _ _ _ _ c.if-out-fast.false _ w.is
    (and_intro (sym c.lay_within.ensures ∙ c.if-lay_within.true)
    (sym c.clear_within.ensures ∙ c.if-clear_within.true)) _ _ _ (search rules) (search (rules, laid)) refl

pub returns-else-clear_within : goal.returns-else-clear_within
returns-else-clear_within c =
    let a = c.args in
    let w = c.in-Lays in
    elim c.else-clear_within.branch [
      | else-clear_within-via-then-clear_within+else-lay_within v ↦ rw (v.fast-is, v.slow-is)
          (carried_outside _ _ _ _ _ c.if-out-fast.false _ w.is
          (not_left _ _ (sym v.lay_within.ensures ∙ v.if-lay_within.false)))
      | else-clear_within-via-else-clear_within v ↦ rw (v.fast-is, v.slow-is)
          (carried_outside _ _ _ _ _ c.if-out-fast.false _ w.is
          (not_right (lay_within a.d.before (frames_in a.fast.now a.slow.now) (length a.bytes.now) w.lay) _
          (sym c.clear_within.ensures ∙ v.if-clear_within.false)))
    ]
