-- `foresee` meets its contract. The loop's invariant is `Foreseeing`; the measure is what is left of the file.
use Prim.Native.Nat.{ℕ, ◌-◌, ◌<◌}
use mathlib.Core.Path.{◌≡◌, refl, sym, ap, ◌∙◌}
use mathlib.Core.Bool.{false}
use native.Mathlib.Omega.{arith}
use lib.ListN.{length}
use Rattle.tables.specs.Rules.{frames_held}
use Rattle.steps.specs.Steps.{accept, outcome_of}
use Rattle.steps.specs.Promises.{settled, held_after}
use Rattle.steps.proofs.HeldLaws.{held_few}
use Rattle.messages.specs.Forecast.{foreseen, counted_under}
use Rattle.messages.specs.Promises.{sent_by}
use Rattle.messages.specs.Private.{is_end, decided_on}
use Rattle.messages.proofs.TurnLaws.{asked_by, bytes_by, unsettled}
use Rattle.messages.proofs.RunLaws.{follows}
use Rattle.messages.proofs.ForecastLaws.{none_more, added, Judged, judged, settled_sound, foreseeing_on, foreseeing_none}
use Rattle.messages.proofs.forecasts.foresee.Goals as goal
use Rattle.messages.proofs.forecasts.foresee.Goals.{After-past-at, After-decide_asked}

-- ---- what is known there

-- the file has not ended
goes : (c : After-past-at) → is_end c.message_at-next.result ≡ false
goes c = sym c.is_end.ensures ∙ c.if-is_end.false

-- it goes on past the message
on : (c : After-past-at) → length c.args.file.now - c.past-at.result < length c.args.file.now - c.loop-tables.at
on c =
    let f = follows _ _ _ c.message_at-next.ensures.told (goes c) in
    omega (arith, f.further, f.inside, c.past-at.ensures)

-- what is known where the message is decided on
done : (c : After-decide_asked) →
    let t = c.loop-tables.tables in
    Judged t (foreseen t (sent_by c.args.file.now c.message_at-next.result)) (outcome_of c.decide_asked.result)
done c =
    let t = c.loop-tables.tables in
    let bytes = c.write_bytes.result.now in
    judged t c.loop-tables.invariant.keeps (sent_by c.args.file.now c.message_at-next.result) bytes
    (c.write_bytes.ensures ∙ bytes_by _ _ c.message_at-next.result c.bytes_in-m.ensures) (outcome_of c.decide_asked.result)
    (c.decide_asked.ensures
    ∙ ap (decided_on t (length bytes)) (asked_by _ _ c.message_at-next.result _ c.bytes_in-m.ensures c.asked_in.ensures))

pub returns-then-is_end : goal.returns-then-is_end
returns-then-is_end c =
    foreseeing_none c.loop-tables.invariant _ c.message_at-next.ensures.told
    (sym c.is_end.ensures ∙ c.if-is_end.true)

pub overflow_cast-held : goal.overflow_cast-held
overflow_cast-held c =
    let p = goal.at.overflow_cast-held c in
    let l = c.loop-tables in
    let k = rw c.in-Ok.is at (done p.After-decide_asked) in
    let kept = settled_sound l.tables l.invariant.keeps (sent_by c.args.file.now c.message_at-next.result) (accept c.in-Ok.d) k in
    let held : c.held_after-held.result ≡ frames_held (settled l.tables c.in-Ok.d) =
    c.held_after-held.ensures ∙ ap (λ (n : ℕ). held_after n c.in-Ok.d) l.invariant.counted ∙ k.held in
    omega (arith, held, held_few (settled l.tables c.in-Ok.d) kept)

pub loop-tables-smaller-then-is_some : goal.loop-tables-smaller-then-is_some
loop-tables-smaller-then-is_some c = on (goal.at.loop-tables-smaller-then-is_some c).After-past-at

pub loop-tables-preserved-then-is_some : goal.loop-tables-preserved-then-is_some
loop-tables-preserved-then-is_some c =
    let p = goal.at.loop-tables-preserved-then-is_some c in
    let l = c.loop-tables in
    let k = rw c.in-Ok.is at (done p.After-decide_asked) in
    let settled_is = c.settle-tables.ensures in
    rw c.past-at.ensures
    (foreseeing_on l.invariant _ c.message_at-next.ensures.told _ _ _ _ _ _ (goes p.After-past-at) k.comes settled_is
    (c.held_after-held.ensures ∙ ap (λ (n : ℕ). held_after n c.in-Ok.d) l.invariant.counted ∙ k.held ∙ ap frames_held (sym settled_is))
    c.max-most.ensures (added l.laid _ _ _ c.saturating_add-laid.ensures c.from.ensures) c.count_under.ensures)

pub loop-tables-smaller-else-is_some : goal.loop-tables-smaller-else-is_some
loop-tables-smaller-else-is_some c = on (goal.at.loop-tables-smaller-else-is_some c).After-past-at

pub loop-tables-preserved-else-is_some : goal.loop-tables-preserved-else-is_some
loop-tables-preserved-else-is_some c =
    let p = goal.at.loop-tables-preserved-else-is_some c in
    let l = c.loop-tables in
    let k = rw c.in-Ok.is at (done p.After-decide_asked) in
    rw c.past-at.ensures
    (foreseeing_on l.invariant _ c.message_at-next.ensures.told _ _ _ _ _ _ (goes p.After-past-at) k.comes
    (unsettled l.tables _ (sym c.is_some.ensures ∙ c.if-is_some.false)) l.invariant.counted (omega (arith, l.invariant.top))
    (added l.laid _ _ _ c.saturating_add-laid.ensures c.from.ensures) c.count_under.ensures)

pub loop-tables-smaller : goal.loop-tables-smaller
loop-tables-smaller c = on (goal.at.loop-tables-smaller c).After-past-at

pub loop-tables-preserved : goal.loop-tables-preserved
loop-tables-preserved c =
    let p = goal.at.loop-tables-preserved c in
    let l = c.loop-tables in
    let k = rw c.in-Err.is at (done p.After-decide_asked) in
    rw c.past-at.ensures
    (foreseeing_on l.invariant _ c.message_at-next.ensures.told _ _ _ _ _ _ (goes p.After-past-at) k.comes
    refl l.invariant.counted (omega (arith, l.invariant.top)) (none_more l.laid l.invariant.limited)
    (c.count_under-in-Err.ensures ∙ ap (counted_under l.counts) c.from-in-Err.ensures))
