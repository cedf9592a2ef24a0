-- `serve` meets its contract. The loop's invariant, `Going`: the rest gives what the whole does, and the rules stand as
-- they were tested. The measure is what is left of the file.
use Prim.Native.Nat.{ℕ, ◌+◌, ◌-◌, ◌≤◌, ◌<◌}
use mathlib.Core.Path.{◌≡◌, refl, sym, ap, ◌∙◌}
use mathlib.Core.Bool.{Bool, true, false, ◌||◌, cond, or-true, or-false}
use native.Mathlib.Omega.{arith}
use lib.ListN.{length, take, drop}
use lib.Dec.{ltb}
use Rattle.tables.specs.Numbers.{answer_number}
use Rattle.steps.specs.declared.Call.{Call}
use Rattle.steps.specs.Steps.{Outcome, outcome_of, decide}
use Rattle.steps.specs.Promises.{state_of, decision_of}
use Rattle.steps.proofs.StepLaws.{decide_ruled}
use Rattle.messages.specs.Run.{asked, answer, full}
use Rattle.messages.specs.Promises.{sent_by}
use Rattle.messages.specs.Private.{due_at, is_end, early, decided_on, ahead}
use Rattle.messages.proofs.TurnLaws.{Decided, decided, unsettled, data_few, asked_by, bytes_by}
use Rattle.messages.proofs.RunLaws.{Due, due, follows, going_on, going_none}
use Rattle.messages.proofs.turns.serve.Goals as goal
use Rattle.messages.proofs.turns.serve.Goals.{After-due_at-next, Else-is_end, After-past-at, After-decide_asked-decided}

-- ---- what is known there
-- a reply has 70 bytes at the most
short : {n : ℕ} (b : Bool) (len : ℕ) → len ≤ 64 → n ≡ cond b 0 (6 + len) → n ≤ 70
short true len few e = omega arith
short false len few e = omega arith

-- whether the tables moved, with a message that moved them or did not
moved_now : (before now : Bool) → now ≡ true → true ≡ (before || now)
moved_now before now e = rw e (sym (or-true before))

moved_before : (before now : Bool) → now ≡ false → before ≡ (before || now)
moved_before before now e = rw e (sym (or-false before))

-- what is due, where the buffer is full or not
found : (c : After-due_at-next)
    → c.due_at-next.result ≡ due_at c.args.file.now c.loop-known.at (full (length c.args.out.now) c.loop-known.used)
found c =
    let l = c.loop-known in
    c.due_at-next.ensures ∙ ap (λ (k : ℕ). due_at c.args.file.now l.at (ltb k l.used)) l.invariant.1

-- the file has not ended
goes : (c : Else-is_end) → is_end c.due_at-next.result ≡ false
goes c = sym c.is_end.ensures ∙ c.if-is_end.false

-- so what is due is the message at the place, and the buffer has room for a reply
here : (c : Else-is_end)
    → c.due_at-next.result ≡ due_at c.args.file.now c.loop-known.at (full (length c.args.out.now) c.loop-known.used)
    → Due c.args.file.now c.loop-known.at (full (length c.args.out.now) c.loop-known.used) c.due_at-next.result
here c told = due _ _ _ _ told (goes c)

-- the file goes on past the message
on : (c : After-past-at)
    → Due c.args.file.now c.loop-known.at (full (length c.args.out.now) c.loop-known.used) c.due_at-next.result
    → is_end c.due_at-next.result ≡ false
    → length c.args.file.now - c.past-at.result < length c.args.file.now - c.loop-known.at
on c due goes =
    let f = follows _ _ _ due.found goes in
    omega (arith, f.further, f.inside, c.past-at.ensures)

-- what is known where the message is decided on
done : (c : After-decide_asked-decided) →
    let l = c.loop-known in
    let s = state_of l.tables l.fast l.slow in
    let rest = take (length l.out - l.used) (drop l.used l.out) in
    Decided s (answer (length rest) s (sent_by c.args.file.now c.due_at-next.result)) rest c.write_bytes-bytes.result.now
    (outcome_of c.decide_asked-decided.result)
done c =
    let l = c.loop-known in
    let s = state_of l.tables l.fast l.slow in
    let rest = take (length l.out - l.used) (drop l.used l.out) in
    let x = sent_by c.args.file.now c.due_at-next.result in
    let bytes = c.write_bytes-bytes.result.now in
    let known = answer_number c.rules-known.result in
    let asks : outcome_of c.asked_in.result ≡ asked x =
    asked_by _ _ c.due_at-next.result _ c.bytes_in-m.ensures c.asked_in.ensures in
    decided s x rest bytes known (λ (y : Call). decision_of l.tables y (decide l.tables y (length bytes)))
    (c.write_bytes-bytes.ensures ∙ bytes_by _ _ c.due_at-next.result c.bytes_in-m.ensures)
    (λ _. sym l.invariant.0.rules)
    (λ z y. ap (decision_of l.tables y) (sym (decide_ruled l.tables (length l.fast) (length l.slow) y (length bytes) (sym l.invariant.0.rules ∙ z))))
    (outcome_of c.decide_asked-decided.result)
    (c.decide_asked-decided.ensures
    ∙ ap (decided_on l.tables (length bytes)) (c.early-asked.ensures ∙ ap (λ (m : Outcome Call). early m known (length rest)) asks))

pub returns-then-is_end : goal.returns-then-is_end
returns-then-is_end c =
    let p = goal.at.returns-then-is_end c in
    record { all = going_none c.loop-known.invariant.0 _ (found p.After-due_at-next) (sym c.is_end.ensures ∙ c.if-is_end.true) }

pub reply-len-requires : goal.reply-len-requires
reply-len-requires c = (done (goal.at.reply-len-requires c).After-decide_asked-decided).room

pub ahead-used-requires : goal.ahead-used-requires
ahead-used-requires c =
    let p = goal.at.ahead-used-requires c in
    let i = c.loop-known.invariant.0 in
    let few = short (ltb (length (take (length c.loop-known.out - c.loop-known.used) (drop c.loop-known.used c.loop-known.out))) 70) _ (data_few _ _ (done p.After-decide_asked-decided).room) c.reply-len.ensures.length in
    omega (arith, i.inside, few)

pub loop-known-smaller-then-is_some : goal.loop-known-smaller-then-is_some
loop-known-smaller-then-is_some c =
    let p = goal.at.loop-known-smaller-then-is_some c in
    on p.After-past-at (here p.Else-is_end (found p.After-due_at-next)) (goes p.Else-is_end)

pub loop-known-preserved-then-is_some : goal.loop-known-preserved-then-is_some
loop-known-preserved-then-is_some c =
    let p = goal.at.loop-known-preserved-then-is_some c in
    let l = c.loop-known in
    let r = c.reply-len in
    let is = c.in-Ok.is in (
      rw c.past-at.ensures
          (going_on l.invariant.0 _ _ _ _ _ _ _ _ _ _ _ (here p.Else-is_end (found p.After-due_at-next)) (goes p.Else-is_end)
          (rw is at (done p.After-decide_asked-decided)) c.settle-tables.ensures (rw is at r.ensures.leaves) refl r.auto.out
          (c.ahead-used.ensures ∙ ap (ahead c.args.keep l.used) (rw is at r.ensures.length)) c.count.ensures
          (moved_now l.moved _ (sym c.is_some.ensures ∙ c.if-is_some.true)) r.auto.fast r.auto.slow),
      l.invariant.1,
    )

pub loop-known-smaller-else-is_some : goal.loop-known-smaller-else-is_some
loop-known-smaller-else-is_some c =
    let p = goal.at.loop-known-smaller-else-is_some c in
    on p.After-past-at (here p.Else-is_end (found p.After-due_at-next)) (goes p.Else-is_end)

pub loop-known-preserved-else-is_some : goal.loop-known-preserved-else-is_some
loop-known-preserved-else-is_some c =
    let p = goal.at.loop-known-preserved-else-is_some c in
    let l = c.loop-known in
    let r = c.reply-len in
    let is = c.in-Ok.is in
    let none = sym c.is_some.ensures ∙ c.if-is_some.false in (
      rw c.past-at.ensures
          (going_on l.invariant.0 _ _ _ _ _ _ _ _ _ _ _ (here p.Else-is_end (found p.After-due_at-next)) (goes p.Else-is_end)
          (rw is at (done p.After-decide_asked-decided)) (unsettled _ _ none) (rw is at r.ensures.leaves) refl r.auto.out
          (c.ahead-used.ensures ∙ ap (ahead c.args.keep l.used) (rw is at r.ensures.length)) c.count.ensures
          (moved_before l.moved _ none) r.auto.fast r.auto.slow),
      l.invariant.1,
    )

pub loop-known-smaller : goal.loop-known-smaller
loop-known-smaller c =
    let p = goal.at.loop-known-smaller c in
    on p.After-past-at (here p.Else-is_end (found p.After-due_at-next)) (goes p.Else-is_end)

pub loop-known-preserved : goal.loop-known-preserved
loop-known-preserved c =
    let p = goal.at.loop-known-preserved c in
    let l = c.loop-known in
    let r = c.reply-len in
    let is = c.in-Err.is in (
      rw c.past-at.ensures
          (going_on l.invariant.0 _ _ _ _ _ _ _ _ _ _ _ (here p.Else-is_end (found p.After-due_at-next)) (goes p.Else-is_end)
          (rw is at (done p.After-decide_asked-decided)) refl (rw is at r.ensures.leaves) refl r.auto.out
          (c.ahead-used.ensures ∙ ap (ahead c.args.keep l.used) (rw is at r.ensures.length)) c.count-in-Err.ensures
          (sym (or-false l.moved)) r.auto.fast r.auto.slow),
      l.invariant.1,
    )
