-- `answer` meets its contract: the message as the reader yields it at place 0, turned back or decided on, and replied.
use mathlib.Core.Path.{◌≡◌, refl, sym, ap, ◌∙◌}
use lib.ListN.{length}
use Rattle.steps.specs.declared.Call.{Call}
use Rattle.steps.specs.Steps.{Outcome, outcome_of, decide_any}
use Rattle.steps.specs.Promises.{state_of, decision_of}
use Rattle.messages.specs.declared.Next.{Next}
use Rattle.messages.specs.Run.{asked, bytes_of, answer}
use Rattle.messages.specs.Promises.{sent_by, sent_alone}
use Rattle.messages.specs.Private.{early, decided_any}
use Rattle.messages.proofs.TurnLaws.{Decided, decided, unsettled, replied, asked_by, bytes_by}
use Rattle.messages.proofs.turns.answer.Goals as goal
use Rattle.messages.proofs.turns.answer.Goals.{After-decide_asked_any-decided}

-- what is known where the message is decided on
done : (c : After-decide_asked_any-decided) →
    let v = c.args in
    let s = state_of v.tables v.fast.now v.slow.now in
    Decided s (answer (length v.out.now) s (sent_alone v.message.now)) v.out.now c.write_bytes-bytes.result.now
    (outcome_of c.decide_asked_any-decided.result)
done c =
    let v = c.args in
    let l = v.message.now in
    let bytes = c.write_bytes-bytes.result.now in
    let asks : outcome_of c.asked_in.result ≡ asked (sent_alone l) =
    asked_by l _ c.message_at-next.result _ c.bytes_in-m.ensures c.asked_in.ensures
    ∙ ap (λ (n : Next). asked (sent_by l n)) c.message_at-next.ensures.told in
    let sent : bytes ≡ bytes_of (sent_alone l) =
    c.write_bytes-bytes.ensures ∙ bytes_by l _ c.message_at-next.result c.bytes_in-m.ensures
    ∙ ap (λ (n : Next). bytes_of (sent_by l n)) c.message_at-next.ensures.told in
    decided (state_of v.tables v.fast.now v.slow.now) (sent_alone l) v.out.now bytes 0
    (λ (x : Call). decision_of v.tables x (decide_any v.tables (length v.fast.now) (length v.slow.now) x (length bytes)))
    sent (λ some. absurd (some refl)) (λ _ _. refl) (outcome_of c.decide_asked_any-decided.result)
    (c.decide_asked_any-decided.ensures
    ∙ ap (decided_any v.tables (length v.fast.now) (length v.slow.now) (length bytes))
    (c.early-asked.ensures ∙ ap (λ (m : Outcome Call). early m 0 (length v.out.now)) asks))

pub reply-len-requires : goal.reply-len-requires
reply-len-requires c = (done (goal.at.reply-len-requires c).After-decide_asked_any-decided).room

pub returns-then-is_some : goal.returns-then-is_some
returns-then-is_some c =
    let r = c.reply-len.ensures in
    let is = c.in-Ok.is in
    replied (rw is at (done (goal.at.returns-then-is_some c).After-decide_asked_any-decided)) _ c.settle-tables.ensures
    (rw is at r.leaves) refl (rw is at r.length) refl (sym c.if-is_some.true ∙ c.is_some.ensures)

pub returns : goal.returns
returns c =
    let r = c.reply-len.ensures in
    let is = c.in-Ok.is in
    let none = sym c.is_some.ensures ∙ c.if-is_some.false in
    replied (rw is at (done (goal.at.returns c).After-decide_asked_any-decided)) _ (unsettled _ _ none)
    (rw is at r.leaves) refl (rw is at r.length) refl (sym none)

pub returns-in-Err : goal.returns-in-Err
returns-in-Err c =
    let r = c.reply-len.ensures in
    replied (rw c.in-Err.is at (done (goal.at.returns-in-Err c).After-decide_asked_any-decided)) _ refl
    (rw c.in-Err.is at r.leaves) refl (rw c.in-Err.is at r.length) refl refl
