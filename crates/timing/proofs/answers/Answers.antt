-- `answers` meets its contract: the rest of the run gives what the whole run does. The measure is what is left of the
-- file.
use mathlib.Core.Bool.{Bool}
use mathlib.Core.Path.{refl, sym, ap, ◌∙◌}
use Rattle.messages.specs.Replies.{counted}
use native.Mathlib.Omega.{arith}
use Rattle.messages.specs.Run.{Sent, cut}
use Rattle.timing.proofs.RestLaws.{Follows, follows_message, follows_cut, rest_all}
use Rattle.timing.proofs.AnswerLaws.{going_on, going_none}
use Rattle.timing.proofs.answers.Goals as goal
use Rattle.timing.proofs.answers.Goals.{in-Message, in-Cut}

-- the message at the place, and the place past it
follows : (c : goal.After-tally_after-tally) → (x : Sent) × Follows c.args.file.now c.loop-next.at x c.match-message_at.next
follows c =
    let file = c.args.file.now in
    let at = c.loop-next.at in
    elim c.match-message_at.branch [
      | in-Message w ↦ rw w.next-is (_, follows_message file at _ _ _ (sym w.in-Message.is ∙ c.message_at.ensures.told))
      | in-Cut w ↦ rw w.next-is (cut, follows_cut file at (sym w.in-Cut.is ∙ c.message_at.ensures.told))
    ]

pub loop-next-init : goal.loop-next-init
loop-next-init c = record { in_file = omega arith; fast_long = refl; slow_long = refl; out_long = refl; rest = rest_all _ _ _ _ _ }

pub loop-next-smaller : goal.loop-next-smaller
loop-next-smaller c = let f = (follows c).1 in omega (arith, f.inside, f.further)

pub loop-next-preserved : goal.loop-next-preserved
loop-next-preserved c =
    let (x, f) = follows c in
    let a = c.answer-a in
    going_on c.loop-next.invariant x _ _ _ _ a.result f a.ensures a.auto.fast a.auto.slow a.auto.out
    (c.tally_after-tally.ensures ∙ ap (λ (b : Bool). counted c.loop-next.tally b a.result.laid) c.is_err.ensures.value)

pub returns-in-End : goal.returns-in-End
returns-in-End c = going_none c.loop-next.invariant (sym c.in-End.is ∙ c.message_at.ensures.told)
