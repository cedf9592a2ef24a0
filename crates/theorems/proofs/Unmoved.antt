-- Tables that did not move are those that came in: by the laws of the layers below, from the contracts.
use mathlib.Core.Path.{◌≡◌, sym, ap, ◌∙◌}
use lib.ListN.{length, drop}
use Rattle.steps.specs.Effects.{State}
use Rattle.steps.proofs.StepLaws.{step_unmoved}
use Rattle.messages.specs.Run.{messages_of}
use Rattle.messages.proofs.TurnLaws.{unmoved}
use Rattle.messages.proofs.PartLaws.{unmoved_end, unmoved_after}
use Rattle.theorems.specs.Unmoved.{Unmoved}

-- a state that is another has its tables
same_tables : {s s' : State} → s ≡ s' → s.tables ≡ s'.tables
same_tables e = ap (λ (s : State). s.tables) e

pub tables_unmoved : Unmoved
tables_unmoved =
    record {
      by_step = step_unmoved;
      by_message = λ x s s' out out' r k e. same_tables k.state_out ∙ unmoved (length out) s x (sym k.moved_told ∙ e);
      by_run = λ file s s' n out out' r k e.
          same_tables k.state_out ∙ unmoved_end (length out) s (messages_of file) (sym k.moved_told ∙ e);
      by_part = λ file at s s' n out out' r k e.
          same_tables k.state_out
          ∙ unmoved_after (length out) 0 s (messages_of (drop at file)) (sym k.moved_told ∙ e);
    }
