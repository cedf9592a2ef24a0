-- Every state of a run on sound tables has sound tables: each call keeps them so, and with it each message.
use Prim.Native.Nat.{ℕ}
use mathlib.Core.Path.{◌≡◌, refl, ◌∙◌}
use mathlib.Core.Bool.{true}
use mathlib.Core.List.{List, [], ◌∷◌}
use Rattle.tables.specs.Rules.{sound}
use Rattle.tables.proofs.ChangeSound.{sound_after}
use Rattle.steps.specs.declared.Call.{Call}
use Rattle.steps.specs.declared.Plan.{Plan}
use Rattle.steps.specs.Steps.{Outcome, refuse, accept, mapped, page_for}
use Rattle.steps.specs.Effects.{State, carried_out, step, left}
use Rattle.steps.proofs.DecisionLaws.{page_near}
use Rattle.steps.proofs.DecideLaws.{IfAccepted, if_accepted}
use Rattle.steps.proofs.StepLaws.{Sure, sure}
use Rattle.messages.specs.Run.{Sent, Turn, left_by, turns_of, end_of, messages_of}
use Rattle.messages.proofs.TurnLaws.{rules_kept}
use Rattle.theorems.specs.Sound.{EveryState, rules_on, StaysSound}
use Rattle.theorems.proofs.Frames.{by_message}

-- sound tables are left so, whatever the stores
call_sound : (s : State) → sound s.tables ≡ true → (c : Call) (bs : List ℕ) → sound (left s (step s c bs)).tables ≡ true
unfolding step
call_sound s ok c bs = go _ (sure s c bs)
  where
    go : (o : Outcome Plan) → IfAccepted (Sure s c bs) o → sound (left s (mapped (carried_out s c bs) o)).tables ≡ true
    go (refuse n) k = ok
    go (accept plan) (if_accepted u) =
        sound_after s.tables (page_for c) plan.edit plan.retires (page_near c) ok u.plan_ok.allowed u.plan_ok.may_retire

pub message_sound : (room : ℕ) (s : State) (x : Sent) → sound s.tables ≡ true → sound (left_by room s x).tables ≡ true
message_sound room s x ok = by_message s (λ (s' : State). sound s'.tables ≡ true) ok (call_sound s ok) room x

-- what each message keeps, is so of every state
module _ (X : State → Type 0) (room : ℕ) (keeps : (s : State) (x : Sent) → X s → X (left_by room s x)) where
  pub every : (xs : List Sent) (s : State) → X s → EveryState X (turns_of room s xs) (end_of room s xs)
  unfolding turns_of end_of
  every [] s h = h
  every (x ∷ xs) s h = (h, every xs (left_by room s x) (keeps s x h))

-- and of the last one
at_end : (X : State → Type 0) (ts : List Turn) (end : State) → EveryState X ts end → X end
at_end X [] end k = k
at_end X (t ∷ ts) end k = at_end X ts end k.1

abbrev HasSound : State → Type 0
HasSound s = sound s.tables ≡ true

pub messages_sound : (room : ℕ) (xs : List Sent) (s : State) → sound s.tables ≡ true → sound (end_of room s xs).tables ≡ true
messages_sound room xs s ok = at_end HasSound (turns_of room s xs) (end_of room s xs) (every HasSound room (message_sound room) xs s ok)

pub stays_sound : StaysSound
stays_sound =
    record {
      every_sound = λ room file s ok. every HasSound room (message_sound room) (messages_of file) s ok;
      every_ruled = λ room file s.
          every (λ (s' : State). rules_on s' ≡ rules_on s) room (λ s' x h. rules_kept room s' x ∙ h) (messages_of file) s refl;
    }
