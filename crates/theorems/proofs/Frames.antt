-- No message changes how many frames the tables have, or how long the stores are. What each call keeps, each message
-- keeps.
use Prim.Native.Nat.{ℕ}
use mathlib.Core.Path.{◌≡◌, refl, ◌∙◌}
use mathlib.Core.Bool.{Bool, true, false}
use mathlib.Core.List.{List, [], ◌∷◌}
use lib.ListN.{length}
use lib.Dec.{ltb}
use Rattle.tables.specs.Numbers.{short_buffer}
use Rattle.tables.specs.Changes.{after}
use Rattle.steps.specs.declared.Call.{Call}
use Rattle.steps.specs.declared.Plan.{Plan}
use Rattle.steps.specs.Steps.{Outcome, refuse, accept, test, mapped, decide_any}
use Rattle.steps.specs.Effects.{State, Result, carried_out, step, left}
use Rattle.steps.proofs.StepLaws.{step_long}
use Rattle.messages.specs.Run.{Sent, asked, bytes_of, respond, answer, left_by, end_of}

-- what holds of a state, and of the state that any call leaves of it, holds of the one that a message leaves
module _ (s : State) (P : State → Type 0) (here : P s) (by_call : (c : Call) (bs : List ℕ) → P (left s (step s c bs))) where
  by_parsed : (a : Outcome Call) (bs : List ℕ) → P (left s (respond s a bs))
  by_parsed (refuse n) bs = here
  by_parsed (accept c) bs = by_call c bs

  pub by_message : (room : ℕ) (x : Sent) → P (left_by room s x)
  unfolding answer
  by_message room x = behind (ltb room 70) (respond s (asked x) (bytes_of x)) (by_parsed (asked x) (bytes_of x))
    where
      behind : (b : Bool) (o : Outcome Result) → P (left s o) → P (left s (test b short_buffer o))
      behind true o h = here
      behind false o h = h

-- P and S
call_frames : (s : State) (c : Call) (bs : List ℕ) → (left s (step s c bs)).tables.shared ≡ s.tables.shared
unfolding step after
call_frames s c bs = go (decide_any s.tables (length s.fast) (length s.slow) c (length bs))
  where
    go : (o : Outcome Plan) → (left s (mapped (carried_out s c bs) o)).tables.shared ≡ s.tables.shared
    go (refuse n) = refl
    go (accept plan) = refl

pub left_frames : (room : ℕ) (s : State) (x : Sent) → (left_by room s x).tables.shared ≡ s.tables.shared
left_frames room s x = by_message s (λ s'. s'.tables.shared ≡ s.tables.shared) refl (call_frames s) room x

pub end_frames : (room : ℕ) (xs : List Sent) (s : State) → (end_of room s xs).tables.shared ≡ s.tables.shared
unfolding end_of
end_frames room [] s = refl
end_frames room (x ∷ xs) s = end_frames room xs (left_by room s x) ∙ left_frames room s x

-- the lengths of the stores
abbrev SameLengths : State → State → Type 0
SameLengths s s' = (length s'.fast ≡ length s.fast) × (length s'.slow ≡ length s.slow)

pub end_long : (room : ℕ) (xs : List Sent) (s : State) → SameLengths s (end_of room s xs)
unfolding end_of
end_long room [] s = (refl, refl)
end_long room (x ∷ xs) s =
    let k = end_long room xs (left_by room s x) in
    let l = by_message s (SameLengths s) (refl, refl) (λ c bs. step_long s c bs) room x in
    (k.0 ∙ l.0, k.1 ∙ l.1)
