-- Demand 3 of a whole file, from one turn: induction over the messages.
use Prim.Native.Nat.{ℕ}
use mathlib.Core.Path.{◌≡◌, refl, ap, ap₂}
use mathlib.Core.Bool.{Bool, not, ◌&&◌, cond}
use mathlib.Core.List.{List, [], ◌∷◌, ◌++◌, map}
use Rattle.steps.specs.Effects.{State}
use Rattle.messages.specs.Replies.{reply_in}
use Rattle.messages.specs.Run.{Sent, asked, bytes_of, Turn, turn_of, left_by, turns_of, end_of}
use Rattle.theorems.specs.Flat.{Flat, Answer, answers_of}
use Rattle.theorems.specs.Demand3.{eleven, sent_in, elevens, reaction, flat_after, flat_end, flat_answers, is_answered, answer_in, run_answers, due, dues}

-- what one turn adds to the two lists
abbrev pub flat_says : Flat → Sent → Bool → List Answer
flat_says f x e = cond e [] (answers_of (reaction f x))

abbrev pub run_says : ℕ → Turn → List Answer
run_says room t = cond (not (eleven room t) && is_answered (asked t.sent)) (answer_in (reply_in room t.outcome) ∷ []) []

-- Inv relates the state and the flat memory
module _ (Inv : State → Flat → Type 0) (room : ℕ) where
  pub record TurnAgrees (f : Flat) (s : State) (x : Sent) : Type 0 where
    pub says : flat_says f x (eleven room (turn_of room s x)) ≡ run_says room (turn_of room s x)
    pub eleven_due : eleven room (turn_of room s x) ≡ due f s (asked x) (bytes_of x)
    pub inv : Inv (left_by room s x) (flat_after f x (eleven room (turn_of room s x)))

  pub record RunAgrees (f : Flat) (s : State) (xs : List Sent) : Type 0 where
    pub messages : map sent_in (turns_of room s xs) ≡ xs
    pub answers : flat_answers f xs (elevens room (turns_of room s xs)) ≡ run_answers room (turns_of room s xs)
    pub elevens_due : elevens room (turns_of room s xs) ≡ dues room f (turns_of room s xs)
    pub inv : Inv (end_of room s xs) (flat_end f xs (elevens room (turns_of room s xs)))

  pub run_agrees : ((f : Flat) (s : State) (x : Sent) → Inv s f → TurnAgrees f s x)
      → (xs : List Sent) (f : Flat) (s : State) → Inv s f → RunAgrees f s xs
  unfolding turns_of end_of flat_answers run_answers dues flat_end
  run_agrees turn_agrees [] f s i = record { messages = refl; answers = refl; elevens_due = refl; inv = i }
  run_agrees turn_agrees (x ∷ xs) f s i =
      let t = turn_agrees f s x i in
      let k = run_agrees turn_agrees xs (flat_after f x (eleven room (turn_of room s x))) (left_by room s x) t.inv in
      record {
        messages = ap {B = List Sent} (λ r. x ∷ r) k.messages;
        answers = ap₂ (λ (l r : List Answer). l ++ r) t.says k.answers;
        elevens_due = ap₂ (λ (b : Bool) (r : List Bool). b ∷ r) t.eleven_due k.elevens_due;
        inv = k.inv;
      }
