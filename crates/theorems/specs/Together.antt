-- A caller that keeps its tables through many steps: `decide`, `carry` and `settle` together are the step. It is said
-- of whatever meets their contracts.
use Rattle.std.specs.Prelude.{ℕ, ◌≤◌, ◌≡◌, Bool, false, List, Result, Ok, Err, is_some, length}
use Rattle.tables.specs.declared.refusals.Refusal.{Refusal}
use Rattle.tables.specs.declared.Tables.{Tables}
use Rattle.tables.specs.Numbers.{accepted}
use Rattle.steps.specs.declared.Call.{Call}
use Rattle.steps.specs.declared.Decision.{Decision}
use Rattle.steps.specs.declared.Done.{Done}
use Rattle.steps.specs.Steps.{outcome_of, decide, decide_any}
use Rattle.steps.specs.Effects.{State, step, left, moved_by}
use Rattle.steps.specs.Promises.{state_of, decision_of, settled, lent, carried, Stepped}
use Rattle.theorems.specs.Sound.{rules_on}

-- what a call was decided to be: its decision, or its refusal
abbrev pub Decided : Type 0
Decided = Result Decision Refusal

-- what is left on state s, of a write's bytes bs and of a buffer: of a decision d what `carry` left, and the tables
-- that `settle` gave; of a refusal all as it was
pub record CarriedOut (s : State) (bs out : List ℕ) (d : Decision) (t' : Tables)
    (fast' slow' out' : List ℕ) : Type 0 where
  pub carry_left : lent fast' slow' out' ≡ carried d bs (lent s.fast s.slow out)
  pub settle_gave : t' ≡ settled s.tables d

pub record AsItWas (s : State) (out : List ℕ) (t' : Tables) (fast' slow' out' : List ℕ) : Type 0 where
  pub carry_left : lent fast' slow' out' ≡ lent s.fast s.slow out
  pub settle_gave : t' ≡ s.tables

abbrev pub Carried : State → List ℕ → List ℕ → Decided → Tables → List ℕ → List ℕ → List ℕ → Type 0
Carried s bs out (Ok d) t' fast' slow' out' = CarriedOut s bs out d t' fast' slow' out'
Carried s bs out (Err refusal) t' fast' slow' out' = AsItWas s out t' fast' slow' out'

-- what is told of it, as `step` tells it, and whether the tables moved
abbrev pub told_of : Decided → Tables → Done
told_of (Ok d) t' = record { answer = Ok tt; laid = d.laid; len = d.len; tables = t' }
told_of (Err refusal) t' = record { answer = Err refusal; laid = 0; len = 0; tables = t' }

abbrev pub moved_of : Decided → Bool
moved_of (Ok d) = is_some d.change
moved_of (Err refusal) = false

-- it is what `step` promises of the call, and whether the tables moved is told as it came
pub record IsStep (s : State) (c : Call) (bs out : List ℕ) (r : Decided) (t' : Tables)
    (fast' slow' out' : List ℕ) : Type 0 where
  pub stepped : Stepped s (step s c bs) out (state_of t' fast' slow') out' (told_of r t')
  pub moved_told : moved_of r ≡ moved_by (step s c bs)

pub record Together : Type 0 where
  -- decided by `decide`, on tables and stores that `rules` accepted
  pub decided : (s : State) (c : Call) (bs out : List ℕ) (r : Decided) (t' : Tables) (fast' slow' out' : List ℕ)
      → rules_on s ≡ accepted → 64 ≤ length out
      → outcome_of r ≡ decision_of s.tables c (decide s.tables c (length bs))
      → Carried s bs out r t' fast' slow' out' → IsStep s c bs out r t' fast' slow' out'
  -- of what the step leaves it would give 0 again
  pub rules_stay : (s : State) (c : Call) (bs : List ℕ) → rules_on s ≡ accepted
      → rules_on (left s (step s c bs)) ≡ accepted
  -- decided by `decide_any`, on any tables and stores
  pub decided_any : (s : State) (c : Call) (bs out : List ℕ) (r : Decided) (t' : Tables) (fast' slow' out' : List ℕ)
      → 64 ≤ length out
      → outcome_of r ≡ decision_of s.tables c (decide_any s.tables (length s.fast) (length s.slow) c (length bs))
      → Carried s bs out r t' fast' slow' out' → IsStep s c bs out r t' fast' slow' out'
