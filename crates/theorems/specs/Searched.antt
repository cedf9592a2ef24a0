-- Document 02, request [1]: "Looking at a frame then reads the register, and gives for every frame what the search
-- gives".
use Rattle.std.specs.Prelude.{ℕ, ◌<◌, ◌≡◌, true, List, length}
use Rattle.tables.specs.declared.Tables.{Tables}
use Rattle.tables.specs.Model.{frames}
use Rattle.tables.specs.Rules.{sound}
use Rattle.tables.specs.Search.{holder_of}
use Rattle.tables.specs.Register.{registered}
use Rattle.steps.specs.declared.Call.{Call}
use Rattle.steps.specs.Steps.{Outcome, guarded, mapped, view_by, decide_on, rules_number}
use Rattle.steps.specs.Effects.{State, Result, carried_out, step}

-- a step with document 01's search for the holder of a frame in place of the register, in step 11, in numbers 13 and
-- 20, and in kind 12
abbrev pub step_searched : State → Call → List ℕ → Outcome Result
step_searched s c bs =
    mapped (carried_out s c bs)
    (guarded (rules_number s.tables (length s.fast) (length s.slow))
    (decide_on (view_by holder_of s.tables c) c (length bs)))

pub record AsSearched : Type 0 where
  -- a frame number past the last frame is no frame: 255 would ask for null copies
  pub every_frame : (t : Tables) → sound t ≡ true → (f : ℕ) → f < frames t → registered t f ≡ holder_of t f
  -- on any tables and stores
  pub every_step : (s : State) (c : Call) (bs : List ℕ) → step s c bs ≡ step_searched s c bs
