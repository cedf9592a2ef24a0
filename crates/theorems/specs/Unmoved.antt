-- Where a function tells that the tables did not move, they are those that came in: whoever holds them elsewhere need
-- not put them back. On any tables and stores; of a message, a run and a part it is said of whatever meets the
-- contracts of `answer`, `run` and `fill`.
use Rattle.std.specs.Prelude.{ℕ, ◌≡◌, false, List, length}
use Rattle.steps.specs.declared.Call.{Call}
use Rattle.steps.specs.Effects.{State, step, left, moved_by}
use Rattle.messages.specs.declared.Tally.{Tally}
use Rattle.messages.specs.declared.Answered.{Answered}
use Rattle.messages.specs.declared.Ran.{Ran}
use Rattle.messages.specs.declared.Filled.{Filled}
use Rattle.messages.specs.Run.{Sent, answer, run, part_from}
use Rattle.messages.specs.Promises.{Replied, RunEnded, PartEnded}

pub record Unmoved : Type 0 where
  -- a call; `moved_told` of `IsStep` says that its decision has a change just where it moved them
  pub by_step : (s : State) (c : Call) (bs : List ℕ) → moved_by (step s c bs) ≡ false
      → (left s (step s c bs)).tables ≡ s.tables
  -- a message
  pub by_message : (x : Sent) (s s' : State) (out out' : List ℕ) (r : Answered)
      → Replied s (answer (length out) s x) out s' out' r → r.moved ≡ false → s'.tables ≡ s.tables
  -- a run over any file
  pub by_run : (file : List ℕ) (s s' : State) (n : Tally) (out out' : List ℕ) (r : Ran)
      → RunEnded s (run (length out) file s) n out s' out' r → r.moved ≡ false → s'.tables ≡ s.tables
  -- a part of one, from any place of the file on
  pub by_part : (file : List ℕ) (at : ℕ) (s s' : State) (n : Tally) (out out' : List ℕ) (r : Filled)
      → PartEnded s (part_from (length out) file at s) n out s' out' r → r.moved ≡ false → s'.tables ≡ s.tables
