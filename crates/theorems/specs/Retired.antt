-- Document 02, request [5]: "A frame is from now on free, held or retired, never two of these, and the three numbers
-- add up to P+S after any call file run on sound tables." A frame is held where a copy has it (`is_held`).
use Rattle.std.specs.Prelude.{ℕ, ◌+◌, ◌<◌, ◌≡◌, Bool, true, false, not, ◌&&◌, ◌||◌, List, [], ◌∷◌, eqb}
use Rattle.tables.specs.declared.Tables.{Tables}
use Rattle.tables.specs.Lists.{count_below}
use Rattle.tables.specs.Model.{frames, retired_at}
use Rattle.tables.specs.Rules.{free, is_held, frames_held, sound}
use Rattle.tables.specs.Changes.{with_retired}
use Rattle.steps.specs.declared.Call.{Call}
use Rattle.steps.specs.Kinds.{is_retire}
use Rattle.steps.specs.Stores.{block}
use Rattle.steps.specs.Steps.{Outcome, refuse, accept}
use Rattle.steps.specs.Effects.{bit, State, Result, joined, step}
use Rattle.messages.specs.Run.{asked, Turn, Run, run}
use Rattle.theorems.specs.Clean.{ever_held}

-- how many frames are free, held and retired, together
abbrev pub three_numbers : Tables → ℕ
three_numbers t = count_below (frames t) (free t) + frames_held t + count_below (frames t) (retired_at t)

-- "Kind 12, retire (frame)": a message that asks for it, and was accepted
abbrev pub retires_frame : Outcome Call → Outcome Result → ℕ → Bool
retires_frame (refuse n) o f = false
retires_frame (accept c) (refuse n) f = false
retires_frame (accept c) (accept r) f = is_retire c.kind && eqb c.frame f

-- one of the turns retired frame f
abbrev pub ever_retired : List Turn → ℕ → Bool
ever_retired [] f = false
ever_retired (t ∷ ts) f = retires_frame (asked t.sent) t.outcome f || ever_retired ts f

-- ".. so that it never takes a copy again", of frame f in turns that end with a state: from a turn that finds it
-- retired it is held in no state to the end, and holds there the bytes that it had
abbrev pub NeverAgain : ℕ → List Turn → State → Type 0
NeverAgain f [] end = retired_at end.tables f ≡ true → is_held end.tables f ≡ false
NeverAgain f (t ∷ ts) end =
    (retired_at t.found.tables f ≡ true
    → (ever_held (t ∷ ts) f ≡ false) × (is_held end.tables f ≡ false)
    × (block (joined end) f ≡ block (joined t.found) f))
    × NeverAgain f ts end

-- a frame retired more, and else the same; the tables move where it was not retired already
abbrev pub only_retired : State → ℕ → Result
only_retired s f =
    record {
      state = record { tables = with_retired s.tables f; fast = s.fast; slow = s.slow };
      moved = not (retired_at s.tables f);
      laid = 0;
      data_out = [];
    }

-- of a run r from state s
pub record KeepsRetired (s : State) (r : Run) : Type 0 where
  -- P and S are those of the start
  pub add_up : sound s.tables ≡ true → three_numbers r.final.tables ≡ s.tables.shared.p + s.tables.shared.s
  -- on any tables, sound or not: the retired frames are those of the start and those that a message retired, so none is
  -- ever taken back
  pub retired_exactly : (f : ℕ) → retired_at r.final.tables f ≡ (retired_at s.tables f || ever_retired r.turns f)
  pub never_again : sound s.tables ≡ true → (f : ℕ) → NeverAgain f r.turns r.final

pub record RetiredFrames : Type 0 where
  -- each frame of sound tables is one of the three, and not two of them
  pub one_of_three : (t : Tables) → sound t ≡ true → (f : ℕ) → f < frames t
      → bit (free t f) + bit (is_held t f) + bit (retired_at t f) ≡ 1
  -- of any file, with a reply buffer of any length
  pub runs : (room : ℕ) (file : List ℕ) (s : State) → KeepsRetired s (run room file s)
  -- a retire that is accepted, also of a frame already retired, retires the frame and does nothing else
  pub retire_alone : (s : State) (c : Call) (bs : List ℕ) (r : Result) → is_retire c.kind ≡ true
      → step s c bs ≡ accept r → r ≡ only_retired s c.frame
