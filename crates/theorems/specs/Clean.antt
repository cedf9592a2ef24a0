-- Document 02, request [2]: "the mills' rule on withdrawn media now wants deleted records gone". What a run leaves in
-- the frames that no copy has at its end.
use Rattle.std.specs.Prelude.{ℕ, ◌*◌, ◌≤◌, ◌<◌, ◌≡◌, Bool, false, ◌||◌, cond, List, [], ◌∷◌, length, replicate}
use Rattle.tables.specs.declared.Tables.{Tables}
use Rattle.tables.specs.Model.{frames, fresh_tables}
use Rattle.tables.specs.Rules.{is_held}
use Rattle.steps.specs.Stores.{block, zeros}
use Rattle.steps.specs.Effects.{State, joined}
use Rattle.messages.specs.Run.{Turn, Run, run}

-- held in a state that one of the turns found
abbrev pub ever_held : List Turn → ℕ → Bool
ever_held [] f = false
ever_held (t ∷ ts) f = is_held t.found.tables f || ever_held ts f

-- After a run r from state s a frame that is not held at the end holds 64 zeros if it was held at any time, and else
-- the bytes that it began with. Only frames in range: 255 would ask for null copies.
abbrev pub Cleared : State → Run → Type 0
Cleared s r =
    (f : ℕ) → f < frames s.tables → is_held r.final.tables f ≡ false
    → block (joined r.final) f ≡ cond (ever_held r.turns f) zeros (block (joined s) f)

-- what is so of each slow frame, which are numbered from P on
abbrev pub EachSlow : Tables → (ℕ → Type 0) → Type 0
EachSlow t X = (f : ℕ) → t.shared.p ≤ f → f < frames t → X f

-- a card is blank where each of its frames that no copy has holds zeros
abbrev pub Blank : State → Type 0
Blank s = EachSlow s.tables (λ f. is_held s.tables f ≡ false → block (joined s) f ≡ zeros)

-- no copy is on a card
abbrev pub NoneHeld : Tables → Type 0
NoneHeld t = EachSlow t (λ f. is_held t f ≡ false)

-- of a run r from state s
pub record LeftClean (s : State) (r : Run) : Type 0 where
  pub frames_cleared : Cleared s r
  -- a run leaves a blank card blank
  pub stays_blank : Blank s → Blank r.final
  -- a card that is blank at the start, and that no copy is on at the end, is all zeros there, if the stores fit
  pub card_cleared : length s.fast ≡ 64 * s.tables.shared.p → length s.slow ≡ 64 * s.tables.shared.s
      → Blank s → NoneHeld r.final.tables → r.final.slow ≡ replicate (64 * s.tables.shared.s) 0

pub record Clean : Type 0 where
  -- of any file, with a reply buffer of any length, on any tables and stores
  pub runs : (room : ℕ) (file : List ℕ) (s : State) → LeftClean s (run room file s)
  -- a card of zeros is blank where the tables are fresh
  pub fresh_blank : (p s : ℕ) (fast : List ℕ) → length fast ≡ 64 * p
      → Blank (record { tables = fresh_tables p s; fast = fast; slow = replicate (64 * s) 0 })
