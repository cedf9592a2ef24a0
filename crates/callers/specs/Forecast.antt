-- Request [8] as a program in C has it: of the 34 numbers that `reel_forecast` laid, and of the tally that `reel_run`
-- leaves of the same file on the same bytes.
use Rattle.std.specs.Prelude.{ℕ, ◌≤◌, ◌≡◌, cond, List, [], ◌∷◌, ◌≢◌, length, get_or, drop, replicate}
use Rattle.tables.specs.Lists.{sum}
use Rattle.tables.specs.Numbers.{accepted, broken_tables}
use Rattle.tables.specs.Rules.{sound}
use Rattle.steps.specs.Steps.{rules_number}
use Rattle.messages.specs.Forecast.{Forecast}
use Rattle.messages.specs.Replies.{stopped}
use Rattle.messages.specs.Run.{run}
use Rattle.theorems.specs.Forecast.{FiguresOf}
use Rattle.embed.specs.Exports.{tables_of, figures_size, ForecastPromised, Kept, state_in, RunPromised}
use Rattle.callers.specs.Calls.{Called, Calls, kept_after}
use Rattle.callers.specs.Lent.{FromFresh}

-- the figures in the number r that was given and the numbers l that were laid, as include/reel.h takes them apart
abbrev pub figures_in : ℕ → List ℕ → Forecast
figures_in r l = record { number = r; most = get_or l 0 0; laid = get_or l 1 0; counts = drop 2 l }

-- `reel_rules` answers 0: the tables are sound, and the stores fit
abbrev pub RulesHold : Kept → Type 0
RulesHold k = rules_number (tables_of k.tables) (length k.fast) (length k.slow) ≡ accepted

-- k: what the program keeps; r, l: what `reel_forecast` gave and laid of a file
pub record ForecastHad (k : Kept) (file : List ℕ) (r : ℕ) (l : List ℕ) : Type 0 where
  pub number_told : r ≡ cond (sound (tables_of k.tables)) accepted broken_tables
  -- "Broken tables give 5 and zeros."
  pub zeros_told : r ≢ accepted → l ≡ replicate 34 0
  -- the figures are those of the run over the file
  pub figures_had : RulesHold k → (room : ℕ) → 70 ≤ room
      → FiguresOf room (state_in k) (run room file (state_in k)).turns (figures_in r l)
  -- and `reel_run`, from a tally of zeros, leaves the tally that goes with them
  pub tally_had : RulesHold k → (out out' n : List ℕ) (k' : Kept) → 70 ≤ length out
      → RunPromised k file out (0 ∷ 0 ∷ 0 ∷ []) k' out' n
      → n ≡ stopped (sum (drop 2 l)) ∷ stopped (sum (drop 3 l)) ∷ get_or l 1 0 ∷ []

pub record ForecastLent : Type 0 where
  -- on any bytes, whether they hold tables or not; 34 numbers are lent
  pub any_bytes : (k : Kept) (file l l' : List ℕ) (r : ℕ) → length l ≡ figures_size
      → ForecastPromised k.tables file l l' r → ForecastHad k file r l'
  -- after any calls from `reel_fresh` on, with stores that fit, `reel_forecast` gives 0 and `reel_rules` answers 0
  pub from_fresh : FromFresh (λ p s fast slow k. (cs : List Called) → Calls k cs → (file l l' : List ℕ) (r : ℕ)
      → ForecastPromised (kept_after k cs).tables file l l' r → (r ≡ accepted) × RulesHold (kept_after k cs))
