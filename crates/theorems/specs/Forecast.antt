-- Document 02, request [8]: "For sound tables, every pair of fitting stores and a reply buffer of at least 70, these
-- are the figures that the run itself would give." The run's side is read off its turns and replies.
use Rattle.std.specs.Prelude.{ℕ, ◌≤◌, ◌<◌, ◌≡◌, true, false, List, [], ◌∷◌, map, length, get_or, drop, replicate, ltb, eqb}
use Rattle.tables.specs.declared.Tables.{Tables}
use Rattle.tables.specs.Lists.{all, count, sum, maximum, listed}
use Rattle.tables.specs.Numbers.{accepted, broken_tables, misfit_store, short_buffer, too_many_frames, all_numbers}
use Rattle.tables.specs.Model.{made}
use Rattle.tables.specs.Rules.{frames_held, sound}
use Rattle.steps.specs.Stores.{fits}
use Rattle.steps.specs.Effects.{State, left, laid_by}
use Rattle.messages.specs.declared.Tally.{Tally}
use Rattle.messages.specs.Replies.{stopped, zero_tally}
use Rattle.messages.specs.Run.{Turn, messages_of, run, replies, tally}
use Rattle.messages.specs.Forecast.{Forecast, numbers_counted, forecast}
use Rattle.theorems.specs.Demand3.{reply_number}
use Rattle.theorems.specs.Hidden.{SameBut}

-- ---- the figures of a run, from its turns ts

-- "at the start or after any message": the state s that the run begins with, and the one that each turn leaves
abbrev pub states_through : State → List Turn → List State
states_through s ts = s ∷ map (λ (t : Turn). left t.found t.outcome) ts

-- "the most frames held"
abbrev pub most_held : State → List Turn → ℕ
most_held s ts = maximum (map (λ (r : State). frames_held r.tables) (states_through s ts))

-- "the bytes laid in all"
abbrev pub laid_in_all : List Turn → ℕ
laid_in_all ts = sum (map (λ (t : Turn). laid_by t.outcome) ts)

-- "how many messages get each number": how many replies carry number n, with a reply buffer of `room` bytes, 70 or more
abbrev pub how_many_get : ℕ → List Turn → ℕ → ℕ
how_many_get room ts n = count (λ (r : List ℕ). eqb (reply_number r) n) (replies room ts)

-- that f are these figures; "Figures stop at 4294967295"
pub record FiguresOf (room : ℕ) (s : State) (ts : List Turn) (f : Forecast) : Type 0 where
  pub number_is : f.number ≡ accepted
  -- never above P+S (`held_low`), so that no stop is needed
  pub most_is : f.most ≡ most_held s ts
  pub laid_is : f.laid ≡ stopped (laid_in_all ts)
  pub counts_are : (n : ℕ) → n < numbers_counted → get_or f.counts n 0 ≡ stopped (how_many_get room ts n)
  -- a count for each of these numbers, and no message gets another
  pub counts_long : length f.counts ≡ numbers_counted
  pub none_other : (n : ℕ) → numbers_counted ≤ n → how_many_get room ts n ≡ 0

-- ---- the tally

-- that goes with figures f: the messages are the sum of the counts, the refusals that of all but number 0
abbrev pub tally_forecast : Forecast → Tally
tally_forecast f =
    record { messages = stopped (sum f.counts); refusals = stopped (sum (drop 1 f.counts)); laid = f.laid }

-- ---- the request

-- a statement X of every run on sound tables, with fitting stores and a reply buffer of at least 70 bytes
abbrev pub OfRuns : (ℕ → List ℕ → State → Type 0) → Type 0
OfRuns X =
    (room : ℕ) (file : List ℕ) (s : State) → 70 ≤ room → sound s.tables ≡ true
    → fits s.tables (length s.fast) (length s.slow) ≡ true → X room file s

pub record Foretold : Type 0 where
  pub exact : OfRuns (λ room file s. FiguresOf room s (run room file s).turns (forecast s.tables file))
  -- the tally that the run leaves from a tally of zeros
  pub tally_agrees : OfRuns (λ room file s.
      tally (run room file s).turns zero_tally ≡ tally_forecast (forecast s.tables file))
  -- "Broken tables give 5 and zeros."
  pub broken : (t : Tables) (file : List ℕ) → sound t ≡ false
      → forecast t file ≡ record { number = 5; most = 0; laid = 0; counts = replicate 32 0 }
  -- "each number" is 0 and every number of the table in force; those that no message of such a run gets count 0
  pub table_counted : all (λ (n : ℕ). ltb n numbers_counted) (accepted ∷ all_numbers) ≡ true
  pub never_given : (t : Tables) (file : List ℕ) (n : ℕ)
      → listed n (broken_tables ∷ misfit_store ∷ short_buffer ∷ too_many_frames ∷ []) ≡ true
      → get_or (forecast t file).counts n 0 ≡ 0
  -- request [7]: on any tables, files of "the same messages, equal save for the values of the bytes that writes carry"
  -- have the same forecast; and "from fresh tables number 5 is never given"
  pub hidden : (t : Tables) (file file' : List ℕ) → SameBut (messages_of file) (messages_of file')
      → forecast t file ≡ forecast t file'
  pub from_fresh : (p s : ℕ) (file : List ℕ) → (forecast (made p s).tables file).number ≡ accepted
