-- Document 02, request [8], "Forecast of a call file": "Planners want to know before a shift change whether a list of
-- moves fits." No store has a part in these definitions; that they give "the figures that the run itself would give" is
-- a theorem (`Foretold` in crate theorems).
use Rattle.std.specs.Prelude.{ℕ, max, cond, List, [], ◌∷◌, length, get_or, set, replicate, Result, Ok, Err}
use Rattle.tables.specs.declared.Tables.{Tables}
use Rattle.tables.specs.declared.refusals.Refusal.{Refusal}
use Rattle.tables.specs.Numbers.{accepted, broken_tables, refusal_number}
use Rattle.tables.specs.Rules.{frames_held, sound}
use Rattle.steps.specs.declared.Call.{Call}
use Rattle.steps.specs.declared.Plan.{Plan}
use Rattle.steps.specs.Steps.{Outcome, refuse, accept, decide, number_of}
use Rattle.steps.specs.Effects.{tables_left}
use Rattle.steps.specs.Promises.{laid_of}
use Rattle.messages.specs.declared.Figures.{Figures}
use Rattle.messages.specs.Replies.{up_to}
use Rattle.messages.specs.Run.{Sent, asked, bytes_of, messages_of}

-- ---- one message on tables t

-- its number, the bytes that it lays, and the tables after it
pub record Foreseen : Type 0 where
  pub number : ℕ
  pub laid : ℕ
  pub tables : Tables

-- a call c that comes to o
abbrev pub foreseen_call : Tables → Call → Outcome Plan → Foreseen
foreseen_call t c o = record { number = number_of o; laid = laid_of o; tables = tables_left t c o }

-- what a message asks for, case by case; a write has `size` bytes. 5, 6 and 18 are not tested: the tables are sound,
-- and the run that is forecast has stores that fit and a reply buffer of 70 bytes or more
abbrev pub foreseen_by : Tables → Outcome Call → ℕ → Foreseen
foreseen_by t (refuse n) size = record { number = n; laid = 0; tables = t }
foreseen_by t (accept c) size = foreseen_call t c (decide t c size)

abbrev pub foreseen : Tables → Sent → Foreseen
foreseen t x = foreseen_by t (asked x) (length (bytes_of x))

-- ---- "the most frames held at the start or after any message, the bytes laid in all, and how many messages get each
-- number"

-- A count for each of the numbers 0 to 31, at its place: for those of the table in force and for those that later
-- requests add.
abbrev pub numbers_counted : ℕ
numbers_counted = 32

abbrev pub no_counts : List ℕ
no_counts = replicate numbers_counted 0

-- "Figures stop at 4294967295": one message more under number n
abbrev pub counted_under : List ℕ → ℕ → List ℕ
counted_under counts n = set counts n (up_to (get_or counts n 0) 1)

-- the figures, with 0, or 5 for broken tables
pub record Forecast : Type 0 where
  pub number : ℕ
  pub most : ℕ
  pub laid : ℕ
  pub counts : List ℕ

-- "at the start": no message is answered yet
abbrev pub at_start : Tables → Forecast
at_start t = record { number = accepted; most = frames_held t; laid = 0; counts = no_counts }

-- "or after any message": one more, m
abbrev pub with_message : Forecast → Foreseen → Forecast
with_message f m =
    record {
      number = f.number;
      most = max f.most (frames_held m.tables);
      laid = up_to f.laid m.laid;
      counts = counted_under f.counts m.number;
    }

-- document 01: "Each later one gets the tables .. that the one before it left"
unfoldable pub forecast_of : Forecast → Tables → List Sent → Forecast
forecast_of f t [] = f
forecast_of f t (x ∷ xs) = forecast_of (with_message f (foreseen t x)) (foreseen t x).tables xs

-- "Broken tables give 5 and zeros."
abbrev pub zeros_with : ℕ → Forecast
zeros_with n = record { number = n; most = 0; laid = 0; counts = no_counts }

abbrev pub no_forecast : Forecast
no_forecast = zeros_with broken_tables

-- "Given tables and a call file, without any store"
abbrev pub forecast : Tables → List ℕ → Forecast
forecast t file = cond (sound t) (forecast_of (at_start t) t (messages_of file)) no_forecast

-- ---- what the code answers

abbrev pub figures_told : Figures → Forecast
figures_told f = record { number = accepted; most = f.most; laid = f.laid; counts = f.counts }

-- a refusal is told with zeros
abbrev pub forecast_told : Result Figures Refusal → Forecast
forecast_told (Ok f) = figures_told f
forecast_told (Err refusal) = zeros_with (refusal_number refusal)
