-- What the exported functions answer, and what they leave in the bytes that they are lent.
use Rattle.std.specs.Prelude.{ℕ, ◌+◌, ◌*◌, Bool, ◌&&◌, cond, List, [], ◌∷◌, ◌≡◌, length, get_or, eqb}
use Rattle.stations.specs.Reader.{Reading, Refused, Reply}
use Rattle.tables.specs.declared.Tables.{Tables}
use Rattle.tables.specs.Lists.{all}
use Rattle.tables.specs.Numbers.{broken_tables}
use Rattle.tables.specs.Model.{fresh_tables, made}
use Rattle.steps.specs.declared.Call.{Call}
use Rattle.steps.specs.declared.Place.{Place}
use Rattle.steps.specs.Stores.{over}
use Rattle.steps.specs.Steps.{Outcome, refuse, accept, number_of}
use Rattle.steps.specs.Effects.{State, Result, left, laid_by, read_place}
use Rattle.steps.specs.Promises.{state_of, Lent, lent}
use Rattle.messages.specs.declared.Tally.{Tally}
use Rattle.messages.specs.Replies.{reply_in, zero_tally, is_refusal}
use Rattle.messages.specs.Run.{answer, Turn, Run, run, buffer, tally, joined_replies, Part, part_from}
use Rattle.messages.specs.Forecast.{numbers_counted, forecast, Forecast}
use Rattle.messages.specs.Promises.{sent_alone}
use Rattle.stations.specs.Writer.{message_in}
use Rattle.embed.specs.Bytes.{tables_size, tables_bytes, tables_from, marks_valid}

-- ---- version

-- three numbers in one that a program can compare
abbrev pub version_number : ℕ → ℕ → ℕ → ℕ
version_number major minor patch = 65536 * major + 256 * minor + patch

-- 5.1.0
abbrev pub version : ℕ
version = version_number 5 1 0

-- ---- tables

-- whether lent bytes are as many as tables take
abbrev pub tables_sized : List ℕ → Bool
tables_sized b = eqb (length b) tables_size

-- whether they hold tables: each mark is 0 or 1
abbrev pub tables_in : List ℕ → Bool
tables_in b = tables_sized b && marks_valid b

-- tables that break a rule: P is above 127
abbrev pub no_tables : Tables
no_tables = fresh_tables 255 0

-- the tables in lent bytes; bytes that hold none are broken tables
abbrev pub tables_of : List ℕ → Tables
tables_of b = cond (tables_in b) (tables_from b) no_tables

-- lent bytes with t put into them; bytes that hold no tables are left alone
abbrev pub with_tables : List ℕ → Tables → List ℕ
with_tables b t = cond (tables_in b) (tables_bytes t) b

-- what `reel_fresh` gives: its number, and the lent bytes as it leaves them
pub record FreshResult : Type 0 where
  pub number : ℕ
  pub bytes : List ℕ

-- fresh tables into lent bytes, whatever they held; bytes of another length are left alone
abbrev pub fresh_into : ℕ → ℕ → List ℕ → FreshResult
fresh_into p s b =
    record {
      number = cond (tables_sized b) (made p s).number broken_tables;
      bytes = cond (tables_sized b) (tables_bytes (made p s).tables) b;
    }

-- ---- the tally

abbrev pub tally_sized : List ℕ → Bool
tally_sized l = eqb (length l) 3

-- the tally in three lent numbers; any other number of them counts as a tally of zeros
abbrev pub tally_of : List ℕ → Tally
tally_of l =
    cond (tally_sized l) (record { messages = get_or l 0 0; refusals = get_or l 1 0; laid = get_or l 2 0 })
    zero_tally

-- three lent numbers with the tally n put into them; any other number of them is left alone
abbrev pub with_tally : List ℕ → Tally → List ℕ
with_tally l n = cond (tally_sized l) (n.messages ∷ n.refusals ∷ n.laid ∷ []) l

-- ---- the figures of a forecast

abbrev pub figures_size : ℕ
figures_size = 2 + numbers_counted

-- the most frames held, the bytes laid, and the counts, from number 0 on
abbrev pub figure_numbers : Forecast → List ℕ
figure_numbers f = f.most ∷ f.laid ∷ f.counts

-- 34 lent numbers with the figures of f put into them; any other number of them is left alone
abbrev pub with_figures : List ℕ → Forecast → List ℕ
with_figures l f = cond (eqb (length l) figures_size) (figure_numbers f) l

-- what `reel_forecast` leaves of lent numbers l, on the tables in the bytes b and with a file, and the number that it
-- gives; b is lent to be read, and stays as it was
pub record ForecastPromised (b file l l' : List ℕ) (r : ℕ) : Type 0 where
  pub told : r ≡ (forecast (tables_of b) file).number
  pub figures_out : l' ≡ with_figures l (forecast (tables_of b) file)

-- ---- a read as a place

-- which store a place is in: 0 the fast one, 1 the slow one
abbrev pub store_number : Bool → ℕ
store_number slow = cond slow 1 0

-- the length, the store and the offset in it, in one; 0 where a read is refused
abbrev pub place_number : Place → ℕ
place_number place = place.len + 256 * store_number place.slow + 65536 * place.start

-- the number that `reel_read` gives of a read c on the tables in lent bytes, with stores of these lengths
abbrev pub read_number : List ℕ → ℕ → ℕ → Call → ℕ
read_number b fast slow c = place_number (read_place (tables_of b) fast slow c)

-- ---- what a message and a run leave

-- the state in lent bytes
abbrev pub lent_state : List ℕ → List ℕ → List ℕ → State
lent_state b fast slow = state_of (tables_of b) fast slow

-- lent bytes after a message that comes to o: a refusal leaves every byte as it was
abbrev pub left_in : List ℕ → Outcome Result → List ℕ
left_in b (refuse n) = b
left_in b (accept r) = with_tables b r.state.tables

-- the number, the length of the reply and the bytes laid, in one
abbrev pub packed : ℕ → ℕ → ℕ → ℕ
packed number len laid = number + 256 * len + 65536 * laid

-- what `reel_answer` leaves of the bytes b of the tables, and of the stores and the buffer l, where a message on state
-- s comes to o
pub record AnswerLent (s : State) (o : Outcome Result) (b : List ℕ) (l : Lent) (b' : List ℕ) (l' : Lent) (r : ℕ)
    : Type 0 where
  pub told : r ≡ packed (number_of o) (length (reply_in (length l.out) o)) (laid_by o)
  pub tables_out : b' ≡ left_in b o
  pub lent_out : l' ≡ lent (left s o).fast (left s o).slow (over (reply_in (length l.out) o) l.out)

-- whether every message was refused, of the turns of a run
abbrev pub all_refused : List Turn → Bool
all_refused ts = all (λ (t : Turn). is_refusal t.outcome) ts

-- What `reel_run` leaves of the bytes b of the tables, of the stores and the buffer l and of the tally n, after a run
-- w. Where every message was refused, or the file is empty, every byte of b stays, whatever it was (`refused_run`).
pub record RunLent (w : Run) (b : List ℕ) (l : Lent) (n : List ℕ) (b' : List ℕ) (l' : Lent) (n' : List ℕ) : Type 0 where
  pub tables_out : b' ≡ with_tables b w.final.tables
  pub lent_out : l' ≡ lent w.final.fast w.final.slow (buffer (length l.out) w.turns l.out)
  pub tally_out : n' ≡ with_tally n (tally w.turns (tally_of n))

-- What `reel_replies` leaves of them after a part w of a run, the bytes of the buffer that are used and the place
-- reached. `refused_part` says of it what `refused_run` says of a run.
pub record RepliesLent (w : Part) (b : List ℕ) (l : Lent) (n : List ℕ) (b' : List ℕ) (l' : Lent) (n' : List ℕ)
    (used r : ℕ) : Type 0 where
  pub place_told : r ≡ w.place
  pub used_told : used ≡ length (joined_replies (length l.out) w.turns)
  pub tables_out : b' ≡ with_tables b w.final.tables
  pub lent_out :
      l' ≡ lent w.final.fast w.final.slow (over (joined_replies (length l.out) w.turns) l.out)
  pub tally_out : n' ≡ with_tally n (tally w.turns (tally_of n))

-- ---- the contracts of the three functions that change a unit, each as one definition, which the theorems of callers
-- cite too

-- what a caller keeps from one call to the next: the bytes of the tables, and both stores
pub record Kept : Type 0 where
  pub tables : List ℕ
  pub fast : List ℕ
  pub slow : List ℕ

abbrev pub kept : List ℕ → List ℕ → List ℕ → Kept
kept b fast slow = record { tables = b; fast = fast; slow = slow }

-- the state in it
abbrev pub state_in : Kept → State
state_in k = lent_state k.tables k.fast k.slow

-- `reel_answer` on k, with a message and a buffer: what it leaves of k and of the buffer, and the number that it gives
abbrev pub AnswerPromised : Kept → List ℕ → List ℕ → Kept → List ℕ → ℕ → Type 0
AnswerPromised k message out k' out' r =
    AnswerLent (state_in k) (answer (length out) (state_in k) (sent_alone message)) k.tables
    (lent k.fast k.slow out)
    k'.tables (lent k'.fast k'.slow out') r

-- `reel_run` on k, with a file, a buffer and a tally: what it leaves of k, of the buffer and of the tally
abbrev pub RunPromised : Kept → List ℕ → List ℕ → List ℕ → Kept → List ℕ → List ℕ → Type 0
RunPromised k file out n k' out' n' =
    RunLent (run (length out) file (state_in k)) k.tables (lent k.fast k.slow out) n
    k'.tables (lent k'.fast k'.slow out') n'

-- `reel_replies` likewise, from a place of the file on; the bytes used, and the place that it gives
abbrev pub RepliesPromised : Kept → List ℕ → ℕ → List ℕ → List ℕ → Kept → List ℕ → List ℕ → ℕ → ℕ → Type 0
RepliesPromised k file at out n k' out' n' used r =
    RepliesLent (part_from (length out) file at (state_in k)) k.tables (lent k.fast k.slow out) n
    k'.tables (lent k'.fast k'.slow out') n' used r

-- ---- for stations

-- what `reel_write` leaves of a call that comes to o: the number and the length of the message, in one, and the message
-- at the front of the buffer
pub record WriteLent (o : Outcome (List ℕ)) (out out' : List ℕ) (r : ℕ) : Type 0 where
  pub told : r ≡ packed (number_of o) (length (message_in o)) 0
  pub buffer_out : out' ≡ over (message_in o) out

-- What is read of a reply, in one number: the reader's own refusal, 1 to 4, in the lowest byte; where that is 0, the
-- number that the reply carries in the second, the bytes laid in the next two, and in the fifth and sixth where the
-- data start and how many they are.
abbrev pub reading_number : Reading → ℕ
reading_number (Refused n) = n
reading_number (Reply number laid start len) = 256 * number + 65536 * laid + 4294967296 * start + 1099511627776 * len
