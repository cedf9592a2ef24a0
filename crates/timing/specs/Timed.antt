-- What the functions for the benchmark and the tests leave.
use Rattle.std.specs.Prelude.{ℕ, zero, suc, ◌+◌, ◌*◌, ◌%◌, cond, List, ◌≡◌, length, get_or, set}
use Rattle.tables.specs.declared.Tables.{Tables}
use Rattle.tables.specs.declared.Page.{Page}
use Rattle.tables.specs.Model.{with_pages, page_at}
use Rattle.tables.specs.Rules.{sound}
use Rattle.steps.specs.Effects.{State}
use Rattle.steps.specs.Promises.{Lent, lent}
use Rattle.messages.specs.declared.Tally.{Tally}
use Rattle.messages.specs.Replies.{zero_tally}
use Rattle.messages.specs.Run.{Run, buffer, tally}
use Rattle.embed.specs.Exports.{with_tables}
use Rattle.timing.specs.declared.Left.{Left}

-- what `answers` leaves of a run w, with a tally n and a reply buffer: the state s', the buffer and the tally
pub record AnswersEnded (w : Run) (n : Tally) (out : List ℕ) (s' : State) (out' : List ℕ) (r : Left) : Type 0 where
  pub state_out : s' ≡ w.final
  pub buffer_out : out' ≡ buffer (length out) w.turns out
  pub tally_out : r.tally ≡ tally w.turns n

-- what `reel_answers` leaves of a run w: the tables, stores and buffer as `reel_run` leaves them, and the count of the
-- messages
pub record AnsweredAll (w : Run) (b : List ℕ) (l : Lent) (b' : List ℕ) (l' : Lent) (r : ℕ) : Type 0 where
  pub tables_out : b' ≡ with_tables b w.final.tables
  pub lent_out : l' ≡ lent w.final.fast w.final.slow (buffer (length l.out) w.turns l.out)
  pub told : r ≡ (tally w.turns zero_tally).messages

abbrev pub with_owner : Page → ℕ → Page
with_owner g s = record { rights = g.rights; copies = g.copies; owner = s; n = g.n }

-- the tables with another record of page 0, which has the same copies
abbrev pub with_first : Tables → Page → Tables
with_first t g = with_pages t (set t.pages 0 g) t.register

-- the tables with another owner of page 0
abbrev pub owned : Tables → ℕ → Tables
owned t s = with_first t (with_owner (page_at t 0) s)

-- how many of k tests hold, the owner of page 0 going round the stations
unfoldable pub sound_times : Tables → ℕ → ℕ
sound_times t zero = 0
sound_times t (suc k) = sound_times t k + cond (sound (owned t (k % 16))) 1 0

-- how many bytes there are and the first of them, in one; 0 where there are none
abbrev pub first_number : List ℕ → ℕ
first_number bytes = 256 * length bytes + get_or bytes 0 0

-- the three bytes of a look at a frame, in one, the first one lowest
abbrev pub shown_number : List ℕ → ℕ
shown_number bytes = get_or bytes 0 0 + 256 * get_or bytes 1 0 + 65536 * get_or bytes 2 0
