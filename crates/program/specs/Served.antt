-- Document 01, "Cases": what the program takes and what it writes.
use Rattle.std.specs.Prelude.{ℕ, ◌*◌, ◌≤◌, ◌≡◌, List, length, replicate}
use Rattle.tables.specs.Model.{fresh_tables}
use Rattle.steps.specs.Promises.{state_of}
use Rattle.messages.specs.Run.{run, joined_replies}

-- "A program with P = S = 4": P and S each
abbrev pub frames_each : ℕ
frames_each = 4

-- "takes at most 60000 bytes of a call file"
abbrev pub most : ℕ
most = 60000

-- the bytes of a buffer that takes all replies to so many: 35 for each 4, and 70 more
abbrev pub replies_room : ℕ
replies_room = 525070

-- the stores at the start
abbrev pub zero_store : List ℕ
zero_store = replicate (64 * frames_each) 0

-- "and writes the replies": those of the run from fresh tables, one behind the other
abbrev pub output : List ℕ → List ℕ → List ℕ → List ℕ
output file fast slow = joined_replies 70
    (run 70 file (state_of (fresh_tables frames_each frames_each) fast slow)).turns

-- what the program lends: stores that fit, and a buffer for all replies
pub record Lends (file fast slow out : List ℕ) : Type 0 where
  pub file_short : length file ≤ most
  pub fast_fits : length fast ≡ 64 * frames_each
  pub slow_fits : length slow ≡ 64 * frames_each
  pub out_long : length out ≡ replies_room
