-- Document 01, "Call files and replies": one message, and the run over a call file.
use Rattle.std.specs.Prelude.{ℕ, zero, suc, ◌+◌, ◌-◌, ◌*◌, Bool, false, ◌||◌, cond, length, take, drop, ltb}
use mathlib.Core.List.{List, [], ◌∷◌, map, flatten}
use Rattle.tables.specs.Numbers.{cut_short, short_buffer}
use Rattle.steps.specs.Stores.{part, over}
use Rattle.steps.specs.Steps.{Outcome, refuse, accept, test}
use Rattle.steps.specs.Effects.{State, Result, step, left, moved_by, laid_by}
use Rattle.steps.specs.declared.Call.{Call}
use Rattle.messages.specs.declared.Next.{Next}
use Rattle.messages.specs.declared.Next.TheVariants.{Message, Cut, End}
use Rattle.messages.specs.declared.Tally.{Tally}
use Rattle.messages.specs.Messages.{parse, write_bytes}
use Rattle.messages.specs.Replies.{reply_in, counted, is_refusal}

-- a message as the reader yields it: cut short, or whole, the L bytes after its length
pub data Sent : Type 0 where
  cut : Sent
  whole : List ℕ → Sent

-- what a message asks for by its own bytes
abbrev pub asked : Sent → Outcome Call
asked cut = refuse cut_short
asked (whole m) = parse m

abbrev pub bytes_of : Sent → List ℕ
bytes_of cut = []
bytes_of (whole m) = write_bytes m

-- what a message asks for, case by case: its own number, or its call, which is a step
abbrev pub respond : State → Outcome Call → List ℕ → Outcome Result
respond s (refuse n) bs = refuse n
respond s (accept c) bs = step s c bs

-- One message, with a reply buffer of `room` bytes: 18, 1, 2, 3, 4, and then the step.
unfoldable pub answer : ℕ → State → Sent → Outcome Result
answer room s x = test (ltb room 70) short_buffer (respond s (asked x) (bytes_of x))

-- a turn of a run: the state that it found, the message, and what that came to
pub record Turn : Type 0 where
  pub found : State
  pub sent : Sent
  pub outcome : Outcome Result

abbrev pub turn_of : ℕ → State → Sent → Turn
turn_of room s x = record { found = s; sent = x; outcome = answer room s x }

abbrev pub left_by : ℕ → State → Sent → State
left_by room s x = left s (answer room s x)

-- ---- the run over a call file

-- The messages of a file l, at most k of them: "a 2-byte big-endian length L of what follows"; "Every message is passed
-- over by its L, refused or not; one cut short ends the file"; 1: "one byte left, or fewer than L after the length".
unfoldable pub split : ℕ → List ℕ → List Sent
split zero l = []
split (suc k) [] = []
split (suc k) (a ∷ []) = cut ∷ []
split (suc k) (a ∷ b ∷ l) =
    cond (ltb (length l) (a * 256 + b)) (cut ∷ []) (whole (take (a * 256 + b) l) ∷ split k (drop (a * 256 + b) l))

-- Each message takes two bytes at the least, so a file has no more messages than bytes.
unfoldable pub messages_of : List ℕ → List Sent
messages_of file = split (length file) file

-- What the reader's answer `Next` says, case by case, of the messages from its place on: at the end none; cut short,
-- the one message that is answered 1; else the L bytes of a message, and those that follow it.
abbrev pub yielded : List ℕ → Next → List Sent
yielded file End = []
yielded file Cut = cut ∷ []
yielded file (Message start len next) = whole (part file start len) ∷ messages_of (drop next file)

-- "Each later one gets the tables and stores that the one before it left"
unfoldable pub turns_of : ℕ → State → List Sent → List Turn
turns_of room s [] = []
turns_of room s (x ∷ xs) = turn_of room s x ∷ turns_of room (left_by room s x) xs

unfoldable pub end_of : ℕ → State → List Sent → State
end_of room s [] = s
end_of room s (x ∷ xs) = end_of room (left_by room s x) xs

-- the turns of a run, in the file's order, and the state at its end
pub record Run : Type 0 where
  pub turns : List Turn
  pub final : State

abbrev pub run : ℕ → List ℕ → State → Run
run room file s = record { turns = turns_of room s (messages_of file); final = end_of room s (messages_of file) }

-- ---- what the caller of a run has at its end

-- "the replies of a run are the list of these"
abbrev pub replies : ℕ → List Turn → List (List ℕ)
replies room ts = map (λ (t : Turn). reply_in room t.outcome) ts

-- "One reply buffer serves the whole run"; "Reply bytes past the reply remain as lent."
unfoldable pub buffer : ℕ → List Turn → List ℕ → List ℕ
buffer room [] out = out
buffer room (t ∷ ts) out = buffer room ts (over (reply_in room t.outcome) out)

unfoldable pub tally : List Turn → Tally → Tally
tally [] n = n
tally (t ∷ ts) n = tally ts (counted n (is_refusal t.outcome) (laid_by t.outcome))

-- whether one of the messages moved the tables: where none did, they are those that came in (`unmoved_end`,
-- `unmoved_after`)
unfoldable pub moved_in : List Turn → Bool
moved_in [] = false
moved_in (t ∷ ts) = moved_by t.outcome || moved_in ts

-- ---- a part of a run: its replies one behind the other, as far as the buffer takes them

abbrev pub joined_replies : ℕ → List Turn → List ℕ
joined_replies room ts = flatten (replies room ts)

-- A buffer of which so many bytes are used is full where fewer than 70 are left. One below 70 bytes takes no reply, so
-- that none are ever used, and it is never full.
abbrev pub full : ℕ → ℕ → Bool
full room used = ltb (room - 70) used

-- the turns that are served before the buffer is full
unfoldable pub served : ℕ → ℕ → List Turn → List Turn
served room used [] = []
served room used (t ∷ ts) = cond (full room used) [] (t ∷ served room (used + length (reply_in room t.outcome)) ts)

-- "Every message is passed over by its L, refused or not; one cut short ends the file": the place past one at `at`
abbrev pub passed : ℕ → ℕ → Sent → ℕ
passed end at cut = end
passed end at (whole m) = at + 2 + length m

unfoldable pub place_after : ℕ → ℕ → List Turn → ℕ
place_after end at [] = at
place_after end at (t ∷ ts) = place_after end (passed end at t.sent) ts

unfoldable pub state_after : State → List Turn → State
state_after s [] = s
state_after s (t ∷ ts) = state_after (left t.found t.outcome) ts

-- a part of a run: its turns, the place of the file that it reaches, and the state there
pub record Part : Type 0 where
  pub turns : List Turn
  pub place : ℕ
  pub final : State

-- the turns from a place of the file on, that a buffer of `room` bytes takes
abbrev pub turns_from : ℕ → List ℕ → ℕ → State → List Turn
turns_from room file at s = served room 0 (turns_of room s (messages_of (drop at file)))

abbrev pub part_from : ℕ → List ℕ → ℕ → State → Part
part_from room file at s =
    record {
      turns = turns_from room file at s;
      place = place_after (length file) at (turns_from room file at s);
      final = state_after s (turns_from room file at s);
    }
