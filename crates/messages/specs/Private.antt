-- What the private functions of this layer ask of each other and promise. For the proofs alone: no exported contract
-- names it.
use Rattle.std.specs.Prelude.{ℕ, ◌+◌, ◌≤◌, ◌≡◌, Bool, true, false, ◌||◌, cond, is_some, List, [], ◌∷◌, ◌++◌, length, drop, ltb, eqb}
use Rattle.tables.specs.declared.Tables.{Tables}
use Rattle.tables.specs.Numbers.{accepted, cut_short, short_buffer}
use Rattle.tables.specs.Rules.{frames_held, sound}
use Rattle.steps.specs.declared.Decision.{Decision}
use Rattle.steps.specs.Stores.{part, over, splice}
use Rattle.steps.specs.Steps.{Outcome, refuse, accept, decide, decide_any}
use Rattle.steps.specs.Effects.{State, Result, left, moved_by, laid_by}
use Rattle.steps.specs.Promises.{decision_of, Lent, lent, carried, settled}
use Rattle.steps.specs.declared.Call.{Call}
use Rattle.messages.specs.declared.Next.{Next}
use Rattle.messages.specs.declared.Next.TheVariants.{Message, Cut, End}
use Rattle.messages.specs.declared.Tally.{Tally}
use Rattle.messages.specs.declared.Filled.{Filled}
use Rattle.messages.specs.Replies.{be16, reply_in, counted, is_refusal}
use Rattle.messages.specs.Messages.{parse, next_at}
use Rattle.messages.specs.Run.{Sent, answer, messages_of, full, passed}

-- ---- the reader

-- what is due at a place: nothing more, as at the end, where the buffer is full
abbrev pub due_at : List ℕ → ℕ → Bool → Next
due_at file at is_full = cond is_full End (next_at file at)

abbrev pub is_end : Next → Bool
is_end (Message start len next) = false
is_end Cut = false
is_end End = true

-- the place past a message of a file of `end` bytes
abbrev pub past_of : ℕ → Next → ℕ
past_of end (Message start len next) = next
past_of end Cut = end
past_of end End = end

-- the reader's answer at some place of the file
pub record FoundIn (file : List ℕ) (next : Next) : Type 0 where
  pub at : ℕ
  pub found : next ≡ next_at file at

-- ---- one message

-- the bytes of the message that the reader yields; none where it is cut short
abbrev pub message_bytes : List ℕ → Next → List ℕ
message_bytes l (Message start len next) = part l start len
message_bytes l Cut = []
message_bytes l End = []

-- what a message m at which the reader stood asks for
abbrev pub asked_at : Next → List ℕ → Outcome Call
asked_at (Message start len next) m = parse m
asked_at Cut m = refuse cut_short
asked_at End m = refuse cut_short

-- a refusal as it is, and a call turned back with `known`, unless that is 0
abbrev pub unless_known : ℕ → Outcome Call → Outcome Call
unless_known known (refuse n) = refuse n
unless_known known (accept c) = cond (eqb known accepted) (accept c) (refuse known)

-- turned back, or what f makes of its call
abbrev pub and_then : Outcome Call → (Call → Outcome Decision) → Outcome Decision
and_then (refuse n) f = refuse n
and_then (accept c) f = f c

-- a message that asks for m, with `size` bytes of a write, decided on sound tables with stores that fit
abbrev pub decided_on : Tables → ℕ → Outcome Call → Outcome Decision
decided_on t size m = and_then m (λ (c : Call). decision_of t c (decide t c size))

-- and on any tables, with stores of any lengths
abbrev pub decided_any : Tables → ℕ → ℕ → ℕ → Outcome Call → Outcome Decision
decided_any t fast slow size m = and_then m (λ (c : Call). decision_of t c (decide_any t fast slow c size))

-- the first of these that turns a message back, and else its call, with a reply buffer of `room` bytes: 18; the
-- message's own 1 to 4; `known`, which is 5, 6 or 0
abbrev pub early : Outcome Call → ℕ → ℕ → Outcome Call
early m known room = cond (ltb room 70) (refuse short_buffer) (unless_known known m)

-- ---- replies

-- the first six bytes of a reply with `len` bytes of data
abbrev pub heading : ℕ → ℕ → ℕ → List ℕ
heading number laid len = be16 (4 + len) ++ (1 ∷ number ∷ be16 laid)

-- a buffer with room for these six bytes, and no more data than a reply has
pub record HeadRoom (out : List ℕ) (len : ℕ) : Type 0 where
  pub room : 6 ≤ length out
  pub few : len ≤ 64

-- a buffer with room for any reply
pub record ReplyRoom (out : List ℕ) (len : ℕ) : Type 0 where
  pub room : 70 ≤ length out
  pub few : len ≤ 64

-- the part of the buffer that takes the data, and what is lent with it
abbrev pub data_part : Lent → Lent
data_part l = lent l.fast l.slow (part l.out 6 64)

-- a decision carried out, with its reply at the front of the buffer
abbrev pub replied_with : Decision → List ℕ → Lent → Lent
replied_with d bs l =
    record {
      fast = (carried d bs (data_part l)).fast;
      slow = (carried d bs (data_part l)).slow;
      out = heading accepted d.laid d.len ++ ((carried d bs (data_part l)).out ++ drop 70 l.out);
    }

-- ---- what a message was decided to be: turned back, or a decision

-- a buffer with room for the reply, where there is a decision
abbrev pub RoomFor : List ℕ → Outcome Decision → Type 0
RoomFor out (refuse n) = Unit {0}
RoomFor out (accept d) = ReplyRoom out d.len

-- what was decided, carried out and replied
abbrev pub replied_by : Outcome Decision → List ℕ → Lent → Lent
replied_by (refuse n) bs l = lent l.fast l.slow (over (reply_in (length l.out) (refuse n)) l.out)
replied_by (accept d) bs l = replied_with d bs l

-- whether it was turned back
abbrev pub refused_then : Outcome Decision → Bool
refused_then (refuse n) = true
refused_then (accept d) = false

-- the bytes laid, and the length of the data
abbrev pub laid_then : Outcome Decision → ℕ
laid_then (refuse n) = 0
laid_then (accept d) = d.laid

abbrev pub data_len : Outcome Decision → ℕ
data_len (refuse n) = 0
data_len (accept d) = d.len

-- the length of the reply, into a buffer of `room` bytes
abbrev pub reply_len : ℕ → Outcome Decision → ℕ
reply_len room o = cond (ltb room 70) 0 (6 + data_len o)

-- whether it moves the tables, and the tables after it
abbrev pub moves_then : Outcome Decision → Bool
moves_then (refuse n) = false
moves_then (accept d) = is_some d.change

abbrev pub settled_then : Tables → Outcome Decision → Tables
settled_then t (refuse n) = t
settled_then t (accept d) = settled t d

-- ---- the forecast

-- tables that keep the rules, and how many of their frames are held
pub record ForecastStart (t : Tables) (held : ℕ) : Type 0 where
  pub keeps : sound t ≡ true
  pub counted : held ≡ frames_held t

-- ---- message after message

-- where they stand: the place in the file, the bytes of the buffer that are used, the state, the buffer, the tally, and
-- whether the tables moved
pub record Serving : Type 0 where
  pub at : ℕ
  pub used : ℕ
  pub state : State
  pub buffer : List ℕ
  pub tally : Tally
  pub moved : Bool

abbrev pub serving : ℕ → ℕ → State → List ℕ → Tally → Bool → Serving
serving at used s out n m = record { at = at; used = used; state = s; buffer = out; tally = n; moved = m }

-- replies that are kept go one behind the other; else each goes to the place of the one before
abbrev pub ahead : Bool → ℕ → ℕ → ℕ
ahead keep used len = cond keep (used + len) used

-- after a message that comes to o, past which the file goes on at `next`
abbrev pub served_one : Bool → ℕ → Serving → ℕ → Outcome Result → Serving
served_one keep room v next o =
    record {
      at = next;
      used = ahead keep v.used (length (reply_in room o));
      state = left v.state o;
      buffer = splice v.buffer v.used (reply_in room o);
      tally = counted v.tally (is_refusal o) (laid_by o);
      moved = v.moved || moved_by o;
    }

-- after messages of a file of `end` bytes, until the buffer is full
unfoldable pub served_all : Bool → ℕ → ℕ → Serving → List Sent → Serving
served_all keep room end v [] = v
served_all keep room end v (x ∷ xs) =
    cond (full room v.used) v
    (served_all keep room end (served_one keep room v (passed end v.at x) (answer room v.state x)) xs)

-- what `serve` leaves, from v on
pub record ServeEnded (keep : Bool) (file : List ℕ) (v : Serving) (s' : State) (out' : List ℕ)
    (r : Filled) : Type 0 where
  pub all : serving r.at r.used s' out' r.tally r.moved
      ≡ served_all keep (length v.buffer) (length file) v (messages_of (drop v.at file))
