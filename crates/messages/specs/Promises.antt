-- What the functions that this layer exports promise.
use Rattle.std.specs.Prelude.{ℕ, ◌≤◌, ◌≡◌, List, [], ◌∷◌, ◌++◌, length, take, drop}
use Rattle.tables.specs.Numbers.{answer_number}
use Rattle.steps.specs.Stores.{part, over}
use Rattle.steps.specs.Steps.{Outcome, number_of}
use Rattle.steps.specs.Effects.{State, Result, left, moved_by, laid_by}
use Rattle.steps.specs.Promises.{state_of}
use Rattle.messages.specs.declared.Next.{Next}
use Rattle.messages.specs.declared.Next.TheVariants.{Message, Cut, End}
use Rattle.messages.specs.declared.Tally.{Tally}
use Rattle.messages.specs.declared.Answered.{Answered}
use Rattle.messages.specs.declared.Ran.{Ran}
use Rattle.messages.specs.declared.Filled.{Filled}
use Rattle.messages.specs.Messages.{next_at}
use Rattle.messages.specs.Replies.{reply_in}
use Rattle.messages.specs.Run.{Sent, cut, whole, messages_of, yielded, Run, buffer, tally, moved_in, joined_replies, Part, part_from}

-- what the reader yields at a place of the file: its answer, and by `yielded`, case by case, the messages from there on
pub record Yields (file : List ℕ) (at : ℕ) (r : Next) : Type 0 where
  pub told : r ≡ next_at file at
  pub meant : yielded file r ≡ messages_of (drop at file)

-- what the reader's answer at a place says of the message there: no bytes at all count as cut short
abbrev pub sent_by : List ℕ → Next → Sent
sent_by l (Message start len next) = whole (part l start len)
sent_by l Cut = cut
sent_by l End = cut

-- a message alone, as its bytes come: the bytes past it are ignored
abbrev pub sent_alone : List ℕ → Sent
sent_alone l = sent_by l (next_at l 0)

-- What `answer` leaves of a message on state s that comes to o: the state s', and the reply at the front of the buffer.
-- Where the tables did not move they are the same (`unmoved`), and whoever holds them elsewhere need not put them back.
pub record Replied (s : State) (o : Outcome Result) (out : List ℕ) (s' : State) (out' : List ℕ)
    (r : Answered) : Type 0 where
  pub number_told : answer_number r.answer ≡ number_of o
  pub len_told : r.len ≡ length (reply_in (length out) o)
  pub laid_told : r.laid ≡ laid_by o
  pub state_out : s' ≡ left s o
  pub reply_out : out' ≡ over (reply_in (length out) o) out
  pub moved_told : r.moved ≡ moved_by o

-- what `run` leaves of a run w from state s, with a tally n and a reply buffer: the state s', the buffer and the tally
pub record RunEnded (s : State) (w : Run) (n : Tally) (out : List ℕ) (s' : State) (out' : List ℕ)
    (r : Ran) : Type 0 where
  pub state_out : s' ≡ w.final
  pub buffer_out : out' ≡ buffer (length out) w.turns out
  pub tally_out : r.tally ≡ tally w.turns n
  pub moved_told : r.moved ≡ moved_in w.turns

-- what `fill` leaves of a part w of a run from state s, with a tally n and a reply buffer: the place reached, the bytes
-- used, the state s', the replies at the front of the buffer, one behind the other, and the tally
pub record PartEnded (s : State) (w : Part) (n : Tally) (out : List ℕ) (s' : State) (out' : List ℕ)
    (r : Filled) : Type 0 where
  pub place_told : r.at ≡ w.place
  pub used_told : r.used ≡ length (joined_replies (length out) w.turns)
  pub state_out : s' ≡ w.final
  pub buffer_out : out' ≡ over (joined_replies (length out) w.turns) out
  pub tally_out : r.tally ≡ tally w.turns n
  pub moved_told : r.moved ≡ moved_in w.turns

-- ---- parts of a run, one after the other: "One reply buffer serves the whole run and is emptied by the caller between
-- turns"

-- a call of `fill`: the buffer that was lent, what it gave, and the stores and the buffer that it left
pub record FillCall : Type 0 where
  pub out : List ℕ
  pub result : Filled
  pub fast' : List ℕ
  pub slow' : List ℕ
  pub out' : List ℕ

-- the state that a call of `fill` left
abbrev pub state_at : FillCall → State
state_at k = state_of k.result.tables k.fast' k.slow'

-- calls on a file with buffers of 70 bytes or more, from a place, a state and a tally on; each goes on where the one
-- before it left off
abbrev pub FillCalls : List ℕ → ℕ → State → Tally → List FillCall → Type 0
FillCalls file at s n [] = Unit {0}
FillCalls file at s n (k ∷ ks) =
    (70 ≤ length k.out)
    × PartEnded s (part_from (length k.out) file at s) n k.out (state_at k) k.out' k.result
    × FillCalls file k.result.at (state_at k) k.result.tally ks

-- the replies that the caller took out of its buffers
abbrev pub emptied : List FillCall → List ℕ
emptied [] = []
emptied (k ∷ ks) = take k.result.used k.out' ++ emptied ks

-- the place of the file, the state and the tally that the last call left
abbrev pub reached : ℕ → List FillCall → ℕ
reached at [] = at
reached at (k ∷ ks) = reached k.result.at ks

abbrev pub state_left : State → List FillCall → State
state_left s [] = s
state_left s (k ∷ ks) = state_left (state_at k) ks

abbrev pub tally_left : Tally → List FillCall → Tally
tally_left n [] = n
tally_left n (k ∷ ks) = tally_left k.result.tally ks
