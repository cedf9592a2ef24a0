-- Document 02, request [7]: "Contents stay hidden from placement. A coater wants its recipes unreadable through the
-- moves." Two runs over messages that differ only in what writes carry, with stores of any contents; and number 5,
-- which no run from sound tables gives. "Later requests must keep both": the replies of every kind but read, also of
-- one that is added, are compared byte for byte.
use Rattle.std.specs.Prelude.{ℕ, zero, suc, ◌+◌, ◌≤◌, ◌≡◌, Bool, true, false, not, ◌&&◌, cond, List, [], ◌∷◌, ◌++◌, map, length, take, drop, get_or, replicate, eqb}
use Rattle.tables.specs.declared.Tables.{Tables}
use Rattle.tables.specs.Lists.{all}
use Rattle.tables.specs.Numbers.{broken_tables}
use Rattle.tables.specs.Model.{made}
use Rattle.tables.specs.Rules.{sound}
use Rattle.steps.specs.declared.Kind.TheVariants.{Write}
use Rattle.steps.specs.Kinds.{kind_number, is_read}
use Rattle.steps.specs.Stores.{fits}
use Rattle.steps.specs.Steps.{Outcome, refuse, accept, number_of}
use Rattle.steps.specs.Effects.{State, moved_by, laid_by}
use Rattle.steps.specs.Promises.{state_of}
use Rattle.steps.specs.declared.Call.{Call}
use Rattle.messages.specs.declared.Tally.{Tally}
use Rattle.messages.specs.Messages.{length_at}
use Rattle.messages.specs.Replies.{reply_in}
use Rattle.messages.specs.Run.{Sent, cut, whole, asked, Turn, messages_of, turns_of, end_of, Run, run, buffer, tally}
use Rattle.messages.specs.Run.{Part, part_from}
use Rattle.messages.specs.Promises.{FillCall, FillCalls, emptied, reached, state_left, tally_left}

-- bytes, with a 0 in the place of each from index i on
unfoldable pub covered : ℕ → List ℕ → List ℕ
covered zero l = replicate (length l) 0
covered (suc i) [] = []
covered (suc i) (b ∷ l) = b ∷ covered i l

-- ---- "two call files of the same messages, equal save for the values of the bytes that writes carry"

-- a message of version 1 and kind 5, also one that is refused 4; m are the bytes after its length
abbrev pub sends_write : List ℕ → Bool
sends_write m = eqb (get_or m 0 0) 1 && eqb (get_or m 1 0) (kind_number Write)

-- A message with the bytes covered that it carries as a write: all after version, kind, station, page and offset. One
-- that is cut short is answered 1 whatever its bytes are, so that any two of these count as the same.
abbrev pub message_covered : Sent → Sent
message_covered cut = cut
message_covered (whole m) = whole (cond (sends_write m) (covered 5 m) m)

abbrev pub SameBut : List Sent → List Sent → Type 0
SameBut xs xs' = map message_covered xs ≡ map message_covered xs'

-- ---- ".. give replies equal everywhere but in the data of reads, equal tables and equal tallies"

abbrev pub asks_read : Outcome Call → Bool
asks_read (refuse n) = false
asks_read (accept c) = is_read c.kind

-- the reply r to message x, with the data of a read covered: "the bytes of a read" stand after its first six
abbrev pub data_covered : Sent → List ℕ → List ℕ
data_covered x r = cond (asks_read (asked x)) (covered 6 r) r

abbrev pub reply_covered : ℕ → Turn → List ℕ
reply_covered room t = data_covered t.sent (reply_in room t.outcome)

abbrev pub tables_found : Turn → Tables
tables_found t = t.found.tables

-- what `answer` tells of a message besides its reply: the number, the bytes laid, and whether the tables moved
abbrev pub told : Turn → ℕ × ℕ × Bool
told t = (number_of t.outcome, laid_by t.outcome, moved_by t.outcome)

-- Of two runs, each with a reply buffer of `room` bytes and from the tally n on. A covered reply is as long as the
-- reply, so that the lengths of replies are compared too, and of a read's reply its first six bytes.
pub record Alike (room : ℕ) (n : Tally) (r r' : Run) : Type 0 where
  pub replies : map (reply_covered room) r.turns ≡ map (reply_covered room) r'.turns
  pub tables : r.final.tables ≡ r'.final.tables
  pub tallies : tally r.turns n ≡ tally r'.turns n
  -- and more than the request names: the tables that each message finds; what else is told of it; how long the stores
  -- are, so that `rules` and `read_place`, which get no more of them, give the same
  pub found : map tables_found r.turns ≡ map tables_found r'.turns
  pub told_alike : map told r.turns ≡ map told r'.turns
  pub fast_long : length r.final.fast ≡ length r'.final.fast
  pub slow_long : length r.final.slow ≡ length r'.final.slow

-- ---- as the placement module sees it, which sends moves and looks and reads their replies; and more than that: the
-- replies to all messages but reads, byte for byte

unfoldable pub other_replies : ℕ → List Turn → List (List ℕ)
other_replies room [] = []
other_replies room (t ∷ ts) =
    cond (asks_read (asked t.sent)) [] (reply_in room t.outcome ∷ []) ++ other_replies room ts

-- ---- as a caller of `fill` holds it

-- the bytes l, taken as the replies to messages, each of them as long as its own L says, with the data of reads covered
unfoldable pub taken_covered : List Sent → List ℕ → List ℕ
taken_covered [] l = l
taken_covered (x ∷ xs) l =
    data_covered x (take (2 + length_at l 0) l) ++ taken_covered xs (drop (2 + length_at l 0) l)

-- of calls ks on a file from state s and tally n on, and of calls ks' on another from state s' and that tally on
pub record TakenAlike (file file' : List ℕ) (s s' : State) (n : Tally) (ks ks' : List FillCall) : Type 0 where
  pub replies : taken_covered (messages_of file) (emptied ks) ≡ taken_covered (messages_of file') (emptied ks')
  pub tables : (state_left s ks).tables ≡ (state_left s' ks').tables
  pub tallies : tally_left n ks ≡ tally_left n ks'

-- ---- the request

-- a statement X of every two states of the same tables, with stores of any contents but of the same lengths
abbrev pub OfTwins : (State → State → Type 0) → Type 0
OfTwins X =
    (t : Tables) (fast slow fast' slow' : List ℕ) → length fast ≡ length fast' → length slow ≡ length slow'
    → X (state_of t fast slow) (state_of t fast' slow')

-- the run over messages, those of a file or others
abbrev pub run_over : ℕ → List Sent → State → Run
run_over room xs s = record { turns = turns_of room s xs; final = end_of room s xs }

-- a part of a run, by itself
abbrev pub run_of : Part → Run
run_of w = record { turns = w.turns; final = w.final }

pub record Hidden : Type 0 where
  -- the request's sentence: "run from the same sound tables and tally with fitting stores of any contents and a reply
  -- buffer of 70"
  pub as_asked : (file file' : List ℕ) (t : Tables) (fast slow fast' slow' : List ℕ) (n : Tally)
      → SameBut (messages_of file) (messages_of file') → sound t ≡ true → fits t (length fast) (length slow) ≡ true
      → fits t (length fast') (length slow') ≡ true
      → Alike 70 n (run 70 file (state_of t fast slow)) (run 70 file' (state_of t fast' slow'))
  -- it is so on any tables, sound or not, and with a reply buffer of any length
  pub two_runs : OfTwins (λ s s'. (room : ℕ) (xs xs' : List Sent) (n : Tally) → SameBut xs xs'
      → Alike room n (run_over room xs s) (run_over room xs' s'))
  -- "unreadable through the moves"
  pub to_placement : OfTwins (λ s s'. (room : ℕ) (xs xs' : List Sent) → SameBut xs xs'
      → other_replies room (turns_of room s xs) ≡ other_replies room (turns_of room s' xs'))
  -- two callers, each with buffers of its own lengths, 70 or more, whose calls came to the end of their file
  pub to_caller : OfTwins (λ s s'. (file file' : List ℕ) (n : Tally) (ks ks' : List FillCall)
      → SameBut (messages_of file) (messages_of file') → FillCalls file 0 s n ks → length file ≤ reached 0 ks
      → FillCalls file' 0 s' n ks' → length file' ≤ reached 0 ks' → TakenAlike file file' s s' n ks ks')
  -- one call of `fill` from a place on, with a buffer of any length: the place that it reaches too. Messages that are
  -- cut short may be of different lengths, so the files must be of the same length.
  pub one_part : OfTwins (λ s s'. (room at : ℕ) (file file' : List ℕ) (n : Tally) → length file ≡ length file'
      → SameBut (messages_of (drop at file)) (messages_of (drop at file'))
      → ((part_from room file at s).place ≡ (part_from room file' at s').place)
      × Alike room n (run_of (part_from room file at s)) (run_of (part_from room file' at s')))
  -- what a run leaves in its one reply buffer, if no message is a read: data of a read may be left behind a shorter
  -- reply, since the buffer "is emptied by the caller between turns"
  pub buffer_left : OfTwins (λ s s'. (xs xs' : List Sent) (out : List ℕ) → SameBut xs xs'
      → all (λ (x : Sent). not (asks_read (asked x))) xs ≡ true
      → buffer (length out) (turns_of (length out) s xs) out ≡ buffer (length out) (turns_of (length out) s' xs') out)

-- ---- number 5

abbrev pub is_five : Turn → Bool
is_five t = eqb (number_of t.outcome) broken_tables

abbrev pub none_five : List Turn → Bool
none_five ts = all (λ (t : Turn). not (is_five t)) ts

-- Whatever the stores, the reply buffer and the messages are. That the tables stay sound is a theorem of its own
-- (`StaysSound` in Sound.antt).
pub record NeverFive : Type 0 where
  pub from_sound : (room : ℕ) (xs : List Sent) (s : State) → sound s.tables ≡ true
      → none_five (turns_of room s xs) ≡ true
  -- "from fresh tables number 5 is never given": from those that are returned for any P and S, also with 19
  pub from_fresh : (room p s : ℕ) (file fast slow : List ℕ)
      → none_five (run room file (state_of (made p s).tables fast slow)).turns ≡ true
