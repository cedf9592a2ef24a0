-- Request [4] of document 02: what is written is read again, and what is read tells what was written. It is said of
-- what the code gives: of whatever meets the contract of `write_call`, of the reader over messages and `parse`, and of
-- what `read_reply` gives.
use Rattle.std.specs.Prelude.{ℕ, ◌+◌, ◌≤◌, ◌<◌, ◌≡◌, true, false, List, [], ◌++◌, length, take, get_or}
use Rattle.tables.specs.Numbers.{accepted, answer_number}
use Rattle.steps.specs.declared.Kind.{Kind}
use Rattle.steps.specs.declared.Call.{Call}
use Rattle.steps.specs.Kinds.{bytes, is_unknown, kind_of, has, call_of}
use Rattle.steps.specs.Calls.{outside}
use Rattle.steps.specs.Stores.{part}
use Rattle.steps.specs.Steps.{Outcome, accept, number_of}
use Rattle.steps.specs.Effects.{State, Result, laid_by, data_of}
use Rattle.messages.specs.declared.Next.{Next}
use Rattle.messages.specs.declared.Next.TheVariants.{Message, Cut, End}
use Rattle.messages.specs.Messages.{parse, write_bytes, next_at}
use Rattle.messages.specs.Replies.{reply_in}
use Rattle.messages.specs.Run.{Sent, cut, whole, asked, answer}
use Rattle.messages.specs.Promises.{sent_alone}
use Rattle.stations.specs.Writer.{Written, written_length, canonical, written, written_as}
use Rattle.stations.specs.Reader.{Reading, Reply, read_reply}
use Rattle.stations.specs.Promises.{Wrote}

-- what a writer makes of a call and a write's bytes, in a buffer of so many bytes: a message, or the number of its
-- refusal; by a kind byte and arguments the same
abbrev pub Writer : Type 0
Writer = ℕ → Call → List ℕ → Outcome (List ℕ)

abbrev pub KindWriter : Type 0
KindWriter = ℕ → ℕ → List ℕ → List ℕ → Outcome (List ℕ)

-- what a reader that is told a kind makes of bytes
abbrev pub ReplyReader : Type 0
ReplyReader = ℕ → List ℕ → Reading

-- ---- calls

-- a call within document 01's ranges, with a write's bytes bs: no argument that its kind names is too large, with
-- frames up to 253
abbrev pub InRange : Call → List ℕ → Type 0
InRange c bs = outside 254 (length bs) (canonical c) ≡ accepted

-- what is read of bytes l with a message at their front that was written of call c: the call with what its kind names,
-- which is c itself where it has no other arguments (`plain`), and a write's bytes
pub record CallRead (c : Call) (bs l : List ℕ) : Type 0 where
  -- the bytes after the length
  pub message : List ℕ
  pub sent : sent_alone l ≡ whole message
  pub same_call : parse message ≡ accept (canonical c)
  pub same_bytes : has bytes c.kind ≡ true → write_bytes message ≡ bs

-- "Every call within document 01's ranges, written and read, is the same call": it is accepted, and so it is read of
-- the message, whatever stands past it
pub record CallKept (c : Call) (bs out' : List ℕ) (r : Written) : Type 0 where
  pub number_told : answer_number r ≡ accepted
  pub read : (rest : List ℕ) → CallRead c bs (take (written_length r) out' ++ rest)

abbrev pub CallsKept : Writer → Type 0
CallsKept writes =
    (c : Call) (bs out out' : List ℕ) (r : Written) → InRange c bs → 71 ≤ length out
    → Wrote (writes (length out) c bs) out out' r → CallKept c bs out' r

-- a call by its kind byte and its arguments is written as the call
abbrev pub KindsWritten : Writer → KindWriter → Type 0
KindsWritten writes writes_as =
    (room kind : ℕ) (arguments bs : List ℕ) → is_unknown kind ≡ false
    → writes_as room kind arguments bs ≡ writes room (call_of (kind_of kind) arguments) bs

-- "every message of those ranges that isn't refused 1 to 4, written again, has the same bytes": of a message m at the
-- front of bytes l
pub record MessageKept (m l out' : List ℕ) (r : Written) : Type 0 where
  pub number_told : answer_number r ≡ accepted
  pub len_told : written_length r ≡ 2 + length m
  pub same : take (written_length r) out' ≡ take (2 + length m) l

abbrev pub MessagesKept : Writer → Type 0
MessagesKept writes =
    (m l : List ℕ) (c : Call) (out out' : List ℕ) (r : Written) → sent_alone l ≡ whole m → parse m ≡ accept c
    → outside 254 (length (write_bytes m)) c ≡ accepted → 71 ≤ length out
    → Wrote (writes (length out) c (write_bytes m)) out out' r → MessageKept m l out' r

-- ---- replies

-- `kind` is known, and is the kind of the call that the message asks for, if it asks for one. The known kind byte of a
-- message is such a kind (`kind_byte`), and for a message cut short every known kind is (`of_cut`).
pub record OfKind (kind : ℕ) (x : Sent) : Type 0 where
  pub known : is_unknown kind ≡ false
  pub same : (c : Call) → asked x ≡ accept c → c.kind ≡ kind_of kind

-- bytes l with a reply at their front are read as what the message came to
pub record ReplyTold (reads : ReplyReader) (kind : ℕ) (l : List ℕ) (o : Outcome Result) : Type 0 where
  pub told : reads kind l ≡ Reply (number_of o) (laid_by o) 6 (length (data_of o))
  pub data_there : part l 6 (length (data_of o)) ≡ data_of o

-- "Every reply of the kernel that has bytes, to a message of a known kind, read for that kind, gives back its number,
-- bytes laid and data": on any tables and stores, whatever stands past the reply
abbrev pub RepliesTold : ReplyReader → Type 0
RepliesTold reads =
    (room : ℕ) (s : State) (x : Sent) (kind : ℕ) (rest : List ℕ) → 70 ≤ room → OfKind kind x
    → ReplyTold reads kind (reply_in room (answer room s x) ++ rest) (answer room s x)

-- the reply at the front of bytes l, with its length; nothing where it is cut short
abbrev pub reply_of : List ℕ → Next → List ℕ
reply_of l (Message start len next) = take next l
reply_of l Cut = []
reply_of l End = []

abbrev pub reply_at : List ℕ → List ℕ
reply_at l = reply_of l (next_at l 0)

-- "for one kind no two different replies that it accepts read alike": with the same number, bytes laid and data
abbrev pub RepliesDiffer : ReplyReader → Type 0
RepliesDiffer reads =
    (kind : ℕ) (l l' : List ℕ) (number laid start len start' len' : ℕ) → ((i : ℕ) → get_or l i 0 < 256)
    → ((i : ℕ) → get_or l' i 0 < 256)
    → reads kind l ≡ Reply number laid start len → reads kind l' ≡ Reply number laid start' len'
    → part l start len ≡ part l' start' len'
    → reply_at l ≡ reply_at l'

-- "The reply reader looks at no byte past the reply": others in their place change nothing
abbrev pub PastUnread : ReplyReader → Type 0
PastUnread reads =
    (kind : ℕ) (l rest : List ℕ) (start len next : ℕ) → next_at l 0 ≡ Message start len next
    → reads kind (take next l ++ rest) ≡ reads kind l

-- ---- the request

-- of a writer, one by kind bytes, and a reader
pub record ExchangeOf (writes : Writer) (writes_as : KindWriter) (reads : ReplyReader) : Type 0 where
  pub calls : CallsKept writes
  -- a call that a message can ask for has no arguments but those that its kind names
  pub plain : (k : Kind) (arguments : List ℕ) → canonical (call_of k arguments) ≡ call_of k arguments
  pub by_kind : KindsWritten writes writes_as
  pub messages : MessagesKept writes
  pub kind_byte : (m : List ℕ) → is_unknown (get_or m 1 0) ≡ false → OfKind (get_or m 1 0) (whole m)
  pub of_cut : (kind : ℕ) → is_unknown kind ≡ false → OfKind kind cut
  pub replies : RepliesTold reads
  pub differ : RepliesDiffer reads
  pub past : PastUnread reads

-- of those that the contracts of `write_call`, `write_kind` and `read_reply` name
abbrev pub Exchange : Type 0
Exchange = ExchangeOf written written_as read_reply
