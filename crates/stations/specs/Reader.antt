-- Document 02, request [4]: the reader for replies.
use Rattle.std.specs.Prelude.{ℕ, Bool, not, ◌&&◌, cond, Option, Some, None, List, Result, Ok, Err, length, get_or, drop, leb, eqb}
use Rattle.tables.specs.declared.refusals.Refusal.{Refusal}
use Rattle.tables.specs.Lists.{listed}
use Rattle.tables.specs.Numbers.{accepted, cut_short, foreign_version, unknown_kind, wrong_length, all_numbers, refusal_number}
use Rattle.steps.specs.declared.Kind.{Kind}
use Rattle.steps.specs.Kinds.{tells, is_unknown, kind_of}
use Rattle.steps.specs.Data.{formed}
use Rattle.steps.specs.Stores.{part}
use Rattle.steps.specs.Steps.{Outcome, refuse, accept, test}
use Rattle.messages.specs.declared.Next.{Next}
use Rattle.messages.specs.declared.Next.TheVariants.{Message, Cut, End}
use Rattle.messages.specs.Messages.{is_foreign, next_at}
use Rattle.messages.specs.Replies.{be16_at}
use Rattle.messages.specs.Run.{Sent, cut, whole}
use Rattle.stations.specs.declared.Reply.{Reply as Told}

-- ---- a reply m: the L bytes after its length. Document 01: "A reply is L, version 1, the number (0 accepted), bytes
-- laid in two bytes big-endian, then the bytes of a read or look."

abbrev pub number_in : List ℕ → ℕ
number_in m = get_or m 1 0

abbrev pub laid_stated : List ℕ → ℕ
laid_stated m = be16_at m 2

abbrev pub data_in : List ℕ → List ℕ
data_in m = drop 4 m

-- "A refusal is 00 04 01 nn 00 00", with a number of the table
abbrev pub is_refusal_reply : List ℕ → Bool
is_refusal_reply m = listed (number_in m) all_numbers && (eqb (length m) 4 && eqb (laid_stated m) 0)

-- Not 4: "4 for a length that the kind, the number or a page look's n doesn't have, a number neither 0 nor in the
-- table, a refusal with bytes laid, or a CURRENT or MOST RECENT byte above 1"
unfoldable pub is_reply : Kind → List ℕ → Bool
is_reply k m = leb 4 (length m) && cond (eqb (number_in m) accepted) (formed (tells k) (data_in m)) (is_refusal_reply m)

-- what is read: the reader's own number; or what a reply tells: the number that it carries, the bytes laid, and where
-- in the bytes its data start and how many they are
pub data Reading : Type 0 where
  Refused : ℕ → Reading
  Reply : ℕ → ℕ → ℕ → ℕ → Reading

-- the number that a reply carries
abbrev pub carried : Option Refusal → ℕ
carried None = accepted
carried (Some refusal) = refusal_number refusal

-- what an answer of the code says
abbrev pub reading : Result Told Refusal → Reading
reading (Ok r) = Reply (carried r.refusal) r.laid r.start r.len
reading (Err refusal) = Refused (refusal_number refusal)

-- "2 as for messages, 3 if told an unknown kind, else 4"; the data of a reply stand behind its length and four more
-- bytes
abbrev pub read_body : ℕ → List ℕ → Reading
read_body kind m =
    cond (is_foreign m) (Refused foreign_version)
    (cond (is_unknown kind) (Refused unknown_kind)
    (cond (is_reply (kind_of kind) m) (Reply (number_in m) (laid_stated m) 6 (length (data_in m)))
    (Refused wrong_length)))

-- ---- the bytes as they come

-- "1 (also for no byte) .. as for messages"
abbrev pub read_next : ℕ → List ℕ → Next → Reading
read_next kind l (Message start len next) = read_body kind (part l start len)
read_next kind l Cut = Refused cut_short
read_next kind l End = Refused cut_short

-- what is read of the bytes l, with a reply to a message of this kind at their front
unfoldable pub read_reply : ℕ → List ℕ → Reading
read_reply kind l = read_next kind l (next_at l 0)

-- ---- what a reading means. Document 01: "Where an answer is an enum, a definition states this paper's number and
-- values for every one of its cases."

-- what a reply tells: "its number, bytes laid and data"
pub record ReplyContent : Type 0 where
  pub number : ℕ
  pub laid : ℕ
  pub data_read : List ℕ

abbrev pub content_of : ℕ → ℕ → List ℕ → ReplyContent
content_of number laid d = record { number = number; laid = laid; data_read = d }

-- what `Reading` says, case by case, of bytes l that were read: the reader's own number, or what the reply tells
abbrev pub reading_of : List ℕ → Reading → Outcome ReplyContent
reading_of l (Refused n) = refuse n
reading_of l (Reply number laid start len) = accept (content_of number laid (part l start len))

-- "It gives 1 (also for no byte) or 2 as for messages, 3 if told an unknown kind, else 4 ..", of a reply as the reader
-- over messages yields it
abbrev pub reply_content : ℕ → Sent → Outcome ReplyContent
reply_content kind cut = refuse cut_short
reply_content kind (whole m) =
    test (is_foreign m) foreign_version
    (test (is_unknown kind) unknown_kind (test (not (is_reply (kind_of kind) m)) wrong_length
    (accept (content_of (number_in m) (laid_stated m) (data_in m)))))
