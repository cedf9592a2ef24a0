-- What a program in C has of a unit: the calls that it made of `reel_answer`, `reel_replies` and `reel_run`, in any
-- order.
use Rattle.std.specs.Prelude.{ℕ, ◌-◌, ◌/◌, ◌%◌, ◌<◌, ◌≡◌, cond, List, [], ◌∷◌, ◌++◌, map, length, take, ltb}
use Rattle.steps.specs.Stores.{part}
use Rattle.steps.specs.Steps.{number_of}
use Rattle.steps.specs.Effects.{laid_by}
use Rattle.messages.specs.Replies.{reply_in}
use Rattle.messages.specs.Run.{Sent, Turn, messages_of, turns_of, buffer, tally, joined_replies}
use Rattle.messages.specs.Promises.{sent_alone}
use Rattle.embed.specs.Exports.{tally_of, with_tally, packed, Kept, state_in}
use Rattle.embed.specs.Exports.{AnswerPromised, RunPromised, RepliesPromised}

-- ---- a call: what was lent beside the unit, what is left of that and of the unit, and the numbers that were told

pub record AnswerCall : Type 0 where
  pub message : List ℕ
  pub out : List ℕ
  pub left : Kept
  pub out' : List ℕ
  pub told : ℕ

pub record RepliesCall : Type 0 where
  pub file : List ℕ
  pub at : ℕ
  pub out : List ℕ
  pub tally : List ℕ
  pub left : Kept
  pub out' : List ℕ
  pub tally' : List ℕ
  pub used : ℕ
  pub place : ℕ

pub record RunCall : Type 0 where
  pub file : List ℕ
  pub out : List ℕ
  pub tally : List ℕ
  pub left : Kept
  pub out' : List ℕ
  pub tally' : List ℕ

pub data Called : Type 0 where
  answered : AnswerCall → Called
  replied : RepliesCall → Called
  ran : RunCall → Called

-- that it meets the contract of its function, on what the caller kept
abbrev pub Meets : Kept → Called → Type 0
Meets k (answered c) = AnswerPromised k c.message c.out c.left c.out' c.told
Meets k (replied c) =
    RepliesPromised k c.file c.at c.out c.tally c.left c.out' c.tally' c.used c.place
Meets k (ran c) = RunPromised k c.file c.out c.tally c.left c.out' c.tally'

-- the reply buffer of a call as it was lent
abbrev pub out_lent : Called → List ℕ
out_lent (answered c) = c.out
out_lent (replied c) = c.out
out_lent (ran c) = c.out

-- the reply buffer of a call as it is left
abbrev pub out_left : Called → List ℕ
out_left (answered c) = c.out'
out_left (replied c) = c.out'
out_left (ran c) = c.out'

-- how long the reply buffer of a call is
abbrev pub room : Called → ℕ
room c = length (out_lent c)

-- what a call left of the unit
abbrev pub left_of : Called → Kept
left_of (answered c) = c.left
left_of (replied c) = c.left
left_of (ran c) = c.left

-- ---- one after the other: "Each later one gets the tables and stores that the one before it left, and nobody else
-- writes them meanwhile." Calls of `reel_rules` and `reel_read` only read, and may stand anywhere between.

abbrev pub Calls : Kept → List Called → Type 0
Calls k [] = Unit {0}
Calls k (c ∷ cs) = Meets k c × Calls (left_of c) cs

abbrev pub kept_after : Kept → List Called → Kept
kept_after k [] = k
kept_after k (c ∷ cs) = kept_after (left_of c) cs

-- ---- the messages of a call, and their turns from the state in the caller's bytes on

-- of `reel_replies` those between the place that it got and the one that it told
abbrev pub messages_by : Called → List Sent
messages_by (answered c) = sent_alone c.message ∷ []
messages_by (replied c) = messages_of (part c.file c.at (c.place - c.at))
messages_by (ran c) = messages_of c.file

abbrev pub turns_by : Kept → Called → List Turn
turns_by k c = turns_of (room c) (state_in k) (messages_by c)

-- the messages of all calls but those with a buffer below 70 bytes, which answer 18 to each message and change only the
-- tally
abbrev pub messages_through : List Called → List Sent
messages_through [] = []
messages_through (c ∷ cs) = cond (ltb (room c) 70) [] (messages_by c) ++ messages_through cs

-- the turns of these messages
abbrev pub turns_through : Kept → List Called → List Turn
turns_through k [] = []
turns_through k (c ∷ cs) = cond (ltb (room c) 70) [] (turns_by k c) ++ turns_through (left_of c) cs

-- ---- what the caller has of a call whose messages had the turns ts

-- the number that `reel_answer` tells of a turn, and the length of the reply in that number
abbrev pub told_of : ℕ → Turn → ℕ
told_of room t = packed (number_of t.outcome) (length (reply_in room t.outcome)) (laid_by t.outcome)

abbrev pub length_told : ℕ → ℕ
length_told r = r / 256 % 256

-- the replies that the caller took out of the buffer of a call: "the replies of a run are the list of these"
abbrev pub taken : Called → List ℕ
taken (answered c) = take (length_told c.told) c.out'
taken (replied c) = take c.used c.out'
taken (ran c) = []

-- "A tally (messages, refusals, bytes laid) is brought up to date in place after each message"; a tally that
-- is not three numbers is left alone
abbrev pub counted_on : List Turn → List ℕ → List ℕ
counted_on ts n = with_tally n (tally ts (tally_of n))

pub record AnswerHad (c : AnswerCall) (ts : List Turn) : Type 0 where
  pub told_had : c.told ∷ [] ≡ map (told_of (length c.out)) ts
  pub replies_had : taken (answered c) ≡ joined_replies (length c.out) ts

pub record RepliesHad (c : RepliesCall) (ts : List Turn) : Type 0 where
  pub replies_had : taken (replied c) ≡ joined_replies (length c.out) ts
  pub tally_had : c.tally' ≡ counted_on ts c.tally

-- `reel_run` lays each reply over the one before, and the first over the bytes that were lent: behind a reply that is
-- shorter than one before it, bytes of that one are left
pub record RunHad (c : RunCall) (ts : List Turn) : Type 0 where
  pub buffer_had : c.out' ≡ buffer (length c.out) ts c.out
  pub tally_had : c.tally' ≡ counted_on ts c.tally

abbrev pub Had : Called → List Turn → Type 0
Had (answered c) ts = AnswerHad c ts
Had (replied c) ts = RepliesHad c ts
Had (ran c) ts = RunHad c ts

-- 18: "reply buffer below 70 bytes; nothing is written". Nothing but the tally changes.
abbrev pub LeftAlone : Kept → Called → Type 0
LeftAlone k c = room c < 70 → (left_of c ≡ k) × (out_left c ≡ out_lent c)

-- of each call on what the one before it left
abbrev pub EachHad : Kept → List Called → Type 0
EachHad k [] = Unit {0}
EachHad k (c ∷ cs) = Had c (turns_by k c) × LeftAlone k c × EachHad (left_of c) cs
