-- The demands as a program in C holds them: of the bytes of the tables, the stores, what it took out of its reply
-- buffers and the tally, where the tables began with `reel_fresh` and nobody else wrote them.
use Rattle.std.specs.Prelude.{ℕ, ◌+◌, ◌*◌, ◌%◌, ◌≤◌, ◌<◌, ◌≡◌, true, List, [], ◌∷◌, ◌++◌, map, ◌≢◌, length, take, replicate}
use Rattle.tables.specs.Numbers.{accepted, short_buffer}
use Rattle.tables.specs.Model.{fresh_tables, retired_at}
use Rattle.steps.specs.Stores.{over}
use Rattle.steps.specs.Steps.{rules_number}
use Rattle.steps.specs.Promises.{state_of}
use Rattle.messages.specs.Messages.{length_at}
use Rattle.messages.specs.Run.{Sent, Turn, messages_of, turns_of, end_of, Run, replies, joined_replies}
use Rattle.theorems.specs.Flat.{none}
use Rattle.theorems.specs.Demand1.{allowed, refusal_in, RunObeys}
use Rattle.theorems.specs.Demand3.{flat_answers, AgreesOn}
use Rattle.theorems.specs.Caller.{eleven_taken, answers_taken}
use Rattle.theorems.specs.Clean.{Cleared, Blank, NoneHeld}
use Rattle.theorems.specs.Retired.{three_numbers, ever_retired, NeverAgain}
use Rattle.embed.specs.Bytes.{tables_bytes}
use Rattle.embed.specs.Exports.{tables_of, fresh_into, packed, Kept, kept, state_in, AnswerPromised}
use Rattle.callers.specs.Calls.{AnswerCall, RepliesCall, Called, answered, replied, Calls, kept_after}
use Rattle.callers.specs.Calls.{messages_through, turns_through, told_of, taken, counted_on, EachHad}

-- ---- from `reel_fresh` on

-- A statement X of every unit that `reel_fresh` made, with stores of the right lengths: "fresh tables of any P and S in
-- range"; "The stores' bytes may be anything".
abbrev pub FromFresh : (ℕ → ℕ → List ℕ → List ℕ → Kept → Type 0) → Type 0
FromFresh X =
    (p s : ℕ) (b fast slow : List ℕ) → (fresh_into p s b).number ≡ accepted
    → length fast ≡ 64 * p → length slow ≡ 64 * s
    → X p s fast slow (kept (fresh_into p s b).bytes fast slow)

module _ (p s : ℕ) (fast slow : List ℕ) where
  -- the run over messages from there; every buffer of 70 bytes or more gives the same turns
  abbrev pub run_fresh : List Sent → Run
  run_fresh xs =
      let s₀ = state_of (fresh_tables p s) fast slow in
      record { turns = turns_of 70 s₀ xs; final = end_of 70 s₀ xs }

  -- what is demanded of a run r over the messages xs
  pub record Upheld (xs : List Sent) (r : Run) : Type 0 where
    -- demand 1
    pub obeys : RunObeys 70 (state_of (fresh_tables p s) fast slow) r (replies 70 r.turns)
    -- demand 3
    pub agrees : AgreesOn p s 70 xs r
    -- request [2]: "deleted records gone"
    pub cleared : Cleared (state_of (fresh_tables p s) fast slow) r
    -- request [5]: the retired frames are those that a message retired, and none "takes a copy again"
    pub retired_exactly : (f : ℕ) → retired_at r.final.tables f ≡ ever_retired r.turns f
    pub never_again : (f : ℕ) → NeverAgain f r.turns r.final

  -- what holds of the kept bytes k after any messages
  pub record InOrder (k : Kept) : Type 0 where
    -- `reel_rules` answers 0: every table rule holds, and the stores fit
    pub ruled : rules_number (tables_of k.tables) (length k.fast) (length k.slow) ≡ accepted
    -- request [5]: "the three numbers add up to P+S"
    pub add_up : three_numbers (tables_of k.tables) ≡ p + s
    -- request [2], of a card that began as zeros: each of its frames that no copy has is zeros; where no copy is on the
    -- card, all of the card is
    pub card_blank : slow ≡ replicate (64 * s) 0 → Blank (state_in k)
    pub card_clean : slow ≡ replicate (64 * s) 0 → NoneHeld (tables_of k.tables) → k.slow ≡ replicate (64 * s) 0

  -- `Upheld` and `InOrder` together, of a run over the messages xs with the turns ts that ends in the state in k
  abbrev pub AllHold : List Sent → List Turn → Kept → Type 0
  AllHold xs ts k = Upheld xs (record { turns = ts; final = state_in k }) × InOrder k

-- every byte that the caller keeps is what the run r leaves
pub record KeptIs (k : Kept) (r : Run) : Type 0 where
  pub tables_are : k.tables ≡ tables_bytes r.final.tables
  pub fast_is : k.fast ≡ r.final.fast
  pub slow_is : k.slow ≡ r.final.slow

-- ---- any calls, in any order

-- of calls cs on what the caller kept, k, and the run r over their messages
pub record CallsHad (k : Kept) (cs : List Called) (r : Run) : Type 0 where
  pub each_had : EachHad k cs
  -- the turns of the calls, one call's behind the other's, are those of one run
  pub turns_joined : turns_through k cs ≡ r.turns
  pub kept_is : KeptIs (kept_after k cs) r

abbrev pub DemandsLent : Type 0
DemandsLent =
    FromFresh
    (λ p s fast slow k. (cs : List Called) → Calls k cs
    → let r = run_fresh p s fast slow (messages_through cs) in
    CallsHad k cs r × AllHold p s fast slow (messages_through cs) r.turns (kept_after k cs))

-- ---- a call file, all replies of which were taken

abbrev pub taken_through : List Called → List ℕ
taken_through [] = []
taken_through (c ∷ cs) = taken c ++ taken_through cs

-- Of the bytes that a caller took and of what it keeps, after the run r over the file. A reply's own L tells it from
-- the next, as a message's does; so the two lists of demand 3 are equal by what the caller took alone.
pub record FileTaken (file bytes : List ℕ) (k : Kept) (r : Run) : Type 0 where
  pub replies_taken : bytes ≡ joined_replies 70 r.turns
  pub answers_as_taken : flat_answers none (messages_of file) (map eleven_taken (messages_of bytes))
      ≡ answers_taken (messages_of file) (messages_of bytes)
  pub kept_is : KeptIs k r

-- by calls of `reel_replies`: each from the place on that the one before it told, with the tally that it left, and with
-- a buffer of 70 bytes or more
abbrev pub OnFile : List ℕ → ℕ → List ℕ → List RepliesCall → Type 0
OnFile file at n [] = Unit {0}
OnFile file at n (c ∷ cs) =
    (c.file ≡ file) × (c.at ≡ at) × (c.tally ≡ n) × (70 ≤ length c.out) × OnFile file c.place c.tally' cs

abbrev pub place_reached : ℕ → List RepliesCall → ℕ
place_reached at [] = at
place_reached at (c ∷ cs) = place_reached c.place cs

abbrev pub tally_reached : List ℕ → List RepliesCall → List ℕ
tally_reached n [] = n
tally_reached n (c ∷ cs) = tally_reached c.tally' cs

-- where they came to the file's end
abbrev pub FileReplied : Type 0
FileReplied =
    FromFresh
    (λ p s fast slow k. (file n : List ℕ) (cs : List RepliesCall) → Calls k (map replied cs) → OnFile file 0 n cs
    → length file ≤ place_reached 0 cs
    → let r = run_fresh p s fast slow (messages_of file) in
    let k' = kept_after k (map replied cs) in
    FileTaken file (taken_through (map replied cs)) k' r
    × (tally_reached n cs ≡ counted_on r.turns n)
    × AllHold p s fast slow (messages_of file) r.turns k')

-- as many calls as the file has bytes come to its end
abbrev pub RepliesEnough : Type 0
RepliesEnough =
    FromFresh
    (λ p s fast slow k. (file n : List ℕ) (cs : List RepliesCall) → Calls k (map replied cs) → OnFile file 0 n cs
    → length file ≤ length cs → length file ≤ place_reached 0 cs)

-- by calls of `reel_answer`, with messages that are not cut short and buffers of 70 bytes or more
abbrev pub InFull : List AnswerCall → Type 0
InFull [] = Unit {0}
InFull (c ∷ cs) = (70 ≤ length c.out) × (2 + length_at c.message 0 ≤ length c.message) × InFull cs

-- a message without the bytes behind it, and the file of them all
abbrev pub front : List ℕ → List ℕ
front [] = []
front (a ∷ []) = a ∷ []
front (a ∷ b ∷ l) = a ∷ b ∷ take (a * 256 + b) l

abbrev pub file_of : List AnswerCall → List ℕ
file_of [] = []
file_of (c ∷ cs) = front c.message ++ file_of cs

abbrev pub FileAnswered : Type 0
FileAnswered =
    FromFresh
    (λ p s fast slow k. (cs : List AnswerCall) → Calls k (map answered cs) → InFull cs
    → let r = run_fresh p s fast slow (messages_of (file_of cs)) in
    let k' = kept_after k (map answered cs) in
    FileTaken (file_of cs) (taken_through (map answered cs)) k' r
    × (map (λ (c : AnswerCall). c.told) cs ≡ map (told_of 70) r.turns)
    × AllHold p s fast slow (messages_of (file_of cs)) r.turns k')

-- ---- demand 1 of one message, on any bytes, whether they hold tables or not

abbrev pub number_told : ℕ → ℕ
number_told r = r % 256

-- of a message that was answered with r, between k and a buffer before it, and k' and that buffer after it
pub record ObeysLent (k : Kept) (out : List ℕ) (k' : Kept) (out' : List ℕ) (r : ℕ) : Type 0 where
  pub in_table : allowed (number_told r) ≡ true
  -- 18 before all others
  pub short : length out < 70 → r ≡ short_buffer
  -- "Tables and stores remain exactly as they were in every row."
  pub unchanged : number_told r ≢ accepted → k' ≡ k
  -- the fixed reply, its length and no bytes laid; "Reply bytes past the reply remain as lent."
  pub told_fixed : number_told r ≢ accepted
      → r ≡ packed (number_told r) (length (refusal_in (length out) (number_told r))) 0
  pub fixed : number_told r ≢ accepted → out' ≡ over (refusal_in (length out) (number_told r)) out

abbrev pub MessageLent : Type 0
MessageLent =
    (k : Kept) (message out : List ℕ) (k' : Kept) (out' : List ℕ) (r : ℕ) → AnswerPromised k message out k' out' r
    → ObeysLent k out k' out' r
