-- Document 02, request [7], as programs in C hold it: two of them, each with a unit of its own, on the bytes of the
-- same sound tables and with fitting stores of any contents, whose messages are the same but for what writes carry.
use Rattle.std.specs.Prelude.{ℕ, ◌≤◌, ◌≡◌, true, List, [], ◌∷◌, map, ◌≢◌, length}
use Rattle.tables.specs.declared.Tables.{Tables}
use Rattle.tables.specs.Numbers.{broken_tables}
use Rattle.tables.specs.Rules.{sound}
use Rattle.steps.specs.Stores.{fits}
use Rattle.messages.specs.declared.Tally.{Tally}
use Rattle.messages.specs.Run.{messages_of, Run}
use Rattle.theorems.specs.Hidden.{SameBut, Alike, taken_covered, none_five}
use Rattle.embed.specs.Bytes.{tables_bytes}
use Rattle.embed.specs.Exports.{Kept, state_in}
use Rattle.callers.specs.Calls.{AnswerCall, RepliesCall, Called, answered, replied, ran, left_of, Calls}
use Rattle.callers.specs.Calls.{kept_after, turns_by, messages_through, turns_through, EachHad}
use Rattle.callers.specs.Lent.{number_told, taken_through, OnFile, place_reached, tally_reached, InFull, file_of}

-- what is kept of a unit is the bytes of tables t, with stores that fit
pub record UnitOf (t : Tables) (k : Kept) : Type 0 where
  pub tables_in : k.tables ≡ tables_bytes t
  pub stores_fit : fits t (length k.fast) (length k.slow) ≡ true

-- a statement X of two such units, of the same sound tables
abbrev pub OfTwoUnits : (Kept → Kept → Type 0) → Type 0
OfTwoUnits X = (t : Tables) (k k' : Kept) → sound t ≡ true → UnitOf t k → UnitOf t k' → X k k'

-- ---- any calls, in any order

-- what the calls cs come to, as one run
abbrev pub run_through : Kept → List Called → Run
run_through k cs = record { turns = turns_through k cs; final = state_in (kept_after k cs) }

-- Of calls cs on k and cs' on k'. What each program has of its calls goes by their turns; these are alike, and every
-- byte of the tables is the same.
pub record CallsAlike (k k' : Kept) (cs cs' : List Called) : Type 0 where
  pub each_had : EachHad k cs × EachHad k' cs'
  pub turns_alike : (n : Tally) → Alike 70 n (run_through k cs) (run_through k' cs')
  pub tables_same : (kept_after k cs).tables ≡ (kept_after k' cs').tables

-- ---- a call file, all replies of which were taken

-- by calls of `reel_replies` cs and cs', each with buffers of its own lengths, from the tally n on
pub record RepliesAlike (k k' : Kept) (file file' n : List ℕ) (cs cs' : List RepliesCall) : Type 0 where
  pub replies_taken : taken_covered (messages_of file) (taken_through (map replied cs))
      ≡ taken_covered (messages_of file') (taken_through (map replied cs'))
  pub tables_same : (kept_after k (map replied cs)).tables ≡ (kept_after k' (map replied cs')).tables
  pub tally_same : tally_reached n cs ≡ tally_reached n cs'

-- by calls of `reel_answer`; what is told of each message is its number, the length of its reply and the bytes laid
pub record AnswersAlike (k k' : Kept) (cs cs' : List AnswerCall) : Type 0 where
  pub replies_taken : taken_covered (messages_of (file_of cs)) (taken_through (map answered cs))
      ≡ taken_covered (messages_of (file_of cs')) (taken_through (map answered cs'))
  pub told_same : map (λ (c : AnswerCall). c.told) cs ≡ map (λ (c : AnswerCall). c.told) cs'
  pub tables_same : (kept_after k (map answered cs)).tables ≡ (kept_after k' (map answered cs')).tables

pub record HiddenLent : Type 0 where
  pub calls : OfTwoUnits (λ k k'. (cs cs' : List Called) → Calls k cs → Calls k' cs'
      → SameBut (messages_through cs) (messages_through cs') → CallsAlike k k' cs cs')
  -- where both came to the end of their file
  pub by_replies : OfTwoUnits (λ k k'. (file file' n : List ℕ) (cs cs' : List RepliesCall)
      → SameBut (messages_of file) (messages_of file') → Calls k (map replied cs) → Calls k' (map replied cs')
      → OnFile file 0 n cs → OnFile file' 0 n cs' → length file ≤ place_reached 0 cs
      → length file' ≤ place_reached 0 cs'
      → RepliesAlike k k' file file' n cs cs')
  pub by_answers : OfTwoUnits (λ k k'. (cs cs' : List AnswerCall)
      → SameBut (messages_of (file_of cs)) (messages_of (file_of cs')) → Calls k (map answered cs)
      → Calls k' (map answered cs') → InFull cs → InFull cs' → AnswersAlike k k' cs cs')

-- ---- number 5

-- no call of `reel_answer` tells it
abbrev pub NoneTold : List Called → Type 0
NoneTold [] = Unit {0}
NoneTold (answered c ∷ cs) = (number_told c.told ≢ broken_tables) × NoneTold cs
NoneTold (replied c ∷ cs) = NoneTold cs
NoneTold (ran c ∷ cs) = NoneTold cs

-- nor is a message of any call answered 5, each call with its own buffer, also one below 70 bytes
abbrev pub NoneFive : Kept → List Called → Type 0
NoneFive k [] = Unit {0}
NoneFive k (c ∷ cs) = (none_five (turns_by k c) ≡ true) × NoneFive (left_of c) cs

-- of any calls on the bytes of sound tables, those that `reel_fresh` makes among them, whatever the stores are
abbrev pub NeverFiveLent : Type 0
NeverFiveLent =
    (t : Tables) (k : Kept) (cs : List Called) → sound t ≡ true → k.tables ≡ tables_bytes t → Calls k cs
    → NoneTold cs × NoneFive k cs
