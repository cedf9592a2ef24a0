-- Request [7] over lent bytes: for each field of `CallsAlike`, `RepliesAlike` and `AnswersAlike` a wrong pair that this
-- field rules out and no other does, and the least that `HiddenLent` and `NeverFiveLent` ask for. Computed.
use Rattle.std.specs.Prelude.{ℕ, ◌≡◌, refl, List, [], ◌∷◌, map, length, get_or, replicate, eqb}
use Rattle.std.proofs.Common.{ap, true≢false, arith}
use Rattle.tables.specs.Lists.{all, count, all_below}
use Rattle.tables.specs.Model.{fresh_page, fresh_tables}
use Rattle.tables.specs.Rules.{uses, holders, standing_rule, absent_rule, page_rule, none_shared, sizes_rule, pages_rule, sound}
use Rattle.tables.specs.Search.{in_copies, in_pages}
use Rattle.tables.specs.Register.{register_rule}
use Rattle.steps.specs.Kinds.{names, kinds, code, among, argument, call_of}
use Rattle.steps.specs.Stores.{fits}
use Rattle.messages.specs.Replies.{zero_tally}
use Rattle.messages.specs.declared.Tally.{Tally}
use Rattle.messages.specs.Messages.{parse, next_at}
use Rattle.messages.specs.Run.{split, messages_of, turns_of, answer}
use Rattle.theorems.specs.Hidden.{Alike, taken_covered}
use Rattle.theorems.specs.Witness3.{But}
use Rattle.embed.specs.Bytes.{tables_bytes}
use Rattle.embed.specs.Exports.{packed, Kept, kept}
use Rattle.callers.specs.Calls.{AnswerCall, RepliesCall, Called, answered, replied, kept_after, EachHad}
use Rattle.callers.specs.Lent.{taken_through, tally_reached, file_of}
use Rattle.callers.specs.Hidden.{run_through, CallsAlike, RepliesAlike, AnswersAlike, HiddenLent, NoneTold, NoneFive}
use Rattle.callers.specs.Hidden.{NeverFiveLent}

-- ---- the fields of `CallsAlike`

pub data Field : Type 0 where
  each_had : Field
  turns_alike : Field
  tables_same : Field

abbrev pub place : Field → ℕ
place each_had = 0
place turns_alike = 1
place tables_same = 2

-- two units, and calls on both
pub record Pair : Type 0 where
  pub one : Kept
  pub other : Kept
  pub calls : List Called

module _ (w : Pair) where
  abbrev pub Says : Field → Type 0
  Says each_had = EachHad w.one w.calls × EachHad w.other w.calls
  Says turns_alike = (n : Tally) → Alike 70 n (run_through w.one w.calls) (run_through w.other w.calls)
  Says tables_same = (kept_after w.one w.calls).tables ≡ (kept_after w.other w.calls).tables

  -- they are what `CallsAlike` says
  pub field_of : CallsAlike w.one w.other w.calls w.calls → (i : Field) → Says i
  field_of a each_had = a.each_had
  field_of a turns_alike = a.turns_alike
  field_of a tables_same = a.tables_same

  pub of_fields : ((i : Field) → Says i) → CallsAlike w.one w.other w.calls w.calls
  of_fields k = record { each_had = k each_had; turns_alike = k turns_alike; tables_same = k tables_same }

pub each : (X : Field → Type 0) → X each_had → X turns_alike → X tables_same → (i : Field) → X i
each X a b c each_had = a
each X a b c turns_alike = b
each X a b c tables_same = c

-- what a look at frame 0 is answered: its reply of nine bytes, of which the seventh is b, and the number told
abbrev pub look : List ℕ
look = 0 ∷ 3 ∷ 1 ∷ 11 ∷ 0 ∷ []

abbrev pub look_reply : ℕ → List ℕ
look_reply b = 0 ∷ 7 ∷ 1 ∷ 0 ∷ 0 ∷ 0 ∷ b ∷ 255 ∷ 255 ∷ []

abbrev pub asking : Kept → List ℕ → List ℕ → ℕ → AnswerCall
asking k out out' told = record { message = look; out = out; left = k; out' = out'; told = told }

-- bytes that hold no tables
abbrev pub nothing : Kept
nothing = kept [] [] []

abbrev pub wrong : Field → Pair
-- a call that tells 19 where its buffer is too short, to both
wrong each_had = record { one = nothing; other = nothing; calls = answered (asking nothing [] [] 19) ∷ [] }
-- no call, and a store of another length
wrong turns_alike = record { one = nothing; other = kept [] (0 ∷ []) []; calls = [] }
-- no call, and other bytes that hold no tables either
wrong tables_same = record { one = nothing; other = kept (0 ∷ []) [] []; calls = [] }

abbrev pub Row : Field → Field → Type 0
Row i j = But (eqb (place i) (place j)) (Says (wrong i) j)

pub alone : (i j : Field) → Row i j
unfolding turns_of answer next_at
alone each_had =
    each (Row each_had) (λ k. true≢false (ap (λ (l : List ℕ). eqb (get_or l 0 0) 19) k.0.0.told_had))
    (λ n. record {
      replies = refl;
      tables = refl;
      tallies = refl;
      found = refl;
      told_alike = refl;
      fast_long = refl;
      slow_long = refl;
    })
    refl
alone turns_alike =
    each (Row turns_alike) (tt, tt)
    (λ k. omega (arith, (k zero_tally).fast_long)) refl
alone tables_same =
    each (Row tables_same) (tt, tt)
    (λ n. record {
      replies = refl;
      tables = refl;
      tallies = refl;
      found = refl;
      told_alike = refl;
      fast_long = refl;
      slow_long = refl;
    })
    (λ e. omega (arith, ap (λ (l : List ℕ). length l) e))

-- ---- the fields of `RepliesAlike`

pub data Part : Type 0 where
  replies_taken : Part
  left_tables : Part
  left_tally : Part

abbrev pub part_place : Part → ℕ
part_place replies_taken = 0
part_place left_tables = 1
part_place left_tally = 2

module _ (c c' : RepliesCall) where
  abbrev pub Tells : Part → Type 0
  Tells replies_taken = taken_covered (messages_of look) (taken_through (map replied (c ∷ [])))
      ≡ taken_covered (messages_of look) (taken_through (map replied (c' ∷ [])))
  Tells left_tables =
      (kept_after nothing (map replied (c ∷ []))).tables ≡ (kept_after nothing (map replied (c' ∷ []))).tables
  Tells left_tally = tally_reached [] (c ∷ []) ≡ tally_reached [] (c' ∷ [])

  -- they are what `RepliesAlike` says
  pub part_of : RepliesAlike nothing nothing look look [] (c ∷ []) (c' ∷ []) → (i : Part) → Tells i
  part_of a replies_taken = a.replies_taken
  part_of a left_tables = a.tables_same
  part_of a left_tally = a.tally_same

  pub of_parts : ((i : Part) → Tells i) → RepliesAlike nothing nothing look look [] (c ∷ []) (c' ∷ [])
  of_parts k = record { replies_taken = k replies_taken; tables_same = k left_tables; tally_same = k left_tally }

pub each_part : (X : Part → Type 0) → X replies_taken → X left_tables → X left_tally → (i : Part) → X i
each_part X a b c replies_taken = a
each_part X a b c left_tables = b
each_part X a b c left_tally = c

-- a call that took the reply to the look
abbrev pub replying : Kept → ℕ → List ℕ → RepliesCall
replying k b tally =
    record {
      file = look;
      at = 0;
      out = replicate 9 0;
      tally = [];
      left = k;
      out' = look_reply b;
      tally' = tally;
      used = 9;
      place = 5;
    }

abbrev pub wrong_call : Part → RepliesCall
wrong_call replies_taken = replying nothing 9 []
wrong_call left_tables = replying (kept (0 ∷ []) [] []) 0 []
-- a tally that counts changed bytes
wrong_call left_tally = replying nothing 0 (1 ∷ [])

abbrev pub PartRow : Part → Part → Type 0
PartRow i j = But (eqb (part_place i) (part_place j)) (Tells (replying nothing 0 []) (wrong_call i) j)

pub part_alone : (i j : Part) → PartRow i j
unfolding taken_covered messages_of split parse names kinds code among argument call_of
part_alone replies_taken =
    each_part (PartRow replies_taken) (λ e. true≢false (ap (λ (l : List ℕ). eqb (get_or l 6 1) 0) e)) refl refl
part_alone left_tables =
    each_part (PartRow left_tables) refl (λ e. omega (arith, ap (λ (l : List ℕ). length l) e)) refl
part_alone left_tally =
    each_part (PartRow left_tally) refl refl (λ e. omega (arith, ap (λ (l : List ℕ). length l) e))

-- ---- the fields of `AnswersAlike`

pub data Answer : Type 0 where
  reply_taken : Answer
  number_told : Answer
  answer_tables : Answer

abbrev pub answer_place : Answer → ℕ
answer_place reply_taken = 0
answer_place number_told = 1
answer_place answer_tables = 2

module _ (c c' : AnswerCall) where
  abbrev pub Gives : Answer → Type 0
  Gives reply_taken = taken_covered (messages_of (file_of (c ∷ []))) (taken_through (map answered (c ∷ [])))
      ≡ taken_covered (messages_of (file_of (c' ∷ []))) (taken_through (map answered (c' ∷ [])))
  Gives number_told =
      map (λ (x : AnswerCall). x.told) (c ∷ []) ≡ map (λ (x : AnswerCall). x.told) (c' ∷ [])
  Gives answer_tables =
      (kept_after nothing (map answered (c ∷ []))).tables ≡ (kept_after nothing (map answered (c' ∷ []))).tables

  -- they are what `AnswersAlike` says
  pub answer_of : AnswersAlike nothing nothing (c ∷ []) (c' ∷ []) → (i : Answer) → Gives i
  answer_of a reply_taken = a.replies_taken
  answer_of a number_told = a.told_same
  answer_of a answer_tables = a.tables_same

  pub of_answers : ((i : Answer) → Gives i) → AnswersAlike nothing nothing (c ∷ []) (c' ∷ [])
  of_answers k = record { replies_taken = k reply_taken; told_same = k number_told; tables_same = k answer_tables }

pub each_answer : (X : Answer → Type 0) → X reply_taken → X number_told → X answer_tables → (i : Answer) → X i
each_answer X a b c reply_taken = a
each_answer X a b c number_told = b
each_answer X a b c answer_tables = c

abbrev pub right_answer : AnswerCall
right_answer = asking nothing (replicate 9 0) (look_reply 0) (packed 0 9 0)

abbrev pub wrong_answer : Answer → AnswerCall
wrong_answer reply_taken = asking nothing (replicate 9 0) (look_reply 9) (packed 0 9 0)
-- a byte laid that the reply does not state
wrong_answer number_told = asking nothing (replicate 9 0) (look_reply 0) (packed 0 9 1)
wrong_answer answer_tables = asking (kept (0 ∷ []) [] []) (replicate 9 0) (look_reply 0) (packed 0 9 0)

abbrev pub AnswerRow : Answer → Answer → Type 0
AnswerRow i j = But (eqb (answer_place i) (answer_place j)) (Gives right_answer (wrong_answer i) j)

pub answer_alone : (i j : Answer) → AnswerRow i j
unfolding taken_covered messages_of split parse names kinds code among argument call_of
answer_alone reply_taken =
    each_answer (AnswerRow reply_taken) (λ e. true≢false (ap (λ (l : List ℕ). eqb (get_or l 6 1) 0) e)) refl refl
answer_alone number_told =
    each_answer (AnswerRow number_told) refl
    (λ e. true≢false (ap (λ (l : List ℕ). eqb (get_or l 0 0) (packed 0 9 0)) e)) refl
answer_alone answer_tables =
    each_answer (AnswerRow answer_tables) refl refl (λ e. omega (arith, ap (λ (l : List ℕ). length l) e))

-- ---- the least that is asked for

-- a unit of no frame, and no call
abbrev pub least : Kept
least = kept (tables_bytes (fresh_tables 0 0)) [] []

pub hidden_at_0 : HiddenLent → RepliesAlike least least [] [] [] [] []
unfolding sound sizes_rule pages_rule none_shared all_below all count holders uses page_rule standing_rule absent_rule
    register_rule in_pages in_copies fresh_tables fresh_page fits
hidden_at_0 k =
    k.by_replies (fresh_tables 0 0) least least refl (record { tables_in = refl; stores_fit = refl })
    (record { tables_in = refl; stores_fit = refl }) [] [] [] [] [] refl tt tt tt tt (omega arith) (omega arith)

-- stores of no byte, where the tables have frames
abbrev pub misfit : Kept
misfit = kept (tables_bytes (fresh_tables 1 1)) [] []

pub five_at_misfit : NeverFiveLent → NoneTold [] × NoneFive misfit []
unfolding sound sizes_rule pages_rule none_shared all_below all count holders uses page_rule standing_rule absent_rule
    register_rule in_pages in_copies fresh_tables fresh_page
five_at_misfit k = k (fresh_tables 1 1) misfit [] refl refl tt
