-- For each field of the statements over lent bytes a wrong unit or a wrong answer that this field rules out and no
-- other does, computed. P = S = 1; station 3 creates page 5 and station 4 writes a byte of it, as in
-- theorems/specs/Witness3.antt.
use Rattle.std.specs.Prelude.{ℕ, ◌+◌, ◌*◌, ◌<◌, ◌≡◌, refl, true, ◌≢◌, length, get_or, set, replicate, eqb}
use Rattle.std.proofs.Common.{ap, true≢false, arith}
use Rattle.std.proofs.lemmas.Bool.{false≢true}
use mathlib.Core.List.{List, [], ◌∷◌, ◌++◌, map, flatten, flat_map}
use Rattle.tables.specs.Numbers.{accepted, short_buffer}
use Rattle.tables.specs.declared.Tables.{Tables}
use Rattle.tables.specs.Lists.{count_below}
use Rattle.tables.specs.Model.{fresh_copy, fresh_tables, with_pages}
use Rattle.tables.specs.Rules.{free}
use Rattle.tables.specs.Changes.{created, with_copies, new_copy, change_to, after}
use Rattle.steps.specs.Data.{each_is}
use Rattle.steps.specs.Stores.{over}
use Rattle.steps.specs.Steps.{rules_number}
use Rattle.messages.specs.Replies.{reply, up_to}
use Rattle.messages.specs.Run.{answer, Turn, messages_of, turns_of, Run, buffer, tally, joined_replies}
use Rattle.theorems.specs.Flat.{none, react_as, react_to, Answer}
use Rattle.theorems.specs.Demand1.{allowed, refusal_in}
use Rattle.theorems.specs.Demand3.{flat_after, flat_answers}
use Rattle.theorems.specs.Caller.{eleven_taken, answers_taken}
use Rattle.theorems.specs.Cases.{run_on}
use Rattle.theorems.specs.Witness3.{But, file₃, fast_bytes, slow_bytes, start, made, first, answering}
use Rattle.theorems.specs.Clean.{Blank, NoneHeld}
use Rattle.theorems.specs.Retired.{three_numbers}
use Rattle.theorems.specs.Witness1.{buffer₇₀}
use Rattle.embed.specs.Bytes.{tables_bytes, page_bytes, tables_from, from_each, page_from, marks_valid, page_marks_valid}
use Rattle.embed.specs.Exports.{tables_of, packed, Kept, kept, state_in}
use Rattle.callers.specs.Calls.{AnswerCall, RepliesCall, RunCall, answered, replied, out_lent, out_left, left_of}
use Rattle.callers.specs.Calls.{kept_after, turns_through, told_of, taken}
use Rattle.callers.specs.Calls.{counted_on, AnswerHad, RepliesHad, RunHad, LeftAlone, EachHad}
use Rattle.callers.specs.Lent.{InOrder, KeptIs, CallsHad, FileTaken, number_told, ObeysLent}

-- ---- a call file

-- the fields of `FileTaken`, with those of `KeptIs`, and the tally
pub data Field : Type 0 where
  replies_taken : Field
  answers_as_taken : Field
  tables_are : Field
  fast_is : Field
  slow_is : Field
  tally_as_left : Field

abbrev pub place : Field → ℕ
place replies_taken = 0
place answers_as_taken = 1
place tables_are = 2
place fast_is = 3
place slow_is = 4
place tally_as_left = 5

-- what a caller has of the file: the bytes that it took, what it keeps, its tally; and the run over it
pub record Holding : Type 0 where
  pub bytes : List ℕ
  pub keeps : Kept
  pub counted : List ℕ
  pub run : Run

abbrev pub naught : List ℕ
naught = 0 ∷ 0 ∷ 0 ∷ []

module _ (w : Holding) where
  abbrev pub Says : Field → Type 0
  Says replies_taken = w.bytes ≡ joined_replies 70 w.run.turns
  Says answers_as_taken =
      flat_answers none (messages_of file₃) (map eleven_taken (messages_of w.bytes))
      ≡ answers_taken (messages_of file₃) (messages_of w.bytes)
  Says tables_are = w.keeps.tables ≡ tables_bytes w.run.final.tables
  Says fast_is = w.keeps.fast ≡ w.run.final.fast
  Says slow_is = w.keeps.slow ≡ w.run.final.slow
  Says tally_as_left = w.counted ≡ counted_on w.run.turns naught

  -- they are what is said of a file
  abbrev pub FileCase : Type 0
  FileCase = FileTaken file₃ w.bytes w.keeps w.run × (w.counted ≡ counted_on w.run.turns naught)

  pub field_of : FileCase → (i : Field) → Says i
  field_of h replies_taken = h.0.replies_taken
  field_of h answers_as_taken = h.0.answers_as_taken
  field_of h tables_are = h.0.kept_is.tables_are
  field_of h fast_is = h.0.kept_is.fast_is
  field_of h slow_is = h.0.kept_is.slow_is
  field_of h tally_as_left = h.1

  pub of_fields : ((i : Field) → Says i) → FileCase
  of_fields k = (
    record {
      replies_taken = k replies_taken;
      answers_as_taken = k answers_as_taken;
      kept_is = record { tables_are = k tables_are; fast_is = k fast_is; slow_is = k slow_is };
    },
    k tally_as_left,
  )

pub each : (X : Field → Type 0) → X replies_taken → X answers_as_taken → X tables_are → X fast_is → X slow_is
    → X tally_as_left → (i : Field) → X i
each X a b c d e f replies_taken = a
each X a b c d e f answers_as_taken = b
each X a b c d e f tables_are = c
each X a b c d e f fast_is = d
each X a b c d e f slow_is = e
each X a b c d e f tally_as_left = f

-- the replies to the create and to the write, which is answered n
abbrev pub replies₃ : ℕ → List ℕ
replies₃ n = 0 ∷ 4 ∷ 1 ∷ 0 ∷ 0 ∷ 0 ∷ 0 ∷ 4 ∷ 1 ∷ n ∷ 0 ∷ 0 ∷ []

abbrev pub kept₃ : Kept
kept₃ = kept (tables_bytes made.tables) fast_bytes slow_bytes

abbrev pub holding : List ℕ → Kept → List ℕ → Run → Holding
holding bytes k n r = record { bytes = bytes; keeps = k; counted = n; run = r }

abbrev pub keeping : Kept → Holding
keeping k = holding (replies₃ 10) k (2 ∷ 1 ∷ 0 ∷ []) (answering 10)

abbrev pub wrong : Field → Holding
-- a byte too many
wrong replies_taken = holding (replies₃ 10 ++ (0 ∷ [])) kept₃ (2 ∷ 1 ∷ 0 ∷ []) (answering 10)
-- another number
wrong answers_as_taken = holding (replies₃ 9) kept₃ (2 ∷ 1 ∷ 0 ∷ []) (answering 9)
-- the tables as they were lent; a byte of a store that changed
wrong tables_are = keeping (kept (tables_bytes start.tables) fast_bytes slow_bytes)
wrong fast_is = keeping (kept (tables_bytes made.tables) (set fast_bytes 0 0) slow_bytes)
wrong slow_is = keeping (kept (tables_bytes made.tables) fast_bytes (set slow_bytes 0 0))
-- a refusal that is not counted
wrong tally_as_left = holding (replies₃ 10) kept₃ (2 ∷ 0 ∷ 0 ∷ []) (answering 10)

-- field j of what is wrong in field i: ruled out by its own field, and by no other
abbrev pub Row : Field → Field → Type 0
Row i j = But (eqb (place i) (place j)) (Says (wrong i) j)

pub alone : (i j : Field) → Row i j
unfolding run_on flatten flat_map flat_answers flat_after answers_taken react_as react_to tables_bytes page_bytes
    tally up_to
alone replies_taken =
    each (Row replies_taken) (λ e. false≢true (ap (λ (l : List ℕ). eqb (length l) 12) e)) refl refl refl refl refl
alone answers_as_taken =
    each (Row answers_as_taken) refl
    (λ e. false≢true (ap (λ (l : List Answer). eqb (get_or (map (λ (x : Answer). x.number) l) 1 0) 9) e))
    refl refl refl refl
alone tables_are =
    each (Row tables_are) refl refl (λ e. false≢true (ap (λ (l : List ℕ). eqb (get_or l 253 0) 1) e)) refl refl refl
alone fast_is =
    each (Row fast_is) refl refl refl (λ e. true≢false (ap (λ (l : List ℕ). eqb (get_or l 0 1) 0) e)) refl refl
alone slow_is =
    each (Row slow_is) refl refl refl refl (λ e. true≢false (ap (λ (l : List ℕ). eqb (get_or l 0 1) 0) e)) refl
alone tally_as_left =
    each (Row tally_as_left) refl refl refl refl refl (λ e. false≢true (ap (λ (l : List ℕ). eqb (get_or l 1 0) 1) e))

-- ---- calls, by the turn of the create or by none: a field fails, and those beside it hold

abbrev pub kept₁ : Kept
kept₁ = kept (tables_bytes start.tables) fast_bytes slow_bytes

-- the reply to the create, which stands at the front of 70 bytes that were lent (`buffer₇₀`)
abbrev pub six : List ℕ
six = 0 ∷ 4 ∷ 1 ∷ 0 ∷ 0 ∷ 0 ∷ []

abbrev pub answer_call : List ℕ → Kept → List ℕ → ℕ → AnswerCall
answer_call out k out' r =
    record { message = 0 ∷ 4 ∷ 1 ∷ 1 ∷ 3 ∷ 5 ∷ []; out = out; left = k; out' = out'; told = r }

abbrev pub replies_call : List ℕ → List ℕ → RepliesCall
replies_call out' n =
    record {
      file = 0 ∷ 4 ∷ 1 ∷ 1 ∷ 3 ∷ 5 ∷ [];
      at = 0;
      out = buffer₇₀;
      tally = naught;
      left = kept₃;
      out' = out';
      tally' = n;
      used = 6;
      place = 6;
    }

abbrev pub run_call : List ℕ → List ℕ → RunCall
run_call out' n =
    record {
      file = 0 ∷ 4 ∷ 1 ∷ 1 ∷ 3 ∷ 5 ∷ [];
      out = buffer₇₀;
      tally = naught;
      left = kept₃;
      out' = out';
      tally' = n;
    }

abbrev pub created₁ : List Turn
created₁ = first ∷ []

-- `AnswerHad`: bytes laid that are told and were not; another reply
pub told_alone : let c = answer_call buffer₇₀ kept₃ (over six buffer₇₀) (packed 0 6 64) in
    (AnswerHad c created₁ → ⊥) × (taken (answered c) ≡ joined_replies 70 created₁)
unfolding flatten reply
told_alone = (λ h. false≢true (ap (λ (l : List ℕ). eqb (get_or l 0 0) 1536) h.told_had), refl)

pub answer_alone : let c = answer_call buffer₇₀ kept₃ buffer₇₀ (packed 0 6 0) in
    (AnswerHad c created₁ → ⊥) × (c.told ∷ [] ≡ map (told_of 70) created₁)
unfolding flatten reply
answer_alone = (λ h. false≢true (ap (λ (l : List ℕ). eqb (get_or l 0 0) 0) h.replies_had), refl)

-- `RepliesHad`: another reply; a message that is not counted
pub replies_alone : let c = replies_call buffer₇₀ (1 ∷ 0 ∷ 0 ∷ []) in
    (RepliesHad c created₁ → ⊥) × (c.tally' ≡ counted_on created₁ naught)
unfolding flatten reply tally up_to
replies_alone = (λ h. false≢true (ap (λ (l : List ℕ). eqb (get_or l 0 0) 0) h.replies_had), refl)

pub replies_tally_alone : let c = replies_call (over six buffer₇₀) naught in
    (RepliesHad c created₁ → ⊥) × (taken (replied c) ≡ joined_replies 70 created₁)
unfolding flatten reply tally up_to
replies_tally_alone = (λ h. false≢true (ap (λ (l : List ℕ). eqb (get_or l 0 0) 1) h.tally_had), refl)

-- `RunHad`: no reply left; a message that is not counted
pub buffer_alone : let c = run_call buffer₇₀ (1 ∷ 0 ∷ 0 ∷ []) in
    (RunHad c created₁ → ⊥) × (c.tally' ≡ counted_on created₁ naught)
unfolding buffer reply tally up_to
buffer_alone = (λ h. false≢true (ap (λ (l : List ℕ). eqb (get_or l 0 0) 0) h.buffer_had), refl)

pub run_tally_alone : let c = run_call (over six buffer₇₀) naught in
    (RunHad c created₁ → ⊥) × (c.out' ≡ buffer 70 created₁ buffer₇₀)
unfolding buffer reply tally up_to
run_tally_alone = (λ h. false≢true (ap (λ (l : List ℕ). eqb (get_or l 0 0) 1) h.tally_had), refl)

-- `LeftAlone`, with a buffer of one byte: the unit changed; the byte written
pub unit_alone : let k' = kept (tables_bytes start.tables) slow_bytes slow_bytes in
    let c = answered (answer_call (7 ∷ []) k' (7 ∷ []) 18) in
    (LeftAlone kept₁ c → ⊥) × (out_left c ≡ out_lent c)
unit_alone = (λ h. false≢true (ap (λ (k : Kept). eqb (get_or k.fast 0 0) 0xEE) (h (omega arith)).0), refl)

pub short_alone : let c = answered (answer_call (7 ∷ []) kept₁ (0 ∷ []) 18) in
    (LeftAlone kept₁ c → ⊥) × (left_of c ≡ kept₁)
short_alone = (λ h. false≢true (ap (λ (l : List ℕ). eqb (get_or l 0 0) 7) (h (omega arith)).1), refl)

-- `CallsHad`: a short buffer that is answered 9 in place of 18; a turn that no call had. `KeptIs` has its own above.
abbrev pub unmoved : List Turn → Run
unmoved ts = record { turns = ts; final = start }

pub each_alone : let cs = answered (answer_call [] kept₁ [] 9) ∷ [] in
    (CallsHad kept₁ cs (unmoved []) → ⊥) × (turns_through kept₁ cs ≡ []) × KeptIs (kept_after kept₁ cs) (unmoved [])
unfolding turns_of answer
each_alone = (
  λ h. false≢true (ap (λ (l : List ℕ). eqb (get_or l 0 0) 18) h.each_had.0.told_had),
  refl,
  record { tables_are = refl; fast_is = refl; slow_is = refl },
)

pub joined_alone : (CallsHad kept₁ [] (unmoved created₁) → ⊥) × EachHad kept₁ [] × KeptIs kept₁ (unmoved created₁)
joined_alone = (
  λ h. true≢false (ap (λ (ts : List Turn). eqb (length ts) 0) h.turns_joined),
  tt,
  record { tables_are = refl; fast_is = refl; slow_is = refl },
)

-- ---- one message on any bytes

-- the fields of `ObeysLent`
pub data Part : Type 0 where
  in_table : Part
  short : Part
  unchanged : Part
  told_fixed : Part
  fixed : Part

abbrev pub part_place : Part → ℕ
part_place in_table = 0
part_place short = 1
part_place unchanged = 2
part_place told_fixed = 3
part_place fixed = 4

-- a message answered: the buffer that was lent, what is left of the unit and of the buffer, and the number that was
-- told
pub record Tried : Type 0 where
  pub out : List ℕ
  pub keeps : Kept
  pub out' : List ℕ
  pub told : ℕ

module _ (w : Tried) where
  abbrev pub refused : Type 0
  refused = number_told w.told ≢ accepted

  abbrev pub six_bytes : List ℕ
  six_bytes = refusal_in (length w.out) (number_told w.told)

  abbrev pub Tells : Part → Type 0
  Tells in_table = allowed (number_told w.told) ≡ true
  Tells short = length w.out < 70 → w.told ≡ short_buffer
  Tells unchanged = refused → w.keeps ≡ kept₁
  Tells told_fixed = refused → w.told ≡ packed (number_told w.told) (length six_bytes) 0
  Tells fixed = refused → w.out' ≡ over six_bytes w.out

  -- they are what `ObeysLent` says
  pub part_of : ObeysLent kept₁ w.out w.keeps w.out' w.told → (i : Part) → Tells i
  part_of o in_table = o.in_table
  part_of o short = o.short
  part_of o unchanged = o.unchanged
  part_of o told_fixed = o.told_fixed
  part_of o fixed = o.fixed

  pub of_parts : ((i : Part) → Tells i) → ObeysLent kept₁ w.out w.keeps w.out' w.told
  of_parts k =
      record {
        in_table = k in_table;
        short = k short;
        unchanged = k unchanged;
        told_fixed = k told_fixed;
        fixed = k fixed;
      }

pub each_part : (X : Part → Type 0) → X in_table → X short → X unchanged → X told_fixed → X fixed → (i : Part) → X i
each_part X a b c d e in_table = a
each_part X a b c d e short = b
each_part X a b c d e unchanged = c
each_part X a b c d e told_fixed = d
each_part X a b c d e fixed = e

abbrev pub tried : List ℕ → Kept → List ℕ → ℕ → Tried
tried out k out' r = record { out = out; keeps = k; out' = out'; told = r }

-- a read of an absent page is refused with 9, in six bytes
abbrev pub wrong_answer : Part → Tried
-- a number that is for making tables
wrong_answer in_table = tried buffer₇₀ kept₁ (over (0 ∷ 4 ∷ 1 ∷ 19 ∷ 0 ∷ 0 ∷ []) buffer₇₀) (packed 19 6 0)
-- 9 where 18 comes first
wrong_answer short = tried [] kept₁ [] 9
-- a byte of the fast store changed
wrong_answer unchanged =
    tried buffer₇₀ (kept (tables_bytes start.tables) (set fast_bytes 0 0) slow_bytes)
    (over (0 ∷ 4 ∷ 1 ∷ 9 ∷ 0 ∷ 0 ∷ []) buffer₇₀) (packed 9 6 0)
-- bytes laid: told, or in the reply
wrong_answer told_fixed = tried buffer₇₀ kept₁ (over (0 ∷ 4 ∷ 1 ∷ 9 ∷ 0 ∷ 0 ∷ []) buffer₇₀) (packed 9 6 64)
wrong_answer fixed = tried buffer₇₀ kept₁ (over (0 ∷ 4 ∷ 1 ∷ 9 ∷ 0 ∷ 64 ∷ []) buffer₇₀) (packed 9 6 0)

abbrev pub PartRow : Part → Part → Type 0
PartRow i j = But (eqb (part_place i) (part_place j)) (Tells (wrong_answer i) j)

is_nine : 9 ≢ accepted
is_nine e = omega arith

roomy : {A : Type 0} → length buffer₇₀ < 70 → A
roomy h = absurd (omega arith)

pub part_alone : (i j : Part) → PartRow i j
part_alone in_table = each_part (PartRow in_table) false≢true roomy (λ _. refl) (λ _. refl) (λ _. refl)
part_alone short =
    each_part (PartRow short) refl (λ k. omega (arith, k (omega arith))) (λ _. refl) (λ _. refl) (λ _. refl)
part_alone unchanged =
    each_part (PartRow unchanged) refl roomy
    (λ k. true≢false (ap (λ (x : Kept). eqb (get_or x.fast 0 1) 0) (k is_nine))) (λ _. refl) (λ _. refl)
part_alone told_fixed =
    each_part (PartRow told_fixed) refl roomy (λ _. refl) (λ k. omega (arith, k is_nine)) (λ _. refl)
part_alone fixed =
    each_part (PartRow fixed) refl roomy (λ _. refl) (λ _. refl)
    (λ k. false≢true (ap (λ (l : List ℕ). eqb (get_or l 5 0) 0) (k is_nine)))

-- ---- the bytes, whatever the messages were

-- the fields of `InOrder`
pub data Order : Type 0 where
  ruled : Order
  add_up : Order
  card_blank : Order
  card_clean : Order

abbrev pub order_place : Order → ℕ
order_place ruled = 0
order_place add_up = 1
order_place card_blank = 2
order_place card_clean = 3

-- P, S and the card that a unit began with, and what the caller keeps of it
pub record Aged : Type 0 where
  pub p : ℕ
  pub s : ℕ
  pub slow : List ℕ
  pub keeps : Kept

module _ (w : Aged) where
  abbrev pub began : Type 0
  began = w.slow ≡ replicate (64 * w.s) 0

  abbrev pub tables : Tables
  tables = tables_of w.keeps.tables

  abbrev pub Keeps : Order → Type 0
  Keeps ruled = rules_number tables (length w.keeps.fast) (length w.keeps.slow) ≡ accepted
  Keeps add_up = three_numbers tables ≡ w.p + w.s
  Keeps card_blank = began → Blank (state_in w.keeps)
  Keeps card_clean = began → NoneHeld tables → w.keeps.slow ≡ replicate (64 * w.s) 0

  -- they are what `InOrder` says, whatever the fast store began with
  pub order_of : (fast : List ℕ) → InOrder w.p w.s fast w.slow w.keeps → (i : Order) → Keeps i
  order_of fast o ruled = o.ruled
  order_of fast o add_up = o.add_up
  order_of fast o card_blank = o.card_blank
  order_of fast o card_clean = o.card_clean

  pub of_order : (fast : List ℕ) → ((i : Order) → Keeps i) → InOrder w.p w.s fast w.slow w.keeps
  of_order fast k =
      record { ruled = k ruled; add_up = k add_up; card_blank = k card_blank; card_clean = k card_clean }

pub each_order : (X : Order → Type 0) → X ruled → X add_up → X card_blank → X card_clean → (i : Order) → X i
each_order X a b c d ruled = a
each_order X a b c d add_up = b
each_order X a b c d card_blank = c
each_order X a b c d card_clean = d

abbrev pub aged : ℕ → ℕ → List ℕ → Tables → List ℕ → List ℕ → Aged
aged p s began t fast slow = record { p = p; s = s; slow = began; keeps = kept (tables_bytes t) fast slow }

-- page 5 with one copy, on the card: frame 1, where P = 1
abbrev pub on_card : Tables
on_card =
    after (fresh_tables 1 2)
    (change_to 5 (with_copies (created 3) 1 (set (replicate 8 fresh_copy) 0 (new_copy 1 true))) 255)

abbrev pub wrong_order : Order → Aged
-- the register has a copy on a free frame
wrong_order ruled =
    let t = fresh_tables 1 1 in
    aged 1 1 slow_bytes (with_pages t t.pages (set t.register 0 0)) fast_bytes slow_bytes
-- a fast frame more
wrong_order add_up = aged 1 1 slow_bytes (fresh_tables 2 1) (fast_bytes ++ fast_bytes) slow_bytes
-- bytes on a free frame of the card, while a copy is on the other
wrong_order card_blank = aged 1 2 (replicate 128 0) on_card fast_bytes (replicate 64 0 ++ slow_bytes)
-- the card's frame taken for a fast one
wrong_order card_clean = aged 1 1 (replicate 64 0) (fresh_tables 2 0) (fast_bytes ++ fast_bytes) []

abbrev pub OrderRow : Order → Order → Type 0
OrderRow i j = But (eqb (order_place i) (order_place j)) (Keeps (wrong_order i) j)

-- the card began with other bytes
not_zeros : {A : Type 0} → slow_bytes ≡ replicate (64 * 1) 0 → A
not_zeros e = absurd (false≢true (ap (λ (l : List ℕ). eqb (get_or l 0 1) 0) e))

pub order_alone : (i j : Order) → OrderRow i j
unfolding run_on flat_map tables_bytes page_bytes tables_from from_each page_from marks_valid page_marks_valid each_is
    count_below free
order_alone ruled = each_order (OrderRow ruled) (λ e. true≢false (ap (λ (n : ℕ). eqb n 5) e)) refl not_zeros not_zeros
order_alone add_up = each_order (OrderRow add_up) refl (λ e. true≢false (ap (λ (n : ℕ). eqb n 3) e)) not_zeros not_zeros
order_alone card_blank =
    each_order (OrderRow card_blank) refl refl
    (λ k. false≢true (ap (λ (l : List ℕ). eqb (get_or l 0 1) 0) (k refl 2 (omega arith) (omega arith) refl)))
    (λ e k. absurd (true≢false (k 1 (omega arith) (omega arith))))
order_alone card_clean =
    each_order (OrderRow card_clean) refl refl (λ e f slow low none. absurd (omega arith))
    (λ k. true≢false (ap (λ (l : List ℕ). eqb (length l) 0) (k refl (λ f slow low. absurd (omega arith)))))
