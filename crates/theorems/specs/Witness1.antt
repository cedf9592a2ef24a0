-- Demand 1: for each field of `Obeys`, `TurnObeys`, `RunObeys` and `TallyObeys` a wrong answer, turn or tally that this
-- field rules out and no other does, the numbers that it allows, and the least that it asks for. Computed.
use Rattle.std.specs.Prelude.{ℕ, ◌<◌, ◌≡◌, refl, true, false, List, [], ◌∷◌, ◌≢◌, length, get_or, set, replicate, eqb, Err}
use Rattle.std.proofs.Common.{ap, true≢false, arith}
use Rattle.std.proofs.lemmas.Bool.{false≢true}
use Rattle.tables.specs.declared.refusals.Refusal.TheVariants.{NoPage, TooManyFrames}
use Rattle.tables.specs.declared.refusals.Refusal.{Refusal}
use Rattle.tables.specs.Lists.{count, all_below, count_below}
use Rattle.tables.specs.Numbers.{accepted, short_buffer, answer_number}
use Rattle.tables.specs.Model.{absent, fresh_page, fresh_tables, page_at}
use Rattle.tables.specs.Changes.{created, after}
use Rattle.steps.specs.Stores.{over}
use Rattle.steps.specs.Steps.{refuse, number_of}
use Rattle.steps.specs.Effects.{State}
use Rattle.messages.specs.declared.Answered.{Answered}
use Rattle.messages.specs.declared.Tally.{Tally}
use Rattle.messages.specs.Replies.{up_to}
use Rattle.messages.specs.Run.{whole, Turn, Run, run, replies, tally}
use Rattle.theorems.specs.Demand1.{allowed, refusal_in, Loan, refused_once, Obeys, TurnObeys, next, TurnsObey, RunObeys}
use Rattle.theorems.specs.Demand1.{is_refused, laid_accepted, TallyObeys, Demand1}
use Rattle.theorems.specs.Witness3.{But, file₃, fast_bytes, slow_bytes, start, broken, made, first, second}

-- ---- one message

-- the fields of `Obeys`
pub data Part : Type 0 where
  in_table : Part
  short : Part
  unchanged : Part
  none_laid : Part
  tallied : Part
  fixed : Part
  len_fixed : Part

abbrev pub part_place : Part → ℕ
part_place in_table = 0
part_place short = 1
part_place unchanged = 2
part_place none_laid = 3
part_place tallied = 4
part_place fixed = 5
part_place len_fixed = 6

-- a message answered: what was lent, what was told, and what was had back
pub record Tried : Type 0 where
  pub before : Loan
  pub told : Answered
  pub after : Loan

module _ (w : Tried) where
  abbrev pub refused : Type 0
  refused = answer_number w.told.answer ≢ accepted

  abbrev pub six_bytes : List ℕ
  six_bytes = refusal_in (length w.before.out) (answer_number w.told.answer)

  abbrev pub Tells : Part → Type 0
  Tells in_table = allowed (answer_number w.told.answer) ≡ true
  Tells short = length w.before.out < 70 → answer_number w.told.answer ≡ short_buffer
  Tells unchanged = refused → w.after.state ≡ w.before.state
  Tells none_laid = refused → w.told.laid ≡ 0
  Tells tallied = refused → w.after.tally ≡ refused_once w.before.tally
  Tells fixed = refused → w.after.out ≡ over six_bytes w.before.out
  Tells len_fixed = refused → w.told.len ≡ length six_bytes

  -- they are what `Obeys` says
  pub part_of : Obeys w.before w.told w.after → (i : Part) → Tells i
  part_of o in_table = o.in_table
  part_of o short = o.short
  part_of o unchanged = o.unchanged
  part_of o none_laid = o.none_laid
  part_of o tallied = o.tallied
  part_of o fixed = o.fixed
  part_of o len_fixed = o.len_fixed

  pub of_parts : ((i : Part) → Tells i) → Obeys w.before w.told w.after
  of_parts k =
      record {
        in_table = k in_table;
        short = k short;
        unchanged = k unchanged;
        none_laid = k none_laid;
        tallied = k tallied;
        fixed = k fixed;
        len_fixed = k len_fixed;
      }

pub each_part : (X : Part → Type 0) → X in_table → X short → X unchanged → X none_laid → X tallied → X fixed
    → X len_fixed → (i : Part) → X i
each_part X a b c d e f g in_table = a
each_part X a b c d e f g short = b
each_part X a b c d e f g unchanged = c
each_part X a b c d e f g none_laid = d
each_part X a b c d e f g tallied = e
each_part X a b c d e f g fixed = f
each_part X a b c d e f g len_fixed = g

-- A read of an absent page: 9. The reply buffer has 70 bytes of 0xAA, and seven messages came before.
abbrev pub buffer₇₀ : List ℕ
buffer₇₀ = replicate 70 0xAA

abbrev pub tally_of : ℕ → ℕ → ℕ → Tally
tally_of m n laid = record { messages = m; refusals = n; laid = laid }

abbrev pub told : Refusal → ℕ → ℕ → Answered
told refusal len laid =
    record { answer = Err refusal; len = len; laid = laid; moved = false; tables = fresh_tables 1 1 }

abbrev pub tried : List ℕ → Answered → State → List ℕ → ℕ → Tried
tried out r s out' laid =
    record {
      before = record { state = start; out = out; tally = tally_of 7 2 5 };
      told = r;
      after = record { state = s; out = out'; tally = tally_of 8 3 laid };
    }

abbrev pub nine : List ℕ
nine = over (0 ∷ 4 ∷ 1 ∷ 9 ∷ 0 ∷ 0 ∷ []) buffer₇₀

abbrev pub wrong_answer : Part → Tried
-- a number that is for making tables
wrong_answer in_table = tried buffer₇₀ (told TooManyFrames 6 0) start (over (0 ∷ 4 ∷ 1 ∷ 19 ∷ 0 ∷ 0 ∷ []) buffer₇₀) 5
-- 9 where 18 comes first
wrong_answer short = tried [] (told NoPage 0 0) start [] 5
-- a byte of the fast store changed
wrong_answer unchanged = tried buffer₇₀ (told NoPage 6 0)
    (record { tables = start.tables; fast = set fast_bytes 0 0; slow = slow_bytes }) nine 5
-- bytes laid: told, or tallied, or in the reply
wrong_answer none_laid = tried buffer₇₀ (told NoPage 6 64) start nine 5
wrong_answer tallied = tried buffer₇₀ (told NoPage 6 0) start nine 69
wrong_answer fixed = tried buffer₇₀ (told NoPage 6 0) start (over (0 ∷ 4 ∷ 1 ∷ 9 ∷ 0 ∷ 64 ∷ []) buffer₇₀) 5
-- the whole buffer told to be the reply
wrong_answer len_fixed = tried buffer₇₀ (told NoPage 70 0) start nine 5

abbrev pub PartRow : Part → Part → Type 0
PartRow i j = But (eqb (part_place i) (part_place j)) (Tells (wrong_answer i) j)

is_nine : 9 ≢ accepted
is_nine e = omega arith

roomy : {A : Type 0} → length buffer₇₀ < 70 → A
roomy h = absurd (omega arith)

pub part_alone : (i j : Part) → PartRow i j
unfolding up_to fresh_tables
part_alone in_table = each_part (PartRow in_table) false≢true roomy (λ _. refl) (λ _. refl) (λ _. refl) (λ _. refl)
    (λ _. refl)
part_alone short =
    each_part (PartRow short) refl (λ k. omega (arith, k (omega arith))) (λ _. refl) (λ _. refl) (λ _. refl) (λ _. refl)
    (λ _. refl)
part_alone unchanged =
    each_part (PartRow unchanged) refl roomy (λ k. true≢false
    (ap (λ (s : State). eqb (get_or s.fast 0 1) 0) (k is_nine))) (λ _. refl) (λ _. refl)
    (λ _. refl) (λ _. refl)
part_alone none_laid = each_part (PartRow none_laid) refl roomy (λ _. refl) (λ k. omega (arith, k is_nine)) (λ _. refl)
    (λ _. refl) (λ _. refl)
part_alone tallied =
    each_part (PartRow tallied) refl roomy (λ _. refl) (λ _. refl)
    (λ k. false≢true (ap (λ (n : Tally). eqb n.laid 5) (k is_nine))) (λ _. refl) (λ _. refl)
part_alone fixed =
    each_part (PartRow fixed) refl roomy (λ _. refl) (λ _. refl) (λ _. refl)
    (λ k. false≢true (ap (λ (l : List ℕ). eqb (get_or l 5 0) 0) (k is_nine)))
    (λ _. refl)
part_alone len_fixed =
    each_part (PartRow len_fixed) refl roomy (λ _. refl) (λ _. refl) (λ _. refl) (λ _. refl)
    (λ k. omega (arith, k is_nine))

-- ---- the turns of a run

-- the fields of `TurnObeys`
pub data TurnPart : Type 0 where
  turn_in_table : TurnPart
  turn_short : TurnPart
  turn_unchanged : TurnPart
  turn_fixed : TurnPart

abbrev pub turn_place : TurnPart → ℕ
turn_place turn_in_table = 0
turn_place turn_short = 1
turn_place turn_unchanged = 2
turn_place turn_fixed = 3

-- a turn of a run, its reply and the state after it
pub record Taken : Type 0 where
  pub room : ℕ
  pub turn : Turn
  pub reply : List ℕ
  pub after : State

module _ (w : Taken) where
  abbrev pub number : ℕ
  number = number_of w.turn.outcome

  abbrev pub TurnTells : TurnPart → Type 0
  TurnTells turn_in_table = allowed number ≡ true
  TurnTells turn_short = w.room < 70 → number ≡ short_buffer
  TurnTells turn_unchanged = number ≢ accepted → w.after ≡ w.turn.found
  TurnTells turn_fixed = number ≢ accepted → w.reply ≡ refusal_in w.room number

  -- they are what `TurnObeys` says
  pub turn_part_of : TurnObeys w.room w.turn w.reply w.after → (i : TurnPart) → TurnTells i
  turn_part_of o turn_in_table = o.in_table
  turn_part_of o turn_short = o.short
  turn_part_of o turn_unchanged = o.unchanged
  turn_part_of o turn_fixed = o.fixed

  pub of_turn_parts : ((i : TurnPart) → TurnTells i) → TurnObeys w.room w.turn w.reply w.after
  of_turn_parts k = record {
    in_table = k turn_in_table;
    short = k turn_short;
    unchanged = k turn_unchanged;
    fixed = k turn_fixed;
  }

pub each_turn_part : (X : TurnPart → Type 0) → X turn_in_table → X turn_short → X turn_unchanged → X turn_fixed
    → (i : TurnPart) → X i
each_turn_part X a b c d turn_in_table = a
each_turn_part X a b c d turn_short = b
each_turn_part X a b c d turn_unchanged = c
each_turn_part X a b c d turn_fixed = d

-- a read of an absent page, answered with n
abbrev pub taken : ℕ → ℕ → List ℕ → State → Taken
taken room n bytes s =
    record {
      room = room;
      turn = record {
        found = start;
        sent = whole (1 ∷ 4 ∷ 4 ∷ 5 ∷ 0 ∷ 1
            ∷ []);
        outcome = refuse n;
      };
      reply = bytes;
      after = s;
    }

abbrev pub wrong_turn : TurnPart → Taken
wrong_turn turn_in_table = taken 70 19 (0 ∷ 4 ∷ 1 ∷ 19 ∷ 0 ∷ 0 ∷ []) start
wrong_turn turn_short = taken 69 9 [] start
-- the page is created
wrong_turn turn_unchanged = taken 70 9 (0 ∷ 4 ∷ 1 ∷ 9 ∷ 0 ∷ 0 ∷ []) made
-- a reply in a buffer of 69 bytes
wrong_turn turn_fixed = taken 69 18 (0 ∷ 4 ∷ 1 ∷ 18 ∷ 0 ∷ 0 ∷ []) start

abbrev pub TurnRow : TurnPart → TurnPart → Type 0
TurnRow i j = But (eqb (turn_place i) (turn_place j)) (TurnTells (wrong_turn i) j)

pub turn_alone : (i j : TurnPart) → TurnRow i j
unfolding fresh_tables fresh_page created after
turn_alone turn_in_table = each_turn_part (TurnRow turn_in_table) false≢true (λ h. absurd (omega arith)) (λ _. refl)
    (λ _. refl)
turn_alone turn_short = each_turn_part (TurnRow turn_short) refl (λ k. omega (arith, k (omega arith))) (λ _. refl)
    (λ _. refl)
turn_alone turn_unchanged =
    each_turn_part (TurnRow turn_unchanged) refl (λ h. absurd (omega arith))
    (λ k. false≢true (ap (λ (s : State). absent (page_at s.tables 5)) (k is_nine))) (λ _. refl)
turn_alone turn_fixed =
    each_turn_part (TurnRow turn_fixed) refl (λ _. refl) (λ _. refl)
    (λ k. false≢true (ap (λ (l : List ℕ). eqb (length l) 0) (k (λ e. omega arith))))

-- the fields of `RunObeys`: a run of no messages that ends with another state
abbrev pub strayed : Run
strayed = record { turns = []; final = made }

pub starts_alone : (next strayed.turns strayed.final ≡ start → ⊥)
    × TurnsObey 70 strayed.turns [] strayed.final
unfolding fresh_tables fresh_page created after
starts_alone = (λ e. false≢true (ap (λ (s : State). absent (page_at s.tables 5)) e), tt)

-- and one of a wrong turn
abbrev pub misnumbered : Run
misnumbered = record { turns = (wrong_turn turn_in_table).turn ∷ []; final = start }

pub turns_alone : (next misnumbered.turns misnumbered.final ≡ start)
    × (TurnsObey 70 misnumbered.turns ((wrong_turn turn_in_table).reply ∷ []) misnumbered.final → ⊥)
turns_alone = (refl, λ k. false≢true k.0.in_table)

-- on broken tables, with a buffer of no byte
pub runs_at_0 : Demand1 → RunObeys 0 broken (run 0 file₃ broken) (replies 0 (run 0 file₃ broken).turns)
runs_at_0 k = k.runs 0 file₃ broken

-- ---- the tally

-- of a create and of a write that is refused, after seven messages
abbrev pub two : List Turn
two = first ∷ second 10 ∷ []

-- a message that is not counted; a refusal that is not; bytes laid that were not laid
pub messages_alone : let n = tally_of 8 3 5 in
    (TallyObeys two (tally_of 7 2 5) n → ⊥) × (n.refusals ≡ up_to 2 (count is_refused two))
    × (n.laid ≡ up_to 5 (laid_accepted two))
unfolding up_to count
messages_alone = (λ k. omega (arith, k.messages_counted), refl, refl)

pub refusals_alone : let n = tally_of 9 2 5 in
    (TallyObeys two (tally_of 7 2 5) n → ⊥) × (n.messages ≡ up_to 7 (length two))
    × (n.laid ≡ up_to 5 (laid_accepted two))
unfolding up_to count
refusals_alone = (λ k. omega (arith, k.refusals_counted), refl, refl)

pub laid_alone : let n = tally_of 9 3 69 in
    (TallyObeys two (tally_of 7 2 5) n → ⊥) × (n.messages ≡ up_to 7 (length two))
    × (n.refusals ≡ up_to 2 (count is_refused two))
unfolding up_to count
laid_alone = (λ k. omega (arith, k.laid_counted), refl, refl)

-- at the limit of each number, on broken tables, with a buffer of no byte
pub tally_at_limit : Demand1
    → let n = tally_of 4294967295 4294967295 4294967295 in
    TallyObeys (run 0 file₃ broken).turns n (tally (run 0 file₃ broken).turns n)
tally_at_limit k =
    k.tallies 0 file₃ broken (tally_of 4294967295 4294967295 4294967295) (omega arith, omega arith, omega arith)

-- ---- the numbers

-- of all bytes just 0 to 18 and 20 are allowed
pub twenty_allowed : count_below 256 allowed ≡ 20
unfolding count_below
twenty_allowed = refl

pub each_allowed : (all_below 19 allowed ≡ true) × (allowed 19 ≡ false) × (allowed 20 ≡ true)
unfolding all_below
each_allowed = (refl, refl, refl)
