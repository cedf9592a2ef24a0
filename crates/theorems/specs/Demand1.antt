-- Demand 1: any message is answered with 0 or a number of the table; a refused one changes nothing and gets the fixed
-- reply. It is said of what the code gives: of whatever meets the contracts of `answer` and `count`, and of the turns
-- and replies of a run, and its tally.
use Rattle.std.specs.Prelude.{ℕ, ◌+◌, ◌≤◌, ◌<◌, ◌≡◌, Bool, true, not, cond, List, [], ◌∷◌, ◌≢◌, length, ltb, eqb}
use Rattle.tables.specs.declared.Tables.{Tables}
use Rattle.tables.specs.Lists.{count, listed}
use Rattle.tables.specs.Numbers.{accepted, short_buffer, message_numbers, answer_number}
use Rattle.steps.specs.Stores.{over}
use Rattle.steps.specs.Steps.{number_of}
use Rattle.steps.specs.Effects.{State, laid_by}
use Rattle.steps.specs.Promises.{state_of}
use Rattle.messages.specs.declared.Answered.{Answered}
use Rattle.messages.specs.declared.Tally.{Tally}
use Rattle.messages.specs.Promises.{sent_alone, Replied}
use Rattle.messages.specs.Replies.{up_to, counted}
use Rattle.messages.specs.Run.{Turn, answer, Run, run, replies, tally}

-- a number that a message may be answered with
abbrev pub allowed : ℕ → Bool
allowed n = listed n (accepted ∷ message_numbers)

-- "A refusal is 00 04 01 nn 00 00"; 18: "reply buffer below 70 bytes; nothing is written"
abbrev pub refusal_in : ℕ → ℕ → List ℕ
refusal_in room n = cond (ltb room 70) [] (0 ∷ 4 ∷ 1 ∷ n ∷ 0 ∷ 0 ∷ [])

-- ---- one message

-- what a caller lends, and has back: tables and stores, the reply buffer, the tally
pub record Loan : Type 0 where
  pub state : State
  pub out : List ℕ
  pub tally : Tally

-- one message more, and one refusal; laid as before
abbrev pub refused_once : Tally → Tally
refused_once n = record { messages = up_to n.messages 1; refusals = up_to n.refusals 1; laid = n.laid }

-- of a message that was answered with r, between b before it and a after it
pub record Obeys (b : Loan) (r : Answered) (a : Loan) : Type 0 where
  pub in_table : allowed (answer_number r.answer) ≡ true
  -- 18 before all others
  pub short : length b.out < 70 → answer_number r.answer ≡ short_buffer
  -- "Tables and stores remain exactly as they were in every row."
  pub unchanged : answer_number r.answer ≢ accepted → a.state ≡ b.state
  pub none_laid : answer_number r.answer ≢ accepted → r.laid ≡ 0
  pub tallied : answer_number r.answer ≢ accepted → a.tally ≡ refused_once b.tally
  -- "Reply bytes past the reply remain as lent."
  pub fixed : answer_number r.answer ≢ accepted
      → a.out ≡ over (refusal_in (length b.out) (answer_number r.answer)) b.out
  pub len_fixed : answer_number r.answer ≢ accepted
      → r.len ≡ length (refusal_in (length b.out) (answer_number r.answer))

-- A tally's numbers are at most 4294967295. The tally is brought up to date with the number and the bytes laid that
-- were told.
abbrev pub OneMessage : Type 0
OneMessage =
    (t : Tables) (fast slow message out fast' slow' out' : List ℕ) (n n' : Tally) (r : Answered) → n.laid ≤ 4294967295
    → Replied (state_of t fast slow) (answer (length out) (state_of t fast slow) (sent_alone message)) out
    (state_of r.tables fast' slow') out' r
    → n' ≡ counted n (not (eqb (answer_number r.answer) accepted)) r.laid
    → Obeys (record { state = state_of t fast slow; out = out; tally = n }) r
    (record { state = state_of r.tables fast' slow'; out = out'; tally = n' })

-- ---- every turn of a run

-- of a turn t with a reply buffer of `room` bytes, its reply, and the state after it
pub record TurnObeys (room : ℕ) (t : Turn) (reply : List ℕ) (after : State) : Type 0 where
  pub in_table : allowed (number_of t.outcome) ≡ true
  pub short : room < 70 → number_of t.outcome ≡ short_buffer
  pub unchanged : number_of t.outcome ≢ accepted → after ≡ t.found
  pub fixed : number_of t.outcome ≢ accepted → reply ≡ refusal_in room (number_of t.outcome)

-- the state that the next turn finds, or that the run ends with
abbrev pub next : List Turn → State → State
next [] end = end
next (t ∷ ts) end = t.found

-- a reply for each turn
abbrev pub TurnsObey : ℕ → List Turn → List (List ℕ) → State → Type 0
TurnsObey room [] [] end = Unit {0}
TurnsObey room [] (r ∷ rs) end = ⊥
TurnsObey room (t ∷ ts) [] end = ⊥
TurnsObey room (t ∷ ts) (r ∷ rs) end = TurnObeys room t r (next ts end) × TurnsObey room ts rs end

-- of a run w on state s, with a reply buffer of `room` bytes, and its replies rs
pub record RunObeys (room : ℕ) (s : State) (w : Run) (rs : List (List ℕ)) : Type 0 where
  pub starts : next w.turns w.final ≡ s
  pub turns : TurnsObey room w.turns rs w.final

-- ---- the tally of a run

abbrev pub is_refused : Turn → Bool
is_refused t = not (eqb (number_of t.outcome) accepted)

-- the bytes laid by the turns that were not refused
abbrev pub laid_accepted : List Turn → ℕ
laid_accepted [] = 0
laid_accepted (t ∷ ts) = cond (is_refused t) 0 (laid_by t.outcome) + laid_accepted ts

-- Of turns ts, between the tallies n before them and n' after: each is one message more, each refused one is one
-- refusal more and lays nothing; "each number stops at 4294967295".
pub record TallyObeys (ts : List Turn) (n n' : Tally) : Type 0 where
  pub messages_counted : n'.messages ≡ up_to n.messages (length ts)
  pub refusals_counted : n'.refusals ≡ up_to n.refusals (count is_refused ts)
  pub laid_counted : n'.laid ≡ up_to n.laid (laid_accepted ts)

-- no number of a tally is above its limit: one that was lent above it would stay so until a message counts
abbrev pub WithinLimit : Tally → Type 0
WithinLimit n = (n.messages ≤ 4294967295) × (n.refusals ≤ 4294967295) × (n.laid ≤ 4294967295)

-- ---- the demand

pub record Demand1 : Type 0 where
  pub message : OneMessage
  -- of any file, on any tables and stores
  pub runs : (room : ℕ) (file : List ℕ) (s : State) → RunObeys room s (run room file s)
      (replies room (run room file s).turns)
  pub tallies : (room : ℕ) (file : List ℕ) (s : State) (n : Tally) → WithinLimit n
      → TallyObeys (run room file s).turns n (tally (run room file s).turns n)
