-- For each field of `Upheld` a wrong run that this field rules out and no other does, as in specs/Witness.antt. It
-- stands among the proofs since demand 3 of a right run says what every page of a wrong one is like.
use Prim.Native.Nat.{ℕ, zero, suc, ◌<◌}
use mathlib.Core.Path.{◌≡◌, refl, sym, ap, ◌∙◌}
use mathlib.Core.Bool.{true, false, cond, false≢true, true≢false}
use mathlib.Core.List.{List, [], ◌∷◌}
use native.Mathlib.Omega.{arith}
use lib.ListN.{length, get_or, set, replicate}
use lib.Dec.{eqb}
use Rattle.tables.specs.Numbers.{accepted}
use Rattle.tables.specs.Model.{free_entry, retired_entry, fresh_page, fresh_tables, retired_at}
use Rattle.tables.specs.Changes.{created, with_retired}
use Rattle.tables.specs.Rules.{is_held}
use Rattle.steps.specs.Steps.{number_of}
use Rattle.steps.specs.Stores.{block, zeros}
use Rattle.steps.specs.Effects.{State, joined}
use Rattle.steps.specs.Promises.{state_of}
use Rattle.messages.specs.Run.{Sent, whole, answer, Turn, turns_of, end_of, Run, replies}
use Rattle.theorems.specs.Flat.{react_as, react_to}
use Rattle.theorems.specs.Demand1.{TurnObeys, RunObeys}
use Rattle.theorems.specs.Demand3.{flat_after, flat_end, flat_answers, run_answers, dues, AgreesOn}
use Rattle.theorems.specs.Clean.{ever_held, Cleared}
use Rattle.theorems.specs.Retired.{ever_retired, NeverAgain}
use Rattle.theorems.specs.Cases.{run_on}
use Rattle.theorems.specs.Witness3.{But, fast_bytes, slow_bytes, start, with56, made, first, second, foreign, uncleared}
use Rattle.theorems.proofs.Whole.{demand3_on}
use Rattle.callers.specs.Lent.{Upheld}
use Rattle.callers.proofs.Lent.{same_at, none_retired}

-- the fields of `Upheld`
pub data Demand : Type 0 where
  obeys : Demand
  agrees : Demand
  cleared : Demand
  retired_exactly : Demand
  never_again : Demand

abbrev pub place : Demand → ℕ
place obeys = 0
place agrees = 1
place cleared = 2
place retired_exactly = 3
place never_again = 4

module _ (xs : List Sent) (r : Run) where
  abbrev pub Demands : Demand → Type 0
  Demands obeys = RunObeys 70 start r (replies 70 r.turns)
  Demands agrees = AgreesOn 1 1 70 xs r
  Demands cleared = Cleared start r
  Demands retired_exactly = (f : ℕ) → retired_at r.final.tables f ≡ ever_retired r.turns f
  Demands never_again = (f : ℕ) → NeverAgain f r.turns r.final

  -- they are what `Upheld` says
  pub demand_of : Upheld 1 1 fast_bytes slow_bytes xs r → (i : Demand) → Demands i
  demand_of u obeys = u.obeys
  demand_of u agrees = u.agrees
  demand_of u cleared = u.cleared
  demand_of u retired_exactly = u.retired_exactly
  demand_of u never_again = u.never_again

  pub of_demands : ((i : Demand) → Demands i) → Upheld 1 1 fast_bytes slow_bytes xs r
  of_demands k =
      record {
        obeys = k obeys;
        agrees = k agrees;
        cleared = k cleared;
        retired_exactly = k retired_exactly;
        never_again = k never_again;
      }

pub each : (X : Demand → Type 0) → X obeys → X agrees → X cleared → X retired_exactly → X never_again → (i : Demand) → X i
each X a b c d e obeys = a
each X a b c d e agrees = b
each X a b c d e cleared = c
each X a b c d e retired_exactly = d
each X a b c d e never_again = e

-- the create; the write that is refused; a look at page 5; a copy of page 5 made on frame 0
abbrev pub create : Sent
create = whole (1 ∷ 1 ∷ 3 ∷ 5 ∷ [])

abbrev pub write : Sent
write = whole (1 ∷ 5 ∷ 4 ∷ 5 ∷ 0 ∷ 1 ∷ [])

abbrev pub look : Sent
look = whole (1 ∷ 10 ∷ 5 ∷ [])

abbrev pub move : Sent
move = whole (1 ∷ 6 ∷ 5 ∷ 0 ∷ 0 ∷ [])

abbrev pub sent : Demand → List Sent
sent obeys = create ∷ write ∷ []
sent agrees = create ∷ []
sent cleared = create ∷ []
sent retired_exactly = create ∷ []
sent never_again = create ∷ look ∷ []

-- a state with frame 1 retired, which holds zeros
abbrev pub retired₁ : State
retired₁ = record { tables = with_retired made.tables 1; fast = fast_bytes; slow = replicate 64 0 }

abbrev pub looked : Turn
looked = record { found = retired₁; sent = look; outcome = answer 70 made look }

abbrev pub ending : List Turn → State → Run
ending ts s = record { turns = ts; final = s }

abbrev pub wrong : Demand → Run
-- the refused write moves page 5 to frame 0, which holds the same zeros
wrong obeys = ending (first ∷ second 10 ∷ []) (with56 1 1 uncleared fresh_page (replicate 64 0) slow_bytes)
-- page 5 has another owner
wrong agrees = ending (first ∷ []) (with56 1 1 foreign fresh_page fast_bytes slow_bytes)
-- a byte changes on a free frame
wrong cleared = ending (first ∷ []) (with56 1 1 (created 3) fresh_page (set fast_bytes 0 0) slow_bytes)
-- frame 0 is retired, and no message retired it
wrong retired_exactly =
    ending (first ∷ []) (record { tables = with_retired made.tables 0; fast = fast_bytes; slow = slow_bytes })
-- frame 1 was retired, and has other bytes at the end
wrong never_again = ending (first ∷ looked ∷ []) made

abbrev pub Row : Demand → Demand → Type 0
Row i j = But (eqb (place i) (place j)) (Demands (sent i) (wrong i) j)

-- no frame is retired in tables whose register is free, or has a copy on frame 0
free_marks : (f : ℕ) → eqb (get_or (replicate 254 free_entry) f free_entry) retired_entry ≡ false
free_marks f = ap (λ (e : ℕ). eqb e retired_entry) (same_at 254 f free_entry)

held_marks : (f : ℕ) → eqb (get_or (40 ∷ replicate 253 free_entry) f free_entry) retired_entry ≡ false
held_marks zero = refl
held_marks (suc f) = ap (λ (e : ℕ). eqb e retired_entry) (same_at 253 f free_entry)

-- what holds of frames 0 and 1 holds of all
two_frames : (X : ℕ → Type 0) → X 0 → X 1 → (f : ℕ) → f < 2 → X f
two_frames X a b zero low = a
two_frames X a b (suc zero) low = b
two_frames X a b (suc (suc f)) low = absurd (omega arith)

-- of a run r, at frame f
abbrev ClearedAt : Run → ℕ → Type 0
ClearedAt r f =
    is_held r.final.tables f ≡ false
    → block (joined r.final) f ≡ cond (ever_held r.turns f) zeros (block (joined start) f)

-- the turn of an accepted message obeys, whatever it leaves
took : (t : Turn) (bytes : List ℕ) (s : State) → number_of t.outcome ≡ accepted → TurnObeys 70 t bytes s
took t bytes s e =
    record {
      in_table = rw e refl;
      short = λ h. absurd (omega arith);
      unchanged = λ h. absurd (h e);
      fixed = λ h. absurd (h e);
    }

obeys₁ : (s : State) → RunObeys 70 start (ending (first ∷ []) s) (replies 70 (first ∷ []))
obeys₁ s = record { starts = refl; turns = (took first _ s refl, tt) }

-- the pages after messages xs, with fast bytes as given
pages_of : (fast : List ℕ) (xs : List Sent) → length fast ≡ 64
    → let s₀ = state_of (fresh_tables 1 1) fast slow_bytes in
    AgreesOn 1 1 70 xs (record { turns = turns_of 70 s₀ xs; final = end_of 70 s₀ xs })
pages_of fast xs long = demand3_on 70 1 1 fast slow_bytes xs (omega arith) (omega arith) long refl (omega arith)

-- no frame was retired, and none is
never₁ : (s : State) → ((f : ℕ) → retired_at s.tables f ≡ false) → (f : ℕ) → NeverAgain f (first ∷ []) s
never₁ s h f = (λ e. absurd (false≢true (sym (none_retired 1 1 f) ∙ e)), λ e. absurd (false≢true (sym (h f) ∙ e)))

-- of frame 0 retired, which no copy has
lone : (f : ℕ) → NeverAgain f (first ∷ []) (wrong retired_exactly).final
unfolding run_on
lone f = (λ e. absurd (false≢true (sym (none_retired 1 1 f) ∙ e)), at f)
  where
    at : (g : ℕ) → eqb (get_or (retired_entry ∷ replicate 253 free_entry) g free_entry) retired_entry ≡ true
        → is_held (wrong retired_exactly).final.tables g ≡ false
    at zero e = refl
    at (suc g) e = absurd (false≢true (sym (ap (λ (x : ℕ). eqb x retired_entry) (same_at 253 g free_entry)) ∙ e))

pub alone : (i j : Demand) → Row i j
unfolding run_on flat_answers flat_after flat_end run_answers dues react_as react_to
alone obeys =
    each (Row obeys)
    (λ o. true≢false (ap (λ (s : State). eqb (get_or s.fast 0 1) 0) (o.turns.1.0.unchanged (λ e. omega arith))))
    (record {
      messages = refl;
      answers = refl;
      elevens_due = refl;
      fast_kept = refl;
      slow_kept = refl;
      fast_long = refl;
      slow_long = refl;
      pages = (pages_of fast_bytes (create ∷ move ∷ []) refl).pages;
    })
    (two_frames (ClearedAt (wrong obeys)) (λ none. absurd (true≢false none)) (λ _. refl))
    held_marks
    (λ f. (
      λ e. absurd (false≢true (sym (none_retired 1 1 f) ∙ e)),
      (λ e. absurd (false≢true (sym (free_marks f) ∙ e)), λ e. absurd (false≢true (sym (held_marks f) ∙ e))),
    ))
alone agrees =
    each (Row agrees) (obeys₁ _) (λ a. false≢true (ap (λ (n : ℕ). eqb n 3) (a.pages 5 (omega arith)).1.owners))
    (two_frames (ClearedAt (wrong agrees)) (λ _. refl) (λ _. refl)) free_marks (never₁ (wrong agrees).final free_marks)
alone cleared =
    each (Row cleared) (obeys₁ _)
    (record {
      messages = refl;
      answers = refl;
      elevens_due = refl;
      fast_kept = refl;
      slow_kept = refl;
      fast_long = refl;
      slow_long = refl;
      pages = (pages_of (set fast_bytes 0 0) (create ∷ []) refl).pages;
    })
    (λ c. true≢false (ap (λ (l : List ℕ). eqb (get_or l 0 1) 0) (c 0 (omega arith) refl))) free_marks
    (never₁ (wrong cleared).final free_marks)
alone retired_exactly =
    each (Row retired_exactly) (obeys₁ _)
    (record {
      messages = refl;
      answers = refl;
      elevens_due = refl;
      fast_kept = refl;
      slow_kept = refl;
      fast_long = refl;
      slow_long = refl;
      pages = (pages_of fast_bytes (create ∷ []) refl).pages;
    })
    (two_frames (ClearedAt (wrong retired_exactly)) (λ _. refl) (λ _. refl)) (λ m. true≢false (m 0)) lone
alone never_again =
    each (Row never_again)
    (record { starts = refl; turns = (took first _ retired₁ refl, (took looked _ made refl, tt)) })
    (record {
      messages = refl;
      answers = refl;
      elevens_due = refl;
      fast_kept = refl;
      slow_kept = refl;
      fast_long = refl;
      slow_long = refl;
      pages = (pages_of fast_bytes (create ∷ []) refl).pages;
    })
    (two_frames (ClearedAt (wrong never_again)) (λ _. refl) (λ _. refl)) free_marks
    (λ n. false≢true (ap (λ (l : List ℕ). eqb (get_or l 0 1) 0) ((n 1).1.0 refl).2))
