-- Request [2]: for each field of `LeftClean` a wrong run that this field rules out and no other does, of `runs` the
-- least that it asks for, and of `fresh_blank` its border. Computed.
use Rattle.std.specs.Prelude.{ℕ, zero, suc, ◌*◌, ◌≤◌, ◌<◌, ◌≡◌, refl, List, [], ◌∷◌, ◌++◌, length, get_or, set, replicate, eqb}
use Rattle.std.proofs.Common.{ap, arith}
use Rattle.std.proofs.lemmas.Bool.{false≢true}
use Rattle.std.proofs.lemmas.List.{length-replicate}
use Rattle.tables.specs.Lists.{count}
use Rattle.tables.specs.Model.{fresh_page, fresh_tables}
use Rattle.tables.specs.Rules.{uses, holders}
use Rattle.steps.specs.Stores.{part, zeros}
use Rattle.steps.specs.Effects.{State}
use Rattle.messages.specs.Run.{Run, run}
use Rattle.theorems.specs.Clean.{Cleared, Blank, NoneHeld, LeftClean, Clean}
use Rattle.theorems.specs.Witness3.{But, file₃, fast_bytes, broken}

-- the fields of `LeftClean`
pub data Part : Type 0 where
  frames_cleared : Part
  stays_blank : Part
  card_cleared : Part

abbrev pub place : Part → ℕ
place frames_cleared = 0
place stays_blank = 1
place card_cleared = 2

module _ (s : State) (r : Run) where
  abbrev pub Says : Part → Type 0
  Says frames_cleared = Cleared s r
  Says stays_blank = Blank s → Blank r.final
  Says card_cleared =
      length s.fast ≡ 64 * s.tables.shared.p → length s.slow ≡ 64 * s.tables.shared.s → Blank s
      → NoneHeld r.final.tables → r.final.slow ≡ replicate (64 * s.tables.shared.s) 0

  -- they are what `LeftClean` says
  pub part_of : LeftClean s r → (i : Part) → Says i
  part_of k frames_cleared = k.frames_cleared
  part_of k stays_blank = k.stays_blank
  part_of k card_cleared = k.card_cleared

  pub of_parts : ((i : Part) → Says i) → LeftClean s r
  of_parts k = record { frames_cleared = k frames_cleared; stays_blank = k stays_blank; card_cleared = k card_cleared }

pub each : (X : Part → Type 0) → X frames_cleared → X stays_blank → X card_cleared → (i : Part) → X i
each X a b c frames_cleared = a
each X a b c stays_blank = b
each X a b c card_cleared = c

-- P = S = 1 and a card of zeros; a run of no message that leaves something else
abbrev pub start_blank : State
start_blank = record { tables = fresh_tables 1 1; fast = fast_bytes; slow = zeros }

abbrev pub leaving : ℕ → ℕ → List ℕ → List ℕ → Run
leaving p s fast slow = record { turns = []; final = record { tables = fresh_tables p s; fast = fast; slow = slow } }

abbrev pub wrong : Part → Run
-- another byte in a fast frame that no copy ever had
wrong frames_cleared = leaving 1 1 (set fast_bytes 0 0) zeros
-- the fast frame counted among those of the card
wrong stays_blank = leaving 0 2 fast_bytes zeros
-- a byte more behind the card
wrong card_cleared = leaving 1 1 fast_bytes (zeros ++ (7 ∷ []))

abbrev pub Row : Part → Part → Type 0
Row i j = But (eqb (place i) (place j)) (Says start_blank (wrong i) j)

-- the frames of such tables, and the slow one
both : (X : ℕ → Type 0) → X 0 → X 1 → (f : ℕ) → f < 2 → X f
both X a b zero low = a
both X a b (suc zero) low = b
both X a b (suc (suc f)) low = absurd (omega arith)

slow_one : (X : ℕ → Type 0) → X 1 → (f : ℕ) → 1 ≤ f → f < 2 → X f
slow_one X a zero high low = absurd (omega arith)
slow_one X a (suc zero) high low = a
slow_one X a (suc (suc f)) high low = absurd (omega arith)

start_blank_lem : Blank start_blank
unfolding fresh_tables part
start_blank_lem = slow_one _ (λ _. refl)

none_held : NoneHeld (fresh_tables 1 1)
unfolding fresh_tables fresh_page holders uses count
none_held = slow_one _ refl

pub alone : (i j : Part) → Row i j
unfolding fresh_tables fresh_page holders uses count part
alone frames_cleared =
    each (Row frames_cleared) (λ k. false≢true (ap (λ (l : List ℕ). eqb (get_or l 0 0) 0xEE) (k 0 (omega arith) refl)))
    (λ _. slow_one _ (λ _. refl)) (λ _ _ _ _. refl)
alone stays_blank =
    each (Row stays_blank) (λ f low none. refl)
    (λ k. false≢true (ap (λ (l : List ℕ). eqb (get_or l 0 0) 0) (k start_blank_lem 0 (omega arith) (omega arith) refl)))
    (λ _ _ _ _. refl)
alone card_cleared =
    each (Row card_cleared) (both _ (λ _. refl) (λ _. refl)) (λ _. slow_one _ (λ _. refl))
    (λ k.
    let e : ◌≡◌ {A = ℕ} 65 64 = ap (λ (l : List ℕ). length l) (k refl refl start_blank_lem none_held) in
    omega arith)

-- ---- `runs`

-- on broken tables, with a buffer of no byte
pub clean_at_0 : Clean → LeftClean broken (run 0 file₃ broken)
clean_at_0 k = k.runs 0 file₃ broken

-- ---- `fresh_blank`

-- at its borders: no frame, and as many as there may be
pub blank_at_0 : Clean → Blank (record { tables = fresh_tables 0 0; fast = []; slow = replicate (64 * 0) 0 })
blank_at_0 k = k.fresh_blank 0 0 [] refl

pub blank_at_127 : Clean
    → Blank (record { tables = fresh_tables 127 127; fast = replicate 8128 7; slow = replicate (64 * 127) 0 })
blank_at_127 k = k.fresh_blank 127 127 (replicate 8128 7) (length-replicate {A = ℕ} 8128 7)

-- a fast store of a byte too few: the slow frame begins where it should not
pub blank_of_63 : Blank (record { tables = fresh_tables 1 1; fast = replicate 63 7; slow = replicate 64 0 }) → ⊥
unfolding fresh_tables fresh_page holders uses count part
blank_of_63 k =
    let e : ◌≡◌ {A = ℕ} 63 64 = ap (λ (l : List ℕ). length l) (k 1 (omega arith) (omega arith) refl) in
    omega arith
