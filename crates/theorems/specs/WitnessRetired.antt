-- Request [5]: for each field of `KeepsRetired` a wrong run that this field rules out and no other does; for each part
-- of what an accepted retire leaves a wrong one that `retire_alone` rules out; the least that `runs` and `retire_alone`
-- ask for; of `one_of_three` its border and why it asks for sound tables. Computed.
use Rattle.std.specs.Prelude.{ℕ, ◌+◌, ◌≡◌, refl, Bool, true, false, ◌||◌, List, [], ◌∷◌, get_or, set, eqb}
use Rattle.std.proofs.Common.{sym, ap, true≢false, arith}
use Rattle.std.proofs.lemmas.Bool.{false≢true}
use Rattle.std.proofs.Math.Bool.{or-false}
use Rattle.tables.specs.declared.Tables.{Tables}
use Rattle.tables.specs.Lists.{all, count, all_below, count_below}
use Rattle.tables.specs.Model.{fresh_page, fresh_tables, retired_at}
use Rattle.tables.specs.Rules.{uses, holders, free, standing_rule, absent_rule, page_rule, none_shared, sizes_rule, pages_rule, is_held, sound}
use Rattle.tables.specs.Search.{in_copies, in_pages}
use Rattle.tables.specs.Register.{register_rule, vacated, occupied}
use Rattle.tables.specs.Changes.{created, with_copies, new_copy, change_to, with_retired, after}
use Rattle.steps.specs.declared.Kind.TheVariants.{Retire}
use Rattle.steps.specs.declared.Call.{Call}
use Rattle.steps.specs.Kinds.{names, code, argument, call_of}
use Rattle.steps.specs.Stores.{part}
use Rattle.steps.specs.Steps.{refuse, accept}
use Rattle.steps.specs.Effects.{bit, State, Result, step}
use Rattle.messages.specs.Messages.{parse}
use Rattle.messages.specs.Run.{whole, Turn, Run, run}
use Rattle.theorems.specs.Retired.{three_numbers, ever_retired, NeverAgain, only_retired, KeepsRetired, RetiredFrames}
use Rattle.theorems.specs.Witness3.{But, file₃, fast_bytes, slow_bytes, broken}

-- the fields of `KeepsRetired`
pub data Part : Type 0 where
  add_up : Part
  retired_exactly : Part
  never_again : Part

abbrev pub place : Part → ℕ
place add_up = 0
place retired_exactly = 1
place never_again = 2

module _ (s : State) (r : Run) where
  abbrev pub Says : Part → Type 0
  Says add_up = sound s.tables ≡ true → three_numbers r.final.tables ≡ s.tables.shared.p + s.tables.shared.s
  Says retired_exactly = (f : ℕ) → retired_at r.final.tables f
      ≡ (retired_at s.tables f || ever_retired r.turns f)
  Says never_again = sound s.tables ≡ true → (f : ℕ) → NeverAgain f r.turns r.final

  -- they are what `KeepsRetired` says
  pub part_of : KeepsRetired s r → (i : Part) → Says i
  part_of k add_up = k.add_up
  part_of k retired_exactly = k.retired_exactly
  part_of k never_again = k.never_again

  pub of_parts : ((i : Part) → Says i) → KeepsRetired s r
  of_parts k = record { add_up = k add_up; retired_exactly = k retired_exactly; never_again = k never_again }

pub each : (X : Part → Type 0) → X add_up → X retired_exactly → X never_again → (i : Part) → X i
each X a b c add_up = a
each X a b c retired_exactly = b
each X a b c never_again = c

-- P = S = 1, no page, and frame 1, the last one, retired
abbrev pub worn : ℕ → Tables
worn slow = with_retired (fresh_tables 1 slow) 1

abbrev pub start_worn : State
start_worn = record { tables = worn 1; fast = fast_bytes; slow = slow_bytes }

abbrev pub leaving : List Turn → Tables → List ℕ → Run
leaving ts t slow = record { turns = ts; final = record { tables = t; fast = fast_bytes; slow = slow } }

-- a message of no byte after its length
abbrev pub turned_back : Turn
turned_back = record { found = start_worn; sent = whole []; outcome = refuse 2 }

abbrev pub wrong : Part → Run
-- a frame more than there were
wrong add_up = leaving [] (worn 2) slow_bytes
-- the frame taken back
wrong retired_exactly = leaving [] (fresh_tables 1 1) slow_bytes
-- another byte in the retired frame
wrong never_again = leaving (turned_back ∷ []) (worn 1) (set slow_bytes 0 0)

abbrev pub Row : Part → Part → Type 0
Row i j = But (eqb (place i) (place j)) (Says start_worn (wrong i) j)

pub worn_sound : sound (worn 1) ≡ true
unfolding sound sizes_rule pages_rule none_shared all_below all count holders uses page_rule standing_rule absent_rule
    register_rule
    in_pages in_copies fresh_tables fresh_page
worn_sound = refl

pub alone_ruled : (i j : Part) → Row i j
unfolding fresh_tables fresh_page free holders uses count count_below part parse
alone_ruled add_up =
    each (Row add_up) (λ k. omega (arith, k worn_sound)) (λ f. sym (or-false (retired_at (worn 1) f))) (λ _ f _. refl)
alone_ruled retired_exactly = each (Row retired_exactly) (λ _. refl) (λ k. false≢true (k 1)) (λ _ f _. refl)
alone_ruled never_again =
    each (Row never_again) (λ _. refl) (λ f. sym (or-false (retired_at (worn 1) f)))
    (λ k. true≢false (ap (λ (l : List ℕ). eqb (get_or l 0 1) 0) ((k worn_sound 1).0 refl).2))

-- `runs` on broken tables, with a buffer of no byte
pub retired_at_0 : RetiredFrames → KeepsRetired broken (run 0 file₃ broken)
retired_at_0 k = k.runs 0 file₃ broken

-- ---- `retire_alone`: what an accepted retire of frame 0 leaves, with one part wrong

abbrev pub only_first : Result
only_first = only_retired start_worn 0

abbrev pub left_with : List ℕ → Bool → ℕ → List ℕ → Result
left_with fast moved laid told =
    record {
      state = record { tables = with_retired (worn 1) 0; fast = fast; slow = slow_bytes };
      moved = moved;
      laid = laid;
      data_out = told;
    }

pub not_store : left_with (set fast_bytes 0 0) true 0 [] ≡ only_first → ⊥
not_store e = true≢false (ap (λ (r : Result). eqb (get_or r.state.fast 0 1) 0) e)

pub not_mark : record { state = start_worn; moved = true; laid = 0; data_out = [] } ≡ only_first → ⊥
unfolding fresh_tables
not_mark e = false≢true (ap (λ (r : Result). retired_at r.state.tables 0) e)

pub not_moved : left_with fast_bytes false 0 [] ≡ only_first → ⊥
unfolding fresh_tables
not_moved e = false≢true (ap (λ (r : Result). r.moved) e)

pub not_laid : left_with fast_bytes true 64 [] ≡ only_first → ⊥
not_laid e = omega (arith, ap (λ (r : Result). r.laid) e)

pub not_told : left_with fast_bytes true 0 (7 ∷ []) ≡ only_first → ⊥
not_told e = omega (arith, ap (λ (r : Result). get_or r.data_out 0 0) e)

-- a retire on any tables, and of a frame that is retired already
abbrev pub retire : ℕ → Call
retire f = call_of Retire (f ∷ [])

pub retire_on_broken : RetiredFrames → (r : Result) → step broken (retire 0) [] ≡ accept r → r ≡ only_retired broken 0
unfolding names code argument call_of
retire_on_broken k r = k.retire_alone broken (retire 0) [] r refl

pub retire_again : RetiredFrames → (r : Result) → step start_worn (retire 1) [] ≡ accept r
    → r ≡ only_retired start_worn 1
unfolding names code argument call_of
retire_again k r = k.retire_alone start_worn (retire 1) [] r refl

-- ---- `one_of_three`

-- at its border: the last frame
pub last_frame : RetiredFrames → bit (free (worn 1) 1) + bit (is_held (worn 1) 1) + bit (retired_at (worn 1) 1) ≡ 1
unfolding fresh_tables
last_frame k = k.one_of_three (worn 1) worn_sound 1 (omega arith)

-- page 5 with its copy on frame 0, which is retired: two of the three, so the tables are not sound
abbrev pub held_and_retired : Tables
held_and_retired =
    let g = with_copies (created 3) 1 (set (created 3).copies 0 (new_copy 0 true)) in
    with_retired (after (fresh_tables 1 1) (change_to 5 g 255)) 0

pub two_of_three : bit (free held_and_retired 0) + bit (is_held held_and_retired 0)
    + bit (retired_at held_and_retired 0) ≡ 2
unfolding fresh_tables fresh_page created after free holders uses count vacated occupied
two_of_three = refl
