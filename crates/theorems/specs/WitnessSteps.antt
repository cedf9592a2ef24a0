-- Borders of the statements about steps and their states: `StaysSound`, `AsSearched`, `Together`, `Unmoved` and
-- `BytesCounted`, each on tables, stores and buffers at the border of what it is said of, and a computed case or two.
use Rattle.std.specs.Prelude.{ℕ, ◌≡◌, refl, true, false, List, [], ◌∷◌, Ok, length, get_or, replicate, set, eqb}
use Rattle.std.proofs.Common.{ap, arith}
use Rattle.std.proofs.lemmas.Bool.{false≢true}
use Rattle.tables.specs.declared.Copy.{Copy}
use Rattle.tables.specs.declared.Page.{Page}
use Rattle.tables.specs.declared.Tables.{Tables}
use Rattle.tables.specs.declared.Holder.TheVariants.{Free}
use Rattle.tables.specs.declared.Edit.TheVariants.{Kept}
use Rattle.tables.specs.Numbers.{accepted, broken_tables}
use Rattle.tables.specs.Model.{fresh_tables, page_at}
use Rattle.tables.specs.Rules.{sound}
use Rattle.tables.specs.Search.{holder_of}
use Rattle.tables.specs.Register.{registered}
use Rattle.tables.specs.Changes.{created, with_copies}
use Rattle.steps.specs.declared.Kind.TheVariants.{Create, LookFrame}
use Rattle.steps.specs.declared.Call.{Call}
use Rattle.steps.specs.declared.Lay.TheVariants.{Nothing, ZerosEach, Spread}
use Rattle.steps.specs.declared.Show.{Show}
use Rattle.steps.specs.declared.Work.TheVariants.{Shows, Lays}
use Rattle.steps.specs.Kinds.{call_of}
use Rattle.steps.specs.Steps.{outcome_of, plan_of, page_for, decide, decide_any}
use Rattle.steps.specs.Effects.{bytes_laid, State, joined, step, left, moved_by, laid_by}
use Rattle.steps.specs.Promises.{decision_on, decision_of, carried}
use Rattle.messages.specs.declared.Tally.{Tally}
use Rattle.messages.specs.declared.Answered.{Answered}
use Rattle.messages.specs.declared.Ran.{Ran}
use Rattle.messages.specs.declared.Filled.{Filled}
use Rattle.messages.specs.Run.{Sent, answer, run, part_from}
use Rattle.messages.specs.Promises.{Replied, RunEnded, PartEnded}
use Rattle.theorems.specs.Sound.{EveryState, rules_on, StaysSound}
use Rattle.theorems.specs.Searched.{step_searched, AsSearched}
use Rattle.theorems.specs.Together.{Decided, Carried, IsStep, Together}
use Rattle.theorems.specs.Unmoved.{Unmoved}
use Rattle.theorems.specs.Laid.{work_for, BytesCounted}
use Rattle.theorems.specs.Witness3.{file₃, start, broken, made}
use Rattle.theorems.specs.WitnessRetired.{worn, worn_sound}
use Rattle.theorems.specs.Cases.{run_on}

-- `broken` breaks a rule, and `start` none
pub is_broken : rules_on broken ≡ broken_tables
unfolding run_on
is_broken = refl

pub start_ruled : rules_on start ≡ accepted
unfolding run_on
start_ruled = refl

-- ---- `StaysSound`, with a buffer of no byte

-- sound tables, and no store
abbrev pub storeless : State
storeless = record { tables = worn 1; fast = []; slow = [] }

pub sound_at_0 : StaysSound
    → EveryState (λ s. sound s.tables ≡ true) (run 0 file₃ storeless).turns (run 0 file₃ storeless).final
sound_at_0 k = k.every_sound 0 file₃ storeless worn_sound

pub ruled_at_0 : StaysSound
    → EveryState (λ s. rules_on s ≡ rules_on broken) (run 0 file₃ broken).turns (run 0 file₃ broken).final
ruled_at_0 k = k.every_ruled 0 file₃ broken

-- ---- `AsSearched`

-- the last frame of a unit, which is slow and retired
pub searched_at_last : AsSearched → registered (worn 1) 1 ≡ holder_of (worn 1) 1
unfolding fresh_tables
searched_at_last k = k.every_frame (worn 1) worn_sound 1 (omega arith)

pub searched_on_broken : AsSearched → (c : Call) (bs : List ℕ) → step broken c bs ≡ step_searched broken c bs
searched_on_broken k = k.every_step broken

-- ---- `Together`, with a buffer of 64 bytes, and why it asks for so many

abbrev pub out₆₄ : List ℕ
out₆₄ = replicate 64 0xAA

module _ (c : Call) (bs : List ℕ) (r : Decided) (t' : Tables) (fast' slow' out' : List ℕ) where
  pub together_at_64 : Together → outcome_of r ≡ decision_of start.tables c (decide start.tables c (length bs))
      → Carried start bs out₆₄ r t' fast' slow' out' → IsStep start c bs out₆₄ r t' fast' slow' out'
  together_at_64 k e h = k.decided start c bs out₆₄ r t' fast' slow' out' start_ruled (omega arith) e h

  pub any_at_64 : Together → outcome_of r ≡ decision_of broken.tables c (decide_any broken.tables 64 64 c (length bs))
      → Carried broken bs out₆₄ r t' fast' slow' out' → IsStep broken c bs out₆₄ r t' fast' slow' out'
  any_at_64 k e h = k.decided_any broken c bs out₆₄ r t' fast' slow' out' (omega arith) e h

-- with a byte less nothing is shown, and that is no step: a look at frame 0, which is free
abbrev pub out₆₃ : List ℕ
out₆₃ = replicate 63 0xAA

abbrev pub looked : Decided
looked = Ok (decision_on 0 (page_at start.tables 0) (plan_of Kept 255 0 3 (Shows (Show.Holder Free))))

pub not_at_63 : let c = call_of LookFrame (0 ∷ []) in
    (outcome_of looked ≡ decision_of start.tables c (decide start.tables c 0))
    × Carried start [] out₆₃ looked start.tables start.fast start.slow out₆₃
    × (IsStep start c [] out₆₃ looked start.tables start.fast start.slow out₆₃ → ⊥)
unfolding run_on carried
not_at_63 = (
  refl,
  record { carry_left = refl; settle_gave = refl },
  λ h. false≢true (ap (λ (l : List ℕ). eqb (get_or l 0 0) 0) h.stepped.data_out),
)

pub ruled_after : Together → (c : Call) (bs : List ℕ) → rules_on (left start (step start c bs)) ≡ accepted
ruled_after k c bs = k.rules_stay start c bs start_ruled

-- ---- `Unmoved`, on broken tables, and with a buffer of no byte

pub step_at_broken : Unmoved → (c : Call) (bs : List ℕ) → moved_by (step broken c bs) ≡ false
    → (left broken (step broken c bs)).tables ≡ broken.tables
step_at_broken k = k.by_step broken

pub message_at_0 : Unmoved → (x : Sent) (s : State) (r : Answered) → Replied broken (answer 0 broken x) [] s [] r
    → r.moved ≡ false → s.tables ≡ broken.tables
message_at_0 k x s = k.by_message x broken s [] []

pub run_at_0 : Unmoved → (s : State) (n : Tally) (r : Ran) → RunEnded broken (run 0 file₃ broken) n [] s [] r
    → r.moved ≡ false → s.tables ≡ broken.tables
run_at_0 k s n = k.by_run file₃ broken s n [] []

-- from a place past the file's end
pub part_at_0 : Unmoved → (s : State) (n : Tally) (r : Filled)
    → PartEnded broken (part_from 0 file₃ 99 broken) n [] s [] r → r.moved ≡ false → s.tables ≡ broken.tables
part_at_0 k s n = k.by_part file₃ 99 broken s n [] []

-- a create moves them, and leaves those of `made`
pub create_moves : let o = step start (call_of Create (3 ∷ 5 ∷ [])) [] in
    (moved_by o ≡ true) × ((left start o).tables ≡ made.tables)
unfolding run_on
create_moves = (refl, refl)

-- ---- `BytesCounted`

pub laid_on_broken : BytesCounted → (c : Call) (bs : List ℕ)
    → laid_by (step broken c bs)
    ≡ bytes_laid (page_at broken.tables (page_for c)) (work_for broken c bs) bs (joined broken)
laid_on_broken k = k broken

-- a page with two CURRENT copies: two bytes written to each; zeros in each; zeros in a frame besides
abbrev pub twice : Page
twice =
    let c : Copy = record { frame = 0; current = true; recent = true } in
    with_copies (created 3) 2 (set (set (created 3).copies 0 c) 1 c)

pub laid_each : (bytes_laid twice (Lays (Spread 9) 255) (7 ∷ 7 ∷ []) [] ≡ 4)
    × (bytes_laid twice (Lays ZerosEach 255) [] [] ≡ 128) × (bytes_laid twice (Lays Nothing 3) [] [] ≡ 64)
unfolding run_on
laid_each = (refl, refl, refl)
