-- Request [6]: for each field of `Closed` a wrong run that this field rules out and the other does not; for parts of
-- what the closing file leaves a wrong one each; the least that `closes` asks for; what the file comes to on a page
-- that stands. Computed.
use Rattle.std.specs.Prelude.{ℕ, ◌≡◌, refl, true, get_or, set, replicate, eqb}
use Rattle.std.proofs.Common.{ap, true≢false, arith}
use Rattle.std.proofs.lemmas.Bool.{false≢true}
use mathlib.Core.List.{List, [], ◌∷◌, ◌++◌, flatten}
use Rattle.tables.specs.declared.Page.{Page}
use Rattle.tables.specs.declared.Tables.{Tables}
use Rattle.tables.specs.Lists.{all, count, all_below}
use Rattle.tables.specs.Model.{retired_at, fresh_copy, fresh_page, fresh_tables, with_pages, page_at}
use Rattle.tables.specs.Rules.{uses, holders, standing_rule, absent_rule, page_rule, none_shared, sizes_rule, pages_rule, sound}
use Rattle.tables.specs.Search.{in_copies, in_pages}
use Rattle.tables.specs.Register.{register_rule}
use Rattle.tables.specs.Changes.{with_copies, with_retired}
use Rattle.steps.specs.Kinds.{names, code, among, argument, call_of, value, values}
use Rattle.steps.specs.Stores.{fits}
use Rattle.steps.specs.Steps.{right_of, refuse, accept}
use Rattle.steps.specs.Effects.{State}
use Rattle.steps.specs.Promises.{state_of}
use Rattle.messages.specs.Replies.{reply}
use Rattle.messages.specs.Run.{whole, Turn, Run, run, replies}
use Rattle.stations.specs.Writer.{written}
use Rattle.theorems.specs.Cases.{run_on, replies_of, refused_with, laid_reply}
use Rattle.theorems.specs.Closed.{besides, closing_file, closed_page, closed_tables, Closed, Closing}
use Rattle.theorems.specs.Witness3.{But, fast_bytes, slow_bytes, start, made}

-- ---- the fields of `Closed`

pub data Part : Type 0 where
  answers : Part
  leaves : Part

abbrev pub place : Part → ℕ
place answers = 0
place leaves = 1

-- of page 63, the last one, which station 15 closes
module _ (r : Run) where
  abbrev pub Says : Part → Type 0
  Says answers = replies 70 r.turns ≡ replicate 16 (0 ∷ 4 ∷ 1 ∷ 0 ∷ 0 ∷ 0 ∷ [])
  Says leaves = r.final ≡ state_of (closed_tables start.tables 15 63) fast_bytes slow_bytes

  -- they are what `Closed` says
  pub part_of : Closed 70 15 63 start r → (i : Part) → Says i
  part_of k answers = k.answers
  part_of k leaves = k.leaves

  pub of_parts : ((i : Part) → Says i) → Closed 70 15 63 start r
  of_parts k = record { answers = k answers; leaves = k leaves }

pub each : (X : Part → Type 0) → X answers → X leaves → (i : Part) → X i
each X a b answers = a
each X a b leaves = b

-- the tables with this record of page 63
abbrev pub with63 : Page → Tables
with63 g = with_pages start.tables (set start.tables.pages 63 g) start.tables.register

abbrev pub ended : List Turn → State → Run
ended ts s = record { turns = ts; final = s }

abbrev pub quiet : Turn
quiet =
    record {
      found = start;
      sent = whole [];
      outcome = accept (record { state = start; moved = true; laid = 0; data_out = [] });
    }

abbrev pub turned_back : Turn
turned_back = record { found = start; sent = whole []; outcome = refuse 10 }

-- the closed page, but station x has right n
abbrev pub but_for : ℕ → ℕ → Page
but_for x n =
    record { rights = set (closed_page 15).rights x n; copies = (closed_page 15).copies; owner = 15; n = 1 }

abbrev pub wrong : Part → Run
-- the last grant is turned back
wrong answers =
    ended (replicate 15 quiet ++ (turned_back ∷ [])) (state_of (with63 (closed_page 15)) fast_bytes slow_bytes)
-- the last grant is accepted and does nothing
wrong leaves = ended (replicate 16 quiet) (state_of (with63 (but_for 14 1)) fast_bytes slow_bytes)

abbrev pub Row : Part → Part → Type 0
Row i j = But (eqb (place i) (place j)) (Says (wrong i) j)

-- the right of station x at page p
abbrev pub right_in : ℕ → ℕ → State → ℕ
right_in p x s = right_of (page_at s.tables p) x

pub alone : (i j : Part) → Row i j
unfolding reply fresh_tables
alone answers =
    each (Row answers) (λ e. false≢true (ap (λ (l : List (List ℕ)). eqb (get_or (get_or l 15 []) 3 0) 0) e)) refl
alone leaves = each (Row leaves) refl (λ e. false≢true (ap (λ (s : State). eqb (right_in 63 14 s) 0) e))

-- ---- `leaves`: with one part wrong

abbrev pub due : State
due = state_of (with63 (closed_page 15)) fast_bytes slow_bytes

abbrev pub left63 : Page → State
left63 g = state_of (with63 g) fast_bytes slow_bytes

-- the owner has right 0, or 1 as the others had; station 14 is the owner
pub not_owner : (left63 (but_for 15 0) ≡ due → ⊥) × (left63 (but_for 15 1) ≡ due → ⊥)
    × (left63 (record { rights = (closed_page 15).rights; copies = (closed_page 15).copies; owner = 14; n = 1 }) ≡ due
    → ⊥)
unfolding fresh_tables
not_owner = (
  λ e. false≢true (ap (λ (s : State). eqb (right_in 63 15 s) 2) e),
  λ e. false≢true (ap (λ (s : State). eqb (right_in 63 15 s) 2) e),
  λ e. false≢true (ap (λ (s : State). eqb (page_at s.tables 63).owner 15) e),
)

-- the null copy is not MOST RECENT
pub not_copy : left63 (with_copies (closed_page 15) 1 (replicate 8 fresh_copy)) ≡ due → ⊥
unfolding fresh_tables
not_copy e = false≢true (ap (λ (s : State). (get_or (page_at s.tables 63).copies 0 fresh_copy).recent) e)

-- another page stands
pub not_other : state_of
    (with_pages start.tables (set (set start.tables.pages 63 (closed_page 15)) 62 (closed_page 15))
    start.tables.register)
    fast_bytes slow_bytes ≡ due → ⊥
unfolding fresh_tables fresh_page
not_other e = false≢true (ap (λ (s : State). eqb (page_at s.tables 62).n 0) e)

-- frame 0 is retired
pub not_register : state_of (with_retired (with63 (closed_page 15)) 0) fast_bytes slow_bytes ≡ due → ⊥
unfolding fresh_tables
not_register e = true≢false (ap (λ (s : State). retired_at s.tables 0) e)

-- a byte of a store has changed
pub not_store : (state_of (with63 (closed_page 15)) (set fast_bytes 0 0) slow_bytes ≡ due → ⊥)
    × (state_of (with63 (closed_page 15)) fast_bytes (set slow_bytes 0 0) ≡ due → ⊥)
not_store = (
  λ e. true≢false (ap (λ (s : State). eqb (get_or s.fast 0 1) 0) e),
  λ e. true≢false (ap (λ (s : State). eqb (get_or s.slow 0 1) 0) e),
)

-- ---- the least that `closes` asks for: no frame, no byte of a store, a buffer of 70, the last station and page

abbrev pub no_frames : State
no_frames = state_of (fresh_tables 0 0) [] []

pub closed_at_70 : Closing → Closed 70 15 63 no_frames (run 70 (closing_file 15 63) no_frames)
unfolding sound sizes_rule pages_rule none_shared all_below all count holders uses page_rule standing_rule absent_rule
    register_rule in_pages in_copies fresh_tables fresh_page fits
closed_at_70 k = k.closes 70 15 63 no_frames (omega arith) (omega arith) (omega arith) refl refl refl

-- ---- on a page that stands: 8, and then a grant is its owner's alone

pub owner_closes : replies_of made (closing_file 3 5) ≡ refused_with 8 ∷ replicate 15 (laid_reply 0)
unfolding run_on flatten besides written names code among argument call_of values value
owner_closes = refl

pub others_refused : replies_of made (closing_file 4 5) ≡ refused_with 8 ∷ replicate 15 (refused_with 10)
unfolding run_on flatten besides written names code among argument call_of values value
others_refused = refl
