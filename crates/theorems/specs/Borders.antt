-- Borders that the starred cases leave out, computed from the definitions: what is accepted without change, of each two
-- numbers that can both apply the one that comes first, the most bytes that a write lays, the tally's limit, each table
-- rule by itself, and the kinds that the flat memory passes over.
use Rattle.std.specs.Prelude.{ℕ, ◌≡◌, refl, Bool, true, false, take, set, replicate}
use mathlib.Core.List.{List, [], ◌∷◌, ◌++◌, map, flatten}
use Rattle.tables.specs.declared.Copy.{Copy}
use Rattle.tables.specs.declared.Page.{Page}
use Rattle.tables.specs.declared.Tables.{Tables}
use Rattle.tables.specs.Lists.{all, count, all_below}
use Rattle.tables.specs.Model.{free_entry, fresh_copy, fresh_page, fresh_tables, with_pages}
use Rattle.tables.specs.Rules.{uses, holders, standing_rule, absent_rule, page_rule, none_shared, sizes_rule, pages_rule, sound}
use Rattle.tables.specs.Search.{in_copies, in_pages}
use Rattle.tables.specs.Register.{register_rule, vacated, occupied}
use Rattle.tables.specs.Changes.{change_to, with_retired, after}
use Rattle.steps.specs.declared.Kind.{Kind}
use Rattle.steps.specs.declared.Kind.TheVariants.{LookPage, LookFrame, Retire}
use Rattle.steps.specs.declared.Call.{Call}
use Rattle.steps.specs.Calls.{outside}
use Rattle.steps.specs.Kinds.{names, kinds, code, among, argument, call_of}
use Rattle.steps.specs.Steps.{number_of}
use Rattle.steps.specs.Effects.{State, joined}
use Rattle.messages.specs.declared.Tally.{Tally}
use Rattle.messages.specs.Messages.{parse}
use Rattle.messages.specs.Replies.{up_to, counted}
use Rattle.messages.specs.Run.{cut, whole, answer}
use Rattle.theorems.specs.Flat.{none, react_as, react_to, Answer, answers_of}
use Rattle.theorems.specs.Demand3.{reaction}
use Rattle.theorems.specs.Cases.{state₀, run_on, right_turn, replies_of, replies₁, Case, ◌↝◌, answers_in, refused_with, laid_reply, file_of, eight_made}

-- ---- on the end state of the worked example

abbrev pub bordering : Case
bordering =
    -- a look at a held frame: 1, page, copy
    (0x00 ∷ 0x03 ∷ 0x01 ∷ 0x0B ∷ 0x00 ∷ []) ↝ (0x00 ∷ 0x07 ∷ 0x01 ∷ 0x00 ∷ 0x00 ∷ 0x00 ∷ 0x01 ∷ 0x05 ∷ 0x00 ∷ [])
    -- a second set current of the same copy, and remove current of a null copy: accepted, no change
    ∷ (0x00 ∷ 0x04 ∷ 0x01 ∷ 0x08 ∷ 0x05 ∷ 0x00 ∷ []) ↝ laid_reply 0
    ∷ (0x00 ∷ 0x04 ∷ 0x01 ∷ 0x01 ∷ 0x03 ∷ 0x06 ∷ []) ↝ laid_reply 0
    ∷ (0x00 ∷ 0x04 ∷ 0x01 ∷ 0x09 ∷ 0x06 ∷ 0x00 ∷ []) ↝ laid_reply 0
    ∷ (0x00 ∷ 0x03 ∷ 0x01 ∷ 0x0A ∷ 0x06 ∷ [])
    ↝ (0x00 ∷ 0x08 ∷ 0x01 ∷ 0x00 ∷ 0x00 ∷ 0x00 ∷ 0x01 ∷ 0xFF ∷ 0x00 ∷ 0x01 ∷ [])
    ∷ (0x00 ∷ 0x03 ∷ 0x01 ∷ 0x0A ∷ 0x05 ∷ [])
    ↝ (0x00 ∷ 0x08 ∷ 0x01 ∷ 0x00 ∷ 0x00 ∷ 0x00 ∷ 0x01 ∷ 0x00 ∷ 0x01 ∷ 0x01 ∷ [])
    -- 2 before 3; 3 before 4; 4 before 7; 7 before 8
    ∷ (0x00 ∷ 0x02 ∷ 0x02 ∷ 0x0D ∷ []) ↝ refused_with 2
    ∷ (0x00 ∷ 0x02 ∷ 0x01 ∷ 0x0D ∷ []) ↝ refused_with 3
    ∷ (0x00 ∷ 0x04 ∷ 0x01 ∷ 0x0A ∷ 0x40 ∷ 0x40 ∷ []) ↝ refused_with 4
    ∷ (0x00 ∷ 0x04 ∷ 0x01 ∷ 0x01 ∷ 0x10 ∷ 0x05 ∷ []) ↝ refused_with 7
    -- 7 before 9 and 12, in kinds 6 to 12
    ∷ (0x00 ∷ 0x05 ∷ 0x01 ∷ 0x06 ∷ 0x40 ∷ 0x09 ∷ 0x00 ∷ []) ↝ refused_with 7
    ∷ (0x00 ∷ 0x05 ∷ 0x01 ∷ 0x06 ∷ 0x07 ∷ 0x09 ∷ 0x08 ∷ []) ↝ refused_with 7
    ∷ (0x00 ∷ 0x04 ∷ 0x01 ∷ 0x07 ∷ 0x40 ∷ 0x09 ∷ []) ↝ refused_with 7
    ∷ (0x00 ∷ 0x04 ∷ 0x01 ∷ 0x08 ∷ 0x40 ∷ 0x09 ∷ []) ↝ refused_with 7
    ∷ (0x00 ∷ 0x04 ∷ 0x01 ∷ 0x09 ∷ 0x40 ∷ 0x09 ∷ []) ↝ refused_with 7
    ∷ (0x00 ∷ 0x03 ∷ 0x01 ∷ 0x0A ∷ 0x40 ∷ []) ↝ refused_with 7
    ∷ (0x00 ∷ 0x03 ∷ 0x01 ∷ 0x0B ∷ 0x08 ∷ []) ↝ refused_with 7
    ∷ (0x00 ∷ 0x03 ∷ 0x01 ∷ 0x0C ∷ 0x08 ∷ []) ↝ refused_with 7
    -- 9 before 12, in kinds 6 to 9
    ∷ (0x00 ∷ 0x05 ∷ 0x01 ∷ 0x06 ∷ 0x07 ∷ 0x09 ∷ 0x00 ∷ []) ↝ refused_with 9
    ∷ (0x00 ∷ 0x04 ∷ 0x01 ∷ 0x07 ∷ 0x07 ∷ 0x09 ∷ []) ↝ refused_with 9
    ∷ (0x00 ∷ 0x04 ∷ 0x01 ∷ 0x08 ∷ 0x07 ∷ 0x09 ∷ []) ↝ refused_with 9
    ∷ (0x00 ∷ 0x04 ∷ 0x01 ∷ 0x09 ∷ 0x07 ∷ 0x09 ∷ []) ↝ refused_with 9
    -- 12 before 13; 12 before 15; 12 before 17
    ∷ (0x00 ∷ 0x05 ∷ 0x01 ∷ 0x06 ∷ 0x05 ∷ 0x01 ∷ 0x00 ∷ []) ↝ refused_with 12
    ∷ (0x00 ∷ 0x04 ∷ 0x01 ∷ 0x07 ∷ 0x05 ∷ 0x01 ∷ []) ↝ refused_with 12
    ∷ (0x00 ∷ 0x04 ∷ 0x01 ∷ 0x08 ∷ 0x06 ∷ 0x01 ∷ []) ↝ refused_with 12
    ∷ []

pub bordering_replies : replies_of state₀ (file_of bordering) ≡ replies₁ ++ answers_in bordering
unfolding run_on flatten
bordering_replies = refl

-- "write its length times the number of current copies": 64 bytes written to eight CURRENT copies
abbrev pub sixty_four : List ℕ
sixty_four = replicate 32 0x41 ++ replicate 32 0x37

abbrev pub widest : Case
widest =
    eight_made
    -- 13 before 14, and 12 before both
    ++ ((0x00 ∷ 0x05 ∷ 0x01 ∷ 0x06 ∷ 0x05 ∷ 0x00 ∷ 0x07 ∷ []) ↝ refused_with 13
    ∷ (0x00 ∷ 0x05 ∷ 0x01 ∷ 0x06 ∷ 0x05 ∷ 0x08 ∷ 0x07 ∷ []) ↝ refused_with 12
    -- all CURRENT
    ∷ (0x00 ∷ 0x04 ∷ 0x01 ∷ 0x08 ∷ 0x05 ∷ 0x01 ∷ []) ↝ laid_reply 0
    ∷ (0x00 ∷ 0x04 ∷ 0x01 ∷ 0x08 ∷ 0x05 ∷ 0x02 ∷ []) ↝ laid_reply 0
    ∷ (0x00 ∷ 0x04 ∷ 0x01 ∷ 0x08 ∷ 0x05 ∷ 0x03 ∷ []) ↝ laid_reply 0
    ∷ (0x00 ∷ 0x04 ∷ 0x01 ∷ 0x08 ∷ 0x05 ∷ 0x04 ∷ []) ↝ laid_reply 0
    ∷ (0x00 ∷ 0x04 ∷ 0x01 ∷ 0x08 ∷ 0x05 ∷ 0x05 ∷ []) ↝ laid_reply 0
    ∷ (0x00 ∷ 0x04 ∷ 0x01 ∷ 0x08 ∷ 0x05 ∷ 0x06 ∷ []) ↝ laid_reply 0
    ∷ (0x00 ∷ 0x04 ∷ 0x01 ∷ 0x08 ∷ 0x05 ∷ 0x07 ∷ []) ↝ laid_reply 0
    -- 64 bytes written
    ∷ (0x00 ∷ 0x45 ∷ 0x01 ∷ 0x05 ∷ 0x03 ∷ 0x05 ∷ 0x00 ∷ sixty_four) ↝ (0x00 ∷ 0x04 ∷ 0x01 ∷ 0x00 ∷ 0x02 ∷ 0x00 ∷ [])
    ∷ [])

-- 512 bytes laid: every frame holds them
pub widest_replies : replies_of state₀ (file_of widest) ≡ replies₁ ++ answers_in widest
unfolding run_on flatten
widest_replies = refl

pub widest_stores : joined (run_on state₀ (file_of widest)).final ≡ flatten (replicate 8 sixty_four)
unfolding run_on flatten
widest_stores = refl

-- ---- 7 asks for what a kind names, and for nothing else

-- a call that a caller filled itself, with everything too large but what a look at frame 3, or at page 5, names
abbrev pub overfull : Kind → ℕ → ℕ → Call
overfull k p f =
    record {
      kind = k;
      station = 200;
      page = p;
      other = 99;
      right = 9;
      offset = 200;
      count = 0;
      copy = 9;
      frame = f;
    }

pub only_named : map (outside 8 0) (overfull LookFrame 77 3 ∷ overfull LookPage 5 99 ∷ overfull Retire 77 7 ∷ [])
    ≡ (0 ∷ 0 ∷ 0 ∷ [])
unfolding names code among
only_named = refl

-- ---- 5 and 6 among the others

-- P of 128, and stores that do not fit
abbrev pub broken : State
broken = record { tables = fresh_tables 128 4; fast = []; slow = [] }

abbrev pub misfit : State
misfit = record { tables = fresh_tables 4 4; fast = []; slow = [] }

-- 18 before 1; 1 before 5
pub early_orders : (number_of (answer 69 broken cut) ≡ 18) × (number_of (answer 70 broken cut) ≡ 1)
unfolding answer
early_orders = (refl, refl)

-- 2, 3 and 4 before 5; 5 before 6 and 7; 6 before 7
pub broken_orders :
    map (λ (m : List ℕ). number_of (right_turn broken (whole m)))
    ((2 ∷ 10 ∷ 5 ∷ []) ∷ (1 ∷ 13 ∷ 5 ∷ []) ∷ (1 ∷ 10 ∷ []) ∷ (1 ∷ 10 ∷ 64 ∷ []) ∷ [])
    ≡ (2 ∷ 3 ∷ 4 ∷ 5 ∷ [])
unfolding right_turn
broken_orders = refl

pub misfit_orders : number_of (right_turn misfit (whole (1 ∷ 10 ∷ 64 ∷ []))) ≡ 6
unfolding right_turn
misfit_orders = refl

-- ---- "each number stops at 4294967295"

abbrev pub tallied : ℕ → ℕ → ℕ → Tally
tallied m n laid = record { messages = m; refusals = n; laid = laid }

pub tally_stops :
    (counted (tallied 4294967294 4294967294 4294967231) true 64 ≡ tallied 4294967295 4294967295 4294967295)
    × (counted (tallied 4294967295 4294967295 4294967232) true 64 ≡ tallied 4294967295 4294967295 4294967295)
unfolding up_to
tally_stops = (refl, refl)

-- ---- each table rule by itself

-- a record with so many copies in use, of which the right of station 3 is given
abbrev pub record_of : ℕ → ℕ → ℕ → List Copy → Page
record_of owner right n cs =
    record {
      rights = set (replicate 16 0) 3 right;
      copies = take 8 (cs ++ replicate 8 fresh_copy);
      owner = owner;
      n = n;
    }

abbrev pub copy_on : ℕ → Bool → Bool → Copy
copy_on f current recent = record { frame = f; current = current; recent = recent }

-- P = S = 4 with this record of page 5, and the register that is right for it
abbrev pub with_five : Page → Tables
with_five g = after (fresh_tables 4 4) (change_to 5 g 255)

-- two copies, on frames 0 and 1
abbrev pub two : List Copy
two = copy_on 0 true true ∷ copy_on 1 false true ∷ []

abbrev pub on_each : List Copy
on_each = map (λ (f : ℕ). copy_on f false true) (0 ∷ 1 ∷ 2 ∷ 3 ∷ 4 ∷ 5 ∷ 6 ∷ 7 ∷ [])

-- with another entry of the register
abbrev pub entered : Page → ℕ → ℕ → Tables
entered g f e = let t = with_five g in with_pages t t.pages (set t.register f e)

pub rules_kept :
    map sound
    (with_five (record_of 3 2 2 two) ∷ with_five (record_of 15 0 8 on_each)
    ∷ with_five (record_of 0 0 1 (copy_on 255 false true ∷ [])) ∷ [])
    ≡ replicate 3 true
unfolding sound sizes_rule pages_rule none_shared all_below all count holders uses page_rule standing_rule absent_rule
    register_rule
    in_pages in_copies fresh_tables fresh_page after vacated occupied
rules_kept = refl

abbrev pub wrong_tables : List Tables
wrong_tables =
    -- P and S
    fresh_tables 128 0 ∷ fresh_tables 0 128
    -- owner, right, n
    ∷ with_five (record_of 16 2 2 two) ∷ with_five (record_of 3 3 2 two) ∷ with_five (record_of 3 2 9 on_each)
    -- a frame out of range; one under two copies, of which the register names the first
    ∷ with_five (record_of 3 2 2 (copy_on 0 true true ∷ copy_on 8 false true ∷ []))
    ∷ entered (record_of 3 2 2 (copy_on 0 true true ∷ copy_on 0 false true ∷ [])) 0 40
    -- CURRENT without MOST RECENT; none MOST RECENT
    ∷ with_five (record_of 3 2 2 (copy_on 0 true true ∷ copy_on 1 true false ∷ []))
    ∷ with_five (record_of 3 2 2 (copy_on 0 false false ∷ copy_on 1 false false ∷ []))
    -- a null copy beside another, and one that is CURRENT
    ∷ with_five (record_of 3 2 2 (copy_on 255 false true ∷ copy_on 1 false true ∷ []))
    ∷ with_five (record_of 3 2 1 (copy_on 255 true true ∷ []))
    -- an unused entry with a frame, and with a mark
    ∷ with_five (record_of 3 2 1 two) ∷ with_five (record_of 3 2 1 (copy_on 0 true true ∷ copy_on 255 false true ∷ []))
    -- an absent page with an owner, a right, a frame
    ∷ with_five (record_of 1 0 0 []) ∷ with_five (record_of 0 1 0 [])
    ∷ with_five (record_of 0 0 0 (copy_on 1 false false ∷ []))
    -- the register: a free frame's entry names a copy; a held one's says free; one past the last frame; one that is no
    -- entry
    ∷ entered (record_of 3 2 2 two) 2 40 ∷ entered (record_of 3 2 2 two) 0 free_entry
    ∷ entered (record_of 3 2 2 two) 8 40
    ∷ entered (record_of 3 2 2 two) 2 512
    -- a copy on a retired frame, and a retired frame past the last
    ∷ with_retired (with_five (record_of 3 2 2 two)) 0 ∷ with_retired (with_five (record_of 3 2 2 two)) 8 ∷ []

pub rules_broken : map sound wrong_tables ≡ replicate 22 false
unfolding sound sizes_rule pages_rule none_shared all_below all count holders uses page_rule standing_rule absent_rule
    register_rule
    in_pages in_copies fresh_tables fresh_page after vacated occupied
rules_broken = refl

-- ---- "It passes over kinds 6 to 11", and kind 12

-- a message of each kind, on the flat memory at the start: create is accepted, and the next four find no page; the last
-- message is out of range
abbrev pub of_each_kind : List (List ℕ)
of_each_kind =
    (1 ∷ 1 ∷ 3 ∷ 5 ∷ []) ∷ (1 ∷ 2 ∷ 3 ∷ 5 ∷ []) ∷ (1 ∷ 3 ∷ 3 ∷ 5 ∷ 4 ∷ 1 ∷ []) ∷ (1 ∷ 4 ∷ 3 ∷ 5 ∷ 0 ∷ 1 ∷ [])
    ∷ (1 ∷ 5 ∷ 3 ∷ 5 ∷ 0 ∷ 7 ∷ [])
    ∷ (1 ∷ 6 ∷ 5 ∷ 0 ∷ 0 ∷ []) ∷ (1 ∷ 7 ∷ 5 ∷ 0 ∷ []) ∷ (1 ∷ 8 ∷ 5 ∷ 0 ∷ []) ∷ (1 ∷ 9 ∷ 5 ∷ 0 ∷ []) ∷ (1 ∷ 10 ∷ 5 ∷ [])
    ∷ (1 ∷ 11 ∷ 0 ∷ []) ∷ (1 ∷ 12 ∷ 0 ∷ []) ∷ (1 ∷ 10 ∷ 64 ∷ []) ∷ []

abbrev pub bare_answers : ℕ → List Answer
bare_answers n = record { number = n; bytes = [] } ∷ []

pub kinds_answered : map (λ (m : List ℕ). answers_of (reaction none (whole m))) of_each_kind
    ≡ (bare_answers 0 ∷ bare_answers 9 ∷ bare_answers 9 ∷ bare_answers 9 ∷ bare_answers 9 ∷ replicate 8 [])
unfolding react_to react_as parse names kinds code among argument call_of
kinds_answered = refl
