-- Request [7]: for each field of `Alike` and of `TakenAlike` a wrong pair that this field rules out and no other does;
-- the least that `Hidden` and `NeverFive` ask for, and why they ask for it. Computed.
use Rattle.std.specs.Prelude.{ℕ, ◌≡◌, refl, Bool, true, false, List, [], ◌∷◌, ◌++◌, map, length, get_or, replicate, eqb}
use Rattle.std.proofs.Common.{ap, true≢false, arith}
use Rattle.std.proofs.lemmas.Bool.{false≢true}
use Rattle.tables.specs.declared.Tables.{Tables}
use Rattle.tables.specs.Lists.{all, count, all_below}
use Rattle.tables.specs.Model.{absent, fresh_page, fresh_tables, page_at}
use Rattle.tables.specs.Rules.{uses, holders, standing_rule, absent_rule, page_rule, none_shared, sizes_rule, pages_rule, sound}
use Rattle.tables.specs.Search.{in_copies, in_pages}
use Rattle.tables.specs.Register.{register_rule}
use Rattle.tables.specs.Changes.{created, after}
use Rattle.steps.specs.Kinds.{names, kinds, code, among, argument, call_of}
use Rattle.steps.specs.Stores.{fits}
use Rattle.steps.specs.Steps.{refuse, accept}
use Rattle.steps.specs.Effects.{State}
use Rattle.messages.specs.declared.Tally.{Tally}
use Rattle.messages.specs.Messages.{parse}
use Rattle.messages.specs.Replies.{reply, up_to}
use Rattle.messages.specs.Run.{cut, whole, Turn, split, messages_of, turns_of, Run, run, buffer, tally, answer}
use Rattle.messages.specs.Run.{served, place_after, part_from}
use Rattle.messages.specs.Promises.{FillCall, emptied, state_left, tally_left}
use Rattle.theorems.specs.Cases.{run_on}
use Rattle.theorems.specs.Hidden.{reply_covered, tables_found, told, Alike, taken_covered, TakenAlike}
use Rattle.theorems.specs.Hidden.{run_over, Hidden, none_five, NeverFive}
use Rattle.theorems.specs.Witness3.{But, file₃, fast_bytes, slow_bytes, start, broken, made}
use Rattle.theorems.specs.Witness1.{tally_of}

-- ---- the fields of `Alike`

pub data Field : Type 0 where
  replies : Field
  tables : Field
  tallies : Field
  found : Field
  told_alike : Field
  fast_long : Field
  slow_long : Field

abbrev pub place : Field → ℕ
place replies = 0
place tables = 1
place tallies = 2
place found = 3
place told_alike = 4
place fast_long = 5
place slow_long = 6

-- two runs
pub record Pair : Type 0 where
  pub one : Run
  pub other : Run

module _ (w : Pair) where
  abbrev pub Says : Field → Type 0
  Says replies = map (reply_covered 70) w.one.turns ≡ map (reply_covered 70) w.other.turns
  Says tables = w.one.final.tables ≡ w.other.final.tables
  Says tallies = tally w.one.turns (tally_of 0 0 0) ≡ tally w.other.turns (tally_of 0 0 0)
  Says found = map tables_found w.one.turns ≡ map tables_found w.other.turns
  Says told_alike = map told w.one.turns ≡ map told w.other.turns
  Says fast_long = length w.one.final.fast ≡ length w.other.final.fast
  Says slow_long = length w.one.final.slow ≡ length w.other.final.slow

  -- they are what `Alike` says
  pub field_of : Alike 70 (tally_of 0 0 0) w.one w.other → (i : Field) → Says i
  field_of a replies = a.replies
  field_of a tables = a.tables
  field_of a tallies = a.tallies
  field_of a found = a.found
  field_of a told_alike = a.told_alike
  field_of a fast_long = a.fast_long
  field_of a slow_long = a.slow_long

  pub of_fields : ((i : Field) → Says i) → Alike 70 (tally_of 0 0 0) w.one w.other
  of_fields k =
      record {
        replies = k replies;
        tables = k tables;
        tallies = k tallies;
        found = k found;
        told_alike = k told_alike;
        fast_long = k fast_long;
        slow_long = k slow_long;
      }

pub each : (X : Field → Type 0) → X replies → X tables → X tallies → X found → X told_alike → X fast_long → X slow_long
    → (i : Field) → X i
each X a b c d e f g replies = a
each X a b c d e f g tables = b
each X a b c d e f g tallies = c
each X a b c d e f g found = d
each X a b c d e f g told_alike = e
each X a b c d e f g fast_long = f
each X a b c d e f g slow_long = g

-- a look at frame 0 that is accepted with these data, on state s
abbrev pub looked : State → Bool → List ℕ → Turn
looked s moved bytes =
    record {
      found = s;
      sent = whole (1 ∷ 11 ∷ 0 ∷ []);
      outcome = accept (record { state = s; moved = moved; laid = 0; data_out = bytes });
    }

-- one that is refused with 0, the number of the accepted
abbrev pub refused_with0 : Turn
refused_with0 = record { found = start; sent = whole (1 ∷ 11 ∷ 0 ∷ []); outcome = refuse 0 }

abbrev pub ended : List Turn → State → Run
ended ts s = record { turns = ts; final = s }

abbrev pub stored : List ℕ → List ℕ → State
stored fast slow = record { tables = fresh_tables 1 1; fast = fast; slow = slow }

abbrev pub wrong : Field → Pair
-- a look that shows another frame state
wrong replies = record {
  one = ended (looked start false (0 ∷ 255 ∷ 255 ∷ []) ∷ []) start;
  other = ended (looked start false (1 ∷ 5 ∷ 0 ∷ []) ∷ []) start;
}
-- a page stands at the end of one
wrong tables = record { one = ended [] start; other = ended [] made }
-- a message that is counted as refused, with the reply of an accepted one
wrong tallies = record {
  one = ended (looked start false [] ∷ []) start;
  other = ended (refused_with0 ∷ []) start;
}
-- a message of one finds the page, which is gone at its end
wrong found = record {
  one = ended (looked start false [] ∷ []) start;
  other = ended (looked made false [] ∷ []) start;
}
-- the tables are told to have moved
wrong told_alike = record {
  one = ended (looked start false [] ∷ []) start;
  other = ended (looked start true [] ∷ []) start;
}
-- a store of another length
wrong fast_long = record { one = ended [] start; other = ended [] (stored (0 ∷ fast_bytes) slow_bytes) }
wrong slow_long = record { one = ended [] start; other = ended [] (stored fast_bytes (0 ∷ slow_bytes)) }

abbrev pub Row : Field → Field → Type 0
Row i j = But (eqb (place i) (place j)) (Says (wrong i) j)

-- page 5 stands in the second of these
not_made : start.tables ≡ made.tables → ⊥
unfolding fresh_tables fresh_page created after
not_made e = true≢false (ap (λ (t : Tables). absent (page_at t 5)) e)

-- the tables that the first message finds
abbrev pub first_found : List Tables → Tables
first_found [] = start.tables
first_found (t ∷ ts) = t

pub alone : (i j : Field) → Row i j
unfolding tally up_to reply parse names kinds code among argument call_of
alone replies =
    each (Row replies) (λ e. true≢false (ap (λ (l : List (List ℕ)). eqb (get_or (get_or l 0 []) 6 9) 0) e)) refl refl
    refl
    refl refl refl
alone tables = each (Row tables) refl (λ e. not_made e) refl refl refl refl refl
alone tallies =
    each (Row tallies) refl refl (λ e. true≢false (ap (λ (n : Tally). eqb n.refusals 0) e)) refl refl refl refl
alone found = each (Row found) refl refl refl (λ e. not_made (ap first_found e)) refl refl refl
alone told_alike =
    each (Row told_alike) refl refl refl refl
    (λ e. false≢true (ap (λ (l : List (ℕ × ℕ × Bool)). (get_or l 0 (0, 0, false)).2) e)) refl refl
alone fast_long = each (Row fast_long) refl refl refl refl refl (λ e. omega (arith, e)) refl
alone slow_long = each (Row slow_long) refl refl refl refl refl refl (λ e. omega (arith, e))

-- ---- the fields of `TakenAlike`

pub data Part : Type 0 where
  taken : Part
  left_tables : Part
  left_tally : Part

abbrev pub part_place : Part → ℕ
part_place taken = 0
part_place left_tables = 1
part_place left_tally = 2

-- a look at frame 0, and a call that took its reply of nine bytes, of which the seventh is b
abbrev pub look_file : List ℕ
look_file = 0 ∷ 3 ∷ 1 ∷ 11 ∷ 0 ∷ []

abbrev pub filled : ℕ → Tables → Tally → FillCall
filled b t n =
    record {
      out = replicate 70 0;
      result = record { at = 5; used = 9; tables = t; moved = false; tally = n };
      fast' = fast_bytes;
      slow' = slow_bytes;
      out' = 0 ∷ 7 ∷ 1 ∷ 0 ∷ 0 ∷ 0 ∷ b ∷ 255 ∷ 255 ∷ replicate 61 0;
    }

module _ (k k' : FillCall) where
  abbrev pub Tells : Part → Type 0
  Tells taken =
      taken_covered (messages_of look_file) (emptied (k ∷ []))
      ≡ taken_covered (messages_of look_file) (emptied (k' ∷ []))
  Tells left_tables = (state_left start (k ∷ [])).tables ≡ (state_left start (k' ∷ [])).tables
  Tells left_tally = tally_left (tally_of 0 0 0) (k ∷ []) ≡ tally_left (tally_of 0 0 0) (k' ∷ [])

  -- they are what `TakenAlike` says
  pub part_of : TakenAlike look_file look_file start start (tally_of 0 0 0) (k ∷ []) (k' ∷ []) → (i : Part) → Tells i
  part_of a taken = a.replies
  part_of a left_tables = a.tables
  part_of a left_tally = a.tallies

  pub of_parts : ((i : Part) → Tells i) → TakenAlike look_file look_file start start (tally_of 0 0 0) (k ∷ []) (k' ∷ [])
  of_parts h = record { replies = h taken; tables = h left_tables; tallies = h left_tally }

pub each_part : (X : Part → Type 0) → X taken → X left_tables → X left_tally → (i : Part) → X i
each_part X a b c taken = a
each_part X a b c left_tables = b
each_part X a b c left_tally = c

abbrev pub right_call : FillCall
right_call = filled 0 (fresh_tables 1 1) (tally_of 1 0 0)

abbrev pub wrong_call : Part → FillCall
-- a byte of a look's reply; the tables; a tally that counts changed bytes
wrong_call taken = filled 9 (fresh_tables 1 1) (tally_of 1 0 0)
wrong_call left_tables = filled 0 made.tables (tally_of 1 0 0)
wrong_call left_tally = filled 0 (fresh_tables 1 1) (tally_of 1 0 9)

abbrev pub PartRow : Part → Part → Type 0
PartRow i j = But (eqb (part_place i) (part_place j)) (Tells right_call (wrong_call i) j)

pub part_alone : (i j : Part) → PartRow i j
unfolding taken_covered messages_of split parse names kinds code among argument call_of
part_alone taken = each_part (PartRow taken) (λ e. true≢false (ap (λ (l : List ℕ). eqb (get_or l 6 1) 0) e)) refl refl
part_alone left_tables = each_part (PartRow left_tables) refl (λ e. not_made e) refl
part_alone left_tally =
    each_part (PartRow left_tally) refl refl (λ e. true≢false (ap (λ (n : Tally). eqb n.laid 0) e))

-- ---- the least that `Hidden` asks for

-- as the request says it: no frame, no byte of a store and an empty file
pub asked_at_0 : Hidden
    → Alike 70 (tally_of 0 0 0) (run 70 [] (record { tables = fresh_tables 0 0; fast = []; slow = [] }))
    (run 70 [] (record { tables = fresh_tables 0 0; fast = []; slow = [] }))
unfolding sound sizes_rule pages_rule none_shared all_below all count holders uses page_rule standing_rule absent_rule
    register_rule in_pages in_copies fresh_tables fresh_page fits
asked_at_0 k = k.as_asked [] [] (fresh_tables 0 0) [] [] [] [] (tally_of 0 0 0) refl refl refl refl

-- on broken tables that no store fits, with a buffer of no byte and stores that differ in every byte
abbrev pub broken_other : State
broken_other = record { tables = fresh_tables 128 0; fast = replicate 64 0; slow = replicate 64 0 }

pub runs_at_0 : Hidden
    → Alike 0 (tally_of 0 0 0) (run_over 0 (messages_of file₃) broken) (run_over 0 (messages_of file₃) broken_other)
runs_at_0 k =
    k.two_runs (fresh_tables 128 0) fast_bytes slow_bytes (replicate 64 0) (replicate 64 0) refl refl 0
    (messages_of file₃)
    (messages_of file₃) (tally_of 0 0 0) refl

-- messages that are no file's: one cut short before another
pub any_messages : Hidden
    → Alike 70 (tally_of 0 0 0) (run_over 70 (cut ∷ whole [] ∷ []) start) (run_over 70 (cut ∷ whole [] ∷ []) start)
any_messages k =
    k.two_runs (fresh_tables 1 1) fast_bytes slow_bytes fast_bytes slow_bytes refl refl 70 (cut ∷ whole [] ∷ [])
    (cut ∷ whole [] ∷ []) (tally_of 0 0 0) refl

-- Two ends that are cut short count as the same message, and a part goes past as many bytes as its file has: the place
-- reached is the same only where the files are as long.
pub places_differ : ((part_from 70 (0 ∷ []) 0 start).place ≡ 1) × ((part_from 70 (0 ∷ 9 ∷ []) 0 start).place ≡ 2)
unfolding messages_of split turns_of answer served place_after
places_differ = (refl, refl)

-- The data of a read stay in the one buffer of a run behind the shorter reply to the next message, here to one of
-- L = 0: page 5 is created, copied to frame 0, set current, written and read.
abbrev pub read_then : ℕ → List ℕ
read_then b =
    (0 ∷ 4 ∷ 1 ∷ 1 ∷ 3 ∷ 5 ∷ []) ++ (0 ∷ 5 ∷ 1 ∷ 6 ∷ 5 ∷ 0 ∷ 0 ∷ []) ++ (0 ∷ 4 ∷ 1 ∷ 8 ∷ 5 ∷ 0 ∷ [])
    ++ (0 ∷ 6 ∷ 1 ∷ 5 ∷ 3 ∷ 5 ∷ 0 ∷ b ∷ []) ++ (0 ∷ 6 ∷ 1 ∷ 4 ∷ 3 ∷ 5 ∷ 0 ∷ 1 ∷ []) ++ (0 ∷ 0 ∷ [])

abbrev pub left_behind : ℕ → ℕ
left_behind b = get_or (buffer 70 (run_on start (read_then b)).turns (replicate 70 0)) 6 0

pub data_remain : (left_behind 8 ≡ 8) × (left_behind 9 ≡ 9)
unfolding run_on buffer
data_remain = (refl, refl)

-- ---- `NeverFive`

-- of fresh tables that are returned with 19, with a buffer of no byte; and of sound ones, with stores of no byte
pub none_at_19 : NeverFive → none_five (run 0 file₃ (record { tables = fresh_tables 0 0; fast = []; slow = [] })).turns
    ≡ true
none_at_19 k = k.from_fresh 0 128 0 file₃ [] []

pub none_at_misfit : NeverFive
    → none_five (turns_of 70 (record { tables = fresh_tables 1 1; fast = []; slow = [] }) (messages_of file₃)) ≡ true
unfolding sound sizes_rule pages_rule none_shared all_below all count holders uses page_rule standing_rule absent_rule
    register_rule in_pages in_copies fresh_tables fresh_page
none_at_misfit k =
    k.from_sound 70 (messages_of file₃) (record { tables = fresh_tables 1 1; fast = []; slow = [] }) refl

-- on broken tables it is given
pub five_on_broken : none_five (run_on broken file₃).turns ≡ false
unfolding run_on all
five_on_broken = refl
