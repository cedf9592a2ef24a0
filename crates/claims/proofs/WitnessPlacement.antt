-- For each field of `BroughtBack` moves that this field rules out and no other does, on page 5 and with a reply buffer
-- of 70 bytes; computed, but for the law that says of every read how it is answered.
use Prim.Native.Nat.{ℕ, ◌≤◌}
use mathlib.Core.Path.{◌≡◌, refl}
use mathlib.Core.Bool.{true, false, false≢true}
use mathlib.Core.List.{List, [], ◌∷◌}
use native.Mathlib.Omega.{arith}
use lib.ListN.{length, set, replicate}
use lib.Dec.{ltb, eqb}
use Rattle.tables.specs.Lists.{all, count, all_below, listed}
use Rattle.tables.specs.Numbers.{accepted, out_of_range, no_right}
use Rattle.tables.specs.Model.{fresh_copy, fresh_page, fresh_tables}
use Rattle.tables.specs.Rules.{uses, holders, standing_rule, absent_rule, page_rule, none_shared, sizes_rule, pages_rule, sound}
use Rattle.tables.specs.Search.{in_copies, in_pages}
use Rattle.tables.specs.Register.{register_rule, vacated, occupied}
use Rattle.tables.specs.Changes.{new_copy, change_to, after}
use Rattle.steps.specs.Kinds.{is_read, names, kinds, code, among, argument, call_of}
use Rattle.steps.specs.Stores.{fits}
use Rattle.steps.specs.Steps.{number_of, perform, decide_on}
use Rattle.steps.specs.Effects.{State, step}
use Rattle.steps.specs.Promises.{state_of}
use Rattle.steps.proofs.StepLaws.{Good}
use Rattle.messages.specs.Messages.{parse}
use Rattle.messages.specs.Run.{Sent, asked, answer, split, messages_of, end_of, run}
use Rattle.theorems.specs.Witness3.{But}
use Rattle.claims.specs.Note.{asks_for}
use Rattle.claims.specs.Placement.{from_placement, BroughtBack}
use Rattle.claims.specs.OldCopies.{written, send_read}
use Rattle.claims.proofs.Placement as Laws

pub data Field : Type 0 where
  of_bytes : Field
  few : Field
  by_placement : Field
  reads_answered : Field

abbrev pub place : Field → ℕ
place of_bytes = 0
place few = 1
place by_placement = 2
place reads_answered = 3

module _ (s : State) where
  abbrev pub Says : List ℕ → Field → Type 0
  Says file of_bytes = all (λ (b : ℕ). ltb b 256) file ≡ true
  Says file few = length (messages_of file) ≤ 2
  Says file by_placement = from_placement (messages_of file) ≡ true
  Says file reads_answered = (x : Sent) → asks_for 5 (λ c. is_read c.kind) (asked x) ≡ true
      → listed (number_of (answer 70 (run 70 file s).final x)) (accepted ∷ out_of_range ∷ no_right ∷ []) ≡ true

  -- they are what `BroughtBack` says of its file
  pub field_of : (k : BroughtBack 70 s 5) (i : Field) → Says k.file i
  field_of k of_bytes = k.of_bytes
  field_of k few = k.few
  field_of k by_placement = k.by_placement
  field_of k reads_answered = k.reads_answered

  pub of_fields : (file : List ℕ) → ((i : Field) → Says file i) → BroughtBack 70 s 5
  of_fields file k =
      record {
        file = file;
        of_bytes = k of_bytes;
        few = k few;
        by_placement = k by_placement;
        reads_answered = k reads_answered;
      }

pub each : (X : Field → Type 0) → X of_bytes → X few → X by_placement → X reads_answered → (i : Field) → X i
each X a b c d of_bytes = a
each X a b c d few = b
each X a b c d by_placement = c
each X a b c d reads_answered = d

-- `written`, in which page 5 has a CURRENT copy; and the same with none
abbrev pub idle : State
idle =
    state_of (after (fresh_tables 2 1) (change_to 5 (record {
      rights = set (replicate 16 1) 3 2;
      copies = set (set (replicate 8 fresh_copy) 0 (new_copy 0 true)) 1 (new_copy 1 false);
      owner = 3;
      n = 2;
    }) 255)) written.fast written.slow

pub written_good : Good written
unfolding sound sizes_rule pages_rule none_shared all_below all count holders uses page_rule standing_rule absent_rule
    register_rule in_pages in_copies fresh_tables fresh_page after vacated occupied fits
written_good = record { tables_sound = refl; stores_fit = refl }

pub still_read : Says written [] reads_answered
unfolding end_of messages_of split fresh_tables after count
still_read x e = Laws.reads_answered 70 5 (omega arith) (omega arith) written written_good refl (omega arith) x e

abbrev pub found : Field → State
found of_bytes = written
found few = written
found by_placement = written
found reads_answered = idle

abbrev pub wrong : Field → List ℕ
-- a message of version 256
wrong of_bytes = 0 ∷ 1 ∷ 256 ∷ []
-- three messages of no byte
wrong few = 0 ∷ 0 ∷ 0 ∷ 0 ∷ 0 ∷ 0 ∷ []
-- a delete by station 4, which is not the owner
wrong by_placement = 0 ∷ 4 ∷ 1 ∷ 2 ∷ 4 ∷ 5 ∷ []
-- no move
wrong reads_answered = []

abbrev pub Row : Field → Field → Type 0
Row i j = But (eqb (place i) (place j)) (Says (found i) (wrong i) j)

pub alone : (i j : Field) → Row i j
unfolding end_of messages_of split answer parse names kinds code among argument call_of step decide_on perform sound
    sizes_rule pages_rule none_shared all_below all count holders uses page_rule standing_rule absent_rule register_rule in_pages
    in_copies fresh_tables fresh_page after vacated occupied fits
alone of_bytes = each (Row of_bytes) (λ e. false≢true e) (omega arith) refl still_read
alone few = each (Row few) refl (λ e. omega arith) refl still_read
alone by_placement = each (Row by_placement) refl (omega arith) (λ e. false≢true e) still_read
alone reads_answered = each (Row reads_answered) refl (omega arith) refl (λ k. false≢true (k send_read refl))
