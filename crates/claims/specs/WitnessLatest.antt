-- No old copy becomes current: for each field of `Latest` and of `ReadLast` a wrong state or read that this field rules
-- out and no other does, or the law by which it follows from the others; and the borders of `NoOldCopy`. Computed.
use Rattle.std.specs.Prelude.{ℕ, ◌≤◌, ◌<◌, ◌≡◌, refl, Bool, true, false, not, ◌||◌, List, [], ◌∷◌, ◌++◌, map, length, get_or, set, replicate, ltb, eqb}
use Rattle.std.proofs.Common.{sym, ap, ◌∙◌, subst, true≢false, arith, ltb-true, ltb-false}
use Rattle.std.proofs.lemmas.Bool.{false≢true}
use Rattle.std.proofs.Math.ListN.{get_or-eq_default}
use Rattle.tables.specs.declared.Copy.{Copy}
use Rattle.tables.specs.declared.Page.{Page}
use Rattle.tables.specs.Lists.{all, count, Each}
use Rattle.tables.specs.Model.{copies_in_use, absent, fresh_copy, fresh_tables, page_at}
use Rattle.tables.specs.Changes.{created, with_copies, new_copy}
use Rattle.steps.specs.declared.Call.{Call}
use Rattle.steps.specs.Kinds.{names, kinds, code, among, argument, call_of}
use Rattle.steps.specs.Stores.{part, contents}
use Rattle.steps.specs.Steps.{accept}
use Rattle.steps.specs.Effects.{State, joined, data_of, read_call}
use Rattle.messages.specs.Messages.{parse}
use Rattle.messages.specs.Run.{whole, Turn, turns_of, end_of}
use Rattle.theorems.specs.Cases.{run_on}
use Rattle.theorems.specs.Witness3.{But, start}
use Rattle.claims.specs.History.{PageWrite, CopyHistory, PageHistory, absent_history, null_history, copy_of, followed, history_after}
use Rattle.claims.specs.OldCopies.{history_over}
use Rattle.claims.specs.Latest.{carries_last, as_copy, Latest, ReadLast, ReadsLast, NoOldCopy}

-- ---- the fields of `Latest`

pub data Field : Type 0 where
  standing : Field
  copies : Field
  current_last : Field
  some_last : Field
  bytes : Field

abbrev pub place : Field → ℕ
place standing = 0
place copies = 1
place current_last = 2
place some_last = 3
place bytes = 4

-- a page's history, the joined stores and the page's record
pub record Beside : Type 0 where
  pub history : PageHistory
  pub stores : List ℕ
  pub page : Page

module _ (w : Beside) where
  abbrev h : PageHistory
  h = w.history

  abbrev pub Says : Field → Type 0
  Says standing = absent w.page ≡ not h.stands
  Says copies = copies_in_use w.page ≡ map (as_copy h) h.copies
  Says current_last = all (λ (c : CopyHistory). not c.current || carries_last h c) h.copies ≡ true
  Says some_last = h.stands ≡ true → 1 ≤ count (carries_last h) h.copies
  Says bytes = Each (λ (c : CopyHistory). contents w.stores (as_copy h c) ≡ c.carries.bytes) h.copies

  -- they are what `Latest` says
  pub field_of : Latest h w.stores w.page → (i : Field) → Says i
  field_of a standing = a.standing
  field_of a copies = a.copies
  field_of a current_last = a.current_last
  field_of a some_last = a.some_last
  field_of a bytes = a.bytes

  pub of_fields : ((i : Field) → Says i) → Latest h w.stores w.page
  of_fields k =
      record {
        standing = k standing;
        copies = k copies;
        current_last = k current_last;
        some_last = k some_last;
        bytes = k bytes;
      }

pub each : (X : Field → Type 0) → X standing → X copies → X current_last → X some_last → X bytes → (i : Field) → X i
each X a b c d e standing = a
each X a b c d e copies = b
each X a b c d e current_last = c
each X a b c d e some_last = d
each X a b c d e bytes = e

-- ---- two copies, of which the second is stale

-- message number n, after which the page's first byte is b and the others are 0
abbrev pub writing : ℕ → ℕ → PageWrite
writing n b = record { message = n; bytes = b ∷ replicate 63 0 }

abbrev pub copy_with : ℕ → Bool → PageWrite → CopyHistory
copy_with f current w = record { frame = f; current = current; carries = w }

-- a page with two copies and the last write to it: its history, and its record
abbrev pub history_of : CopyHistory → CopyHistory → PageWrite → PageHistory
history_of c c' w = record { stands = true; copies = c ∷ c' ∷ []; last = w }

abbrev pub record_of : Copy → Copy → Page
record_of c c' = with_copies (created 3) 2 (set (set (replicate 8 fresh_copy) 0 c) 1 c')

-- the joined stores, where the first bytes of frames 0 and 1 are a and b, and the others 0
abbrev pub stores_of : ℕ → ℕ → List ℕ
stores_of a b = (a ∷ replicate 63 0) ++ (b ∷ replicate 63 0)

abbrev pub marked : ℕ → Bool → Bool → Copy
marked f current recent = record { frame = f; current = current; recent = recent }

abbrev pub right : Beside
right = record {
  history = history_of (copy_with 0 true (writing 6 9)) (copy_with 1 false (writing 4 8)) (writing 6 9);
  stores = stores_of 9 8;
  page = record_of (marked 0 true true) (new_copy 1 false);
}

-- Station 3 creates page 5, which is copied to frame 0 and set current; it writes an 8, the page is copied to frame 1,
-- and it writes a 9.
abbrev pub file₅ : List ℕ
file₅ =
    (0 ∷ 4 ∷ 1 ∷ 1 ∷ 3 ∷ 5 ∷ []) ++ (0 ∷ 5 ∷ 1 ∷ 6 ∷ 5 ∷ 0 ∷ 0 ∷ []) ++ (0 ∷ 4 ∷ 1 ∷ 8 ∷ 5 ∷ 0 ∷ [])
    ++ (0 ∷ 6 ∷ 1 ∷ 5 ∷ 3 ∷ 5 ∷ 0 ∷ 8 ∷ []) ++ (0 ∷ 5 ∷ 1 ∷ 6 ∷ 5 ∷ 0 ∷ 1 ∷ [])
    ++ (0 ∷ 6 ∷ 1 ∷ 5 ∷ 3 ∷ 5 ∷ 0 ∷ 9 ∷ [])

-- what these messages come to, and it is as `Latest` says
pub right_history : history_over 5 1 (run_on start file₅).turns absent_history ≡ right.history
unfolding run_on history_over history_after followed
right_history = refl

pub right_stores : joined (run_on start file₅).final ≡ right.stores
unfolding run_on
right_stores = refl

pub right_page : page_at (run_on start file₅).final.tables 5 ≡ right.page
unfolding run_on
right_page = refl

pub right_fits : (i : Field) → Says right i
unfolding all count part
right_fits = each (Says right) refl refl refl (λ _. omega arith) (refl, (refl, tt))

-- ---- each field alone

abbrev pub wrong : Field → Beside
-- a page that stands in the tables alone
wrong standing = record {
  history = record { stands = false; copies = right.history.copies; last = writing 6 9 };
  stores = stores_of 9 8;
  page = right.page;
}
-- the stale copy marked MOST RECENT
wrong copies = record {
  history = right.history;
  stores = stores_of 9 8;
  page = record_of (marked 0 true true) (new_copy 1 true);
}
-- the stale copy set current
wrong current_last = record {
  history = history_of (copy_with 0 true (writing 6 9)) (copy_with 1 true (writing 4 8)) (writing 6 9);
  stores = stores_of 9 8;
  page = record_of (marked 0 true true) (marked 1 true false);
}
-- a write that no copy took
wrong some_last = record {
  history = history_of (copy_with 0 false (writing 6 9)) (copy_with 1 false (writing 4 8)) (writing 7 7);
  stores = stores_of 9 8;
  page = record_of (new_copy 0 false) (new_copy 1 false);
}
-- another byte in the stale copy
wrong bytes = record { history = right.history; stores = stores_of 9 7; page = right.page }

-- field j of what is wrong in field i: ruled out by its own field, and by no other
abbrev pub Row : Field → Field → Type 0
Row i j = But (eqb (place i) (place j)) (Says (wrong i) j)

pub alone : (i j : Field) → Row i j
unfolding all count part
alone standing =
    each (Row standing) (λ e. false≢true e) refl refl (λ e. absurd (false≢true e)) (refl, (refl, tt))
alone copies =
    each (Row copies) refl (λ e. true≢false (ap (λ (cs : List Copy). (get_or cs 1 fresh_copy).recent) e)) refl
    (λ _. omega arith) (refl, (refl, tt))
alone current_last = each (Row current_last) refl refl (λ e. false≢true e) (λ _. omega arith) (refl, (refl, tt))
alone some_last = each (Row some_last) refl refl refl (λ k. omega (arith, k refl)) (refl, (refl, tt))
alone bytes =
    each (Row bytes) refl refl refl (λ _. omega arith)
    (λ k. false≢true (ap (λ (l : List ℕ). eqb (get_or l 0 0) 8) k.1.0))

-- ---- the fields of `ReadLast`

-- the copy is among the page's, since it is current
pub one_of_follows : (h : PageHistory) (from : ℕ) → (copy_of h from).current ≡ true → from < length h.copies
one_of_follows h from is = go (ltb from (length h.copies)) refl
  where
    go : (b : Bool) → ltb from (length h.copies) ≡ b → from < length h.copies
    go true e = ltb-true from (length h.copies) e
    go false e =
        let none = get_or-eq_default h.copies null_history (ltb-false from (length h.copies) e) in
        absurd (false≢true (ap (λ (c : CopyHistory). c.current) (sym none) ∙ is))

-- the other four
pub data Part : Type 0 where
  is_current : Part
  shown : Part
  carries_last_write : Part
  latest : Part

abbrev pub part_place : Part → ℕ
part_place is_current = 0
part_place shown = 1
part_place carries_last_write = 2
part_place latest = 3

-- a read: what it finds, and what it shows
pub record Reading : Type 0 where
  pub history : PageHistory
  pub turn : Turn
  pub call : Call

abbrev pub ReadsSo : Reading → Type 0
ReadsSo w = ReadLast w.history w.turn w.call

module _ (w : Reading) where
  -- of the copy that the bytes come from
  abbrev pub Tells : ℕ → Part → Type 0
  Tells from is_current = (copy_of w.history from).current ≡ true
  Tells from shown =
      data_of w.turn.outcome
      ≡ part (contents (joined w.turn.found) (as_copy w.history (copy_of w.history from))) w.call.offset
      w.call.count
  Tells from carries_last_write = (copy_of w.history from).carries ≡ w.history.last
  Tells from latest =
      data_of w.turn.outcome ≡ part w.history.last.bytes w.call.offset w.call.count

  -- they are what `ReadLast` says
  pub part_of : (r : ReadsSo w) (i : Part) → Tells r.from i
  part_of r is_current = r.is_current
  part_of r shown = r.shown
  part_of r carries_last_write = r.carries_last_write
  part_of r latest = r.latest

  pub of_parts : (from : ℕ) → ((i : Part) → Tells from i) → ReadsSo w
  of_parts from k =
      record {
        from = from;
        one_of = one_of_follows w.history from (k is_current);
        is_current = k is_current;
        shown = k shown;
        carries_last_write = k carries_last_write;
        latest = k latest;
      }

pub each_part : (X : Part → Type 0) → X is_current → X shown → X carries_last_write → X latest → (i : Part) → X i
each_part X a b c d is_current = a
each_part X a b c d shown = b
each_part X a b c d carries_last_write = c
each_part X a b c d latest = d

-- Station 3 reads the first byte of page 5, which has one copy, on frame 0; the frame has the byte a there, and b is
-- shown.
abbrev pub reading : CopyHistory → PageWrite → ℕ → ℕ → Reading
reading c w a b =
    let s : State = record { tables = fresh_tables 1 1; fast = a ∷ replicate 63 0; slow = replicate 64 0 } in
    record {
      history = record { stands = true; copies = c ∷ []; last = w };
      turn = record {
        found = s;
        sent = whole (1 ∷ 4 ∷ 3 ∷ 5 ∷ 0 ∷ 1 ∷ []);
        outcome = accept (record { state = s; moved = false; laid = 0; data_out = b ∷ [] });
      };
      call = read_call 3 5 0 1;
    }

abbrev pub wrong_read : Part → Reading
-- from a copy that is not current
wrong_read is_current = reading (copy_with 0 false (writing 6 9)) (writing 6 9) 9 9
-- not the byte of that frame
wrong_read shown = reading (copy_with 0 true (writing 6 9)) (writing 6 9) 8 9
-- from a copy that took an earlier write, of the same byte
wrong_read carries_last_write = reading (copy_with 0 true (writing 4 9)) (writing 6 9) 9 9
-- not the byte that was written last
wrong_read latest = reading (copy_with 0 true (writing 6 9)) (writing 6 9) 8 8

abbrev pub PartRow : Part → Part → Type 0
PartRow i j = But (eqb (part_place i) (part_place j)) (Tells (wrong_read i) 0 j)

pub part_alone : (i j : Part) → PartRow i j
unfolding part names code argument call_of
part_alone is_current = each_part (PartRow is_current) (λ e. false≢true e) refl refl refl
part_alone shown =
    each_part (PartRow shown) refl (λ e. true≢false (ap (λ (l : List ℕ). eqb (get_or l 0 0) 9) e)) refl refl
part_alone carries_last_write =
    each_part (PartRow carries_last_write) refl refl (λ e. omega (arith, ap (λ (w : PageWrite). w.message) e)) refl
part_alone latest =
    each_part (PartRow latest) refl refl refl (λ e. true≢false (ap (λ (l : List ℕ). eqb (get_or l 0 0) 8) e))

-- there is no other copy that the bytes could be from
pub read_ruled : (i : Part) → ReadsSo (wrong_read i) → ⊥
read_ruled =
    each_part (λ i. ReadsSo (wrong_read i) → ⊥) (λ r. part_alone is_current is_current (at is_current r refl))
    (λ r. part_alone shown shown (at shown r refl))
    (λ r. part_alone carries_last_write carries_last_write (at carries_last_write r refl))
    (λ r. part_alone latest latest (at latest r refl))
  where
    at : (i : Part) (r : ReadsSo (wrong_read i)) → length (wrong_read i).history.copies ≡ 1 → Tells (wrong_read i) 0 i
    at i r e = subst (λ n. Tells (wrong_read i) n i) (omega (arith, r.one_of)) (part_of (wrong_read i) r i)

-- and each is a read that the theorem speaks of
pub reads_ruled : (i : Part) → ReadsLast 5 (wrong_read i).history (wrong_read i).turn → ⊥
unfolding parse names kinds code among argument call_of
reads_ruled =
    each_part (λ i. ReadsLast 5 (wrong_read i).history (wrong_read i).turn → ⊥)
    (λ k. read_ruled is_current (k (read_call 3 5 0 1) refl refl refl refl))
    (λ k. read_ruled shown (k (read_call 3 5 0 1) refl refl refl refl))
    (λ k. read_ruled carries_last_write (k (read_call 3 5 0 1) refl refl refl refl))
    (λ k. read_ruled latest (k (read_call 3 5 0 1) refl refl refl refl))

-- ---- the borders of `NoOldCopy`

-- no frame, no byte of a store, no message and a reply buffer of no byte
pub latest_at_0 : NoOldCopy → Latest absent_history [] (page_at (fresh_tables 0 0) 0)
unfolding turns_of end_of
latest_at_0 k = k 0 0 0 0 [] [] [] (omega arith) (omega arith) refl refl (omega arith)

-- the last page, and as many frames as there can be
pub latest_at_127 : NoOldCopy → (fast slow : List ℕ) → length fast ≡ 8128 → length slow ≡ 8128
    → Latest absent_history (fast ++ slow) (page_at (fresh_tables 127 127) 63)
unfolding turns_of end_of
latest_at_127 k fast slow e f = k 127 127 70 63 fast slow [] (omega arith) (omega arith) e f (omega arith)
