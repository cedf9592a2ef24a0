-- The claims of source document 001: for each field of `CopiesAgree` and of `Secure` a wrong page or turn that this
-- field rules out and no other does, or the law by which it follows from the others; and the borders of `NoteClaims`.
-- Computed.
use Rattle.std.specs.Prelude.{ℕ, zero, suc, ◌≤◌, ◌<◌, ◌≡◌, refl, Bool, true, false, cond, List, [], ◌∷◌, ◌++◌, length, get_or, set, replicate, eqb}
use Rattle.std.proofs.Common.{sym, ap, ◌∙◌, subst, true≢false, arith, get_or-set_other, ne_eqb}
use Rattle.std.proofs.lemmas.Bool.{false≢true}
use Rattle.std.proofs.Math.Bool.{and-false}
use Rattle.std.proofs.Math.Decide.{ℕ_discrete}
use Rattle.tables.specs.declared.Copy.{Copy}
use Rattle.tables.specs.declared.Page.{Page}
use Rattle.tables.specs.Lists.{count}
use Rattle.tables.specs.Model.{null_frame, is_null, copies_in_use, absent, fresh_copy, fresh_page, fresh_tables, zero_page, page_at}
use Rattle.tables.specs.Rules.{is_recent, is_current}
use Rattle.tables.specs.Changes.{created, granted, with_copies, change_to, after}
use Rattle.steps.specs.Kinds.{names, kinds, code, among, argument, call_of}
use Rattle.steps.specs.Stores.{part, contents}
use Rattle.steps.specs.Steps.{refuse, accept, copy_at}
use Rattle.steps.specs.Effects.{State, joined, left}
use Rattle.steps.specs.Promises.{state_of}
use Rattle.messages.specs.Messages.{parse}
use Rattle.messages.specs.Replies.{reply, reply_in}
use Rattle.messages.specs.Run.{whole, Turn}
use Rattle.theorems.specs.Flat.{FlatPage, gone, here}
use Rattle.theorems.specs.Hidden.{run_over}
use Rattle.theorems.specs.Impostors.{Kernel}
use Rattle.theorems.specs.Witness3.{But}
use Rattle.claims.specs.Note.{first_of, seen, data_in, access_in, CopiesAgree, is_entitled, to_modify, to_rule, to_read, SameContents, Secure, Claims, NoteClaims}
use Rattle.claims.specs.WitnessLatest.{record_of, marked, stores_of}

-- ---- the fields of `CopiesAgree`

-- the joined stores, and the record of a page
pub record Stored : Type 0 where
  pub stores : List ℕ
  pub page : Page

-- the copies that f picks hold the same
abbrev pub SameOf : (Copy → Bool) → Stored → Type 0
SameOf f w =
    (i j : ℕ) → i < w.page.n → j < w.page.n → f (copy_at w.page i) ≡ true → f (copy_at w.page j) ≡ true
    → contents w.stores (copy_at w.page i) ≡ contents w.stores (copy_at w.page j)

-- the copies that f picks have the mark m, or do not
abbrev pub Marks : (Copy → Bool) → (Copy → Bool) → Bool → Page → Type 0
Marks f m b g = (i : ℕ) → i < g.n → f (copy_at g i) ≡ true → m (copy_at g i) ≡ b

-- "all CURRENT COPYs of a PAGE must have identical DATA", since they are MOST RECENT
pub current_follows : (w : Stored) → SameOf is_recent w → Marks is_current is_recent true w.page → SameOf is_current w
current_follows w same marks i j l m e f = same i j l m (marks i l e) (marks j m f)

-- the other four; what is said of a null copy is taken apart
pub data Field : Type 0 where
  recent_same : Field
  current_recent : Field
  some_recent : Field
  null_recent : Field
  null_idle : Field

abbrev pub place : Field → ℕ
place recent_same = 0
place current_recent = 1
place some_recent = 2
place null_recent = 3
place null_idle = 4

module _ (w : Stored) where
  abbrev pub Says : Field → Type 0
  Says recent_same = SameOf is_recent w
  Says current_recent = Marks is_current is_recent true w.page
  Says some_recent = absent w.page ≡ false → 1 ≤ count is_recent (copies_in_use w.page)
  Says null_recent = Marks is_null is_recent true w.page
  Says null_idle = Marks is_null is_current false w.page

  -- they are what `CopiesAgree` says
  pub field_of : CopiesAgree w.stores w.page → (i : Field) → Says i
  field_of a recent_same = a.recent_same
  field_of a current_recent = a.current_recent
  field_of a some_recent = a.some_recent
  field_of a null_recent = λ i l z. (a.null_recent i l z).0
  field_of a null_idle = λ i l z. (a.null_recent i l z).1

  pub of_fields : ((i : Field) → Says i) → CopiesAgree w.stores w.page
  of_fields k =
      record {
        recent_same = k recent_same;
        current_same = current_follows w (k recent_same) (k current_recent);
        current_recent = k current_recent;
        some_recent = k some_recent;
        null_recent = λ i l z. (k null_recent i l z, k null_idle i l z);
      }

pub each : (X : Field → Type 0) → X recent_same → X current_recent → X some_recent → X null_recent → X null_idle
    → (i : Field) → X i
each X a b c d e recent_same = a
each X a b c d e current_recent = b
each X a b c d e some_recent = c
each X a b c d e null_recent = d
each X a b c d e null_idle = e

-- a page with two copies, where the first bytes of frames 0 and 1 are 9 and b
abbrev pub two_copies : Copy → Copy → ℕ → Stored
two_copies c c' b = record { stores = stores_of 9 b; page = record_of c c' }

abbrev pub null_copy : Copy
null_copy = marked null_frame false true

abbrev pub wrong : Field → Stored
-- two MOST RECENT copies that differ
wrong recent_same = two_copies (marked 0 true true) (marked 1 false true) 8
-- a stale copy that is CURRENT, of the same bytes
wrong current_recent = two_copies (marked 0 true true) (marked 1 true false) 9
-- no copy that is MOST RECENT
wrong some_recent = two_copies (marked 0 false false) (marked 1 false false) 8
-- a null copy that is stale; one that is CURRENT, beside a copy of zeros
wrong null_recent = two_copies (marked 0 true true) (marked null_frame false false) 8
wrong null_idle =
    record { stores = replicate 128 0; page = record_of (marked 0 true true) (marked null_frame true true) }

-- what is so of both copies is so of every copy
module _ (g : Page) (is : g.n ≡ 2) where
  of_two : (X : ℕ → Type 0) → X 0 → X 1 → (i : ℕ) → i < g.n → X i
  of_two X a b zero l = a
  of_two X a b (suc zero) l = b
  of_two X a b (suc (suc i)) l = absurd (omega arith)

  marks_two : (f m : Copy → Bool) (b : Bool) → (f (copy_at g 0) ≡ true → m (copy_at g 0) ≡ b)
      → (f (copy_at g 1) ≡ true → m (copy_at g 1) ≡ b) → Marks f m b g
  marks_two f m b = of_two (λ i. f (copy_at g i) ≡ true → m (copy_at g i) ≡ b)

  -- if one holds what the other does, all hold the same
  same_two : (f : Copy → Bool) (st : List ℕ) → (f (copy_at g 0) ≡ true → f (copy_at g 1) ≡ true
      → contents st (copy_at g 0) ≡ contents st (copy_at g 1)) → SameOf f (record { stores = st; page = g })
  same_two f st k i j l m = of_two (λ i'. Same i' j) (of_two (Same 0) (λ _ _. refl) k j m)
      (of_two (Same 1) (λ e e'. sym (k e' e)) (λ _ _. refl) j m) i l
    where
      Same : ℕ → ℕ → Type 0
      Same i j = f (copy_at g i) ≡ true → f (copy_at g j) ≡ true → contents st (copy_at g i) ≡ contents st (copy_at g j)

-- what is asked of no copy
never : {A : Type 0} → ◌≡◌ {A = Bool} false true → A
never e = absurd (false≢true e)

-- field j of what is wrong in field i: ruled out by its own field, and by no other
abbrev pub Row : Field → Field → Type 0
Row i j = But (eqb (place i) (place j)) (Says (wrong i) j)

pub alone : (i j : Field) → Row i j
unfolding count part
alone recent_same =
    let g = (wrong recent_same).page in
    each (Row recent_same)
    (λ k. true≢false (ap (λ (l : List ℕ). eqb (get_or l 0 0) 9) (k 0 1 (omega arith) (omega arith) refl refl)))
    (marks_two g refl is_current is_recent true (λ _. refl) (λ _. refl)) (λ _. omega arith)
    (marks_two g refl is_null is_recent true (λ _. refl) (λ _. refl))
    (marks_two g refl is_null is_current false never (λ _. refl))
alone current_recent =
    let g = (wrong current_recent).page in
    each (Row current_recent) (same_two g refl is_recent _ (λ _ e. never e))
    (λ k. false≢true (k 1 (omega arith) refl)) (λ _. omega arith)
    (marks_two g refl is_null is_recent true never never) (marks_two g refl is_null is_current false never never)
alone some_recent =
    let g = (wrong some_recent).page in
    each (Row some_recent) (same_two g refl is_recent _ (λ e _. never e))
    (marks_two g refl is_current is_recent true never never) (λ k. omega (arith, k refl))
    (marks_two g refl is_null is_recent true never never) (marks_two g refl is_null is_current false never never)
alone null_recent =
    let g = (wrong null_recent).page in
    each (Row null_recent) (same_two g refl is_recent _ (λ _ e. never e))
    (marks_two g refl is_current is_recent true (λ _. refl) never) (λ _. omega arith)
    (λ k. false≢true (k 1 (omega arith) refl)) (marks_two g refl is_null is_current false never (λ _. refl))
alone null_idle =
    let g = (wrong null_idle).page in
    each (Row null_idle) (same_two g refl is_recent _ (λ _ _. refl))
    (marks_two g refl is_current is_recent true (λ _. refl) (λ _. refl)) (λ _. omega arith)
    (marks_two g refl is_null is_recent true never (λ _. refl)) (λ k. true≢false (k 1 (omega arith) refl))

-- nor does the field that follows rule one out
pub current_too : (i : Field) → SameOf is_current (wrong i)
unfolding part
current_too =
    each (λ i. SameOf is_current (wrong i)) (same_two (wrong recent_same).page refl is_current _ (λ _ e. never e))
    (same_two (wrong current_recent).page refl is_current _ (λ _ _. refl))
    (same_two (wrong some_recent).page refl is_current _ (λ e _. never e))
    (same_two (wrong null_recent).page refl is_current _ (λ _ e. never e))
    (same_two (wrong null_idle).page refl is_current _ (λ _ _. refl))

-- a null copy counts as 64 zeros: it agrees with a MOST RECENT copy of zeros, and not with one of another byte
pub null_zeros : SameOf is_recent (record { stores = replicate 128 0; page = record_of (marked 0 true true) null_copy })
    × (SameOf is_recent (two_copies (marked 0 true true) null_copy 0) → ⊥)
unfolding part
null_zeros = (
  same_two (record_of (marked 0 true true) null_copy) refl is_recent _ (λ _ _. refl),
  λ k. false≢true (ap (λ (l : List ℕ). eqb (get_or l 0 0) 0) (k 0 1 (omega arith) (omega arith) refl refl)),
)

-- ---- the fields of `Secure`

pub data Part : Type 0 where
  data_kept : Part
  access_kept : Part
  reply_blind : Part
  read_own : Part

abbrev pub part_place : Part → ℕ
part_place data_kept = 0
part_place access_kept = 1
part_place reply_blind = 2
part_place read_own = 3

-- a kernel, and a turn of it
pub record Answered : Type 0 where
  pub kernel : Kernel
  pub turn : Turn

module _ (w : Answered) where
  abbrev found : State
  found = w.turn.found

  abbrev end : State
  end = left w.turn.found w.turn.outcome

  -- with these stores the reply would be the same
  abbrev pub RepliesSo : List ℕ → List ℕ → Type 0
  RepliesSo fast slow =
      reply_in 70 w.turn.outcome ≡ reply_in 70 (w.kernel (state_of found.tables fast slow) w.turn.sent)

  abbrev pub Tells : Part → Type 0
  Tells data_kept =
      (q : ℕ) → q < 64 → is_entitled to_modify w.turn q ≡ false → data_in (seen end q) ≡ data_in (seen found q)
  Tells access_kept =
      (q : ℕ) → q < 64 → is_entitled to_rule w.turn q ≡ false → access_in (seen end q) ≡ access_in (seen found q)
  Tells reply_blind =
      ((q : ℕ) → q < 64 → is_entitled to_read w.turn q ≡ false) → (fast slow : List ℕ)
      → length found.fast ≡ length fast → length found.slow ≡ length slow → RepliesSo fast slow
  Tells read_own =
      (q : ℕ) → q < 64 → is_entitled to_read w.turn q ≡ true → (fast slow : List ℕ)
      → length found.fast ≡ length fast → length found.slow ≡ length slow
      → SameContents (joined found) (fast ++ slow) (page_at found.tables q) → RepliesSo fast slow

  -- they are what `Secure` says
  pub part_of : Secure w.kernel 70 w.turn → (i : Part) → Tells i
  part_of a data_kept = a.data_kept
  part_of a access_kept = a.access_kept
  part_of a reply_blind = a.reply_blind
  part_of a read_own = a.read_own

  pub of_parts : ((i : Part) → Tells i) → Secure w.kernel 70 w.turn
  of_parts k =
      record {
        data_kept = k data_kept;
        access_kept = k access_kept;
        reply_blind = k reply_blind;
        read_own = k read_own;
      }

pub each_part : (X : Part → Type 0) → X data_kept → X access_kept → X reply_blind → X read_own → (i : Part) → X i
each_part X a b c d data_kept = a
each_part X a b c d access_kept = b
each_part X a b c d reply_blind = c
each_part X a b c d read_own = d

-- ---- wrong kernels

-- With P = S = 1: page 5 is owned by station 3, with right 2, and station 6 has right 0; its first copy, on frame 1, is
-- stale, and the second, on frame 0, is CURRENT.
abbrev pub page₅ : Page
page₅ = granted (record_of (marked 1 false false) (marked 0 true true)) 6 0

-- the first byte of the fast store is b
abbrev pub state_with : Page → ℕ → State
state_with g b =
    record {
      tables = after (fresh_tables 1 1) (change_to 5 g 255);
      fast = b ∷ replicate 63 0;
      slow = replicate 64 8;
    }

abbrev pub found₅ : State
found₅ = state_with page₅ 9

-- accepts every message, and leaves state s
abbrev pub leaving : State → Kernel
leaving s _ _ = accept (record { state = s; moved = true; laid = 0; data_out = [] })

-- accepts every message, leaves all as it is, and shows a byte
abbrev pub telling : (State → ℕ) → Kernel
telling f s _ = accept (record { state = s; moved = false; laid = 0; data_out = f s ∷ [] })

-- message m, answered on state s
abbrev pub answered_on : State → Kernel → List ℕ → Answered
answered_on s k m = record { kernel = k; turn = record { found = s; sent = whole m; outcome = k s (whole m) } }

abbrev pub answered : Kernel → List ℕ → Answered
answered = answered_on found₅

abbrev pub first_fast : State → ℕ
first_fast s = get_or s.fast 0 0

abbrev pub first_slow : State → ℕ
first_slow s = get_or s.slow 0 0

abbrev pub wrong_turn : Part → Answered
-- station 4, which has right 1, writes a byte
wrong_turn data_kept = answered (leaving (state_with page₅ 7)) (1 ∷ 5 ∷ 4 ∷ 5 ∷ 0 ∷ 7 ∷ [])
-- it grants itself right 2
wrong_turn access_kept = answered (leaving (state_with (granted page₅ 4 2) 9)) (1 ∷ 3 ∷ 4 ∷ 5 ∷ 4 ∷ 2 ∷ [])
-- station 6 is shown a byte of the CURRENT copy
wrong_turn reply_blind = answered (telling first_fast) (1 ∷ 4 ∷ 6 ∷ 5 ∷ 0 ∷ 1 ∷ [])
-- the owner is shown a byte of the stale copy
wrong_turn read_own = answered (telling first_slow) (1 ∷ 4 ∷ 3 ∷ 5 ∷ 0 ∷ 1 ∷ [])

-- no page is read by station 6
unread : (q : ℕ) → q < 64 → is_entitled to_read (wrong_turn reply_blind).turn q ≡ false
unfolding parse names kinds code among argument call_of created fresh_tables after
unread q near = go (ℕ_discrete q 5)
  where
    go : Dec (q ≡ 5) → is_entitled to_read (wrong_turn reply_blind).turn q ≡ false
    go (yes e) = subst (λ (n : ℕ). is_entitled to_read (wrong_turn reply_blind).turn n ≡ false) (sym e) refl
    go (no ne) = rw (ne_eqb 5 q (λ e. ne (sym e))) refl

-- other stores, the same access
access_same : (g : Page) (b b' q : ℕ) → access_in (seen (state_with g b) q) ≡ access_in (seen (state_with g b') q)
access_same g b b' q = go (absent page) (held b) (held b')
  where
    page : Page
    page = page_at (state_with g b).tables q

    held : ℕ → List ℕ
    held n = contents (joined (state_with g n)) (first_of is_recent (copies_in_use page))

    owned : List ℕ → FlatPage
    owned l = record { owner = page.owner; rights = page.rights; bytes = l }

    go : (a : Bool) (l l' : List ℕ) → access_in (cond a gone (here (owned l)))
        ≡ access_in (cond a gone (here (owned l')))
    go true l l' = refl
    go false l l' = refl

-- other rights, the same data
data_same : (q : ℕ) → data_in (seen (state_with (granted page₅ 4 2) 9) q) ≡ data_in (seen found₅ q)
unfolding after fresh_tables
data_same q = go (ℕ_discrete q 5)
  where
    X : ℕ → Type 0
    X q = data_in (seen (state_with (granted page₅ 4 2) 9) q) ≡ data_in (seen found₅ q)

    go : Dec (q ≡ 5) → X q
    go (yes e) = subst X (sym e) refl
    go (no ne) =
        rw (
          get_or-set_other (replicate 64 fresh_page) 5 q (granted page₅ 4 2) zero_page ne,
          get_or-set_other (replicate 64 fresh_page) 5 q page₅ zero_page ne,
        ) refl

abbrev pub PartRow : Part → Part → Type 0
PartRow i j = But (eqb (part_place i) (part_place j)) (Tells (wrong_turn i) j)

pub part_alone : (i j : Part) → PartRow i j
unfolding parse names kinds code among argument call_of created fresh_tables after first_of part reply
part_alone data_kept =
    each_part (PartRow data_kept)
    (λ k. false≢true (ap (λ (l : List ℕ). eqb (get_or l 0 0) 9) (k 5 (omega arith) refl)))
    (λ q _ _. access_same page₅ 7 9 q) (λ _ _ _ _ _. refl) (λ _ _ _ _ _ _ _ _. refl)
part_alone access_kept =
    each_part (PartRow access_kept) (λ q _ _. data_same q)
    (λ k. false≢true (ap (λ (l : List (ℕ × List ℕ)). eqb (get_or (get_or l 0 (0, [])).1 4 0) 1)
    (k 5 (omega arith) refl)))
    (λ _ _ _ _ _. refl) (λ _ _ _ _ _ _ _ _. refl)
part_alone reply_blind =
    each_part (PartRow reply_blind) (λ _ _ _. refl) (λ _ _ _. refl)
    (λ k. false≢true (ap (λ (l : List ℕ). eqb (get_or l 6 0) 7) (k unread (replicate 64 7) (replicate 64 7) refl refl)))
    (λ q near e. absurd (false≢true (sym (unread q near) ∙ e)))
part_alone read_own =
    each_part (PartRow read_own) (λ _ _ _. refl) (λ _ _ _. refl)
    (λ k. absurd (true≢false (k 5 (omega arith))))
    (λ k. false≢true (ap (λ (l : List ℕ). eqb (get_or l 6 0) 7)
    (k 5 (omega arith) refl found₅.fast (replicate 64 7) refl refl same)))
  where
    same : SameContents (joined found₅) (found₅.fast ++ replicate 64 7) page₅
    same = of_two page₅ refl (λ i. (copy_at page₅ i).current ≡ true
        → contents (joined found₅) (copy_at page₅ i) ≡ contents (found₅.fast ++ replicate 64 7) (copy_at page₅ i))
        never (λ _. refl)

-- ---- other turns that are ruled out

-- a look at page 5 that shows a byte
abbrev pub told_by_look : Answered
told_by_look = answered (telling first_fast) (1 ∷ 10 ∷ 5 ∷ [])

pub look_ruled : Secure told_by_look.kernel 70 told_by_look.turn → ⊥
unfolding parse names kinds code among argument call_of reply
look_ruled k =
    false≢true (ap (λ (l : List ℕ). eqb (get_or l 6 0) 7)
    (k.reply_blind (λ q _. and-false (eqb 5 q)) (replicate 64 7) (replicate 64 7) refl refl))

-- the owner's read, refused with a number that is a byte of the CURRENT copy
abbrev pub told_by_refusal : Answered
told_by_refusal = answered (λ s _. refuse (first_fast s)) (1 ∷ 4 ∷ 3 ∷ 5 ∷ 0 ∷ 1 ∷ [])

pub refusal_ruled : Secure told_by_refusal.kernel 70 told_by_refusal.turn → ⊥
unfolding reply
refusal_ruled k =
    false≢true (ap (λ (l : List ℕ). eqb (get_or l 3 0) 7)
    (k.reply_blind (λ _ _. refl) (replicate 64 7) (replicate 64 7) refl refl))

-- pages 5 and 6 of station 3, each with a CURRENT copy, on frames 0 and 1; the first byte of frame 1 is b
abbrev pub placed_on : ℕ → Page
placed_on f = with_copies (created 3) 1 (set (replicate 8 fresh_copy) 0 (marked f true true))

abbrev pub two_pages : ℕ → State
two_pages b =
    record {
      tables = after (after (fresh_tables 1 1) (change_to 5 (placed_on 0) 255)) (change_to 6 (placed_on 1) 255);
      fast = replicate 64 0;
      slow = b ∷ replicate 63 0;
    }

-- the owner's write to page 5, laid into page 6
abbrev pub written_elsewhere : Answered
written_elsewhere = answered_on (two_pages 9) (leaving (two_pages 7)) (1 ∷ 5 ∷ 3 ∷ 5 ∷ 0 ∷ 7 ∷ [])

pub elsewhere_ruled : Secure written_elsewhere.kernel 70 written_elsewhere.turn → ⊥
unfolding parse names kinds code among argument call_of fresh_tables after first_of part
elsewhere_ruled k = false≢true (ap (λ (l : List ℕ). eqb (get_or l 0 0) 9) (k.data_kept 6 (omega arith) refl))

-- a delete by station 4, which does not own the page, and a create by it, though the page stands
abbrev pub deleted_by4 : Answered
deleted_by4 = answered (leaving (state_with fresh_page 9)) (1 ∷ 2 ∷ 4 ∷ 5 ∷ [])

abbrev pub created_by4 : Answered
created_by4 = answered (leaving (state_with (created 4) 9)) (1 ∷ 1 ∷ 4 ∷ 5 ∷ [])

-- whether the first byte of a page's data is 9, and whether station 3 owns it
abbrev pub begins_with9 : List ℕ → Bool
begins_with9 l = eqb (get_or l 0 0) 9

abbrev pub owned_by3 : List (ℕ × List ℕ) → Bool
owned_by3 l = eqb (get_or l 0 (0, [])).0 3

pub delete_ruled : (Tells deleted_by4 data_kept → ⊥) × (Tells deleted_by4 access_kept → ⊥)
unfolding parse names kinds code among argument call_of created fresh_page fresh_tables after first_of part
delete_ruled = (
  λ k. false≢true (ap begins_with9 (k 5 (omega arith) refl)),
  λ k. false≢true (ap owned_by3 (k 5 (omega arith) refl)),
)

pub create_ruled : (Tells created_by4 data_kept → ⊥) × (Tells created_by4 access_kept → ⊥)
unfolding parse names kinds code among argument call_of created fresh_tables after first_of part
create_ruled = (
  λ k. false≢true (ap begins_with9 (k 5 (omega arith) refl)),
  λ k. false≢true (ap owned_by3 (k 5 (omega arith) refl)),
)

-- ---- the borders of `NoteClaims`

-- no frame, no byte of a store, no message and a reply buffer of no byte
pub claims_at_0 : NoteClaims → Claims 0 (run_over 0 [] (state_of (fresh_tables 0 0) [] []))
claims_at_0 k = k.of_runs 0 0 0 [] [] [] (omega arith) (omega arith) refl refl

-- a message of no byte after its length, with as many frames as there can be
pub claims_at_127 : NoteClaims → (fast slow : List ℕ) → length fast ≡ 8128 → length slow ≡ 8128
    → Claims 70 (run_over 70 (whole [] ∷ []) (state_of (fresh_tables 127 127) fast slow))
claims_at_127 k fast slow e f = k.of_runs 127 127 70 fast slow (whole [] ∷ []) (omega arith) (omega arith) e f
