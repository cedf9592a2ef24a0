-- What is to be known of a call's plan, from one walk over the kinds. In order: what holds of an outcome if it is
-- accepted; the copies of a page; one plan of each form; the walk; the call on tables that keep the rules.
use Prim.Native.Nat.{ℕ, ◌+◌, ◌*◌, ◌≤◌, ◌<◌, zero-le}
use mathlib.Core.Path.{◌≡◌, refl, sym, ap, subst, ◌∙◌}
use mathlib.Core.Logic.{◌≢◌}
use mathlib.Core.Bool.{Bool, true, false, not, ◌&&◌, ◌||◌, cond, false≢true, true≢false}
use mathlib.Core.List.{List, [], ◌∷◌}
use native.Mathlib.Nat.{add-zero, mul_comm, mul-le-mul}
use native.Mathlib.Omega.{arith}
use lib.ListN.{length}
use lib.Dec.{leb, ltb, eqb}
use borrow.Author.Tests.{ltb-false, leb-false, eqb-true, eqb-false, eq-eqb, lt-ltb, le-leb, lt-leb, not-true, not-false}
use Rattle.tables.specs.declared.Copy.{Copy}
use Rattle.tables.specs.declared.Page.{Page}
use Rattle.tables.specs.declared.Tables.{Tables}
use Rattle.tables.specs.declared.Edit.{Edit}
use Rattle.tables.specs.declared.Edit.TheVariants.{Kept, Created, Deleted, Granted, Staled, Placed, Added, Removed, Marked}
use Rattle.tables.specs.Lists.{all, count, listed}
use Rattle.tables.specs.Numbers.{accepted, out_of_range, page_stands, no_page, no_right, nothing_current, no_copy, frame_held, eight_copies, last_recent, stale, no_frame, retired, message_numbers}
use Rattle.tables.specs.Model.{frames, is_null, copies_in_use, absent, page_at}
use Rattle.tables.specs.Rules.{free, is_current, copy_rule, sound}
use Rattle.tables.specs.Search.{is_free, is_retired}
use Rattle.tables.specs.Register.{registered}
use Rattle.tables.specs.Changes.{changed}
use Rattle.tables.proofs.ListLaws.{and_intro, and_left, and_right, or_left, or_right, all_imp, all_listed, count_le, not_so}
use Rattle.tables.proofs.RuleLaws.{GoodCopy, good_copy, current_placed, StandingPage, copy_at_lem, length_in_use, Sound, sound_of, few_frames, standing_at}
use Rattle.tables.proofs.HolderLaws.{three_shown}
use Rattle.tables.proofs.RegisterLaws.{registered_free}
use Rattle.tables.proofs.Allowed.{FrameOk, RemoveOk, Allowed, MayRetire, retires_none, retires_free}
use Rattle.tables.proofs.UsesLaws.{holders_at}
use Rattle.tables.proofs.PageChanges.{removed_ok, staled_on, marked_on, removed_on, added_on}
use Rattle.steps.specs.declared.Kind.{Kind}
use Rattle.steps.specs.declared.Kind.TheVariants.{Create, DeletePage, Grant, Read, Write, MakeCopy, DeleteCopy, SetCurrent, RemoveCurrent, LookPage, LookFrame, Retire}
use Rattle.steps.specs.declared.Data.{Data}
use Rattle.steps.specs.declared.Data.TheVariants.{Empty}
use Rattle.steps.specs.declared.Act.{Act}
use Rattle.steps.specs.declared.Call.{Call}
use Rattle.steps.specs.declared.Lay.{Lay}
use Rattle.steps.specs.declared.Lay.TheVariants.{Nothing, Zeros, ZerosEach, Duplicate, Spread}
use Rattle.steps.specs.declared.Show.{Show}
use Rattle.steps.specs.declared.Work.{Work}
use Rattle.steps.specs.declared.Work.TheVariants.{Shows, Lays}
use Rattle.steps.specs.Kinds.{offset, bytes, frame, names, tells, is_read, is_retire, code, among, has, least_length}
use Rattle.steps.specs.Calls.{bad_span, outside}
use Rattle.steps.specs.declared.Plan.{Plan}
use Rattle.steps.specs.Steps.{Outcome, refuse, accept, test, guarded, planned, no_work, editing, retiring, showing, laying, clearing, may, owns, is_placed, copy_at, currents, recents, placed_count, first_current, lacks_right, lacks_owner, lacks_copy, copying, perform, decide_on, page_for, view_of, decide}
use Rattle.steps.specs.Data.{copy_marks_valid, each_is, formed}
use Rattle.steps.specs.Effects.{copies_shown, laid_frames, shown_of, bytes_laid, work_data}
use Rattle.steps.specs.Promises.{frame_within, lay_within, show_within, work_within}
use Rattle.steps.proofs.RangeLaws.{NamesNear, span_within, outside_listed, ranged}
use Rattle.steps.proofs.DecisionLaws.{page_near}
use Rattle.steps.proofs.StoreLaws.{length_part, length_frame_part}
use Rattle.steps.proofs.Blocks.{frames_length}
use Rattle.steps.proofs.CopyLaws.{length_shown, shown_marked}
use Rattle.steps.proofs.ClearLaws.{on, Frees, kept_frees, written_frees, made_frees, removed_frees, deleted_frees, created_over, kept_on, granted_on, null_placed}

-- ---- what holds of an outcome if it is accepted

-- and if it is turned back, that is with one of the numbers ns
pub data Comes (ns : List ℕ) {A : Type 0} (P : A → Type 0) : Outcome A → Type 0 where
  if_refused : {n : ℕ} → listed n ns ≡ true → Comes ns P (refuse n)
  if_accepted : {a : A} → P a → Comes ns P (accept a)

-- with a number of the table
abbrev pub IfAccepted : {A : Type 0} → (A → Type 0) → Outcome A → Type 0
IfAccepted P o = Comes message_numbers P o

-- the numbers that a call is turned back with on sound tables with fitting stores
abbrev pub call_numbers : List ℕ
call_numbers =
    out_of_range ∷ page_stands ∷ no_page ∷ no_right ∷ nothing_current ∷ no_copy ∷ frame_held ∷ eight_copies ∷ last_recent ∷ stale ∷ no_frame ∷ retired ∷ []

abbrev pub IfDecided : (Plan → Type 0) → Outcome Plan → Type 0
IfDecided P o = Comes call_numbers P o

-- behind a test
pub past : {ns : List ℕ} {A : Type 0} {P : A → Type 0} {o : Outcome A} (b : Bool) (n : ℕ) → listed n ns ≡ true → (b ≡ false → Comes ns P o)
    → Comes ns P (test b n o)
past true n row h = if_refused row
past false n row h = h refl

-- behind a number that is 0 or one of those
pub past_number : {ns : List ℕ} {A : Type 0} {P : A → Type 0} {o : Outcome A} (n : ℕ) → listed n (accepted ∷ ns) ≡ true → (n ≡ accepted → Comes ns P o)
    → Comes ns P (guarded n o)
past_number {ns} {A} {P} {o} n row h = go (eqb n accepted) refl row
  where
    go : (b : Bool) → eqb n accepted ≡ b → (b || listed n ns) ≡ true → Comes ns P (test (not b) n o)
    go true e row = h (eqb-true n accepted e)
    go false e row = if_refused row

-- behind 9 and 10
module _ {P : Plan → Type 0} {o : Outcome Plan} (g : Page) where
  pub past_nine : (b : Bool) → (absent g ≡ false → b ≡ true → IfDecided P o) → IfDecided P (guarded (cond (absent g) no_page (cond b accepted no_right)) o)
  past_nine b h = go (absent g) b refl refl
    where
      go : (a c : Bool) → absent g ≡ a → b ≡ c → IfDecided P (guarded (cond a no_page (cond c accepted no_right)) o)
      go true c e q = if_refused refl
      go false true e q = h e q
      go false false e q = if_refused refl

  past_owner : (station : ℕ) → (absent g ≡ false → IfDecided P o) → IfDecided P (guarded (lacks_owner g station) o)
  past_owner station h = past_nine (owns g station) (λ some _. h some)

  past_right : (station : ℕ) (act : Act) → (absent g ≡ false → IfDecided P o) → IfDecided P (guarded (lacks_right g station act) o)
  past_right station act h = past_nine (may g station act) (λ some _. h some)

  -- behind 9 and 12
  pub past_copy : (k : ℕ) → (absent g ≡ false → k < g.n → IfDecided P o) → IfDecided P (guarded (lacks_copy g k) o)
  past_copy k h = go (absent g) (leb g.n k) refl refl
    where
      go : (a c : Bool) → absent g ≡ a → leb g.n k ≡ c → IfDecided P (guarded (cond a no_page (cond c no_copy accepted)) o)
      go true c e q = if_refused refl
      go false true e q = if_refused refl
      go false false e q = h e (leb-false g.n k q)

-- what follows from it
pub then_keeps : {ns : List ℕ} {A : Type 0} {P Q : A → Type 0} {o : Outcome A} → ((a : A) → P a → Q a) → Comes ns P o → Comes ns Q o
then_keeps h (if_refused row) = if_refused row
then_keeps h (if_accepted k) = if_accepted (h _ k)

-- the numbers of a call are of the table
pub as_listed : {P : Plan → Type 0} {o : Outcome Plan} → IfDecided P o → IfAccepted P o
unfolding all
as_listed (if_refused {n} row) = if_refused (all_listed (λ (m : ℕ). listed m message_numbers) call_numbers n refl row)
as_listed (if_accepted k) = if_accepted k

-- ---- the copies of a page that stands

module _ {limit : ℕ} where
  -- those that have a frame have it below the limit
  those_within : (those : Copy → Bool) {g : Page} → StandingPage limit g
      → ((c : Copy) → GoodCopy limit g.n c → those c ≡ true → is_null c ≡ false) → all (frame_within those limit) (copies_in_use g) ≡ true
  those_within those {g} s placed_count = all_imp (copy_rule limit g.n) (frame_within those limit) (copies_in_use g) one s.copies_ok
    where
      one : (c : Copy) → copy_rule limit g.n c ≡ true → frame_within those limit c ≡ true
      one c e = go (those c) refl
        where
          go : (u : Bool) → those c ≡ u → not (u && leb limit c.frame) ≡ true
          go true q = let k = good_copy limit g.n c e in ap not (lt-leb limit c.frame (k.placed (placed_count c k q)))
          go false q = refl

  -- the CURRENT ones
  pub currents_within : {g : Page} → StandingPage limit g → all (frame_within is_current limit) (copies_in_use g) ≡ true
  currents_within s = those_within is_current s (λ c k q. current_placed k q)

  -- those that have one
  pub placed_within : {g : Page} → StandingPage limit g → all (frame_within is_placed limit) (copies_in_use g) ≡ true
  placed_within s = those_within is_placed s (λ c k q. not-true (is_null c) q)

  -- one that is not the only MOST RECENT copy has a frame
  pub removed_placed : {g : Page} (s : StandingPage limit g) (k : ℕ) → RemoveOk g k → is_null (copy_at g k) ≡ false
  unfolding changed
  removed_placed s k a =
      not_so _ (λ z.
      let one = (copy_at_lem s k a.in_use).lone z in
      let left = (removed_ok s k a).some in
      omega arith)

  -- the frame of the first, where there is one
  first_low : (cs : List Copy) → all (frame_within is_current limit) cs ≡ true → 1 ≤ count is_current cs → first_current cs < limit
  unfolding all count first_current
  first_low [] e h = absurd (omega arith)
  first_low (c ∷ cs) e h = go c.current (and_left (frame_within is_current limit c) _ e) (first_low cs (and_right (frame_within is_current limit c) _ e)) h
    where
      go : (u : Bool) → not (u && leb limit c.frame) ≡ true → (1 ≤ count is_current cs → first_current cs < limit)
          → 1 ≤ cond u 1 0 + count is_current cs → cond u c.frame (first_current cs) < limit
      go true q k h = leb-false limit c.frame (not-true (leb limit c.frame) q)
      go false q k h = k (omega arith)

-- ---- one plan

-- a frame that a call of kind k names is in range
abbrev pub FrameNear : Tables → Call → Kind → Type 0
FrameNear t c k = (has frame k && leb (frames t) c.frame) ≡ false

-- what is known of the plan of a call of kind k on page g of tables t: its edit is allowed, and what it retires, what
-- it lays and shows fits, and lies within the frames; its data have the form of the kind's, and unless it is a read
-- they are the same whatever the stores hold; it clears the frames that it frees; its reply has at most 35 bytes for
-- each 4 of its message; the frame that it names is in range, and it is retired by that kind alone, where it is not
-- already
pub record PlanOk (t : Tables) (c : Call) (size : ℕ) (k : Kind) (plan : Plan) : Type 0 where
  pub frame_near : FrameNear t c k
  pub allowed : Allowed t (page_for c) plan.edit
  pub may_retire : MayRetire t (page_for c) plan.edit plan.retires
  pub retires_is : plan.retires ≡ cond (is_retire k && not (is_retired (registered t c.frame))) c.frame 255
  pub short : plan.len ≤ 64
  pub paid : 4 * (6 + plan.len) ≤ 35 * (2 + least_length k)
  pub laid_fits : plan.laid ≤ 512
  pub inside : work_within (page_at t (page_for c)) plan.len (frames t) size plan.work ≡ true
  pub shows : (st : List ℕ) → length st ≡ 64 * frames t → length (work_data (page_at t (page_for c)) plan.work plan.len st) ≡ plan.len
  pub as_told : (st : List ℕ) → length st ≡ 64 * frames t
      → formed (tells k) (work_data (page_at t (page_for c)) plan.work plan.len st) ≡ true
  pub hides : is_read k ≡ false → (st st' : List ℕ)
      → work_data (page_at t (page_for c)) plan.work plan.len st ≡ work_data (page_at t (page_for c)) plan.work plan.len st'
  pub laid_is : (bs st : List ℕ) → length bs ≡ size → length st ≡ 64 * frames t
      → plan.laid ≡ bytes_laid (page_at t (page_for c)) plan.work bs st
  pub frees : Frees (frames t) size (page_at t (page_for c)) (changed (page_at t (page_for c)) plan.edit) plan.work

module _ (t : Tables) (c : Call) (size : ℕ) (rules : Sound t)
    (told_free : (f : ℕ) → f < frames t → free t f ≡ is_free (registered t f)) where
  abbrev p : ℕ
  p = page_for c

  abbrev g : Page
  g = page_at t p

  stands : absent g ≡ false → StandingPage (frames t) g
  stands some = standing_at t p rules (page_near c) some

  small : frames t ≤ 254
  small = few_frames rules

  -- so many bytes are what a work lays
  abbrev Exact : ℕ → Work → Type 0
  Exact laid w = (bs st : List ℕ) → length bs ≡ size → length st ≡ 64 * frames t → laid ≡ bytes_laid g w bs st

  -- what a plan of this kind retires
  abbrev Marks : Kind → ℕ → Type 0
  Marks k x = x ≡ cond (is_retire k && not (is_retired (registered t c.frame))) c.frame 255

  module _ (kind : Kind) (far : FrameNear t c kind) where
    -- one that shows nothing
    lay_ok : tells kind ≡ Empty → (e : Edit) (x : ℕ) → Marks kind x → (laid : ℕ) (l : Lay) (f : ℕ) → Allowed t p e → MayRetire t p e x
        → laid ≤ 512 → Exact laid (Lays l f) → work_within g 0 (frames t) size (Lays l f) ≡ true
        → Frees (frames t) size g (changed g e) (Lays l f)
        → IfDecided (PlanOk t c size kind) (planned e x laid 0 (Lays l f))
    unfolding formed
    lay_ok is e x m laid l f a may few exact inside frees =
        if_accepted
        (record {
          frame_near = far;
          allowed = a;
          may_retire = may;
          retires_is = m;
          short = zero-le;
          paid = omega arith;
          laid_fits = few;
          inside = inside;
          shows = λ st l. refl;
          as_told = λ st l. ap (λ (x : Data). formed x []) is;
          hides = λ _ st st'. refl;
          laid_is = exact;
          frees = frees;
        })

    -- one that only changes the tables
    change_ok : tells kind ≡ Empty → (e : Edit) (x : ℕ) → Marks kind x → Allowed t p e → MayRetire t p e x
        → ((f : ℕ) → f < frames t → on f (changed g e) ≡ on f g)
        → IfDecided (PlanOk t c size kind) (planned e x 0 0 no_work)
    unfolding laid_frames
    change_ok is e x m a may same =
        lay_ok is e x m 0 Nothing 255 a may zero-le (λ bs st _ l. refl) refl (kept_frees (frames t) size g (changed g e) no_work refl same)

    edit_ok : tells kind ≡ Empty → (e : Edit) → Marks kind 255 → Allowed t p e → ((f : ℕ) → f < frames t → on f (changed g e) ≡ on f g)
        → IfDecided (PlanOk t c size kind) (editing e)
    edit_ok is e m a same = change_ok is e 255 m a (retires_none t p e) same

    -- one that shows
    show_ok : is_retire kind ≡ false → (len : ℕ) (s : Show) → len ≤ 64 → 4 * (6 + len) ≤ 35 * (2 + least_length kind)
        → show_within len (frames t) s ≡ true
        → ((st : List ℕ) → length st ≡ 64 * frames t → length (shown_of g s len st) ≡ len)
        → ((st : List ℕ) → length (shown_of g s len st) ≡ len → formed (tells kind) (shown_of g s len st) ≡ true)
        → (is_read kind ≡ false → (st st' : List ℕ) → shown_of g s len st ≡ shown_of g s len st')
        → IfDecided (PlanOk t c size kind) (showing len s)
    unfolding changed
    show_ok other len s short paid inside shows form hides =
        let m : Marks kind 255 = rw other in
        if_accepted
        (record {
          frame_near = far;
          allowed = tt;
          may_retire = retires_none t p Kept;
          retires_is = m;
          short = short;
          paid = paid;
          laid_fits = zero-le;
          inside = inside;
          shows = shows;
          as_told = λ st l. form st (shows st l);
          hides = hides;
          laid_is = λ bs st _ l. refl;
          frees = kept_frees (frames t) size g g (Shows s) refl (λ y _. refl);
        })

    -- one that lays, and fills no other frame
    only_ok : tells kind ≡ Empty → (e : Edit) → Marks kind 255 → (laid : ℕ) (l : Lay) → Allowed t p e → laid ≤ 512
        → Exact laid (Lays l 255) → lay_within g (frames t) size l ≡ true → Frees (frames t) size g (changed g e) (Lays l 255)
        → IfDecided (PlanOk t c size kind) (laying e laid l)
    only_ok is e m laid l a few exact inside frees =
        lay_ok is e 255 m laid l 255 a (retires_none t p e) few exact (and_intro inside refl) frees

  -- ---- the walk

  copy_ok : (kind : Kind) → FrameNear t c kind → tells kind ≡ Empty → is_retire kind ≡ false → (k f : ℕ) → k < g.n → f < frames t → free t f ≡ true → absent g ≡ false
      → g.n ≢ 8 → IfDecided (PlanOk t c size kind) (copying (copy_at g k) f)
  unfolding laid_frames
  copy_ok kind far is other k f less low spare some room =
      go (is_null (copy_at g k)) refl (copy_at_lem (stands some) k less).placed
    where
      onto : FrameOk t f
      onto = record { in_range = low; unused = spare }

      go : (z : Bool) → is_null (copy_at g k) ≡ z → (z ≡ false → (copy_at g k).frame < frames t)
          → IfDecided (PlanOk t c size kind) (cond z (laying (Placed f) 64 (Zeros f))
          (laying (Added f (copy_at g k).recent) 64 (Duplicate (copy_at g k).frame f)))
      go true e at =
          only_ok kind far is (Placed f) (rw other) 64 (Zeros f) (record { onto = onto; stands = some }) (omega arith) (λ bs st _ l. refl)
          (lt-ltb f (frames t) low)
          (made_frees (frames t) size g (changed g (Placed f)) f (Zeros f) refl
          (λ y near. null_placed (stands some) k less e f y (omega (arith, small))))
      go false e at =
          only_ok kind far is (Added f _) (rw other) 64 (Duplicate _ f)
          (record { onto = onto; room = omega (arith, (stands some).most); from = k; from_in = less; from_placed = e }) (omega arith)
          (λ bs st _ l.
          let from = at refl in
          let b = length_part st (64 * (copy_at g k).frame) 64 (omega arith) in
          omega arith)
          (and_intro (lt-ltb _ (frames t) (at refl)) (lt-ltb f (frames t) low))
          (made_frees (frames t) size g (changed g (Added f (copy_at g k).recent)) f (Duplicate _ f) refl
          (λ y _. added_on (stands some) f (copy_at g k).recent y (omega (arith, (stands some).most))))

  -- delete copy fills the frame that it frees
  remove_ok : FrameNear t c DeleteCopy → (k : ℕ) → absent g ≡ false → k < g.n → RemoveOk g k
      → IfDecided (PlanOk t c size DeleteCopy) (clearing (Removed k) (copy_at g k).frame)
  unfolding laid_frames tells
  remove_ok far k some less ok =
      let placed_count = removed_placed (stands some) k ok in
      let low = (copy_at_lem (stands some) k less).placed placed_count in
      let one = eqb-false (copy_at g k).frame 255 placed_count in
      lay_ok DeleteCopy far refl (Removed k) 255 refl 64 Nothing (copy_at g k).frame ok (retires_none t p (Removed k)) (omega arith)
      (λ bs st _ l. rw placed_count refl) (rw placed_count (lt-ltb _ (frames t) low))
      (removed_frees (frames t) size g (changed g (Removed k)) (copy_at g k).frame low placed_count (λ f. removed_on (stands some) k f less))

  perform_ok : (k : Kind) → NamesNear c k → FrameNear t c k
      → (has offset k && bad_span c.offset (cond (has bytes k) size c.count)) ≡ false
      → IfDecided (PlanOk t c size k) (perform (view_of t c) c size k)
  unfolding perform shown_of laid_frames names tells code among formed
  perform_ok Create name far span =
      let low = ltb-false 15 c.station (or_left (ltb 15 c.station) _ (or_left (ltb 15 c.station || ltb 63 c.page) _ name)) in
      past (not (absent g)) _ refl (λ none. edit_ok Create far refl (Created c.station) refl (omega arith) (λ f l.
      created_over g (not-false _ none) c.station f (omega (arith, small))))
  perform_ok DeletePage name far span =
      past_owner g c.station (λ some.
      let few = count_le is_placed (copies_in_use g) in
      let most = (stands some).most in
      let long = length_in_use (stands some) in
      let all = frames_length is_placed (copies_in_use g) in
      only_ok DeletePage far refl Deleted refl (64 * placed_count g) ZerosEach tt (omega arith) (λ bs st _ l. omega arith)
      (placed_within (stands some))
      (deleted_frees (frames t) size (omega (arith, small)) g (changed g Deleted) (placed_within (stands some))
      (λ f near. omega (arith, holders_at t f p, rules.once f near))))
  perform_ok Grant name far span =
      let low = ltb-false 2 c.right (or_right (ltb 15 c.other) _ (or_right (ltb 15 c.station || ltb 63 c.page) _ name)) in
      past_owner g c.station (λ some.
      edit_ok Grant far refl (Granted c.other c.right) refl (record { stands = some; low = low }) (λ f _. granted_on g c.other c.right f))
  perform_ok Read name far span =
      past_right g c.station Act.Read (λ some.
      past (eqb (currents g) 0) _ refl (λ e.
      let ne = eqb-false (currents g) 0 e in
      let low = first_low (copies_in_use g) (currents_within (stands some)) (omega arith) in
      let some_bytes = eqb-false c.count 0 (or_left (eqb c.count 0) _ (or_right (ltb 63 c.offset) _ span)) in
      let span = span_within c.offset c.count span in
      show_ok Read far refl c.count (Show.Frame _ c.offset) (omega arith) (omega arith) (and_intro (lt-ltb _ (frames t) low) (le-leb (c.offset + c.count) 64 span))
      (λ st l. length_frame_part st _ c.offset c.count (omega arith) span)
      (λ st l. rw l (and_intro (le-leb 1 c.count (omega arith)) (le-leb c.count 64 (omega arith))))
      (λ e. absurd (true≢false e))))
  perform_ok Write name far span =
      past_right g c.station Act.Write (λ some.
      past (eqb (currents g) 0) _ refl (λ e.
      let ne = eqb-false (currents g) 0 e in
      let span = span_within c.offset size span in
      let few = count_le is_current (copies_in_use g) in
      let most = (stands some).most in
      let long = length_in_use (stands some) in
      only_ok Write far refl Staled refl (size * currents g) (Spread c.offset) (record { stands = some; written = omega arith })
      (mul-le-mul {n₂ = 64} {m₂ = 8} (omega arith) (omega arith))
      (λ bs st b l. rw (frames_length is_current (copies_in_use g), b) (mul_comm size (currents g) ∙ sym (add-zero _)))
      (and_intro (le-leb (c.offset + size) 64 span) (currents_within (stands some)))
      (written_frees (frames t) size g (changed g Staled) c.offset (λ f. staled_on (stands some) f))))
  perform_ok MakeCopy name far span =
      past_copy g c.copy (λ some less. past (is_retired (registered t c.frame)) _ refl (λ kept.
      past (not (is_free (registered t c.frame))) _ refl (λ is. past (eqb g.n 8) _ refl (λ room.
      let low = leb-false (frames t) c.frame far in
      copy_ok MakeCopy far refl refl c.copy c.frame less low (told_free c.frame low ∙ not-false _ is) some (eqb-false g.n 8 room)))))
  perform_ok DeleteCopy name far span =
      past_copy g c.copy (λ some less.
      past ((copy_at g c.copy).recent && eqb (recents g) 1) _ refl (λ last.
      remove_ok far c.copy some less (record { in_use = less; not_last = last })))
  perform_ok SetCurrent name far span =
      past_copy g c.copy (λ some less. past (is_null (copy_at g c.copy)) _ refl (λ full.
      past (not (copy_at g c.copy).recent) _ refl (λ new.
      edit_ok SetCurrent far refl (Marked c.copy true) refl (record { in_use = less; fresh = λ _. not-false _ new; placed = λ _. full })
      (λ f _. marked_on (stands some) c.copy true f less))))
  perform_ok RemoveCurrent name far span =
      past_copy g c.copy (λ some less.
      edit_ok RemoveCurrent far refl (Marked c.copy false) refl (record { in_use = less; fresh = λ e. absurd (false≢true e); placed = λ e. absurd (false≢true e) })
      (λ f _. marked_on (stands some) c.copy false f less))
  perform_ok LookPage name far span =
      past (absent g) _ refl (λ some.
      let least = (stands some).some in
      let most = (stands some).most in
      let long = length_in_use (stands some) in
      let data_long = length_shown (copies_in_use g) in
      show_ok LookPage far refl (1 + 3 * length (copies_in_use g)) Show.Page (omega arith) (omega arith) refl (λ st l. omega arith)
      (λ st l. and_intro (and_intro (le-leb 1 g.n (omega arith)) (le-leb g.n 8 most))
      (and_intro (eq-eqb _ (1 + 3 * g.n) (omega arith)) (subst (λ (n : ℕ). each_is n 3 copy_marks_valid (copies_shown (copies_in_use g)) ≡ true) long (shown_marked (copies_in_use g)))))
      (λ _ st st'. refl))
  perform_ok LookFrame name far span = show_ok LookFrame far refl 3 (Show.Holder _) (omega arith) (omega arith) refl
      (λ st l. three_shown (registered t c.frame)) (λ st l. eq-eqb _ 3 l) (λ _ st st'. refl)
  perform_ok Retire name far span = by (is_retired (registered t c.frame)) refl
    where
      by : (b : Bool) → is_retired (registered t c.frame) ≡ b → IfDecided (PlanOk t c size Retire)
          (cond b (editing Kept) (test (not (is_free (registered t c.frame))) frame_held (retiring c.frame)))
      by true e = edit_ok Retire far refl Kept (rw e) tt (λ f _. kept_on g f)
      by false e =
          past (not (is_free (registered t c.frame))) _ refl (λ is.
          let low = leb-false (frames t) c.frame far in
          change_ok Retire far refl Kept c.frame (rw e) tt
          (retires_free t p c.frame (record { in_range = low; unused = told_free c.frame low ∙ not-false _ is })) (λ f _. kept_on g f))

-- ---- a call on tables that keep the rules

-- 0 or 7 is 0 or a number of a call
pub range_listed : (frames size : ℕ) (c : Call) → listed (outside frames size c) (accepted ∷ call_numbers) ≡ true
range_listed frames size c = outside_listed frames size c (λ (n : ℕ). listed n (accepted ∷ call_numbers) ≡ true) refl refl

pub decide_ok : (t : Tables) (c : Call) (size : ℕ) → sound t ≡ true → IfDecided (PlanOk t c size c.kind) (decide t c size)
unfolding decide_on
decide_ok t c size e =
    past_number (outside (frames t) size c) (range_listed (frames t) size c) (λ z.
    let r = ranged (frames t) size c z in
    perform_ok t c size (sound_of t e) (λ f l. registered_free t f e l) c.kind r.names_in r.frame_in r.span_in)
