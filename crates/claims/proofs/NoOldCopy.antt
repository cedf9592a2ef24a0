-- No old copy becomes current: each message keeps the copies of every page as the page's history tells them. In order:
-- one call; one message; what is said of a state and of a read; the messages of a file.
use Prim.Native.Nat.{ℕ, suc, ◌*◌, ◌≤◌, ◌<◌}
use mathlib.Core.Path.{◌≡◌, refl, sym, ap, ◌∙◌, subst}
use mathlib.Core.Logic.{◌≢◌}
use mathlib.Core.Bool.{Bool, true, false, not, ◌&&◌, ◌||◌, cond, true≢false}
use mathlib.Core.List.{List, [], ◌∷◌, ◌++◌}
use native.Mathlib.Decide.{ℕ_discrete}
use native.Mathlib.Omega.{arith}
use lib.ListN.{length, get_or, take-append-drop, get_or-replicate}
use lib.Dec.{ltb, eqb}
use borrow.Author.Tests.{leb-true, ltb-false, lt-ltb, eqb-false, eq-eqb, ne_eqb}
use Rattle.tables.specs.declared.Copy.{Copy}
use Rattle.tables.specs.declared.Page.{Page}
use Rattle.tables.specs.declared.Tables.{Tables}
use Rattle.tables.specs.Lists.{count}
use Rattle.tables.specs.Numbers.{short_buffer}
use Rattle.tables.specs.Model.{frames, is_null, copies_in_use, absent, fresh_page, fresh_tables, zero_copy, zero_page, page_at}
use Rattle.tables.specs.Rules.{holders, is_current, is_recent}
use Rattle.tables.specs.Changes.{changed, edited, after}
use Rattle.tables.proofs.ListLaws.{and_left, or_left, or_right, all_of, count_miss, count_map}
use Rattle.tables.specs.declared.Edit.TheVariants.{Kept}
use Rattle.tables.specs.Register.{registered}
use Rattle.tables.proofs.RuleLaws.{current_placed, StandingPage, not_absent, length_in_use, copy_at_lem, sound_of, few_frames}
use Rattle.tables.proofs.UsesLaws.{holders_at, holders_two}
use Rattle.tables.proofs.HolderLaws.{free_nobody}
use Rattle.tables.proofs.ChangeLaws.{after_same, after_other}
use Rattle.tables.proofs.ChangeSound.{sound_after}
use Rattle.tables.proofs.EachLaws.{each_of}
use Rattle.tables.proofs.Allowed.{Allowed}
use Rattle.tables.proofs.PageChanges.{removed_ok, removed_on}
use Rattle.steps.specs.declared.Kind.{Kind}
use Rattle.steps.specs.declared.Kind.TheVariants.{Create, DeletePage, Grant, Read, Write, MakeCopy, DeleteCopy, SetCurrent, RemoveCurrent, LookPage, LookFrame, Retire}
use Rattle.steps.specs.declared.Act.TheVariants as Act
use Rattle.steps.specs.declared.Call.{Call}
use Rattle.steps.specs.declared.View.{View}
use Rattle.steps.specs.Kinds.{station, page, names, is_read, code, among, has}
use Rattle.steps.specs.Stores.{part, block, contents, zeros, lay_frames}
use Rattle.steps.specs.declared.Plan.{Plan}
use Rattle.steps.specs.Steps.{Outcome, refuse, accept, test, mapped, copy_at, currents, first_current, page_for, viewing, view_of, rules_number, decide_any}
use Rattle.steps.specs.Effects.{laid_frames, shown_of, stored, work_data, State, joined, Result, carried_out, step, left, data_of}
use Rattle.steps.proofs.KindLaws.{kind_is}
use Rattle.steps.proofs.Blocks.{block_lay_whole, block_lay_other, each_own, each_spared}
use Rattle.steps.proofs.StoreLaws.{length_part}
use Rattle.steps.proofs.ClearLaws.{on, frees_clears}
use Rattle.steps.proofs.RangeLaws.{Ranged}
use Rattle.steps.proofs.DecisionLaws.{page_near}
use Rattle.steps.proofs.DecideLaws.{IfAccepted, if_refused, if_accepted, past_number, PlanOk, currents_within, removed_placed}
use Rattle.steps.proofs.PlanLaws.{Access, Needs, copy_plan, plan_for, Does, decide_does}
use Rattle.steps.proofs.StepLaws.{Good, joined_long, page_stands_lem, rules_listed, Sure, sure, step_good}
use Rattle.messages.specs.Replies.{is_refusal}
use Rattle.messages.specs.Run.{Sent, asked, bytes_of, respond, answer, Turn, turn_of, left_by, turns_of, end_of}
use Rattle.theorems.proofs.Frames.{by_message}
use Rattle.theorems.proofs.Whole.{start_inv}
use Rattle.claims.specs.History.{PageWrite, PageHistory, null_history, absent_history, copy_of, copied_to, followed, is_of, followed_in, history_after}
use Rattle.claims.specs.Latest.{next_history, Along, carries_last, as_copy, Latest, ReadLast, ReadsLast, NoOldCopy}
use Rattle.claims.specs.Note.{first_of}
use Rattle.claims.proofs.History.{Told, told_absent, told_begun, told_same, absent_long, copies_long, used_told, copy_told, good_told, held_told, aged_told, told_stored, told_written, told_marked, told_removed, told_placed, told_added}

-- ---- one call

-- what is known of an accepted call's plan
pub record Known (s : State) (c : Call) (bs : List ℕ) (plan : Plan) : Type 0 where
  pub good : Good s
  pub plan_ok : PlanOk s.tables c (length bs) c.kind plan
  pub does : Does (view_of s.tables c) c (length bs) c.kind plan
  pub in_range : Ranged (frames s.tables) (length bs) c

pub known : (s : State) (c : Call) (bs : List ℕ)
    → IfAccepted (Known s c bs) (decide_any s.tables (length s.fast) (length s.slow) c (length bs))
known s c bs =
    both _ (sure s c bs)
    (past_number (rules_number s.tables (length s.fast) (length s.slow))
    (rules_listed s.tables (length s.fast) (length s.slow))
    (λ _. decide_does (view_of s.tables c) c (length bs)))
  where
    both : (o : Outcome Plan) → IfAccepted (Sure s c bs) o
        → IfAccepted (λ (plan : Plan). Does (view_of s.tables c) c (length bs) c.kind plan
        × Ranged (frames s.tables) (length bs) c) o
        → IfAccepted (Known s c bs) o
    both (refuse n) (if_refused row) k = if_refused row
    both (accept plan) (if_accepted u) (if_accepted k) =
        if_accepted (record { good = u.good; plan_ok = u.plan_ok; does = k.0; in_range = k.1 })

-- what a message comes to: refused, or a call that is accepted
pub data Came (s : State) (x : Sent) : Outcome Result → Type 0 where
  was_refused : {n : ℕ} → Came s x (refuse n)
  was_accepted : (c : Call) (plan : Plan) → asked x ≡ accept c → Known s c (bytes_of x) plan
      → Came s x (accept (carried_out s c (bytes_of x) plan))

pub came : (room : ℕ) (s : State) (x : Sent) → Came s x (answer room s x)
unfolding answer step
came room s x = behind (ltb room 70) (asked x) refl
  where
    by : (c : Call) → asked x ≡ accept c → (o : Outcome Plan) → IfAccepted (Known s c (bytes_of x)) o
        → Came s x (mapped (carried_out s c (bytes_of x)) o)
    by c is (refuse n) k = was_refused
    by c is (accept plan) (if_accepted u) = was_accepted c plan is u

    behind : (b : Bool) (a : Outcome Call) → asked x ≡ a → Came s x (test b short_buffer (respond s a (bytes_of x)))
    behind true a is = was_refused
    behind false (refuse n) is = was_refused
    behind false (accept c) is = by c is _ (known s c (bytes_of x))

module _ (s : State) (c : Call) (bs : List ℕ) (plan : Plan) (u : Known s c bs plan) where
  abbrev t : Tables
  t = s.tables

  abbrev p : ℕ
  p = page_for c

  abbrev g : Page
  g = page_at t p

  abbrev st' : List ℕ
  st' = stored g plan.work bs (joined s)

  abbrev t' : Tables
  t' = after t (edited t p plan.edit plan.retires)

  pages : p < length t.pages
  pages = rw (sound_of t u.good.tables_sound).paged.pages_long (page_near c)

  -- a frame of another page keeps its bytes: this page has it neither before nor after
  others_kept : (q : ℕ) → q ≢ p → (y : ℕ) → y < frames t → 1 ≤ on y (page_at t q) → block st' y ≡ block (joined s) y
  unfolding after
  others_kept q ne y low used =
      let ok = u.plan_ok in
      let one = (sound_of t u.good.tables_sound).once y low in
      let two = holders_two t y p q (λ e. ne (sym e)) in
      let none : on y g ≡ 0 = omega arith in
      let rules = sound_after t p plan.edit plan.retires (page_near c) u.good.tables_sound ok.allowed
      ok.may_retire in
      let one' : holders t' y ≤ 1 = (sound_of t' rules).once y low in
      let two' = holders_two t' y p q (λ e. ne (sym e)) in
      let own = ap (on y) (after_same t p plan.edit plan.retires pages) in
      let other = ap (on y) (after_other t p plan.edit plan.retires q ne) in
      let none' : on y (changed g plan.edit) ≡ 0 = omega arith in
      frees_clears (frames t) plan.len (length bs) g (changed g plan.edit) plan.work ok.inside
      ok.frees bs (joined s) refl
      (joined_long u.good) y low none'
      ∙ rw (eq-eqb (on y g) 0 none)

  -- ---- the page that it acts on

  module _ (n : ℕ) (h : PageHistory) (told : Told n h (joined s) g) where
    stands : absent g ≡ false → StandingPage (frames t) g
    stands some = page_stands_lem u.good p (page_near c) some

    long : length (joined s) ≡ 64 * frames t
    long = joined_long u.good

    once : (y : ℕ) → y < frames t → on y g ≤ 1
    once y low = omega (arith, (sound_of t u.good.tables_sound).once y low, holders_at t y p)

    -- what is planned, for each kind
    abbrev Follows : Kind → Type 0
    Follows k =
        let w = plan_for (view_of t c) c (length bs) k in
        Told (suc n) (followed k n c bs h) (stored g w.work bs (joined s)) (changed g w.edit)

    kept_told : Told (suc n) h (joined s) g
    kept_told = told_same told refl refl told.bytes

    write_told : PlanOk t c (length bs) Write (plan_for (view_of t c) c (length bs) Write) → absent g ≡ false
        → Follows Write
    unfolding followed laid_frames lay_frames
    write_told ok some =
        let d = stands some in
        let in_page = leb-true _ 64 (and_left _ _ (and_left _ _ ok.inside)) in
        told_written d told c.offset bs _ once
        (λ y low cur.
        each_own is_current (frames t) c.offset bs in_page (copies_in_use g) (joined s) long (currents_within d) y
        (once y low) cur)
        (λ y low none. each_spared is_current (frames t) c.offset bs in_page (copies_in_use g) (joined s) long
        (currents_within d) y none)

    copy_made : PlanOk t c (length bs) MakeCopy (plan_for (view_of t c) c (length bs) MakeCopy) → absent g ≡ false
        → c.copy < g.n
        → Follows MakeCopy
    unfolding followed laid_frames lay_frames
    copy_made ok some less = go (is_null k) refl ok.allowed
      where
        k : Copy
        k = copy_at g c.copy

        d : StandingPage (frames t) g
        d = stands some

        small : frames t < 255
        small = omega (arith, few_frames (sound_of t u.good.tables_sound))

        go : (z : Bool) → is_null k ≡ z → Allowed t p (copy_plan k c.frame z).edit
            → Told (suc n) (copied_to c.copy c.frame h) (stored g (copy_plan k c.frame z).work bs (joined s))
            (changed g (copy_plan k c.frame z).edit)
        go true z a =
            let low = a.onto.in_range in
            let unused = free_nobody t c.frame a.onto.unused in
            let null : eqb (copy_of h c.copy).frame 255 ≡ true = ap is_null (sym (copy_told d told c.copy less))
            ∙ z in
            told_placed d told c.copy less c.frame low small (omega (arith, unused, holders_at t c.frame p)) _
            (block_lay_whole (joined s) c.frame (omega (arith, long)) zeros refl
            ∙ rw null at (held_told d told c.copy less))
            (λ y l ne. block_lay_other (joined s) c.frame (omega (arith, long)) 0 zeros (omega arith) y ne) z
        go false z a =
            let low = a.onto.in_range in
            let unused = free_nobody t c.frame a.onto.unused in
            let is = copy_told d told c.copy less in
            let from = (copy_at_lem d c.copy less).placed z in
            let framed : eqb (copy_of h c.copy).frame 255 ≡ false = ap is_null (sym is) ∙ z in
            let wide = length_part (joined s) (64 * k.frame) 64 (omega (arith, long)) in
            told_added d told c.copy less c.frame low small (omega (arith, unused, holders_at t c.frame p)) _
            (block_lay_whole (joined s) c.frame (omega (arith, long)) (block (joined s) k.frame) wide
            ∙ ap (λ (x : Copy). block (joined s) x.frame) is ∙ rw framed at (held_told d told c.copy less))
            (λ y l ne. block_lay_other (joined s) c.frame (omega (arith, long)) 0 (block (joined s) k.frame)
            (omega arith) y ne)
            z a.room

    copy_deleted : PlanOk t c (length bs) DeleteCopy (plan_for (view_of t c) c (length bs) DeleteCopy) → absent g ≡ false
        → c.copy < g.n → Follows DeleteCopy
    unfolding followed laid_frames lay_frames
    copy_deleted ok some less =
        let d = stands some in
        let a = ok.allowed in
        let d' = removed_ok d c.copy a in
        let x = (copy_at g c.copy).frame in
        let placed = removed_placed d c.copy a in
        let low = (copy_at_lem d c.copy less).placed placed in
        let old = told_removed d told c.copy less (not_absent d') in
        rw placed
        (told_stored d' old _ (λ y l used.
        block_lay_other (joined s) x (omega (arith, long)) 0 zeros (omega arith) y (λ e.
        omega (arith, used, once y l, rw (eq-eqb x y e) at (removed_on d c.copy y less)))))

    by_kind : (k : Kind) → PlanOk t c (length bs) k (plan_for (view_of t c) c (length bs) k) → Needs g c k → Follows k
    unfolding followed changed fresh_page laid_frames lay_frames
    by_kind Create ok none = told_begun n c.station (joined s) g
    by_kind DeletePage ok need = told_absent n _ fresh_page refl
    by_kind Grant ok need = told_same told refl refl told.bytes
    by_kind Read ok need = kept_told
    by_kind Write ok need = write_told ok need.0
    by_kind MakeCopy ok need = copy_made ok need.0 need.1
    by_kind DeleteCopy ok need = copy_deleted ok need.0 need.1
    by_kind SetCurrent ok need = told_marked (stands need.0) told c.copy need.1 true
    by_kind RemoveCurrent ok need = told_marked (stands need.0) told c.copy need.1 false
    by_kind LookPage ok need = kept_told
    by_kind LookFrame ok need = kept_told
    by_kind Retire ok need = kept_told

    page_follows : Told (suc n) (followed c.kind n c bs h) st' (changed g plan.edit)
    page_follows =
        subst (λ (w : Plan).
        Told (suc n) (followed c.kind n c bs h) (stored g w.work bs (joined s)) (changed g w.edit))
        (sym u.does.plan_is)
        (by_kind c.kind (subst (PlanOk t c (length bs) c.kind) u.does.plan_is u.plan_ok) u.does.needs)

-- a kind that names no page tells nothing of one
pageless : (k : Kind) → has page k ≡ false → (n : ℕ) (c : Call) (bs : List ℕ) (h : PageHistory)
    → followed k n c bs h ≡ h
unfolding followed names among code
pageless Create e n c bs h = absurd (true≢false e)
pageless DeletePage e n c bs h = absurd (true≢false e)
pageless Grant e n c bs h = refl
pageless Read e n c bs h = refl
pageless Write e n c bs h = absurd (true≢false e)
pageless MakeCopy e n c bs h = absurd (true≢false e)
pageless DeleteCopy e n c bs h = absurd (true≢false e)
pageless SetCurrent e n c bs h = absurd (true≢false e)
pageless RemoveCurrent e n c bs h = absurd (true≢false e)
pageless LookPage e n c bs h = refl
pageless LookFrame e n c bs h = refl
pageless Retire e n c bs h = refl

-- the page that an accepted call names is the one that it acts on
pub page_named : (s : State) (c : Call) (bs : List ℕ) (plan : Plan) → Known s c bs plan → has page c.kind ≡ true
    → c.page ≡ page_for c
page_named s c bs plan u e =
    let no = or_right (has station c.kind && ltb 15 c.station) _ (or_left _ _ u.in_range.names_in) in
    let low = ltb-false 63 c.page (rw e at no) in
    rw (lt-ltb c.page 64 (omega arith))

-- a kind that names no page leaves every record as it was
pageless_keeps : (k : Kind) → has page k ≡ false → (v : View) (c : Call) (size : ℕ) → (plan_for v c size k).edit ≡ Kept
unfolding names among code
pageless_keeps Create e v c size = absurd (true≢false e)
pageless_keeps DeletePage e v c size = absurd (true≢false e)
pageless_keeps Grant e v c size = absurd (true≢false e)
pageless_keeps Read e v c size = refl
pageless_keeps Write e v c size = absurd (true≢false e)
pageless_keeps MakeCopy e v c size = absurd (true≢false e)
pageless_keeps DeleteCopy e v c size = absurd (true≢false e)
pageless_keeps SetCurrent e v c size = absurd (true≢false e)
pageless_keeps RemoveCurrent e v c size = absurd (true≢false e)
pageless_keeps LookPage e v c size = refl
pageless_keeps LookFrame e v c size = refl
pageless_keeps Retire e v c size = refl

-- what call c looks at, with the record of page q
abbrev pub view_at : State → ℕ → Call → View
view_at s q c = viewing s.tables.shared (page_at s.tables q) (registered s.tables c.frame)

-- the record of page q after an accepted call
module _ (s : State) (c : Call) (bs : List ℕ) (plan : Plan) (u : Known s c bs plan) (q : ℕ) where
  abbrev left_record : Page
  left_record = page_at (after s.tables (edited s.tables (page_for c) plan.edit plan.retires)) q

  own_record : q ≡ page_for c
      → left_record ≡ changed (page_at s.tables q) (plan_for (view_at s q c) c (length bs) c.kind).edit
  own_record e =
      let t = s.tables in
      let p = page_for c in
      subst (λ (i : ℕ). page_at (after t (edited t p plan.edit plan.retires)) i
      ≡ changed (page_at t i) (plan_for (view_at s i c) c (length bs) c.kind).edit) (sym e)
      (after_same t p plan.edit plan.retires (pages s c bs plan u)
      ∙ ap (λ (w : Plan). changed (page_at t p) w.edit) u.does.plan_is)

  pub record_left : left_record
      ≡ cond (is_of q c) (changed (page_at s.tables q) (plan_for (view_at s q c) c (length bs) c.kind).edit)
      (page_at s.tables q)
  unfolding changed
  record_left = go (has page c.kind) refl (ℕ_discrete q (page_for c))
    where
      g' : Page
      g' = changed (page_at s.tables q) (plan_for (view_at s q c) c (length bs) c.kind).edit

      go : (b : Bool) → has page c.kind ≡ b → Dec (q ≡ page_for c)
          → left_record ≡ cond (b && eqb c.page q) g' (page_at s.tables q)
      go true e (yes same) = rw (eq-eqb c.page q (page_named s c bs plan u e ∙ sym same)) (own_record same)
      go true e (no ne) =
          rw (ne_eqb c.page q (λ z. ne (sym z ∙ page_named s c bs plan u e)))
          (after_other s.tables (page_for c) plan.edit plan.retires q ne)
      go false e (yes same) =
          own_record same
          ∙ ap (changed (page_at s.tables q)) (pageless_keeps c.kind e (view_at s q c) c (length bs))
      go false e (no ne) = after_other s.tables (page_for c) plan.edit plan.retires q ne

module _ (q : ℕ) (near : q < 64) (n : ℕ) (h : PageHistory) (s : State) (good : Good s)
    (told : Told n h (joined s) (page_at s.tables q)) where
  -- page q beside its history in a state
  abbrev ToldIn : PageHistory → State → Type 0
  ToldIn h' s' = Told (suc n) h' (joined s') (page_at s'.tables q)

  same_told : ToldIn h s
  same_told = told_same told refl refl told.bytes

  module _ (c : Call) (bs : List ℕ) (plan : Plan) (u : Known s c bs plan) where
    -- another page: record and bytes are as they were
    other_told : q ≢ page_for c → ToldIn h (carried_out s c bs plan).state
    other_told ne =
        let t = s.tables in
        let g = page_at t q in
        let kept = others_kept s c bs plan u q ne in
        subst (λ (st : List ℕ).
        Told (suc n) h st (page_at (after t (edited t (page_for c) plan.edit plan.retires)) q))
        (sym (take-append-drop (length s.fast) _))
        (subst (Told (suc n) h _) (sym (after_other t (page_for c) plan.edit plan.retires q ne))
        (by (absent g) refl kept))
      where
        by : (b : Bool) → absent (page_at s.tables q) ≡ b
            → ((y : ℕ) → y < frames s.tables → 1 ≤ on y (page_at s.tables q)
            → block (stored (page_at s.tables (page_for c)) plan.work bs (joined s)) y ≡ block (joined s) y)
            → Told (suc n) h (stored (page_at s.tables (page_for c)) plan.work bs (joined s)) (page_at s.tables q)
        by true none kept =
            told_same told refl refl
            (each_of _ h.copies null_history (λ k l. absurd (omega (arith, absent_long none told))))
        by false some kept = told_stored (page_stands_lem good q near some) same_told _ kept

    own_told : q ≡ page_for c → ToldIn (followed c.kind n c bs h) (carried_out s c bs plan).state
    own_told e =
        let t = s.tables in
        let p = page_for c in
        let h' = followed c.kind n c bs h in
        let t' = after t (edited t p plan.edit plan.retires) in
        let laid = stored (page_at t p) plan.work bs (joined s) in
        let mine : Told n h (joined s) (page_at t p) = subst (λ (i : ℕ). Told n h (joined s) (page_at t i)) e told in
        let there : Told (suc n) h' laid (page_at t' p) =
        subst (Told (suc n) h' laid) (sym (after_same t p plan.edit plan.retires (pages s c bs plan u)))
        (page_follows s c bs plan u n h mine) in
        subst (λ (st : List ℕ). Told (suc n) h' st (page_at t' q)) (sym (take-append-drop (length s.fast) laid))
        (subst (λ (i : ℕ). Told (suc n) h' laid (page_at t' i)) (sym e) there)

    accepted_told : ToldIn (followed_in q n (accept c) bs h) (carried_out s c bs plan).state
    accepted_told = go (has page c.kind) refl (ℕ_discrete q (page_for c))
      where
        go : (b : Bool) → has page c.kind ≡ b → Dec (q ≡ page_for c)
            → ToldIn (cond (b && eqb c.page q) (followed c.kind n c bs h) h) (carried_out s c bs plan).state
        go true e (yes same) =
            rw (eq-eqb c.page q (page_named s c bs plan u e ∙ sym same)) (own_told same)
        go true e (no ne) =
            rw (ne_eqb c.page q (λ z. ne (sym z ∙ page_named s c bs plan u e))) (other_told ne)
        go false e (yes same) = subst (λ (h' : PageHistory). ToldIn h' (carried_out s c bs plan).state)
            (pageless c.kind e n c bs h) (own_told same)
        go false e (no ne) = other_told ne

  -- ---- one message

  pub message_told : (room : ℕ) (x : Sent) → ToldIn (next_history q n (turn_of room s x) h) (left_by room s x)
  unfolding history_after
  message_told room x = go (answer room s x) (came room s x)
    where
      go : (o : Outcome Result) → Came s x o
          → ToldIn (cond (is_refusal o) h (followed_in q n (asked x) (bytes_of x) h)) (left s o)
      go (refuse m) was_refused = same_told
      go (accept _) (was_accepted c plan is u) =
          subst (λ (a : Outcome Call). ToldIn (followed_in q n a (bytes_of x) h) (carried_out s c (bytes_of x) plan).state)
          (sym is) (accepted_told c (bytes_of x) plan u)

-- ---- what is said of a state

latest_told : (q : ℕ) → q < 64 → (n : ℕ) (h : PageHistory) (s : State) → Good s
    → Told n h (joined s) (page_at s.tables q)
    → Latest h (joined s) (page_at s.tables q)
latest_told q near n h s good told =
    record {
      standing = told.standing;
      copies = told.copies;
      current_last = all_of _ h.copies null_history (λ k l. marked k l (copy_of h k).current refl);
      some_last = λ some.
          let here : absent g ≡ false = told.standing ∙ ap not some in
          let same = count_map is_recent (carries_last h) (as_copy h) h.copies (λ c. refl) in
          let there = ap (count is_recent) told.copies in
          let one = (page_stands_lem good q near here).recent_ok in
          omega arith;
      bytes = told.bytes;
    }
  where
    g : Page
    g = page_at s.tables q

    marked : (k : ℕ) → k < length h.copies → (u : Bool) → (copy_of h k).current ≡ u
        → (not u || carries_last h (copy_of h k)) ≡ true
    marked k l true e = go (absent g) refl
      where
        go : (b : Bool) → absent g ≡ b → carries_last h (copy_of h k) ≡ true
        go true none = absurd (omega (arith, absent_long none told))
        go false some =
            let d = page_stands_lem good q near some in
            (good_told d told k (omega (arith, copies_long d told))).marks e
    marked k l false e = refl

-- ---- a read

-- where the first copy stands of which f holds
pub record FirstAt (f : Copy → Bool) (cs : List Copy) : Type 0 where
  pub at : ℕ
  pub within : at < length cs
  pub is : f (get_or cs at zero_copy) ≡ true
  pub first : first_of f cs ≡ get_or cs at zero_copy

pub first_at : (f : Copy → Bool) (cs : List Copy) → 1 ≤ count f cs → FirstAt f cs
unfolding first_of count
first_at f [] some = absurd (omega arith)
first_at f (c ∷ cs) some = go (f c) refl (first_at f cs)
  where
    go : (u : Bool) → f c ≡ u → (1 ≤ count f cs → FirstAt f cs) → FirstAt f (c ∷ cs)
    go true e later = record { at = 0; within = omega arith; is = e; first = rw e }
    go false e later =
        let k : FirstAt f cs = later (let miss = count_miss f c cs e in omega arith) in
        record {
          at = suc k.at;
          within = omega (arith, k.within);
          is = k.is;
          first = ap (λ (b : Bool). cond b c (first_of f cs)) e ∙ k.first;
        }

-- the frame of the lowest-numbered CURRENT copy is that of the first
pub first_current_lem : (cs : List Copy) → first_current cs ≡ (first_of is_current cs).frame
unfolding first_current first_of
first_current_lem [] = refl
first_current_lem (c ∷ cs) = go c.current (first_current_lem cs)
  where
    go : (u : Bool) → first_current cs ≡ (first_of is_current cs).frame
        → cond u c.frame (first_current cs) ≡ (cond u c (first_of is_current cs)).frame
    go true later = refl
    go false later = later

module _ (q : ℕ) (near : q < 64) (n : ℕ) (h : PageHistory) (s : State)
    (told : Told n h (joined s) (page_at s.tables q)) where
  abbrev of_page : Page
  of_page = page_at s.tables q

  read_told : (t : Turn) → t.found ≡ s → (c : Call) → StandingPage (frames s.tables) of_page
      → 1 ≤ count is_current (copies_in_use of_page)
      → data_of t.outcome ≡ part (block (joined s) (first_current (copies_in_use of_page))) c.offset c.count
      → ReadLast h t c
  read_told t same c d some shows =
      let f = first_at is_current (copies_in_use of_page) some in
      let k = f.at in
      let less : k < of_page.n = omega (arith, f.within, length_in_use d) in
      let is = used_told d told k less in
      let cur : (copy_of h k).current ≡ true = ap (λ (x : Copy). x.current) (sym is) ∙ f.is in
      let frame : first_current (copies_in_use of_page) ≡ (copy_of h k).frame =
      first_current_lem (copies_in_use of_page) ∙ ap (λ (x : Copy). x.frame) (f.first ∙ is) in
      let framed : eqb (copy_of h k).frame 255 ≡ false = current_placed (good_told d told k less) cur in
      let last = (aged_told d told k less).0 ((good_told d told k less).marks cur) in
      let told_data : data_of t.outcome ≡ part (contents (joined s) (as_copy h (copy_of h k))) c.offset c.count =
      shows ∙ ap (λ (x : ℕ). part (block (joined s) x) c.offset c.count) frame ∙ rw framed in
      record {
        from = k;
        one_of = omega (arith, copies_long d told);
        is_current = cur;
        shown = told_data
            ∙ ap (λ (z : State). part (contents (joined z) (as_copy h (copy_of h k))) c.offset c.count) (sym same);
        carries_last_write = last;
        latest = told_data
            ∙ ap (λ (l : List ℕ). part l c.offset c.count) (held_told d told k less
            ∙ ap (λ (w : PageWrite). w.bytes) last);
      }

  module _ (t : Turn) (same : t.found ≡ s) (c : Call) (bs : List ℕ) (read : is_read c.kind ≡ true)
      (of : c.page ≡ q) where
    at : page_for c ≡ q
    at = rw (of, lt-ltb q 64 near)

    plan_read : (plan : Plan) → Known s c bs plan → data_of t.outcome ≡ (carried_out s c bs plan).data_out
        → ReadLast h t c
    unfolding shown_of
    plan_read plan u out =
        let v = view_of s.tables c in
        let g = page_at s.tables (page_for c) in
        let is : c.kind ≡ Read = kind_is c.kind Read read in
        let need : Access g c.station Act.Read = subst (Needs g c) is u.does.needs in
        let plans : plan ≡ plan_for v c (length bs) Read = u.does.plan_is ∙ ap (plan_for v c (length bs)) is in
        let shows : data_of t.outcome ≡ part (block (joined s) (first_current (copies_in_use g))) c.offset c.count =
        out ∙ ap (λ (w : Plan). work_data g w.work w.len (joined s)) plans in
        let cur = eqb-false (currents g) 0 need.1.1 in
        read_told t same c
        (subst (λ (i : ℕ). StandingPage (frames s.tables) (page_at s.tables i)) at
        (page_stands_lem u.good (page_for c) (page_near c) need.0))
        (subst (λ (i : ℕ). 1 ≤ count is_current (copies_in_use (page_at s.tables i))) at (omega arith))
        (subst (λ (i : ℕ). data_of t.outcome
        ≡ part (block (joined s) (first_current (copies_in_use (page_at s.tables i)))) c.offset c.count) at shows)

  message_read : (room : ℕ) (x : Sent) → ReadsLast q h (turn_of room s x)
  message_read room x c is read of fine = go (answer room s x) refl (came room s x)
    where
      go : (o : Outcome Result) → answer room s x ≡ o → Came s x o → ReadLast h (turn_of room s x) c
      go (refuse m) e was_refused = absurd (true≢false (ap is_refusal (sym e) ∙ fine))
      go (accept _) e (was_accepted c' plan is' u) =
          let one : c' ≡ c = cc in
          plan_read (turn_of room s x) refl c (bytes_of x) read of plan
          (subst (λ (d : Call). Known s d (bytes_of x) plan) one u)
          (ap data_of e ∙ ap (λ (d : Call). (carried_out s d (bytes_of x) plan).data_out) one)

-- ---- the messages of a run

pub message_good : (room : ℕ) (s : State) (x : Sent) → Good s → Good (left_by room s x)
message_good room s x good = by_message s Good good (λ c bs. step_good s c bs good) room x

along : (q : ℕ) → q < 64 → (room : ℕ) (xs : List Sent) (n : ℕ) (h : PageHistory) (s : State) → Good s
    → Told n h (joined s) (page_at s.tables q)
    → Along q (λ h' s'. Latest h' (joined s') (page_at s'.tables q)) (ReadsLast q) n h (turns_of room s xs)
    (end_of room s xs)
unfolding turns_of end_of
along q near room [] n h s good told = latest_told q near n h s good told
along q near room (x ∷ xs) n h s good told = (
  latest_told q near n h s good told,
  (
    message_read q near n h s told room x,
    along q near room xs (suc n) _ (left_by room s x) (message_good room s x good)
        (message_told q near n h s good told room x),
  ),
)

-- fresh tables have no page
pub told_start : (p s : ℕ) (fast slow : List ℕ) (q : ℕ) → q < 64
    → Told 1 absent_history (fast ++ slow) (page_at (fresh_tables p s) q)
unfolding fresh_tables fresh_page
told_start p s fast slow q near = told_absent 0 _ _ (rw (get_or-replicate 64 q fresh_page zero_page near))

pub no_old_copy : NoOldCopy
no_old_copy p s room q fast slow xs hp hs lp ls near =
    along q near room xs 1 absent_history _ (start_inv p s fast slow hp hs lp ls).good (told_start p s fast slow q near)
