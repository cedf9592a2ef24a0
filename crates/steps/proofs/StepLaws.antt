-- What the step layer gives to the layers above. In order: tables and stores that keep the rules; what 5 and 6 come to;
-- a plan carried out; what a step leaves and replies; a decision carried out is the step.
use Prim.Native.Nat.{ℕ, ◌+◌, ◌%◌, ◌*◌, ◌≤◌, ◌<◌, zero-le}
use mathlib.Core.Path.{◌≡◌, refl, sym, ap, ◌∙◌, subst}
use mathlib.Core.Bool.{Bool, true, false, ◌||◌, cond, or-true, false≢true}
use mathlib.Core.List.{List, ◌∷◌}
use Rattle.std.specs.Prelude.{Ok, Err, Some, None, is_some}
use native.Mathlib.Omega.{arith}
use lib.ListN.{length, take, drop, length-append, length-drop}
use lib.Seq.{length-take-le}
use lib.Dec.{eqb}
use borrow.Author.Tests.{eqb-true, le-leb, eq-eqb}
use Rattle.tables.specs.declared.Page.{Page}
use Rattle.tables.specs.declared.Change.{Change}
use Rattle.tables.specs.declared.Tables.{Tables}
use Rattle.tables.specs.declared.refusals.Refusal.{Refusal}
use Rattle.tables.specs.Lists.{listed}
use Rattle.tables.specs.Numbers.{accepted, broken_tables, misfit_store, message_numbers, refusal_number}
use Rattle.tables.specs.Model.{frames, is_null, absent, page_at}
use Rattle.tables.specs.Rules.{sound}
use Rattle.tables.specs.Changes.{after}
use Rattle.tables.proofs.ListLaws.{and_intro, and_left, and_right}
use Rattle.tables.proofs.RuleLaws.{StandingPage, copy_at_lem, sound_of, standing_at}
use Rattle.tables.proofs.ChangeSound.{sound_after}
use Rattle.steps.specs.declared.Call.{Call}
use Rattle.steps.specs.declared.Decision.{Decision}
use Rattle.steps.specs.Kinds.{tells, least_length}
use Rattle.steps.specs.Data.{formed}
use Rattle.steps.specs.Stores.{fits, block, contents, zeros, over}
use Rattle.steps.specs.declared.Plan.{Plan}
use Rattle.steps.specs.Steps.{Outcome, refuse, accept, guarded, mapped, copy_at, page_for, decide, rules_number, decide_any, number_of}
use Rattle.steps.specs.Effects.{stored, State, joined, Result, carried_out, step, left, moved_by, laid_by, data_of}
use Rattle.steps.specs.Promises.{state_of, decision_of, moved_to, settled, Lent, lent, work_within, within, carried, Stepped}
use Rattle.steps.specs.Private.{frames_in, DecisionTold}
use Rattle.steps.proofs.GuardLaws.{turned_back, passed}
use Rattle.steps.proofs.DecisionLaws.{page_near, refused_by, decides, Decided, decided_any}
use Rattle.steps.proofs.StoreLaws.{length_part}
use Rattle.steps.proofs.WorkLaws.{length_stored}
use Rattle.steps.proofs.DecideLaws.{IfAccepted, IfDecided, call_numbers, if_refused, if_accepted, past_number, then_keeps, as_listed, PlanOk, decide_ok}

-- ---- tables and stores that keep the rules

pub record Good (s : State) : Type 0 where
  pub tables_sound : sound s.tables ≡ true
  pub stores_fit : fits s.tables (length s.fast) (length s.slow) ≡ true

-- both stores are as long as the tables say
pub fit_lengths : (t : Tables) (x y : ℕ) → fits t x y ≡ true → (x ≡ 64 * t.shared.p) × (y ≡ 64 * t.shared.s)
unfolding fits
fit_lengths t x y f =
    let one = eqb x (64 * t.shared.p) in
    (eqb-true _ _ (and_left one _ f), eqb-true _ _ (and_right one _ f))

pub joined_long : {s : State} → Good s → length (joined s) ≡ 64 * frames s.tables
joined_long {s} i =
    let l = fit_lengths s.tables (length s.fast) (length s.slow) i.stores_fit in
    simp length-append (omega arith)

pub page_stands_lem : {s : State} → Good s → (p : ℕ) → p < 64 → absent (page_at s.tables p) ≡ false
    → StandingPage (frames s.tables) (page_at s.tables p)
page_stands_lem {s} i p h some = standing_at s.tables p (sound_of s.tables i.tables_sound) h some

-- what copy k of a page that stands holds is 64 bytes
pub length_held : {limit : ℕ} {g : Page} → StandingPage limit g → (st : List ℕ) → length st ≡ 64 * limit → (k : ℕ) → k < g.n
    → length (contents st (copy_at g k)) ≡ 64
length_held {limit} {g} d st long k h = go (is_null (copy_at g k)) (copy_at_lem d k h).placed
  where
    go : (z : Bool) → (z ≡ false → (copy_at g k).frame < limit) → length (cond z zeros (block st (copy_at g k).frame)) ≡ 64
    go true f = refl
    go false f = let l = f refl in length_part st (64 * (copy_at g k).frame) 64 (omega arith)

-- ---- 5 and 6

-- 0, 5 or 6 is 0 or a number of the table
pub rules_listed : (t : Tables) (x y : ℕ) → listed (rules_number t x y) (accepted ∷ message_numbers) ≡ true
rules_listed t x y = go (sound t) (fits t x y)
  where
    go : (a b : Bool) → listed (cond a (cond b accepted misfit_store) broken_tables) (accepted ∷ message_numbers) ≡ true
    go true true = refl
    go true false = refl
    go false b = refl

pub ruled : (t : Tables) (x y : ℕ) → rules_number t x y ≡ accepted → (sound t ≡ true) × (fits t x y ≡ true)
ruled t x y e = go (sound t) (fits t x y) e
  where
    go : (a b : Bool) → cond a (cond b accepted misfit_store) broken_tables ≡ accepted → (a ≡ true) × (b ≡ true)
    go true true e = (refl, refl)
    go true false e = absurd (omega arith)
    go false b e = absurd (omega arith)

-- neither applies to what keeps the rules
pub rules_good : {s : State} → rules_number s.tables (length s.fast) (length s.slow) ≡ accepted → Good s
rules_good {s} e =
    let k = ruled s.tables (length s.fast) (length s.slow) e in
    record { tables_sound = k.0; stores_fit = k.1 }

pub good_rules : {s : State} → Good s → rules_number s.tables (length s.fast) (length s.slow) ≡ accepted
good_rules i = rw (i.tables_sound, i.stores_fit)

-- a decision then needs no test of them
pub decide_ruled : (t : Tables) (fl sl : ℕ) (c : Call) (size : ℕ) → rules_number t fl sl ≡ accepted → decide_any t fl sl c size ≡ decide t c size
decide_ruled t fl sl c size e = passed (rules_number t fl sl) (decide t c size) e

-- where one applies, it is the number of every call
pub step_unruled : (s : State) (c : Call) (bs : List ℕ) (n : ℕ) → rules_number s.tables (length s.fast) (length s.slow) ≡ n
    → (n ≡ accepted → ⊥) → step s c bs ≡ refuse n
unfolding step
step_unruled s c bs n e ne = rw (e, turned_back n (decide s.tables c (length bs)) ne)

-- ---- a plan carried out

-- of an accepted call: the rules hold before it, and its plan is in order
pub record Sure (s : State) (c : Call) (bs : List ℕ) (plan : Plan) : Type 0 where
  pub good : Good s
  pub plan_ok : PlanOk s.tables c (length bs) c.kind plan

module _ (s : State) (c : Call) (bs : List ℕ) where
  pub sure : IfAccepted (Sure s c bs) (decide_any s.tables (length s.fast) (length s.slow) c (length bs))
  sure =
      past_number (rules_number s.tables (length s.fast) (length s.slow)) (rules_listed s.tables (length s.fast) (length s.slow)) (λ z.
      let i = rules_good z in
      then_keeps (λ plan k. record { good = i; plan_ok = k }) (as_listed (decide_ok s.tables c (length bs) i.tables_sound)))

  abbrev laid_out : Plan → List ℕ
  laid_out plan = stored (page_at s.tables (page_for c)) plan.work bs (joined s)

  both_long : (plan : Plan) → Sure s c bs plan
      → (length (take (length s.fast) (laid_out plan)) ≡ length s.fast) × (length (drop (length s.fast) (laid_out plan)) ≡ length s.slow)
  both_long plan u =
      let long = joined_long u.good in
      let l = length_stored (page_at s.tables (page_for c)) (frames s.tables) plan.len bs (joined s) long plan.work u.plan_ok.inside in
      let j = length-append s.fast s.slow in
      (length-take-le (length s.fast) (laid_out plan) (omega arith), length-drop (length s.fast) (laid_out plan) ∙ omega arith)

  -- ---- what a step leaves and replies

  -- the lengths of the stores, whatever the tables are
  pub step_long : (length (left s (step s c bs)).fast ≡ length s.fast) × (length (left s (step s c bs)).slow ≡ length s.slow)
  unfolding step
  step_long = go _ sure
    where
      go : (o : Outcome Plan) → IfAccepted (Sure s c bs) o
          → (length (left s (mapped (carried_out s c bs) o)).fast ≡ length s.fast)
          × (length (left s (mapped (carried_out s c bs) o)).slow ≡ length s.slow)
      go (refuse n) k = (refl, refl)
      go (accept plan) (if_accepted u) = both_long plan u

  -- what keeps the rules is left so
  pub step_good : Good s → Good (left s (step s c bs))
  unfolding step fits after
  step_good i = go _ sure
    where
      go : (o : Outcome Plan) → IfAccepted (Sure s c bs) o → Good (left s (mapped (carried_out s c bs) o))
      go (refuse n) k = i
      go (accept plan) (if_accepted u) =
          let l = fit_lengths s.tables (length s.fast) (length s.slow) i.stores_fit in
          let b = both_long plan u in
          record {
            tables_sound = sound_after s.tables (page_for c) plan.edit plan.retires (page_near c) i.tables_sound u.plan_ok.allowed u.plan_ok.may_retire;
            stores_fit = and_intro (eq-eqb _ _ (b.0 ∙ l.0)) (eq-eqb _ _ (b.1 ∙ l.1));
          }

  -- so every call keeps the rules
  pub step_ruled : rules_number s.tables (length s.fast) (length s.slow) ≡ accepted
      → rules_number (left s (step s c bs)).tables (length (left s (step s c bs)).fast) (length (left s (step s c bs)).slow) ≡ accepted
  step_ruled e = good_rules (step_good (rules_good e))

  -- the data of a reply has 64 bytes at the most
  pub data_short : length (data_of (step s c bs)) ≤ 64
  unfolding step
  data_short = go _ sure
    where
      go : (o : Outcome Plan) → IfAccepted (Sure s c bs) o → length (data_of (mapped (carried_out s c bs) o)) ≤ 64
      go (refuse n) k = zero-le
      go (accept plan) (if_accepted u) = rw (u.plan_ok.shows (joined s) (joined_long u.good)) u.plan_ok.short

  -- and with its first six bytes the reply has at most 35 for each 4 of its message
  pub data_paid : 4 * (6 + length (data_of (step s c bs))) ≤ 35 * (2 + least_length c.kind)
  unfolding step
  data_paid = go _ sure
    where
      go : (o : Outcome Plan) → IfAccepted (Sure s c bs) o
          → 4 * (6 + length (data_of (mapped (carried_out s c bs) o))) ≤ 35 * (2 + least_length c.kind)
      go (refuse n) k = omega arith
      go (accept plan) (if_accepted u) = rw (u.plan_ok.shows (joined s) (joined_long u.good)) u.plan_ok.paid

  -- what it tells has the form of its kind's data, and the bytes laid are few
  pub step_formed : IfAccepted (λ (r : Result). (formed (tells c.kind) r.data_out ≡ true) × (r.laid ≤ 512)) (step s c bs)
  unfolding step
  step_formed = go _ sure
    where
      go : (o : Outcome Plan) → IfAccepted (Sure s c bs) o
          → IfAccepted (λ (r : Result). (formed (tells c.kind) r.data_out ≡ true) × (r.laid ≤ 512)) (mapped (carried_out s c bs) o)
      go (refuse n) (if_refused row) = if_refused row
      go (accept plan) (if_accepted u) = if_accepted (u.plan_ok.as_told (joined s) (joined_long u.good), u.plan_ok.laid_fits)

  -- every number is 0 or one of the table
  pub step_number : listed (number_of (step s c bs)) (accepted ∷ message_numbers) ≡ true
  unfolding step
  step_number = go _ sure
    where
      go : (o : Outcome Plan) → IfAccepted (Sure s c bs) o → listed (number_of (mapped (carried_out s c bs) o)) (accepted ∷ message_numbers) ≡ true
      go (refuse n) (if_refused row) = ap (λ (b : Bool). eqb n accepted || b) row ∙ or-true (eqb n accepted)
      go (accept plan) k = refl

  -- on sound tables 0, 6 or one of a call
  pub sound_number : sound s.tables ≡ true → listed (number_of (step s c bs)) (accepted ∷ misfit_store ∷ call_numbers) ≡ true
  unfolding step
  sound_number ok =
      rw ok (by (fits s.tables (length s.fast) (length s.slow)) (decide s.tables c (length bs)) (decide_ok s.tables c (length bs) ok))
    where
      by : (b : Bool) (o : Outcome Plan) → IfDecided (PlanOk s.tables c (length bs) c.kind) o
          → listed (number_of (mapped (carried_out s c bs) (guarded (cond b accepted misfit_store) o))) (accepted ∷ misfit_store ∷ call_numbers) ≡ true
      by true (refuse n) (if_refused row) =
          ap (λ (b : Bool). eqb n accepted || (eqb n misfit_store || b)) row ∙ ap (λ (b : Bool). eqb n accepted || b) (or-true (eqb n misfit_store))
          ∙ or-true (eqb n accepted)
      by true (accept plan) k = refl
      by false o k = refl

  -- and it is not 0 where the call is turned back
  pub step_told : (n : ℕ) → step s c bs ≡ refuse n → n ≡ accepted → ⊥
  unfolding step
  step_told n e z = go _ sure e
    where
      go : (o : Outcome Plan) → IfAccepted (Sure s c bs) o → mapped (carried_out s c bs) o ≡ refuse n → ⊥
      go (refuse m) (if_refused row) e = let w : m ≡ accepted = cc in absurd (false≢true (subst (λ (k : ℕ). listed k message_numbers ≡ true) w row))
      go (accept plan) k e = let w : ◌≡◌ {A = ℕ} 0 1 = cc in omega arith

-- ---- a decision carried out

-- a call that is turned back is a step that is
pub step_refused : (s : State) (c : Call) (bs : List ℕ) {n : ℕ}
    → refuse n ≡ decision_of s.tables c (decide_any s.tables (length s.fast) (length s.slow) c (length bs)) → step s c bs ≡ refuse n
unfolding step
step_refused s c bs e = ap (mapped (carried_out s c bs)) (refused_by s.tables c _ e)

-- what a decision of an accepted one leaves
pub record Carries (s : State) (c : Call) (bs out : List ℕ) (d : Decision) : Type 0 where
  pub accepted_is : number_of (step s c bs) ≡ accepted
  pub moved_is : is_some d.change ≡ moved_by (step s c bs)
  pub laid_is : d.laid ≡ laid_by (step s c bs)
  pub len_is : d.len ≡ length (data_of (step s c bs))
  pub tables_is : settled s.tables d ≡ (left s (step s c bs)).tables
  pub left_is : carried d bs (lent s.fast s.slow out)
      ≡ lent (left s (step s c bs)).fast (left s (step s c bs)).slow (over (data_of (step s c bs)) out)

-- one made on what keeps the rules lies within it
pub decided_within : (s : State) (c : Call) (size : ℕ) (out : List ℕ) (d : Decision) → Good s → 64 ≤ length out
    → Decided s.tables c (decide s.tables c size) d → within d size (lent s.fast s.slow out) ≡ true
decided_within s c size out d i room q =
    let l = fit_lengths s.tables (length s.fast) (length s.slow) i.stores_fit in
    let same : frames_in s.fast s.slow ≡ frames s.tables = omega arith in
    and_intro (le-leb 64 (length out) room) (and_intro (eq-eqb (length s.fast % 64) 0 (omega arith))
    (rw same (go _ (decide_ok s.tables c size i.tables_sound) q.plan q.planned q.told)))
  where
    go : (o : Outcome Plan) → IfDecided (PlanOk s.tables c size c.kind) o → (plan : Plan) → o ≡ accept plan → DecisionTold s.tables c plan d
        → work_within d.before d.len (frames s.tables) size d.work ≡ true
    go (refuse n) k plan e q = cc
    go (accept plan') (if_accepted u) plan e q =
        let same : plan ≡ plan' = cc in
        rw (q.before_told, q.len_told, q.work_told, same) u.inside

-- and a decision on any tables and stores, carried out, is the step
pub carries : (s : State) (c : Call) (bs out : List ℕ) (d : Decision) → 64 ≤ length out
    → accept d ≡ decision_of s.tables c (decide_any s.tables (length s.fast) (length s.slow) c (length bs)) → Carries s c bs out d
unfolding step carried
carries s c bs out d room is = go _ refl (sure s c bs) q.plan q.planned q.told
  where
    q : Decided s.tables c (decide_any s.tables (length s.fast) (length s.slow) c (length bs)) d
    q = decided_any s.tables (length s.fast) (length s.slow) c (length bs) d is

    go : (o : Outcome Plan) → o ≡ decide_any s.tables (length s.fast) (length s.slow) c (length bs) → IfAccepted (Sure s c bs) o → (plan : Plan)
        → decide_any s.tables (length s.fast) (length s.slow) c (length bs) ≡ accept plan → DecisionTold s.tables c plan d → Carries s c bs out d
    go (refuse n) e k plan f p = cc
    go (accept plan') e (if_accepted u) plan f p =
        let same : plan' ≡ plan = cc in
        let sure' : Sure s c bs plan = subst (Sure s c bs) same u in
        let ruled = decide_ruled s.tables _ _ c (length bs) (good_rules sure'.good) in
        let inside = decided_within s c (length bs) out d sure'.good room (record { plan = plan; planned = sym ruled ∙ f; told = p }) in
        let is_step : step s c bs ≡ accept (carried_out s c bs plan) = ap (mapped (carried_out s c bs)) f in
        record {
          accepted_is = ap number_of is_step;
          moved_is = p.moved_told ∙ sym (ap moved_by is_step);
          laid_is = p.laid_told ∙ sym (ap laid_by is_step);
          len_is = p.len_told ∙ sym (sure'.plan_ok.shows (joined s) (joined_long sure'.good)) ∙ sym (ap (λ (o : Outcome Result). length (data_of o)) is_step);
          tables_is = p.tables_told ∙ sym (ap (λ (o : Outcome Result). (left s o).tables) is_step);
          left_is = rw (inside, p.before_told, p.work_told, p.len_told) refl
              ∙ sym (ap (λ (o : Outcome Result). lent (left s o).fast (left s o).slow (over (data_of o) out)) is_step);
        }

-- a step that did not move the tables leaves those that came in
pub step_unmoved : (s : State) (c : Call) (bs : List ℕ) → moved_by (step s c bs) ≡ false → (left s (step s c bs)).tables ≡ s.tables
unfolding step
step_unmoved s c bs e = go _ (sure s c bs) e
  where
    go : (o : Outcome Plan) → IfAccepted (Sure s c bs) o → moved_by (mapped (carried_out s c bs) o) ≡ false
        → (left s (mapped (carried_out s c bs) o)).tables ≡ s.tables
    go (refuse n) k e = refl
    go (accept plan) (if_accepted u) e =
        let k = decides s.tables c plan u.good.tables_sound in
        sym k.tables_told ∙ ap (moved_to s.tables) (none_is _ e _)
      where
        none_is : (b : Bool) → b ≡ false → (x : Change) → cond b (Some x) None ≡ None
        none_is b e x = rw e refl

-- so it has what `step` promises, with the tables that it leaves
pub stepped : (s : State) (c : Call) (bs out : List ℕ) (d : Decision) → Carries s c bs out d → (t' : Tables) (x' y' out' : List ℕ)
    → t' ≡ settled s.tables d → lent x' y' out' ≡ carried d bs (lent s.fast s.slow out)
    → Stepped s (step s c bs) out (state_of t' x' y') out' (record { answer = Ok tt; laid = d.laid; len = d.len; tables = t' })
stepped s c bs out d k t' x' y' out' e w =
    let v = w ∙ k.left_is in
    record {
      number_told = sym k.accepted_is;
      laid_told = k.laid_is;
      len_told = k.len_is;
      state_out = same (e ∙ k.tables_is) (ap (λ (l : Lent). l.fast) v) (ap (λ (l : Lent). l.slow) v);
      data_out = ap (λ (l : Lent). l.out) v;
    }
  where
    same : {t t'' : Tables} {x x'' y y'' : List ℕ} → t ≡ t'' → x ≡ x'' → y ≡ y'' → state_of t x y ≡ state_of t'' x'' y''
    same p q r = cc

-- and one that is turned back leaves all as it was
pub stepped_refused : (s : State) (c : Call) (bs out : List ℕ) (refusal : Refusal)
    → refuse (refusal_number refusal) ≡ decision_of s.tables c (decide_any s.tables (length s.fast) (length s.slow) c (length bs))
    → Stepped s (step s c bs) out s out (record { answer = Err refusal; laid = 0; len = 0; tables = s.tables })
stepped_refused s c bs out refusal e =
    rw (step_refused s c bs e)
    record { number_told = refl; laid_told = refl; len_told = refl; state_out = refl; data_out = refl }
