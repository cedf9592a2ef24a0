-- A decision as the code comes to it is the decision of the call, and what a caller has of one. In order: what the answer
-- of an outcome says of it; `decides`, what a decision tells of its plan; `decided`, what a caller has of an answer.
use Prim.Native.Nat.{ℕ, ◌<◌}
use mathlib.Core.Path.{◌≡◌, refl, sym, ap, subst, ◌∙◌}
use mathlib.Core.Bool.{Bool, true, false, not, ◌||◌, cond}
use Rattle.std.specs.Prelude.{Some, None, is_some}
use native.Mathlib.Omega.{arith}
use lib.Dec.{ltb, eqb}
use borrow.Author.Tests.{ltb-true, eqb-true}
use Rattle.tables.specs.declared.Page.{Page}
use Rattle.tables.specs.declared.Change.{Change}
use Rattle.tables.specs.declared.Tables.{Tables}
use Rattle.tables.specs.Numbers.{accepted, broken_tables, misfit_store}
use Rattle.tables.specs.Model.{page_at}
use Rattle.tables.specs.Rules.{sound}
use Rattle.tables.specs.Register.{registered}
use Rattle.tables.specs.Changes.{changed, change_to, edited, after}
use Rattle.tables.specs.Keep.{leaves_record}
use Rattle.tables.proofs.KeepLaws.{unchanged_after}
use Rattle.steps.specs.declared.Plan.{Plan}
use Rattle.steps.specs.declared.Call.{Call}
use Rattle.steps.specs.declared.Decision.{Decision}
use Rattle.steps.specs.Stores.{fits}
use Rattle.steps.specs.Steps.{Outcome, refuse, accept, test, guarded, mapped, decide_on, page_for, viewing, decide, rules_number, decide_any, number_of}
use Rattle.steps.specs.Effects.{moves}
use Rattle.steps.specs.Promises.{decision_on, decision_of, moved_to}
use Rattle.steps.specs.Private.{DecisionTold}

-- the page that a call acts on is one of the 64
pub page_near : (c : Call) → page_for c < 64
page_near c = go (ltb c.page 64) refl
  where
    go : (b : Bool) → ltb c.page 64 ≡ b → cond b c.page 0 < 64
    go true e = ltb-true c.page 64 e
    go false e = omega arith

-- ---- the decision of an outcome

-- that of a plan, with the record of its page
pub decision_held : (t : Tables) (c : Call) (o : Outcome Plan) → mapped (decision_on (page_for c) (page_at t (page_for c))) o ≡ decision_of t c o
decision_held t c o = refl

-- as the code comes to it
pub decided_at : (t : Tables) (c : Call) (size : ℕ)
    → mapped (decision_on (page_for c) (page_at t (page_for c))) (decide_on (viewing t.shared (page_at t (page_for c)) (registered t c.frame)) c size)
    ≡ decision_of t c (decide t c size)
decided_at t c size = refl

-- with 5 and 6 before it
pub ruled_is : (t : Tables) (fl sl : ℕ) (c : Call) (size : ℕ)
    → guarded (rules_number t fl sl) (decision_of t c (decide t c size)) ≡ decision_of t c (decide_any t fl sl c size)
ruled_is t fl sl c size = go (eqb (rules_number t fl sl) accepted)
  where
    go : (b : Bool) → test (not b) (rules_number t fl sl) (decision_of t c (decide t c size))
        ≡ decision_of t c (test (not b) (rules_number t fl sl) (decide t c size))
    go true = refl
    go false = refl

-- ---- what an answer says of the outcome behind it

module _ (t : Tables) (c : Call) where
  pub refused_by : (o : Outcome Plan) {n : ℕ} → refuse n ≡ decision_of t c o → o ≡ refuse n
  refused_by (refuse m) e = cc
  refused_by (accept plan) e = cc

  -- and the other way
  pub refuses : {o : Outcome Plan} {n : ℕ} → refuse n ≡ o → refuse n ≡ decision_of t c o
  refuses e = ap (decision_of t c) e

  pub accepts : {o : Outcome Plan} {plan : Plan} {d : Decision} → accept plan ≡ o → d ≡ decision_on (page_for c) (page_at t (page_for c)) plan
      → accept d ≡ decision_of t c o
  accepts e w = ap accept w ∙ ap (decision_of t c) e

-- ---- what a decision tells of its plan

-- a change that there is on a condition is that one
pub change_is : (b : Bool) {x y : Change} → Some x ≡ cond b (Some y) None → x ≡ y
change_is true e = cc
change_is false e = cc

module _ (t : Tables) (c : Call) where
  pub decides : (plan : Plan) → sound t ≡ true → DecisionTold t c plan (decision_on (page_for c) (page_at t (page_for c)) plan)
  unfolding leaves_record
  decides plan ok =
      record {
        change_told = refl;
        moved_told = some (moves g plan.edit plan.retires);
        laid_told = refl;
        len_told = refl;
        work_told = refl;
        tables_told = go (leaves_record g plan.edit) (eqb plan.retires 255) refl refl;
        before_told = refl;
      }
    where
      g : Page
      g = page_at t (page_for c)

      next : ℕ → Tables
      next x = after t (edited t (page_for c) plan.edit x)

      some : (b : Bool) → is_some (cond b (Some (change_to (page_for c) (changed g plan.edit) plan.retires)) None) ≡ b
      some true = refl
      some false = refl

      go : (b z : Bool) → leaves_record g plan.edit ≡ b → eqb plan.retires 255 ≡ z
          → moved_to t (cond (not b || not z) (Some (change_to (page_for c) (changed g plan.edit) plan.retires)) None) ≡ next plan.retires
      go true true e none = sym (ap next (eqb-true plan.retires 255 none) ∙ unchanged_after t (page_for c) plan.edit ok e)
      go true false e some = refl
      go false z e _ = refl

-- ---- what a caller has of an answer

-- an accepted call has a plan, of which the decision tells
pub record Decided (t : Tables) (c : Call) (o : Outcome Plan) (d : Decision) : Type 0 where
  pub plan : Plan
  pub planned : o ≡ accept plan
  pub told : DecisionTold t c plan d

pub decided : (t : Tables) (c : Call) (o : Outcome Plan) (d : Decision) → (number_of o ≡ accepted → sound t ≡ true) → accept d ≡ decision_of t c o
    → Decided t c o d
decided t c (refuse n) d q e = cc
decided t c (accept plan) d q e =
    record { plan = plan; planned = refl; told = subst (DecisionTold t c plan) (let w : decision_on (page_for c) (page_at t (page_for c)) plan ≡ d = cc in w) (decides t c plan (q refl)) }

-- on any tables, where 5 and 6 come first
pub decided_any : (t : Tables) (fl sl : ℕ) (c : Call) (size : ℕ) (d : Decision) → accept d ≡ decision_of t c (decide_any t fl sl c size)
    → Decided t c (decide_any t fl sl c size) d
decided_any t fl sl c size d e = decided t c (decide_any t fl sl c size) d (go (sound t) (fits t fl sl) (decide t c size) refl) e
  where
    go : (a b : Bool) (o : Outcome Plan) → sound t ≡ a → number_of (guarded (cond a (cond b accepted misfit_store) broken_tables) o) ≡ accepted
        → sound t ≡ true
    go true b o s z = s
    go false b o s z = absurd (omega arith)
