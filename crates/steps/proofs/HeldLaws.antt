-- A decision on sound tables: they are left sound, and the frames held are kept up to date from the page that changed.
use Prim.Native.Nat.{ℕ, ◌+◌, ◌-◌, ◌*◌, ◌≤◌, ◌<◌}
use mathlib.Core.Path.{◌≡◌, refl, sym, ap, ◌∙◌}
use mathlib.Core.Bool.{Bool, true, false, not, cond}
use Rattle.std.specs.Prelude.{Option, Some, None}
use native.Mathlib.Omega.{arith}
use borrow.Author.Tests.{eq-eqb}
use Rattle.tables.specs.declared.refusals.Refusal.{Refusal}
use Rattle.tables.specs.Numbers.{accepted, broken_tables, refusal_number}
use Rattle.tables.proofs.ListLaws.{and_intro}
use Rattle.tables.specs.declared.Page.{Page}
use Rattle.tables.specs.declared.Change.{Change}
use Rattle.tables.specs.declared.Tables.{Tables}
use Rattle.tables.specs.Rules.{frames_held, sound, frame_total, frame_totals}
use Rattle.tables.specs.Changes.{change_to, after}
use Rattle.tables.proofs.ChangeSound.{sound_after}
use Rattle.tables.proofs.HeldLaws.{held_low, held_total, totals_at, held_after_lem}
use Rattle.tables.proofs.RuleLaws.{sound_of, few_frames}
use Rattle.steps.specs.declared.Call.{Call}
use Rattle.steps.specs.declared.Decision.{Decision}
use Rattle.steps.specs.declared.Plan.{Plan}
use Rattle.steps.specs.Stores.{fits}
use Rattle.steps.specs.Steps.{Outcome, refuse, accept, test, page_for, decide, rules_number}
use Rattle.steps.specs.Effects.{tables_left}
use Rattle.steps.specs.Promises.{decision_of, moved_to, settled, held_in, record_after, held_after}
use Rattle.steps.proofs.GuardLaws.{refusal_some}
use Rattle.steps.proofs.DecisionLaws.{page_near, change_is, Decided, decided}
use Rattle.steps.proofs.DecideLaws.{IfDecided, if_accepted, PlanOk, decide_ok}

-- at most 254 frames are held, so that their number goes into a byte
pub held_few : (t : Tables) → sound t ≡ true → frames_held t ≤ 254
held_few t ok = omega (arith, held_low t, few_frames (sound_of t ok))

-- ---- counted at the start: stores of the right lengths fit, so that only 5 turns the tables back

module _ (t : Tables) where
  fitted : rules_number t (64 * t.shared.p) (64 * t.shared.s) ≡ cond (sound t) accepted broken_tables
  unfolding fits
  fitted = rw (and_intro (eq-eqb (64 * t.shared.p) _ refl) (eq-eqb (64 * t.shared.s) _ refl)) refl

  pub held_refused : (refusal : Refusal) → refusal_number refusal ≡ rules_number t (64 * t.shared.p) (64 * t.shared.s)
      → refuse (refusal_number refusal) ≡ held_in t
  held_refused refusal e = go (sound t) (e ∙ fitted)
    where
      go : (b : Bool) → refusal_number refusal ≡ cond b accepted broken_tables
          → refuse (refusal_number refusal) ≡ test (not b) broken_tables (accept (frames_held t))
      go true e = absurd (refusal_some refusal e)
      go false e = ap refuse e

  module _ (e : accepted ≡ rules_number t (64 * t.shared.p) (64 * t.shared.s)) where
    keeps : sound t ≡ true
    keeps = go (sound t) (e ∙ fitted)
      where
        go : (b : Bool) → accepted ≡ cond b accepted broken_tables → b ≡ true
        go true e = refl
        go false e = absurd (omega arith)

    pub held_told : {held : ℕ} → held ≡ frame_totals t.pages → accept held ≡ held_in t
    held_told is = rw (keeps, is, held_total t keeps) refl

    pub held_fits : {held : ℕ} → held ≡ frame_totals t.pages → held < 256
    held_fits is = let total = held_total t keeps in let few = held_few t keeps in omega arith

-- ---- after a decision

change_of : {x : Change} {p f : ℕ} {g : Page} → x ≡ change_to p g f → x ≡ change_to p x.becomes x.retires
change_of e = cc

module _ (t : Tables) (ok : sound t ≡ true) (c : Call) (size : ℕ) where
  pub left_sound : sound (tables_left t c (decide t c size)) ≡ true
  left_sound = go (decide t c size) (decide_ok t c size ok)
    where
      go : (o : Outcome Plan) → IfDecided (PlanOk t c size c.kind) o → sound (tables_left t c o) ≡ true
      go (refuse n) k = ok
      go (accept plan) (if_accepted u) =
          sound_after t (page_for c) plan.edit plan.retires (page_near c) ok u.allowed u.may_retire

  module _ (d : Decision) (is : accept d ≡ decision_of t c (decide t c size)) where
    pub decision_told : Decided t c (decide t c size) d
    decision_told = decided t c (decide t c size) d (λ _. ok) is

    -- what it leaves
    pub tables_settled : settled t d ≡ tables_left t c (decide t c size)
    tables_settled = decision_told.told.tables_told ∙ sym (ap (tables_left t c) decision_told.planned)

    pub held_settled : held_after (frames_held t) d ≡ frames_held (settled t d)
    held_settled = go d.change refl
      where
        kept : sound (settled t d) ≡ true
        kept = ap sound tables_settled ∙ left_sound

        go : (change : Option Change) → d.change ≡ change → frames_held t - frame_total d.before + frame_total (record_after d.before change) ≡ frames_held (moved_to t change)
        go None e =
            let all = held_total t ok in
            let one = totals_at t.pages (page_for c) in
            let same = ap frame_total decision_told.told.before_told in
            omega (arith, all, one, same)
        go (Some change) e =
            let same : change ≡ change_to (page_for c) change.becomes change.retires = change_of (change_is _ (sym e ∙ decision_told.told.change_told)) in
            let kept' : sound (after t (change_to (page_for c) change.becomes change.retires)) ≡ true = ap (λ (x : Change). sound (after t x)) (sym same) ∙ ap (λ (x : Option Change). sound (moved_to t x)) (sym e) ∙ kept in
            ap (λ (g : Page). frames_held t - frame_total g + frame_total change.becomes) decision_told.told.before_told
            ∙ held_after_lem t (page_for c) change.becomes change.retires (page_near c) ok kept'
            ∙ ap (λ (x : Change). frames_held (after t x)) (sym same)
