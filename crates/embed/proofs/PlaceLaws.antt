-- The place of a read goes into one number.
use Prim.Native.Nat.{ℕ, ◌+◌, ◌-◌, ◌*◌, ◌≤◌, ◌<◌}
use mathlib.Core.Path.{◌≡◌}
use mathlib.Core.Bool.{Bool, true, false, cond}
use native.Mathlib.Omega.{arith}
use lib.Dec.{ltb}
use borrow.Author.Tests.{ltb-true, leb-true}
use Rattle.tables.specs.declared.Page.{Page}
use Rattle.tables.specs.declared.Tables.{Tables}
use Rattle.tables.specs.Model.{frames, page_at}
use Rattle.tables.specs.Rules.{sound}
use Rattle.tables.proofs.ListLaws.{and_left, and_right}
use Rattle.tables.proofs.RuleLaws.{sound_of, few_frames}
use Rattle.steps.specs.declared.Call.{Call}
use Rattle.steps.specs.declared.Work.{Work}
use Rattle.steps.specs.declared.Work.TheVariants.{Shows, Lays}
use Rattle.steps.specs.declared.Show.{Show}
use Rattle.steps.specs.declared.Plan.{Plan}
use Rattle.steps.specs.Steps.{page_for, Outcome, refuse, accept, rules_number, decide_any}
use Rattle.steps.specs.Effects.{frame_place, no_place, shown_at, work_at, place_of, read_place}
use Rattle.steps.specs.Promises.{show_within, work_within}
use Rattle.steps.proofs.DecideLaws.{IfAccepted, if_accepted, past_number, then_keeps, as_listed, PlanOk, decide_ok}
use Rattle.steps.proofs.StepLaws.{rules_listed, ruled}
use Rattle.embed.specs.Private.{Small}

nowhere_small : Small no_place
nowhere_small = record { start_low = omega arith; len_low = omega arith }

frame_small : (p f offset len : ℕ) → f < 254 → offset + len ≤ 64 → Small (frame_place p f offset len)
frame_small p f offset len h k = go (ltb f p)
  where
    go : (b : Bool)
        → Small (cond b (record { slow = false; start = 64 * f + offset; len = len })
        (record { slow = true; start = 64 * (f - p) + offset; len = len }))
    go true = record { start_low = omega arith; len_low = omega arith }
    go false = record { start_low = omega arith; len_low = omega arith }

show_small : (p limit len : ℕ) (s : Show) → limit ≤ 254 → show_within len limit s ≡ true → Small (shown_at p s len)
show_small p limit len (Show.Frame f offset) h e =
    let low = ltb-true f limit (and_left (ltb f limit) _ e) in
    frame_small p f offset len (omega arith) (leb-true (offset + len) 64 (and_right (ltb f limit) _ e))
show_small p limit len Show.Page h e = nowhere_small
show_small p limit len (Show.Holder holder) h e = nowhere_small

work_small : (p limit len : ℕ) (g : Page) (w : Work) → limit ≤ 254 → work_within g len limit 0 w ≡ true
    → Small (work_at p w len)
work_small p limit len g (Shows s) h e = show_small p limit len s h e
work_small p limit len g (Lays l f) h e = nowhere_small

module _ (t : Tables) (fast slow : ℕ) (c : Call) where
  -- what is known where it is accepted
  sure : IfAccepted (λ (plan : Plan). (sound t ≡ true) × PlanOk t c 0 c.kind plan) (decide_any t fast slow c 0)
  sure =
      past_number (rules_number t fast slow) (rules_listed t fast slow) (λ z.
      let ok = (ruled t fast slow z).0 in
      then_keeps (λ plan k. (ok, k)) (as_listed (decide_ok t c 0 ok)))

  pub read_small : Small (read_place t fast slow c)
  read_small = go (decide_any t fast slow c 0) sure
    where
      go : (o : Outcome Plan) → IfAccepted (λ (plan : Plan). (sound t ≡ true) × PlanOk t c 0 c.kind plan) o
          → Small (place_of t.shared.p o)
      go (refuse n) k = nowhere_small
      go (accept plan) (if_accepted u) =
          let s = sound_of t u.0 in
          work_small t.shared.p (frames t) plan.len (page_at t (page_for c)) plan.work (omega (arith, few_frames s)) u.1.inside
