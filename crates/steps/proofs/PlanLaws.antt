-- What an accepted call does, kind by kind: its plan, and what had to be so for it to be accepted. One walk over the
-- kinds, on any view of any tables.
use Prim.Native.Nat.{ℕ, ◌+◌, ◌*◌, ◌<◌}
use mathlib.Core.Path.{◌≡◌, refl, ap, ◌∙◌}
use mathlib.Core.Bool.{Bool, true, false, not, ◌&&◌, cond}
use lib.ListN.{length}
use lib.Dec.{eqb}
use borrow.Author.Tests.{not-false}
use Rattle.tables.specs.declared.Copy.{Copy}
use Rattle.tables.specs.declared.Page.{Page}
use Rattle.tables.specs.declared.Edit.TheVariants.{Kept, Created, Deleted, Granted, Staled, Placed, Added, Removed, Marked}
use Rattle.tables.specs.Numbers.{frame_held}
use Rattle.tables.specs.Model.{null_frame, is_null, copies_in_use, absent}
use Rattle.tables.specs.Search.{is_free, is_retired}
use Rattle.steps.specs.declared.Kind.{Kind}
use Rattle.steps.specs.declared.Kind.TheVariants.{Create, DeletePage, Grant, Read, Write, MakeCopy, DeleteCopy, SetCurrent, RemoveCurrent, LookPage, LookFrame, Retire}
use Rattle.steps.specs.declared.Act.{Act}
use Rattle.steps.specs.declared.Call.{Call}
use Rattle.steps.specs.declared.View.{View}
use Rattle.steps.specs.declared.Lay.TheVariants.{Nothing, Zeros, ZerosEach, Duplicate, Spread}
use Rattle.steps.specs.declared.Show.TheVariants as Show
use Rattle.steps.specs.declared.Work.TheVariants.{Shows, Lays}
use Rattle.steps.specs.Calls.{outside}
use Rattle.steps.specs.declared.Plan.{Plan}
use Rattle.steps.specs.Steps.{test, plan_of, no_work, editing, retiring, laying, may, owns, copy_at, currents, recents, placed_count, first_current, copying, perform, decide_on}
use Rattle.steps.proofs.RangeLaws.{Ranged, ranged}
use Rattle.steps.proofs.DecideLaws.{IfAccepted, IfDecided, if_accepted, past, past_number, past_nine, past_copy, then_keeps, as_listed, range_listed}

-- ---- what is known

-- a station's act on a page that stands, and of which a copy is CURRENT
abbrev pub Access : Page → ℕ → Act → Type 0
Access g station act = (absent g ≡ false) × ((may g station act ≡ true) × (eqb (currents g) 0 ≡ false))

-- what a call of kind k needs, on the record g of its page
abbrev pub Needs : Page → Call → Kind → Type 0
Needs g c Create = absent g ≡ true
Needs g c DeletePage = (absent g ≡ false) × (owns g c.station ≡ true)
Needs g c Grant = (absent g ≡ false) × (owns g c.station ≡ true)
Needs g c Read = Access g c.station Act.Read
Needs g c Write = Access g c.station Act.Write
Needs g c MakeCopy = (absent g ≡ false) × (c.copy < g.n)
Needs g c DeleteCopy = (absent g ≡ false) × (c.copy < g.n)
Needs g c SetCurrent = (absent g ≡ false) × (c.copy < g.n)
Needs g c RemoveCurrent = (absent g ≡ false) × (c.copy < g.n)
Needs g c LookPage = absent g ≡ false
Needs g c LookFrame = Unit {0}
Needs g c Retire = Unit {0}

-- the plan of a make copy of copy k to frame f, which is a null copy or not
abbrev pub copy_plan : Copy → ℕ → Bool → Plan
copy_plan k f z =
    cond z (plan_of (Placed f) null_frame 64 0 (Lays (Zeros f) null_frame))
    (plan_of (Added f k.recent) null_frame 64 0 (Lays (Duplicate k.frame f) null_frame))

-- the plan of an accepted call of kind k
abbrev pub plan_for : View → Call → ℕ → Kind → Plan
plan_for v c size Create = plan_of (Created c.station) null_frame 0 0 no_work
plan_for v c size DeletePage = plan_of Deleted null_frame (64 * placed_count v.page) 0 (Lays ZerosEach null_frame)
plan_for v c size Grant = plan_of (Granted c.other c.right) null_frame 0 0 no_work
plan_for v c size Read =
    plan_of Kept null_frame 0 c.count (Shows (Show.Frame (first_current (copies_in_use v.page)) c.offset))
plan_for v c size Write = plan_of Staled null_frame (size * currents v.page) 0 (Lays (Spread c.offset) null_frame)
plan_for v c size MakeCopy =
    let k = copy_at v.page c.copy in
    copy_plan k c.frame (is_null k)
plan_for v c size DeleteCopy =
    plan_of (Removed c.copy) null_frame 64 0 (Lays Nothing (copy_at v.page c.copy).frame)
plan_for v c size SetCurrent = plan_of (Marked c.copy true) null_frame 0 0 no_work
plan_for v c size RemoveCurrent = plan_of (Marked c.copy false) null_frame 0 0 no_work
plan_for v c size LookPage = plan_of Kept null_frame 0 (1 + 3 * length (copies_in_use v.page)) (Shows Show.Page)
plan_for v c size LookFrame = plan_of Kept null_frame 0 3 (Shows (Show.Holder v.holder))
plan_for v c size Retire = plan_of Kept (cond (is_retired v.holder) null_frame c.frame) 0 0 no_work

pub record Does (v : View) (c : Call) (size : ℕ) (k : Kind) (plan : Plan) : Type 0 where
  pub plan_is : plan ≡ plan_for v c size k
  pub needs : Needs v.page c k

-- ---- the walk

module _ (v : View) (c : Call) (size : ℕ) where
  abbrev g : Page
  g = v.page

  copy_does : Needs g c MakeCopy → IfDecided (Does v c size MakeCopy) (copying (copy_at g c.copy) c.frame)
  copy_does n = go (is_null (copy_at g c.copy)) refl
    where
      go : (z : Bool) → is_null (copy_at g c.copy) ≡ z
          → IfDecided (Does v c size MakeCopy) (cond z (laying (Placed c.frame) 64 (Zeros c.frame))
          (laying (Added c.frame (copy_at g c.copy).recent) 64
          (Duplicate (copy_at g c.copy).frame c.frame)))
      go true z =
          let d : Does v c size MakeCopy (copy_plan (copy_at g c.copy) c.frame true) =
          record { plan_is = rw z; needs = n } in
          if_accepted d
      go false z =
          let d : Does v c size MakeCopy (copy_plan (copy_at g c.copy) c.frame false) =
          record { plan_is = rw z; needs = n } in
          if_accepted d

  perform_does : (k : Kind) → IfDecided (Does v c size k) (perform v c size k)
  unfolding perform
  perform_does Create =
      past (not (absent g)) _ refl (λ e. if_accepted (record { plan_is = refl; needs = not-false _ e }))
  perform_does DeletePage =
      past_nine g (owns g c.station) (λ some own. if_accepted (record { plan_is = refl; needs = (some, own) }))
  perform_does Grant =
      past_nine g (owns g c.station) (λ some own. if_accepted (record { plan_is = refl; needs = (some, own) }))
  perform_does Read =
      past_nine g (may g c.station Act.Read) (λ some right. past (eqb (currents g) 0) _ refl (λ cur.
      if_accepted (record { plan_is = refl; needs = (some, (right, cur)) })))
  perform_does Write =
      past_nine g (may g c.station Act.Write) (λ some right. past (eqb (currents g) 0) _ refl (λ cur.
      if_accepted (record { plan_is = refl; needs = (some, (right, cur)) })))
  perform_does MakeCopy =
      past_copy g c.copy (λ some less. past (is_retired v.holder) _ refl (λ _.
      past (not (is_free v.holder)) _ refl (λ _. past (eqb g.n 8) _ refl (λ _. copy_does (some, less)))))
  perform_does DeleteCopy =
      past_copy g c.copy (λ some less. past ((copy_at g c.copy).recent && eqb (recents g) 1) _ refl (λ _.
      if_accepted (record { plan_is = refl; needs = (some, less) })))
  perform_does SetCurrent =
      past_copy g c.copy (λ some less. past (is_null (copy_at g c.copy)) _ refl (λ _.
      past (not (copy_at g c.copy).recent) _ refl (λ _.
      if_accepted (record { plan_is = refl; needs = (some, less) }))))
  perform_does RemoveCurrent =
      past_copy g c.copy (λ some less. if_accepted (record { plan_is = refl; needs = (some, less) }))
  perform_does LookPage = past (absent g) _ refl (λ some. if_accepted (record { plan_is = refl; needs = some }))
  perform_does LookFrame = if_accepted (record { plan_is = refl; needs = tt })
  perform_does Retire = by (is_retired v.holder) refl
    where
      by : (b : Bool) → is_retired v.holder ≡ b → IfDecided (Does v c size Retire)
          (cond b (editing Kept) (test (not (is_free v.holder)) frame_held (retiring c.frame)))
      by true e =
          let d : Does v c size Retire (plan_of Kept null_frame 0 0 no_work) = record { plan_is = rw e; needs = tt } in
          if_accepted d
      by false e =
          let d : Does v c size Retire (plan_of Kept c.frame 0 0 no_work) = record { plan_is = rw e; needs = tt } in
          past (not (is_free v.holder)) _ refl (λ _. if_accepted d)

  -- what a call does, and that what it names is in range
  pub decide_does : IfAccepted (λ (plan : Plan). Does v c size c.kind plan × Ranged v.frames size c)
      (decide_on v c size)
  unfolding decide_on
  decide_does =
      as_listed (past_number (outside v.frames size c) (range_listed v.frames size c) (λ z.
      then_keeps (λ plan d. (d, ranged v.frames size c z)) (perform_does c.kind)))

  -- an accepted read shows bytes of the lowest-numbered CURRENT copy
  pub read_shows : c.kind ≡ Read
      → IfAccepted (λ (plan : Plan). plan.work ≡ Shows (Show.Frame (first_current (copies_in_use g)) c.offset))
      (decide_on v c size)
  read_shows is =
      then_keeps (λ plan d. ap (λ (w : Plan). w.work) d.0.plan_is ∙ rw is) decide_does

  -- an accepted retire retires the frame, where it is not already, and does nothing else
  pub retire_plans : c.kind ≡ Retire
      → IfAccepted (λ (plan : Plan). plan ≡ plan_of Kept (cond (is_retired v.holder) 255 c.frame) 0 0 no_work)
      (decide_on v c size)
  retire_plans is = then_keeps (λ plan d. d.0.plan_is ∙ rw is) decide_does
