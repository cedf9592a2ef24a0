-- A read as a part of a store. In order: the bytes at a place; the place that a decision shows; the place of a read, which lies within its store and has the data of the step.
use Prim.Native.Nat.{ℕ, ◌+◌, ◌≤◌, ◌<◌, zero-le}
use mathlib.Core.Path.{◌≡◌, refl, sym, ap, subst, ◌∙◌}
use mathlib.Core.Bool.{Bool, true, false, cond}
use mathlib.Core.List.{List, []}
use native.Mathlib.Omega.{arith}
use lib.ListN.{length}
use lib.Dec.{ltb}
use borrow.Author.Tests.{ltb-true, leb-true}
use Rattle.tables.specs.declared.Tables.{Tables}
use Rattle.tables.specs.Model.{frames, copies_in_use, page_at}
use Rattle.tables.proofs.ListLaws.{and_left, and_right}
use Rattle.steps.specs.declared.Kind.TheVariants.{Read}
use Rattle.steps.specs.declared.Call.{Call}
use Rattle.steps.specs.declared.Place.{Place}
use Rattle.steps.specs.declared.Work.{Work}
use Rattle.steps.specs.declared.Work.TheVariants.{Shows}
use Rattle.steps.specs.declared.Show.TheVariants as Show
use Rattle.steps.specs.declared.Decision.{Decision}
use Rattle.steps.specs.Stores.{part}
use Rattle.steps.specs.declared.Plan.{Plan}
use Rattle.steps.specs.Steps.{Outcome, refuse, accept, mapped, first_current, page_for, view_of, rules_number, decide_any}
use Rattle.steps.specs.Effects.{shown_of, State, carried_out, step, data_of, no_place, work_at, place_of, read_place}
use Rattle.steps.specs.Promises.{decision_on, decision_of, bytes_at, pointer_at, ReadPart}
use Rattle.steps.specs.Private.{Room, PlaceIn}
use Rattle.steps.proofs.DecisionLaws.{refused_by}
use Rattle.steps.proofs.StoreLaws.{length_part, frame_in, frame_bytes}
use Rattle.steps.proofs.DecideLaws.{IfAccepted, if_accepted, past_number}
use Rattle.steps.proofs.PlanLaws.{read_shows}
use Rattle.steps.proofs.StepLaws.{fit_lengths, rules_listed, Sure, sure}

-- ---- the bytes at a place

-- as many as the place says
length_bytes : (place : Place) (x y : List ℕ) → PlaceIn place x y → length (bytes_at place x y) ≡ place.len
length_bytes place x y h = length_part (cond place.slow y x) place.start place.len h

-- a place within one of two stores ends below what both are below
pub place_low : (place : Place) (x y : List ℕ) (limit : ℕ) → PlaceIn place x y → length x < limit → length y < limit
    → place.start + place.len < limit
place_low place x y limit h k l = go place.slow h
  where
    go : (b : Bool) → place.start + place.len ≤ length (cond b y x) → place.start + place.len < limit
    go true h = omega arith
    go false h = omega arith

-- ---- what a decision shows

module _ (t : Tables) (fast slow : ℕ) (c : Call) where
  -- the place of what it shows or lays is that of the read
  pub place_told : (d : Decision) → accept d ≡ decision_of t c (decide_any t fast slow c 0) → (w : Work) → d.work ≡ w
      → work_at t.shared.p w d.len ≡ read_place t fast slow c
  place_told d is w e = go (decide_any t fast slow c 0) is
    where
      go : (o : Outcome Plan) → accept d ≡ decision_of t c o → work_at t.shared.p w d.len ≡ place_of t.shared.p o
      go (refuse n) is = cc
      go (accept plan) is =
          let same : d ≡ decision_on (page_for c) (page_at t (page_for c)) plan = cc in
          rw (← e, same) refl

  -- and one that is turned back has none
  pub no_place_told : {n : ℕ} → refuse n ≡ decision_of t c (decide_any t fast slow c 0) → no_place ≡ read_place t fast slow c
  no_place_told e = sym (ap (place_of t.shared.p) (refused_by t c (decide_any t fast slow c 0) e))

-- ---- a read

module _ (s : State) (c : Call) (kind : c.kind ≡ Read) where
  -- what it comes to, and what it shows where it is accepted
  abbrev o : Outcome Plan
  o = decide_any s.tables (length s.fast) (length s.slow) c 0

  shows : IfAccepted (λ (plan : Plan). plan.work ≡ Shows (Show.Frame (first_current (copies_in_use (page_at s.tables (page_for c)))) c.offset)) o
  shows =
      past_number (rules_number s.tables (length s.fast) (length s.slow)) (rules_listed s.tables (length s.fast) (length s.slow)) (λ _.
      read_shows (view_of s.tables c) c 0 kind)

  -- the bytes that an accepted one shows are those of a frame
  shown_room : (plan : Plan) → Sure s c [] plan → (f a : ℕ) → plan.work ≡ Shows (Show.Frame f a)
      → Room s.fast s.slow s.tables.shared.p f × (a + plan.len ≤ 64)
  shown_room plan u f a w =
      let i = rw w at u.plan_ok.inside in
      let l = fit_lengths s.tables (length s.fast) (length s.slow) u.good.stores_fit in
      let h = ltb-true f (frames s.tables) (and_left (ltb f (frames s.tables)) _ i) in
      (record { split = l.0; there = omega arith }, leb-true (a + plan.len) 64 (and_right (ltb f (frames s.tables)) _ i))

  -- its place lies within its store
  pub read_in : PlaceIn (read_place s.tables (length s.fast) (length s.slow) c) s.fast s.slow
  read_in = go o (sure s c []) shows
    where
      go : (o : Outcome Plan) → IfAccepted (Sure s c []) o
          → IfAccepted (λ (plan : Plan). plan.work ≡ Shows (Show.Frame (first_current (copies_in_use (page_at s.tables (page_for c)))) c.offset)) o
          → PlaceIn (place_of s.tables.shared.p o) s.fast s.slow
      go (refuse n) k w = zero-le
      go (accept plan) (if_accepted u) (if_accepted w) =
          let r = shown_room plan u _ _ w in
          rw w (frame_in s.fast s.slow s.tables.shared.p _ _ _ r.0 r.1)

  -- and the bytes there are the data of the step
  pub read_bytes : bytes_at (read_place s.tables (length s.fast) (length s.slow) c) s.fast s.slow ≡ data_of (step s c [])
  unfolding step shown_of part
  read_bytes = go o (sure s c []) shows
    where
      go : (o : Outcome Plan) → IfAccepted (Sure s c []) o
          → IfAccepted (λ (plan : Plan). plan.work ≡ Shows (Show.Frame (first_current (copies_in_use (page_at s.tables (page_for c)))) c.offset)) o
          → bytes_at (place_of s.tables.shared.p o) s.fast s.slow ≡ data_of (mapped (carried_out s c []) o)
      go (refuse n) k w = refl
      go (accept plan) (if_accepted u) (if_accepted w) =
          let r = shown_room plan u _ _ w in
          rw w (frame_bytes s.fast s.slow s.tables.shared.p _ _ _ r.0 r.1)

  -- So this is known of bytes that are had at that place, and of where they are.
  module _ (place : Place) (is : place ≡ read_place s.tables (length s.fast) (length s.slow) c) where
    pub had_in : PlaceIn place s.fast s.slow
    had_in = subst (λ (q : Place). PlaceIn q s.fast s.slow) (sym is) read_in

    pub had : (x y at : ℕ × ℕ) (bytes : List ℕ) → bytes ≡ bytes_at place s.fast s.slow → at ≡ pointer_at place x y
        → ReadPart (step s c []) (read_place s.tables (length s.fast) (length s.slow) c) x y at bytes
    had x y at bytes b r =
        record {
          bytes_told = b ∙ ap (λ (q : Place). bytes_at q s.fast s.slow) is ∙ read_bytes;
          len_told = ap length b ∙ length_bytes place s.fast s.slow had_in ∙ ap (λ (q : Place). q.len) is;
          pointer_told = r ∙ ap (λ (q : Place). pointer_at q x y) is;
        }
