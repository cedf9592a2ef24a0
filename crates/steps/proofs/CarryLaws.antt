-- What `carry` leaves: all as lent where the decision does not lie within it, and else what its work says. In order:
-- what is lent; the first test; what is left.
use Prim.Native.Nat.{ℕ, ◌/◌, ◌%◌, ◌≤◌, ◌<◌}
use mathlib.Core.Path.{◌≡◌, refl, ◌∙◌}
use mathlib.Core.Bool.{Bool, true, false, not, ◌&&◌, ◌||◌}
use mathlib.Core.List.{List, ◌++◌}
use native.Mathlib.Omega.{arith}
use lib.ListN.{length, get_or}
use lib.Dec.{ltb, eqb}
use borrow.Author.Tests.{ltb-true, ltb-false, eqb-true, le-leb, lt-leb, not-true, not-false}
use Rattle.tables.specs.declared.Copy.{Copy}
use Rattle.tables.specs.declared.Page.{Page}
use Rattle.tables.specs.Lists.{all}
use Rattle.tables.specs.Model.{copies_in_use, zero_copy}
use Rattle.tables.proofs.ListLaws.{or_left, or_right, all_at}
use Rattle.steps.specs.declared.Work.{Work}
use Rattle.steps.specs.declared.Decision.{Decision}
use Rattle.steps.specs.Stores.{over}
use Rattle.steps.specs.Effects.{stored, work_data}
use Rattle.steps.specs.Promises.{lent, frame_within, work_within, carried}
use Rattle.steps.specs.Private.{Room, EachBelow, frames_in}
use Rattle.steps.proofs.StoreLaws.{taken_apart}
use Rattle.steps.proofs.Blocks.{within_low}

-- ---- what is lent

-- a frame below the limit is in one of the stores
pub room_at : (x y : List ℕ) → length x % 64 ≡ 0 → (f : ℕ) → f < frames_in x y → Room x y (length x / 64) f
room_at x y whole f h = record { split = omega arith; there = omega arith }

-- the frame of each copy that lies within is below the limit
pub each_below : (those : Copy → Bool) (limit : ℕ) (g : Page) → all (frame_within those limit) (copies_in_use g) ≡ true
    → EachBelow (λ (c : Copy). those c ≡ true) limit g
each_below those limit g e i h u =
    within_low those limit (get_or (copies_in_use g) i zero_copy)
    (all_at (frame_within those limit) (copies_in_use g) i zero_copy e h) u

-- one of two tests fails
pub not_left : (a b : Bool) → a ≡ false → (a && b) ≡ false
not_left a b e = rw e

pub not_right : (a b : Bool) → b ≡ false → (a && b) ≡ false
not_right true b e = e
not_right false b e = refl

-- ---- the first test

-- the buffer is short, or the fast store is no whole number of frames
abbrev pub unfit : List ℕ → List ℕ → Bool
unfit x out = ltb (length out) 64 || not (eqb (length x % 64) 0)

module _ (x out : List ℕ) (fit : unfit x out ≡ false) where
  pub out_long : 64 ≤ length out
  out_long = ltb-false (length out) 64 (or_left (ltb (length out) 64) _ fit)

  pub whole_frames : length x % 64 ≡ 0
  whole_frames = eqb-true (length x % 64) 0 (not-false _ (or_right (ltb (length out) 64) _ fit))

-- ---- what is left

pub lent_same : {x x' y y' out out' : List ℕ} → x ≡ x' → y ≡ y' → out ≡ out' → lent x y out ≡ lent x' y' out'
lent_same p q r = cc

module _ (d : Decision) (bs x y out : List ℕ) where
  pub carried_unfit : unfit x out ≡ true → lent x y out ≡ carried d bs (lent x y out)
  unfolding carried
  carried_unfit e = go (ltb (length out) 64) refl e
    where
      go : (b : Bool) → ltb (length out) 64 ≡ b → (b || not (eqb (length x % 64) 0)) ≡ true → lent x y out ≡ carried d bs (lent x y out)
      go true q h = rw (lt-leb 64 (length out) (ltb-true (length out) 64 q))
      go false q h = rw (le-leb 64 (length out) (ltb-false (length out) 64 q), not-true (eqb (length x % 64) 0) h)

  module _ (fit : unfit x out ≡ false) (w : Work) (is : d.work ≡ w) where
    pub carried_outside : work_within d.before d.len (frames_in x y) (length bs) w ≡ false → lent x y out ≡ carried d bs (lent x y out)
    unfolding carried
    carried_outside e = rw (le-leb 64 (length out) (out_long x out fit), whole_frames x out fit, is, e)

    pub carried_fit : work_within d.before d.len (frames_in x y) (length bs) w ≡ true → (x' y' out' : List ℕ) → length x' ≡ length x
        → x' ++ y' ≡ stored d.before w bs (x ++ y) → out' ≡ over (work_data d.before w d.len (x ++ y)) out
        → lent x' y' out' ≡ carried d bs (lent x y out)
    unfolding carried
    carried_fit e x' y' out' l j o =
        let k = taken_apart x' y' (stored d.before w bs (x ++ y)) (length x) l j in
        lent_same k.0 k.1 o ∙ rw (le-leb 64 (length out) (out_long x out fit), whole_frames x out fit, is, e)
