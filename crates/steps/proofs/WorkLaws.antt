-- What a work that lies within the stores leaves of them: their length, and the bytes of every frame that it does not
-- lay into. In order: what is laid; the frame that is filled; both together.
use Prim.Native.Nat.{ℕ, ◌+◌, ◌*◌, ◌≤◌, zero-le}
use mathlib.Core.Path.{◌≡◌, refl, ◌∙◌}
use mathlib.Core.Bool.{Bool, true, false, ◌||◌, cond}
use mathlib.Core.List.{List, [], ◌∷◌, ◌++◌}
use native.Mathlib.Omega.{arith}
use lib.ListN.{length}
use lib.Dec.{leb, ltb, eqb}
use borrow.Author.Tests.{ltb-true, leb-true}
use Rattle.tables.specs.declared.Page.{Page}
use Rattle.tables.specs.Lists.{all, listed}
use Rattle.tables.specs.Model.{copies_in_use}
use Rattle.tables.specs.Rules.{is_current}
use Rattle.tables.proofs.ListLaws.{and_intro, and_left, and_right, or_left, or_right}
use Rattle.steps.specs.declared.Lay.{Lay}
use Rattle.steps.specs.declared.Lay.TheVariants.{Nothing, Zeros, ZerosEach, Duplicate, Spread}
use Rattle.steps.specs.declared.Work.{Work}
use Rattle.steps.specs.declared.Work.TheVariants.{Shows, Lays}
use Rattle.steps.specs.Stores.{block, zeros}
use Rattle.steps.specs.Steps.{is_placed}
use Rattle.steps.specs.Effects.{laid_frames, laid_from, laid_bytes, laid_in, cleared_frames, cleared_in, laid_into, stored}
use Rattle.steps.specs.Promises.{lay_within, clear_within, work_within}
use Rattle.steps.proofs.StoreLaws.{length_part}
use Rattle.steps.proofs.Blocks.{below, length_all, all_other, frames_low}

module _ (g : Page) (limit : ℕ) (bs st : List ℕ) (long : length st ≡ 64 * limit) where
  -- ---- what is laid

  lay_low : (l : Lay) → lay_within g limit (length bs) l ≡ true → all (below limit) (laid_frames g l) ≡ true
  unfolding all laid_frames
  lay_low Nothing e = refl
  lay_low (Zeros f) e = and_intro e refl
  lay_low ZerosEach e = frames_low is_placed limit (copies_in_use g) e
  lay_low (Duplicate from to) e = and_intro (and_right (ltb from limit) _ e) refl
  lay_low (Spread o) e = frames_low is_current limit (copies_in_use g) (and_right (leb (o + length bs) 64) _ e)

  lay_span : (l : Lay) → lay_within g limit (length bs) l ≡ true → laid_from l + length (laid_bytes l bs st) ≤ 64
  lay_span Nothing e = zero-le
  lay_span (Zeros f) e = omega arith
  lay_span ZerosEach e = omega arith
  lay_span (Duplicate from to) e =
      let h = ltb-true from limit (and_left (ltb from limit) _ e) in
      let b = length_part st (64 * from) 64 (omega arith) in
      omega arith
  lay_span (Spread o) e = leb-true (o + length bs) 64 (and_left (leb (o + length bs) 64) _ e)

  module _ (l : Lay) (e : lay_within g limit (length bs) l ≡ true) where
    pub length_laid : length (laid_in g l bs st) ≡ 64 * limit
    length_laid = length_all limit (laid_from l) (laid_bytes l bs st) (lay_span l e) (laid_frames g l) st long (lay_low l e)

    pub laid_other : (x : ℕ) → listed x (laid_frames g l) ≡ false → block (laid_in g l bs st) x ≡ block st x
    laid_other x none = all_other limit (laid_from l) (laid_bytes l bs st) (lay_span l e) (laid_frames g l) st long (lay_low l e) x none

-- ---- the frame that is filled

module _ (limit : ℕ) (st : List ℕ) (long : length st ≡ 64 * limit) (f : ℕ) (e : clear_within limit f ≡ true) where
  clear_low : all (below limit) (cleared_frames f) ≡ true
  unfolding all
  clear_low = go (eqb f 255) e
    where
      go : (z : Bool) → (z || ltb f limit) ≡ true → all (below limit) (cond z [] (f ∷ [])) ≡ true
      go true e = refl
      go false e = and_intro e refl

  pub length_cleared : length (cleared_in f st) ≡ 64 * limit
  length_cleared = length_all limit 0 zeros (omega arith) (cleared_frames f) st long clear_low

  pub cleared_other : (x : ℕ) → listed x (cleared_frames f) ≡ false → block (cleared_in f st) x ≡ block st x
  cleared_other x none = all_other limit 0 zeros (omega arith) (cleared_frames f) st long clear_low x none

-- ---- a work

listed_left : (x : ℕ) (fs hs : List ℕ) → listed x (fs ++ hs) ≡ false → listed x fs ≡ false
listed_left x [] hs e = refl
listed_left x (f ∷ fs) hs e = go (eqb x f) e (listed_left x fs hs)
  where
    go : (b : Bool) → (b || listed x (fs ++ hs)) ≡ false → (listed x (fs ++ hs) ≡ false → listed x fs ≡ false) → (b || listed x fs) ≡ false
    go true e later = e
    go false e later = later e

listed_right : (x : ℕ) (fs hs : List ℕ) → listed x (fs ++ hs) ≡ false → listed x hs ≡ false
listed_right x [] hs e = e
listed_right x (f ∷ fs) hs e = listed_right x fs hs (or_right (eqb x f) _ e)

pub not_in_either : (x : ℕ) (fs hs : List ℕ) → listed x fs ≡ false → listed x hs ≡ false → listed x (fs ++ hs) ≡ false
not_in_either x [] hs e e' = e'
not_in_either x (f ∷ fs) hs e e' = rw (or_left (eqb x f) _ e) (not_in_either x fs hs (or_right (eqb x f) _ e) e')

module _ (g : Page) (limit len : ℕ) (bs st : List ℕ) (long : length st ≡ 64 * limit) where
  pub length_stored : (w : Work) → work_within g len limit (length bs) w ≡ true → length (stored g w bs st) ≡ 64 * limit
  length_stored (Shows s) e = long
  length_stored (Lays l f) e =
      length_cleared limit (laid_in g l bs st) (length_laid g limit bs st long l (and_left (lay_within g limit (length bs) l) _ e)) f
      (and_right (lay_within g limit (length bs) l) _ e)

  -- every frame that it does not lay into keeps its bytes
  pub elsewhere_kept : (w : Work) → work_within g len limit (length bs) w ≡ true → (x : ℕ) → listed x (laid_into g w) ≡ false
      → block (stored g w bs st) x ≡ block st x
  elsewhere_kept (Shows s) e x none = refl
  elsewhere_kept (Lays l f) e x none =
      let inside = and_left (lay_within g limit (length bs) l) _ e in
      cleared_other limit (laid_in g l bs st) (length_laid g limit bs st long l inside) f (and_right (lay_within g limit (length bs) l) _ e) x
      (listed_right x (laid_frames g l) (cleared_frames f) none)
      ∙ laid_other g limit bs st long l inside x (listed_left x (laid_frames g l) (cleared_frames f) none)
