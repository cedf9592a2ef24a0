-- What a work leaves in the frames that its page does not have after it: a frame that the page had holds 64 zeros, and
-- one that it did not have either keeps its bytes, since the work does not lay into it. In order: what is asked of a
-- work for that; records that are on the same frames; a write; a new copy; a copy or all of them deleted; on which
-- frames a changed record is.
use Prim.Native.Nat.{ℕ, ◌+◌, ◌*◌, ◌≤◌, ◌<◌}
use mathlib.Core.Path.{◌≡◌, refl, sym, ap, ap₂, ◌∙◌, subst}
use mathlib.Core.Logic.{◌≢◌}
use mathlib.Core.Bool.{Bool, true, false, not, ◌&&◌, cond, and-false}
use mathlib.Core.List.{List, [], ◌∷◌}
use native.Mathlib.Omega.{arith}
use lib.ListN.{length}
use lib.Dec.{eqb}
use borrow.Author.Tests.{eqb-true, eqb-false, eq-eqb, ne_eqb}
use Rattle.tables.specs.declared.Copy.{Copy}
use Rattle.tables.specs.declared.Page.{Page}
use Rattle.tables.specs.Lists.{all, count, listed}
use Rattle.tables.specs.declared.Edit.TheVariants.{Kept, Created, Granted, Placed}
use Rattle.tables.specs.Model.{is_null, copies_in_use, absent, on_frame}
use Rattle.tables.specs.Rules.{is_current}
use Rattle.tables.specs.Changes.{changed}
use Rattle.tables.proofs.RuleLaws.{StandingPage, copy_at_lem}
use Rattle.tables.proofs.PageChanges.{created_on, placed_on}
use Rattle.steps.specs.declared.Lay.{Lay}
use Rattle.steps.specs.declared.Lay.TheVariants.{Nothing, ZerosEach, Spread}
use Rattle.steps.specs.declared.Work.{Work}
use Rattle.steps.specs.declared.Work.TheVariants.{Lays}
use Rattle.steps.specs.Stores.{block, zeros, frames_of, lay_frames}
use Rattle.steps.specs.Steps.{is_placed, copy_at}
use Rattle.steps.specs.Effects.{laid_frames, laid_into, stored}
use Rattle.steps.specs.Promises.{frame_within, work_within}
use Rattle.steps.proofs.StoreLaws.{length_part, splice_all}
use Rattle.steps.proofs.Blocks.{block_lay_whole, one_on, off_frames, each_own}
use Rattle.steps.proofs.WorkLaws.{not_in_either, elsewhere_kept}

-- how many copies of a page are on frame f
abbrev pub on : ℕ → Page → ℕ
on f g = count (on_frame f) (copies_in_use g)

-- frame f of stores st, cleared where page g had it
abbrev pub freed : Page → List ℕ → ℕ → List ℕ
freed g st f = cond (not (eqb (on f g) 0)) zeros (block st f)

-- the stores st become st', and the record g of a page becomes g'
abbrev pub Clears : ℕ → Page → Page → List ℕ → List ℕ → Type 0
Clears limit g g' st st' = (f : ℕ) → f < limit → on f g' ≡ 0 → block st' f ≡ freed g st f

-- what is asked of a work w on page g whose record becomes g', where a write has `size` bytes
pub record Frees (limit size : ℕ) (g g' : Page) (w : Work) : Type 0 where
  -- it lays into no frame that the page neither had nor has
  pub own_only : (f : ℕ) → f < limit → on f g ≡ 0 → on f g' ≡ 0 → listed f (laid_into g w) ≡ false
  -- a frame that the page had, and has no more, is filled with zeros
  pub zeroed : (bs st : List ℕ) → length bs ≡ size → length st ≡ 64 * limit → (f : ℕ) → f < limit → 1 ≤ on f g → on f g' ≡ 0
      → block (stored g w bs st) f ≡ zeros

pub frees_clears : (limit len size : ℕ) (g g' : Page) (w : Work) → work_within g len limit size w ≡ true → Frees limit size g g' w
    → (bs st : List ℕ) → length bs ≡ size → length st ≡ 64 * limit → Clears limit g g' st (stored g w bs st)
frees_clears limit len size g g' w inside frees bs st b long f l none = go (eqb (on f g) 0) refl
  where
    go : (v : Bool) → eqb (on f g) 0 ≡ v → block (stored g w bs st) f ≡ cond (not v) zeros (block st f)
    go true e =
        elsewhere_kept g limit len bs st long w (subst (λ (n : ℕ). work_within g len limit n w ≡ true) (sym b) inside) f
        (frees.own_only f l (eqb-true (on f g) 0 e) none)
    go false e = let some = eqb-false (on f g) 0 e in frees.zeroed bs st b long f l (omega arith) none

module _ (limit size : ℕ) (g g' : Page) where
  -- ---- on the same frames

  -- no bytes laid
  pub kept_frees : (w : Work) → laid_into g w ≡ [] → ((f : ℕ) → f < limit → on f g' ≡ on f g) → Frees limit size g g' w
  kept_frees w none same =
      record {
        own_only = λ f l z z'. ap (listed f) none;
        zeroed = λ bs st b long f l some gone. absurd (omega (arith, same f l));
      }

  -- bytes laid into the CURRENT copies
  pub written_frees : (o : ℕ) → ((f : ℕ) → on f g' ≡ on f g) → Frees limit size g g' (Lays (Spread o) 255)
  unfolding laid_frames
  written_frees o same =
      record {
        own_only = λ f l z z'. not_in_either f (frames_of is_current (copies_in_use g)) [] (off_frames is_current f (copies_in_use g) z) refl;
        zeroed = λ bs st b long f l some gone. absurd (omega (arith, same f));
      }

  -- ---- with a new copy on frame x, into which alone bytes are laid
  pub made_frees : (x : ℕ) (l : Lay) → laid_frames g l ≡ x ∷ [] → ((f : ℕ) → f < limit → on f g' ≡ on f g + cond (eqb x f) 1 0)
      → Frees limit size g g' (Lays l 255)
  made_frees x l only more =
      record {
        own_only = λ f low z z'.
            let other : x ≢ f = λ e. let m = more f low in let i = eq-eqb x f e in omega (arith, rw i at m) in
            rw only (rw (ne_eqb f x (λ e. other (sym e))) refl);
        zeroed = λ bs st b long f low some gone. absurd (omega (arith, more f low));
      }

  -- ---- without the copy on frame x, which is filled
  pub removed_frees : (x : ℕ) → x < limit → eqb x 255 ≡ false → ((f : ℕ) → on f g' + cond (eqb x f) 1 0 ≡ on f g)
      → Frees limit size g g' (Lays Nothing x)
  unfolding laid_frames lay_frames
  removed_frees x low placed fewer =
      record {
        own_only = λ f l z z'.
            let other : x ≢ f = λ e. let m = fewer f in let i = eq-eqb x f e in omega (arith, rw i at m) in
            rw (placed, ne_eqb f x (λ e. other (sym e))) refl;
        zeroed = λ bs st b long f l some gone.
            let own : x ≡ f = own_frame f some gone in
            rw (placed, ← own) (block_lay_whole st x (omega arith) zeros refl);
      }
    where
      own_frame : (f : ℕ) → 1 ≤ on f g → on f g' ≡ 0 → x ≡ f
      own_frame f some gone = by (eqb x f) refl (fewer f)
        where
          by : (v : Bool) → eqb x f ≡ v → on f g' + cond v 1 0 ≡ on f g → x ≡ f
          by true e m = eqb-true x f e
          by false e m = absurd (omega arith)

-- ---- without any copy, each frame filled

-- a copy on a frame has one
on_placed : (f : ℕ) → f < 255 → (cs : List Copy) → count (one_on is_placed f) cs ≡ count (on_frame f) cs
unfolding count
on_placed f low [] = refl
on_placed f low (c ∷ cs) = ap₂ (λ (b : Bool) (n : ℕ). cond b 1 0 + n) (go (on_frame f c) refl) (on_placed f low cs)
  where
    go : (v : Bool) → on_frame f c ≡ v → (is_placed c && v) ≡ v
    go true e = let same = eqb-true c.frame f e in rw (ne_eqb c.frame 255 (omega arith)) refl
    go false e = and-false (is_placed c)

pub deleted_frees : (limit size : ℕ) → limit < 255 → (g g' : Page) → all (frame_within is_placed limit) (copies_in_use g) ≡ true
    → ((f : ℕ) → f < limit → on f g ≤ 1) → Frees limit size g g' (Lays ZerosEach 255)
unfolding laid_frames lay_frames
deleted_frees limit size small g g' within once =
    record {
      own_only = λ f l z z'. not_in_either f (frames_of is_placed (copies_in_use g)) [] (off_frames is_placed f (copies_in_use g) z) refl;
      zeroed = λ bs st b long f l some gone.
          let same = on_placed f (omega arith) (copies_in_use g) in
          each_own is_placed limit 0 zeros (omega arith) (copies_in_use g) st long within f (once f l) (omega arith)
          ∙ splice_all (block st f) zeros (sym (length_part st (64 * f) 64 (omega arith)));
    }

-- ---- on which frames a changed record is

-- a page that is created, where none stood: on none
pub created_over : (g : Page) → absent g ≡ true → (st f : ℕ) → f ≤ 254 → on f (changed g (Created st)) ≡ on f g
unfolding changed count
created_over g none st f low = rw (eqb-true g.n 0 none) (created_on st f low)

-- one that stays: on the same
pub kept_on : (g : Page) (f : ℕ) → on f (changed g Kept) ≡ on f g
unfolding changed
kept_on g f = refl

-- one with another right: on the same
pub granted_on : (g : Page) (o r f : ℕ) → on f (changed g (Granted o r)) ≡ on f g
unfolding changed
granted_on g o r f = refl

module _ {limit : ℕ} {g : Page} (s : StandingPage limit g) where
  -- one whose null copy is placed on frame x: there too
  pub null_placed : (k : ℕ) → k < g.n → is_null (copy_at g k) ≡ true → (x f : ℕ) → f < 255 → on f (changed g (Placed x)) ≡ on f g + cond (eqb x f) 1 0
  null_placed k less z x f low =
      let one = (copy_at_lem s k less).lone z in
      let first : k ≡ 0 = omega arith in
      let null : (copy_at g 0).frame ≡ 255 = eqb-true (copy_at g 0).frame 255 (subst (λ (j : ℕ). is_null (copy_at g j) ≡ true) first z) in
      let u = rw (ne_eqb (copy_at g 0).frame f (omega arith)) at (placed_on s x f) in
      omega arith
