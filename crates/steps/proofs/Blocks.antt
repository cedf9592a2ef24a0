-- The bytes of a frame in the joined stores. In order: a list in three pieces; bytes laid into one frame; into each of
-- some frames; into the frames of some copies.
use Prim.Native.Nat.{ℕ, ◌+◌, ◌-◌, ◌*◌, ◌≤◌, ◌<◌}
use mathlib.Core.Path.{◌≡◌, refl, sym, ap, ap₂, ◌∙◌}
use mathlib.Core.Logic.{◌≢◌}
use mathlib.Core.Bool.{Bool, true, false, ◌&&◌, ◌||◌, cond}
use mathlib.Core.List.{List, [], ◌∷◌, ◌++◌}
use native.Mathlib.Decide.{dec_lt}
use native.Mathlib.Nat.{zero-add}
use native.Mathlib.Omega.{arith}
use lib.ListN.{length, take, drop, take-append-drop}
use lib.Seq.{length-take-le, take_at, drop_at}
use lib.Dec.{leb, ltb, eqb}
use borrow.Author.Tests.{eqb-true, eqb-false, ltb-true, lt-ltb, leb-false, ne_eqb, not-true}
use Rattle.tables.specs.declared.Copy.{Copy}
use Rattle.tables.specs.Lists.{all, count, listed}
use Rattle.tables.specs.Model.{on_frame}
use Rattle.tables.proofs.ListLaws.{and_intro, and_left, and_right, or_left, or_right, all_first, all_rest}
use Rattle.steps.specs.Stores.{part, splice, block, lay_frame, frames_of, lay_frames}
use Rattle.steps.specs.Promises.{frame_within}
use Rattle.steps.specs.Private.{lay_each}
use Rattle.steps.proofs.StoreLaws.{length_part, part_left, part_right, length_splice, splice_all, splice_left, splice_right}

-- ---- a list in three pieces: a, then m, then z

splice_middle : (a m z : List ℕ) (o : ℕ) (b : List ℕ) → o + length b ≤ length m
    → splice (a ++ (m ++ z)) (length a + o) b ≡ a ++ (splice m o b ++ z)
splice_middle a m z o b h = splice_right a (m ++ z) o b ∙ ap (λ (l : List ℕ). a ++ l) (splice_left m z o b h)

block_middle : (a m z : List ℕ) (x : ℕ) → length a ≡ 64 * x → length m ≡ 64 → block (a ++ (m ++ z)) x ≡ m
unfolding part
block_middle a m z x p q = ap (take 64) (drop_at a (m ++ z) (64 * x) p) ∙ take_at m z 64 q

block_after : (a m z : List ℕ) (y k : ℕ) → 64 * y ≡ length a + (length m + k) → block (a ++ (m ++ z)) y ≡ part z k 64
block_after a m z y k e = rw e (part_right a (m ++ z) (length m + k) 64 ∙ part_right m z k 64)

-- another piece of the same length in the middle leaves the blocks beside it
block_beside : (a m m' z : List ℕ) (x y : ℕ) → length a ≡ 64 * x → length m ≡ 64 → length m' ≡ 64 → x ≢ y
    → block (a ++ (m ++ z)) y ≡ block (a ++ (m' ++ z)) y
block_beside a m m' z x y p q q' d = go (dec_lt y x)
  where
    go : Dec (y < x) → block (a ++ (m ++ z)) y ≡ block (a ++ (m' ++ z)) y
    go (yes h) = part_left a (m ++ z) (64 * y) 64 (omega arith) ∙ sym (part_left a (m' ++ z) (64 * y) 64 (omega arith))
    go (no h) =
        block_after a m z y (64 * y - (64 * x + 64)) (omega arith) ∙ sym (block_after a m' z y (64 * y - (64 * x + 64)) (omega arith))

-- ---- bytes laid into one frame

module _ (st : List ℕ) (x : ℕ) (inside : 64 * x + 64 ≤ length st) (o : ℕ) (b : List ℕ) (span : o + length b ≤ 64) where
  before : List ℕ
  before = take (64 * x) st

  rest : List ℕ
  rest = drop 64 (drop (64 * x) st)

  before_long : length before ≡ 64 * x
  unfolding before
  before_long = length-take-le (64 * x) st (omega arith)

  own_long : length (block st x) ≡ 64
  own_long = length_part st (64 * x) 64 inside

  new_long : length (splice (block st x) o b) ≡ 64
  new_long = length_splice (block st x) o b (omega (arith, own_long)) ∙ own_long

  pieces : before ++ (block st x ++ rest) ≡ st
  unfolding before rest part
  pieces = ap (λ (l : List ℕ). take (64 * x) st ++ l) (take-append-drop 64 (drop (64 * x) st)) ∙ take-append-drop (64 * x) st

  laid_pieces : lay_frame st x o b ≡ before ++ (splice (block st x) o b ++ rest)
  laid_pieces =
      ap₂ (λ (l : List ℕ) (k : ℕ). splice l (k + o) b) (sym pieces) (sym before_long)
      ∙ splice_middle before (block st x) rest o b (omega (arith, own_long))

  pub length_lay : length (lay_frame st x o b) ≡ length st
  length_lay = length_splice st (64 * x + o) b (omega arith)

  pub block_lay_own : block (lay_frame st x o b) x ≡ splice (block st x) o b
  block_lay_own =
      ap (λ (l : List ℕ). block l x) laid_pieces ∙ block_middle before (splice (block st x) o b) rest x before_long new_long

  pub block_lay_other : (y : ℕ) → x ≢ y → block (lay_frame st x o b) y ≡ block st y
  block_lay_other y d =
      ap (λ (l : List ℕ). block l y) laid_pieces
      ∙ block_beside before (splice (block st x) o b) (block st x) rest x y before_long new_long own_long d
      ∙ ap (λ (l : List ℕ). block l y) pieces

-- a whole frame laid
pub block_lay_whole : (st : List ℕ) (x : ℕ) → 64 * x + 64 ≤ length st → (b : List ℕ) → length b ≡ 64 → block (lay_frame st x 0 b) x ≡ b
block_lay_whole st x inside b e =
    block_lay_own st x inside 0 b (omega arith) ∙ splice_all (block st x) b (e ∙ sym (length_part st (64 * x) 64 inside))

-- ---- bytes laid into each of some frames

abbrev pub below : ℕ → ℕ → Bool
below limit f = ltb f limit

abbrev pub is_frame : ℕ → ℕ → Bool
is_frame x f = eqb f x

-- a frame that none of them is
none_listed : (x : ℕ) (fs : List ℕ) → count (is_frame x) fs ≡ 0 → listed x fs ≡ false
unfolding count
none_listed x [] e = refl
none_listed x (f ∷ fs) e = go (eqb f x) refl e (none_listed x fs)
  where
    go : (v : Bool) → eqb f x ≡ v → cond v 1 0 + count (is_frame x) fs ≡ 0 → (count (is_frame x) fs ≡ 0 → listed x fs ≡ false)
        → (eqb x f || listed x fs) ≡ false
    go true q e later = absurd (omega arith)
    go false q e later = rw (ne_eqb x f (λ z. eqb-false f x q (sym z))) (later (omega arith))

module _ (limit o : ℕ) (b : List ℕ) (span : o + length b ≤ 64) where
  module _ (st : List ℕ) (long : length st ≡ 64 * limit) (f : ℕ) (low : below limit f ≡ true) where
    inside : 64 * f + 64 ≤ length st
    inside = let h = ltb-true f limit low in omega arith

    next_long : length (lay_frame st f o b) ≡ 64 * limit
    next_long = length_lay st f inside o b span ∙ long

  pub length_all : (fs st : List ℕ) → length st ≡ 64 * limit → all (below limit) fs ≡ true → length (lay_frames fs o b st) ≡ 64 * limit
  unfolding lay_frames
  length_all [] st long low = long
  length_all (f ∷ fs) st long low =
      length_all fs (lay_frame st f o b) (next_long st long f (all_first (below limit) f fs low)) (all_rest (below limit) f fs low)

  -- every other frame keeps its bytes
  pub all_other : (fs st : List ℕ) → length st ≡ 64 * limit → all (below limit) fs ≡ true → (x : ℕ) → listed x fs ≡ false
      → block (lay_frames fs o b st) x ≡ block st x
  unfolding lay_frames
  all_other [] st long low x none = refl
  all_other (f ∷ fs) st long low x none =
      let one = all_first (below limit) f fs low in
      all_other fs (lay_frame st f o b) (next_long st long f one) (all_rest (below limit) f fs low) x (or_right (eqb x f) _ none)
      ∙ block_lay_other st f (inside st long f one) o b span x (λ e. eqb-false x f (or_left (eqb x f) _ none) (sym e))

  -- one of them, once, takes the bytes
  pub all_own : (fs st : List ℕ) → length st ≡ 64 * limit → all (below limit) fs ≡ true → (x : ℕ) → count (is_frame x) fs ≡ 1
      → block (lay_frames fs o b st) x ≡ splice (block st x) o b
  unfolding lay_frames count
  all_own [] st long low x once = absurd (omega arith)
  all_own (f ∷ fs) st long low x once =
      go (eqb f x) refl once (all_own fs (lay_frame st f o b) (next_long st long f (all_first (below limit) f fs low)) (all_rest (below limit) f fs low) x)
    where
      one : below limit f ≡ true
      one = all_first (below limit) f fs low

      rest : all (below limit) fs ≡ true
      rest = all_rest (below limit) f fs low

      long' : length (lay_frame st f o b) ≡ 64 * limit
      long' = next_long st long f one

      go : (v : Bool) → eqb f x ≡ v → cond v 1 0 + count (is_frame x) fs ≡ 1
          → (count (is_frame x) fs ≡ 1 → block (lay_frames fs o b (lay_frame st f o b)) x ≡ splice (block (lay_frame st f o b) x) o b)
          → block (lay_frames fs o b (lay_frame st f o b)) x ≡ splice (block st x) o b
      go true e n later =
          all_other fs (lay_frame st f o b) long' rest x (none_listed x fs (omega arith))
          ∙ rw (← eqb-true f x e) (block_lay_own st f (inside st long f one) o b span)
      go false e n later =
          later (omega arith)
          ∙ ap (λ (l : List ℕ). splice l o b) (block_lay_other st f (inside st long f one) o b span x (eqb-false f x e))

-- ---- the frames of the copies that are some of `those`: of a write, the CURRENT ones

-- one of those on frame x
abbrev pub one_on : (Copy → Bool) → ℕ → Copy → Bool
one_on those x c = those c && on_frame x c

-- its frame is below the limit
pub within_low : (those : Copy → Bool) (limit : ℕ) (c : Copy) → frame_within those limit c ≡ true → those c ≡ true → c.frame < limit
within_low those limit c e u =
    let k : leb limit c.frame ≡ false = rw u at (not-true (those c && leb limit c.frame) e) in
    leb-false limit c.frame k

module _ (those : Copy → Bool) where
  pub frames_low : (limit : ℕ) (cs : List Copy) → all (frame_within those limit) cs ≡ true → all (below limit) (frames_of those cs) ≡ true
  unfolding all frames_of
  frames_low limit [] e = refl
  frames_low limit (c ∷ cs) e = go (those c) refl (frames_low limit cs (and_right (frame_within those limit c) _ e))
    where
      go : (u : Bool) → those c ≡ u → all (below limit) (frames_of those cs) ≡ true
          → all (below limit) (cond u (c.frame ∷ frames_of those cs) (frames_of those cs)) ≡ true
      go true q later = and_intro (lt-ltb c.frame limit (within_low those limit c (and_left (frame_within those limit c) _ e) q)) later
      go false q later = later

  pub frames_count : (x : ℕ) (cs : List Copy) → count (is_frame x) (frames_of those cs) ≡ count (one_on those x) cs
  unfolding count frames_of
  frames_count x [] = refl
  frames_count x (c ∷ cs) = go (those c) (frames_count x cs)
    where
      go : (u : Bool) → count (is_frame x) (frames_of those cs) ≡ count (one_on those x) cs
          → count (is_frame x) (cond u (c.frame ∷ frames_of those cs) (frames_of those cs)) ≡ cond (u && on_frame x c) 1 0 + count (one_on those x) cs
      go true later = ap (λ (n : ℕ). cond (on_frame x c) 1 0 + n) later
      go false later = later ∙ sym (zero-add _)

  -- no more of them are on a frame than copies are
  fewer : (x : ℕ) (cs : List Copy) → count (one_on those x) cs ≤ count (on_frame x) cs
  unfolding count
  fewer x [] = omega arith
  fewer x (c ∷ cs) = go (those c) (on_frame x c) (fewer x cs)
    where
      go : (u v : Bool) → count (one_on those x) cs ≤ count (on_frame x) cs
          → cond (u && v) 1 0 + count (one_on those x) cs ≤ cond v 1 0 + count (on_frame x) cs
      go true true h = omega arith
      go true false h = omega arith
      go false true h = omega arith
      go false false h = omega arith

  -- a frame that no copy is on is none of theirs
  pub off_frames : (x : ℕ) (cs : List Copy) → count (on_frame x) cs ≡ 0 → listed x (frames_of those cs) ≡ false
  off_frames x cs none =
      let few = fewer x cs in
      let same = frames_count x cs in
      none_listed x (frames_of those cs) (omega arith)

  -- as many as there are such copies
  pub frames_length : (cs : List Copy) → length (frames_of those cs) ≡ count those cs
  unfolding count frames_of
  frames_length [] = refl
  frames_length (c ∷ cs) = go (those c) (frames_length cs)
    where
      go : (u : Bool) → length (frames_of those cs) ≡ count those cs
          → length (cond u (c.frame ∷ frames_of those cs) (frames_of those cs)) ≡ cond u 1 0 + count those cs
      go true later = omega arith
      go false later = omega arith

  module _ (limit o : ℕ) (b : List ℕ) (span : o + length b ≤ 64) (cs : List Copy) (st : List ℕ) (long : length st ≡ 64 * limit)
      (rules : all (frame_within those limit) cs ≡ true) (x : ℕ) where
    -- a frame of none of those keeps its bytes
    pub each_spared : count (one_on those x) cs ≡ 0 → block (lay_frames (frames_of those cs) o b st) x ≡ block st x
    each_spared none =
        all_other limit o b span (frames_of those cs) st long (frames_low limit cs rules) x
        (none_listed x (frames_of those cs) (frames_count x cs ∙ none))

    -- and so does a frame of no copy of the page
    pub each_other : count (on_frame x) cs ≡ 0 → block (lay_frames (frames_of those cs) o b st) x ≡ block st x
    each_other none = let few = fewer x cs in each_spared (omega arith)

    -- the frame of one of those, which no other copy of the page has, takes the bytes
    pub each_own : count (on_frame x) cs ≤ 1 → 1 ≤ count (one_on those x) cs → block (lay_frames (frames_of those cs) o b st) x ≡ splice (block st x) o b
    each_own once some =
        let few = fewer x cs in
        let same = frames_count x cs in
        all_own limit o b span (frames_of those cs) st long (frames_low limit cs rules) x (omega arith)

  -- the loop over the copies lays into these frames
  pub lay_each_is : (st : List ℕ) (cs : List Copy) (o : ℕ) (b : List ℕ) → lay_each those st cs o b ≡ lay_frames (frames_of those cs) o b st
  unfolding lay_each lay_frames frames_of
  lay_each_is st [] o b = refl
  lay_each_is st (c ∷ cs) o b = go (those c) (λ st'. lay_each_is st' cs o b)
    where
      go : (u : Bool) → ((st' : List ℕ) → lay_each those st' cs o b ≡ lay_frames (frames_of those cs) o b st')
          → lay_each those (cond u (lay_frame st c.frame o b) st) cs o b ≡ lay_frames (cond u (c.frame ∷ frames_of those cs) (frames_of those cs)) o b st
      go true later = later (lay_frame st c.frame o b)
      go false later = later st
