-- What each change does to the copies of a page: to those in use, and to the entries after them.
use Prim.Native.Nat.{ℕ, zero, suc, ◌+◌, ◌-◌, ◌≤◌, ◌<◌}
use mathlib.Core.Bool.{Bool, true, false, cond}
use mathlib.Core.List.{List, [], ◌∷◌, ◌++◌, map}
use mathlib.Core.Logic.{◌≢◌}
use mathlib.Core.Path.{◌≡◌, refl, sym, ap, ◌∙◌}
use native.Mathlib.Nat.{not-suc-le-zero, le_of_suc-le-suc}
use native.Mathlib.Numerals.{add-one}
use native.Mathlib.Omega.{arith}
use lib.Dec.{ltb}
use lib.ListN.{length, get_or, set, take, drop, replicate, length-set, length-map}
use lib.Seq.{take-nil, drop-nil, take-append-le, drop-append-le, take-suc-set, take-set-lt, drop-set-lt, drop-drop, get_or-set_same, get_or-set_other}
use borrow.Author.Tests.{lt-ltb}
use Rattle.tables.specs.declared.Copy.{Copy}
use Rattle.tables.specs.declared.Page.{Page}
use Rattle.tables.specs.declared.Tables.{Tables}
use Rattle.tables.specs.declared.Edit.{Edit}
use Rattle.tables.specs.declared.Edit.TheVariants.{Kept, Created, Deleted, Granted, Staled, Placed, Added, Removed, Marked}
use Rattle.tables.specs.Lists.{all, count}
use Rattle.tables.specs.Model.{copies_in_use, fresh_copy, fresh_page, zero_copy, zero_page, page_at}
use Rattle.tables.specs.Changes.{created, with_copies, stale_copy, new_copy, close_gap, with_current, changed, edited, after}
use Rattle.tables.proofs.GapLaws.{gap_length}
use Rattle.tables.proofs.ListLaws.{and_left, and_right, and_intro}

-- ---- a list without one element

-- l without element k
unfoldable pub without : {A : Type 0} → List A → ℕ → List A
without [] k = []
without (x ∷ xs) zero = xs
without (x ∷ xs) (suc k) = x ∷ without xs k

module _ {A : Type 0} where
  -- it is shorter by one
  pub length_without : (l : List A) (k : ℕ) → k < length l → suc (length (without l k)) ≡ length l
  unfolding without
  length_without [] k h = absurd (not-suc-le-zero h)
  length_without (x ∷ xs) zero h = refl
  length_without (x ∷ xs) (suc k) h = ap suc (length_without xs k (le_of_suc-le-suc h))

  -- its first m elements
  pub take_without : (m : ℕ) (l : List A) (k : ℕ) → k ≤ m → take m (without l k) ≡ without (take (suc m) l) k
  unfolding without
  take_without m [] k h = take-nil m
  take_without m (x ∷ xs) zero h = refl
  take_without zero (x ∷ xs) (suc k) h = absurd (not-suc-le-zero h)
  take_without (suc m) (x ∷ xs) (suc k) h = ap (λ (r : List A). x ∷ r) (take_without m xs k (le_of_suc-le-suc h))

  -- its elements from m on
  pub drop_without : (m : ℕ) (l : List A) (k : ℕ) → k ≤ m → drop m (without l k) ≡ drop (suc m) l
  unfolding without
  drop_without m [] k h = drop-nil m
  drop_without m (x ∷ xs) zero h = refl
  drop_without zero (x ∷ xs) (suc k) h = absurd (not-suc-le-zero h)
  drop_without (suc m) (x ∷ xs) (suc k) h = drop_without m xs k (le_of_suc-le-suc h)

  -- what holds of every element holds of those left
  pub all_without : (f : A → Bool) (l : List A) (k : ℕ) → all f l ≡ true → all f (without l k) ≡ true
  unfolding without all
  all_without f [] k e = refl
  all_without f (x ∷ xs) zero e = and_right (f x) (all f xs) e
  all_without f (x ∷ xs) (suc k) e = and_intro (and_left (f x) (all f xs) e) (all_without f xs k (and_right (f x) (all f xs) e))

  -- element k no longer counts
  pub count_without : (f : A → Bool) (l : List A) (k : ℕ) (d : A) → k < length l → count f (without l k) + cond (f (get_or l k d)) 1 0 ≡ count f l
  unfolding without count
  count_without f [] k d h = absurd (not-suc-le-zero h)
  count_without f (x ∷ xs) zero d h = omega arith
  count_without f (x ∷ xs) (suc k) d h = let i = count_without f xs k d (le_of_suc-le-suc h) in omega arith

  -- the first elements of the images
  take_map : {B : Type 0} (f : A → B) (n : ℕ) (l : List A) → take n (map f l) ≡ map f (take n l)
  take_map f zero l = refl
  take_map f (suc n) [] = refl
  take_map {B = B} f (suc n) (x ∷ xs) = ap (λ (r : List B). f x ∷ r) (take_map f n xs)

  -- and the others
  drop_map : {B : Type 0} (f : A → B) (n : ℕ) (l : List A) → drop n (map f l) ≡ map f (drop n l)
  drop_map f zero l = refl
  drop_map f (suc n) [] = refl
  drop_map f (suc n) (x ∷ xs) = drop_map f n xs

-- ---- the gap closed

-- the entries move down, and a fresh one comes last
pub gap_without : (cs : List Copy) (k : ℕ) → k < length cs → close_gap cs k ≡ without cs k ++ (fresh_copy ∷ [])
unfolding close_gap without
gap_without [] k h = absurd (not-suc-le-zero h)
gap_without (x ∷ xs) zero h = refl
gap_without (x ∷ xs) (suc k) h = ap (λ (r : List Copy). x ∷ r) (gap_without xs k (le_of_suc-le-suc h))

-- ---- the lengths

-- every change keeps the sixteen rights
pub changed_rights : (g : Page) (c : Edit) → length g.rights ≡ 16 → length (changed g c).rights ≡ 16
unfolding changed created fresh_page
changed_rights g Kept e = e
changed_rights g (Created s) e = length-set (replicate 16 1) s 2
changed_rights g Deleted e = refl
changed_rights g (Granted s r) e = length-set g.rights s r ∙ e
changed_rights g Staled e = e
changed_rights g (Placed f) e = e
changed_rights g (Added f r) e = by (ltb g.n 8)
  where
    by : (b : Bool) → length (cond b (with_copies g (g.n + 1) (set g.copies g.n (new_copy f r))) g).rights ≡ 16
    by true = e
    by false = e
changed_rights g (Removed k) e = e
changed_rights g (Marked k b) e = e

-- and the eight entries
pub changed_copies : (g : Page) (c : Edit) → length g.copies ≡ 8 → length (changed g c).copies ≡ 8
unfolding changed created fresh_page
changed_copies g Kept e = e
changed_copies g (Created s) e = refl
changed_copies g Deleted e = refl
changed_copies g (Granted s r) e = e
changed_copies g Staled e = length-map g.copies stale_copy ∙ e
changed_copies g (Placed f) e = length-set g.copies 0 (new_copy f true) ∙ e
changed_copies g (Added f r) e = by (ltb g.n 8)
  where
    by : (b : Bool) → length (cond b (with_copies g (g.n + 1) (set g.copies g.n (new_copy f r))) g).copies ≡ 8
    by true = length-set g.copies g.n (new_copy f r) ∙ e
    by false = e
changed_copies g (Removed k) e = gap_length g.copies k ∙ e
changed_copies g (Marked k b) e = length-set g.copies k (with_current (get_or g.copies k zero_copy) b) ∙ e

-- ---- the copies in use, and the entries after them

module _ (g : Page) where
  -- no copy but the CURRENT ones stays MOST RECENT
  pub in_use_staled : copies_in_use (changed g Staled) ≡ map stale_copy (copies_in_use g)
  unfolding changed
  in_use_staled = take_map stale_copy g.n g.copies

  -- the other entries in the same way
  pub rest_staled : drop g.n (changed g Staled).copies ≡ map stale_copy (drop g.n g.copies)
  unfolding changed
  rest_staled = drop_map stale_copy g.n g.copies

  -- the first copy is another
  pub in_use_placed : (f : ℕ) → 1 ≤ g.n → copies_in_use (changed g (Placed f)) ≡ set (copies_in_use g) 0 (new_copy f true)
  unfolding changed
  in_use_placed f h = take-set-lt g.n g.copies 0 (new_copy f true) h

  -- the other entries stay
  pub rest_placed : (f : ℕ) → 1 ≤ g.n → drop g.n (changed g (Placed f)).copies ≡ drop g.n g.copies
  unfolding changed
  rest_placed f h = drop-set-lt g.n g.copies 0 (new_copy f true) h

  -- copy k has another mark
  pub in_use_marked : (k : ℕ) (b : Bool) → k < g.n
      → copies_in_use (changed g (Marked k b)) ≡ set (copies_in_use g) k (with_current (get_or g.copies k zero_copy) b)
  unfolding changed
  in_use_marked k b h = take-set-lt g.n g.copies k (with_current (get_or g.copies k zero_copy) b) h

  -- the other entries stay
  pub rest_marked : (k : ℕ) (b : Bool) → k < g.n → drop g.n (changed g (Marked k b)).copies ≡ drop g.n g.copies
  unfolding changed
  rest_marked k b h = drop-set-lt g.n g.copies k (with_current (get_or g.copies k zero_copy) b) h

  -- a page with room gets the copy
  pub added : (f : ℕ) (r : Bool) → g.n < 8 → changed g (Added f r) ≡ with_copies g (g.n + 1) (set g.copies g.n (new_copy f r))
  unfolding changed
  added f r h = rw (lt-ltb g.n 8 h)

  module _ (long : length g.copies ≡ 8) where
    -- at the end of those in use
    pub in_use_added : (f : ℕ) (r : Bool) → g.n < 8 → copies_in_use (changed g (Added f r)) ≡ copies_in_use g ++ (new_copy f r ∷ [])
    in_use_added f r h = rw (added f r h, add-one g.n) (take-suc-set g.copies g.n (new_copy f r) (rw long h))

    -- one entry fewer is not in use
    pub rest_added : (f : ℕ) (r : Bool) → g.n < 8 → drop (g.n + 1) (changed g (Added f r)).copies ≡ drop 1 (drop g.n g.copies)
    rest_added f r h =
        rw (added f r h)
        (drop-set-lt (g.n + 1) g.copies g.n (new_copy f r) (omega arith) ∙ sym (drop-drop 1 g.n g.copies))

    -- copy k goes, and the others keep their order
    pub in_use_removed : (k : ℕ) → k < g.n → g.n ≤ 8 → copies_in_use (changed g (Removed k)) ≡ without (copies_in_use g) k
    unfolding changed
    in_use_removed k h m =
        let l = length_without g.copies k (omega arith) in
        let q : suc (g.n - 1) ≡ g.n = omega arith in
        rw (gap_without g.copies k (omega arith), take-append-le (g.n - 1) (without g.copies k) (fresh_copy ∷ []) (omega arith))
        (take_without (g.n - 1) g.copies k (omega arith) ∙ ap (λ (n : ℕ). without (take n g.copies) k) q)

    -- one entry more is not in use, and it is fresh
    pub rest_removed : (k : ℕ) → k < g.n → g.n ≤ 8
        → drop (g.n - 1) (changed g (Removed k)).copies ≡ drop g.n g.copies ++ (fresh_copy ∷ [])
    unfolding changed
    rest_removed k h m =
        let l = length_without g.copies k (omega arith) in
        let q : suc (g.n - 1) ≡ g.n = omega arith in
        rw (gap_without g.copies k (omega arith), drop-append-le (g.n - 1) (without g.copies k) (fresh_copy ∷ []) (omega arith))
        (ap (λ (r : List Copy). r ++ (fresh_copy ∷ [])) (drop_without (g.n - 1) g.copies k (omega arith) ∙ ap (λ (n : ℕ). drop n g.copies) q))

-- ---- the tables after a change

module _ (t : Tables) (p : ℕ) (c : Edit) (x : ℕ) where
  -- page p has the changed record
  pub after_same : p < length t.pages → page_at (after t (edited t p c x)) p ≡ changed (page_at t p) c
  unfolding after
  after_same h = get_or-set_same t.pages p (changed (page_at t p) c) zero_page h

  -- every other page keeps its own
  pub after_other : (q : ℕ) → q ≢ p → page_at (after t (edited t p c x)) q ≡ page_at t q
  unfolding after
  after_other q d = get_or-set_other t.pages p q (changed (page_at t p) c) zero_page d
