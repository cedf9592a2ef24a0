-- Laws of the tests over a list, `all`, `count`, `all_below` and `listed`, and of tests joined by `&&` and `||`.
use Prim.Native.Nat.{ℕ, zero, suc, ◌+◌, ◌≤◌, ◌<◌, zero-le, suc-le-suc}
use mathlib.Core.Bool.{Bool, true, false, ◌&&◌, ◌||◌, cond, and_assoc, and-true, true≢false, false≢true}
use mathlib.Core.List.{List, [], ◌∷◌, ◌++◌, map}
use mathlib.Core.Logic.{⊎_elim}
use mathlib.Core.Path.{◌≡◌, refl, sym, ap, ◌∙◌}
use native.Mathlib.Nat.{not-suc-le-zero, le_of_suc-le-suc, eq-or-lt_of_le, zero-add}
use native.Mathlib.Omega.{arith}
use lib.ListN.{length, get_or, set, take, drop, take-append-drop}
use lib.Dec.{eqb}
use borrow.Author.Tests.{eqb-true}
use Rattle.std.proofs.lemmas.List.Sums.{sum_by-cons}
use Rattle.std.specs.List.{fold, list_all, count_by}
use Rattle.tables.specs.Lists.{all, count, all_below, listed}

-- ---- tests joined

-- the first of two tests that both hold
pub and_left : (a b : Bool) → (a && b) ≡ true → a ≡ true
and_left true b e = refl
and_left false b e = e

-- the second of two tests that both hold
pub and_right : (a b : Bool) → (a && b) ≡ true → b ≡ true
and_right true b e = e
and_right false b e = absurd (false≢true e)

-- two tests that hold, joined
pub and_intro : {a b : Bool} → a ≡ true → b ≡ true → (a && b) ≡ true
and_intro {a} {b} p q = rw (p, q)

-- the first of two tests of which neither holds
pub or_left : (a b : Bool) → (a || b) ≡ false → a ≡ false
or_left true b e = e
or_left false b e = refl

-- the second of two tests of which neither holds
pub or_right : (a b : Bool) → (a || b) ≡ false → b ≡ false
or_right true b e = absurd (true≢false e)
or_right false b e = e

-- a test that does not hold
pub not_so : (b : Bool) → (b ≡ true → ⊥) → b ≡ false
not_so true h = absurd (h refl)
not_so false h = refl

-- tests that imply each other are equal
pub iff_eq : (a b : Bool) → (a ≡ true → b ≡ true) → (b ≡ true → a ≡ true) → a ≡ b
iff_eq true b h k = sym (h refl)
iff_eq false true h k = k refl
iff_eq false false h k = refl

-- a test counts for one at the most
pub bit_le : (b : Bool) → cond b 1 0 ≤ 1
bit_le true = omega arith
bit_le false = omega arith

-- ---- the default of `get_or`

-- within a list what stands past its end does not matter
pub any_default : {A : Type 0} (l : List A) (i : ℕ) (d e : A) → i < length l → get_or l i d ≡ get_or l i e
any_default [] i d e h = absurd (not-suc-le-zero h)
any_default (x ∷ xs) zero d e h = refl
any_default (x ∷ xs) (suc i) d e h = any_default xs i d e (le_of_suc-le-suc h)

-- ---- a test of every element

-- the library's `fold` with `&` from b on
folded_from : {A : Type 0} (f : A → Bool) (b : Bool) (l : List A) → fold (λ (ok : Bool) (x : A). ok && f x) b l ≡ (b && all f l)
unfolding all
folded_from f b [] = sym (and-true b)
folded_from f b (x ∷ xs) = folded_from f (b && f x) xs ∙ and_assoc b (f x) (all f xs)

pub all_folded : {A : Type 0} (f : A → Bool) (l : List A) → fold (λ (ok : Bool) (x : A). ok && f x) true l ≡ all f l
all_folded f l = folded_from f true l

-- the library's `all`, of an iterator, says the same
pub all_is : {A : Type 0} (f : A → Bool) (l : List A) → list_all f l ≡ all f l
unfolding all
all_is f [] = refl
all_is f (x ∷ xs) = ap (λ (b : Bool). f x && b) (all_is f xs)

module _ {A : Type 0} (f : A → Bool) where
  -- what holds of every element holds of the first
  pub all_first : (x : A) (xs : List A) → all f (x ∷ xs) ≡ true → f x ≡ true
  unfolding all
  all_first x xs e = and_left (f x) (all f xs) e

  -- and of the others
  pub all_rest : (x : A) (xs : List A) → all f (x ∷ xs) ≡ true → all f xs ≡ true
  unfolding all
  all_rest x xs e = and_right (f x) (all f xs) e

  -- what holds of every element holds at each index
  pub all_at : (l : List A) (i : ℕ) (d : A) → all f l ≡ true → i < length l → f (get_or l i d) ≡ true
  all_at [] i d e h = absurd (not-suc-le-zero h)
  all_at (x ∷ xs) zero d e h = all_first x xs e
  all_at (x ∷ xs) (suc i) d e h = all_at xs i d (all_rest x xs e) (le_of_suc-le-suc h)

  -- what holds at each index holds of every element
  pub all_of : (l : List A) (d : A) → ((i : ℕ) → i < length l → f (get_or l i d) ≡ true) → all f l ≡ true
  unfolding all
  all_of [] d h = refl
  all_of (x ∷ xs) d h = and_intro (h zero (suc-le-suc zero-le)) (all_of xs d (λ i k. h (suc i) (suc-le-suc k)))

  -- of two lists in a row
  pub all_append : (l m : List A) → all f (l ++ m) ≡ (all f l && all f m)
  unfolding all
  all_append [] m = refl
  all_append (x ∷ xs) m = rw (all_append xs m) (sym (and_assoc (f x) (all f xs) (all f m)))

  -- of a list cut at any place
  pub all_cut : (n : ℕ) (l : List A) → all f l ≡ (all f (take n l) && all f (drop n l))
  all_cut n l = ap (all f) (sym (take-append-drop n l)) ∙ all_append (take n l) (drop n l)

  -- of the elements from n on
  pub all_drop : (n : ℕ) (l : List A) → all f l ≡ true → all f (drop n l) ≡ true
  all_drop n l e = and_right (all f (take n l)) (all f (drop n l)) (sym (all_cut n l) ∙ e)

  -- of a list with one element replaced
  pub all_set : (l : List A) (i : ℕ) (v : A) → all f l ≡ true → f v ≡ true → all f (set l i v) ≡ true
  unfolding all
  all_set [] i v e h = refl
  all_set (x ∷ xs) zero v e h = and_intro h (and_right (f x) (all f xs) e)
  all_set (x ∷ xs) (suc i) v e h = and_intro (and_left (f x) (all f xs) e) (all_set xs i v (and_right (f x) (all f xs) e) h)

-- of a number that is listed
pub all_listed : (f : ℕ → Bool) (l : List ℕ) (n : ℕ) → all f l ≡ true → listed n l ≡ true → f n ≡ true
all_listed f [] n e h = absurd (false≢true h)
all_listed f (m ∷ ms) n e h = go (eqb n m) refl (all_listed f ms n (all_rest f m ms e)) h
  where
    go : (b : Bool) → eqb n m ≡ b → (listed n ms ≡ true → f n ≡ true) → (b || listed n ms) ≡ true → f n ≡ true
    go true is later h = rw (eqb-true n m is) (all_first f m ms e)
    go false is later h = later h

-- of the images of the elements
pub all_map : {A B : Type 0} (f : B → Bool) (h : A → B) (l : List A) → all f (map h l) ≡ all (λ a. f (h a)) l
unfolding all
all_map f h [] = refl
all_map f h (x ∷ xs) = ap (λ (b : Bool). f (h x) && b) (all_map f h xs)

-- a weaker test
pub all_imp : {A : Type 0} (f g : A → Bool) (l : List A) → ((a : A) → f a ≡ true → g a ≡ true) → all f l ≡ true → all g l ≡ true
unfolding all
all_imp f g [] h e = refl
all_imp f g (x ∷ xs) h e = and_intro (h x (and_left (f x) (all f xs) e)) (all_imp f g xs h (and_right (f x) (all f xs) e))

-- ---- of how many elements

-- the library's `count`, of a filtered iterator, says the same
pub count_is : {A : Type 0} (f : A → Bool) (l : List A) → count_by f l ≡ count f l
unfolding count
count_is f [] = refl
count_is f (x ∷ xs) = sum_by-cons (λ x. cond (f x) 1 0) x xs ∙ ap (λ (n : ℕ). cond (f x) 1 0 + n) (count_is f xs)

module _ {A : Type 0} (f : A → Bool) where
  -- an element of which the test holds counts
  pub count_hit : (x : A) (xs : List A) → f x ≡ true → count f (x ∷ xs) ≡ 1 + count f xs
  unfolding count
  count_hit x xs e = rw e

  -- one of which it does not hold counts for nothing
  pub count_miss : (x : A) (xs : List A) → f x ≡ false → count f (x ∷ xs) ≡ count f xs
  unfolding count
  count_miss x xs e = rw e (zero-add (count f xs))

  -- the other elements are no more than all
  pub count_rest : (x : A) (xs : List A) → count f xs ≤ count f (x ∷ xs)
  unfolding count
  count_rest x xs = omega arith

  -- of two lists in a row
  pub count_append : (l m : List A) → count f (l ++ m) ≡ count f l + count f m
  unfolding count
  count_append [] m = omega arith
  count_append (x ∷ xs) m = let k = count_append xs m in omega arith

  -- one element replaced: the old one no longer counts, the new one does
  pub count_set : (l : List A) (i : ℕ) (v d : A) → i < length l
      → count f (set l i v) + cond (f (get_or l i d)) 1 0 ≡ count f l + cond (f v) 1 0
  unfolding count
  count_set [] i v d h = absurd (not-suc-le-zero h)
  count_set (x ∷ xs) zero v d h = omega arith
  count_set (x ∷ xs) (suc i) v d h = let k = count_set xs i v d (le_of_suc-le-suc h) in omega arith

  -- no more than there are
  pub count_le : (l : List A) → count f l ≤ length l
  unfolding count
  count_le [] = zero-le
  count_le (x ∷ xs) = let k = count_le xs in let b = bit_le (f x) in omega arith

  -- an element of which the test holds is counted
  pub count_at : (l : List A) (i : ℕ) (d : A) → i < length l → f (get_or l i d) ≡ true → 1 ≤ count f l
  unfolding count
  count_at [] i d h e = absurd (not-suc-le-zero h)
  count_at (x ∷ xs) zero d h e = rw e (omega arith)
  count_at (x ∷ xs) (suc i) d h e = let k = count_at xs i d (le_of_suc-le-suc h) e in omega arith

  -- where the count is not 0 there is such an element
  pub count_some : (l : List A) (d : A) → 1 ≤ count f l → (i : ℕ) × (i < length l) × (f (get_or l i d) ≡ true)
  unfolding count
  count_some [] d h = absurd (not-suc-le-zero h)
  count_some (x ∷ xs) d h = by (f x) refl (count_some xs d) h
    where
      by : (b : Bool) → f x ≡ b → (1 ≤ count f xs → (i : ℕ) × (i < length xs) × (f (get_or xs i d) ≡ true)) → 1 ≤ cond b 1 0 + count f xs
          → (i : ℕ) × (i < suc (length xs)) × (f (get_or (x ∷ xs) i d) ≡ true)
      by true e k h = (zero, suc-le-suc zero-le, e)
      by false e k h = let w = k (omega arith) in (suc w.0, suc-le-suc w.1, w.2)

  -- where the test holds at no index, of none
  pub count_none : (l : List A) (d : A) → ((i : ℕ) → i < length l → f (get_or l i d) ≡ false) → count f l ≡ 0
  unfolding count
  count_none [] d h = refl
  count_none (x ∷ xs) d h = rw (h zero (suc-le-suc zero-le), count_none xs d (λ i k. h (suc i) (suc-le-suc k)))

  -- where it holds at each, of all
  pub count_all : (l : List A) (d : A) → ((i : ℕ) → i < length l → f (get_or l i d) ≡ true) → count f l ≡ length l
  unfolding count
  count_all [] d h = refl
  count_all (x ∷ xs) d h = rw (h zero (suc-le-suc zero-le), count_all xs d (λ i k. h (suc i) (suc-le-suc k))) (omega arith)

-- of the images of the elements
pub count_map : {A B : Type 0} (f : B → Bool) (g : A → Bool) (h : A → B) (l : List A) → ((a : A) → f (h a) ≡ g a) → count f (map h l) ≡ count g l
unfolding count
count_map f g h [] e = refl
count_map f g h (x ∷ xs) e = rw (e x, count_map f g h xs e)

-- ---- a test of every number below a bound

-- what holds of every number below n holds of each
pub below_at : (n : ℕ) (f : ℕ → Bool) (i : ℕ) → all_below n f ≡ true → i < n → f i ≡ true
unfolding all_below
below_at zero f i e h = absurd (not-suc-le-zero h)
below_at (suc n) f i e h =
    ⊎_elim
    (λ (q : i ≡ n). rw q (and_left (f n) (all_below n f) e))
    (λ (q : i < n). below_at n f i (and_right (f n) (all_below n f) e) q)
    (eq-or-lt_of_le (le_of_suc-le-suc h))

-- what holds of each number below n holds of every one
pub below_of : (n : ℕ) (f : ℕ → Bool) → ((i : ℕ) → i < n → f i ≡ true) → all_below n f ≡ true
unfolding all_below
below_of zero f h = refl
below_of (suc n) f h = and_intro (h n (omega arith)) (below_of n f (λ i k. h i (omega arith)))
