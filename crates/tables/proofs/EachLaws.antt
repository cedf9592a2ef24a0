-- What is so of every element, where one is named, replaced, added or taken out; a list without one element; and what
-- is counted in two parts.
use Prim.Native.Nat.{ℕ, zero, suc, ◌+◌, ◌<◌, zero-le, suc-le-suc}
use mathlib.Core.Bool.{Bool, true, false, not, ◌&&◌, cond}
use mathlib.Core.List.{List, [], ◌∷◌, ◌++◌, map}
use mathlib.Core.Path.{◌≡◌, refl, ap}
use native.Mathlib.Nat.{not-suc-le-zero, le_of_suc-le-suc}
use native.Mathlib.Omega.{arith}
use lib.ListN.{length, get_or, set, take, drop}
use Rattle.tables.specs.Lists.{count, Each}
use Rattle.tables.proofs.ChangeLaws.{without}

module _ {A : Type 0} (X : A → Type 0) where
  pub each_at : (l : List A) (k : ℕ) (d : A) → k < length l → Each X l → X (get_or l k d)
  each_at [] k d h e = absurd (not-suc-le-zero h)
  each_at (x ∷ xs) zero d h e = e.0
  each_at (x ∷ xs) (suc k) d h e = each_at xs k d (le_of_suc-le-suc h) e.1

  pub each_of : (l : List A) (d : A) → ((k : ℕ) → k < length l → X (get_or l k d)) → Each X l
  each_of [] d h = tt
  each_of (x ∷ xs) d h = (h zero (suc-le-suc zero-le), each_of xs d (λ k l. h (suc k) (suc-le-suc l)))

  pub each_map : {B : Type 0} (f : B → A) (l : List B) → Each (λ (b : B). X (f b)) l → Each X (map f l)
  each_map f [] e = tt
  each_map f (x ∷ xs) e = (e.0, each_map f xs e.1)

  pub each_set : (l : List A) (k : ℕ) (x : A) → X x → Each X l → Each X (set l k x)
  each_set [] k x h e = tt
  each_set (y ∷ ys) zero x h e = (h, e.1)
  each_set (y ∷ ys) (suc k) x h e = (e.0, each_set ys k x h e.1)

  pub each_last : (l : List A) (x : A) → X x → Each X l → Each X (l ++ (x ∷ []))
  each_last [] x h e = (h, tt)
  each_last (y ∷ ys) x h e = (e.0, each_last ys x h e.1)

  pub each_without : (l : List A) (k : ℕ) → Each X l → Each X (without l k)
  unfolding without
  each_without [] k e = tt
  each_without (x ∷ xs) zero e = e.1
  each_without (x ∷ xs) (suc k) e = (e.0, each_without xs k e.1)

module _ {A : Type 0} where
  -- the elements before it and those after it
  pub without_is : (l : List A) (k : ℕ) → without l k ≡ take k l ++ drop (suc k) l
  unfolding without
  without_is [] zero = refl
  without_is [] (suc k) = refl
  without_is (x ∷ xs) zero = refl
  without_is (x ∷ xs) (suc k) = ap (λ (r : List A). x ∷ r) (without_is xs k)

  module _ {B : Type 0} (f : A → B) where
    pub map_set : (l : List A) (k : ℕ) (x : A) → map f (set l k x) ≡ set (map f l) k (f x)
    map_set [] k x = refl
    map_set (y ∷ ys) zero x = refl
    map_set (y ∷ ys) (suc k) x = ap (λ (r : List B). f y ∷ r) (map_set ys k x)

    pub map_without : (l : List A) (k : ℕ) → map f (without l k) ≡ without (map f l) k
    unfolding without
    map_without [] k = refl
    map_without (x ∷ xs) zero = refl
    map_without (x ∷ xs) (suc k) = ap (λ (r : List B). f x ∷ r) (map_without xs k)

-- the elements of which f holds, by whether g holds of them too
pub count_parts : {A : Type 0} (f g : A → Bool) (l : List A)
    → count f l ≡ count (λ (x : A). g x && f x) l + count (λ (x : A). not (g x) && f x) l
unfolding count
count_parts f g [] = refl
count_parts {A = A} f g (x ∷ xs) = go (f x) (g x) (count_parts f g xs)
  where
    go : (a b : Bool) → count f xs ≡ count (λ (y : A). g y && f y) xs + count (λ (y : A). not (g y) && f y) xs
        → cond a 1 0 + count f xs
        ≡ (cond (b && a) 1 0 + count (λ (y : A). g y && f y) xs) +
        (cond (not b && a) 1 0 + count (λ (y : A). not (g y) && f y) xs)
    go true true e = omega arith
    go true false e = omega arith
    go false true e = omega arith
    go false false e = omega arith
