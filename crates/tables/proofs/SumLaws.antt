-- Sums over the frames: how many entries of the register name a copy, and on how many frames copies are.
use Prim.Native.Nat.{ℕ, zero, suc, ◌+◌, ◌≤◌, ◌<◌}
use mathlib.Core.Path.{◌≡◌, refl, sym, ap, ◌∙◌}
use mathlib.Core.Bool.{Bool, true, false, cond}
use mathlib.Core.List.{List, [], ◌∷◌}
use mathlib.Core.Logic.{⊎_elim}
use native.Mathlib.Decide.{ℕ_discrete}
use native.Mathlib.Nat.{le_of_suc-le-suc, eq-or-lt_of_le, not-suc-le-zero}
use native.Mathlib.Omega.{arith}
use lib.ListN.{length, get_or, take}
use lib.Seq.{get_or-take}
use lib.Dec.{ltb, eqb}
use borrow.Author.Tests.{eqb-true, eq-eqb, ne_eqb, lt-ltb, le-ltb, ltb-true, ltb-false}
use Rattle.tables.specs.declared.Copy.{Copy}
use Rattle.tables.specs.declared.Page.{Page}
use Rattle.tables.specs.Lists.{all, count}
use Rattle.tables.specs.Model.{free_entry, on_frame, is_null, copies_in_use, absent, zero_copy}
use Rattle.tables.specs.Rules.{uses, page_rule, frame_total, frame_totals}
use Rattle.tables.specs.PrivatePass.{names_copy, naming_entries}
use Rattle.tables.proofs.ListLaws.{all_first, all_rest, count_none, count_all}
use Rattle.tables.proofs.RuleLaws.{StandingPage, standing, length_in_use, copy_at_lem}
use Rattle.tables.proofs.PageChanges.{none_null}
use Rattle.tables.proofs.RegisterLaws.{either}

-- of the numbers below n
unfoldable pub sum_below : ℕ → (ℕ → ℕ) → ℕ
sum_below zero a = 0
sum_below (suc n) a = a n + sum_below n a

pub sum_same : (n : ℕ) (a b : ℕ → ℕ) → ((i : ℕ) → i < n → a i ≡ b i) → sum_below n a ≡ sum_below n b
unfolding sum_below
sum_same zero a b e = refl
sum_same (suc n) a b e = let x = e n (omega arith) in let y = sum_same n a b (λ i l. e i (omega arith)) in omega arith

pub sum_le : (n : ℕ) (a b : ℕ → ℕ) → ((i : ℕ) → i < n → a i ≤ b i) → sum_below n a ≤ sum_below n b
unfolding sum_below
sum_le zero a b e = omega arith
sum_le (suc n) a b e = let x = e n (omega arith) in let y = sum_le n a b (λ i l. e i (omega arith)) in omega arith

-- where no summand is larger and the sums are equal, the summands are
pub sum_equal : (n : ℕ) (a b : ℕ → ℕ) → ((i : ℕ) → i < n → a i ≤ b i) → sum_below n a ≡ sum_below n b → (i : ℕ) → i < n → a i ≡ b i
unfolding sum_below
sum_equal zero a b le e i h = absurd (not-suc-le-zero h)
sum_equal (suc n) a b le e i h =
    let x = le n (omega arith) in
    let y = sum_le n a b (λ j l. le j (omega arith)) in
    ⊎_elim
    (λ (q : i ≡ n). rw q (omega arith))
    (λ (q : i < n). sum_equal n a b (λ j l. le j (omega arith)) (omega arith) i q)
    (eq-or-lt_of_le (le_of_suc-le-suc h))

sum_plus : (n : ℕ) (a b : ℕ → ℕ) → sum_below n (λ i. a i + b i) ≡ sum_below n a + sum_below n b
unfolding sum_below
sum_plus zero a b = refl
sum_plus (suc n) a b = let x = sum_plus n a b in omega arith

sum_zero : (n : ℕ) → sum_below n (λ i. 0) ≡ 0
unfolding sum_below
sum_zero zero = refl
sum_zero (suc n) = let x = sum_zero n in omega arith

-- the first summand apart
sum_first : (n : ℕ) (a : ℕ → ℕ) → sum_below (suc n) a ≡ a 0 + sum_below n (λ i. a (suc i))
unfolding sum_below
sum_first zero a = refl
sum_first (suc n) a = let x = sum_first n a in omega arith

-- a test of the elements, counted by their places
count_sum : (g : ℕ → Bool) (l : List ℕ) (d : ℕ) → count g l ≡ sum_below (length l) (λ i. cond (g (get_or l i d)) 1 0)
unfolding count sum_below
count_sum g [] d = refl
count_sum g (x ∷ xs) d = ap (λ (k : ℕ). cond (g x) 1 0 + k) (count_sum g xs d) ∙ sym (sum_first (length xs) (λ i. cond (g (get_or (x ∷ xs) i d)) 1 0))

pub taken_sum : (r : List ℕ) → naming_entries r ≡ sum_below (length r) (λ f. cond (names_copy (get_or r f free_entry)) 1 0)
taken_sum r = count_sum names_copy r free_entry

-- ---- copies by their frames

-- one number below n at the most is x
sum_hit : (n x : ℕ) → sum_below n (λ i. cond (eqb x i) 1 0) ≡ cond (ltb x n) 1 0
unfolding sum_below
sum_hit zero x = rw (le-ltb x 0 (omega arith))
sum_hit (suc n) x = by (ℕ_discrete x n) (sum_hit n x)
  where
    later : (b : Bool) → ltb x n ≡ b → (x ≡ n → ⊥) → ◌≡◌ {A = ℕ} (cond b 1 0) (cond (ltb x (suc n)) 1 0)
    later true e d = let l = ltb-true x n e in rw (lt-ltb x (suc n) (omega arith))
    later false e d = let l = ltb-false x n e in rw (le-ltb x (suc n) (omega (arith, d)))

    by : Dec (x ≡ n) → sum_below n (λ i. cond (eqb x i) 1 0) ≡ cond (ltb x n) 1 0
        → cond (eqb x n) 1 0 + sum_below n (λ i. cond (eqb x i) 1 0) ≡ cond (ltb x (suc n)) 1 0
    by (yes e) k = rw (eq-eqb x n e, lt-ltb x (suc n) (omega arith), k, le-ltb x n (omega arith))
    by (no d) k = let m = later (ltb x n) refl d in rw (ne_eqb x n d) (omega arith)

abbrev placed : Copy → Bool
placed c = ltb c.frame 254

copies_sum : (cs : List Copy) → sum_below 254 (λ f. count (on_frame f) cs) ≡ count placed cs
unfolding count
copies_sum [] = sum_zero 254
copies_sum (c ∷ cs) =
    sum_plus 254 (λ f. cond (on_frame f c) 1 0) (λ f. count (on_frame f) cs)
    ∙ (let a = sum_hit 254 c.frame in let b = copies_sum cs in omega arith)

-- of a page that keeps its rule
module _ (limit : ℕ) (low : limit ≤ 254) (g : Page) (ok : page_rule limit g ≡ true) where
  standing_placed : (s : StandingPage limit g) (b : Bool) → is_null (get_or g.copies 0 zero_copy) ≡ b → count placed (copies_in_use g) ≡ cond b 0 g.n
  standing_placed s true e =
      let one : g.n ≡ 1 = (copy_at_lem s 0 s.some).lone e in
      count_none placed (copies_in_use g) zero_copy (λ k l.
      let z : k ≡ 0 = let m = length_in_use s in omega arith in
      let first : get_or (copies_in_use g) k zero_copy ≡ get_or g.copies 0 zero_copy = rw z (get_or-take g.n g.copies 0 zero_copy s.some) in
      rw (first, eqb-true (get_or g.copies 0 zero_copy).frame 255 e))
  standing_placed s false e =
      count_all placed (copies_in_use g) zero_copy (λ k l.
      let m : k < g.n = rw (length_in_use s) at l in
      let own : get_or (copies_in_use g) k zero_copy ≡ get_or g.copies k zero_copy = get_or-take g.n g.copies k zero_copy m in
      let w = (copy_at_lem s k m).placed (none_null s 0 s.some e k m) in
      rw own (lt-ltb (get_or g.copies k zero_copy).frame 254 (omega arith)))
      ∙ length_in_use s

  page_placed : count placed (copies_in_use g) ≡ frame_total g
  unfolding count
  page_placed = by (absent g) refl
    where
      by : (b : Bool) → absent g ≡ b → count placed (copies_in_use g) ≡ frame_total g
      by true e =
          let z : g.n ≡ 0 = eqb-true g.n 0 e in
          ap (λ (n : ℕ). count placed (take n g.copies)) z ∙ rw z (sym (either (is_null (get_or g.copies 0 zero_copy)) 0))
      by false e = standing_placed (standing limit g ok e) (is_null (get_or g.copies 0 zero_copy)) refl

-- and of all pages
pub uses_sum : (limit : ℕ) → limit ≤ 254 → (gs : List Page) → all (page_rule limit) gs ≡ true → sum_below 254 (λ f. uses f gs) ≡ frame_totals gs
unfolding uses frame_totals
uses_sum limit low [] e = sum_zero 254
uses_sum limit low (g ∷ gs) e =
    sum_plus 254 (λ f. count (on_frame f) (copies_in_use g)) (λ f. uses f gs)
    ∙ (let a = copies_sum (copies_in_use g) in
    let b = page_placed limit low g (all_first (page_rule limit) g gs e) in
    let c = uses_sum limit low gs (all_rest (page_rule limit) g gs e) in
    omega arith)
