-- A loop that turns a list a into b in place, one element a turn from the front: after j turns it holds the first j of
-- b, and then those of a.
use Prim.Native.Nat.{ℕ, ◌+◌, ◌-◌, ◌≤◌, ◌<◌}
use mathlib.Core.Path.{◌≡◌, sym, ap, ◌∙◌}
use mathlib.Core.List.{List, [], ◌∷◌, ◌++◌, append-nil}
use native.Mathlib.Numerals.{add-one}
use native.Mathlib.Omega.{arith}
use lib.ListN.{length, get_or, set, take, drop}
use lib.Seq.{take-suc, set_at, append_snoc, length-take-le, get_or-append-add, get_or-drop, take_all}
use Rattle.tables.proofs.Loops.{drop_more, drop_end}

module _ {A : Type 0} where
  unfoldable pub filled : List A → List A → ℕ → List A
  filled b a j = take j b ++ drop j a

  -- before the loop, or where the first j of both agree
  pub fill_start : (b a : List A) (j : ℕ) → take j b ≡ take j a → take j a ++ drop j a ≡ a → filled b a j ≡ a
  unfolding filled
  fill_start b a j e h = rw e h

  -- one turn
  pub fill_more : (b a : List A) (j : ℕ) (d v : A) → length b ≡ length a → j < length a → get_or b j d ≡ v → set (filled b a j) j v ≡ filled b a (j + 1)
  unfolding filled
  fill_more b a j d v e h q =
      let n : length (take j b) ≡ j = length-take-le j b (omega arith) in
      let t : take (j + 1) b ≡ take j b ++ (v ∷ []) = rw add-one (take-suc b j d (omega arith) ∙ rw q) in
      rw (t, drop_more a j d h) (set_at (take j b) (get_or a j d) (drop (j + 1) a) v j n ∙ sym (append_snoc (take j b) v (drop (j + 1) a)))

  -- what is not passed yet is as in a
  pub fill_rest : (b a : List A) (j k : ℕ) (d : A) → j ≤ length b → j ≤ k → get_or (filled b a j) k d ≡ get_or a k d
  unfolding filled
  fill_rest b a j k d h l =
      let n : length (take j b) ≡ j = length-take-le j b h in
      let e : k ≡ length (take j b) + (k - j) = omega arith in
      let m : j + (k - j) ≡ k = omega arith in
      ap (λ (z : ℕ). get_or (take j b ++ drop j a) z d) e
      ∙ get_or-append-add (take j b) (drop j a) (k - j) d
      ∙ get_or-drop j a (k - j) d
      ∙ ap (λ (z : ℕ). get_or a z d) m

  -- after the last turn
  pub fill_end : (b a : List A) (n : ℕ) → length b ≡ n → length a ≡ n → filled b a n ≡ b
  unfolding filled
  fill_end b a n hb ha = rw (drop_end a n (omega arith), take_all n b (omega arith)) (append-nil b)
