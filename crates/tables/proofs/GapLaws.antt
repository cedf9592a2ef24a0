-- What stands where once an entry is deleted and the gap closed.
use Prim.Native.Nat.{ℕ, zero, suc, ◌+◌, ◌-◌, ◌≤◌}
use mathlib.Core.Path.{◌≡◌, refl, ap, ◌∙◌}
use mathlib.Core.List.{List, [], ◌∷◌}
use native.Mathlib.Nat.{zero-add, not-suc-le-zero, le_of_suc-le-suc}
use native.Mathlib.Numerals.{add-one}
use native.Mathlib.Omega.{arith}
use lib.ListN.{length, get_or, set, take, drop, length-append}
use Rattle.std.specs.List.{copy_within}
use lib.Seq.{paste, set_at, take_all}
use Rattle.tables.specs.declared.Copy.{Copy}
use Rattle.tables.specs.Model.{fresh_copy}
use Rattle.tables.specs.Changes.{close_gap}
use Rattle.tables.proofs.Loops.{drop_more, drop_end}

pub gap_length : (cs : List Copy) (k : ℕ) → length (close_gap cs k) ≡ length cs
unfolding close_gap
gap_length [] k = refl
gap_length (c ∷ cs) zero = simp length-append (add-one (length cs))
gap_length (c ∷ cs) (suc k) = ap suc (gap_length cs k)

-- a number with no entry deletes nothing
pub gap_out : (cs : List Copy) (k : ℕ) → length cs ≤ k → close_gap cs k ≡ cs
unfolding close_gap
gap_out [] k h = refl
gap_out (c ∷ cs) zero h = absurd (not-suc-le-zero h)
gap_out (c ∷ cs) (suc k) h = ap {B = List Copy} (λ r. c ∷ r) (gap_out cs k (le_of_suc-le-suc h))

-- what `copy_within` makes of them is a `paste`
gap_moved : (cs : List Copy) (k l : ℕ) → k ≤ l → suc l ≡ length cs → set (paste cs k (drop (k + 1) cs) (l - k)) l fresh_copy ≡ close_gap cs k
unfolding close_gap
gap_moved [] k l h e = absurd (omega arith)
gap_moved (c ∷ cs) zero l h e =
    let z : l - 0 ≡ l = omega arith in
    let n : length cs ≡ l = omega arith in
    let whole : take l cs ≡ cs = take_all l cs (omega arith) in
    let last : drop l (c ∷ cs) ≡ get_or (c ∷ cs) l c ∷ [] = drop_more (c ∷ cs) l c (omega arith) ∙ rw (drop_end (c ∷ cs) (l + 1) (omega arith)) in
    rw (z, zero-add l, whole, last) (set_at cs (get_or (c ∷ cs) l c) [] fresh_copy l n)
gap_moved (c ∷ cs) (suc k) zero h e = absurd (omega arith)
gap_moved (c ∷ cs) (suc k) (suc l) h e =
    let d : suc l - suc k ≡ l - k = omega arith in
    let a : suc k + 1 ≡ suc (k + 1) = omega arith in
    let b : suc k + (l - k) ≡ suc (k + (l - k)) = omega arith in
    rw (d, a, b) (ap {B = List Copy} (λ r. c ∷ r) (gap_moved cs k l (omega arith) (omega arith)))

-- the entries after the gap copied to it, and the last one, l, fresh
pub gap_closed : (cs : List Copy) (k l : ℕ) → k ≤ l → suc l ≡ length cs → set (copy_within cs (k + 1) (length cs) k) l fresh_copy ≡ close_gap cs k
gap_closed cs k l h e =
    let n : length cs - (k + 1) ≡ l - k = omega arith in
    rw n (gap_moved cs k l h e)
