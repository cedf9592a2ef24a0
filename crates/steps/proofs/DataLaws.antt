-- The data of a reply: a test at each of several places.
use Prim.Native.Nat.{ℕ, suc, ◌+◌, ◌-◌, ◌*◌, ◌<◌}
use mathlib.Core.Path.{◌≡◌}
use mathlib.Core.Bool.{Bool, ◌&&◌}
use mathlib.Core.List.{List}
use native.Mathlib.Nat.{mul-suc}
use native.Mathlib.Numerals.{add-one}
use native.Mathlib.Omega.{arith}
use lib.ListN.{drop}
use lib.Seq.{drop-drop}
use Rattle.steps.specs.Data.{each_is}

-- those from i on are the one at i and those from i + 1 on
pub each_next : (size : ℕ) (test : List ℕ → Bool) (k i : ℕ) (b : List ℕ) → i < k
    → each_is (k - i) size test (drop (size * i) b) ≡ (test (drop (size * i) b) && each_is (k - (i + 1)) size test (drop (size * (i + 1)) b))
unfolding each_is
each_next size test k i b h =
    let e : k - i ≡ suc (k - (i + 1)) = omega arith in
    let f : size * i + size ≡ size * (i + 1) = rw (add-one i) (omega (arith, mul-suc size i)) in
    rw (e, drop-drop size (size * i) b, f)
