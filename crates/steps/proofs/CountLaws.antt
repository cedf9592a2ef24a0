-- Loops over the copies in use of a page: at index j what is left to do is told by `drop j (copies_in_use g)`.
-- In order: a loop that counts the copies of which f holds; the frame of the first CURRENT copy.
use Prim.Native.Nat.{ℕ, ◌+◌, ◌≤◌, ◌<◌}
use mathlib.Core.Path.{◌≡◌, refl, sym, ap, ◌∙◌}
use mathlib.Core.Bool.{Bool, true, false, cond}
use mathlib.Core.List.{List, [], ◌∷◌}
use native.Mathlib.Nat.{zero-add}
use native.Mathlib.Omega.{arith}
use lib.ListN.{length, drop}
use borrow.Author.Tests.{ne_eqb}
use Rattle.std.specs.Prelude.{Some, None}
use Rattle.std.specs.List.{find}
use Rattle.tables.specs.declared.Copy.{Copy}
use Rattle.tables.specs.declared.Page.{Page}
use Rattle.tables.specs.Lists.{count}
use Rattle.tables.specs.Numbers.{accepted, nothing_current}
use Rattle.tables.specs.Model.{copies_in_use}
use Rattle.tables.specs.Rules.{is_current}
use Rattle.tables.proofs.Loops.{drop_end, use_more}
use Rattle.steps.specs.declared.Kind.TheVariants.{Read}
use Rattle.steps.specs.declared.Act.TheVariants as Act
use Rattle.steps.specs.declared.Call.{Call}
use Rattle.steps.specs.declared.View.{View}
use Rattle.steps.specs.declared.Show.TheVariants as Show
use Rattle.steps.specs.declared.Plan.{Plan}
use Rattle.steps.specs.Steps.{refuse, accept, showing, copy_at, currents, first_current, lacks_right, perform}

-- ---- of how many copies f holds

-- of the n copies in use those before j are counted, k of them
pub record Counted (g : Page) (f : Copy → Bool) (n j k : ℕ) : Type 0 where
  pub all_of : n ≡ length (copies_in_use g)
  pub most : n ≤ 8
  pub near : j ≤ n
  pub few : k ≤ j
  pub whole : k + count f (drop j (copies_in_use g)) ≡ count f (copies_in_use g)

module _ {g : Page} {f : Copy → Bool} {n : ℕ} where
  pub count_start : n ≡ length (copies_in_use g) → n ≤ 8 → Counted g f n 0 0
  count_start e h = record { all_of = e; most = h; near = omega arith; few = omega arith; whole = zero-add _ }

  module _ {j k : ℕ} (v : Counted g f n j k) where
    pub count_taken : j < n → f (copy_at g j) ≡ true → Counted g f n (j + 1) (k + 1)
    unfolding count
    count_taken h t =
        let e = rw (use_more g j (omega arith), t) at v.whole in
        record { all_of = v.all_of; most = v.most; near = omega arith; few = omega arith; whole = omega arith }

    pub count_passed : j < n → f (copy_at g j) ≡ false → Counted g f n (j + 1) k
    unfolding count
    count_passed h t =
        let e = rw (use_more g j (omega arith), t) at v.whole in
        record { all_of = v.all_of; most = v.most; near = omega arith; few = omega arith; whole = omega arith }

    pub count_ended : n ≤ j → k ≡ count f (copies_in_use g)
    unfolding count
    count_ended h = let e = rw (drop_end (copies_in_use g) j (omega arith)) at v.whole in omega arith

-- ---- the lowest-numbered CURRENT copy

-- there is none where none is CURRENT, and else its frame is the one that a read looks at
pub current_none : (cs : List Copy) → find is_current cs ≡ None → count is_current cs ≡ 0
unfolding count
current_none [] e = refl
current_none (c ∷ cs) e = go c.current refl e (current_none cs)
  where
    go : (b : Bool) → c.current ≡ b → cond b (Some c) (find is_current cs) ≡ None
        → (find is_current cs ≡ None → count is_current cs ≡ 0) → cond c.current 1 0 + count is_current cs ≡ 0
    go true f e r = cc
    go false f e r = let q = r e in rw f (zero-add _ ∙ q)

pub current_some : (cs : List Copy) (k : Copy) → find is_current cs ≡ Some k → (1 ≤ count is_current cs) × (first_current cs ≡ k.frame)
unfolding count first_current
current_some [] k e = cc
current_some (c ∷ cs) k e = go c.current refl e (current_some cs k)
  where
    go : (b : Bool) → c.current ≡ b → cond b (Some c) (find is_current cs) ≡ Some k
        → (find is_current cs ≡ Some k → (1 ≤ count is_current cs) × (first_current cs ≡ k.frame))
        → (1 ≤ cond c.current 1 0 + count is_current cs) × (cond c.current c.frame (first_current cs) ≡ k.frame)
    go true f e r = let same : c ≡ k = cc in rw f (omega arith, ap (λ (x : Copy). x.frame) same)
    go false f e r = let q = r e in rw f (omega (arith, q.0), q.1)

module _ (v : View) (c : Call) (size : ℕ) (may : accepted ≡ lacks_right v.page c.station Act.Read) where
  pub read_none : None ≡ find is_current (copies_in_use v.page) → refuse nothing_current ≡ perform v c size Read
  unfolding perform
  read_none e = rw (← may, current_none (copies_in_use v.page) (sym e)) refl

  pub read_some : {k : Copy} → Some k ≡ find is_current (copies_in_use v.page) → {plan : Plan}
      → accept plan ≡ showing c.count (Show.Frame k.frame c.offset) → accept plan ≡ perform v c size Read
  unfolding perform
  read_some {k} e {plan} f =
      let r = current_some (copies_in_use v.page) k (sym e) in
      let ne = ne_eqb (currents v.page) 0 (λ z. omega (arith, r.0)) in
      rw (← may, ne, r.1) f
