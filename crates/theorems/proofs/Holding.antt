-- The bytes that the MOST RECENT copies of a page hold, through each change of its copies and of the stores.
use Prim.Native.Nat.{ℕ, ◌≤◌, ◌<◌}
use mathlib.Core.Path.{◌≡◌, refl, sym, ap, ◌∙◌}
use mathlib.Core.Bool.{Bool, true, false, cond}
use mathlib.Core.List.{List, [], ◌∷◌, map}
use native.Mathlib.Omega.{arith}
use borrow.Author.Tests.{eq-eqb}
use Rattle.tables.specs.declared.Copy.{Copy}
use Rattle.tables.specs.Lists.{all, count}
use Rattle.tables.specs.Model.{is_null, on_frame}
use Rattle.tables.specs.Rules.{copy_rule, is_current}
use Rattle.tables.specs.Changes.{stale_copy}
use Rattle.tables.proofs.ListLaws.{and_right, and_intro, all_first, all_rest, count_hit, count_miss, count_rest}
use Rattle.tables.proofs.RuleLaws.{GoodCopy, good_copy, current_placed, current_frame}
use Rattle.tables.proofs.UsesLaws.{on_own}
use Rattle.steps.specs.Stores.{splice, block, contents, zeros}
use Rattle.steps.specs.Steps.{first_current}
use Rattle.theorems.specs.Demand3.{Holds}
use Rattle.steps.proofs.Blocks.{one_on}

-- what `Holds` says of one copy
abbrev pub HoldsOne : List ℕ → Copy → List ℕ → Type 0
HoldsOne st c bs = c.recent ≡ true → contents st c ≡ bs

pub held_framed : (st : List ℕ) (c : Copy) → is_null c ≡ false → contents st c ≡ block st c.frame
held_framed st c e = rw e

-- ---- the same copies, other stores

module _ (limit n : ℕ) (st st' bs : List ℕ) where
  -- where the copies' frames are as they were
  pub holds_kept : (cs : List Copy) → all (copy_rule limit n) cs ≡ true
      → ((x : ℕ) → x < limit → 1 ≤ count (on_frame x) cs → block st' x ≡ block st x) → Holds st cs bs → Holds st' cs bs
  holds_kept [] rules same e = tt
  holds_kept (c ∷ cs) rules same e = (
    λ r. one (is_null c) refl ∙ e.0 r,
    holds_kept cs (all_rest (copy_rule limit n) c cs rules) (λ x l k. same x l (omega (arith, count_rest (on_frame x) c cs))) e.1,
  )
    where
      one : (z : Bool) → is_null c ≡ z → cond z zeros (block st' c.frame) ≡ cond z zeros (block st c.frame)
      one true z = refl
      one false z =
          same c.frame ((good_copy limit n c (all_first (copy_rule limit n) c cs rules)).placed z) (omega (arith, on_own c cs))

  -- where the CURRENT copies' frames took the bytes b
  pub holds_written : (o : ℕ) (b : List ℕ) (cs : List Copy) → all (copy_rule limit n) cs ≡ true
      → ((x : ℕ) → x < limit → 1 ≤ count (one_on is_current x) cs → block st' x ≡ splice (block st x) o b)
      → Holds st cs bs → Holds st' (map stale_copy cs) (splice bs o b)
  holds_written o b [] rules laid e = tt
  holds_written o b (c ∷ cs) rules laid e = (
    λ r.
        let current = and_right c.recent c.current r in
        let framed = current_placed facts current in
        let hit = count_hit (one_on is_current c.frame) c cs (and_intro current (eq-eqb c.frame c.frame refl)) in
        held_framed st' c framed ∙ laid c.frame (current_frame facts current) (omega arith)
        ∙ ap (λ (l : List ℕ). splice l o b) (sym (held_framed st c framed) ∙ e.0 (facts.marks current)),
    holds_written o b cs (all_rest (copy_rule limit n) c cs rules) (λ x l k. laid x l (omega (arith, count_rest (one_on is_current x) c cs))) e.1,
  )
    where
      facts : GoodCopy limit n c
      facts = good_copy limit n c (all_first (copy_rule limit n) c cs rules)

-- ---- a read

module _ (limit n : ℕ) (st bs : List ℕ) where
  pub first_current_lem : (cs : List Copy) → all (copy_rule limit n) cs ≡ true → 1 ≤ count is_current cs → Holds st cs bs
      → block st (first_current cs) ≡ bs
  unfolding first_current count
  first_current_lem [] rules some e = absurd (omega arith)
  first_current_lem (c ∷ cs) rules some e = go c.current refl (λ k. first_current_lem cs (all_rest (copy_rule limit n) c cs rules) k e.1)
    where
      go : (u : Bool) → c.current ≡ u → (1 ≤ count is_current cs → block st (first_current cs) ≡ bs)
          → block st (cond u c.frame (first_current cs)) ≡ bs
      go true u later =
          let facts = good_copy limit n c (all_first (copy_rule limit n) c cs rules) in
          sym (held_framed st c (current_placed facts u)) ∙ e.0 (facts.marks u)
      go false u later = later (let miss = count_miss is_current c cs u in omega arith)
