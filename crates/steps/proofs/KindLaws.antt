-- The kinds and their numbers. In order: the kind with a number; the numbers of the kinds.
use Prim.Native.Nat.{ℕ, ◌+◌, ◌-◌, ◌≤◌, ◌<◌}
use mathlib.Core.Path.{◌≡◌, refl, sym, ap, ◌∙◌}
use mathlib.Core.Bool.{Bool, true, false, ◌||◌}
use native.Mathlib.Omega.{arith}
use lib.ListN.{length, get_or, get_or-eq_default}
use lib.Dec.{eqb, ltb}
use borrow.Author.Tests.{eqb-true, eqb-false, ltb-true, ltb-false}
use Rattle.tables.specs.Numbers.{unknown_kind}
use Rattle.tables.specs.Lists.{all, all_below}
use Rattle.tables.proofs.ListLaws.{or_left, or_right, all_at, below_at}
use Rattle.steps.specs.declared.Kind.{Kind}
use Rattle.steps.specs.declared.Kind.TheVariants.{Create, DeletePage, Grant, Read, Write, MakeCopy, DeleteCopy, SetCurrent, RemoveCurrent, LookPage, LookFrame, Retire}
use Rattle.steps.specs.Kinds.{kinds, kind_number, is_unknown, kind_of}
use Rattle.steps.specs.Steps.{refuse, accept, test}
use Rattle.steps.specs.Promises.{kind_known}

-- ---- the kind with a number

unknown_made : (n : ℕ) → is_unknown n ≡ true → kind_of n ≡ Create
unfolding kinds
unknown_made n e = go (eqb n 0) refl e
  where
    go : (b : Bool) → eqb n 0 ≡ b → (b || ltb (length kinds) n) ≡ true → kind_of n ≡ Create
    go true z e = ap (λ (i : ℕ). get_or kinds i Create) (let none = eqb-true n 0 z in let first : n - 1 ≡ 0 = omega arith in first)
    go false z e = get_or-eq_default kinds Create (let past = ltb-true (length kinds) n e in let last : 12 ≤ n - 1 = omega arith in last)

-- what an answer says of a number: its kind, or that no kind has it, and then its row is that of create
module _ (n : ℕ) where
  pub known_kind : {k : Kind} → accept k ≡ kind_known n → kind_of n ≡ k
  known_kind {k} e = go (is_unknown n) e
    where
      go : (b : Bool) → accept k ≡ test b unknown_kind (accept (kind_of n)) → kind_of n ≡ k
      go true e = cc
      go false e = cc

  pub number_of_kind : {k : Kind} → accept k ≡ kind_known n → is_unknown n ≡ false
  number_of_kind {k} e = go (is_unknown n) e
    where
      go : (b : Bool) → accept k ≡ test b unknown_kind (accept (kind_of n)) → b ≡ false
      go true e = cc
      go false e = refl

  pub no_kind : {m : ℕ} → refuse m ≡ kind_known n → is_unknown n ≡ true
  no_kind {m} e = go (is_unknown n) e
    where
      go : (b : Bool) → refuse m ≡ test b unknown_kind (accept (kind_of n)) → b ≡ true
      go true e = refl
      go false e = cc

  pub no_kind_told : {m : ℕ} → refuse m ≡ kind_known n → m ≡ unknown_kind
  no_kind_told {m} e = go (is_unknown n) e
    where
      go : (b : Bool) → refuse m ≡ test b unknown_kind (accept (kind_of n)) → m ≡ unknown_kind
      go true e = cc
      go false e = cc

  pub no_kind_made : {m : ℕ} → refuse m ≡ kind_known n → kind_of n ≡ Create
  no_kind_made e = unknown_made n (no_kind e)

-- ---- the numbers of the kinds

-- each kind has the number at which it stands, which is known
numbered : (k : Kind) → (kind_of (kind_number k) ≡ k) × (is_unknown (kind_number k) ≡ false)
unfolding kinds
numbered Create = (refl, refl)
numbered DeletePage = (refl, refl)
numbered Grant = (refl, refl)
numbered Read = (refl, refl)
numbered Write = (refl, refl)
numbered MakeCopy = (refl, refl)
numbered DeleteCopy = (refl, refl)
numbered SetCurrent = (refl, refl)
numbered RemoveCurrent = (refl, refl)
numbered LookPage = (refl, refl)
numbered LookFrame = (refl, refl)
numbered Retire = (refl, refl)

pub kind_numbered : (k : Kind) → kind_of (kind_number k) ≡ k
kind_numbered k = (numbered k).0

-- kinds with the same number are the same
pub kind_is : (k j : Kind) → eqb (kind_number k) (kind_number j) ≡ true → k ≡ j
kind_is k j e = sym (kind_numbered k) ∙ ap kind_of (eqb-true (kind_number k) (kind_number j) e) ∙ kind_numbered j

pub number_known : (k : Kind) → is_unknown (kind_number k) ≡ false
number_known k = (numbered k).1

known_low : (n : ℕ) → is_unknown n ≡ false → (1 ≤ n) × (n - 1 < length kinds)
known_low n e =
    let some = eqb-false n 0 (or_left (eqb n 0) _ e) in
    let most = ltb-false (length kinds) n (or_right (eqb n 0) _ e) in
    (omega arith, omega arith)

-- what holds of all of them in their list holds of each
pub each_kind : (f : Kind → Bool) → all f kinds ≡ true → (k : Kind) → f k ≡ true
each_kind f e k = rw (← kind_numbered k) (all_at f kinds (kind_number k - 1) Create e (known_low (kind_number k) (number_known k)).1)

abbrev counts : ℕ → Bool
counts i = eqb (kind_number (get_or kinds i Create)) (i + 1)

all_count : all_below (length kinds) counts ≡ true
unfolding kinds all_below
all_count = refl

-- a known number is that of its kind
pub number_kind : (n : ℕ) → is_unknown n ≡ false → kind_number (kind_of n) ≡ n
number_kind n e =
    let low = known_low n e in
    let k = eqb-true (kind_number (kind_of n)) (n - 1 + 1) (below_at (length kinds) counts (n - 1) all_count low.1) in
    omega (arith, low.0)
