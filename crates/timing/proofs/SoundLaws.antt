-- The tests of the rules, one after the other.
use Prim.Native.Nat.{ℕ, ◌+◌, ◌%◌, ◌≤◌, zero-le}
use mathlib.Core.Path.{◌≡◌, refl, sym, ap, ◌∙◌}
use mathlib.Core.Bool.{Bool, true, false, cond}
use native.Mathlib.Numerals.{add-one}
use native.Mathlib.Omega.{arith}
use mathlib.Core.List.{List, [], ◌∷◌}
use lib.ListN.{get_or, set}
use Rattle.tables.specs.declared.Page.{Page}
use Rattle.tables.specs.declared.Tables.{Tables}
use Rattle.tables.specs.Model.{with_pages, zero_page}
use Rattle.tables.specs.Rules.{sound}
use Rattle.timing.specs.Timed.{with_owner, owned, sound_times}

one_more : (t : Tables) (i : ℕ) → sound_times t (i + 1) ≡ sound_times t i + cond (sound (owned t (i % 16))) 1 0
unfolding sound_times
one_more t i = rw (add-one i)

-- the owner of page 0 set again
owned_twice : (t : Tables) (x s : ℕ) → owned (owned t x) s ≡ owned t s
owned_twice t x s = ap (λ (l : List Page). with_pages t l t.register) (go t.pages)
  where
    owner_of : List Page → ℕ → List Page
    owner_of l s = set l 0 (with_owner (get_or l 0 zero_page) s)

    go : (l : List Page) → owner_of (owner_of l x) s ≡ owner_of l s
    go [] = refl
    go (g ∷ l) = refl

-- where the loop stands after i of the tests: the tables are as at the start, but for the owner of page 0
pub record Tested (t₀ : Tables) (i : ℕ) (t : Tables) (held : ℕ) : Type 0 where
  pub same : (s : ℕ) → owned t s ≡ owned t₀ s
  pub counted : held ≡ sound_times t₀ i
  pub few : held ≤ i

pub tested_none : (t : Tables) → Tested t 0 t 0
unfolding sound_times
tested_none t = record { same = λ s. refl; counted = refl; few = zero-le }

module _ {t₀ t : Tables} {i held : ℕ} (q : Tested t₀ i t held) where
  few_more : (b : Bool) → held + cond b 1 0 ≤ i + 1
  few_more true = let k = q.few in omega arith
  few_more false = let k = q.few in omega arith

  -- after one test more
  pub tested_on : (held' : ℕ) (b : Bool) → b ≡ sound (owned t (i % 16)) → held' ≡ held + cond b 1 0
      → Tested t₀ (i + 1) (owned t (i % 16)) held'
  tested_on held' b e eh =
      record {
        same = λ s. owned_twice t (i % 16) s ∙ q.same s;
        counted = eh ∙ rw (e, q.same, q.counted) (sym (one_more t₀ i));
        few = rw eh (few_more b);
      }
