-- Loops over the copies of a page: what is still to be done is told by `drop j (copies_in_use g)`. In order: bytes laid into
-- the frames of some copies; the entries that show the copies.
use Prim.Native.Nat.{ℕ, ◌+◌, ◌*◌, ◌≤◌, ◌<◌}
use mathlib.Core.Path.{◌≡◌, refl, sym, ap, ◌∙◌}
use mathlib.Core.Bool.{Bool, true, false, cond}
use mathlib.Core.List.{List, [], ◌∷◌}
use native.Mathlib.Omega.{arith}
use lib.ListN.{length, drop, get_or}
use Rattle.tables.specs.declared.Copy.{Copy}
use Rattle.tables.specs.Model.{zero_copy}
use Rattle.tables.proofs.ListLaws.{and_intro}
use Rattle.tables.proofs.Loops.{drop_end, drop_more}
use Rattle.steps.specs.Data.{is_mark, copy_marks_valid, each_is}
use Rattle.steps.specs.Stores.{splice, lay_frame}
use Rattle.steps.specs.Effects.{bit, copies_shown}
use Rattle.steps.specs.Private.{lay_each}
use Rattle.steps.proofs.StoreLaws.{splice_next, splice_none}

-- ---- bytes laid into the frame of each copy that is one of `those`
module _ (cs : List Copy) (j : ℕ) (those : Copy → Bool) (o : ℕ) (b : List ℕ) where
  pub lay_turn : (st st' all : List ℕ) → j < length cs
      → st' ≡ cond (those (get_or cs j zero_copy)) (lay_frame st (get_or cs j zero_copy).frame o b) st
      → lay_each those st (drop j cs) o b ≡ all → lay_each those st' (drop (j + 1) cs) o b ≡ all
  unfolding lay_each
  lay_turn st st' all h e r = rw e (sym (ap (λ (cs : List Copy). lay_each those st cs o b) (drop_more cs j zero_copy h)) ∙ r)

  pub lay_ended : (st all : List ℕ) → length cs ≤ j → lay_each those st (drop j cs) o b ≡ all → st ≡ all
  unfolding lay_each
  lay_ended st all h r = sym (ap (λ (cs : List Copy). lay_each those st cs o b) (drop_end cs j h)) ∙ r

-- ---- the entries that show the copies, three bytes each
module _ (cs : List Copy) (j : ℕ) where
  pub entries_turn : (out out' all : List ℕ) → j < length cs → 1 + 3 * j + 3 ≤ length out
      → out' ≡ splice out (1 + 3 * j) (copies_shown (get_or cs j zero_copy ∷ []))
      → splice out (1 + 3 * j) (copies_shown (drop j cs)) ≡ all → splice out' (1 + 3 * (j + 1)) (copies_shown (drop (j + 1) cs)) ≡ all
  unfolding copies_shown
  entries_turn out out' all h w e r =
      let b = copies_shown (get_or cs j zero_copy ∷ []) in
      let s : 1 + 3 * (j + 1) ≡ 1 + 3 * j + 3 = omega arith in
      rw (e, s)
      (splice_next out (1 + 3 * j) b (copies_shown (drop (j + 1) cs)) w
      ∙ sym (ap (λ (cs : List Copy). splice out (1 + 3 * j) (copies_shown cs)) (drop_more cs j zero_copy h)) ∙ r)

  pub entries_ended : (out all : List ℕ) → length cs ≤ j → splice out (1 + 3 * j) (copies_shown (drop j cs)) ≡ all → out ≡ all
  unfolding copies_shown
  entries_ended out all h r =
      sym (splice_none out (1 + 3 * j)) ∙ sym (ap (λ (cs : List Copy). splice out (1 + 3 * j) (copies_shown cs)) (drop_end cs j h)) ∙ r

pub length_shown : (cs : List Copy) → length (copies_shown cs) ≡ 3 * length cs
unfolding copies_shown
length_shown [] = refl
length_shown (c ∷ cs) = let k = length_shown cs in omega arith

-- both marks of each are 0 or 1
pub shown_marked : (cs : List Copy) → each_is (length cs) 3 copy_marks_valid (copies_shown cs) ≡ true
unfolding copies_shown each_is
shown_marked [] = refl
shown_marked (c ∷ cs) = and_intro (and_intro (is_mark_lem c.current) (is_mark_lem c.recent)) (shown_marked cs)
  where
    is_mark_lem : (b : Bool) → is_mark (bit b) ≡ true
    is_mark_lem true = refl
    is_mark_lem false = refl
