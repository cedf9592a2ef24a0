-- What a caller keeps. The tables that a call finds in the bytes are those that the one before it put there. In order:
-- the bytes of sound tables; bytes that a state that keeps the rules was put into; the bytes that `reel_fresh` leaves;
-- the tally.
use Prim.Native.Nat.{ℕ, ◌*◌, ◌≤◌}
use mathlib.Core.Path.{◌≡◌, refl, sym, ap, ◌∙◌, subst}
use mathlib.Core.Bool.{Bool, true, false, ◌&&◌, cond}
use mathlib.Core.List.{List, [], ◌∷◌}
use native.Mathlib.Omega.{arith}
use lib.ListN.{length}
use lib.Dec.{leb}
use borrow.Author.Tests.{leb-true, eqb-true, eq-eqb}
use Rattle.tables.specs.declared.Tables.{Tables}
use Rattle.tables.specs.Numbers.{accepted, broken_tables, too_many_frames}
use Rattle.tables.specs.Model.{Made, fresh_tables}
use Rattle.tables.specs.Rules.{sound}
use Rattle.tables.proofs.ListLaws.{and_intro}
use Rattle.tables.proofs.FreshLaws.{fresh_sound}
use Rattle.steps.specs.Stores.{fits}
use Rattle.steps.specs.Steps.{Outcome, refuse, accept}
use Rattle.steps.specs.Effects.{State, Result, left}
use Rattle.steps.specs.Promises.{state_of}
use Rattle.steps.proofs.StepLaws.{Good, step_good}
use Rattle.messages.specs.declared.Tally.{Tally}
use Rattle.messages.specs.Run.{Sent, left_by, end_of}
use Rattle.theorems.proofs.Frames.{by_message}
use Rattle.embed.specs.Bytes.{tables_bytes}
use Rattle.embed.specs.Exports.{tables_sized, tables_of, with_tables, fresh_into, tally_sized, tally_of, with_tally, left_in}
use Rattle.embed.specs.Exports.{Kept, kept, state_in}
use Rattle.embed.proofs.LentLaws.{laid_in, found_again}

-- ---- the bytes of sound tables

pub put : (t t' : Tables) → sound t ≡ true → with_tables (tables_bytes t) t' ≡ tables_bytes t'
put t t' e = rw (laid_in t e) refl

pub found : (t : Tables) → sound t ≡ true → tables_of (tables_bytes t) ≡ t
found t e = ap tables_of (sym (put t t e)) ∙ found_again (tables_bytes t) t (laid_in t e) e

-- ---- what is kept

-- the bytes are those of tables that keep the rules, and the stores fit
pub record Sane (k : Kept) : Type 0 where
  pub good : Good (state_in k)
  pub bytes : k.tables ≡ tables_bytes (tables_of k.tables)

-- such bytes are the same where the state in them is
pub same_kept : (k k' : Kept) → Sane k → Sane k' → state_in k ≡ state_in k' → k ≡ k'
same_kept k k' sane sane' e i =
    record {
      tables = (sane.bytes ∙ ap (λ (s : State). tables_bytes s.tables) e ∙ sym sane'.bytes) i;
      fast = (e i).fast;
      slow = (e i).slow;
    }

-- what is left where the tables of a state that keeps the rules were put, with its stores: the next call finds that
-- state
pub record Leaves (k : Kept) (s : State) : Type 0 where
  pub state_is : state_in k ≡ s
  pub sane : Sane k

pub leaves : (k : Kept) (s : State) → Good s → k.tables ≡ tables_bytes s.tables → k.fast ≡ s.fast
    → k.slow ≡ s.slow → Leaves k s
leaves k s g et ef es =
    let t : tables_of k.tables ≡ s.tables = ap tables_of et ∙ found s.tables g.tables_sound in
    let same : state_in k ≡ s = rw (t, ef, es) refl in
    record {
      state_is = same;
      sane = record { good = subst Good (sym same) g; bytes = et ∙ ap tables_bytes (sym t) };
    }

-- tables put back into what was kept; what a message leaves of the bytes
module _ (k : Kept) (sane : Sane k) where
  pub put_kept : (t : Tables) → with_tables k.tables t ≡ tables_bytes t
  put_kept t =
      ap (λ (b : List ℕ). with_tables b t) sane.bytes ∙ put (tables_of k.tables) t sane.good.tables_sound

  pub left_kept : (o : Outcome Result) → left_in k.tables o ≡ tables_bytes (left (state_in k) o).tables
  left_kept (refuse n) = sane.bytes
  left_kept (accept r) = put_kept r.state.tables

-- messages keep the rules
pub end_good : (room : ℕ) (xs : List Sent) (s : State) → Good s → Good (end_of room s xs)
unfolding end_of
end_good room [] s g = g
end_good room (x ∷ xs) s g =
    end_good room xs (left_by room s x) (by_message s Good g (λ c bs. step_good s c bs g) room x)

-- ---- from `reel_fresh` on

-- where it answered 0
pub record Freshly (p s : ℕ) (b : List ℕ) : Type 0 where
  pub fast_low : p ≤ 127
  pub slow_low : s ≤ 127
  pub bytes : (fresh_into p s b).bytes ≡ tables_bytes (fresh_tables p s)

pub freshly : (p s : ℕ) (b : List ℕ) → (fresh_into p s b).number ≡ accepted → Freshly p s b
freshly p s b = go (tables_sized b) refl (leb p 127) refl (leb s 127) refl
  where
    go : (x : Bool) → tables_sized b ≡ x → (y : Bool) → leb p 127 ≡ y → (z : Bool) → leb s 127 ≡ z
        → cond x (cond {A = Made} (y && z) (record { number = accepted; tables = fresh_tables p s })
        (record { number = too_many_frames; tables = fresh_tables 0 0 })).number broken_tables ≡ accepted
        → Freshly p s b
    go true ex true ey true ez e =
        record { fast_low = leb-true p 127 ey; slow_low = leb-true s 127 ez; bytes = rw (ex, ey, ez) refl }
    go true ex true ey false ez e = absurd (omega (arith, e))
    go true ex false ey z ez e = absurd (omega (arith, e))
    go false ex y ey z ez e = absurd (omega (arith, e))

pub fresh_leaves : (p s : ℕ) (b fast slow : List ℕ) → (fresh_into p s b).number ≡ accepted → length fast ≡ 64 * p
    → length slow ≡ 64 * s → Leaves (kept (fresh_into p s b).bytes fast slow) (state_of (fresh_tables p s) fast slow)
unfolding fresh_tables fits
fresh_leaves p s b fast slow e lp ls =
    let f = freshly p s b e in
    let g : Good (state_of (fresh_tables p s) fast slow) = record {
      tables_sound = fresh_sound p s f.fast_low f.slow_low;
      stores_fit = and_intro (eq-eqb _ _ lp) (eq-eqb _ _ ls);
    } in
    leaves (kept (fresh_into p s b).bytes fast slow) (state_of (fresh_tables p s) fast slow) g f.bytes refl refl

-- ---- the tally: numbers l that are not three are left alone, and count for none

module _ (l : List ℕ) where
  -- what they hold, put into them
  pub put_own : l ≡ with_tally l (tally_of l)
  put_own = go l (tally_sized l) refl
    where
      go : (m : List ℕ) (z : Bool) → tally_sized m ≡ z
          → m ≡ cond z ((tally_of m).messages ∷ (tally_of m).refusals ∷ (tally_of m).laid ∷ []) m
      go m false e = refl
      go [] true e = absurd (omega (arith, eqb-true 0 3 e))
      go (a ∷ []) true e = absurd (omega (arith, eqb-true 1 3 e))
      go (a ∷ b ∷ []) true e = absurd (omega (arith, eqb-true 2 3 e))
      go (a ∷ b ∷ c ∷ []) true e = refl
      go (a ∷ b ∷ c ∷ d ∷ m) true e = absurd (omega (arith, eqb-true (length (a ∷ b ∷ c ∷ d ∷ m)) 3 e))

  -- counted on a second time
  pub put_twice : (n : Tally) (f : Tally → Tally)
      → with_tally (with_tally l n) (f (tally_of (with_tally l n))) ≡ with_tally l (f n)
  put_twice n f = go (tally_sized l) refl
    where
      go : (z : Bool) → tally_sized l ≡ z
          → let m = cond z (n.messages ∷ n.refusals ∷ n.laid ∷ []) l in
          with_tally m (f (tally_of m)) ≡ cond z ((f n).messages ∷ (f n).refusals ∷ (f n).laid ∷ []) l
      go true e = refl
      go false e = rw e
