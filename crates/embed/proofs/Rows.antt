-- Values of one size in a row, read from bytes and laid into them.
use Prim.Native.Nat.{ℕ, zero, suc, suc-le-suc, ◌+◌, ◌*◌, ◌≤◌, ◌<◌}
use mathlib.Core.Bool.{Bool, true, false, and-false}
use mathlib.Core.Path.{◌≡◌, refl, sym, ap, subst, ◌∙◌}
use mathlib.Core.List.{List, [], ◌++◌, flat_map, append-nil, append_assoc}
use native.Mathlib.Nat.{zero-add, not-suc-le-zero, le_of_suc-le-suc, mul-zero, mul-suc}
use native.Mathlib.Numerals.{add-one}
use native.Mathlib.Omega.{arith}
use lib.Dec.{ltb}
use lib.ListN.{length, get_or, take, drop, length-append, drop_of_length-le}
use lib.Seq.{drop-drop, take-suc, take_at, drop_at}
use borrow.Author.Tests.{ltb-true, ltb-false}
use borrow.Rule.Slice.PartMut.{put_mid}
use denote.Param.Members.{Mut}
use Rattle.std.specs.Array.{IsFromFnResult, IsFromFnResultFrom}
use Rattle.std.specs.Fn.{Called}
use Rattle.std.specs.Bool.{MatchBool}
use Rattle.std.specs.List.{AllWithin, HoldsAt, range_with_len}
use Rattle.std.proofs.lemmas.List.{ext_get_or, flat_map_more, take_all}
use Rattle.std.proofs.lemmas.List.FromFn.{length-range_with_len, get_or-range_with_len}
use Rattle.tables.proofs.ListLaws.{and_intro}
use Rattle.steps.specs.Data.{each_is}
use Rattle.embed.specs.Bytes.{from_each}

-- ---- a row read

module _ {A : Type 0} (size : ℕ) (from : List ℕ → A) where
  -- how many
  each_length : (k : ℕ) (b : List ℕ) → length (from_each k size from b) ≡ k
  unfolding from_each
  each_length zero b = refl
  each_length (suc k) b = ap suc (each_length k (drop size b))

  -- the one at i
  each_at : (k i : ℕ) (b : List ℕ) (d : A) → i < k → get_or (from_each k size from b) i d ≡ from (drop (size * i) b)
  unfolding from_each
  each_at zero i b d h = absurd (not-suc-le-zero h)
  each_at (suc k) zero b d h = rw (mul-zero size)
  each_at (suc k) (suc i) b d h =
      let e : size + size * i ≡ size * suc i = omega (arith, mul-suc size i) in
      each_at k i (drop size b) d (le_of_suc-le-suc h) ∙ rw (drop-drop (size * i) size b, e)

-- what `array::from_fn` makes of a closure that no call changes, of the calls from i on
module _ {F B : Type 0} {g : Mut F (ℕ × Unit {0}) B} {f : F} (ys : List B) (R : ℕ → B → Type 0)
    (calls : (i : ℕ) (y : B) (q : F) → Called g f (i, tt) y q → (q ≡ f) × R i y) where
  made_from : (n i : ℕ) → IsFromFnResultFrom g f ys i n → (k : ℕ) (d : B) → i ≤ k → k < i + n → R k (get_or ys k d)
  made_from zero i e k d h l = absurd (omega arith)
  made_from (suc n) i e k d h l =
      let q = e.0 in
      let y = e.1 in
      let call = calls i y q e.3 in
      let more = subst (λ (s : F). IsFromFnResultFrom g s ys (i + 1) n) call.0 e.4 in
      go y (e.2.1 d) call.1 (made_from n (i + 1) more k d) (ltb i k) refl
    where
      go : (y : B) → get_or ys i d ≡ y → R i y → (i + 1 ≤ k → k < i + 1 + n → R k (get_or ys k d)) → (b : Bool)
          → ltb i k ≡ b → R k (get_or ys k d)
      go y at first later true t = later (omega (arith, ltb-true i k t)) (omega arith)
      go y at first later false t =
          let s : i ≡ k = omega (arith, ltb-false i k t) in
          subst (λ (z : ℕ). R z (get_or ys z d)) s (subst (λ (v : B). R i v) (sym at) first)

module _ {B : Type 0} {ys : List B} {n : ℕ} (size : ℕ) (from : List ℕ → B) (b : List ℕ) (d : B) where
  -- so many values, each from its bytes
  pub each_read : length ys ≡ n → ((i : ℕ) → i < n → get_or ys i d ≡ from (drop (size * i) b))
      → ys ≡ from_each n size from b
  each_read long each =
      ext_get_or d ys (from_each n size from b) (long ∙ sym (each_length size from n b))
      (λ i h. let j : i < n = rw long at h in each i j ∙ sym (each_at size from n i b d j))

  pub each_made : {F : Type 0} {g : Mut F (ℕ × Unit {0}) B} {f : F} → IsFromFnResult g f ys n
      → ((i : ℕ) (y : B) (q : F) → Called g f (i, tt) y q → (q ≡ f) × (y ≡ from (drop (size * i) b)))
      → ys ≡ from_each n size from b
  each_made e calls =
      each_read e.long
      (λ i h. made_from ys (λ i y. y ≡ from (drop (size * i) b)) calls n 0 e.each i d (omega arith) (omega arith))

-- ---- a row tested

module _ (size : ℕ) (test : List ℕ → Bool) where
  -- the test of a place further on
  further : (b : List ℕ) (i : ℕ) → test (drop (size * suc i) b) ≡ test (drop (size * i) (drop size b))
  further b i =
      let e : size * suc i ≡ size + size * i = omega (arith, mul-suc size i) in
      rw (e, drop-drop (size * i) size b)

  each_true : (k : ℕ) (b : List ℕ) → ((i : ℕ) → i < k → test (drop (size * i) b) ≡ true) → each_is k size test b ≡ true
  unfolding each_is
  each_true zero b e = refl
  each_true (suc k) b e =
      and_intro (rw mul-zero at (e 0 (omega arith)))
      (each_true k (drop size b) (λ i h. sym (further b i) ∙ e (suc i) (suc-le-suc h)))

  each_false : (k i : ℕ) (b : List ℕ) → i < k → test (drop (size * i) b) ≡ false → each_is k size test b ≡ false
  unfolding each_is
  each_false zero i b h e = absurd (not-suc-le-zero h)
  each_false (suc k) zero b h e = rw (rw mul-zero at e)
  each_false (suc k) (suc i) b h e =
      rw (each_false k i (drop size b) (le_of_suc-le-suc h) (sym (further b i) ∙ e), and-false)

  -- what `all` answers of the numbers below k
  pub each_tested : (k : ℕ) (b : List ℕ) (r : Bool) → let ks = range_with_len 0 k in
      MatchBool r (AllWithin (λ i. test (drop (size * i) b) ≡ true) ks 0 (length ks))
      ((j : ℕ) × (j < length ks) × HoldsAt (λ i. test (drop (size * i) b) ≡ false) ks j)
      → r ≡ each_is k size test b
  each_tested k b true e =
      sym (each_true k b (λ i h.
      rw (get_or-range_with_len 0 k i 0 h, zero-add) at (e i 0 (omega arith) (rw (length-range_with_len 0 k) h))))
  each_tested k b false e =
      let low : e.0 < k = rw (length-range_with_len 0 k) at e.1 in
      sym (each_false k e.0 b low (rw (get_or-range_with_len 0 k e.0 0 low, zero-add) at (e.2 0)))

-- ---- bytes laid

-- the first a of a list are laid, and behind them it is as it was
pub record Front (done : List ℕ) (a : ℕ) (old now : List ℕ) : Type 0 where
  pub is : now ≡ done ++ drop a old
  pub far : length done ≡ a

module _ {done old : List ℕ} {a : ℕ} where
  -- a part right behind them
  pub front_next : (ys : List ℕ) {now : List ℕ} {k : ℕ} → Front done a old now → length ys ≡ k
      → Front (done ++ ys) (a + k) old (put_mid a k now ys)
  front_next ys {k = k} f long =
      let rest = drop a old in
      record {
        is =
            rw (f.is, take_at done rest a f.far, drop_at done rest a f.far, drop-drop k a old)
            (sym (append_assoc done ys (drop (a + k) old)));
        far = rw (length-append, f.far, long);
      }

  -- the whole list
  pub front_all : {now : List ℕ} → Front done a old now → length old ≤ a → now ≡ done
  front_all f h = f.is ∙ rw (drop_of_length-le old {i = a} h) (append-nil done)

-- a loop that lays the values of a list, one a turn: after i turns
pub record Laid {A : Type 0} (size : ℕ) (to : A → List ℕ) (l : List A) (old now : List ℕ) (i : ℕ) : Type 0 where
  pub front : Front (flat_map to (take i l)) (size * i) old now

module _ {A : Type 0} {size : ℕ} {to : A → List ℕ} {l : List A} {old : List ℕ} where
  pub laid_none : Laid size to l old old 0
  unfolding flat_map
  laid_none = record { front = record { is = rw (mul-zero size); far = sym (mul-zero size) } }

  pub laid_more : {now ys : List ℕ} {i k : ℕ} (d : A) → Laid size to l old now i → i < length l → k ≡ size
      → ys ≡ to (get_or l i d) → length ys ≡ size → Laid size to l old (put_mid (size * i) k now ys) (i + 1)
  unfolding flat_map
  laid_more {ys = ys} {i = i} {k = k} d r h n e long =
      let one_more : flat_map to (take (i + 1) l) ≡ flat_map to (take i l) ++ ys =
      rw (add-one i, take-suc l i d h, e) (sym (flat_map_more to [] (take i l) (get_or l i d))) in
      let next : size * i + size ≡ size * (i + 1) = omega (arith, mul-suc size i, add-one i) in
      record { front = rw (n, one_more, ← next) (front_next ys r.front long) }

  -- after all of them
  pub laid_all : {now : List ℕ} {i : ℕ} → Laid size to l old now i → i ≡ length l → length old ≡ size * length l
      → now ≡ flat_map to l
  laid_all {i = i} r h e =
      let far : length old ≤ size * i = rw (h, e) (omega arith) in
      let all : length l ≤ i = omega (arith, h) in
      front_all r.front far ∙ ap (flat_map to) (take_all i l all)
