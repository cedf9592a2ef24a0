-- How values stand in bytes, and that both ways lead back. In order: what a form is; bytes, marks and numbers; a row;
-- one behind the other; a struct.
use Prim.Native.Nat.{ℕ, zero, suc, ◌+◌, ◌*◌, ◌/◌, ◌%◌, ◌≤◌, ◌<◌, suc-le-suc, zero-le}
use mathlib.Core.Bool.{Bool, true, false, ◌&&◌}
use mathlib.Core.Path.{◌≡◌, refl, sym, ap, ap₂, ◌∙◌}
use mathlib.Core.List.{List, [], ◌∷◌, ◌++◌, flat_map, append_assoc}
use native.Mathlib.Nat.{mul-zero, mul-suc}
use native.Mathlib.Omega.{arith}
use lib.ListN.{length, get_or, take, drop, length-append, length-drop}
use lib.Seq.{take_at, drop_at, take-add, get_or-drop}
use borrow.Author.Tests.{ltb-true}
use Rattle.tables.proofs.ListLaws.{and_left, and_right, and_intro}
use Rattle.steps.specs.Data.{is_mark, each_is}
use Rattle.embed.specs.Bytes.{mark_byte, mark_from, le16, from_each, entry_from}

-- ---- a form

-- each number is a byte, as those of lent bytes always are
abbrev pub AreBytes : List ℕ → Type 0
AreBytes b = (i : ℕ) → get_or b i 0 < 256

-- Values that are `ok` take `size` bytes; these pass the test, and the value is read back from them, whatever follows.
-- Bytes that pass it are those of the value that is read from them.
pub record Form {A : Type 0} (size : ℕ) (to : A → List ℕ) (from : List ℕ → A) (test : List ℕ → Bool) (ok : A → Type 0)
    : Type 0 where
  pub long : (x : A) → ok x → length (to x) ≡ size
  pub back : (x : A) → ok x → (rest : List ℕ) → from (to x ++ rest) ≡ x
  pub passed : (x : A) → ok x → (rest : List ℕ) → test (to x ++ rest) ≡ true
  pub same : (b : List ℕ) → AreBytes b → size ≤ length b → test b ≡ true → to (from b) ≡ take size b

abbrev anything : List ℕ → Bool
anything b = true

-- ---- bytes, marks and numbers

-- so many bytes
pub some_bytes : (n : ℕ) → Form n (λ (l : List ℕ). l) (take n) anything (λ (l : List ℕ). length l ≡ n)
some_bytes n =
    record {
      long = λ l e. e;
      back = λ l e rest. take_at l rest n e;
      passed = λ l e rest. refl;
      same = λ b low h e. refl;
    }

first : (b : List ℕ) → 1 ≤ length b → get_or b 0 0 ∷ [] ≡ take 1 b
first [] h = absurd (omega arith)
first (x ∷ b) h = refl

pub a_byte : Form 1 (λ (x : ℕ). x ∷ []) (λ (b : List ℕ). get_or b 0 0) anything (λ (x : ℕ). Unit {0})
a_byte =
    record {
      long = λ x e. refl;
      back = λ x e rest. refl;
      passed = λ x e rest. refl;
      same = λ b low h e. first b h;
    }

mark_back : (b : Bool) → mark_from (mark_byte b) ≡ b
mark_back true = refl
mark_back false = refl

mark_passed : (b : Bool) → is_mark (mark_byte b) ≡ true
mark_passed true = refl
mark_passed false = refl

mark_same : (n : ℕ) → is_mark n ≡ true → mark_byte (mark_from n) ≡ n
mark_same zero e = refl
mark_same (suc zero) e = refl
mark_same (suc (suc n)) e = absurd (omega (arith, ltb-true (suc (suc n)) 2 e))

pub a_mark : Form 1 (λ (x : Bool). mark_byte x ∷ []) (λ (b : List ℕ). mark_from (get_or b 0 0))
    (λ (b : List ℕ). is_mark (get_or b 0 0)) (λ (x : Bool). Unit {0})
a_mark =
    record {
      long = λ x e. refl;
      back = λ x e rest. mark_back x;
      passed = λ x e rest. mark_passed x;
      same = λ b low h e. rw (mark_same (get_or b 0 0) e) (first b h);
    }

two : (b : List ℕ) → AreBytes b → 2 ≤ length b → le16 (entry_from b) ≡ take 2 b
two [] low h = absurd (omega arith)
two (x ∷ []) low h = absurd (omega arith)
two (x ∷ y ∷ b) low h =
    let second : (y * 256 + x) / 256 % 256 ≡ y = omega (arith, low 0, low 1) in
    let first : (y * 256 + x) % 256 ≡ x = omega (arith, low 0) in
    let turn : x + 256 * y ≡ y * 256 + x = omega arith in
    rw (turn, first, second)

pub a_number : Form 2 le16 entry_from anything (λ (x : ℕ). x < 65536)
a_number =
    record {
      long = λ x h. refl;
      back = λ x h rest. omega arith;
      passed = λ x h rest. refl;
      same = λ b low h e. two b low h;
    }

-- bytes further on are bytes
later : (n : ℕ) (b : List ℕ) → AreBytes b → AreBytes (drop n b)
later n b low i = rw (get_or-drop n b i 0) (low (n + i))

-- ---- a row

module _ {A : Type 0} {size : ℕ} {to : A → List ℕ} {from : List ℕ → A} {test : List ℕ → Bool} {ok : A → Type 0}
    (f : Form size to from test ok) where
  module _ (d : A) where
    row_long : (l : List A) → ((i : ℕ) → i < length l → ok (get_or l i d)) → length (flat_map to l) ≡ size * length l
    unfolding flat_map
    row_long [] k = sym (mul-zero size)
    row_long (x ∷ xs) k =
        let h = f.long x (k zero (suc-le-suc zero-le)) in
        let more = row_long xs (λ i h. k (suc i) (suc-le-suc h)) in
        rw (length-append (to x) (flat_map to xs), h, more, mul-suc) (omega arith)

    row_back : (l : List A) → ((i : ℕ) → i < length l → ok (get_or l i d)) → (rest : List ℕ)
        → from_each (length l) size from (flat_map to l ++ rest) ≡ l
    unfolding flat_map from_each
    row_back [] k rest = refl
    row_back (x ∷ xs) k rest =
        let h = k zero (suc-le-suc zero-le) in
        let more = flat_map to xs ++ rest in
        rw (append_assoc (to x) (flat_map to xs) rest, drop_at (to x) more size (f.long x h))
        (ap₂ (λ (y : A) (ys : List A). y ∷ ys) (f.back x h more) (row_back xs (λ i j. k (suc i) (suc-le-suc j)) rest))

    row_passed : (l : List A) → ((i : ℕ) → i < length l → ok (get_or l i d)) → (rest : List ℕ)
        → each_is (length l) size test (flat_map to l ++ rest) ≡ true
    unfolding flat_map each_is
    row_passed [] k rest = refl
    row_passed (x ∷ xs) k rest =
        let h = k zero (suc-le-suc zero-le) in
        let more = flat_map to xs ++ rest in
        rw (append_assoc (to x) (flat_map to xs) rest, drop_at (to x) more size (f.long x h))
        (and_intro (f.passed x h more) (row_passed xs (λ i j. k (suc i) (suc-le-suc j)) rest))

  row_same : (k : ℕ) (b : List ℕ) → AreBytes b → size * k ≤ length b → each_is k size test b ≡ true
      → flat_map to (from_each k size from b) ≡ take (size * k) b
  unfolding flat_map from_each each_is
  row_same zero b low h e = rw (mul-zero size)
  row_same (suc k) b low h e =
      let m : size * suc k ≡ size + size * k = omega (arith, mul-suc size k) in
      let near : size ≤ length b = omega arith in
      let far : size * k ≤ length (drop size b) = rw (length-drop size b) (omega arith) in
      rw (
        m,
        take-add size (size * k) b,
        f.same b low near (and_left (test b) _ e),
        row_same k (drop size b) (later size b low) far (and_right (test b) _ e),
      )

  -- k of them
  abbrev pub All : ℕ → A → List A → Type 0
  All k d l = (length l ≡ k) × ((i : ℕ) → i < k → ok (get_or l i d))

  pub a_row : (k : ℕ) (d : A) → Form (size * k) (flat_map to) (from_each k size from) (each_is k size test) (All k d)
  a_row k d =
      record {
        long = λ l h. row_long d l (each l h) ∙ rw h.0;
        back = λ l h rest. rw h.0 at (row_back d l (each l h) rest);
        passed = λ l h rest. rw h.0 at (row_passed d l (each l h) rest);
        same = row_same k;
      }
    where
      each : (l : List A) → All k d l → (i : ℕ) → i < length l → ok (get_or l i d)
      each l h i j = h.1 i (rw h.0 at j)

-- a row without a test
pub each_anything : (k size : ℕ) (b : List ℕ) → each_is k size anything b ≡ true
unfolding each_is
each_anything zero size b = refl
each_anything (suc k) size b = each_anything k size (drop size b)

-- ---- one behind the other

module _ {A B : Type 0} {m n : ℕ} {to : A → List ℕ} {to' : B → List ℕ} {from : List ℕ → A} {from' : List ℕ → B}
    {test test' : List ℕ → Bool} {ok : A → Type 0} {ok' : B → Type 0}
    (f : Form m to from test ok) (g : Form n to' from' test' ok') where
  pub and_then : Form (m + n) (λ (x : A × B). to x.0 ++ to' x.1) (λ (b : List ℕ). (from b, from' (drop m b)))
      (λ (b : List ℕ). test b && test' (drop m b)) (λ (x : A × B). ok x.0 × ok' x.1)
  and_then =
      record {
        long = λ x h. length-append (to x.0) (to' x.1) ∙ rw (f.long x.0 h.0, g.long x.1 h.1);
        back = λ x h rest.
            let more = to' x.1 ++ rest in
            rw (append_assoc (to x.0) (to' x.1) rest, drop_at (to x.0) more m (f.long x.0 h.0))
            (rw (f.back x.0 h.0 more, g.back x.1 h.1 rest));
        passed = λ x h rest.
            let more = to' x.1 ++ rest in
            rw (append_assoc (to x.0) (to' x.1) rest, drop_at (to x.0) more m (f.long x.0 h.0))
            (and_intro (f.passed x.0 h.0 more) (g.passed x.1 h.1 rest));
        same = λ b low h e.
            let near : m ≤ length b = omega arith in
            let far : n ≤ length (drop m b) = rw (length-drop m b) (omega arith) in
            let behind = g.same (drop m b) (later m b low) far (and_right (test b) _ e) in
            rw (take-add m n b, f.same b low near (and_left (test b) _ e), behind);
      }

-- ---- a struct, as its fields one behind the other

module _ {A B : Type 0} {size : ℕ} {to : B → List ℕ} {from : List ℕ → B} {test : List ℕ → Bool} {ok : B → Type 0}
    (f : Form size to from test ok) (fields : A → B) (made : B → A)
    (made_fields : (x : A) → made (fields x) ≡ x) (fields_made : (y : B) → fields (made y) ≡ y) where
  pub a_struct : {from' : List ℕ → A} {test' : List ℕ → Bool} {ok' : A → Type 0}
      → ((b : List ℕ) → from' b ≡ made (from b)) → ((b : List ℕ) → test' b ≡ test b) → ((x : A) → ok' x → ok (fields x))
      → Form size (λ (x : A). to (fields x)) from' test' ok'
  a_struct froms tests oks =
      record {
        long = λ x h. f.long (fields x) (oks x h);
        back = λ x h rest. froms (to (fields x) ++ rest) ∙ ap made (f.back (fields x) (oks x h) rest) ∙ made_fields x;
        passed = λ x h rest. tests (to (fields x) ++ rest) ∙ f.passed (fields x) (oks x h) rest;
        same = λ b low h e. rw (froms b, fields_made (from b)) (f.same b low h (sym (tests b) ∙ e));
      }
