-- The reader yields the messages of the file, one after the other, and none else.
use Prim.Native.Nat.{ℕ, zero, suc, ◌+◌, ◌-◌, ◌*◌, ◌≤◌, ◌<◌}
use mathlib.Core.Path.{◌≡◌, refl, sym, ap, ◌∙◌}
use mathlib.Core.Bool.{Bool, true, false, cond}
use mathlib.Core.List.{List, [], ◌∷◌}
use native.Mathlib.Nat.{not-suc-le-zero}
use native.Mathlib.Omega.{arith}
use lib.ListN.{length, take, drop, get_or, length-drop, drop_of_length-le}
use lib.Seq.{length-take-le, get_or-drop, drop-cons, drop-drop}
use lib.Dec.{leb, ltb}
use borrow.Author.Tests.{leb-true, leb-false, ltb-true, ltb-false, lt-ltb, le-ltb, lt-leb, le-leb}
use Rattle.steps.specs.Stores.{part}
use Rattle.messages.specs.declared.Next.{Next}
use Rattle.messages.specs.declared.Next.TheVariants.{Message, Cut, End}
use Rattle.messages.specs.Messages.{length_at, next_at}
use Rattle.messages.specs.Run.{Sent, cut, whole, split, messages_of, yielded}
use Rattle.messages.specs.Promises.{Yields}

-- more turns than bytes change nothing
pub enough : (k m : ℕ) (l : List ℕ) → length l ≤ k → length l ≤ m → split k l ≡ split m l
unfolding split
enough zero zero l h g = refl
enough zero (suc m) [] h g = refl
enough zero (suc m) (a ∷ l) h g = absurd (not-suc-le-zero h)
enough (suc k) zero [] h g = refl
enough (suc k) zero (a ∷ l) h g = absurd (not-suc-le-zero g)
enough (suc k) (suc m) [] h g = refl
enough (suc k) (suc m) (a ∷ []) h g = refl
enough (suc k) (suc m) (a ∷ b ∷ l) h g =
    let n = a * 256 + b in
    let d = length-drop n l in
    ap (λ (r : List Sent). cond (ltb (length l) n) (cut ∷ []) (whole (take n l) ∷ r)) (enough k m (drop n l) (omega arith) (omega arith))

-- one message, or none, and the rest
pub next_message : (a b : ℕ) (l : List ℕ)
    → messages_of (a ∷ b ∷ l) ≡ cond (ltb (length l) (a * 256 + b)) (cut ∷ []) (whole (take (a * 256 + b) l) ∷ messages_of (drop (a * 256 + b) l))
unfolding messages_of split
next_message a b l =
    let n = a * 256 + b in
    let d = length-drop n l in
    ap (λ (r : List Sent). cond (ltb (length l) n) (cut ∷ []) (whole (take n l) ∷ r))
    (enough (suc (length l)) (length (drop n l)) (drop n l) (omega arith) (omega arith))

-- ---- at a place of the file

module _ (file : List ℕ) (at : ℕ) where
  pub at_end : length file ≤ at → messages_of (drop at file) ≡ []
  unfolding messages_of split
  at_end h = rw (drop_of_length-le file h)

  one_left : at < length file → length file < at + 2 → messages_of (drop at file) ≡ cut ∷ []
  unfolding messages_of split
  one_left h g = rw (drop-cons file at 0 h, drop_of_length-le file (let k : length file ≤ suc at = omega arith in k))

  two_left : at + 2 ≤ length file → drop at file ≡ get_or file at 0 ∷ get_or file (at + 1) 0 ∷ drop (at + 2) file
  two_left h =
      let e₁ : suc at ≡ at + 1 = omega arith in
      let e₂ : suc (at + 1) ≡ at + 2 = omega arith in
      drop-cons file at 0 (omega arith)
      ∙ ap (λ (n : ℕ). get_or file at 0 ∷ drop n file) e₁
      ∙ ap (λ (l : List ℕ). get_or file at 0 ∷ l) (drop-cons file (at + 1) 0 (omega arith) ∙ ap (λ (n : ℕ). get_or file (at + 1) 0 ∷ drop n file) e₂)

  after_length : at + 2 ≤ length file → messages_of (drop at file)
      ≡ cond (ltb (length file) (at + 2 + length_at file at)) (cut ∷ [])
      (whole (part file (at + 2) (length_at file at)) ∷ messages_of (drop (at + 2 + length_at file at) file))
  unfolding part
  after_length h =
      let n = length_at file at in
      let d = length-drop (at + 2) file in
      rw (two_left h)
      (next_message (get_or file at 0) (get_or file (at + 1) 0) (drop (at + 2) file) ∙ rw (drop-drop n (at + 2) file, same n))
    where
      same : (n : ℕ) → ltb (length (drop (at + 2) file)) n ≡ ltb (length file) (at + 2 + n)
      same n = go (ltb (length file) (at + 2 + n)) refl
        where
          go : (b : Bool) → ltb (length file) (at + 2 + n) ≡ b → ltb (length (drop (at + 2) file)) n ≡ b
          go true e =
              let k = ltb-true (length file) (at + 2 + n) e in
              let d = length-drop (at + 2) file in
              lt-ltb (length (drop (at + 2) file)) n (omega arith)
          go false e =
              let k = ltb-false (length file) (at + 2 + n) e in
              let d = length-drop (at + 2) file in
              le-ltb (length (drop (at + 2) file)) n (omega arith)

-- the reader's answer at a place says which messages follow
pub reader_yields : (file : List ℕ) (at : ℕ) → messages_of (drop at file) ≡ yielded file (next_at file at)
unfolding next_at
reader_yields file at = first (leb (length file) at) refl
  where
    Rest : Next
    Rest =
        cond (ltb (length file) (at + 2 + length_at file at)) Cut
        (Message (at + 2) (length_at file at) (at + 2 + length_at file at))

    third : at + 2 ≤ length file → messages_of (drop at file) ≡ yielded file Rest
    third h = after_length file at h ∙ go (ltb (length file) (at + 2 + length_at file at))
      where
        go : (b : Bool) → cond b (cut ∷ []) (whole (part file (at + 2) (length_at file at)) ∷ messages_of (drop (at + 2 + length_at file at) file))
            ≡ yielded file (cond b Cut (Message (at + 2) (length_at file at) (at + 2 + length_at file at)))
        go true = refl
        go false = refl

    second : (b : Bool) → ltb (length file) (at + 2) ≡ b → at < length file → messages_of (drop at file) ≡ yielded file (cond b Cut Rest)
    second true e h = one_left file at h (ltb-true _ _ e)
    second false e h = third (ltb-false _ _ e)

    first : (b : Bool) → leb (length file) at ≡ b → messages_of (drop at file) ≡ yielded file (cond b End (cond (ltb (length file) (at + 2)) Cut Rest))
    first true e = at_end file at (leb-true _ _ e)
    first false e = second (ltb (length file) (at + 2)) refl (leb-false _ _ e)

-- so whoever gives that answer keeps the reader's promise
pub yields_at : (file : List ℕ) (at : ℕ) (r : Next) → r ≡ next_at file at → Yields file at r
yields_at file at r e = record { told = e; meant = ap (yielded file) e ∙ sym (reader_yields file at) }

-- as the code finds it, by the bytes l that are left at the place
module _ (file l : List ℕ) (at : ℕ) (left : l ≡ drop at file) where
  long : length l ≡ length file - at
  long = rw left (length-drop at file)

  pub yields_end : length l < 1 → Yields file at End
  unfolding next_at
  yields_end few = let e = long in yields_at file at End (simp (le-leb (length file) at (omega arith)))

  -- one byte is cut short
  module _ (some : 1 ≤ length l) (few : length l < 2) where
    pub told_cut : Cut ≡ next_at file at
    unfolding next_at
    told_cut =
        let e = long in
        simp (lt-leb (length file) at (omega arith), lt-ltb (length file) (at + 2) (omega arith))

    pub meant_cut : cut ∷ [] ≡ messages_of (drop at file)
    meant_cut = (yields_at file at Cut told_cut).meant

  -- two bytes are a length
  module _ (two : 2 ≤ length l) (len : ℕ) (size : len ≡ get_or l 0 0 * 256 + get_or l 1 0) where
    stated : len ≡ length_at file at
    stated = let e : at + 0 ≡ at = omega arith in size ∙ rw (left, get_or-drop at file 0 0, get_or-drop at file 1 0, e)

    rest : length (take (length l - 2) (drop 2 l)) ≡ length l - 2
    rest = length-take-le (length l - 2) (drop 2 l) (omega (arith, length-drop 2 l))

    pub yields_short : length (take (length l - 2) (drop 2 l)) < len → Yields file at Cut
    unfolding next_at
    yields_short h =
        let e = long in
        let s = stated in
        let r = rest in
        yields_at file at Cut
        (simp (lt-leb (length file) at (omega arith), le-ltb (length file) (at + 2) (omega arith), lt-ltb (length file) (at + 2 + length_at file at) (omega arith)))

    pub yields_message : len ≤ length (take (length l - 2) (drop 2 l)) → Yields file at (Message (at + 2) len (at + 2 + len))
    unfolding next_at
    yields_message h =
        let e = long in
        let s = stated in
        let r = rest in
        yields_at file at (Message (at + 2) len (at + 2 + len))
        (rw s
        (simp (lt-leb (length file) at (omega arith), le-ltb (length file) (at + 2) (omega arith), le-ltb (length file) (at + 2 + length_at file at) (omega arith))))

-- ---- a message that the reader yields

pub record MessageAt (file : List ℕ) (at start len next : ℕ) : Type 0 where
  pub starts : start ≡ at + 2
  pub size : len ≡ length_at file at
  pub ends : next ≡ start + len
  pub inside : next ≤ length file

pub message_at : (file : List ℕ) (at start len next : ℕ) → Message start len next ≡ next_at file at → MessageAt file at start len next
unfolding next_at
message_at file at start len next =
    go (leb (length file) at) (ltb (length file) (at + 2)) (ltb (length file) (at + 2 + length_at file at)) refl
  where
    go : (a b c : Bool) → ltb (length file) (at + 2 + length_at file at) ≡ c
        → Message start len next ≡ cond a End (cond b Cut (cond c Cut (Message (at + 2) (length_at file at) (at + 2 + length_at file at))))
        → MessageAt file at start len next
    go true b c e p = cc
    go false true c e p = cc
    go false false true e p = cc
    go false false false e p =
        let l : len ≡ length_at file at = cc in
        let n : next ≡ at + 2 + length_at file at = cc in
        let k = ltb-false (length file) (at + 2 + length_at file at) e in
        record { starts = cc; size = l; ends = cc; inside = omega arith }

-- its bytes, as the code takes them
pub message_part : (file : List ℕ) (at start len next : ℕ) → Message start len next ≡ next_at file at
    → take (next - start) (drop start file) ≡ part file start len
unfolding part
message_part file at start len next e =
    let m = message_at file at start len next e in
    let k : next - start ≡ len = omega arith in
    rw k
