-- Lists of bytes. In order: a part of a list; bytes laid into a list; the frames of two stores that stand as one list; where their bytes are.
use Prim.Native.Nat.{ℕ, suc, ◌+◌, ◌-◌, ◌*◌, ◌≤◌, ◌<◌}
use mathlib.Core.Path.{◌≡◌, refl, sym, ap, ◌∙◌}
use mathlib.Core.Bool.{Bool, true, false, cond}
use mathlib.Core.List.{List, [], ◌∷◌, ◌++◌, append_assoc, append-nil}
use native.Mathlib.Nat.{add_assoc, zero-add, add-zero}
use native.Mathlib.Omega.{arith}
use lib.ListN.{length, take, drop, set, length-append, length-take, length-drop, drop_of_length-le, take-append-drop}
use lib.Seq.{take-append-le, drop-append-le, take-append-add, drop-append-add, drop-drop, take_at, drop_at, take-length, paste}
use lib.Dec.{ltb}
use borrow.Author.Tests.{le-leb, ltb-true, ltb-false}
use Rattle.steps.specs.Stores.{part, splice, spliced_within, block, lay_frame, over}
use Rattle.steps.specs.Effects.{frame_place}
use Rattle.steps.specs.Promises.{bytes_at}
use Rattle.steps.specs.Private.{Room, PlaceIn}

-- ---- a part of a list

pub length_part : (l : List ℕ) (at n : ℕ) → at + n ≤ length l → length (part l at n) ≡ n
unfolding part
length_part l at n h = simp (length-take, length-drop) (omega arith)

pub length_part_le : (l : List ℕ) (at n : ℕ) → length (part l at n) ≤ n
unfolding part
length_part_le l at n = simp length-take (omega arith)

-- a part that the code takes from a up to a + n
pub part_span : (l : List ℕ) (a n : ℕ) → take (a + n - a) (drop a l) ≡ part l a n
unfolding part
part_span l a n =
    let e : a + n - a ≡ n = omega arith in
    rw e

-- a part that stands in the first of two lists, and in the second
pub part_left : (x y : List ℕ) (at n : ℕ) → at + n ≤ length x → part (x ++ y) at n ≡ part x at n
unfolding part
part_left x y at n h =
    let k : at ≤ length x = omega arith in
    let m : n ≤ length (drop at x) = simp length-drop (omega arith) in
    simp (drop-append-le, take-append-le)

pub part_right : (x y : List ℕ) (at n : ℕ) → part (x ++ y) (length x + at) n ≡ part y at n
unfolding part
part_right x y at n = simp drop-append-add

-- a part of a part
pub part_part : (l : List ℕ) (at m o n : ℕ) → at + m ≤ length l → o + n ≤ m → part (part l at m) o n ≡ part l (at + o) n
unfolding part
part_part l at m o n h k =
    let r : List ℕ = drop at l in
    let f : o ≤ length (take m r) = simp (length-take, length-drop) (omega arith) in
    let g : n ≤ length (drop o (take m r)) = simp (length-drop, length-take) (omega arith) in
    sym (take-append-le n (drop o (take m r)) (drop m r) g)
    ∙ ap (take n) (sym (drop-append-le o (take m r) (drop m r) f) ∙ ap (drop o) (take-append-drop m r) ∙ drop-drop o at l)

-- a part of a frame
pub length_frame_part : (st : List ℕ) (f o n : ℕ) → 64 * f + 64 ≤ length st → o + n ≤ 64 → length (part (block st f) o n) ≡ n
length_frame_part st f o n h k = length_part (block st f) o n (rw (length_part st (64 * f) 64 h) k)

-- all of it
pub whole_block : (st : List ℕ) (f : ℕ) → 64 * f + 64 ≤ length st → part (block st f) 0 64 ≡ block st f
whole_block st f h = part_part st (64 * f) 64 0 64 h (omega arith) ∙ rw (add-zero (64 * f))

-- ---- bytes laid into a list

pub length_splice : (l : List ℕ) (at : ℕ) (b : List ℕ) → at + length b ≤ length l → length (splice l at b) ≡ length l
unfolding splice
length_splice l at b h = simp (length-append, length-take, length-drop) (omega arith)

-- what a loop leaves that has laid every byte, one after the other
pub pasted : (l : List ℕ) (at : ℕ) (b : List ℕ) → paste l at b (length b) ≡ splice l at b
unfolding splice
pasted l at b = rw (take-length b) (append_assoc (take at l) b (drop (at + length b) l))

-- bytes that fit are laid
pub laid_fitting : (l : List ℕ) (at : ℕ) (b : List ℕ) → at + length b ≤ length l → spliced_within l at b ≡ splice l at b
laid_fitting l at b h = rw (le-leb (at + length b) (length l) h)

-- all of a list laid over
pub splice_all : (l b : List ℕ) → length b ≡ length l → splice l 0 b ≡ b
unfolding splice
splice_all l b e =
    let h : length l ≤ 0 + length b = omega arith in
    rw (drop_of_length-le l h) (append-nil b)

-- nothing laid
pub splice_none : (l : List ℕ) (at : ℕ) → splice l at [] ≡ l
unfolding splice
splice_none l at = rw (add-zero at) (take-append-drop at l)

-- at the front
pub splice_front : (l b : List ℕ) → splice l 0 b ≡ over b l
unfolding splice
splice_front l b = rw (zero-add (length b))

-- into the first of two lists, and into the second
pub splice_left : (x y : List ℕ) (at : ℕ) (b : List ℕ) → at + length b ≤ length x → splice (x ++ y) at b ≡ splice x at b ++ y
unfolding splice
splice_left x y at b h =
    let k : at ≤ length x = omega arith in
    simp (take-append-le, drop-append-le, append_assoc)

pub splice_right : (x y : List ℕ) (at : ℕ) (b : List ℕ) → splice (x ++ y) (length x + at) b ≡ x ++ splice y at b
unfolding splice
splice_right x y at b = simp (take-append-add, add_assoc, drop-append-add, append_assoc)

-- twice, the second time right after the first
pub splice_next : (l : List ℕ) (at : ℕ) (a b : List ℕ) → at + length a ≤ length l
    → splice (splice l at a) (at + length a) b ≡ splice l at (a ++ b)
unfolding splice
splice_next l at a b h =
    let p : List ℕ = take at l ++ a in
    let q : List ℕ = drop (at + length a) l in
    let ep : length p ≡ at + length a = simp (length-append, length-take) (omega arith) in
    let n : at + length a + length b ≡ at + length (a ++ b) = simp length-append (omega arith) in
    let cut : take at l ++ (a ++ q) ≡ p ++ q = sym (append_assoc (take at l) a q) in
    rw cut
    (ap (λ (r : List ℕ). r ++ (b ++ drop (at + length a + length b) (p ++ q))) (take_at p q (at + length a) ep)
    ∙ ap (λ (r : List ℕ). p ++ (b ++ r))
    (sym (drop-drop (length b) (at + length a) (p ++ q)) ∙ ap (drop (length b)) (drop_at p q (at + length a) ep)
    ∙ drop-drop (length b) (at + length a) l)
    ∙ simp (append_assoc, n))

-- one byte set at the front, and more laid after it
pub splice_second : (l : List ℕ) (a : ℕ) (b : List ℕ) → 1 ≤ length l → splice (set l 0 a) 1 b ≡ over (a ∷ b) l
unfolding splice
splice_second [] a b h = absurd (omega arith)
splice_second (x ∷ l) a b h = ap (λ (k : ℕ). a ∷ (b ++ drop k (a ∷ l))) (one_add (length b))
  where
    one_add : (n : ℕ) → 1 + n ≡ suc n
    one_add n = omega arith

-- ---- the frames of the fast store x and the slow store y

module _ (x y : List ℕ) (p f : ℕ) (split : length x ≡ 64 * p) where
  -- bytes of a frame, read
  pub part_fast : (o n : ℕ) → f < p → o + n ≤ 64 → part x (64 * f + o) n ≡ part (x ++ y) (64 * f + o) n
  part_fast o n h k = sym (part_left x y (64 * f + o) n (omega arith))

  pub part_slow : (o n : ℕ) → p ≤ f → part y (64 * (f - p) + o) n ≡ part (x ++ y) (64 * f + o) n
  part_slow o n h =
      let e : length x + (64 * (f - p) + o) ≡ 64 * f + o = omega arith in
      sym (part_right x y (64 * (f - p) + o) n) ∙ rw e

  -- bytes laid into a frame
  pub lay_fast : (o : ℕ) (b : List ℕ) → f < p → o + length b ≤ 64 → splice x (64 * f + o) b ++ y ≡ lay_frame (x ++ y) f o b
  lay_fast o b h k = sym (splice_left x y (64 * f + o) b (omega arith))

  pub lay_slow : (o : ℕ) (b : List ℕ) → p ≤ f → x ++ splice y (64 * (f - p) + o) b ≡ lay_frame (x ++ y) f o b
  lay_slow o b h =
      let e : length x + (64 * (f - p) + o) ≡ 64 * f + o = omega arith in
      sym (splice_right x y (64 * (f - p) + o) b) ∙ rw e

  -- a part of a frame
  pub part_block : (o n : ℕ) → 64 * f + 64 ≤ length x + length y → o + n ≤ 64
      → part (block (x ++ y) f) o n ≡ part (x ++ y) (64 * f + o) n
  part_block o n h k = part_part (x ++ y) (64 * f) 64 o n (simp length-append (omega arith)) k

-- ---- bytes of a frame, where they are

module _ (x y : List ℕ) (p f o n : ℕ) (room : Room x y p f) (span : o + n ≤ 64) where
  -- they lie within the store that has them
  pub frame_in : PlaceIn (frame_place p f o n) x y
  frame_in = go (ltb f p) refl
    where
      go : (b : Bool) → ltb f p ≡ b
          → PlaceIn (cond b (record { slow = false; start = 64 * f + o; len = n }) (record { slow = true; start = 64 * (f - p) + o; len = n })) x y
      go true e = let h = ltb-true f p e in let r = room.split in omega arith
      go false e = let h = ltb-false f p e in let r = room.split in let k = room.there in omega arith

  -- and are a part of the frame in the joined stores
  pub frame_bytes : bytes_at (frame_place p f o n) x y ≡ part (block (x ++ y) f) o n
  frame_bytes = go (ltb f p) refl ∙ sym (part_block x y p f room.split o n room.there span)
    where
      go : (b : Bool) → ltb f p ≡ b
          → bytes_at (cond b (record { slow = false; start = 64 * f + o; len = n }) (record { slow = true; start = 64 * (f - p) + o; len = n })) x y
          ≡ part (x ++ y) (64 * f + o) n
      go true e = part_fast x y p f room.split o n (ltb-true f p e) span
      go false e = part_slow x y p f room.split o n (ltb-false f p e)

-- the two stores, from what they are joined
pub taken_apart : (x y st : List ℕ) (n : ℕ) → length x ≡ n → x ++ y ≡ st → (x ≡ take n st) × (y ≡ drop n st)
taken_apart x y st n e j =
    (sym (take_at x y n e) ∙ ap (λ (r : List ℕ). take n r) j, sym (drop_at x y n e) ∙ ap (λ (r : List ℕ). drop n r) j)
