-- What stands at the front of bytes: two bytes of length, so many bytes m, and others past them.
use Prim.Native.Nat.{ℕ, ◌+◌, ◌*◌}
use mathlib.Core.Path.{◌≡◌, refl, sym, ap, ◌∙◌}
use mathlib.Core.List.{List, [], ◌∷◌, ◌++◌}
use native.Mathlib.Omega.{arith}
use lib.ListN.{length, take, drop, length-append, take-append-drop}
use lib.Seq.{take_at}
use borrow.Author.Tests.{le-ltb, lt-leb}
use Rattle.steps.specs.Stores.{part}
use Rattle.steps.proofs.StoreLaws.{length_part}
use Rattle.messages.specs.declared.Next.TheVariants.{Message}
use Rattle.messages.specs.Messages.{next_at}
use Rattle.messages.proofs.ReaderLaws.{message_at}

module _ (high low : ℕ) (m rest : List ℕ) where
  abbrev file : List ℕ
  file = high ∷ low ∷ (m ++ rest)

  -- the reader yields m
  pub next_front : length m ≡ high * 256 + low → next_at file 0 ≡ Message 2 (length m) (2 + length m)
  unfolding next_at
  next_front e =
      let long = length-append m rest in
      let size : high * 256 + low ≡ length m = sym e in
      rw (lt-leb (length file) 0 (omega arith), le-ltb (length file) 2 (omega arith), size, le-ltb (length file) (2 + length m) (omega arith)) refl

  pub part_front : part file 2 (length m) ≡ m
  unfolding part
  part_front = take_at m rest (length m) refl

-- and what it yields stands so
pub record Front (l : List ℕ) (start len next : ℕ) : Type 0 where
  pub high : ℕ
  pub low : ℕ
  pub rest : List ℕ
  pub is : l ≡ high ∷ low ∷ (part l 2 len ++ rest)
  pub size : len ≡ high * 256 + low
  pub long : length (part l 2 len) ≡ len
  pub starts : start ≡ 2
  pub ends : next ≡ 2 + len

pub front_of : (l : List ℕ) (start len next : ℕ) → next_at l 0 ≡ Message start len next → Front l start len next
unfolding part
front_of [] start len next e = let m = message_at [] 0 start len next (sym e) in absurd (omega arith)
front_of (x ∷ []) start len next e = let m = message_at (x ∷ []) 0 start len next (sym e) in absurd (omega arith)
front_of (x ∷ y ∷ r) start len next e =
    let m = message_at (x ∷ y ∷ r) 0 start len next (sym e) in
    record {
      high = x;
      low = y;
      rest = drop len r;
      is = ap (λ (l : List ℕ). x ∷ y ∷ l) (sym (take-append-drop len r));
      size = m.size;
      long = length_part (x ∷ y ∷ r) 2 len (omega arith);
      starts = omega arith;
      ends = omega arith;
    }

-- as many bytes as it has
pub front_taken : (l : List ℕ) (start len next : ℕ) (f : Front l start len next) → take next l ≡ f.high ∷ f.low ∷ part l 2 len
front_taken l start len next f =
    ap (take next) f.is ∙ take_at (f.high ∷ f.low ∷ part l 2 len) f.rest next (omega (arith, f.long, f.ends))
