-- What the reads of a call file leave in the buffer, and the writes of its replies in what takes them.
use Rattle.std.proofs.Common.{◌≡◌, ℕ, ◌+◌, ◌≤◌, List, ◌++◌, Option, None, Some, IfSome, arith, length, take, drop, sym, ap, ◌∙◌, subst, le_refl, drop_at, length-take-le, take_all, append-nil}
use lib.Seq.{take-add, take-append-le}
use borrow.Rule.Slice.PartMut.{put_mid, post_of}
use Rattle.std.specs.Io.KnownBytes.{Appends, Consumes, IsAtEnd}
use Rattle.std.proofs.lemmas.Slice.{take-put_mid_below}
use Rattle.std.proofs.KnownBytes.{Appends-trans, Consumes-trans}

-- the buffer is full: what was taken is the first m bytes
pub full : (a b : Option (List ℕ)) (front : List ℕ) (m : ℕ) → length front ≡ m → Consumes a b front
    → IfSome a (λ xs. front ≡ take m xs)
full None b front m e p = tt
full (Some xs) None front m e p = absurd p
full (Some xs) (Some ys) front m e p =
    sym (ap (take m) p ∙ take-append-le m front ys (omega (arith, e)) ∙ take_all m front (omega (arith, e)))

-- no byte is left: what was taken is all of them
ended : (a b : Option (List ℕ)) (front : List ℕ) (m : ℕ) → length front ≤ m → Consumes a b front → IsAtEnd b
    → IfSome a (λ xs. front ≡ take m xs)
ended None b front m e p q = tt
ended (Some xs) None front m e p q = absurd p
ended (Some xs) (Some ys) front m e p q =
    let whole : xs ≡ front = p ∙ ap (λ l. front ++ l) q ∙ append-nil front in
    sym (ap (take m) whole ∙ take_all m front e)

-- a read of n bytes into the buffer from k on
module _ (k m n : ℕ) (file part : List ℕ) (within : k ≤ length file) (fits : n ≤ length part) where
  abbrev after : List ℕ
  after = put_mid k m file part

  front_stays : take k after ≡ take k file
  front_stays = take-put_mid_below k m file part k (le_refl k) within

  take_more : take (k + n) after ≡ take k file ++ take n part
  take_more =
      let behind = drop_at (take k file) (part ++ post_of k m file) k (length-take-le k file within) in
      take-add k n after
      ∙ ap (λ l. l ++ take n (drop k after)) front_stays
      ∙ ap (λ l. take k file ++ take n l) behind
      ∙ ap (λ l. take k file ++ l) (take-append-le n part (post_of k m file) fits)

  -- what was taken stands at the front
  pub takes_more : (a b c : Option (List ℕ)) → Consumes a b (take k file) → Consumes b c (take n part)
      → Consumes a c (take (k + n) after)
  takes_more a b c p q = subst (Consumes a c) (sym take_more) (Consumes-trans a b c _ _ p q)

  -- nothing came
  pub stops : (a b c : Option (List ℕ)) (top : ℕ) → length file ≡ top → n ≡ 0 → Consumes a b (take k file)
      → Consumes b c (take n part) → IsAtEnd c → IfSome a (λ xs. take k after ≡ take top xs)
  stops a b c top long none p q end =
      let same : k + n ≡ k = omega (arith, none) in
      let short : length (take k after) ≤ top = rw front_stays (rw (length-take-le k file within) (rw (← long) within)) in
      ended a c (take k after) top short (subst (λ j. Consumes a c (take j after)) same (takes_more a b c p q)) end

-- what was written so far is the front of all there is to write, and the rest comes next
pub writes_more : (k n : ℕ) (all rest : List ℕ) (a b c : Option (List ℕ)) → rest ≡ drop k all
    → Appends a b (take k all) → Appends b c (take n rest) → Appends a c (take (k + n) all)
writes_more k n all rest a b c e p q =
    subst (Appends a c)
    (ap (λ l. take k all ++ take n l) e ∙ sym (take-add k n all))
    (Appends-trans a b c _ _ p q)
