-- The messages that a part of a run answered are those of the bytes between the place where it began and the one that
-- it reached. In order: the first message; all of them; their turns.
use Prim.Native.Nat.{ℕ, suc, ◌+◌, ◌-◌, ◌*◌, ◌≤◌}
use mathlib.Core.Path.{◌≡◌, refl, sym, ap, ◌∙◌, subst₂}
use mathlib.Core.Bool.{Bool, true, false, cond}
use mathlib.Core.List.{List, [], ◌∷◌, ◌++◌, map}
use native.Mathlib.Omega.{arith}
use lib.ListN.{length, take, drop, length-append, length-drop}
use lib.Seq.{length-take-le, take_all, take-add, take_at, take-nil, drop_at, drop-drop, drop-length}
use lib.Dec.{ltb}
use borrow.Author.Tests.{ltb-false, le-ltb}
use Rattle.steps.specs.Stores.{part}
use Rattle.steps.specs.Effects.{State}
use Rattle.messages.specs.Replies.{reply_in}
use Rattle.messages.specs.Run.{Sent, cut, whole, answer, Turn, turn_of, left_by, split, messages_of, turns_of}
use Rattle.messages.specs.Run.{full, served, passed, place_after, part_from}
use Rattle.messages.proofs.ReaderLaws.{next_message}
use Rattle.messages.proofs.JoinLaws.{place_grows}
use Rattle.theorems.specs.Demand3.{sent_in}

-- ---- the first message

-- of bytes l of a file that begin with the message x: how many bytes it takes, and what follows
record Begins (l : List ℕ) (x : Sent) (xs : List Sent) : Type 0 where
  size : ℕ
  some : 1 ≤ size
  within : size ≤ length l
  passes : (end at : ℕ) → at + length l ≡ end → passed end at x ≡ at + size
  first : (more : ℕ) → messages_of (take (size + more) l) ≡ x ∷ messages_of (take more (drop size l))
  rest : messages_of (drop size l) ≡ xs

none_left : messages_of [] ≡ []
unfolding messages_of split
none_left = refl

cut_begins : (l : List ℕ) → 1 ≤ length l → messages_of l ≡ cut ∷ [] → Begins l cut []
cut_begins l some e =
    record {
      size = length l;
      some = some;
      within = omega arith;
      passes = λ end at h. sym h;
      first = λ more.
          let all : take (length l + more) l ≡ l = take_all (length l + more) l (omega arith) in
          ap messages_of all ∙ e
          ∙ ap (λ (ys : List Sent). cut ∷ ys)
          (sym (ap messages_of (ap (take more) (drop-length l) ∙ take-nil more) ∙ none_left));
      rest = ap messages_of (drop-length l) ∙ none_left;
    }

whole_begins : (a b : ℕ) (l : List ℕ) → a * 256 + b ≤ length l
    → Begins (a ∷ b ∷ l) (whole (take (a * 256 + b) l)) (messages_of (drop (a * 256 + b) l))
whole_begins a b l few =
    record {
      size = suc (suc n);
      some = omega arith;
      within = omega arith;
      passes = λ end at h. omega (arith, long);
      first = λ more.
          let r : List ℕ = take more (drop n l) in
          let fits : n ≤ length (take n l ++ r) = omega (arith, long, length-append (take n l) r) in
          let e : suc (suc n) + more ≡ suc (suc (n + more)) = omega arith in
          ap (λ (k : ℕ). messages_of (take k (a ∷ b ∷ l))) e
          ∙ ap (λ (m : List ℕ). messages_of (a ∷ b ∷ m)) (take-add n more l)
          ∙ next_message a b (take n l ++ r)
          ∙ rw (le-ltb (length (take n l ++ r)) n fits, take_at (take n l) r n long, drop_at (take n l) r n long) refl;
      rest = refl;
    }
  where
    n : ℕ
    n = a * 256 + b

    long : length (take n l) ≡ n
    long = length-take-le n l few

begins : (l : List ℕ) (x : Sent) (xs : List Sent) → messages_of l ≡ x ∷ xs → Begins l x xs
unfolding messages_of split
begins [] x xs e = cc
begins (a ∷ []) x xs e =
    let y : cut ≡ x = cc in
    let ys : [] ≡ xs = cc in
    subst₂ (Begins (a ∷ [])) y ys (cut_begins (a ∷ []) (omega arith) refl)
begins (a ∷ b ∷ l) x xs e = go (ltb (length l) (a * 256 + b)) refl (sym (next_message a b l) ∙ e)
  where
    go : (w : Bool) → ltb (length l) (a * 256 + b) ≡ w
        → cond w (cut ∷ []) (whole (take (a * 256 + b) l) ∷ messages_of (drop (a * 256 + b) l)) ≡ x ∷ xs
        → Begins (a ∷ b ∷ l) x xs
    go true f h =
        let y : cut ≡ x = cc in
        let ys : [] ≡ xs = cc in
        subst₂ (Begins (a ∷ b ∷ l)) y ys (cut_begins (a ∷ b ∷ l) (omega arith) (next_message a b l ∙ rw f refl))
    go false f h =
        let y : whole (take (a * 256 + b) l) ≡ x = cc in
        let ys : messages_of (drop (a * 256 + b) l) ≡ xs = cc in
        subst₂ (Begins (a ∷ b ∷ l)) y ys (whole_begins a b l (ltb-false (length l) (a * 256 + b) f))

-- ---- all of them

-- from a place to itself there are none
none_between : (file : List ℕ) (at : ℕ) → messages_of (part file at (at - at)) ≡ []
unfolding part
none_between file at =
    let z : at - at ≡ 0 = omega arith in
    ap (λ (n : ℕ). messages_of (take n (drop at file))) z ∙ none_left

between : (room used : ℕ) (file : List ℕ) (xs : List Sent) (at : ℕ) (s : State) → messages_of (drop at file) ≡ xs
    → let us = served room used (turns_of room s xs) in
    messages_of (part file at (place_after (length file) at us - at)) ≡ map sent_in us
unfolding served turns_of place_after part
between room used file [] at s e = none_between file at
between room used file (x ∷ xs) at s e =
    go (full room used) (between room more file xs next (left_by room s x) (ap (λ (k : ℕ). messages_of (drop k file)) far
    ∙ ap messages_of (sym (drop-drop b.size at file)) ∙ b.rest))
  where
    end : ℕ
    end = length file

    more : ℕ
    more = used + length (reply_in room (answer room s x))

    b : Begins (drop at file) x xs
    b = begins (drop at file) x xs e

    next : ℕ
    next = passed end at x

    far : next ≡ at + b.size
    far = b.passes end at (omega (arith, length-drop at file, b.some, b.within))

    rest : List Turn
    rest = served room more (turns_of room (left_by room s x) xs)

    reached : ℕ
    reached = place_after end next rest

    go : (w : Bool) → messages_of (part file next (reached - next)) ≡ map sent_in rest
        → messages_of (part file at (place_after end at (cond w [] (turn_of room s x ∷ rest)) - at))
        ≡ map sent_in (cond w [] (turn_of room s x ∷ rest))
    go true h = none_between file at
    go false h =
        let low : next ≤ reached = place_grows end next next rest (omega arith)
        (omega (arith, far, length-drop at file, b.some, b.within)) in
        let both : reached - at ≡ b.size + (reached - next) = omega (arith, far, low) in
        let same : drop b.size (drop at file) ≡ drop next file =
        drop-drop b.size at file ∙ ap (λ (k : ℕ). drop k file) (sym far) in
        ap (λ (k : ℕ). messages_of (take k (drop at file))) both
        ∙ b.first (reached - next)
        ∙ ap (λ (ys : List Sent). x ∷ ys) (ap (λ (l : List ℕ). messages_of (take (reached - next) l)) same ∙ h)

-- ---- their turns

again : (room used : ℕ) (xs : List Sent) (s : State)
    → let us = served room used (turns_of room s xs) in turns_of room s (map sent_in us) ≡ us
unfolding turns_of served
again room used [] s = refl
again room used (x ∷ xs) s =
    go (full room used) (again room (used + length (reply_in room (answer room s x))) xs (left_by room s x))
  where
    rest : List Turn
    rest = served room (used + length (reply_in room (answer room s x))) (turns_of room (left_by room s x) xs)

    go : (w : Bool) → turns_of room (left_by room s x) (map sent_in rest) ≡ rest
        → let us = cond w [] (turn_of room s x ∷ rest) in turns_of room s (map sent_in us) ≡ us
    go true h = refl
    go false h = ap (λ (ts : List Turn). turn_of room s x ∷ ts) h

pub turns_between : (room : ℕ) (file : List ℕ) (at : ℕ) (s : State) (place : ℕ)
    → let w = part_from room file at s in
    place ≡ w.place → turns_of room s (messages_of (part file at (place - at))) ≡ w.turns
turns_between room file at s place e =
    ap (λ (n : ℕ). turns_of room s (messages_of (part file at (n - at)))) e
    ∙ ap (turns_of room s) (between room 0 file (messages_of (drop at file)) at s refl)
    ∙ again room 0 (messages_of (drop at file)) s
