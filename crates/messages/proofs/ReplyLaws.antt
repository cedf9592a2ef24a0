-- The laws of replies, in order: a reply is its heading and its data; the reply of a
-- decision as the code lays it, and what that comes to; the length of a reply, which is 70 at the most.
use Prim.Native.Nat.{ℕ, ◌+◌, ◌≤◌}
use mathlib.Core.Path.{◌≡◌, refl, sym, ap, ◌∙◌}
use mathlib.Core.Bool.{Bool, true, false, cond}
use mathlib.Core.List.{List, [], ◌++◌, append_assoc}
use native.Mathlib.Omega.{arith}
use lib.ListN.{length, take, drop, length-append, length-drop, take-append-drop}
use lib.Seq.{length-take-le, drop_at, drop-drop, drop-append-le}
use lib.Dec.{ltb}
use borrow.Rule.Slice.PartMut.{put_mid}
use Rattle.tables.specs.Numbers.{accepted}
use Rattle.steps.specs.declared.Call.{Call}
use Rattle.steps.specs.declared.Decision.{Decision}
use Rattle.steps.specs.Stores.{part, over}
use Rattle.steps.specs.Steps.{Outcome, refuse, accept, number_of}
use Rattle.steps.specs.Effects.{State, Result, step, left, laid_by, data_of}
use Rattle.steps.specs.Promises.{Lent, lent, carried}
use Rattle.steps.proofs.StepLaws.{Carries, data_short}
use Rattle.messages.specs.Replies.{reply, reply_in}
use Rattle.messages.specs.Private.{heading, replied_with}

-- a reply is its first six bytes and its data
reply_is : (o : Outcome Result) → reply o ≡ heading (number_of o) (laid_by o) (length (data_of o)) ++ data_of o
unfolding reply
reply_is (refuse n) = refl
reply_is (accept r) = refl

-- ---- the reply of a decision

-- the data in the 64 bytes behind the first six, and the heading, as the code lays them
pub laid_reply : (d : Decision) (bs fast slow out fast' slow' mid out' : List ℕ) → 70 ≤ length out
    → lent fast' slow' mid ≡ carried d bs (lent fast slow (take 64 (drop 6 out)))
    → out' ≡ heading accepted d.laid d.len ++ drop 6 (put_mid 6 64 out mid)
    → lent fast' slow' out' ≡ replied_with d bs (lent fast slow out)
unfolding part
laid_reply d bs fast slow out fast' slow' mid out' room e f =
    let behind : drop 6 (put_mid 6 64 out mid) ≡ mid ++ drop 70 out =
    drop_at (take 6 out) _ 6 (length-take-le 6 out (omega arith)) ∙ ap (λ (r : List ℕ). mid ++ r) (drop-drop 64 6 out) in
    ap (lent fast' slow') (f ∙ ap (λ (r : List ℕ). heading accepted d.laid d.len ++ r) behind)
    ∙ ap (λ (l : Lent). lent l.fast l.slow (heading accepted d.laid d.len ++ (l.out ++ drop 70 out))) e

-- bytes laid over a part at the front of a list
over_part : (d l : List ℕ) (n : ℕ) → length d ≤ n → n ≤ length l → over d (take n l) ++ drop n l ≡ over d l
over_part d l n h k =
    let m : length d ≤ length (take n l) = rw (length-take-le n l k) h in
    append_assoc d (drop (length d) (take n l)) (drop n l)
    ∙ ap (λ (r : List ℕ). d ++ r)
    (sym (drop-append-le (length d) (take n l) (drop n l) m) ∙ ap (drop (length d)) (take-append-drop n l))

-- six bytes laid over a buffer, with the data behind them
over_behind : (h d out : List ℕ) → length h ≡ 6 → 6 ≤ length out → h ++ over d (drop 6 out) ≡ over (h ++ d) out
over_behind h d out e k =
    let n : 6 + length d ≡ length (h ++ d) = omega (arith, length-append h d) in
    ap (λ (r : List ℕ). h ++ (d ++ r)) (drop-drop (length d) 6 out ∙ ap (λ (j : ℕ). drop j out) n)
    ∙ sym (append_assoc h d (drop (length (h ++ d)) out))

reply_over : (o : Outcome Result) (out : List ℕ) → length (data_of o) ≤ 64 → 70 ≤ length out
    → heading (number_of o) (laid_by o) (length (data_of o)) ++ (over (data_of o) (part out 6 64) ++ drop 70 out) ≡ over (reply o) out
unfolding part
reply_over o out few room =
    let head : List ℕ = heading (number_of o) (laid_by o) (length (data_of o)) in
    let k : 64 ≤ length (drop 6 out) = omega (arith, length-drop 6 out) in
    ap (λ (r : List ℕ). head ++ (over (data_of o) (take 64 (drop 6 out)) ++ r)) (sym (drop-drop 64 6 out))
    ∙ ap (λ (r : List ℕ). head ++ r) (over_part (data_of o) (drop 6 out) 64 few k)
    ∙ over_behind head (data_of o) out refl (omega arith)
    ∙ ap (λ (r : List ℕ). over r out) (sym (reply_is o))

-- the part of the buffer that the data go to
pub part_long : (out : List ℕ) → 70 ≤ length out → length (part out 6 64) ≡ 64
unfolding part
part_long out room = length-take-le 64 (drop 6 out) (omega (arith, length-drop 6 out))

-- what is laid is what the step leaves, and its reply
pub carried_reply : (s : State) (c : Call) (bs out : List ℕ) (d : Decision) → 70 ≤ length out → Carries s c bs (part out 6 64) d
    → replied_with d bs (lent s.fast s.slow out)
    ≡ lent (left s (step s c bs)).fast (left s (step s c bs)).slow (over (reply (step s c bs)) out)
carried_reply s c bs out d room q =
    let o = step s c bs in
    ap (λ (l : Lent). lent l.fast l.slow (heading accepted d.laid d.len ++ (l.out ++ drop 70 out))) q.left_is
    ∙ ap (lent (left s o).fast (left s o).slow)
    (ap (λ (n : ℕ). heading n d.laid d.len ++ (over (data_of o) (part out 6 64) ++ drop 70 out)) (sym q.accepted_is)
    ∙ rw (q.laid_is, q.len_is) (reply_over o out (data_short s c bs) room))

-- ---- the length of a reply

pub reply_length : (room : ℕ) (o : Outcome Result) → cond (ltb room 70) 0 (6 + length (data_of o)) ≡ length (reply_in room o)
reply_length room o = by (ltb room 70)
  where
    by : (b : Bool) → cond b 0 (6 + length (data_of o)) ≡ length (cond b [] (reply o))
    by true = refl
    by false = rw (reply_is o) (omega arith)
