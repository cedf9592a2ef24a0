-- Any calls of the three functions, one after the other. Each leaves what the turns of its messages leave; the rest is
-- one run after another. In order: one call; calls on what was kept.
use Prim.Native.Nat.{ℕ, ◌/◌, ◌%◌, ◌≤◌, ◌<◌}
use mathlib.Core.Path.{◌≡◌, refl, sym, ap, ap₂, ◌∙◌}
use mathlib.Core.Bool.{Bool, true, false, cond}
use mathlib.Core.List.{List, [], ◌∷◌, ◌++◌, flatten, append-nil}
use native.Mathlib.Omega.{arith}
use lib.ListN.{length, take}
use lib.Seq.{take_at}
use lib.Dec.{ltb}
use borrow.Author.Tests.{ltb-true, ltb-false, lt-ltb}
use Rattle.steps.specs.Stores.{over}
use Rattle.steps.specs.Steps.{Outcome, number_of}
use Rattle.steps.specs.Effects.{State, Result, left, laid_by}
use Rattle.steps.specs.Promises.{Lent}
use Rattle.messages.specs.Replies.{reply, reply_in}
use Rattle.messages.specs.Run.{Sent, answer, Turn, turn_of, left_by, messages_of, turns_of, end_of, buffer, joined_replies}
use Rattle.messages.specs.Run.{state_after, part_from}
use Rattle.messages.specs.Promises.{sent_alone}
use Rattle.messages.proofs.TurnLaws.{reply_short}
use Rattle.messages.proofs.JoinLaws.{same_turns, short_joined, end_is}
use Rattle.theorems.proofs.Refusals.{number_low}
use Rattle.embed.specs.Bytes.{tables_bytes}
use Rattle.embed.specs.Exports.{packed, Kept, state_in}
use Rattle.callers.specs.Calls.{RepliesCall, Called, answered, replied, ran, Meets, out_lent, out_left, room}
use Rattle.callers.specs.Calls.{left_of, Calls, kept_after, messages_by, turns_by, messages_through, turns_through}
use Rattle.callers.specs.Calls.{length_told, counted_on, Had, LeftAlone, EachHad}
use Rattle.callers.proofs.Between.{turns_between}
use Rattle.callers.proofs.Kept.{Sane, same_kept, leaves, put_kept, left_kept, end_good}

-- ---- one call

-- the number and the length that are told
module _ (size : ℕ) (s : State) (x : Sent) (r : ℕ)
    (e : r ≡ packed (number_of (answer size s x)) (length (reply_in size (answer size s x)))
    (laid_by (answer size s x))) where
  pub told_number : r % 256 ≡ number_of (answer size s x)
  told_number = omega (arith, e, number_low size s x)

  pub told_length : r / 256 % 256 ≡ length (reply_in size (answer size s x))
  told_length = omega (arith, e, number_low size s x, reply_short size s x)

-- the turns of a call of `reel_replies` are those of the part of a run that it promises
pub part_turns : (k : Kept) (c : RepliesCall) → Meets k (replied c)
    → turns_by k (replied c) ≡ (part_from (length c.out) c.file c.at (state_in k)).turns
part_turns k c p = turns_between (length c.out) c.file c.at (state_in k) c.place p.place_told

-- a buffer below 70 bytes takes no reply
short_buffer : (size : ℕ) (ts : List Turn) (out : List ℕ) → size < 70 → buffer size ts out ≡ out
unfolding buffer
short_buffer size [] out h = refl
short_buffer size (t ∷ ts) out h =
    ap (λ (w : Bool). buffer size ts (over (cond w [] (reply t.outcome)) out)) (lt-ltb size 70 h)
    ∙ short_buffer size ts out h

-- what a call does that its contract promises
pub record Does (k : Kept) (c : Called) : Type 0 where
  pub state_is : state_in (left_of c) ≡ end_of (room c) (state_in k) (messages_by c)
  pub sane : Sane (left_of c)
  pub had : Had c (turns_by k c)
  pub same_out : room c < 70 → out_left c ≡ out_lent c

pub does : (k : Kept) (c : Called) → Sane k → Meets k c → Does k c
unfolding turns_of end_of flatten
does k (answered c) sane p =
    let size : ℕ = length c.out in
    let s : State = state_in k in
    let x : Sent = sent_alone c.message in
    let o : Outcome Result = answer size s x in
    let l = leaves c.left (left s o) (end_good size (x ∷ []) s sane.good) (p.tables_out ∙ left_kept k sane o)
    (ap (λ (m : Lent). m.fast) p.lent_out) (ap (λ (m : Lent). m.slow) p.lent_out) in
    record {
      state_is = l.state_is;
      sane = l.sane;
      had = record {
        told_had = ap (λ (r : ℕ). r ∷ []) p.told;
        replies_had =
            ap (λ (m : Lent). take (length_told c.told) m.out) p.lent_out
            ∙ take_at (reply_in size o) _ (length_told c.told) (sym (told_length size s x c.told p.told))
            ∙ sym (append-nil (reply_in size o));
      };
      same_out = λ h. ap (λ (m : Lent). m.out) p.lent_out ∙ rw (lt-ltb size 70 h) refl;
    }
does k (replied c) sane p =
    let size : ℕ = length c.out in
    let s : State = state_in k in
    let w = part_from size c.file c.at s in
    let turns = part_turns k c p in
    let end : w.final ≡ end_of size s (messages_by (replied c)) =
    ap (state_after s) (sym turns) ∙ end_is size s (messages_by (replied c)) in
    let xs : List Sent = messages_by (replied c) in
    let l = leaves c.left (end_of size s xs) (end_good size xs s sane.good)
    (p.tables_out ∙ put_kept k sane w.final.tables ∙ ap (λ (x : State). tables_bytes x.tables) end)
    (ap (λ (m : Lent). m.fast) p.lent_out ∙ ap (λ (x : State). x.fast) end)
    (ap (λ (m : Lent). m.slow) p.lent_out ∙ ap (λ (x : State). x.slow) end) in
    record {
      state_is = l.state_is;
      sane = l.sane;
      had = record {
        replies_had =
            ap (λ (m : Lent). take c.used m.out) p.lent_out
            ∙ take_at (joined_replies size w.turns) _ c.used (sym p.used_told)
            ∙ ap (joined_replies size) (sym turns);
        tally_had = p.tally_out ∙ ap (λ (ts : List Turn). counted_on ts c.tally) (sym turns);
      };
      same_out = λ h.
          ap (λ (m : Lent). m.out) p.lent_out
          ∙ ap (λ (l : List ℕ). over l c.out) (short_joined size w.turns h);
    }
does k (ran c) sane p =
    let size : ℕ = length c.out in
    let xs : List Sent = messages_of c.file in
    let l = leaves c.left (end_of size (state_in k) xs) (end_good size xs (state_in k) sane.good)
    (p.tables_out ∙ put_kept k sane (end_of size (state_in k) xs).tables)
    (ap (λ (m : Lent). m.fast) p.lent_out) (ap (λ (m : Lent). m.slow) p.lent_out) in
    record {
      state_is = l.state_is;
      sane = l.sane;
      had = record { buffer_had = ap (λ (m : Lent). m.out) p.lent_out; tally_had = p.tally_out };
      same_out = λ h.
          ap (λ (m : Lent). m.out) p.lent_out ∙ short_buffer size (turns_of size (state_in k) xs) c.out h;
    }

-- ---- calls on what was kept

-- a buffer below 70 bytes leaves the state
short_end : (size : ℕ) (xs : List Sent) (s : State) → size < 70 → end_of size s xs ≡ s
unfolding end_of answer
short_end size [] s h = refl
short_end size (x ∷ xs) s h = rw (lt-ltb size 70 h) (short_end size xs s h)

-- with 70 bytes or more all buffers are alike
same_end : (size : ℕ) (xs : List Sent) (s : State) → 70 ≤ size → end_of size s xs ≡ end_of 70 s xs
same_end size xs s h = sym (end_is size s xs) ∙ ap (state_after s) (same_turns size s xs h) ∙ end_is 70 s xs

-- one run behind another
turns_both : (xs ys : List Sent) (s : State)
    → turns_of 70 s (xs ++ ys) ≡ turns_of 70 s xs ++ turns_of 70 (end_of 70 s xs) ys
unfolding turns_of end_of
turns_both [] ys s = refl
turns_both (x ∷ xs) ys s = ap (λ (ts : List Turn). turn_of 70 s x ∷ ts) (turns_both xs ys (left_by 70 s x))

end_both : (xs ys : List Sent) (s : State) → end_of 70 s (xs ++ ys) ≡ end_of 70 (end_of 70 s xs) ys
unfolding end_of
end_both [] ys s = refl
end_both (x ∷ xs) ys s = end_both xs ys (left_by 70 s x)

-- of calls cs on what the caller kept
pub record Through (k : Kept) (cs : List Called) : Type 0 where
  pub each : EachHad k cs
  pub turns_are : turns_through k cs ≡ turns_of 70 (state_in k) (messages_through cs)
  pub state_is : state_in (kept_after k cs) ≡ end_of 70 (state_in k) (messages_through cs)
  pub sane : Sane (kept_after k cs)

pub through : (k : Kept) (cs : List Called) → Sane k → Calls k cs → Through k cs
unfolding turns_of end_of
through k [] sane calls = record { each = tt; turns_are = refl; state_is = refl; sane = sane }
through k (c ∷ cs) sane calls =
    let q = through (left_of c) cs d.sane calls.1 in
    record {
      each = (d.had, alone, q.each);
      turns_are =
          ap (λ (ts : List Turn). cond (ltb (room c) 70) [] (turns_by k c) ++ ts) q.turns_are
          ∙ turns (ltb (room c) 70) refl;
      state_is = q.state_is ∙ state (ltb (room c) 70) refl;
      sane = q.sane;
    }
  where
    d : Does k c
    d = does k c sane calls.0

    s : State
    s = state_in k

    xs : List Sent
    xs = messages_by c

    ys : List Sent
    ys = messages_through cs

    -- what the call leaves
    short : ltb (room c) 70 ≡ true → state_in (left_of c) ≡ s
    short e = d.state_is ∙ short_end (room c) xs s (ltb-true (room c) 70 e)

    wide : ltb (room c) 70 ≡ false → state_in (left_of c) ≡ end_of 70 s xs
    wide e = d.state_is ∙ same_end (room c) xs s (ltb-false (room c) 70 e)

    alone : LeftAlone k c
    alone h = (same_kept (left_of c) k d.sane sane (short (lt-ltb (room c) 70 h)), d.same_out h)

    turns : (b : Bool) → ltb (room c) 70 ≡ b
        → cond b [] (turns_by k c) ++ turns_of 70 (state_in (left_of c)) ys ≡ turns_of 70 s (cond b [] xs ++ ys)
    turns true e = ap (λ (x : State). turns_of 70 x ys) (short e)
    turns false e =
        ap₂ (λ (ts : List Turn) (x : State). ts ++ turns_of 70 x ys)
        (same_turns (room c) s xs (ltb-false (room c) 70 e)) (wide e)
        ∙ sym (turns_both xs ys s)

    state : (b : Bool) → ltb (room c) 70 ≡ b → end_of 70 (state_in (left_of c)) ys ≡ end_of 70 s (cond b [] xs ++ ys)
    state true e = ap (λ (x : State). end_of 70 x ys) (short e)
    state false e = ap (λ (x : State). end_of 70 x ys) (wide e) ∙ sym (end_both xs ys s)

-- where their turns are those of messages xs, they leave what these leave
pub end_reached : (k : Kept) (cs : List Called) → Through k cs → (xs : List Sent)
    → turns_through k cs ≡ turns_of 70 (state_in k) xs → state_in (kept_after k cs) ≡ end_of 70 (state_in k) xs
end_reached k cs q xs same =
    q.state_is
    ∙ sym (end_is 70 (state_in k) (messages_through cs))
    ∙ ap (state_after (state_in k)) (sym q.turns_are ∙ same)
    ∙ end_is 70 (state_in k) xs
