-- What message after message leaves is the run and, where the replies are kept, a part of it; where no message moved
-- the tables, they are those that came in, and where one did, those that came in keep the rules.
use Prim.Native.Nat.{ℕ, ◌+◌, ◌-◌, ◌≤◌, zero-le}
use mathlib.Core.Path.{◌≡◌, refl, sym, ap, ◌∙◌}
use mathlib.Core.Bool.{Bool, true, false, ◌||◌, cond, or-false, or_assoc, true≢false, false≢true}
use mathlib.Core.List.{List, [], ◌∷◌, flatten}
use native.Mathlib.Omega.{arith}
use lib.ListN.{length, drop, length-append}
use lib.Dec.{ltb}
use borrow.Author.Tests.{le-ltb}
use Rattle.tables.specs.Numbers.{broken_tables, short_buffer}
use Rattle.tables.specs.Rules.{sound}
use Rattle.steps.specs.declared.Call.{Call}
use Rattle.steps.specs.Stores.{splice, over}
use Rattle.steps.specs.Steps.{Outcome, refuse, accept, test}
use Rattle.steps.specs.Effects.{State, Result, step, moved_by, laid_by}
use Rattle.steps.proofs.StepLaws.{step_unruled}
use Rattle.steps.proofs.StoreLaws.{length_splice, splice_none, splice_front, splice_next}
use Rattle.messages.specs.declared.Tally.{Tally}
use Rattle.messages.specs.declared.Filled.{Filled}
use Rattle.messages.specs.Replies.{reply_in, counted, is_refusal}
use Rattle.messages.specs.Run.{Sent, Turn, asked, bytes_of, respond, turn_of, answer, left_by, messages_of, turns_of, end_of, run, buffer, tally, moved_in, joined_replies, full, served, passed, place_after, state_after, part_from}
use Rattle.messages.specs.Promises.{RunEnded, PartEnded}
use Rattle.messages.specs.Private.{Serving, serving, served_all, ServeEnded}
use Rattle.messages.proofs.RunLaws.{reply_inside}
use Rattle.messages.proofs.TurnLaws.{unmoved}

-- ---- the run

pub never_full : (room : ℕ) → full room 0 ≡ false
never_full room = le-ltb (room - 70) 0 zero-le

record RunServed (room : ℕ) (s : State) (out : List ℕ) (n : Tally) (m : Bool) (xs : List Sent) (v : Serving) : Type 0 where
  state_is : v.state ≡ end_of room s xs
  buffer_is : v.buffer ≡ buffer room (turns_of room s xs) out
  tally_is : v.tally ≡ tally (turns_of room s xs) n
  moved_is : v.moved ≡ (m || moved_in (turns_of room s xs))

run_served : (room end at : ℕ) (s : State) (out : List ℕ) (n : Tally) (m : Bool) (xs : List Sent)
    → RunServed room s out n m xs (served_all false room end (serving at 0 s out n m) xs)
unfolding served_all end_of turns_of buffer tally moved_in
run_served room end at s out n m [] = record { state_is = refl; buffer_is = refl; tally_is = refl; moved_is = sym (or-false m) }
run_served room end at s out n m (x ∷ xs) =
    let o = answer room s x in
    rw (never_full room, splice_front out (reply_in room o))
    (let k = run_served room end (passed end at x) (left_by room s x) (over (reply_in room o) out) (counted n (is_refusal o) (laid_by o)) (m || moved_by o) xs in
    record {
      state_is = k.state_is;
      buffer_is = k.buffer_is;
      tally_is = k.tally_is;
      moved_is = k.moved_is ∙ or_assoc m (moved_by o) (moved_in (turns_of room (left_by room s x) xs));
    })

-- what `run` promises
pub run_ended : (file : List ℕ) (s s' : State) (out out' : List ℕ) (n : Tally) (r : Filled)
    → ServeEnded false file (serving 0 0 s out n false) s' out' r
    → RunEnded s (run (length out) file s) n out s' out' (record { moved = r.moved; tables = r.tables; tally = r.tally })
run_ended file s s' out out' n r q =
    let k = run_served (length out) (length file) 0 s out n false (messages_of file) in
    record {
      state_out = ap (λ (v : Serving). v.state) q.all ∙ k.state_is;
      buffer_out = ap (λ (v : Serving). v.buffer) q.all ∙ k.buffer_is;
      tally_out = ap (λ (v : Serving). v.tally) q.all ∙ k.tally_is;
      moved_told = ap (λ (v : Serving). v.moved) q.all ∙ k.moved_is;
    }

-- ---- a part of it

record PartServed (room end at used : ℕ) (s : State) (out : List ℕ) (n : Tally) (m : Bool) (ts : List Turn) (v : Serving) : Type 0 where
  place_is : v.at ≡ place_after end at ts
  used_is : v.used ≡ used + length (joined_replies room ts)
  state_is : v.state ≡ state_after s ts
  buffer_is : v.buffer ≡ splice out used (joined_replies room ts)
  tally_is : v.tally ≡ tally ts n
  moved_is : v.moved ≡ (m || moved_in ts)

none_served : (room end at used : ℕ) (s : State) (out : List ℕ) (n : Tally) (m : Bool)
    → PartServed room end at used s out n m [] (serving at used s out n m)
unfolding place_after state_after tally moved_in flatten
none_served room end at used s out n m =
    record {
      place_is = refl;
      used_is = omega arith;
      state_is = refl;
      buffer_is = sym (splice_none out used);
      tally_is = refl;
      moved_is = sym (or-false m);
    }

module _ (room end at used : ℕ) (s : State) (out : List ℕ) (n : Tally) (m : Bool) (x : Sent) (xs : List Sent) (e : length out ≡ room) where
  abbrev o : Outcome Result
  o = answer room s x

  abbrev r : List ℕ
  r = reply_in room o

  abbrev t : Turn
  t = record { found = s; sent = x; outcome = o }

  -- after one more message, and where those after it stand
  abbrev v : Serving
  v = serving (passed end at x) (used + length r) (left_by room s x) (splice out used r) (counted n (is_refusal o) (laid_by o)) (m || moved_by o)

  abbrev ts : List Turn
  ts = served room (used + length r) (turns_of room (left_by room s x) xs)

  one_more : full room used ≡ false
      → (length (splice out used r) ≡ room → used + length r ≤ room
      → PartServed room end v.at v.used v.state v.buffer v.tally v.moved ts (served_all true room end v xs))
      → PartServed room end at used s out n m (t ∷ ts) (served_all true room end v xs)
  unfolding place_after state_after tally moved_in flatten
  one_more f later =
      let fit = reply_inside room used f s x in
      let k = later (length_splice out used r (rw e fit) ∙ e) fit in
      record {
        place_is = k.place_is;
        used_is = omega (arith, k.used_is, length-append r (joined_replies room ts));
        state_is = k.state_is;
        buffer_is = k.buffer_is ∙ splice_next out used r (joined_replies room ts) (rw e fit);
        tally_is = k.tally_is;
        moved_is = k.moved_is ∙ or_assoc m (moved_by o) (moved_in ts);
      }

part_served : (room end at used : ℕ) (s : State) (out : List ℕ) (n : Tally) (m : Bool) (xs : List Sent) → length out ≡ room → used ≤ room
    → PartServed room end at used s out n m (served room used (turns_of room s xs)) (served_all true room end (serving at used s out n m) xs)
unfolding served_all served turns_of
part_served room end at used s out n m [] e h = none_served room end at used s out n m
part_served room end at used s out n m (x ∷ xs) e h =
    by (full room used) refl
    (λ long fit. part_served room end (passed end at x) _ (left_by room s x) _ _ _ xs long fit)
  where
    by : (b : Bool) → full room used ≡ b
        → (let w = v room end at used s out n m x xs e in
        length w.buffer ≡ room → w.used ≤ room
        → PartServed room end w.at w.used w.state w.buffer w.tally w.moved (ts room end at used s out n m x xs e)
        (served_all true room end w xs))
        → PartServed room end at used s out n m (cond b [] (t room end at used s out n m x xs e ∷ ts room end at used s out n m x xs e))
        (cond b (serving at used s out n m) (served_all true room end (v room end at used s out n m x xs e) xs))
    by true f later = none_served room end at used s out n m
    by false f later = one_more room end at used s out n m x xs e f later

-- what `fill` promises
pub part_ended : (file : List ℕ) (at : ℕ) (s s' : State) (out out' : List ℕ) (n : Tally) (r : Filled)
    → ServeEnded true file (serving at 0 s out n false) s' out' r → PartEnded s (part_from (length out) file at s) n out s' out' r
part_ended file at s s' out out' n r q =
    let k = part_served (length out) (length file) at 0 s out n false (messages_of (drop at file)) refl zero-le in
    let j = joined_replies (length out) (part_from (length out) file at s).turns in
    record {
      place_told = ap (λ (v : Serving). v.at) q.all ∙ k.place_is;
      used_told = ap (λ (v : Serving). v.used) q.all ∙ k.used_is ∙ (let e : 0 + length j ≡ length j = omega arith in e);
      state_out = ap (λ (v : Serving). v.state) q.all ∙ k.state_is;
      buffer_out = ap (λ (v : Serving). v.buffer) q.all ∙ k.buffer_is ∙ splice_front out j;
      tally_out = ap (λ (v : Serving). v.tally) q.all ∙ k.tally_is;
      moved_told = ap (λ (v : Serving). v.moved) q.all ∙ k.moved_is;
    }

-- ---- tables that no message moved

neither_left : (a b : Bool) → (a || b) ≡ false → a ≡ false
neither_left true b e = absurd (true≢false e)
neither_left false b e = refl

neither_right : (a b : Bool) → (a || b) ≡ false → b ≡ false
neither_right true b e = absurd (true≢false e)
neither_right false b e = e

pub unmoved_end : (room : ℕ) (s : State) (xs : List Sent) → moved_in (turns_of room s xs) ≡ false → (end_of room s xs).tables ≡ s.tables
unfolding turns_of end_of moved_in
unmoved_end room s [] e = refl
unmoved_end room s (x ∷ xs) e =
    let m = moved_by (answer room s x) in
    let ts = turns_of room (left_by room s x) xs in
    unmoved_end room (left_by room s x) xs (neither_right m (moved_in ts) e) ∙ unmoved room s x (neither_left m (moved_in ts) e)

-- a turn that a full buffer leaves out, and those behind it
unmoved_one : (is_full : Bool) (room : ℕ) (s : State) (x : Sent) (ts : List Turn)
    → (moved_in ts ≡ false → (state_after (left_by room s x) ts).tables ≡ (left_by room s x).tables)
    → moved_in (cond is_full [] (turn_of room s x ∷ ts)) ≡ false
    → (state_after s (cond is_full [] (turn_of room s x ∷ ts))).tables ≡ s.tables
unfolding moved_in state_after
unmoved_one true room s x ts k e = refl
unmoved_one false room s x ts k e =
    let m = moved_by (answer room s x) in
    k (neither_right m (moved_in ts) e) ∙ unmoved room s x (neither_left m (moved_in ts) e)

pub unmoved_after : (room used : ℕ) (s : State) (xs : List Sent) → moved_in (served room used (turns_of room s xs)) ≡ false
    → (state_after s (served room used (turns_of room s xs))).tables ≡ s.tables
unfolding turns_of served moved_in state_after
unmoved_after room used s [] e = refl
unmoved_after room used s (x ∷ xs) e =
    let more = used + length (reply_in room (answer room s x)) in
    let s' = left_by room s x in
    unmoved_one (full room used) room s x (served room more (turns_of room s' xs)) (unmoved_after room more s' xs) e

-- ---- tables that a message moved

-- a message moves no tables that break a rule
pub moved_sound : (room : ℕ) (s : State) (x : Sent) → moved_by (answer room s x) ≡ true → sound s.tables ≡ true
unfolding answer
moved_sound room s x = by (ltb room 70) (asked x)
  where
    stepped : (c : Call) (b : Bool) → sound s.tables ≡ b → moved_by (step s c (bytes_of x)) ≡ true → b ≡ true
    stepped c true z e = refl
    stepped c false z e =
        absurd (false≢true (rw (step_unruled s c (bytes_of x) broken_tables (rw z) (λ q. omega arith)) at e))

    by : (b : Bool) (m : Outcome Call) → moved_by (test b short_buffer (respond s m (bytes_of x))) ≡ true → sound s.tables ≡ true
    by true m e = absurd (false≢true e)
    by false (refuse n) e = absurd (false≢true e)
    by false (accept c) e = stepped c (sound s.tables) refl e

-- nor does a message before others, where those do not either
turn_sound : (room : ℕ) (s : State) (x : Sent) (later : Bool) → (later ≡ true → sound (left_by room s x).tables ≡ true)
    → (moved_by (answer room s x) || later) ≡ true → sound s.tables ≡ true
turn_sound room s x later k e = go (moved_by (answer room s x)) refl e
  where
    go : (b : Bool) → moved_by (answer room s x) ≡ b → (b || later) ≡ true → sound s.tables ≡ true
    go true m q = moved_sound room s x m
    go false m q = rw (unmoved room s x m) at (k q)

pub turns_sound : (room : ℕ) (s : State) (xs : List Sent) → moved_in (turns_of room s xs) ≡ true → sound s.tables ≡ true
unfolding turns_of moved_in
turns_sound room s [] e = absurd (false≢true e)
turns_sound room s (x ∷ xs) e =
    let s' = left_by room s x in
    turn_sound room s x (moved_in (turns_of room s' xs)) (turns_sound room s' xs) e

pub served_sound : (room used : ℕ) (s : State) (xs : List Sent) → moved_in (served room used (turns_of room s xs)) ≡ true
    → sound s.tables ≡ true
unfolding turns_of served moved_in
served_sound room used s [] e = absurd (false≢true e)
served_sound room used s (x ∷ xs) e =
    let s' = left_by room s x in
    let more = used + length (reply_in room (answer room s x)) in
    let later = served room more (turns_of room s' xs) in
    go (full room used) (turn_of room s x ∷ later) (turn_sound room s x (moved_in later) (served_sound room more s' xs)) e
  where
    go : (b : Bool) (ts : List Turn) → (moved_in ts ≡ true → sound s.tables ≡ true)
        → moved_in (cond b [] ts) ≡ true → sound s.tables ≡ true
    go true ts k e = absurd (false≢true e)
    go false ts k e = k e
