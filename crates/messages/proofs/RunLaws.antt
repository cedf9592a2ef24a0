-- The loop over a call file, in order: the reader's answer as the message that follows; the room for a reply; the
-- loop's invariant, after a message and at the end.
use Prim.Native.Nat.{ℕ, ◌+◌, ◌-◌, ◌≤◌, ◌<◌}
use mathlib.Core.Path.{◌≡◌, refl, sym, ap, ◌∙◌}
use mathlib.Core.Bool.{Bool, true, false, ◌||◌, cond}
use mathlib.Core.List.{List, [], ◌∷◌, ◌++◌, append-nil}
use native.Mathlib.Omega.{arith}
use lib.ListN.{length, take, drop, length-drop, drop_of_length-le}
use lib.Seq.{length-take-le, take_all, drop-drop}
use lib.Dec.{leb, ltb}
use borrow.Author.Tests.{leb-false, ltb-true, ltb-false, lt-ltb, le-ltb}
use borrow.Rule.Slice.PartMut.{put_mid, same_len_mid}
use Rattle.steps.specs.Stores.{part, splice, over}
use Rattle.tables.specs.declared.Tables.{Tables}
use Rattle.steps.specs.declared.Decision.{Decision}
use Rattle.steps.specs.Steps.{Outcome}
use Rattle.steps.specs.Effects.{State, Result, left, moved_by, laid_by}
use Rattle.steps.specs.Promises.{state_of, lent}
use Rattle.messages.specs.declared.Next.{Next}
use Rattle.messages.specs.declared.Next.TheVariants.{Message, Cut, End}
use Rattle.messages.specs.declared.Tally.{Tally}
use Rattle.messages.specs.Messages.{length_at, next_at}
use Rattle.messages.specs.Replies.{reply, reply_in, counted, is_refusal}
use Rattle.messages.specs.Run.{Sent, answer, messages_of, yielded, split, full, passed}
use Rattle.messages.specs.Promises.{sent_by}
use Rattle.messages.specs.Private.{due_at, is_end, past_of, replied_by, refused_then, laid_then, reply_len, moves_then, settled_then, Serving, serving, ahead, served_one, served_all}
use Rattle.messages.proofs.ReaderLaws.{message_at, reader_yields}
use Rattle.messages.proofs.TurnLaws.{rules_of, Decided, served, reply_long, rules_kept, reply_short}

-- ---- the reader's answer

-- what is due and not the end is the message at the place, in a buffer that is not full
pub record Due (file : List ℕ) (at : ℕ) (is_full : Bool) (next : Next) : Type 0 where
  pub roomy : is_full ≡ false
  pub found : next ≡ next_at file at

pub due : (file : List ℕ) (at : ℕ) (is_full : Bool) (next : Next) → next ≡ due_at file at is_full → is_end next ≡ false → Due file at is_full next
due file at true next e h = let f : true ≡ false = ap is_end (sym e) ∙ h in cc
due file at false next e h = record { roomy = refl; found = e }

cut_inside : (file : List ℕ) (at : ℕ) → Cut ≡ next_at file at → at < length file
unfolding next_at
cut_inside file at = go (leb (length file) at) refl
  where
    go : (b : Bool) → leb (length file) at ≡ b
        → Cut ≡ cond b End (cond (ltb (length file) (at + 2)) Cut
        (cond (ltb (length file) (at + 2 + length_at file at)) Cut (Message (at + 2) (length_at file at) (at + 2 + length_at file at))))
        → at < length file
    go true e p = cc
    go false e p = leb-false (length file) at e

-- the message, those that follow it, and the place past it
pub record Follows (file : List ℕ) (at : ℕ) (next : Next) : Type 0 where
  pub messages : messages_of (drop at file) ≡ sent_by file next ∷ messages_of (drop (past_of (length file) next) file)
  pub past : past_of (length file) next ≡ passed (length file) at (sent_by file next)
  pub further : at < past_of (length file) next
  pub inside : past_of (length file) next ≤ length file

pub follows : (file : List ℕ) (at : ℕ) (next : Next) → next ≡ next_at file at → is_end next ≡ false → Follows file at next
unfolding messages_of split part
follows file at (Message start len next) e h =
    let m = message_at file at start len next e in
    let long : length (part file start len) ≡ len = length-take-le len (drop start file) (omega (arith, length-drop start file)) in
    record {
      messages = reader_yields file at ∙ rw (← e);
      past = omega arith;
      further = omega arith;
      inside = m.inside;
    }
follows file at Cut e h =
    record {
      messages = reader_yields file at ∙ rw (← e, drop_of_length-le file (let k : length file ≤ length file = omega arith in k));
      past = refl;
      further = cut_inside file at e;
      inside = omega arith;
    }
follows file at End e h = cc

-- ---- room for a reply

module _ (room used : ℕ) (roomy : full room used ≡ false) where
  -- a reply finds in what is left of the buffer the room that it finds in the whole
  pub same_room : (long : ℕ) → used + long ≡ room → ltb long 70 ≡ ltb room 70
  same_room long e = go (ltb room 70) refl
    where
      go : (b : Bool) → ltb room 70 ≡ b → ltb long 70 ≡ b
      go true f =
          let k = ltb-true room 70 f in
          let h = ltb-false (room - 70) used roomy in
          lt-ltb long 70 (omega arith)
      go false f =
          let k = ltb-false room 70 f in
          let h = ltb-false (room - 70) used roomy in
          le-ltb long 70 (omega arith)

  -- and does not go past its end
  pub reply_inside : (s : State) (x : Sent) → used + length (reply_in room (answer room s x)) ≤ room
  reply_inside s x = go (ltb room 70) refl (reply_short room s x)
    where
      go : (b : Bool) → ltb room 70 ≡ b → length (cond b [] (reply (answer room s x))) ≤ 70
          → used + length (cond b [] (reply (answer room s x))) ≤ room
      go true f few = let h = ltb-false (room - 70) used roomy in omega arith
      go false f few =
          let k = ltb-false room 70 f in
          let h = ltb-false (room - 70) used roomy in
          omega arith

pub same_answer : (a b : ℕ) (s : State) (x : Sent) → ltb a 70 ≡ ltb b 70 → answer a s x ≡ answer b s x
unfolding answer
same_answer a b s x e = rw e

-- bytes laid over what is left of a buffer, as the code puts them back
pub put_rest : (out : List ℕ) (used : ℕ) (b : List ℕ) → used ≤ length out
    → put_mid used (length out - used) out (over b (take (length out - used) (drop used out))) ≡ splice out used b
unfolding splice
put_rest out used b h =
    let short : length (drop used out) ≤ length out - used = omega (arith, length-drop used out) in
    let none : drop (length out - used) (drop used out) ≡ [] = drop_of_length-le (drop used out) short in
    let rest : take (length out - used) (drop used out) ≡ drop used out = take_all (length out - used) (drop used out) short in
    ap (λ (r : List ℕ). take used out ++ r)
    (rw (none, rest) (append-nil (over b (drop used out))) ∙ ap (λ (r : List ℕ). b ++ r) (drop-drop (length b) used out))

-- ---- the loop

-- where the loop stands at v, begun at v₀: the lengths are as at the start, `known` is the number of the rules, and the
-- rest gives what the whole does
pub record Going (keep : Bool) (file : List ℕ) (v₀ : Serving) (known : ℕ) (v : Serving) : Type 0 where
  pub fast_long : length v.state.fast ≡ length v₀.state.fast
  pub slow_long : length v.state.slow ≡ length v₀.state.slow
  pub out_long : length v.buffer ≡ length v₀.buffer
  pub rules : known ≡ rules_of v.state
  pub inside : v.used ≤ length v₀.buffer
  pub rest : served_all keep (length v₀.buffer) (length file) v (messages_of (drop v.at file))
      ≡ served_all keep (length v₀.buffer) (length file) v₀ (messages_of (drop v₀.at file))

-- where messages stand after one more, and where the buffer is full
served_step : (keep : Bool) (room end : ℕ) (v : Serving) (x : Sent) (xs : List Sent) → full room v.used ≡ false
    → served_all keep room end v (x ∷ xs)
    ≡ served_all keep room end (served_one keep room v (passed end v.at x) (answer room v.state x)) xs
unfolding served_all
served_step keep room end v x xs h = rw h

served_full : (keep : Bool) (room end : ℕ) (v : Serving) (xs : List Sent) → full room v.used ≡ true → served_all keep room end v xs ≡ v
unfolding served_all
served_full keep room end v [] h = refl
served_full keep room end v (x ∷ xs) h = rw h

pub none_left : (file : List ℕ) (next : Next) → is_end next ≡ true → yielded file next ≡ []
none_left file (Message start len next) h = cc
none_left file Cut h = cc
none_left file End h = refl

same_reply : (a b : ℕ) (o p : Outcome Result) → ltb a 70 ≡ ltb b 70 → o ≡ p → reply_in a o ≡ reply_in b p
same_reply a b o p e f = rw (e, f)

ahead_inside : (keep : Bool) (used len room : ℕ) → used + len ≤ room → ahead keep used len ≤ room
ahead_inside true used len room h = h
ahead_inside false used len room h = omega arith

same_serving : {at at' used used' : ℕ} {s s' : State} {out out' : List ℕ} {n n' : Tally} {m m' : Bool}
    → at ≡ at' → used ≡ used' → s ≡ s' → out ≡ out' → n ≡ n' → m ≡ m' → serving at used s out n m ≡ serving at' used' s' out' n' m'
same_serving ea eu es eo en em = cc

module _ {keep : Bool} {file : List ℕ} {v₀ : Serving} {known : ℕ} {v : Serving} (q : Going keep file v₀ known v) where
  -- after a message, of which the reader says what follows: its reply laid into what is left of the buffer
  pub going_on : (next : Next) (d : Outcome Decision) (bs : List ℕ) (used' : ℕ) (moved' : Bool) (t' : Tables) (fast' slow' tail' out' : List ℕ) (n' : Tally)
      → let room = length v₀.buffer in
      let rest = length v.buffer - v.used in
      let tail = take rest (drop v.used v.buffer) in
      Due file v.at (full room v.used) next → is_end next ≡ false
      → Decided v.state (answer (length tail) v.state (sent_by file next)) tail bs d
      → t' ≡ settled_then v.state.tables d → lent fast' slow' tail' ≡ replied_by d bs (lent v.state.fast v.state.slow tail)
      → out' ≡ put_mid v.used rest v.buffer tail' → length tail' ≡ length tail
      → used' ≡ ahead keep v.used (reply_len (length tail) d)
      → n' ≡ counted v.tally (refused_then d) (laid_then d)
      → moved' ≡ (v.moved || moves_then d)
      → length fast' ≡ length v.state.fast → length slow' ≡ length v.state.slow
      → Going keep file v₀ known (serving (past_of (length file) next) used' (state_of t' fast' slow') out' n' moved')
  going_on next d bs used' moved' t' fast' slow' tail' out' n' due goes a et el eo lo eu en em lx ly =
      let room : ℕ = length v₀.buffer in
      let rest : ℕ = length v.buffer - v.used in
      let tail : List ℕ = take rest (drop v.used v.buffer) in
      let x : Sent = sent_by file next in
      let s' : State = state_of t' fast' slow' in
      let w = served a et el in
      let cut : rest ≤ length (drop v.used v.buffer) = omega (arith, length-drop v.used v.buffer) in
      let long : v.used + length tail ≡ room = omega (arith, length-take-le rest (drop v.used v.buffer) cut, q.inside, q.out_long) in
      let same = same_room room v.used due.roomy (length tail) long in
      let o₁ : Outcome Result = answer (length tail) v.state x in
      let o : Outcome Result = answer room v.state x in
      let is : o₁ ≡ o = same_answer (length tail) room v.state x same in
      let replies : reply_in (length tail) o₁ ≡ reply_in room o = same_reply (length tail) room o₁ o same is in
      let f = follows file v.at next due.found goes in
      let e_u : used' ≡ ahead keep v.used (length (reply_in room o)) =
      eu ∙ ap (ahead keep v.used) (reply_long a ∙ ap (λ (l : List ℕ). length l) replies) in
      let e_s : s' ≡ left v.state o = w.state_out ∙ ap (left v.state) is in
      let e_o : out' ≡ splice v.buffer v.used (reply_in room o) =
      eo
      ∙ ap (λ (l : List ℕ). put_mid v.used rest v.buffer l) (w.reply_out ∙ ap (λ (r : List ℕ). over r tail) replies)
      ∙ put_rest v.buffer v.used (reply_in room o) (omega (arith, q.inside, q.out_long)) in
      let e_n : n' ≡ counted v.tally (is_refusal o) (laid_by o) =
      en
      ∙ ap (λ (b : Bool). counted v.tally b (laid_then d)) (a.refused_is ∙ ap is_refusal is)
      ∙ ap (counted v.tally (is_refusal o)) (a.laid_is ∙ ap laid_by is) in
      let e_m : moved' ≡ (v.moved || moved_by o) = em ∙ ap (λ (b : Bool). v.moved || b) (a.moved_is ∙ ap moved_by is) in
      let one : serving (past_of (length file) next) used' s' out' n' moved' ≡ served_one keep room v (passed (length file) v.at x) o =
      same_serving f.past e_u e_s e_o e_n e_m in
      record {
        fast_long = lx ∙ q.fast_long;
        slow_long = ly ∙ q.slow_long;
        out_long = ap (λ (l : List ℕ). length l) eo ∙ same_len_mid v.used rest v.buffer tail' lo ∙ q.out_long;
        rules = q.rules ∙ sym (rules_kept room v.state x) ∙ ap rules_of (sym e_s);
        inside = rw e_u (ahead_inside keep v.used (length (reply_in room o)) room (reply_inside room v.used due.roomy v.state x));
        rest =
            ap (λ (u : Serving). served_all keep room (length file) u (messages_of (drop (past_of (length file) next) file))) one
            ∙ sym (served_step keep room (length file) v x (messages_of (drop (past_of (length file) next) file)) due.roomy)
            ∙ ap (served_all keep room (length file) v) (sym f.messages)
            ∙ q.rest;
      }

  -- at the end, or where the buffer is full
  pub going_none : (next : Next) → next ≡ due_at file v.at (full (length v₀.buffer) v.used) → is_end next ≡ true
      → v ≡ served_all keep (length v₀.buffer) (length file) v₀ (messages_of (drop v₀.at file))
  unfolding served_all
  going_none next e h = by (full (length v₀.buffer) v.used) refl e
    where
      by : (b : Bool) → full (length v₀.buffer) v.used ≡ b → next ≡ due_at file v.at b
          → v ≡ served_all keep (length v₀.buffer) (length file) v₀ (messages_of (drop v₀.at file))
      by true f e =
          sym (served_full keep (length v₀.buffer) (length file) v (messages_of (drop v.at file)) f) ∙ q.rest
      by false f e =
          let none : messages_of (drop v.at file) ≡ [] = reader_yields file v.at ∙ ap (yielded file) (sym e) ∙ none_left file next h in
          sym (ap (served_all keep (length v₀.buffer) (length file) v) none) ∙ q.rest
