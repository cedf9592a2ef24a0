-- One message, in order: no number of its own bytes is 0; a refusal is told by its number; what a message leaves that is
-- turned back or decided on, as `answer` and `run` have it; the reader's answer as a message; the rules are kept; tables
-- that did not move; a reply is short.
use Prim.Native.Nat.{ℕ, ◌+◌, ◌≤◌, zero-le}
use mathlib.Core.Path.{◌≡◌, refl, sym, ap, ◌∙◌}
use mathlib.Core.Bool.{Bool, true, false, not, cond}
use mathlib.Core.List.{List}
use native.Mathlib.Omega.{arith}
use lib.ListN.{length}
use lib.Dec.{ltb, eqb}
use borrow.Author.Tests.{ltb-false, le-ltb, eqb-true, eqb-false, ne_eqb}
use Rattle.std.specs.Prelude.{Option, Some, None, is_some}
use Rattle.tables.specs.declared.Change.{Change}
use Rattle.tables.specs.declared.Tables.{Tables}
use Rattle.tables.specs.Numbers.{accepted, short_buffer, answer_number}
use Rattle.steps.specs.declared.Call.{Call}
use Rattle.steps.specs.declared.Decision.{Decision}
use Rattle.steps.specs.Stores.{part, over}
use Rattle.steps.specs.Steps.{Outcome, refuse, accept, test, number_of, rules_number, decide_any}
use Rattle.steps.specs.Effects.{State, Result, step, left, moved_by, laid_by, data_of}
use Rattle.steps.specs.Promises.{state_of, decision_of, moved_to, Lent, lent}
use Rattle.steps.proofs.StepLaws.{carries, step_refused, step_unruled, step_ruled, step_unmoved, data_short, step_told}
use Rattle.messages.specs.declared.Next.{Next}
use Rattle.messages.specs.declared.Next.TheVariants.{Message, Cut, End}
use Rattle.messages.specs.declared.Answered.{Answered}
use Rattle.messages.specs.Messages.{write_bytes}
use Rattle.messages.specs.Replies.{reply_in, is_refusal}
use Rattle.messages.specs.Run.{Sent, asked, bytes_of, respond, answer, left_by}
use Rattle.messages.specs.Promises.{sent_by, Replied}
use Rattle.messages.specs.Private.{message_bytes, asked_at, unless_known, early, and_then, RoomFor, replied_by, refused_then, laid_then, data_len, reply_len, moves_then, settled_then}
use Rattle.messages.proofs.ParseLaws.{Known, bad, asked_known}
use Rattle.messages.proofs.ReplyLaws.{part_long, carried_reply, reply_length}

-- the number of the rules on a state
abbrev pub rules_of : State → ℕ
rules_of s = rules_number s.tables (length s.fast) (length s.slow)

-- ---- a message's own number

-- its own bytes give no number 0
asked_some : (x : Sent) (n : ℕ) → asked x ≡ refuse n → n ≡ accepted → ⊥
asked_some x n e z = go (asked x) (asked_known x) e
  where
    go : (m : Outcome Call) → Known m → m ≡ refuse n → ⊥
    go (refuse k) (bad some few) e = let w : k ≡ n = cc in omega arith
    go (accept c) k e = cc

-- a refusal is told by its number
pub answer_told : (room : ℕ) (s : State) (x : Sent) → is_refusal (answer room s x) ≡ not (eqb (number_of (answer room s x)) 0)
unfolding answer
answer_told room s x = by (ltb room 70) (asked x) refl
  where
    go : (o : Outcome Result) → ((n : ℕ) → o ≡ refuse n → n ≡ accepted → ⊥) → is_refusal o ≡ not (eqb (number_of o) 0)
    go (refuse n) h = rw (ne_eqb n 0 (h n refl))
    go (accept r) h = refl

    by : (b : Bool) (m : Outcome Call) → asked x ≡ m
        → is_refusal (test b short_buffer (respond s m (bytes_of x))) ≡ not (eqb (number_of (test b short_buffer (respond s m (bytes_of x)))) 0)
    by true m e = refl
    by false (refuse n) e = rw (ne_eqb n 0 (asked_some x n e))
    by false (accept c) e = go (step s c (bytes_of x)) (step_told s c (bytes_of x))

-- ---- what a message leaves

-- on state s, of a message that comes to o and was decided to be d, with a write's bytes bs and a buffer: what the code
-- reads of d
pub record Decided (s : State) (o : Outcome Result) (out bs : List ℕ) (d : Outcome Decision) : Type 0 where
  pub room : RoomFor out d
  pub number_is : number_of d ≡ number_of o
  pub refused_is : refused_then d ≡ is_refusal o
  pub laid_is : laid_then d ≡ laid_by o
  pub len_is : data_len d ≡ length (data_of o)
  pub moved_is : moves_then d ≡ moved_by o
  pub tables_is : settled_then s.tables d ≡ (left s o).tables
  pub left_is : replied_by d bs (lent s.fast s.slow out)
      ≡ lent (left s o).fast (left s o).slow (over (reply_in (length out) o) out)

-- turned back
back : (s : State) (out bs : List ℕ) (n : ℕ) → Decided s (refuse n) out bs (refuse n)
back s out bs n =
    record {
      room = tt;
      number_is = refl;
      refused_is = refl;
      laid_is = refl;
      len_is = refl;
      moved_is = refl;
      tables_is = refl;
      left_is = refl;
    }

is_accepted : (o : Outcome Result) → ((n : ℕ) → o ≡ refuse n → n ≡ accepted → ⊥) → number_of o ≡ accepted → false ≡ is_refusal o
is_accepted (refuse n) some e = absurd (some n refl e)
is_accepted (accept r) some e = refl

-- a step
stepping : (s : State) (c : Call) (out bs : List ℕ) → 70 ≤ length out → (d : Outcome Decision)
    → d ≡ decision_of s.tables c (decide_any s.tables (length s.fast) (length s.slow) c (length bs)) → Decided s (step s c bs) out bs d
stepping s c out bs roomy (refuse n) e = rw (step_refused s c bs e) (back s out bs n)
stepping s c out bs roomy (accept d) e =
    let k = carries s c bs (part out 6 64) d (omega (arith, part_long out roomy)) e in
    record {
      room = record { room = roomy; few = rw k.len_is (data_short s c bs) };
      number_is = sym k.accepted_is;
      refused_is = is_accepted (step s c bs) (step_told s c bs) k.accepted_is;
      laid_is = k.laid_is;
      len_is = k.len_is;
      moved_is = k.moved_is;
      tables_is = k.tables_is;
      left_is = rw (le-ltb (length out) 70 roomy) (carried_reply s c bs out d roomy k);
    }

-- a message that is turned back early: `known` is what the rules were found to give
pub served_early : (s : State) (x : Sent) (out bs : List ℕ) (known n : ℕ) → bs ≡ bytes_of x → ((known ≡ accepted → ⊥) → rules_of s ≡ known)
    → early (asked x) known (length out) ≡ refuse n → Decided s (answer (length out) s x) out bs (refuse n)
unfolding answer
served_early s x out bs known n eb rules = by (ltb (length out) 70) (asked x)
  where
    by : (b : Bool) (m : Outcome Call) → cond b (refuse short_buffer) (unless_known known m) ≡ refuse n
        → Decided s (test b short_buffer (respond s m (bytes_of x))) out bs (refuse n)
    by true m e = let same : short_buffer ≡ n = cc in rw (← same) (back s out bs short_buffer)
    by false (refuse k) e = let same : k ≡ n = cc in rw (← same) (back s out bs k)
    by false (accept c) e = on (eqb known accepted) refl e
      where
        on : (b : Bool) → eqb known accepted ≡ b → cond b (accept c) (refuse known) ≡ refuse n
            → Decided s (step s c (bytes_of x)) out bs (refuse n)
        on true g e = cc
        on false g e =
            let same : known ≡ n = cc in
            let some = eqb-false known accepted g in
            rw (← same) (rw (step_unruled s c (bytes_of x) known (rules some) some) (back s out bs known))

-- one that is not is a step: the buffer has room, and the rules are kept
pub called : (s : State) (x : Sent) (room known : ℕ) (c : Call) → early (asked x) known room ≡ accept c
    → (70 ≤ room) × (known ≡ accepted) × (answer room s x ≡ step s c (bytes_of x))
unfolding answer
called s x room known c = by (ltb room 70) refl (asked x)
  where
    by : (b : Bool) → ltb room 70 ≡ b → (m : Outcome Call) → cond b (refuse short_buffer) (unless_known known m) ≡ accept c
        → (70 ≤ room) × (known ≡ accepted) × (test b short_buffer (respond s m (bytes_of x)) ≡ step s c (bytes_of x))
    by true g m e = cc
    by false g (refuse k) e = cc
    by false g (accept d) e = on (eqb known accepted) refl e
      where
        on : (b : Bool) → eqb known accepted ≡ b → cond b (accept d) (refuse known) ≡ accept c
            → (70 ≤ room) × (known ≡ accepted) × (step s d (bytes_of x) ≡ step s c (bytes_of x))
        on true h e = (ltb-false room 70 g, eqb-true known accepted h, let same : d ≡ c = cc in rw same refl)
        on false h e = cc

-- a message, turned back or decided on by f
pub decided : (s : State) (x : Sent) (out bs : List ℕ) (known : ℕ) (f : Call → Outcome Decision) → bs ≡ bytes_of x
    → ((known ≡ accepted → ⊥) → rules_of s ≡ known)
    → (known ≡ accepted → (c : Call)
    → f c ≡ decision_of s.tables c (decide_any s.tables (length s.fast) (length s.slow) c (length bs)))
    → (d : Outcome Decision) → d ≡ and_then (early (asked x) known (length out)) f
    → Decided s (answer (length out) s x) out bs d
decided s x out bs known f eb rules decides d e = rw e (by (early (asked x) known (length out)) refl)
  where
    by : (m : Outcome Call) → early (asked x) known (length out) ≡ m → Decided s (answer (length out) s x) out bs (and_then m f)
    by (refuse n) g = served_early s x out bs known n eb rules g
    by (accept c) g =
        let (roomy, kept, is) = called s x (length out) known c g in
        rw (is, ← eb) (stepping s c out bs roomy (f c) (decides kept c))

-- what is known where the code has carried it out and put its change into the tables
pub record Served (s : State) (o : Outcome Result) (out : List ℕ) (s' : State) (out' : List ℕ) : Type 0 where
  pub state_out : s' ≡ left s o
  pub reply_out : out' ≡ over (reply_in (length out) o) out

pub served : {s : State} {o : Outcome Result} {out bs : List ℕ} {d : Outcome Decision} → Decided s o out bs d
    → {t' : Tables} {fast' slow' out' : List ℕ} → t' ≡ settled_then s.tables d
    → lent fast' slow' out' ≡ replied_by d bs (lent s.fast s.slow out) → Served s o out (state_of t' fast' slow') out'
served {s} {o} {out} q {t'} {fast'} {slow'} {out'} et el =
    let e : lent fast' slow' out' ≡ lent (left s o).fast (left s o).slow (over (reply_in (length out) o) out) = el ∙ q.left_is in
    record {
      state_out =
          ap (λ (l : Lent). state_of t' l.fast l.slow) e
          ∙ ap (λ (t : Tables). state_of t (left s o).fast (left s o).slow) (et ∙ q.tables_is);
      reply_out = ap (λ (l : Lent). l.out) e;
    }

-- the length of its reply
pub reply_long : {s : State} {o : Outcome Result} {out bs : List ℕ} {d : Outcome Decision} → Decided s o out bs d
    → reply_len (length out) d ≡ length (reply_in (length out) o)
reply_long {s} {o} {out} q = rw q.len_is (reply_length (length out) o)

-- the data has 64 bytes at the most
pub data_few : (out : List ℕ) (d : Outcome Decision) → RoomFor out d → data_len d ≤ 64
data_few out (refuse n) k = zero-le
data_few out (accept d) k = k.few

-- where a decision has no change, the tables with it put into them are as they were
pub unsettled : (t : Tables) (change : Option Change) → is_some change ≡ false → t ≡ moved_to t change
unsettled t None e = refl
unsettled t (Some x) e = cc

-- what `answer` promises
pub replied : {s : State} {o : Outcome Result} {out bs : List ℕ} {d : Outcome Decision} → Decided s o out bs d
    → {t' : Tables} {fast' slow' out' : List ℕ} → (r : Answered) → t' ≡ settled_then s.tables d
    → lent fast' slow' out' ≡ replied_by d bs (lent s.fast s.slow out)
    → answer_number r.answer ≡ number_of d → r.len ≡ reply_len (length out) d → r.laid ≡ laid_then d → r.moved ≡ moves_then d
    → Replied s o out (state_of t' fast' slow') out' r
replied q r et el en em ei ev =
    let w = served q et el in
    record {
      number_told = en ∙ q.number_is;
      len_told = em ∙ reply_long q;
      laid_told = ei ∙ q.laid_is;
      state_out = w.state_out;
      reply_out = w.reply_out;
      moved_told = ev ∙ q.moved_is;
    }

-- ---- the message that the reader yields, as the code comes to it

pub asked_by : (l m : List ℕ) (next : Next) (p : Outcome Call) → m ≡ message_bytes l next → p ≡ asked_at next m → p ≡ asked (sent_by l next)
asked_by l m next p f g = g ∙ rw f (by next)
  where
    by : (x : Next) → asked_at x (message_bytes l x) ≡ asked (sent_by l x)
    by (Message start len next) = refl
    by Cut = refl
    by End = refl

pub bytes_by : (l m : List ℕ) (next : Next) → m ≡ message_bytes l next → write_bytes m ≡ bytes_of (sent_by l next)
bytes_by l m next f = rw f (by next)
  where
    by : (x : Next) → write_bytes (message_bytes l x) ≡ bytes_of (sent_by l x)
    by (Message start len next) = refl
    by Cut = refl
    by End = refl

-- ---- the rules

-- no message changes their number
pub rules_kept : (room : ℕ) (s : State) (x : Sent) → rules_of (left_by room s x) ≡ rules_of s
unfolding answer
rules_kept room s x = by (ltb room 70) (asked x)
  where
    go : (c : Call) (b : Bool) → eqb (rules_of s) 0 ≡ b → rules_of (left s (step s c (bytes_of x))) ≡ rules_of s
    go c true e = let k = eqb-true (rules_of s) 0 e in step_ruled s c (bytes_of x) k ∙ sym k
    go c false e = ap (λ (o : Outcome Result). rules_of (left s o)) (step_unruled s c (bytes_of x) (rules_of s) refl (eqb-false (rules_of s) 0 e))

    by : (b : Bool) (m : Outcome Call) → rules_of (left s (test b short_buffer (respond s m (bytes_of x)))) ≡ rules_of s
    by true m = refl
    by false (refuse n) = refl
    by false (accept c) = go c (eqb (rules_of s) 0) refl

-- ---- the tables

-- a message that did not move them leaves those that came in
pub unmoved : (room : ℕ) (s : State) (x : Sent) → moved_by (answer room s x) ≡ false → (left_by room s x).tables ≡ s.tables
unfolding answer
unmoved room s x = by (ltb room 70) (asked x)
  where
    by : (b : Bool) (m : Outcome Call)
        → moved_by (test b short_buffer (respond s m (bytes_of x))) ≡ false → (left s (test b short_buffer (respond s m (bytes_of x)))).tables ≡ s.tables
    by true m e = refl
    by false (refuse n) e = refl
    by false (accept c) e = step_unmoved s c (bytes_of x) e

-- ---- a reply has 70 bytes at the most

pub reply_short : (room : ℕ) (s : State) (x : Sent) → length (reply_in room (answer room s x)) ≤ 70
unfolding answer
reply_short room s x =
    let k = reply_length room (answer room s x) in
    let few = by (ltb room 70) (asked x) in
    rw (← k) (under (ltb room 70) few)
  where
    by : (b : Bool) (m : Outcome Call) → length (data_of (test b short_buffer (respond s m (bytes_of x)))) ≤ 64
    by true m = zero-le
    by false (refuse n) = zero-le
    by false (accept c) = data_short s c (bytes_of x)

    under : (b : Bool) {n : ℕ} → n ≤ 64 → cond b 0 (6 + n) ≤ 70
    under true h = zero-le
    under false h = omega arith
