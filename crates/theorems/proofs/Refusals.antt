-- Demand 1, in order: the number of a message; what a refusal leaves; one message, from the contracts; every turn of a
-- run; its tally.
use Prim.Native.Nat.{ℕ, ◌+◌, ◌≤◌, ◌<◌, min}
use mathlib.Core.Path.{◌≡◌, refl, sym, ap, ◌∙◌}
use mathlib.Core.Bool.{Bool, true, false, not, cond}
use mathlib.Core.List.{List, [], ◌∷◌}
use mathlib.Core.Logic.{◌≢◌}
use native.Mathlib.Omega.{arith}
use lib.ListN.{length}
use lib.Dec.{ltb, eqb}
use borrow.Author.Tests.{ltb-true, lt-ltb, ne_eqb}
use Rattle.tables.specs.Lists.{all, count}
use Rattle.tables.specs.Numbers.{accepted, short_buffer, message_numbers, answer_number}
use Rattle.tables.proofs.ListLaws.{all_listed}
use Rattle.steps.specs.Stores.{over}
use Rattle.steps.specs.Steps.{Outcome, refuse, accept, test, number_of}
use Rattle.steps.specs.Effects.{State, Result, left, laid_by}
use Rattle.steps.specs.Promises.{state_of}
use Rattle.steps.proofs.StepLaws.{step_number}
use Rattle.steps.specs.declared.Call.{Call}
use Rattle.messages.specs.declared.Tally.{Tally}
use Rattle.messages.specs.Promises.{sent_alone}
use Rattle.messages.specs.Replies.{reply, reply_in, up_to, counted, is_refusal}
use Rattle.messages.specs.Run.{Sent, asked, bytes_of, respond, answer, turn_of, left_by, messages_of, turns_of, end_of, replies, tally}
use Rattle.messages.specs.Forecast.{numbers_counted}
use Rattle.messages.proofs.TurnLaws.{answer_told}
use Rattle.messages.proofs.ParseLaws.{own_numbers, Known, bad, good, asked_known}
use Rattle.theorems.specs.Demand1.{allowed, refusal_in, refused_once, OneMessage, TurnObeys, next, TurnsObey}
use Rattle.theorems.specs.Demand1.{TallyObeys, WithinLimit, Demand1}

-- ---- the number

responded : (s : State) {a : Outcome Call} (bs : List ℕ) → Known a → allowed (number_of (respond s a bs)) ≡ true
unfolding all
responded s bs (bad {n} some own) = all_listed allowed own_numbers n refl own
responded s bs (good {c}) = step_number s c bs

module _ (room : ℕ) (s : State) (x : Sent) where
  pub answer_allowed : allowed (number_of (answer room s x)) ≡ true
  unfolding answer
  answer_allowed = behind (ltb room 70) (respond s (asked x) (bytes_of x)) (responded s (bytes_of x) (asked_known x))
    where
      behind : (b : Bool) (o : Outcome Result) → allowed (number_of o) ≡ true → allowed (number_of (test b short_buffer o)) ≡ true
      behind true o h = refl
      behind false o h = h

  -- so it is below 32, and a forecast has a count for it
  pub number_low : number_of (answer room s x) < numbers_counted
  unfolding all
  number_low =
      ltb-true (number_of (answer room s x)) numbers_counted
      (all_listed (λ (n : ℕ). ltb n numbers_counted) (accepted ∷ message_numbers) (number_of (answer room s x)) refl
      answer_allowed)

  answer_short : room < 70 → number_of (answer room s x) ≡ short_buffer
  unfolding answer
  answer_short h = rw (lt-ltb room 70 h)

-- ---- a refusal

module _ (s : State) where
  left_as_before : (o : Outcome Result) → number_of o ≢ accepted → left s o ≡ s
  left_as_before (refuse n) h = refl
  left_as_before (accept r) h = absurd (h refl)

none_laid : (o : Outcome Result) → number_of o ≢ accepted → laid_by o ≡ 0
none_laid (refuse n) h = refl
none_laid (accept r) h = absurd (h refl)

fixed : (room : ℕ) (o : Outcome Result) → number_of o ≢ accepted → reply_in room o ≡ refusal_in room (number_of o)
unfolding reply
fixed room (refuse n) h = refl
fixed room (accept r) h = absurd (h refl)

counted_once : (n : Tally) (number laid : ℕ) → n.laid ≤ 4294967295 → number ≢ accepted → laid ≡ 0
    → counted n (not (eqb number accepted)) laid ≡ refused_once n
unfolding up_to
counted_once n number laid low h z =
    let same : min (n.laid + 0) 4294967295 ≡ n.laid = omega arith in
    rw (ne_eqb number accepted h, z, same)

pub one_message : OneMessage
one_message t fast slow message out fast' slow' out' n n' r low k counts =
    record {
      in_table = rw k.number_told (answer_allowed (length out) s x);
      short = λ h. k.number_told ∙ answer_short (length out) s x h;
      unchanged = λ h. k.state_out ∙ left_as_before s o (told h);
      none_laid = λ h. k.laid_told ∙ none_laid o (told h);
      tallied = λ h. counts ∙ counted_once n (answer_number r.answer) r.laid low h (k.laid_told ∙ none_laid o (told h));
      fixed = λ h. k.reply_out ∙ ap (λ (l : List ℕ). over l out) (reply_is h);
      len_fixed = λ h. k.len_told ∙ ap length (reply_is h);
    }
  where
    s : State
    s = state_of t fast slow

    x : Sent
    x = sent_alone message

    o : Outcome Result
    o = answer (length out) s x

    told : answer_number r.answer ≢ accepted → number_of o ≢ accepted
    told h e = h (k.number_told ∙ e)

    reply_is : answer_number r.answer ≢ accepted → reply_in (length out) o ≡ refusal_in (length out) (answer_number r.answer)
    reply_is h = fixed (length out) o (told h) ∙ ap (refusal_in (length out)) (sym k.number_told)

-- ---- a run

module _ (room : ℕ) where
  turn_obeys : (s : State) (x : Sent) → TurnObeys room (turn_of room s x) (reply_in room (answer room s x)) (left_by room s x)
  turn_obeys s x =
      record {
        in_table = answer_allowed room s x;
        short = answer_short room s x;
        unchanged = left_as_before s (answer room s x);
        fixed = fixed room (answer room s x);
      }

  -- each later turn finds what the one before it left
  pub next_found : (xs : List Sent) (s : State) → next (turns_of room s xs) (end_of room s xs) ≡ s
  unfolding turns_of end_of
  next_found [] s = refl
  next_found (x ∷ xs) s = refl

  pub turns_obey : (xs : List Sent) (s : State) → TurnsObey room (turns_of room s xs) (replies room (turns_of room s xs)) (end_of room s xs)
  unfolding turns_of end_of
  turns_obey [] s = tt
  turns_obey (x ∷ xs) s =
      let s' = left_by room s x in
      (rw (next_found xs s') (turn_obeys s x), turns_obey xs s')

-- what is laid is laid by an accepted one
laid_accepted : (o : Outcome Result) → laid_by o ≡ cond (not (eqb (number_of o) accepted)) 0 (laid_by o)
laid_accepted (refuse n) = go (eqb n accepted)
  where
    go : (b : Bool) → ◌≡◌ {A = ℕ} 0 (cond (not b) 0 0)
    go true = refl
    go false = refl
laid_accepted (accept r) = refl

pub tally_obeys : (room : ℕ) (xs : List Sent) (s : State) (n : Tally) → WithinLimit n
    → TallyObeys (turns_of room s xs) n (tally (turns_of room s xs) n)
unfolding turns_of tally up_to count
tally_obeys room [] s n low =
    record {
      messages_counted = omega (arith, low.0);
      refusals_counted = omega (arith, low.1);
      laid_counted = omega (arith, low.2);
    }
tally_obeys room (x ∷ xs) s n low =
    let o = answer room s x in
    let n₁ = counted n (is_refusal o) (laid_by o) in
    let k = tally_obeys room xs (left_by room s x) n₁ (omega arith, omega arith, omega arith) in
    let refused = ap {B = ℕ} (λ (b : Bool). cond b 1 0) (answer_told room s x) in
    record {
      messages_counted = omega (arith, k.messages_counted);
      refusals_counted = omega (arith, k.refusals_counted, refused);
      laid_counted = omega (arith, k.laid_counted, laid_accepted o);
    }

pub demand1 : Demand1
demand1 =
    record {
      message = one_message;
      runs = λ room file s. record { starts = next_found room (messages_of file) s; turns = turns_obey room (messages_of file) s };
      tallies = λ room file s n low. tally_obeys room (messages_of file) s n low;
    }
