-- Messages that are answered one by one, each by itself, come to the run over their file.
use Prim.Native.Nat.{ℕ, ◌-◌, ◌≤◌}
use mathlib.Core.Path.{◌≡◌, refl, sym, ◌∙◌}
use mathlib.Core.Bool.{not}
use mathlib.Core.List.{List, ◌∷◌}
use native.Mathlib.Omega.{arith}
use lib.ListN.{length, take, drop, length-drop}
use lib.Seq.{take_all}
use lib.Dec.{eqb}
use borrow.Author.Tests.{ne_eqb}
use Rattle.std.specs.Prelude.{Ok, Err, is_err}
use Rattle.std.specs.Prelude.{Result as Sum}
use Rattle.tables.specs.declared.refusals.Refusal.{Refusal}
use Rattle.tables.specs.Numbers.{refusal_number, answer_number}
use Rattle.steps.proofs.GuardLaws.{refusal_some}
use Rattle.steps.specs.Effects.{State}
use Rattle.messages.specs.declared.Next.{Next}
use Rattle.messages.specs.declared.Next.TheVariants.{Message, Cut, End}
use Rattle.messages.specs.declared.Tally.{Tally}
use Rattle.messages.specs.declared.Answered.{Answered}
use Rattle.messages.specs.Messages.{next_at}
use Rattle.messages.specs.Replies.{counted}
use Rattle.messages.specs.Run.{Sent, answer, messages_of, yielded, run}
use Rattle.messages.specs.Promises.{sent_by, sent_alone, Replied}
use Rattle.messages.proofs.ReaderLaws.{reader_yields}
use Rattle.messages.proofs.TurnLaws.{answer_told}
use Rattle.timing.specs.Timed.{AnswersEnded}
use Rattle.timing.proofs.RestLaws.{Follows, Rest, rest_on, rest_none}

-- ---- the first message of what is left of the file

first_sent : (l : List ℕ) (n : Next) (x : Sent) (xs : List Sent) → yielded l n ≡ x ∷ xs → sent_by l n ≡ x
first_sent l (Message start len next) x xs e = cc
first_sent l Cut x xs e = cc
first_sent l End x xs e = cc

sent_here : (file : List ℕ) (at : ℕ) (x : Sent) (xs : List Sent) → messages_of (drop at file) ≡ x ∷ xs
    → sent_alone (take (length file - at) (drop at file)) ≡ x
sent_here file at x xs e =
    let d = length-drop at file in
    rw (take_all (length file - at) (drop at file) (omega arith))
    (first_sent (drop at file) (next_at (drop at file) 0) x xs (sym (reader_yields (drop at file) 0) ∙ e))

-- ---- the loop

-- an answer that is a refusal has a number
told : (r : Sum (Unit {0}) Refusal) → is_err r ≡ not (eqb (answer_number r) 0)
told (Ok x) = refl
told (Err refusal) = rw (ne_eqb (refusal_number refusal) 0 (refusal_some refusal))

-- where the loop stands at a place in the file: the lengths are as at the start
pub record Going (s₀ : State) (file out₀ : List ℕ) (n₀ : Tally) (at : ℕ) (s : State) (out : List ℕ) (n : Tally) : Type 0 where
  pub in_file : at ≤ length file
  pub fast_long : length s.fast ≡ length s₀.fast
  pub slow_long : length s.slow ≡ length s₀.slow
  pub out_long : length out ≡ length out₀
  pub rest : Rest (length out₀) file s₀ out₀ n₀ at s out n

module _ {s₀ : State} {file out₀ : List ℕ} {n₀ : Tally} {at : ℕ} {s : State} {out : List ℕ} {n : Tally} (q : Going s₀ file out₀ n₀ at s out n) where
  -- after the message x that comes next
  pub going_on : (x : Sent) (next : ℕ) (s' : State) (out' : List ℕ) (n' : Tally) (a : Answered) → Follows file at x next
      → Replied s (answer (length out) s (sent_alone (take (length file - at) (drop at file)))) out s' out' a
      → length s'.fast ≡ length s.fast → length s'.slow ≡ length s.slow → length out' ≡ length out
      → n' ≡ counted n (is_err a.answer) a.laid → Going s₀ file out₀ n₀ next s' out' n'
  going_on x next s' out' n' a f v lx ly lo en =
      let w = rw (sent_here file at x (messages_of (drop next file)) f.is) at v in
      record {
        in_file = f.inside;
        fast_long = lx ∙ q.fast_long;
        slow_long = ly ∙ q.slow_long;
        out_long = lo ∙ q.out_long;
        rest =
            rest_on (length out₀) file s₀ out₀ n₀ at s out n q.rest x next s' out' n' f
            (rw q.out_long at w.state_out) (rw q.out_long at w.reply_out)
            (en ∙ rw (← q.out_long, told a.answer, answer_told (length out) s x, w.number_told, w.laid_told));
      }

  -- at the end
  pub going_none : End ≡ next_at file at → AnswersEnded (run (length out₀) file s₀) n₀ out₀ s out (record { tables = s.tables; tally = n })
  going_none e =
      let w = rest_none (length out₀) file s₀ out₀ n₀ at s out n q.rest e in
      record {
        state_out = w.state_is;
        buffer_out = w.buffer_is;
        tally_out = w.tally_is;
      }
