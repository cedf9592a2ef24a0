-- What is left of a run at a place of its file: past a message and at the end.
use Prim.Native.Nat.{ℕ, ◌≤◌, ◌<◌}
use mathlib.Core.Bool.{false}
use mathlib.Core.Path.{◌≡◌, refl, ◌∙◌}
use mathlib.Core.List.{List, [], ◌∷◌}
use lib.ListN.{length, drop}
use Rattle.steps.specs.Stores.{part, over}
use Rattle.steps.specs.Effects.{State, left, laid_by}
use Rattle.messages.specs.declared.Next.{Next}
use Rattle.messages.specs.declared.Next.TheVariants.{Message, Cut, End}
use Rattle.messages.specs.declared.Tally.{Tally}
use Rattle.messages.specs.Messages.{next_at}
use Rattle.messages.specs.Replies.{reply_in, counted, is_refusal}
use Rattle.messages.specs.Run.{Sent, cut, whole, answer, left_by, messages_of, turns_of, end_of, buffer, tally}
use Rattle.messages.specs.Promises.{sent_by}
use Rattle.messages.specs.Private.{is_end, past_of}
use Rattle.messages.proofs.ReaderLaws.{reader_yields}
use Rattle.messages.proofs.RunLaws.{follows as followed}

-- a message x at a place of the file, and the place past it
pub record Follows (file : List ℕ) (at : ℕ) (x : Sent) (next : ℕ) : Type 0 where
  pub inside : next ≤ length file
  pub further : at < next
  pub is : messages_of (drop at file) ≡ x ∷ messages_of (drop next file)

module _ (file : List ℕ) (at : ℕ) where
  -- what the reader yields there, where the file does not end
  reads : (n : Next) → n ≡ next_at file at → is_end n ≡ false → Follows file at (sent_by file n) (past_of (length file) n)
  reads n e h = let f = followed file at n e h in record { inside = f.inside; further = f.further; is = f.messages }

  pub follows_message : (start len next : ℕ) → Message start len next ≡ next_at file at
      → Follows file at (whole (part file start len)) next
  follows_message start len next e = reads (Message start len next) e refl

  -- one cut short ends the file
  pub follows_cut : Cut ≡ next_at file at → Follows file at cut (length file)
  follows_cut e = reads Cut e refl

-- from state s, buffer out and tally n at a place of the file, the rest of the run gives what the whole run does
pub record Rest (room : ℕ) (file : List ℕ) (s₀ : State) (out₀ : List ℕ) (n₀ : Tally) (at : ℕ) (s : State) (out : List ℕ) (n : Tally) : Type 0 where
  pub same_end : end_of room s (messages_of (drop at file)) ≡ end_of room s₀ (messages_of file)
  pub same_buffer : buffer room (turns_of room s (messages_of (drop at file))) out ≡ buffer room (turns_of room s₀ (messages_of file)) out₀
  pub same_tally : tally (turns_of room s (messages_of (drop at file))) n ≡ tally (turns_of room s₀ (messages_of file)) n₀

-- what the whole run gives
pub record Ended (room : ℕ) (file : List ℕ) (s₀ : State) (out₀ : List ℕ) (n₀ : Tally) (s : State) (out : List ℕ) (n : Tally) : Type 0 where
  pub state_is : s ≡ end_of room s₀ (messages_of file)
  pub buffer_is : out ≡ buffer room (turns_of room s₀ (messages_of file)) out₀
  pub tally_is : n ≡ tally (turns_of room s₀ (messages_of file)) n₀

pub rest_all : (room : ℕ) (file : List ℕ) (s : State) (out : List ℕ) (n : Tally) → Rest room file s out n 0 s out n
rest_all room file s out n = record { same_end = refl; same_buffer = refl; same_tally = refl }

module _ (room : ℕ) (file : List ℕ) (s₀ : State) (out₀ : List ℕ) (n₀ : Tally) (at : ℕ) (s : State) (out : List ℕ) (n : Tally)
    (q : Rest room file s₀ out₀ n₀ at s out n) where
  -- past a message x, of which the reader says what is left
  module _ (x : Sent) (xs : List Sent) (follows : messages_of (drop at file) ≡ x ∷ xs) where
    end_after : end_of room (left_by room s x) xs ≡ end_of room s₀ (messages_of file)
    unfolding end_of
    end_after = rw follows at q.same_end

    buffer_after : buffer room (turns_of room (left_by room s x) xs) (over (reply_in room (answer room s x)) out)
        ≡ buffer room (turns_of room s₀ (messages_of file)) out₀
    unfolding turns_of buffer
    buffer_after = rw follows at q.same_buffer

    tally_after : tally (turns_of room (left_by room s x) xs) (counted n (is_refusal (answer room s x)) (laid_by (answer room s x)))
        ≡ tally (turns_of room s₀ (messages_of file)) n₀
    unfolding turns_of tally
    tally_after = rw follows at q.same_tally

  pub rest_on : (x : Sent) (next : ℕ) (s' : State) (out' : List ℕ) (n' : Tally) → Follows file at x next
      → let o = answer room s x in
      s' ≡ left s o → out' ≡ over (reply_in room o) out → n' ≡ counted n (is_refusal o) (laid_by o)
      → Rest room file s₀ out₀ n₀ next s' out' n'
  rest_on x next s' out' n' f es eo en =
      record {
        same_end = rw es (end_after _ _ f.is);
        same_buffer = rw (es, eo) (buffer_after _ _ f.is);
        same_tally = rw (es, en) (tally_after _ _ f.is);
      }

  pub rest_none : End ≡ next_at file at → Ended room file s₀ out₀ n₀ s out n
  unfolding end_of turns_of buffer tally
  rest_none e =
      let none : messages_of (drop at file) ≡ [] = reader_yields file at ∙ rw (← e) in
      record {
        state_is = rw none at q.same_end;
        buffer_is = rw none at q.same_buffer;
        tally_is = rw none at q.same_tally;
      }
