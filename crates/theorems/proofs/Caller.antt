-- Demand 3 as a caller of `fill` holds it.
use Prim.Native.Nat.{ℕ}
use mathlib.Core.Path.{◌≡◌, refl, sym, ap, ap₂, ◌∙◌, subst}
use mathlib.Core.Bool.{Bool, not, ◌&&◌, cond}
use mathlib.Core.List.{List, [], ◌∷◌, ◌++◌, map}
use native.Mathlib.Omega.{arith}
use lib.ListN.{drop}
use lib.Seq.{drop-drop}
use lib.Dec.{eqb}
use Rattle.tables.specs.Numbers.{nothing_current}
use Rattle.tables.specs.Model.{fresh_tables}
use Rattle.steps.specs.Effects.{State}
use Rattle.steps.specs.Promises.{state_of}
use Rattle.messages.specs.Replies.{reply_in}
use Rattle.messages.specs.Run.{Sent, whole, asked, Turn, messages_of, turns_of, end_of, replies, joined_replies}
use Rattle.messages.proofs.JoinLaws.{parts_run, parts_reach, replies_apart}
use Rattle.theorems.specs.Flat.{none, Answer}
use Rattle.theorems.specs.Demand3.{reply_number, sent_in, elevens, flat_answers, is_answered, answer_in, run_answers, AgreesOn}
use Rattle.theorems.specs.Caller.{number_taken, eleven_taken, answers_taken, Demand3Caller, CallsEnough}
use Rattle.theorems.proofs.Whole.{demand3_on}

-- a reply without its length: its number and its bytes are where they were
abbrev apart : List ℕ → Sent
apart r = whole (drop 2 r)

number_apart : (r : List ℕ) → number_taken (apart r) ≡ reply_number r
number_apart [] = refl
number_apart (a ∷ []) = refl
number_apart (a ∷ b ∷ r) = refl

bytes_apart : (r : List ℕ) → drop 4 (drop 2 r) ≡ drop 6 r
bytes_apart r = drop-drop 4 2 r

elevens_apart : (ts : List Turn) → map eleven_taken (map apart (replies 70 ts)) ≡ elevens 70 ts
elevens_apart [] = refl
elevens_apart (t ∷ ts) =
    ap₂ (λ (n : ℕ) (bs : List Bool). eqb n nothing_current ∷ bs) (number_apart (reply_in 70 t.outcome)) (elevens_apart ts)

answers_apart : (ts : List Turn) → answers_taken (map sent_in ts) (map apart (replies 70 ts)) ≡ run_answers 70 ts
unfolding answers_taken run_answers
answers_apart [] = refl
answers_apart (t ∷ ts) =
    let r : List ℕ = reply_in 70 t.outcome in
    rw (number_apart r, bytes_apart r)
    (ap (λ (l : List Answer). cond (not (eqb (reply_number r) nothing_current) && is_answered (asked t.sent)) (answer_in r ∷ []) [] ++ l) (answers_apart ts))

-- the two lists of the demand, by the joined replies of the messages xs alone
pub held_answers : (p k : ℕ) (s s' : State) (xs : List Sent) → AgreesOn p k 70 xs (record { turns = turns_of 70 s xs; final = s' })
    → let rs = messages_of (joined_replies 70 (turns_of 70 s xs)) in flat_answers none xs (map eleven_taken rs) ≡ answers_taken xs rs
held_answers p k s s' xs agrees =
    let ts : List Turn = turns_of 70 s xs in
    let told = replies_apart s xs in
    ap (λ (rs : List Sent). flat_answers none xs (map eleven_taken rs)) told
    ∙ ap (flat_answers none xs) (elevens_apart ts)
    ∙ agrees.answers
    ∙ sym (answers_apart ts)
    ∙ ap (λ (ys : List Sent). answers_taken ys (map apart (replies 70 ts))) agrees.messages
    ∙ ap (answers_taken xs) (sym told)

pub demand3_caller : Demand3Caller
demand3_caller p s fast slow file n ks hp hs lp ls calls h =
    let s₀ : State = state_of (fresh_tables p s) fast slow in
    let q = parts_run file s₀ n ks calls h in
    let xs : List Sent = messages_of file in
    let agrees = demand3_on 70 p s fast slow xs hp hs lp ls (omega arith) in
    record {
      replies_taken = q.0;
      replies_apart = ap messages_of q.0 ∙ replies_apart s₀ xs;
      answers_as_taken =
          subst (λ (l : List ℕ). flat_answers none xs (map eleven_taken (messages_of l)) ≡ answers_taken xs (messages_of l))
          (sym q.0) (held_answers p s s₀ (end_of 70 s₀ xs) xs agrees);
      state_as_left = q.1;
      tally_as_left = q.2;
      agrees = agrees;
    }

pub calls_enough : CallsEnough
calls_enough file s₀ n ks calls h = parts_reach file 0 s₀ n ks calls (omega arith)
