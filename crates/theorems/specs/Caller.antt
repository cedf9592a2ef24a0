-- Demand 3 as a caller of `fill` holds it: what it took out of its reply buffers, and the tables, stores and tally that
-- it has at the end.
use Rattle.std.specs.Prelude.{ℕ, ◌*◌, ◌≤◌, ◌≡◌, Bool, not, ◌&&◌, cond, List, [], ◌∷◌, ◌++◌, map, length, drop, eqb}
use Rattle.tables.specs.Numbers.{nothing_current}
use Rattle.tables.specs.Model.{fresh_tables}
use Rattle.steps.specs.Effects.{State}
use Rattle.steps.specs.Promises.{state_of}
use Rattle.messages.specs.declared.Tally.{Tally}
use Rattle.messages.specs.Run.{Sent, cut, whole, asked, messages_of, Run, run, replies, tally, joined_replies}
use Rattle.messages.specs.Promises.{FillCall, FillCalls, emptied, reached, state_left, tally_left}
use Rattle.stations.specs.Reader.{number_in, data_in}
use Rattle.theorems.specs.Flat.{none, Answer}
use Rattle.theorems.specs.Demand3.{flat_answers, is_answered, Agrees}

-- ---- a reply among the bytes that the caller took, as its own L tells it from the next: m are the bytes after that
-- length

-- the number of a reply, its fourth byte, as the reply reader of request [4] has it
abbrev pub number_taken : Sent → ℕ
number_taken cut = 0
number_taken (whole m) = number_in m

abbrev pub eleven_taken : Sent → Bool
eleven_taken x = eqb (number_taken x) nothing_current

-- the answer that a reply gives: its number, and the bytes after its first six
abbrev pub answer_taken : Sent → Answer
answer_taken cut = record { number = 0; bytes = [] }
answer_taken (whole m) = record { number = number_in m; bytes = data_in m }

-- the replies rs to the messages xs of the kinds that the flat memory answers, and not answered 11
unfoldable pub answers_taken : List Sent → List Sent → List Answer
answers_taken [] rs = []
answers_taken (x ∷ xs) [] = []
answers_taken (x ∷ xs) (r ∷ rs) =
    cond (not (eleven_taken r) && is_answered (asked x)) (answer_taken r ∷ []) [] ++ answers_taken xs rs

-- ---- the demand

-- of calls ks on a file from state s₀ and tally n, and the run r over it
pub record CallerAgrees (p s : ℕ) (file : List ℕ) (s₀ : State) (n : Tally) (ks : List FillCall) (r : Run) : Type 0 where
  pub replies_taken : emptied ks ≡ joined_replies 70 r.turns
  -- a reply's own L tells it from the next, as a message's does
  pub replies_apart : messages_of (emptied ks) ≡ map (λ (l : List ℕ). whole (drop 2 l)) (replies 70 r.turns)
  -- the two lists, by what the caller holds alone
  pub answers_as_taken : flat_answers none (messages_of file) (map eleven_taken (messages_of (emptied ks)))
      ≡ answers_taken (messages_of file) (messages_of (emptied ks))
  pub state_as_left : state_left s₀ ks ≡ r.final
  pub tally_as_left : tally_left n ks ≡ tally r.turns n
  pub agrees : Agrees p s 70 file r

-- from fresh tables of any P and S in range, with buffers of any lengths from 70 on, where the calls came to the file's
-- end
abbrev pub Demand3Caller : Type 0
Demand3Caller =
    (p s : ℕ) (fast slow file : List ℕ) (n : Tally) (ks : List FillCall) → p ≤ 127 → s ≤ 127 → length fast ≡ 64 * p
    → length slow ≡ 64 * s
    → let s₀ = state_of (fresh_tables p s) fast slow in
    FillCalls file 0 s₀ n ks → length file ≤ reached 0 ks → CallerAgrees p s file s₀ n ks (run 70 file s₀)

-- as many calls as the file has bytes come to its end
abbrev pub CallsEnough : Type 0
CallsEnough =
    (file : List ℕ) (s₀ : State) (n : Tally) (ks : List FillCall) → FillCalls file 0 s₀ n ks → length file ≤ length ks
    → length file ≤ reached 0 ks
