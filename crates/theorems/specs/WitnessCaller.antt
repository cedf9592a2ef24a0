-- The borders of `CallsEnough`, which asks for no call more than the file has bytes, and why it asks for so many; and
-- those of `Demand3Caller`: no frame, and as many as there may be. Computed.
use Rattle.std.specs.Prelude.{ℕ, ◌*◌, ◌≤◌, refl, false, replicate}
use mathlib.Core.List.{[], ◌∷◌, flatten}
use Rattle.std.proofs.Common.{arith}
use Rattle.std.proofs.lemmas.List.{length-replicate}
use Rattle.tables.specs.Model.{fresh_tables}
use Rattle.steps.specs.Effects.{State}
use Rattle.messages.specs.declared.Tally.{Tally}
use Rattle.messages.specs.Replies.{reply, up_to}
use Rattle.messages.specs.Run.{split, messages_of, turns_of, answer, served, place_after, state_after, tally, moved_in, run}
use Rattle.messages.specs.Promises.{FillCall, FillCalls, reached}
use Rattle.theorems.specs.Caller.{CallerAgrees, Demand3Caller, CallsEnough}
use Rattle.theorems.specs.Witness3.{start}
use Rattle.theorems.specs.Witness1.{buffer₇₀}

abbrev pub tally_of : ℕ → Tally
tally_of n = record { messages = n; refusals = n; laid = 0 }

-- no calls for a file of no bytes
pub enough_at_0 : CallsEnough → 0 ≤ reached 0 []
enough_at_0 k = k [] start (tally_of 0) [] tt (omega arith)

-- a file of one byte, which is a message cut short, and one call in a buffer of 70 bytes
abbrev pub one_call : State → FillCall
one_call s =
    record {
      out = buffer₇₀;
      result = record { at = 1; used = 6; tables = s.tables; moved = false; tally = tally_of 1 };
      fast' = s.fast;
      slow' = s.slow;
      out' = 0 ∷ 4 ∷ 1 ∷ 1 ∷ 0 ∷ 0 ∷ replicate 64 0xAA;
    }

called : (s : State) → FillCalls (0 ∷ []) 0 s (tally_of 0) (one_call s ∷ [])
unfolding split messages_of turns_of answer served place_after state_after tally moved_in reply up_to flatten
called s = (
  omega arith,
  record {
    place_told = refl;
    used_told = refl;
    state_out = refl;
    buffer_out = refl;
    tally_out = refl;
    moved_told = refl;
  },
  tt,
)

pub enough_at_1 : CallsEnough → 1 ≤ reached 0 (one_call start ∷ [])
enough_at_1 k = k (0 ∷ []) start (tally_of 0) (one_call start ∷ []) (called start) (omega arith)

-- no call does not come to its end
pub none_too_few : 1 ≤ reached 0 [] → ⊥
none_too_few h = omega arith

-- ---- `Demand3Caller`

-- a unit of p frames and as many more
abbrev pub unit : ℕ → State
unit p = record { tables = fresh_tables p p; fast = replicate (64 * p) 7; slow = replicate (64 * p) 7 }

pub caller_at_0 : Demand3Caller → CallerAgrees 0 0 [] (unit 0) (tally_of 0) [] (run 70 [] (unit 0))
caller_at_0 k = k 0 0 [] [] [] (tally_of 0) [] (omega arith) (omega arith) refl refl tt (omega arith)

pub caller_at_127 : Demand3Caller
    → CallerAgrees 127 127 (0 ∷ []) (unit 127) (tally_of 0) (one_call (unit 127) ∷ []) (run 70 (0 ∷ []) (unit 127))
caller_at_127 k =
    let long = length-replicate {A = ℕ} (64 * 127) 7 in
    k 127 127 (unit 127).fast (unit 127).slow (0 ∷ []) (tally_of 0) (one_call (unit 127) ∷ []) (omega arith)
    (omega arith) long long (called (unit 127)) (omega arith)
