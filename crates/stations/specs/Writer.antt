-- Document 02, request [4]: the writer for calls.
use Rattle.std.specs.Prelude.{ℕ, List, [], ◌∷◌, ◌++◌, Result, Ok, Err, length, ltb}
use Rattle.tables.specs.declared.refusals.Refusal.{Refusal}
use Rattle.tables.specs.Numbers.{unknown_kind, short_buffer}
use Rattle.steps.specs.declared.Call.{Call}
use Rattle.steps.specs.Kinds.{names, kind_number, is_unknown, kind_of, call_of, values}
use Rattle.steps.specs.Calls.{outside}
use Rattle.steps.specs.Steps.{Outcome, refuse, accept, test, guarded}
use Rattle.messages.specs.Replies.{be16}

-- Document 01: "a version byte 1, a kind byte .., then the arguments in the order above, one byte each; write ends with
-- 1 to 64 bytes"
abbrev pub body : Call → List ℕ → List ℕ
body c bs = 1 ∷ kind_number c.kind ∷ values (names c.kind) c bs

-- "A message is a 2-byte big-endian length L of what follows"
abbrev pub message_of : Call → List ℕ → List ℕ
message_of c bs = be16 (length (body c bs)) ++ body c bs

-- the call with what its kind names; all else is 0, and plays no part
abbrev pub canonical : Call → Call
canonical c = call_of c.kind (values (names c.kind) c [])

-- "7 as document 01 does, with frames up to 253 in range", or the message
abbrev pub composed : Call → List ℕ → Outcome (List ℕ)
composed c bs = guarded (outside 254 (length bs) (canonical c)) (accept (message_of c bs))

-- "The writer gives 18 for a buffer below 71 bytes, then 7": what a call with a write's bytes bs comes to in a buffer
-- of `room` bytes
unfoldable pub written : ℕ → Call → List ℕ → Outcome (List ℕ)
written room c bs = test (ltb room 71) short_buffer (composed c bs)

-- what a kind byte, its arguments in their order and a write's bytes come to: 18, 3 for a byte that is no kind's, 7, or
-- the message
unfoldable pub written_as : ℕ → ℕ → List ℕ → List ℕ → Outcome (List ℕ)
written_as room kind arguments bs =
    test (ltb room 71) short_buffer
    (test (is_unknown kind) unknown_kind (composed (call_of (kind_of kind) arguments) bs))

-- the message that is laid: "refused, it writes nothing"
abbrev pub message_in : Outcome (List ℕ) → List ℕ
message_in (refuse n) = []
message_in (accept m) = m

-- ---- what the code gives: the length of the message, or its refusal

abbrev pub Written : Type 0
Written = Result ℕ Refusal

abbrev pub written_length : Written → ℕ
written_length (Ok len) = len
written_length (Err refusal) = 0
