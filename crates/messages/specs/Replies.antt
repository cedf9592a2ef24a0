-- Document 01, "Call files and replies": replies, and the tally.
use Rattle.std.specs.Prelude.{ℕ, ◌+◌, ◌*◌, ◌/◌, ◌%◌, min, Bool, true, false, cond, List, [], ◌∷◌, ◌++◌, length, get_or, ltb}
use Rattle.tables.specs.Numbers.{accepted}
use Rattle.steps.specs.Steps.{Outcome, refuse, accept}
use Rattle.steps.specs.Effects.{Result}
use Rattle.messages.specs.declared.Tally.{Tally}

-- a number as two bytes, big-endian
abbrev pub be16 : ℕ → List ℕ
be16 n = n / 256 % 256 ∷ n % 256 ∷ []

-- the number that two bytes of l from index at on are, big-endian
abbrev pub be16_at : List ℕ → ℕ → ℕ
be16_at l at = get_or l at 0 * 256 + get_or l (at + 1) 0

-- "A reply is L, version 1, the number (0 accepted), bytes laid in two bytes big-endian, then the bytes of a read or
-- look." "A refusal is 00 04 01 nn 00 00."
unfoldable pub reply : Outcome Result → List ℕ
reply (refuse n) = 0 ∷ 4 ∷ 1 ∷ n ∷ 0 ∷ 0 ∷ []
reply (accept r) = be16 (4 + length r.data_out) ++ (1 ∷ accepted ∷ be16 r.laid ++ r.data_out)

-- into a buffer of `room` bytes; 18: "reply buffer below 70 bytes; nothing is written"
abbrev pub reply_in : ℕ → Outcome Result → List ℕ
reply_in room o = cond (ltb room 70) [] (reply o)

-- "each number stops at 4294967295"
abbrev pub stopped : ℕ → ℕ
stopped n = min n 4294967295

-- y more than x
unfoldable pub up_to : ℕ → ℕ → ℕ
up_to x y = stopped (x + y)

-- "A tally (messages, refusals, bytes laid) is brought up to date in place after each message"
abbrev pub counted : Tally → Bool → ℕ → Tally
counted t refused laid =
    record {
      messages = up_to t.messages 1;
      refusals = up_to t.refusals (cond refused 1 0);
      laid = up_to t.laid laid;
    }

abbrev pub zero_tally : Tally
zero_tally = record { messages = 0; refusals = 0; laid = 0 }

abbrev pub is_refusal : Outcome Result → Bool
is_refusal (refuse n) = true
is_refusal (accept r) = false
