-- Document 01, "Call files and replies": messages and the reader.
use Rattle.std.specs.Prelude.{ℕ, ◌+◌, Bool, not, ◌||◌, cond, List, length, drop, get_or, leb, ltb, eqb}
use Rattle.tables.specs.Numbers.{foreign_version, unknown_kind, wrong_length}
use Rattle.steps.specs.Kinds.{is_unknown, kind_of, least_length, most_length, call_of}
use Rattle.steps.specs.Steps.{Outcome, refuse, accept}
use Rattle.steps.specs.declared.Kind.{Kind}
use Rattle.steps.specs.declared.Call.{Call}
use Rattle.messages.specs.declared.Next.{Next}
use Rattle.messages.specs.declared.Next.TheVariants.{Message, Cut, End}
use Rattle.messages.specs.Replies.{be16_at}

-- ---- a message m: the L bytes after its length

-- 4: "L not as listed for the kind"; else the call: "then the arguments in the order above"
abbrev pub parse_as : Kind → List ℕ → Outcome Call
parse_as kind m =
    cond (ltb (length m) (least_length kind) || ltb (most_length kind) (length m))
    (refuse wrong_length)
    (accept (call_of kind (drop 2 m)))

abbrev pub parse_kind : ℕ → List ℕ → Outcome Call
parse_kind kind m = parse_as (kind_of kind) m

-- 2: "L is 0, or version not 1"
abbrev pub is_foreign : List ℕ → Bool
is_foreign m = eqb (length m) 0 || not (eqb (get_or m 0 0) 1)

-- "a version byte 1, a kind byte .. as numbered above"; 3: L is 1, or the kind is unknown
unfoldable pub parse : List ℕ → Outcome Call
parse m =
    cond (is_foreign m) (refuse foreign_version)
    (cond (eqb (length m) 1 || is_unknown (get_or m 1 0)) (refuse unknown_kind)
    (parse_kind (get_or m 1 0) m))

-- "write ends with 1 to 64 bytes", after the version, the kind and three arguments
abbrev pub write_bytes : List ℕ → List ℕ
write_bytes m = drop 5 m

-- ---- the reader

-- "a 2-byte big-endian length L of what follows"
abbrev pub length_at : List ℕ → ℕ → ℕ
length_at file at = be16_at file at

-- 1: "one byte left, or fewer than L after the length"
unfoldable pub next_at : List ℕ → ℕ → Next
next_at file at =
    cond (leb (length file) at) End
    (cond (ltb (length file) (at + 2)) Cut
    (cond (ltb (length file) (at + 2 + length_at file at)) Cut
    (Message (at + 2) (length_at file at) (at + 2 + length_at file at))))
