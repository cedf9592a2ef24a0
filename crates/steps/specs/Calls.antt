-- Document 01, "Why a message is turned back": number 7. What a call's kind does not name plays no part.
use Rattle.std.specs.Prelude.{ℕ, ◌+◌, Bool, ◌&&◌, ◌||◌, cond, leb, ltb, eqb}
use Rattle.tables.specs.Numbers.{accepted, out_of_range}
use Rattle.steps.specs.declared.Call.{Call}
use Rattle.steps.specs.Kinds.{station, page, other, right, offset, bytes, frame, has}

-- "station, page, right .. too large": "Pages 0 to 63, stations 0 to 15", "Rights: 0 none, 1 read, 2 read and write"
abbrev pub name_outside : Call → Bool
name_outside c =
    ((has station c.kind && ltb 15 c.station) || (has page c.kind && ltb 63 c.page))
    || ((has other c.kind && ltb 15 c.other) || (has right c.kind && ltb 2 c.right))

-- ".. frame .. too large": "Frames are numbered 0 to P+S-1"
abbrev pub frame_outside : ℕ → Call → Bool
frame_outside frames c = has frame c.kind && leb frames c.frame

-- ".. or offset too large; count 0; offset + count above 64"
abbrev pub bad_span : ℕ → ℕ → Bool
bad_span start n = ltb 63 start || (eqb n 0 || ltb 64 (start + n))

-- the count of a write is `size`, the number of its bytes
abbrev pub span_outside : ℕ → Call → Bool
span_outside size c = has offset c.kind && bad_span c.offset (cond (has bytes c.kind) size c.count)

-- 7 where one of the three tests above holds of a call on so many frames, and else 0
abbrev pub outside : ℕ → ℕ → Call → ℕ
outside frames size c =
    cond (name_outside c) out_of_range
    (cond (frame_outside frames c) out_of_range (cond (span_outside size c) out_of_range accepted))
