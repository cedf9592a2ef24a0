-- Request [4] of document 02: cases of the writer and of the reader for replies, computed from the definitions.
use Rattle.std.specs.Prelude.{ℕ, ◌≡◌, refl, List, [], ◌∷◌, replicate}
use Rattle.steps.specs.Kinds.{names, tells, kinds, code, among, argument, call_of, value, values}
use Rattle.steps.specs.Data.{each_is, formed}
use Rattle.steps.specs.Stores.{part}
use Rattle.steps.specs.Steps.{Outcome, refuse, accept}
use Rattle.messages.specs.Messages.{next_at}
use Rattle.stations.specs.Writer.{written_as}
use Rattle.stations.specs.Reader.{is_reply, read_reply, Reading, Refused, Reply}

-- ---- the writer

-- a kind byte with its arguments and a write's bytes, in a buffer of 71 bytes
unfoldable pub write : ℕ → List ℕ → List ℕ → Outcome (List ℕ)
unfolding written_as kinds names code among argument call_of value values
write kind arguments bs = written_as 71 kind arguments bs

-- the worked example of document 01; frame 253; copy 255; 64 bytes
pub messages_written :
    (write 1 (3 ∷ 5 ∷ []) [] ∷ write 6 (5 ∷ 0 ∷ 0 ∷ []) [] ∷ write 8 (5 ∷ 0 ∷ []) []
    ∷ write 5 (3 ∷ 5 ∷ 0 ∷ []) (0x41 ∷ 0x37 ∷ [])
    ∷ write 4 (3 ∷ 5 ∷ 0 ∷ 3 ∷ []) [] ∷ write 10 (5 ∷ []) [] ∷ write 11 (253 ∷ []) [] ∷ write 7 (63 ∷ 255 ∷ []) []
    ∷ write 12 (253 ∷ []) [] ∷ [])
    ≡ (accept (0 ∷ 4 ∷ 1 ∷ 1 ∷ 3 ∷ 5 ∷ []) ∷ accept (0 ∷ 5 ∷ 1 ∷ 6 ∷ 5 ∷ 0 ∷ 0 ∷ [])
    ∷ accept (0 ∷ 4 ∷ 1 ∷ 8 ∷ 5 ∷ 0 ∷ [])
    ∷ accept (0 ∷ 7 ∷ 1 ∷ 5 ∷ 3 ∷ 5 ∷ 0 ∷ 0x41 ∷ 0x37 ∷ []) ∷ accept (0 ∷ 6 ∷ 1 ∷ 4 ∷ 3 ∷ 5 ∷ 0 ∷ 3 ∷ [])
    ∷ accept (0 ∷ 3 ∷ 1 ∷ 0xA ∷ 5 ∷ [])
    ∷ accept (0 ∷ 3 ∷ 1 ∷ 0xB ∷ 253 ∷ []) ∷ accept (0 ∷ 4 ∷ 1 ∷ 7 ∷ 63 ∷ 255 ∷ [])
    ∷ accept (0 ∷ 3 ∷ 1 ∷ 0xC ∷ 253 ∷ []) ∷ [])
unfolding write
messages_written = refl

-- frames 254 and 255, also to be retired; station 16, page 64, right 3; a read of nothing and one past the page; a
-- write of no byte and one of 65; kinds 0 and 13
pub calls_refused :
    (write 11 (254 ∷ []) [] ∷ write 12 (254 ∷ []) [] ∷ write 6 (5 ∷ 0 ∷ 255 ∷ []) [] ∷ write 1 (16 ∷ 5 ∷ []) []
    ∷ write 10 (64 ∷ []) [] ∷ write 3 (3 ∷ 5 ∷ 4 ∷ 3 ∷ []) []
    ∷ write 4 (3 ∷ 5 ∷ 0 ∷ 0 ∷ []) [] ∷ write 4 (3 ∷ 5 ∷ 63 ∷ 2 ∷ []) [] ∷ write 5 (3 ∷ 5 ∷ 0 ∷ []) []
    ∷ write 5 (3 ∷ 5 ∷ 0 ∷ []) (replicate 65 7)
    ∷ write 0 [] [] ∷ write 13 (99 ∷ []) [] ∷ [])
    ≡ (refuse 7 ∷ refuse 7 ∷ refuse 7 ∷ refuse 7 ∷ refuse 7 ∷ refuse 7 ∷ refuse 7 ∷ refuse 7 ∷ refuse 7 ∷ refuse 7
    ∷ refuse 3 ∷ refuse 3 ∷ [])
unfolding write
calls_refused = refl

-- 18 before all others, whatever the message's own length
pub short_buffers : (written_as 70 10 (5 ∷ []) [] ∷ written_as 70 13 [] [] ∷ written_as 0 11 (254 ∷ []) [] ∷ [])
    ≡ (refuse 18 ∷ refuse 18 ∷ refuse 18 ∷ [])
unfolding written_as
short_buffers = refl

-- ---- the reader

unfoldable pub read : ℕ → List ℕ → Reading
unfolding read_reply next_at part is_reply formed each_is kinds tells
read kind l = read_reply kind l

-- accepted: a creation, a refusal carrying 1, 18, 19 and 20, a retirement, a read, a look at a page and one at a frame,
-- bytes laid of any kind, bytes past the reply
pub replies_read :
    (read 1 (0 ∷ 4 ∷ 1 ∷ 0 ∷ 0 ∷ 0 ∷ []) ∷ read 4 (0 ∷ 4 ∷ 1 ∷ 1 ∷ 0 ∷ 0 ∷ []) ∷ read 4 (0 ∷ 4 ∷ 1 ∷ 18 ∷ 0 ∷ 0 ∷ [])
    ∷ read 4 (0 ∷ 4 ∷ 1 ∷ 19 ∷ 0 ∷ 0 ∷ [])
    ∷ read 6 (0 ∷ 4 ∷ 1 ∷ 20 ∷ 0 ∷ 0 ∷ []) ∷ read 12 (0 ∷ 4 ∷ 1 ∷ 0 ∷ 0 ∷ 0 ∷ [])
    ∷ read 4 (0 ∷ 7 ∷ 1 ∷ 0 ∷ 0 ∷ 0 ∷ 0x41 ∷ 0x37 ∷ 0 ∷ []) ∷ read 10 (0 ∷ 8 ∷ 1 ∷ 0 ∷ 0 ∷ 0 ∷ 1 ∷ 0 ∷ 1 ∷ 1 ∷ [])
    ∷ read 11 (0 ∷ 7 ∷ 1 ∷ 0 ∷ 0 ∷ 0 ∷ 9 ∷ 9 ∷ 9 ∷ []) ∷ read 8 (0 ∷ 4 ∷ 1 ∷ 0 ∷ 255 ∷ 255 ∷ 7 ∷ 7 ∷ []) ∷ [])
    ≡ (Reply 0 0 6 0 ∷ Reply 1 0 6 0 ∷ Reply 18 0 6 0 ∷ Reply 19 0 6 0 ∷ Reply 20 0 6 0 ∷ Reply 0 0 6 0 ∷ Reply 0 0 6 3
    ∷ Reply 0 0 6 4 ∷ Reply 0 0 6 3 ∷ Reply 0 65535 6 0 ∷ [])
unfolding read
replies_read = refl

-- 1: no byte, one byte, a cut reply even of an unknown kind; 2: L is 0, a foreign version of an unknown kind; 3: an
-- unknown kind
pub early_refused :
    (read 1 [] ∷ read 1 (0 ∷ []) ∷ read 13 (0 ∷ 4 ∷ 1 ∷ 0 ∷ 0 ∷ []) ∷ read 1 (0 ∷ 0 ∷ [])
    ∷ read 13 (0 ∷ 4 ∷ 2 ∷ 0 ∷ 0 ∷ 0 ∷ [])
    ∷ read 13 (0 ∷ 4 ∷ 1 ∷ 0 ∷ 0 ∷ 0 ∷ []) ∷ read 0 (0 ∷ 1 ∷ 1 ∷ []) ∷ [])
    ≡ (Refused 1 ∷ Refused 1 ∷ Refused 1 ∷ Refused 2 ∷ Refused 2 ∷ Refused 3 ∷ Refused 3 ∷ [])
unfolding read
early_refused = refl

-- 4: L of 1 and of 3; data where the kind has none, as for a retirement; number 21; a refusal with bytes laid, and one
-- with data; a read of no byte; looks at a page with n of 0, with a byte too many, and with a CURRENT and a MOST RECENT
-- byte of 2; a look at a frame with two bytes
pub forms_refused :
    (read 1 (0 ∷ 1 ∷ 1 ∷ []) ∷ read 1 (0 ∷ 3 ∷ 1 ∷ 0 ∷ 0 ∷ []) ∷ read 1 (0 ∷ 5 ∷ 1 ∷ 0 ∷ 0 ∷ 0 ∷ 7 ∷ [])
    ∷ read 1 (0 ∷ 4 ∷ 1 ∷ 21 ∷ 0 ∷ 0 ∷ [])
    ∷ read 12 (0 ∷ 7 ∷ 1 ∷ 0 ∷ 0 ∷ 0 ∷ 2 ∷ 255 ∷ 255 ∷ [])
    ∷ read 1 (0 ∷ 4 ∷ 1 ∷ 8 ∷ 0 ∷ 1 ∷ []) ∷ read 4 (0 ∷ 5 ∷ 1 ∷ 9 ∷ 0 ∷ 0 ∷ 7 ∷ [])
    ∷ read 4 (0 ∷ 4 ∷ 1 ∷ 0 ∷ 0 ∷ 0 ∷ [])
    ∷ read 10 (0 ∷ 5 ∷ 1 ∷ 0 ∷ 0 ∷ 0 ∷ 0 ∷ []) ∷ read 10 (0 ∷ 9 ∷ 1 ∷ 0 ∷ 0 ∷ 0 ∷ 1 ∷ 0 ∷ 1 ∷ 1 ∷ 0 ∷ [])
    ∷ read 10 (0 ∷ 8 ∷ 1 ∷ 0 ∷ 0 ∷ 0 ∷ 1 ∷ 0 ∷ 2 ∷ 1 ∷ []) ∷ read 10 (0 ∷ 8 ∷ 1 ∷ 0 ∷ 0 ∷ 0 ∷ 1 ∷ 0 ∷ 1 ∷ 2 ∷ [])
    ∷ read 11 (0 ∷ 6 ∷ 1 ∷ 0 ∷ 0 ∷ 0 ∷ 1 ∷ 2 ∷ []) ∷ [])
    ≡ replicate 13 (Refused 4)
unfolding read
forms_refused = refl
