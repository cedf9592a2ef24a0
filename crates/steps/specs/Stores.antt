-- Document 01, "The tables and the two stores": the stores. Both stand as one list, the fast store's bytes and then the
-- slow one's.
use Rattle.std.specs.Prelude.{ℕ, ◌+◌, ◌*◌, Bool, ◌&&◌, cond, List, [], ◌∷◌, ◌++◌, length, take, drop, replicate, leb, eqb}
use Rattle.tables.specs.declared.Copy.{Copy}
use Rattle.tables.specs.declared.Tables.{Tables}
use Rattle.tables.specs.Model.{is_null}

-- n bytes of l from index at on
unfoldable pub part : List ℕ → ℕ → ℕ → List ℕ
part l at n = take n (drop at l)

-- l with the bytes b from index at on, and the rest as it was
unfoldable pub splice : List ℕ → ℕ → List ℕ → List ℕ
splice l at b = take at l ++ (b ++ drop (at + length b) l)

-- `splice` where b fits into l, and else l as it was
abbrev pub spliced_within : List ℕ → ℕ → List ℕ → List ℕ
spliced_within l at b = cond (leb (at + length b) (length l)) (splice l at b) l

-- "The fast store is exactly 64 × P lent bytes, the slow one 64 × S": whether stores of these lengths fit the tables
unfoldable pub fits : Tables → ℕ → ℕ → Bool
fits t fast slow = eqb fast (64 * t.shared.p) && eqb slow (64 * t.shared.s)

-- "Frame f is the f-th block of 64 bytes, slow frames counted on from P."
abbrev pub block : List ℕ → ℕ → List ℕ
block st f = part st (64 * f) 64

-- the stores with b laid into frame f from offset o on
abbrev pub lay_frame : List ℕ → ℕ → ℕ → List ℕ → List ℕ
lay_frame st f o b = splice st (64 * f + o) b

abbrev pub zeros : List ℕ
zeros = replicate 64 0

-- what a copy holds: the bytes at its frame; a null copy counts as 64 zeros
abbrev pub contents : List ℕ → Copy → List ℕ
contents st c = cond (is_null c) zeros (block st c.frame)

-- the frames of the copies of which `those` holds
unfoldable pub frames_of : (Copy → Bool) → List Copy → List ℕ
frames_of those [] = []
frames_of those (c ∷ cs) = cond (those c) (c.frame ∷ frames_of those cs) (frames_of those cs)

-- the stores with b laid, from offset o on, into each of some frames
unfoldable pub lay_frames : List ℕ → ℕ → List ℕ → List ℕ → List ℕ
lay_frames [] o b st = st
lay_frames (f ∷ fs) o b st = lay_frames fs o b (lay_frame st f o b)

-- a lent buffer with b at its front, and the rest as lent
abbrev pub over : List ℕ → List ℕ → List ℕ
over b out = b ++ drop (length b) out
