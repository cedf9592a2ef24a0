-- Document 01, "Call files and replies": the data of an accepted reply, "the bytes of a read or look".
use Rattle.std.specs.Prelude.{ℕ, zero, suc, ◌+◌, ◌*◌, Bool, true, ◌&&◌, List, length, get_or, drop, leb, ltb, eqb}
use Rattle.steps.specs.declared.Data.{Data}
use Rattle.steps.specs.declared.Data.TheVariants.{Empty, Bytes, Copies, Holder}

-- "CURRENT and MOST RECENT as 0 or 1"
abbrev pub is_mark : ℕ → Bool
is_mark b = ltb b 2

-- whether CURRENT and MOST RECENT, the second and the third byte of a copy, are 0 or 1
abbrev pub copy_marks_valid : List ℕ → Bool
copy_marks_valid b = is_mark (get_or b 1 0) && is_mark (get_or b 2 0)

-- whether a test holds at each of k places, `size` bytes apart
unfoldable pub each_is : ℕ → ℕ → (List ℕ → Bool) → List ℕ → Bool
each_is zero size test bytes = true
each_is (suc k) size test bytes = test bytes && each_is k size test (drop size bytes)

-- whether n is from `least` to `most`
abbrev pub many : ℕ → ℕ → ℕ → Bool
many least most n = leb least n && leb n most

-- Whether data are of a form: of a read 1 to 64 bytes; of a look at a page "n, then for each copy the frame .., CURRENT
-- and MOST RECENT", with "n from 1 to 8"; of a look at a frame three bytes; of all others none.
unfoldable pub formed : Data → List ℕ → Bool
formed Empty d = eqb (length d) 0
formed Bytes d = many 1 64 (length d)
formed Copies d =
    many 1 8 (get_or d 0 0) && (eqb (length d) (1 + 3 * get_or d 0 0)
    && each_is (get_or d 0 0) 3 copy_marks_valid (drop 1 d))
formed Holder d = eqb (length d) 3
