-- Document 02, request [1]: "a register that says for each frame which page and copy stand on it"; with request [5]
-- also which are retired.
use Rattle.std.specs.Prelude.{ℕ, ◌+◌, ◌*◌, ◌/◌, ◌%◌, Bool, ◌&&◌, cond, List, [], ◌∷◌, length, get_or, set, ltb, eqb}
use Rattle.tables.specs.declared.Copy.{Copy}
use Rattle.tables.specs.declared.Page.{Page}
use Rattle.tables.specs.declared.Tables.{Tables}
use Rattle.tables.specs.declared.Change.{Change}
use Rattle.tables.specs.declared.Holder.{Holder}
use Rattle.tables.specs.declared.Holder.TheVariants.{At, Free, Retired}
use Rattle.tables.specs.Lists.{all_below}
use Rattle.tables.specs.Model.{free_entry, retired_entry, is_retired_entry, entry_at, copies_in_use, zero_page}
use Rattle.tables.specs.Search.{in_pages, is_free}

-- ---- an entry

-- copy c of page p
abbrev pub entry_for : ℕ → ℕ → ℕ
entry_for p c = 8 * p + c

-- the entry of a frame, by its holder
abbrev pub entry_of : Holder → ℕ
entry_of (At p c) = entry_for p c
entry_of Free = free_entry
entry_of Retired = retired_entry

-- the holder that an entry encodes: below 512 copy e % 8 of page e / 8; 61680 a retired frame; any other number a free
-- one
abbrev pub holder_of_entry : ℕ → Holder
holder_of_entry e = cond (ltb e 512) (At (e / 8) (e % 8)) (cond (is_retired_entry e) Retired Free)

-- "Looking at a frame then reads the register, and gives for every frame what the search gives": `registered_is` proves
-- that of every sound table.
abbrev pub registered : Tables → ℕ → Holder
registered t f = holder_of_entry (entry_at t f)

-- ---- "Table rules gain that the register is right"

-- Whether e is a right entry of frame f, where there are `limit` frames and the search finds h. A retired entry is
-- right on a frame below the limit on which no copy is found. Any other entry must be that of the copy found, or the
-- free entry where none is. So the entry of each copy's frame names that copy, and no other entry names a copy
-- (`copy_named`, `named_copy`); and request [5]: "A copy on a retired frame, or a mark past the last frame, breaks the
-- table rules".
abbrev pub entry_rule : ℕ → ℕ → Holder → ℕ → Bool
entry_rule limit f h e = cond (is_retired_entry e) (is_free h && ltb f limit) (eqb e (entry_of h))

unfoldable pub register_rule : ℕ → List Page → List ℕ → Bool
register_rule limit gs r =
    eqb (length r) 254 && all_below 254 (λ f. entry_rule limit f (in_pages f 0 gs) (get_or r f free_entry))

-- ---- "Every step maintains it, including the renumbering after a delete"

-- the register with the entries of these copies' frames free
unfoldable pub vacated : List Copy → List ℕ → List ℕ
vacated [] r = r
vacated (c ∷ cs) r = vacated cs (set r c.frame free_entry)

-- the register with the entry of each of these copies of page p, numbered from k on, at its frame
unfoldable pub occupied : ℕ → ℕ → List Copy → List ℕ → List ℕ
occupied p k [] r = r
occupied p k (c ∷ cs) r = occupied p (k + 1) cs (set r c.frame (entry_for p k))

-- the register after the record g of page p is replaced by g'
abbrev pub reregistered : ℕ → Page → Page → List ℕ → List ℕ
reregistered p g g' r = occupied p 0 (copies_in_use g') (vacated (copies_in_use g) r)

-- the register after a change of the pages gs: a frame number above 253 retires none, and a page number above 63 moves
-- no copy
abbrev pub register_after : List Page → Change → List ℕ → List ℕ
register_after gs change r =
    let out = set r change.retires retired_entry in
    cond (ltb change.page 64) (reregistered change.page (get_or gs change.page zero_page)
    change.becomes out) out
