-- How the test of the table rules goes: a pass over the pages, in which each copy's entry must name it, and then a
-- count of the entries of free frames, and of retired ones where there are any, take the place of counting the copies
-- on each frame. For the proofs alone: the contract of the test speaks of `sound`.
use Rattle.std.specs.Prelude.{ℕ, ◌+◌, Bool, true, not, ◌&&◌, ◌||◌, cond, List, [], ◌∷◌, get_or, drop, ltb, eqb}
use Rattle.tables.specs.declared.Copy.{Copy}
use Rattle.tables.specs.declared.Page.{Page}
use Rattle.tables.specs.Lists.{all, count}
use Rattle.tables.specs.Model.{free_entry, retired_entry, is_retired_entry, copies_in_use}
use Rattle.tables.specs.Rules.{copy_rule, page_rule}
use Rattle.tables.specs.Register.{entry_for}

-- the entry of frame f is e; a null copy has no frame
abbrev pub entry_is : List ℕ → ℕ → ℕ → Bool
entry_is r f e = cond (ltb f 254) (eqb (get_or r f free_entry) e) true

-- the entries of copies of page p, numbered from k on, name them
unfoldable pub entries_are : List ℕ → ℕ → ℕ → List Copy → Bool
entries_are r p k [] = true
entries_are r p k (c ∷ cs) = entry_is r c.frame (entry_for p k) && entries_are r p (k + 1) cs

-- the copies of a page with n of them, in one pass: each keeps its rule and is named; at the end, whether one is MOST
-- RECENT, or one before them was
unfoldable pub scan_copies : ℕ → ℕ → List ℕ → ℕ → ℕ → Bool → List Copy → Bool
scan_copies limit n r p k recent [] = recent
scan_copies limit n r p k recent (c ∷ cs) =
    copy_rule limit n c && (entry_is r c.frame (entry_for p k) && scan_copies limit n r p (k + 1)
    (recent || c.recent) cs)

abbrev pub scan_page : ℕ → List ℕ → ℕ → Page → Bool
scan_page limit r p g = page_rule limit g && entries_are r p 0 (copies_in_use g)

unfoldable pub scan_pages : ℕ → List ℕ → ℕ → List Page → Bool
scan_pages limit r p [] = true
scan_pages limit r p (g ∷ gs) = scan_page limit r p g && scan_pages limit r (p + 1) gs

-- an entry that names a copy
abbrev pub names_copy : ℕ → Bool
names_copy e = not (eqb e free_entry) && not (is_retired_entry e)

-- how many entries do
abbrev pub naming_entries : List ℕ → ℕ
naming_entries r = count names_copy r

-- an entry that is not that of a retired frame
abbrev pub not_retired : ℕ → Bool
not_retired e = not (is_retired_entry e)

-- an entry that is e
abbrev pub is_entry : ℕ → ℕ → Bool
is_entry e x = eqb x e

-- how many entries are e
abbrev pub entries_of : ℕ → List ℕ → ℕ
entries_of e r = count (is_entry e) r

-- Where so many entries name copies: all others are of free frames, or of free and retired ones, and then none from the
-- limit on is retired.
abbrev pub others_ok : ℕ → ℕ → List ℕ → Bool
others_ok limit held r =
    cond (eqb (held + entries_of free_entry r) 254) true
    (eqb (held + entries_of free_entry r + entries_of retired_entry r) 254 && all not_retired (drop limit r))
