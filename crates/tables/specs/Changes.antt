-- The changes that the steps of document 01 make to a page's record, and to the tables.
use Rattle.std.specs.Prelude.{ℕ, zero, suc, ◌+◌, ◌-◌, Bool, true, false, ◌&&◌, cond, List, [], ◌∷◌, ◌++◌, map, replicate, get_or, set, ltb}
use Rattle.tables.specs.declared.Copy.{Copy}
use Rattle.tables.specs.declared.Page.{Page}
use Rattle.tables.specs.declared.Tables.{Tables}
use Rattle.tables.specs.declared.Change.{Change}
use Rattle.tables.specs.declared.Edit.{Edit}
use Rattle.tables.specs.declared.Edit.TheVariants.{Kept, Created, Deleted, Granted, Staled, Placed, Added, Removed, Marked}
use Rattle.tables.specs.Model.{null_frame, retired_entry, fresh_copy, fresh_page, with_pages, zero_copy, page_at}
use Rattle.tables.specs.Register.{register_after}

-- step 1: "the page stands with one null copy; the station is owner with right 2"; document 02, request [6]: "Create
-- now gives right 1 to every station but the owner." The null copy is recent
unfoldable pub created : ℕ → Page
created station =
    record {
      rights = set (replicate 16 1) station 2;
      copies = set (replicate 8 fresh_copy) 0 (record { frame = null_frame; current = false; recent = true });
      owner = station;
      n = 1;
    }

-- step 3
abbrev pub granted : Page → ℕ → ℕ → Page
granted g station right =
    record { rights = set g.rights station right; copies = g.copies; owner = g.owner; n = g.n }

-- the page with other copies
abbrev pub with_copies : Page → ℕ → List Copy → Page
with_copies g n cs = record { rights = g.rights; copies = cs; owner = g.owner; n = n }

-- step 5: "all other copies lose MOST RECENT"
abbrev pub stale_copy : Copy → Copy
stale_copy c = record { frame = c.frame; current = c.current; recent = c.recent && c.current }

-- step 6: "the new copy is not CURRENT"
abbrev pub new_copy : ℕ → Bool → Copy
new_copy frame recent = record { frame = frame; current = false; recent = recent }

-- "A new one goes to the end": eight at the most
abbrev pub with_copy : Page → Copy → Page
with_copy g c = cond (ltb g.n 8) (with_copies g (g.n + 1) (set g.copies g.n c)) g

-- "a deleted one closes the gap": the copy entries after it move down, and the last one is fresh
unfoldable pub close_gap : List Copy → ℕ → List Copy
close_gap [] k = []
close_gap (c ∷ cs) zero = cs ++ (fresh_copy ∷ [])
close_gap (c ∷ cs) (suc k) = c ∷ close_gap cs k

-- steps 8 and 9
abbrev pub with_current : Copy → Bool → Copy
with_current c current = record { frame = c.frame; current = current; recent = c.recent }

-- the record of a page after an edit
unfoldable pub changed : Page → Edit → Page
-- "accepted, no change", and kinds that change no page
changed g Kept = g
-- step 1, with the rights of request [6]
changed g (Created station) = created station
-- step 2: "All copies go": the page is absent
changed g Deleted = fresh_page
-- step 3: the other station's right is the one named
changed g (Granted station right) = granted g station right
-- step 5: "all other copies lose MOST RECENT"
changed g Staled = with_copies g g.n (map stale_copy g.copies)
-- step 6, "From a null copy: .. the new copy is recent, the null copy goes": it is alone, so it is copy 0
changed g (Placed frame) = with_copies g g.n (set g.copies 0 (new_copy frame true))
-- step 6: "the new copy is not CURRENT, and MOST RECENT if the source is"
changed g (Added frame recent) = with_copy g (new_copy frame recent)
-- step 7, with the gap closed
changed g (Removed k) = with_copies g (g.n - 1) (close_gap g.copies k)
-- steps 8 and 9: CURRENT set or removed
changed g (Marked k current) =
    with_copies g g.n (set g.copies k (with_current (get_or g.copies k zero_copy) current))

-- a change of the tables: page p gets the record g, and frame f is retired; 255 for none
abbrev pub change_to : ℕ → Page → ℕ → Change
change_to p g f = record { page = p; becomes = g; retires = f }

-- the change in which edit e is made to the record of page p
abbrev pub edited : Tables → ℕ → Edit → ℕ → Change
edited t p e f = change_to p (changed (page_at t p) e) f

-- document 02, request [5]: the tables with frame f retired: its register entry says so, and nothing else changes
abbrev pub with_retired : Tables → ℕ → Tables
with_retired t f = with_pages t t.pages (set t.register f retired_entry)

-- "Each change of the tables takes them and gives back the new ones." The retired frame is entered first and the page's
-- copies after it, so that a frame which a copy of the page leaves or takes ends free or held.
unfoldable pub after : Tables → Change → Tables
after t change =
    with_pages t (set t.pages change.page change.becomes) (register_after t.pages change t.register)
