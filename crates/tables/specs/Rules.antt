-- Document 01, "Table rules", as tests, for any tables whatever.
use Rattle.std.specs.Prelude.{ℕ, ◌+◌, Bool, not, ◌&&◌, ◌||◌, cond, List, [], ◌∷◌, map, length, drop, get_or, leb, ltb, eqb}
use Rattle.tables.specs.declared.Copy.{Copy}
use Rattle.tables.specs.declared.Page.{Page}
use Rattle.tables.specs.declared.Shared.{Shared}
use Rattle.tables.specs.declared.Tables.{Tables}
use Rattle.tables.specs.Lists.{all, count, all_below, count_below, sum}
use Rattle.tables.specs.Model.{frames, is_null, retired_at, copies_in_use, absent, on_frame, zero_copy}
use Rattle.tables.specs.Register.{register_rule}

-- how many copies of some pages are on frame f
unfoldable pub uses : ℕ → List Page → ℕ
uses f [] = 0
uses f (g ∷ gs) = count (on_frame f) (copies_in_use g) + uses f gs

-- how many copies hold frame f: what "no copy has it" and "no frame under two copies" go by
unfoldable pub holders : Tables → ℕ → ℕ
holders t f = uses f t.pages

-- "A frame is free if no copy has it", and document 02, request [5], if it is not retired. On sound tables a number
-- from P+S to 254 counts as free too, and 255 where no null copy stands; 7 comes before either is asked for.
unfoldable pub free : Tables → ℕ → Bool
free t f = not (retired_at t f) && eqb (holders t f) 0

-- a copy has frame f
abbrev pub is_held : Tables → ℕ → Bool
is_held t f = not (eqb (holders t f) 0)

-- how many of the P+S frames are held
abbrev pub frames_held : Tables → ℕ
frames_held t = count_below (frames t) (is_held t)

-- "unused entries .. are as in fresh tables"
abbrev pub is_fresh : Copy → Bool
is_fresh c = is_null c && not (c.current || c.recent)

-- of a copy of a page with n copies: "CURRENT only with MOST RECENT"; "a null copy only alone, recent and not current";
-- "frames in range"
abbrev pub copy_rule : ℕ → ℕ → Copy → Bool
copy_rule limit n c =
    (c.recent || not c.current)
    && cond (is_null c) (eqb n 1 && (c.recent && not c.current)) (ltb c.frame limit)

abbrev pub is_recent : Copy → Bool
is_recent c = c.recent

abbrev pub is_current : Copy → Bool
is_current c = c.current

abbrev pub at_most : ℕ → ℕ → Bool
at_most k r = leb r k

-- "a page that stands has an owner 0 to 15, rights 0 to 2, n from 1 to 8; .. at least one MOST RECENT"; n is not 0
-- where a page stands
unfoldable pub standing_rule : ℕ → Page → Bool
standing_rule limit g =
    leb g.owner 15 && (all (at_most 2) g.rights && (leb g.n 8
    && (all (copy_rule limit g.n) (copies_in_use g)
    && (all is_fresh (drop g.n g.copies) && leb 1 (count is_recent (copies_in_use g))))))

-- "absent pages are as in fresh tables"
unfoldable pub absent_rule : Page → Bool
absent_rule g = eqb g.owner 0 && (all (at_most 0) g.rights && all is_fresh g.copies)

-- "sixteen rights and eight copy entries"
abbrev pub shaped : Page → Bool
shaped g = eqb (length g.rights) 16 && eqb (length g.copies) 8

unfoldable pub page_rule : ℕ → Page → Bool
page_rule limit g = shaped g && cond (absent g) (absent_rule g) (standing_rule limit g)

-- "no frame under two copies"
unfoldable pub none_shared : ℕ → (ℕ → ℕ) → Bool
none_shared limit held = all_below limit (λ f. leb (held f) 1)

-- "P and S in range"
unfoldable pub sizes_rule : Shared → Bool
sizes_rule a = leb a.p 127 && leb a.s 127

-- "Pages 0 to 63", and each page's rule
unfoldable pub pages_rule : ℕ → List Page → Bool
pages_rule limit gs = eqb (length gs) 64 && all (page_rule limit) gs

-- the table rules, each on the fields that it is about; one that is added comes last
unfoldable pub sound : Tables → Bool
sound t =
    sizes_rule t.shared && (pages_rule (frames t) t.pages && (none_shared (frames t) (holders t)
    && register_rule (frames t) t.pages t.register))

-- on how many frames the copies of a page are, where the page keeps its rule: a null copy is alone
abbrev pub frame_total : Page → ℕ
frame_total g = cond (is_null (get_or g.copies 0 zero_copy)) 0 g.n

-- the same of some pages; of those of sound tables `frames_held` (`held_total`)
unfoldable pub frame_totals : List Page → ℕ
frame_totals gs = sum (map frame_total gs)
