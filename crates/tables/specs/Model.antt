-- Document 01, "The tables and the two stores": the tables as values.
use Rattle.std.specs.Prelude.{ℕ, ◌+◌, Bool, false, ◌&&◌, cond, List, [], replicate, get_or, take, leb, eqb, Result, Ok, Err}
use Rattle.tables.specs.declared.Copy.{Copy}
use Rattle.tables.specs.declared.Page.{Page}
use Rattle.tables.specs.declared.Shared.{Shared}
use Rattle.tables.specs.declared.Tables.{Tables}
use Rattle.tables.specs.declared.TooManyFrames.{TooManyFrames}
use Rattle.tables.specs.Numbers.{accepted, too_many_frames}

-- "P fast frames and S slow frames .. numbered 0 to P+S-1"
abbrev pub frame_count : Shared → ℕ
frame_count a = a.p + a.s

abbrev pub frames : Tables → ℕ
frames t = frame_count t.shared

-- "A copy has a frame, or none (a null copy)": 255, which no frame has, stands for none
abbrev pub null_frame : ℕ
null_frame = 255

abbrev pub is_null : Copy → Bool
is_null c = eqb c.frame null_frame

-- whether a copy is on frame f; 255 is no frame, and asks for null copies
abbrev pub on_frame : ℕ → Copy → Bool
on_frame f c = eqb c.frame f

-- ---- the register

-- The entry of a free frame (0xFFFF) and, document 02, request [5], that of a retired one (0xF0F0). They differ from
-- each other in eight bits, and from the entry of any copy, 0 to 511, in four or more: a flip of up to three bits never
-- turns the entry of a free, a held or a retired frame into that of another of these states. 0x3C00 + page, which
-- differs from all of them in four bits or more, is left for the frame of the unfinished copy of request [10].
abbrev pub free_entry : ℕ
free_entry = 65535

abbrev pub retired_entry : ℕ
retired_entry = 61680

-- the entry of frame f; a number past the register is taken as free
abbrev pub entry_at : Tables → ℕ → ℕ
entry_at t f = get_or t.register f free_entry

-- whether an entry is that of a retired frame
abbrev pub is_retired_entry : ℕ → Bool
is_retired_entry e = eqb e retired_entry

-- request [5]: whether frame f is retired
abbrev pub retired_at : Tables → ℕ → Bool
retired_at t f = is_retired_entry (entry_at t f)

-- "eight copy entries, of which the first n are in use": the page's copies, numbered from 0
abbrev pub copies_in_use : Page → List Copy
copies_in_use g = take g.n g.copies

-- a page stands if it has a copy; else it is absent
abbrev pub absent : Page → Bool
absent g = eqb g.n 0

-- ---- "Fresh: no pages."

-- a copy entry that is not in use
abbrev pub fresh_copy : Copy
fresh_copy = record { frame = null_frame; current = false; recent = false }

-- an absent page
unfoldable pub fresh_page : Page
fresh_page = record { rights = replicate 16 0; copies = replicate 8 fresh_copy; owner = 0; n = 0 }

-- "P fast frames and S slow frames"
abbrev pub sized : ℕ → ℕ → Shared
sized p s = record { p = p; s = s }

unfoldable pub fresh_tables : ℕ → ℕ → Tables
fresh_tables p s =
    record { shared = sized p s; pages = replicate 64 fresh_page; register = replicate 254 free_entry }

-- the tables with other pages and another register, and all else the same; every field is named here, in `fresh_tables`
-- and in the tables' bytes (embed) alone
abbrev pub with_pages : Tables → List Page → List ℕ → Tables
with_pages t gs r = record { shared = t.shared; pages = gs; register = r }

-- what making tables answers: 0 or 19, and the tables
pub record Made : Type 0 where
  pub number : ℕ
  pub tables : Tables

-- 19: "fresh with P or S above 127; returns fresh tables with P = S = 0"
abbrev pub made : ℕ → ℕ → Made
made p s =
    cond (leb p 127 && leb s 127) (record { number = accepted; tables = fresh_tables p s })
    (record { number = too_many_frames; tables = fresh_tables 0 0 })

-- what the code's answer says
abbrev pub made_by : Result Tables TooManyFrames → Made
made_by (Ok t) = record { number = accepted; tables = t }
made_by (Err e) = record { number = too_many_frames; tables = e.instead }

-- ---- one page of the tables

-- what `get_or` gives past the end of an array; no index in range reaches it
abbrev pub zero_copy : Copy
zero_copy = record { frame = 0; current = false; recent = false }

abbrev pub zero_page : Page
zero_page = record { rights = []; copies = []; owner = 0; n = 0 }

abbrev pub page_at : Tables → ℕ → Page
page_at t p = get_or t.pages p zero_page
