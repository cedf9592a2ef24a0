-- Document 02, request [6]: "The recipe page and the price page relied on 0: their stations must send fifteen grants of
-- right 0 before the first write." The kernel checks none of it. Here are the create and these grants as a call file,
-- and what a run over it leaves: a closed page, of which every station but its owner has right 0.
use Rattle.std.specs.Prelude.{ℕ, ◌≤◌, ◌<◌, ◌≡◌, true, cond, length, set, replicate, eqb}
use mathlib.Core.List.{List, [], ◌∷◌, map, flatten}
use Rattle.tables.specs.declared.Page.{Page}
use Rattle.tables.specs.declared.Tables.{Tables}
use Rattle.tables.specs.Model.{null_frame, absent, fresh_copy, page_at, with_pages}
use Rattle.tables.specs.Rules.{sound}
use Rattle.tables.specs.Changes.{new_copy, change_to, after}
use Rattle.steps.specs.declared.Kind.TheVariants.{Create, Grant}
use Rattle.steps.specs.declared.Call.{Call}
use Rattle.steps.specs.Kinds.{call_of}
use Rattle.steps.specs.Stores.{fits}
use Rattle.steps.specs.Effects.{State}
use Rattle.steps.specs.Promises.{state_of}
use Rattle.messages.specs.Run.{Run, run, replies}
use Rattle.stations.specs.Writer.{written, message_in}

-- ---- the sixteen messages

-- "stations 0 to 15"
abbrev pub all_stations : List ℕ
all_stations = 0 ∷ 1 ∷ 2 ∷ 3 ∷ 4 ∷ 5 ∷ 6 ∷ 7 ∷ 8 ∷ 9 ∷ 10 ∷ 11 ∷ 12 ∷ 13 ∷ 14 ∷ 15 ∷ []

-- some stations, but for one
unfoldable pub besides : ℕ → List ℕ → List ℕ
besides station [] = []
besides station (x ∷ xs) = cond (eqb x station) (besides station xs) (x ∷ besides station xs)

-- "create (station, page)"
abbrev pub create_call : ℕ → ℕ → Call
create_call station page = call_of Create (station ∷ page ∷ [])

-- "grant (station, page, other station, right)", of right 0
abbrev pub close_call : ℕ → ℕ → ℕ → Call
close_call station page other = call_of Grant (station ∷ page ∷ other ∷ 0 ∷ [])

-- the create, and the grants in ascending order of the other station
abbrev pub closing_calls : ℕ → ℕ → List Call
closing_calls station page =
    create_call station page ∷ map (close_call station page) (besides station all_stations)

-- calls, none of them a write, as the writer of request [4] lays them, one behind the other
abbrev pub file_for : List Call → List ℕ
file_for cs = flatten (map (λ (c : Call). message_in (written 71 c [])) cs)

abbrev pub closing_file : ℕ → ℕ → List ℕ
closing_file station page = file_for (closing_calls station page)

-- ---- what they leave

-- Document 01, step 1, before request [6]: "the page stands with one null copy; the station is owner with right 2,
-- others 0"
abbrev pub closed_page : ℕ → Page
closed_page station =
    record {
      rights = set (replicate 16 0) station 2;
      copies = set (replicate 8 fresh_copy) 0 (new_copy null_frame true);
      owner = station;
      n = 1;
    }

-- the tables with this record of the page; every other page, the register and all else are as they were
abbrev pub closed_tables : Tables → ℕ → ℕ → Tables
closed_tables t station page = with_pages t (set t.pages page (closed_page station)) t.register

-- of a run r over the closing file of a page, from state s and with a reply buffer of `room` bytes
pub record Closed (room station page : ℕ) (s : State) (r : Run) : Type 0 where
  -- each of the sixteen is accepted, and lays nothing
  pub answers : replies room r.turns ≡ replicate 16 (0 ∷ 4 ∷ 1 ∷ 0 ∷ 0 ∷ 0 ∷ [])
  -- both stores are as they were
  pub leaves : r.final ≡ state_of (closed_tables s.tables station page) s.fast s.slow

-- ---- the request

pub record Closing : Type 0 where
  -- a create of six bytes and fifteen grants of eight
  pub long : (station page : ℕ) → station < 16 → page < 64 → length (closing_file station page) ≡ 126
  -- from sound tables with fitting stores, where the page is absent
  pub closes : (room station page : ℕ) (s : State) → 70 ≤ room → station < 16 → page < 64 → sound s.tables ≡ true
      → fits s.tables (length s.fast) (length s.slow) ≡ true → absent (page_at s.tables page) ≡ true
      → Closed room station page s (run room (closing_file station page) s)
  -- these are the tables that document 01's create left
  pub as_created : (t : Tables) (station page : ℕ) → sound t ≡ true → absent (page_at t page) ≡ true
      → after t (change_to page (closed_page station) 255) ≡ closed_tables t station page
