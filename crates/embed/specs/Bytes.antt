-- The tables as bytes: P, S, then each page, which is the sixteen rights, the eight entries of three bytes, the owner
-- and n, then the register, two bytes, the low one first, for each frame number.
use Rattle.std.specs.Prelude.{ℕ, zero, suc, ◌+◌, ◌*◌, ◌/◌, ◌%◌, Bool, cond, get_or, take, drop, eqb}
use mathlib.Core.List.{List, [], ◌∷◌, ◌++◌, flat_map}
use Rattle.tables.specs.declared.Copy.{Copy}
use Rattle.tables.specs.declared.Page.{Page}
use Rattle.tables.specs.declared.Tables.{Tables}
use Rattle.tables.specs.Model.{sized}
use Rattle.steps.specs.Data.{copy_marks_valid, each_is}

-- ---- sizes

-- how many bytes a page takes, where the register begins, and how many bytes the tables take
abbrev pub page_size : ℕ
page_size = 42

abbrev pub register_at : ℕ
register_at = 2 + 64 * page_size

abbrev pub tables_size : ℕ
tables_size = register_at + 2 * 254

-- ---- laid out

abbrev pub mark_byte : Bool → ℕ
mark_byte b = cond b 1 0

-- an entry: its frame, CURRENT and MOST RECENT
abbrev pub copy_bytes : Copy → List ℕ
copy_bytes c = c.frame ∷ mark_byte c.current ∷ mark_byte c.recent ∷ []

unfoldable pub page_bytes : Page → List ℕ
page_bytes g = g.rights ++ (flat_map copy_bytes g.copies ++ (g.owner ∷ g.n ∷ []))

-- an entry of the register: a number of two bytes, the low one first
abbrev pub le16 : ℕ → List ℕ
le16 n = n % 256 ∷ n / 256 % 256 ∷ []

unfoldable pub tables_bytes : Tables → List ℕ
tables_bytes t = t.shared.p ∷ t.shared.s ∷ flat_map page_bytes t.pages ++ flat_map le16 t.register

-- ---- read back

abbrev pub mark_from : ℕ → Bool
mark_from b = eqb (b % 2) 1

-- k values, one from each `size` bytes
unfoldable pub from_each : {A : Type 0} → ℕ → ℕ → (List ℕ → A) → List ℕ → List A
from_each zero size from bytes = []
from_each (suc k) size from bytes = from bytes ∷ from_each k size from (drop size bytes)

abbrev pub copy_from : List ℕ → Copy
copy_from b = record { frame = get_or b 0 0; current = mark_from (get_or b 1 0); recent = mark_from (get_or b 2 0) }

unfoldable pub page_from : List ℕ → Page
page_from b =
    record {
      rights = take 16 b;
      copies = from_each 8 3 copy_from (drop 16 b);
      owner = get_or b 40 0;
      n = get_or b 41 0;
    }

-- an entry of the register
abbrev pub entry_from : List ℕ → ℕ
entry_from b = get_or b 0 0 + 256 * get_or b 1 0

unfoldable pub tables_from : List ℕ → Tables
tables_from b =
    record {
      shared = sized (get_or b 0 0) (get_or b 1 0);
      pages = from_each 64 page_size page_from (drop 2 b);
      register = from_each 254 2 entry_from (drop register_at b);
    }

-- ---- the marks

unfoldable pub page_marks_valid : List ℕ → Bool
page_marks_valid b = each_is 8 3 copy_marks_valid (drop 16 b)

-- whether both marks of each entry of every page are 0 or 1
unfoldable pub marks_valid : List ℕ → Bool
marks_valid b = each_is 64 page_size page_marks_valid (drop 2 b)
