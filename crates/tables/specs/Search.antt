-- Document 01, step 11: "it goes through the pages in order and each one's copies, and stops at the first on that
-- frame".
use Rattle.std.specs.Prelude.{ℕ, ◌+◌, Bool, cond, List, [], ◌∷◌, ◌≡◌, get_or, eqb}
use Rattle.tables.specs.declared.Copy.{Copy}
use Rattle.tables.specs.declared.Page.{Page}
use Rattle.tables.specs.declared.Tables.{Tables}
use Rattle.tables.specs.declared.Holder.{Holder}
use Rattle.tables.specs.declared.Holder.TheVariants.{At, Free, Retired}
use Rattle.tables.specs.Model.{retired_at, copies_in_use, on_frame}

-- among the copies of page p, numbered from c on; `later` is what the pages after p give
unfoldable pub in_copies : ℕ → ℕ → ℕ → List Copy → Holder → Holder
in_copies f p c [] later = later
in_copies f p c (x ∷ xs) later = cond (on_frame f x) (At p c) (in_copies f p (c + 1) xs later)

-- among the pages, numbered from p on
unfoldable pub in_pages : ℕ → ℕ → List Page → Holder
in_pages f p [] = Free
in_pages f p (g ∷ gs) = in_copies f p 0 (copies_in_use g) (in_pages f (p + 1) gs)

-- the first copy on frame f in the order of pages and copies, or free
abbrev pub searched : Tables → ℕ → Holder
searched t f = in_pages f 0 t.pages

-- Document 02, request [5]: "A frame is from now on free, held or retired". A retired frame has no copy where the table
-- rules are kept.
abbrev pub holder_of : Tables → ℕ → Holder
holder_of t f = cond (retired_at t f) Retired (searched t f)

-- "1, page, copy. Free: 0, 255, 255", and request [5]: "2, 255, 255": the papers' number and values for each case, the
-- number first
abbrev pub shown : Holder → List ℕ
shown (At p c) = 1 ∷ p ∷ c ∷ []
shown Free = 0 ∷ 255 ∷ 255 ∷ []
shown Retired = 2 ∷ 255 ∷ 255 ∷ []

-- the promise of a function that gives the holder of a frame, which is h: its answer r is h, with the papers' number
-- and values
pub record HolderIs (h r : Holder) : Type 0 where
  pub case : r ≡ h
  pub values : shown r ≡ shown h

-- whether a look at the frame shows 0: exactly where "no copy has it" and the frame is not retired (`free_holder`)
abbrev pub is_free : Holder → Bool
is_free h = eqb (get_or (shown h) 0 0) 0

-- whether a look at the frame shows 2
abbrev pub is_retired : Holder → Bool
is_retired h = eqb (get_or (shown h) 0 0) 2
