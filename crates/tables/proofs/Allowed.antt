-- When a step may make a change, of a page with record g in tables t: what the table rules ask of it.
use Prim.Native.Nat.{ℕ, ◌≤◌, ◌<◌}
use mathlib.Core.Bool.{Bool, true, false, ◌&&◌}
use mathlib.Core.Path.{◌≡◌}
use lib.Dec.{eqb}
use native.Mathlib.Omega.{arith}
use lib.ListN.{get_or}
use lib.Seq.{set-get_or}
use Rattle.tables.specs.declared.Page.{Page}
use Rattle.tables.specs.declared.Tables.{Tables}
use Rattle.tables.specs.declared.Edit.{Edit}
use Rattle.tables.specs.declared.Edit.TheVariants.{Kept, Created, Deleted, Granted, Staled, Placed, Added, Removed, Marked}
use Rattle.tables.specs.Lists.{count}
use Rattle.tables.specs.Model.{frames, is_null, copies_in_use, absent, zero_copy, zero_page, page_at}
use Rattle.tables.specs.Rules.{holders, free, is_recent, is_current}
use Rattle.tables.specs.Changes.{changed, edited, after}
use Rattle.tables.proofs.HolderLaws.{free_nobody}

-- a right of a page that stands
pub record GrantOk (g : Page) (right : ℕ) : Type 0 where
  pub stands : absent g ≡ false
  pub low : right ≤ 2

-- the marks after a write: a CURRENT copy was written to
pub record StaleOk (g : Page) : Type 0 where
  pub stands : absent g ≡ false
  pub written : 1 ≤ count is_current (copies_in_use g)

-- a frame for a new copy, or to be retired
pub record FrameOk (t : Tables) (frame : ℕ) : Type 0 where
  pub in_range : frame < frames t
  pub unused : free t frame ≡ true

-- a copy in place of the first
pub record PlaceOk (t : Tables) (g : Page) (frame : ℕ) : Type 0 where
  pub onto : FrameOk t frame
  pub stands : absent g ≡ false

-- a copy of copy `from`, which has a frame
pub record AddOk (t : Tables) (g : Page) (frame : ℕ) : Type 0 where
  pub onto : FrameOk t frame
  pub room : g.n < 8
  pub from : ℕ
  pub from_in : from < g.n
  pub from_placed : is_null (get_or g.copies from zero_copy) ≡ false

-- copy k is not the only MOST RECENT one
pub record RemoveOk (g : Page) (k : ℕ) : Type 0 where
  pub in_use : k < g.n
  pub not_last : ((get_or g.copies k zero_copy).recent && eqb (count is_recent (copies_in_use g)) 1) ≡ false

-- copy k may be CURRENT if it is MOST RECENT and has a frame
pub record MarkOk (g : Page) (k : ℕ) (current : Bool) : Type 0 where
  pub in_use : k < g.n
  pub fresh : current ≡ true → (get_or g.copies k zero_copy).recent ≡ true
  pub placed : current ≡ true → is_null (get_or g.copies k zero_copy) ≡ false

-- a step may make change c of a page with record g
abbrev pub AllowedOn : Tables → Page → Edit → Type 0
AllowedOn t g Kept = Unit {0}
AllowedOn t g (Created station) = station < 16
AllowedOn t g Deleted = Unit {0}
AllowedOn t g (Granted station right) = GrantOk g right
AllowedOn t g Staled = StaleOk g
AllowedOn t g (Placed frame) = PlaceOk t g frame
AllowedOn t g (Added frame recent) = AddOk t g frame
AllowedOn t g (Removed k) = RemoveOk g k
AllowedOn t g (Marked k current) = MarkOk g k current

-- of page p
abbrev pub Allowed : Tables → ℕ → Edit → Type 0
Allowed t p c = AllowedOn t (page_at t p) c

-- and retire frame x besides, if that is one: it is free, and no copy has it afterwards
pub record RetireOk (t : Tables) (p : ℕ) (c : Edit) (x : ℕ) : Type 0 where
  pub out : FrameOk t x
  pub bare : holders (after t (edited t p c x)) x ≡ 0

abbrev pub MayRetire : Tables → ℕ → Edit → ℕ → Type 0
MayRetire t p c x = x < 254 → RetireOk t p c x

-- none is retired
pub retires_none : (t : Tables) (p : ℕ) (c : Edit) → MayRetire t p c 255
retires_none t p c h = absurd (omega arith)

-- a free one, where the record stays
pub retires_free : (t : Tables) (p x : ℕ) → FrameOk t x → MayRetire t p Kept x
unfolding changed after holders
retires_free t p x ok h = record { out = ok; bare = rw (set-get_or t.pages p zero_page) (free_nobody t x ok.unused) }
