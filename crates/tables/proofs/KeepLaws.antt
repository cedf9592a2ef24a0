-- A change that is seen at a glance to leave a record as it is does so; one between records without frames leaves the
-- register.
use Prim.Native.Nat.{ℕ, ◌+◌, ◌≤◌, ◌<◌}
use mathlib.Core.Path.{◌≡◌, refl, sym, ap, ap₂, ◌∙◌}
use mathlib.Core.Bool.{Bool, true, false, not, ◌&&◌, ◌||◌, cond, false≢true}
use mathlib.Core.List.{List, [], ◌∷◌, map}
use native.Mathlib.Omega.{arith}
use lib.ListN.{length, get_or, set}
use lib.Seq.{set_out, set-get_or}
use lib.Dec.{leb, ltb}
use borrow.Author.Tests.{leb-true, ltb-true, eqb-true}
use Rattle.tables.specs.declared.Copy.{Copy}
use Rattle.tables.specs.declared.Page.{Page}
use Rattle.tables.specs.declared.Tables.{Tables}
use Rattle.tables.specs.declared.Edit.{Edit}
use Rattle.tables.specs.declared.Edit.TheVariants.{Kept, Created, Deleted, Granted, Staled, Placed, Added, Removed, Marked}
use Rattle.tables.specs.Lists.{all}
use Rattle.tables.specs.Model.{free_entry, retired_entry, is_null, copies_in_use, with_pages, zero_copy, zero_page, page_at}
use Rattle.tables.specs.Rules.{sound}
use Rattle.tables.specs.Register.{entry_for, vacated, occupied, reregistered}
use Rattle.tables.specs.Changes.{stale_copy, with_current, with_copies, changed, change_to, edited, with_retired, after}
use Rattle.tables.specs.Keep.{stays_recent, agree, current_is, leaves_record}
use Rattle.tables.proofs.ListLaws.{and_left, and_right}
use Rattle.tables.proofs.RuleLaws.{pages_once, Sound, sound_of}
use Rattle.tables.proofs.RegisterLaws.{register_same, retired_none}
use Rattle.tables.proofs.Allowed.{FrameOk}
use Rattle.tables.proofs.ChangeSound.{retired_right}

copy_stays : (c : Copy) → stays_recent c ≡ true → stale_copy c ≡ c
copy_stays c e = ap (λ (b : Bool). record { frame = c.frame; current = c.current; recent = b }) (go c.recent c.current e)
  where
    go : (r u : Bool) → (u || not r) ≡ true → (r && u) ≡ r
    go true true h = refl
    go true false h = h
    go false u h = refl

copies_stay : (cs : List Copy) → all stays_recent cs ≡ true → map stale_copy cs ≡ cs
unfolding all
copies_stay [] e = refl
copies_stay (c ∷ cs) e =
    ap₂ (λ (x : Copy) (xs : List Copy). x ∷ xs) (copy_stays c (and_left (stays_recent c) _ e)) (copies_stay cs (and_right (stays_recent c) _ e))

agree_same : (a b : Bool) → agree a b ≡ true → b ≡ a
agree_same true true e = refl
agree_same true false e = e
agree_same false true e = sym e
agree_same false false e = refl

marks_stay : (cs : List Copy) (k : ℕ) (b : Bool) → current_is cs k b ≡ true → set cs k (with_current (get_or cs k zero_copy) b) ≡ cs
marks_stay cs k b e = go (leb (length cs) k) refl e
  where
    go : (x : Bool) → leb (length cs) k ≡ x → (x || agree (get_or cs k zero_copy).current b) ≡ true
        → set cs k (with_current (get_or cs k zero_copy) b) ≡ cs
    go true q h = set_out cs k _ (leb-true (length cs) k q)
    go false q h =
        ap (λ (z : Bool). set cs k (with_current (get_or cs k zero_copy) z)) (agree_same (get_or cs k zero_copy).current b h)
        ∙ set-get_or cs k zero_copy

pub leaves_same : (g : Page) (c : Edit) → leaves_record g c ≡ true → changed g c ≡ g
unfolding changed leaves_record
leaves_same g Kept e = refl
leaves_same g (Created station) e = absurd (false≢true e)
leaves_same g Deleted e = absurd (false≢true e)
leaves_same g (Granted station right) e = absurd (false≢true e)
leaves_same g Staled e = ap (with_copies g g.n) (copies_stay g.copies e)
leaves_same g (Placed frame) e = absurd (false≢true e)
leaves_same g (Added frame recent) e = absurd (false≢true e)
leaves_same g (Removed k) e = absurd (false≢true e)
leaves_same g (Marked k current) e = ap (with_copies g g.n) (marks_stay g.copies k current e)

-- Where the record of a page is put back as it was, a free frame is retired, and nothing else; any number past the
-- register is no frame.
pub kept_after : (t : Tables) (p x : ℕ) → sound t ≡ true → (x < 254 → FrameOk t x)
    → after t (change_to p (page_at t p) x) ≡ with_retired t x
unfolding after
kept_after t p x ok free = rw (set-get_or t.pages p zero_page, by (ltb p 64) refl)
  where
    s : Sound t
    s = sound_of t ok

    out : List ℕ
    out = set t.register x retired_entry

    by : (b : Bool) → ltb p 64 ≡ b → cond b (reregistered p (page_at t p) (page_at t p) out) out ≡ out
    by true e = register_same s.paged (pages_once t s.once) (retired_right t s x free) p (ltb-true p 64 e)
    by false e = refl

-- sound tables are then as they were
pub unchanged_after : (t : Tables) (p : ℕ) (c : Edit) → sound t ≡ true → leaves_record (page_at t p) c ≡ true → after t (edited t p c 255) ≡ t
unchanged_after t p c ok e =
    ap (λ (g : Page). after t (change_to p g 255)) (leaves_same (page_at t p) c e)
    ∙ kept_after t p 255 ok (λ l. absurd (omega arith))
    ∙ retired_none t (sound_of t ok).right.register_long

-- ---- a record without frames in the place of another

vacated_frameless : (cs : List Copy) (r : List ℕ) → length r ≤ 255 → all is_null cs ≡ true → vacated cs r ≡ r
unfolding vacated all
vacated_frameless [] r h e = refl
vacated_frameless (c ∷ cs) r h e =
    let none : c.frame ≡ 255 = eqb-true c.frame 255 (and_left (is_null c) _ e) in
    ap (vacated cs) (set_out r c.frame free_entry (rw none h)) ∙ vacated_frameless cs r h (and_right (is_null c) _ e)

occupied_frameless : (p k : ℕ) (cs : List Copy) (r : List ℕ) → length r ≤ 255 → all is_null cs ≡ true → occupied p k cs r ≡ r
unfolding occupied all
occupied_frameless p k [] r h e = refl
occupied_frameless p k (c ∷ cs) r h e =
    let none : c.frame ≡ 255 = eqb-true c.frame 255 (and_left (is_null c) _ e) in
    ap (occupied p (k + 1) cs) (set_out r c.frame (entry_for p k) (rw none h)) ∙ occupied_frameless p (k + 1) cs r h (and_right (is_null c) _ e)

-- the register is as it was
pub frameless_after : (t : Tables) (p : ℕ) (g : Page) → length t.register ≡ 254 → all is_null (copies_in_use (page_at t p)) ≡ true → all is_null (copies_in_use g) ≡ true
    → after t (change_to p g 255) ≡ with_pages t (set t.pages p g) t.register
unfolding after
frameless_after t p g long e e' =
    ap (with_pages t (set t.pages p g)) (rw (set_out r 255 retired_entry (omega arith)) (by (ltb p 64)))
  where
    r : List ℕ
    r = t.register

    by : (b : Bool) → cond b (reregistered p (page_at t p) g r) r ≡ r
    by true = ap (occupied p 0 (copies_in_use g)) (vacated_frameless (copies_in_use (page_at t p)) r (omega arith) e) ∙ occupied_frameless p 0 (copies_in_use g) r (omega arith) e'
    by false = refl
