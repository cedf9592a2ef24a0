-- Each change keeps the table rules, where a step may make it; and which frames are retired after it.
use Prim.Native.Nat.{ℕ, ◌+◌, ◌≤◌, ◌<◌, zero-le}
use mathlib.Core.Bool.{Bool, true, false, cond, true≢false}
use mathlib.Core.List.{List}
use mathlib.Core.Path.{◌≡◌, refl, sym, ap, subst, ◌∙◌}
use native.Mathlib.Decide.{ℕ_discrete}
use native.Mathlib.Nat.{le_refl}
use native.Mathlib.Omega.{arith}
use lib.Dec.{ltb, eqb}
use lib.ListN.{length, get_or, set, length-set, get_or-eq_default}
use lib.Seq.{get_or-set_same, get_or-set_other}
use borrow.Author.Tests.{eqb-true, ne_eqb, lt-ltb, ltb-true, ltb-false}
use Rattle.tables.specs.declared.Page.{Page}
use Rattle.tables.specs.declared.Tables.{Tables}
use Rattle.tables.specs.declared.Edit.{Edit}
use Rattle.tables.specs.declared.Edit.TheVariants.{Kept, Created, Deleted, Granted, Staled, Placed, Added, Removed, Marked}
use Rattle.tables.specs.Lists.{count}
use Rattle.tables.specs.Model.{frames, free_entry, retired_entry, is_retired_entry, retired_at, copies_in_use, absent, fresh_page, zero_page, page_at, on_frame}
use Rattle.tables.specs.Search.{in_pages}
use Rattle.tables.specs.Rules.{uses, holders, free, page_rule, sound}
use Rattle.tables.specs.Register.{entry_of, entry_rule, reregistered}
use Rattle.tables.specs.Changes.{created, granted, changed, edited, with_retired, after}
use Rattle.tables.proofs.RuleLaws.{StandingPage, of_standing, fresh_page_ok, PagesOk, pages_ruled, Once, pages_once, RegisterOk, right_held, right_out, entry_held, out_low, out_idle, Sound, sound_of, of_sound, few_frames, few_uses, standing_at}
use Rattle.tables.proofs.RegisterLaws.{length_moved, moved_held, moved_out, entry_in, searched_low}
use Rattle.tables.proofs.HolderLaws.{free_kept, free_nobody}
use Rattle.tables.proofs.FreshLaws.{fresh_on}
use Rattle.tables.proofs.UsesLaws.{uses_set, uses_at, uses_hold}
use Rattle.tables.proofs.Allowed.{FrameOk, Allowed, MayRetire}
use Rattle.tables.proofs.PageChanges.{staled_ok, placed_ok, marked_ok, added_ok, removed_ok, granted_ok, created_ok, staled_on, marked_on, removed_on, placed_on, added_on, created_on}

-- ---- one frame more is retired

-- it is in range, and no copy is on it; a number past the register changes nothing
out_right : {limit : ℕ} {gs : List Page} {r : List ℕ} → RegisterOk limit gs r → (x : ℕ) → (x < 254 → (x < limit) × (uses x gs ≡ 0))
    → RegisterOk limit gs (set r x retired_entry)
out_right {limit} {gs} {r} s x ok =
    record { register_long = length-set r x retired_entry ∙ s.register_long; entry_ok = λ f l. at f l (ℕ_discrete f x) }
  where
    at : (f : ℕ) → f < 254 → Dec (f ≡ x) → entry_rule limit f (in_pages f 0 gs) (get_or (set r x retired_entry) f free_entry) ≡ true
    at f l (yes e) =
        let k : x < 254 = rw e at l in
        let own : get_or (set r x retired_entry) f free_entry ≡ retired_entry = rw e (get_or-set_same r x retired_entry free_entry (rw s.register_long k)) in
        right_out limit f gs (get_or (set r x retired_entry) f free_entry) (ap is_retired_entry own) (rw e (ok k).0) (rw e (ok k).1)
    at f l (no d) = rw (get_or-set_other r x f retired_entry free_entry d) (s.entry_ok f l)

pub retired_right : (t : Tables) → Sound t → (x : ℕ) → (x < 254 → FrameOk t x) → RegisterOk (frames t) t.pages (set t.register x retired_entry)
retired_right t s x ok = out_right s.right x (λ l. ((ok l).in_range, omega (arith, uses_hold t x, free_nobody t x (ok l).unused)))

-- ---- the record of page p becomes g

-- What the rules ask of it, among pages gs with the register r: its own, that no frame comes under two copies, and that
-- no copy is on a retired frame.
record Fits (limit : ℕ) (gs : List Page) (r : List ℕ) (p : ℕ) (g : Page) : Type 0 where
  ruled : page_rule limit g ≡ true
  once : Once limit (set gs p g)
  bare : (f : ℕ) → is_retired_entry (get_or r f free_entry) ≡ true → uses f (set gs p g) ≡ 0

module _ {limit : ℕ} {gs : List Page} {r : List ℕ} {p : ℕ} {g : Page} (near : p < 64) (paged : PagesOk limit gs) (once : Once limit gs)
    (right : RegisterOk limit gs r) (w : Fits limit gs r p g) where
  abbrev new : List Page
  new = set gs p g

  abbrev entries : List ℕ
  entries = reregistered p (get_or gs p zero_page) g r

  new_paged : PagesOk limit new
  new_paged = record { pages_long = length-set gs p g ∙ paged.pages_long; page_ok = λ k l. at k l (ℕ_discrete k p) }
    where
      at : (k : ℕ) → k < 64 → Dec (k ≡ p) → page_rule limit (get_or new k zero_page) ≡ true
      at k l (yes e) = rw (e, get_or-set_same gs p g zero_page (rw paged.pages_long near)) w.ruled
      at k l (no d) = rw (get_or-set_other gs p k g zero_page d) (paged.page_ok k l)

  -- a retired frame stays so
  stays_out : (f : ℕ) → f < 254 → is_retired_entry (get_or r f free_entry) ≡ true → get_or entries f free_entry ≡ retired_entry
  stays_out f l out =
      let old = uses_at f gs p in
      let own = uses_at f new p in
      let here : count (on_frame f) (copies_in_use g) ≤ uses f new = rw (get_or-set_same gs p g zero_page (rw paged.pages_long near)) at own in
      let z = out_idle right f out in
      let z' = w.bare f out in
      moved_out p (get_or gs p zero_page) g r f (rw right.register_long l) (omega arith) (omega arith) out

  -- and any other has the entry of the copy that the search now finds
  now_held : (f : ℕ) → f < 254 → is_retired_entry (get_or r f free_entry) ≡ false → get_or entries f free_entry ≡ entry_of (in_pages f 0 new)
  now_held f l kept =
      moved_held gs p g f (rw paged.pages_long near) (few_uses limit gs (pages_ruled paged) once f l)
      (few_uses limit new (pages_ruled new_paged) w.once f l) r (rw right.register_long l) (entry_held right f l kept)

  now_in : (f : ℕ) → f < 254 → is_retired_entry (get_or r f free_entry) ≡ false → is_retired_entry (get_or entries f free_entry) ≡ false
  now_in f l kept = ap is_retired_entry (now_held f l kept) ∙ entry_in (in_pages f 0 new) (searched_low limit new new_paged f)

  long : length entries ≡ 254
  long = length_moved p (get_or gs p zero_page) g r ∙ right.register_long

  -- so the same frames are retired
  out_same : (f : ℕ) → is_retired_entry (get_or entries f free_entry) ≡ is_retired_entry (get_or r f free_entry)
  out_same f = by (ltb f 254) refl (is_retired_entry (get_or r f free_entry)) refl
    where
      by : (n : Bool) → ltb f 254 ≡ n → (b : Bool) → is_retired_entry (get_or r f free_entry) ≡ b → is_retired_entry (get_or entries f free_entry) ≡ b
      by true n true e = ap is_retired_entry (stays_out f (ltb-true f 254 n) e)
      by true n false e = now_in f (ltb-true f 254 n) e
      by false n b e =
          let far = ltb-false f 254 n in
          ap is_retired_entry (get_or-eq_default entries free_entry {n = f} (rw long far) ∙ sym (get_or-eq_default r free_entry {n = f} (rw right.register_long far)))
          ∙ e

  new_right : RegisterOk limit new entries
  new_right = record { register_long = long; entry_ok = λ f l. at f l (is_retired_entry (get_or r f free_entry)) refl }
    where
      at : (f : ℕ) → f < 254 → (b : Bool) → is_retired_entry (get_or r f free_entry) ≡ b → entry_rule limit f (in_pages f 0 new) (get_or entries f free_entry) ≡ true
      at f l true e =
          right_out limit f new (get_or entries f free_entry) (ap is_retired_entry (stays_out f l e)) (out_low right f e) (w.bare f e)
      at f l false e = right_held limit f (in_pages f 0 new) (get_or entries f free_entry) (now_in f l e) (now_held f l e)

-- ---- what a step may make of the record fits

module _ (t : Tables) (p : ℕ) (h : p < 64) (s : Sound t) where
  alone : Once (frames t) t.pages
  alone = pages_once t s.once

  -- one with no copy on another frame
  fewer : (g : Page) → page_rule (frames t) g ≡ true
      → ((f : ℕ) → f < frames t → count (on_frame f) (copies_in_use g) ≤ count (on_frame f) (copies_in_use (page_at t p))) → Fits (frames t) t.pages t.register p g
  fewer g ok le =
      record {
        ruled = ok;
        once = λ f l. let u = uses_set f t.pages p g (rw s.paged.pages_long h) in let k = le f l in let o = alone f l in omega arith;
        bare = λ f out.
            let u = uses_set f t.pages p g (rw s.paged.pages_long h) in
            let k = le f (out_low s.right f out) in
            let z = out_idle s.right f out in
            omega arith;
      }

  -- one with a new copy on a free frame
  onto : (g : Page) (x : ℕ) → page_rule (frames t) g ≡ true → free t x ≡ true
      → ((f : ℕ) → count (on_frame f) (copies_in_use g) ≤ count (on_frame f) (copies_in_use (page_at t p)) + cond (eqb x f) 1 0) → Fits (frames t) t.pages t.register p g
  onto g x ok un le = record { ruled = ok; once = λ f l. by f l (eqb x f) refl (le f); bare = λ f out. clear f out (eqb x f) refl (le f) }
    where
      clear : (f : ℕ) → retired_at t f ≡ true → (b : Bool) → eqb x f ≡ b
          → count (on_frame f) (copies_in_use g) ≤ count (on_frame f) (copies_in_use (page_at t p)) + cond b 1 0 → uses f (set t.pages p g) ≡ 0
      clear f out true e k = absurd (true≢false (sym out ∙ subst (λ (y : ℕ). retired_at t y ≡ false) (eqb-true x f e) (free_kept t x un)))
      clear f out false e k =
          let u = uses_set f t.pages p g (rw s.paged.pages_long h) in
          let z = out_idle s.right f out in
          omega arith

      by : (f : ℕ) → f < frames t → (b : Bool) → eqb x f ≡ b
          → count (on_frame f) (copies_in_use g) ≤ count (on_frame f) (copies_in_use (page_at t p)) + cond b 1 0 → uses f (set t.pages p g) ≤ 1
      by f l true e k =
          let z : holders t f ≡ 0 = rw (eqb-true x f e) at (free_nobody t x un) in
          let y = uses_hold t f in
          let u = uses_set f t.pages p g (rw s.paged.pages_long h) in
          omega arith
      by f l false e k =
          let u = uses_set f t.pages p g (rw s.paged.pages_long h) in
          let o = alone f l in
          omega arith

  small : frames t ≤ 254
  small = few_frames s

  up : absent (page_at t p) ≡ false → StandingPage (frames t) (page_at t p)
  up st = standing_at t p s h st

  -- a page that has a copy k stands
  has : {k : ℕ} → k < (page_at t p).n → StandingPage (frames t) (page_at t p)
  has l = up (ne_eqb (page_at t p).n 0 (λ z. omega arith))

  allowed_fits : (c : Edit) → Allowed t p c → Fits (frames t) t.pages t.register p (changed (page_at t p) c)
  unfolding changed
  allowed_fits Kept a = fewer (page_at t p) (s.paged.page_ok p h) (λ f l. le_refl _)
  allowed_fits (Created st) a = fewer (created st) (of_standing (created_ok (frames t) st a)) (λ f l. rw (created_on st f (omega (arith, small))) zero-le)
  allowed_fits Deleted a = fewer fresh_page (fresh_page_ok (frames t)) (λ f l. rw (fresh_on f) zero-le)
  allowed_fits (Granted o r) a = fewer (granted (page_at t p) o r) (of_standing (granted_ok (up a.stands) o r a.low)) (λ f l. le_refl _)
  allowed_fits Staled a =
      let g = up a.stands in
      fewer (changed (page_at t p) Staled) (of_standing (staled_ok g a)) (λ f l. rw (staled_on g f) (le_refl _))
  allowed_fits (Placed x) a =
      let g = up a.stands in
      onto (changed (page_at t p) (Placed x)) x (of_standing (placed_ok g x a.onto.in_range small)) a.onto.unused (λ f. omega (arith, placed_on g x f))
  allowed_fits (Added x r) a =
      let g = has a.from_in in
      onto (changed (page_at t p) (Added x r)) x
      (of_standing (added_ok g x r a.onto.in_range small a.room a.from a.from_in a.from_placed)) a.onto.unused
      (λ f. rw (added_on g x r f a.room) (le_refl _))
  allowed_fits (Removed k) a =
      let g = has a.in_use in
      fewer (changed (page_at t p) (Removed k)) (of_standing (removed_ok g k a)) (λ f l. omega (arith, removed_on g k f a.in_use))
  allowed_fits (Marked k b) a =
      let g = has a.in_use in
      fewer (changed (page_at t p) (Marked k b)) (of_standing (marked_ok g k b a)) (λ f l. rw (marked_on g k b f a.in_use) (le_refl _))

-- ---- the change as a whole: the frame is retired, and the record put in

module _ (t : Tables) (p : ℕ) (c : Edit) (x : ℕ) (near : p < 64) (ok : sound t ≡ true) (a : Allowed t p c) (may : MayRetire t p c x) where
  before : Sound t
  before = sound_of t ok

  alone_before : Once (frames t) t.pages
  alone_before = pages_once t before.once

  first : RegisterOk (frames t) t.pages (set t.register x retired_entry)
  first = retired_right t before x (λ l. (may l).out)

  -- no copy comes onto a frame that is retired now or was before
  then_fits : Fits (frames t) t.pages (set t.register x retired_entry) p (changed (page_at t p) c)
  unfolding after
  then_fits = record { ruled = w.ruled; once = w.once; bare = λ f out. at f out (ℕ_discrete f x) }
    where
      w : Fits (frames t) t.pages t.register p (changed (page_at t p) c)
      w = allowed_fits t p near before c a

      at : (f : ℕ) → retired_at (with_retired t x) f ≡ true → Dec (f ≡ x) → uses f (set t.pages p (changed (page_at t p) c)) ≡ 0
      at f out (yes e) =
          let few = few_frames before in
          let l = out_low first f out in
          rw e (omega (arith, uses_hold (after t (edited t p c x)) x, (may (omega arith)).bare))
      at f out (no d) = w.bare f (rw (get_or-set_other t.register x f retired_entry free_entry d) at out)

  -- a change that a step may make keeps the table rules, one by one
  pub sound_after : sound (after t (edited t p c x)) ≡ true
  unfolding after holders
  sound_after =
      of_sound _
      (record {
        sizes = before.sizes;
        paged = new_paged near before.paged alone_before first then_fits;
        once = then_fits.once;
        right = rw (lt-ltb p 64 near) (new_right near before.paged alone_before first then_fits);
      })

  -- and retires its frame alone
  pub retired_after : (f : ℕ) → retired_at (after t (edited t p c x)) f ≡ retired_at (with_retired t x) f
  unfolding after
  retired_after f = rw (lt-ltb p 64 near) (out_same near before.paged alone_before first then_fits f)
