-- What the register says of a frame, beside what the search gives.
use Prim.Native.Nat.{ℕ, zero, suc, ◌+◌, ◌*◌, ◌/◌, ◌%◌, ◌≤◌, ◌<◌}
use mathlib.Core.Bool.{Bool, true, false, ◌||◌, cond, true≢false, or-true, or-false}
use mathlib.Core.List.{List, [], ◌∷◌}
use mathlib.Core.Path.{◌≡◌, refl, sym, ap, subst, ◌∙◌}
use native.Mathlib.Decide.{ℕ_discrete}
use native.Mathlib.Nat.{not-suc-le-zero, le_of_suc-le-suc, zero-add}
use native.Mathlib.Omega.{arith}
use lib.Dec.{ltb, eqb}
use lib.ListN.{length, get_or, set, length-set}
use lib.Seq.{get_or-set_same, get_or-set_other, set_out, set-get_or, ext_get_or}
use borrow.Author.Tests.{eqb-true, eqb-false, eq-eqb, ne_eqb, lt-ltb, ltb-true}
use Rattle.tables.specs.declared.Copy.{Copy}
use Rattle.tables.specs.declared.Page.{Page}
use Rattle.tables.specs.declared.Tables.{Tables}
use Rattle.tables.specs.declared.Holder.{Holder}
use Rattle.tables.specs.declared.Holder.TheVariants.{At, Free, Retired}
use Rattle.tables.specs.Lists.{count}
use Rattle.tables.specs.Model.{frames, free_entry, retired_entry, entry_at, is_retired_entry, retired_at, on_frame, copies_in_use, fresh_page, with_pages, zero_page}
use Rattle.tables.specs.Search.{in_copies, in_pages, searched, holder_of, is_free, is_retired}
use Rattle.tables.specs.Rules.{uses, free, sound}
use Rattle.tables.specs.Register.{entry_for, entry_of, holder_of_entry, registered, vacated, occupied, reregistered}
use Rattle.tables.specs.Changes.{with_retired}
use Rattle.tables.proofs.UsesLaws.{uses_set, uses_at}
use Rattle.tables.proofs.RuleLaws.{eight, PagesOk, pages_ruled, Once, RegisterOk, entry_held, out_idle, Sound, sound_of, few_frames, few_uses}
use Rattle.tables.proofs.HolderLaws.{skip, nobody, free_holder}
use Rattle.tables.proofs.FreshLaws.{fresh_on}

-- ---- the search

-- where at most one copy is on the frame, the order of two pages does not matter
swap : (f p q : ℕ) (cs ds : List Copy) (h : Holder) → count (on_frame f) cs + count (on_frame f) ds ≤ 1
    → in_copies f p 0 cs (in_copies f q 0 ds h) ≡ in_copies f q 0 ds (in_copies f p 0 cs h)
swap f p q cs ds h few = by (ℕ_discrete (count (on_frame f) cs) 0)
  where
    by : Dec (count (on_frame f) cs ≡ 0) → in_copies f p 0 cs (in_copies f q 0 ds h) ≡ in_copies f q 0 ds (in_copies f p 0 cs h)
    by (yes e) = skip f p 0 cs (in_copies f q 0 ds h) e ∙ ap (in_copies f q 0 ds) (sym (skip f p 0 cs h e))
    by (no d) =
        let e : count (on_frame f) ds ≡ 0 = omega (arith, d) in
        ap (in_copies f p 0 cs) (skip f q 0 ds h e) ∙ sym (skip f q 0 ds (in_copies f p 0 cs h) e)

-- so the search may come to page p after all the others
pub apart : (f b : ℕ) (gs : List Page) (p : ℕ) (g : Page) → p < length gs → uses f (set gs p g) ≤ 1
    → in_pages f b (set gs p g) ≡ in_copies f (b + p) 0 (copies_in_use g) (in_pages f b (set gs p fresh_page))
unfolding in_pages in_copies uses fresh_page
apart f b [] p g h few = absurd (not-suc-le-zero h)
apart f b (x ∷ xs) zero g h few = ap (λ (q : ℕ). in_copies f q 0 (copies_in_use g) (in_pages f (b + 1) xs)) (omega arith)
apart f b (x ∷ xs) (suc p) g h few =
    let l : p < length xs = le_of_suc-le-suc h in
    let own = uses_at f (set xs p g) p in
    let here : count (on_frame f) (copies_in_use g) ≤ uses f (set xs p g) = rw (get_or-set_same xs p g zero_page l) at own in
    ap (in_copies f b 0 (copies_in_use x)) (apart f (b + 1) xs p g l (omega arith))
    ∙ swap f b (b + 1 + p) (copies_in_use x) (copies_in_use g) (in_pages f (b + 1) (set xs p fresh_page)) (omega arith)
    ∙ ap (λ (q : ℕ). in_copies f q 0 (copies_in_use g) (in_copies f b 0 (copies_in_use x) (in_pages f (b + 1) (set xs p fresh_page)))) (omega arith)

-- ---- the register, where a page's copies leave it and enter it

pub length_vacated : (cs : List Copy) (r : List ℕ) → length (vacated cs r) ≡ length r
unfolding vacated
length_vacated [] r = refl
length_vacated (c ∷ cs) r = length_vacated cs (set r c.frame free_entry) ∙ length-set r c.frame free_entry

length_occupied : (p k : ℕ) (cs : List Copy) (r : List ℕ) → length (occupied p k cs r) ≡ length r
unfolding occupied
length_occupied p k [] r = refl
length_occupied p k (c ∷ cs) r = length_occupied p (k + 1) cs _ ∙ length-set r c.frame _

-- the register is as long as it was
pub length_moved : (p : ℕ) (g g' : Page) (r : List ℕ) → length (reregistered p g g' r) ≡ length r
length_moved p g g' r = length_occupied p 0 (copies_in_use g') (vacated (copies_in_use g) r) ∙ length_vacated (copies_in_use g) r

pub either : (b : Bool) (n : ℕ) → cond b n n ≡ n
either true n = refl
either false n = refl

-- the frames that they leave are free, and the others as they were
vacated_at : (cs : List Copy) (r : List ℕ) (f : ℕ) → f < length r
    → get_or (vacated cs r) f free_entry ≡ cond (eqb (count (on_frame f) cs) 0) (get_or r f free_entry) free_entry
unfolding vacated count
vacated_at [] r f h = refl
vacated_at (c ∷ cs) r f h =
    vacated_at cs (set r c.frame free_entry) f (rw (length-set r c.frame free_entry) h) ∙ by (on_frame f c) refl
  where
    by : (b : Bool) → on_frame f c ≡ b
        → cond (eqb (count (on_frame f) cs) 0) (get_or (set r c.frame free_entry) f free_entry) free_entry
        ≡ cond (eqb (cond b 1 0 + count (on_frame f) cs) 0) (get_or r f free_entry) free_entry
    by true e =
        let own : get_or (set r c.frame free_entry) f free_entry ≡ free_entry = rw (eqb-true c.frame f e) (get_or-set_same r f free_entry free_entry h) in
        rw (own, ne_eqb (1 + count (on_frame f) cs) 0 (λ z. omega arith)) (either (eqb (count (on_frame f) cs) 0) free_entry)
    by false e =
        let d = eqb-false c.frame f e in
        let other : get_or (set r c.frame free_entry) f free_entry ≡ get_or r f free_entry = get_or-set_other r c.frame f free_entry free_entry (λ z. d (sym z)) in
        let n : 0 + count (on_frame f) cs ≡ count (on_frame f) cs = omega arith in
        rw (other, n)

-- the frames that they enter name them, as the search does that looks at them first
occupied_at : (p k : ℕ) (cs : List Copy) (r : List ℕ) (f : ℕ) (h : Holder) → f < length r → count (on_frame f) cs ≤ 1
    → get_or r f free_entry ≡ entry_of h → get_or (occupied p k cs r) f free_entry ≡ entry_of (in_copies f p k cs h)
unfolding occupied in_copies count
occupied_at p k [] r f h l few e = e
occupied_at p k (c ∷ cs) r f h l few e =
    by (on_frame f c) refl few (λ h'. occupied_at p (k + 1) cs (set r c.frame (entry_for p k)) f h' (rw (length-set r c.frame (entry_for p k)) l))
  where
    by : (b : Bool) → on_frame f c ≡ b → cond b 1 0 + count (on_frame f) cs ≤ 1
        → ((h' : Holder) → count (on_frame f) cs ≤ 1 → get_or (set r c.frame (entry_for p k)) f free_entry ≡ entry_of h'
        → get_or (occupied p (k + 1) cs (set r c.frame (entry_for p k))) f free_entry ≡ entry_of (in_copies f p (k + 1) cs h'))
        → get_or (occupied p (k + 1) cs (set r c.frame (entry_for p k))) f free_entry ≡ entry_of (cond b (At p k) (in_copies f p (k + 1) cs h))
    by true q few rest =
        rest (At p k) (omega arith) (rw (eqb-true c.frame f q) (get_or-set_same r f (entry_for p k) free_entry l))
        ∙ ap entry_of (skip f p (k + 1) cs (At p k) (omega arith))
    by false q few rest =
        let d = eqb-false c.frame f q in
        rest h (omega arith) (get_or-set_other r c.frame f (entry_for p k) free_entry (λ z. d (sym z)) ∙ e)

-- ---- the register after a page's record changed

module _ (gs : List Page) (p : ℕ) (g : Page) (f : ℕ) (h : p < length gs) (few : uses f gs ≤ 1) (few' : uses f (set gs p g) ≤ 1) where
  abbrev old : Page
  old = get_or gs p zero_page

  abbrev others : Holder
  others = in_pages f 0 (set gs p fresh_page)

  -- without the page, a frame has the holder that the search gives among the others
  emptied : (r : List ℕ) → f < length r → get_or r f free_entry ≡ entry_of (in_pages f 0 gs) → get_or (vacated (copies_in_use old) r) f free_entry ≡ entry_of others
  emptied r l e = vacated_at (copies_in_use old) r f l ∙ by (ℕ_discrete (count (on_frame f) (copies_in_use old)) 0)
    where
      by : Dec (count (on_frame f) (copies_in_use old) ≡ 0) → cond (eqb (count (on_frame f) (copies_in_use old)) 0) (get_or r f free_entry) free_entry ≡ entry_of others
      by (yes z) =
          let whole : set gs p old ≡ gs = set-get_or gs p zero_page in
          let same : in_pages f 0 gs ≡ others =
          ap (in_pages f 0) (sym whole) ∙ apart f 0 gs p old h (rw whole few) ∙ skip f (0 + p) 0 (copies_in_use old) others z in
          rw (eq-eqb (count (on_frame f) (copies_in_use old)) 0 z) (e ∙ ap entry_of same)
      by (no d) =
          let u = uses_set f gs p fresh_page h in
          let v = fresh_on f in
          rw (ne_eqb (count (on_frame f) (copies_in_use old)) 0 d) (ap entry_of (sym (nobody f 0 (set gs p fresh_page) (omega (arith, d)))))

  -- and with its new copies, the holder that the search gives
  pub moved_held : (r : List ℕ) → f < length r → get_or r f free_entry ≡ entry_of (in_pages f 0 gs)
      → get_or (reregistered p old g r) f free_entry ≡ entry_of (in_pages f 0 (set gs p g))
  moved_held r l e =
      let own = uses_at f (set gs p g) p in
      let here : count (on_frame f) (copies_in_use g) ≤ uses f (set gs p g) = rw (get_or-set_same gs p g zero_page h) at own in
      occupied_at p 0 (copies_in_use g) (vacated (copies_in_use old) r) f others (rw (length_vacated (copies_in_use old) r) l) (omega arith) (emptied r l e)
      ∙ ap (λ (q : ℕ). entry_of (in_copies f q 0 (copies_in_use g) others)) (sym (zero-add p)) ∙ ap entry_of (sym (apart f 0 gs p g h few'))

-- a retired frame that none of the page's copies was or is on stays retired
pub moved_out : (p : ℕ) (g g' : Page) (r : List ℕ) (f : ℕ) → f < length r → count (on_frame f) (copies_in_use g) ≡ 0 → count (on_frame f) (copies_in_use g') ≡ 0
    → is_retired_entry (get_or r f free_entry) ≡ true → get_or (reregistered p g g' r) f free_entry ≡ retired_entry
moved_out p g g' r f l none none' out =
    let left : get_or (vacated (copies_in_use g) r) f free_entry ≡ retired_entry =
    vacated_at (copies_in_use g) r f l ∙ rw (eq-eqb (count (on_frame f) (copies_in_use g)) 0 none) (eqb-true (get_or r f free_entry) retired_entry out) in
    occupied_at p 0 (copies_in_use g') (vacated (copies_in_use g) r) f Retired (rw (length_vacated (copies_in_use g) r) l) (omega arith) left
    ∙ ap entry_of (skip f p 0 (copies_in_use g') Retired none')

-- ---- an entry, and the holder that it names

-- a page below m, and one of eight copies; the search never says of itself that a frame is retired
abbrev pub Low : ℕ → Holder → Type 0
Low m (At p k) = (p < m) × (k < 8)
Low m Free = Unit {0}
Low m Retired = ⊥

pub low_copies : (f p k m : ℕ) (cs : List Copy) (h : Holder) → p < m → k + length cs ≤ 8 → Low m h → Low m (in_copies f p k cs h)
unfolding in_copies
low_copies f p k m [] h a few low = low
low_copies f p k m (c ∷ cs) h a few low = by (on_frame f c) (low_copies f p (k + 1) m cs h a (omega arith) low)
  where
    by : (b : Bool) → Low m (in_copies f p (k + 1) cs h) → Low m (cond b (At p k) (in_copies f p (k + 1) cs h))
    by true rest = (a, omega arith)
    by false rest = rest

pub low_pages : (f b m : ℕ) (gs : List Page) → b + length gs ≤ m
    → ((i : ℕ) → i < length gs → length (copies_in_use (get_or gs i zero_page)) ≤ 8) → Low m (in_pages f b gs)
unfolding in_pages
low_pages f b m [] few eight = tt
low_pages f b m (g ∷ gs) few eight =
    low_copies f b 0 m (copies_in_use g) (in_pages f (b + 1) gs) (omega arith) (let k = eight zero (omega arith) in omega arith)
    (low_pages f (b + 1) m gs (omega arith) (λ i l. eight (suc i) (omega arith)))

-- the entry of a holder names it
pub named_entry : (h : Holder) → Low 64 h → holder_of_entry (entry_of h) ≡ h
named_entry (At p k) low =
    let d : (8 * p + k) / 8 ≡ p = omega (arith, low.0, low.1) in
    let m : (8 * p + k) % 8 ≡ k = omega (arith, low.0, low.1) in
    rw (lt-ltb (8 * p + k) 512 (omega (arith, low.0, low.1)), d, m)
named_entry Free low = refl
named_entry Retired low = absurd low

-- and is below 512 where it names a copy
pub entry_low : (h : Holder) → Low 64 h → is_free h ≡ false → entry_of h < 512
entry_low (At p k) low e = omega (arith, low.0, low.1)
entry_low Free low e = absurd (true≢false e)
entry_low Retired low e = absurd low

-- what the search finds is not that the frame is retired
pub entry_in : (h : Holder) → Low 64 h → is_retired_entry (entry_of h) ≡ false
entry_in (At p k) low = ne_eqb (8 * p + k) retired_entry (λ z. omega (arith, low.0, low.1))
entry_in Free low = refl
entry_in Retired low = absurd low

-- ---- the register of pages that keep their rules

pub searched_low : (limit : ℕ) (gs : List Page) → PagesOk limit gs → (f : ℕ) → Low 64 (in_pages f 0 gs)
searched_low limit gs s f =
    low_pages f 0 64 gs (let l = s.pages_long in omega arith)
    (λ i l. eight limit (get_or gs i zero_page) (s.page_ok i (rw s.pages_long at l)))

-- where the record of a page stays as it is, the register does
module _ {limit : ℕ} {gs : List Page} {r : List ℕ} (paged : PagesOk limit gs) (once : Once limit gs) (right : RegisterOk limit gs r) where
  pub register_same : (p : ℕ) → p < 64 → reregistered p (get_or gs p zero_page) (get_or gs p zero_page) r ≡ r
  register_same p near = ext_get_or free_entry _ _ long (λ f l.
      let m : f < length r = rw long at l in
      let k : f < 254 = rw right.register_long at m in
      by f m k (is_retired_entry (get_or r f free_entry)) refl)
    where
      g : Page
      g = get_or gs p zero_page

      long : length (reregistered p g g r) ≡ length r
      long = length_moved p g g r

      by : (f : ℕ) → f < length r → f < 254 → (b : Bool) → is_retired_entry (get_or r f free_entry) ≡ b → get_or (reregistered p g g r) f free_entry ≡ get_or r f free_entry
      by f m k true e =
          let own = uses_at f gs p in
          let none : count (on_frame f) (copies_in_use g) ≡ 0 = let z = out_idle right f e in omega arith in
          moved_out p g g r f m none none e ∙ sym (eqb-true (get_or r f free_entry) retired_entry e)
      by f m k false e =
          let h : p < length gs = rw paged.pages_long near in
          let whole : set gs p g ≡ gs = set-get_or gs p zero_page in
          let few = few_uses limit gs (pages_ruled paged) once f k in
          moved_held gs p g f h few (rw whole few) r m (entry_held right f k e)
          ∙ ap (λ (hs : List Page). entry_of (in_pages f 0 hs)) whole ∙ sym (entry_held right f k e)

-- ---- the register of sound tables

module _ (t : Tables) (s : Sound t) where
  -- each entry is a number of two bytes
  pub register_fits : (f : ℕ) → f < 254 → entry_at t f < 65536
  register_fits f h = by (is_retired_entry (entry_at t f)) refl
    where
      fits : (h : Holder) → Low 64 h → entry_of h < 65536
      fits (At p k) low = omega (arith, low.0, low.1)
      fits Free low = omega arith
      fits Retired low = absurd low

      by : (b : Bool) → is_retired_entry (entry_at t f) ≡ b → entry_at t f < 65536
      by true e = rw (eqb-true (entry_at t f) retired_entry e) (omega arith)
      by false e = rw (entry_held s.right f h e) (fits (searched t f) (searched_low (frames t) t.pages s.paged f))

-- "Looking at a frame then reads the register, and gives for every frame what the search gives"
pub registered_is : (t : Tables) (f : ℕ) → sound t ≡ true → f < frames t → registered t f ≡ holder_of t f
registered_is t f ok h = by (is_retired_entry (entry_at t f)) refl
  where
    s : Sound t
    s = sound_of t ok

    by : (b : Bool) → is_retired_entry (entry_at t f) ≡ b → holder_of_entry (entry_at t f) ≡ cond b Retired (searched t f)
    by true e = rw (eqb-true (entry_at t f) retired_entry e)
    by false e =
        ap holder_of_entry (entry_held s.right f (omega (arith, few_frames s)) e)
        ∙ named_entry (searched t f) (searched_low (frames t) t.pages s.paged f)

-- what is read shows as retired just where the frame is, on any tables
pub registered_retired : (t : Tables) (f : ℕ) → is_retired (registered t f) ≡ retired_at t f
registered_retired t f = by (ltb (entry_at t f) 512) refl
  where
    rest : (b : Bool) → is_retired (cond b Retired Free) ≡ b
    rest true = refl
    rest false = refl

    by : (b : Bool) → ltb (entry_at t f) 512 ≡ b
        → is_retired (cond b (At (entry_at t f / 8) (entry_at t f % 8)) (cond (is_retired_entry (entry_at t f)) Retired Free)) ≡ is_retired_entry (entry_at t f)
    by true e = let l = ltb-true (entry_at t f) 512 e in sym (ne_eqb (entry_at t f) retired_entry (λ z. omega arith))
    by false e = rest (is_retired_entry (entry_at t f))

-- so the holder that it reads is none just where the frame is free
pub registered_free : (t : Tables) (f : ℕ) → sound t ≡ true → f < frames t → free t f ≡ is_free (registered t f)
registered_free t f ok h = free_holder t f ∙ ap is_free (sym (registered_is t f ok h))

-- ---- the tables with a frame retired

-- 255 is no frame
pub retired_none : (t : Tables) → length t.register ≡ 254 → with_retired t 255 ≡ t
retired_none t long = ap (with_pages t t.pages) (set_out t.register 255 retired_entry (rw long (omega arith)))

-- a frame already retired
pub retired_again : (t : Tables) (x : ℕ) → retired_at t x ≡ true → with_retired t x ≡ t
retired_again t x is =
    ap (with_pages t t.pages) (ap (set t.register x) (sym (eqb-true (entry_at t x) retired_entry is)) ∙ set-get_or t.register x free_entry)

-- that frame is retired, and of the others those that were
pub retired_more : (t : Tables) (x f : ℕ) → x < length t.register → retired_at (with_retired t x) f ≡ (retired_at t f || eqb x f)
retired_more t x f h = by (eqb x f) refl
  where
    by : (b : Bool) → eqb x f ≡ b → retired_at (with_retired t x) f ≡ (retired_at t f || b)
    by true q =
        let own = get_or-set_same t.register x retired_entry free_entry h in
        subst (λ (y : ℕ). retired_at (with_retired t x) y ≡ true) (eqb-true x f q) (ap is_retired_entry own) ∙ sym (or-true (retired_at t f))
    by false q =
        ap is_retired_entry (get_or-set_other t.register x f retired_entry free_entry (λ z. eqb-false x f q (sym z))) ∙ sym (or-false (retired_at t f))
