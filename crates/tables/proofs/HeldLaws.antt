-- How many frames are held: on sound tables the sum over the pages of the frames that each page's copies are on. So the
-- number is kept up to date from the page that changed.
use Prim.Native.Nat.{ℕ, zero, suc, ◌+◌, ◌-◌, ◌≤◌, ◌<◌}
use mathlib.Core.Path.{◌≡◌, refl, sym, ◌∙◌}
use mathlib.Core.Bool.{Bool, true, false, not, cond}
use mathlib.Core.List.{List, [], ◌∷◌, map}
use native.Mathlib.Decide.{ℕ_discrete}
use native.Mathlib.Nat.{not-suc-le-zero, le_of_suc-le-suc}
use native.Mathlib.Omega.{arith}
use lib.ListN.{length, get_or, set, length-map, get_or-map}
use lib.Dec.{eqb}
use Rattle.tables.specs.declared.Page.{Page}
use Rattle.tables.specs.declared.Tables.{Tables}
use Rattle.tables.specs.Lists.{count_below, sum}
use Rattle.tables.specs.Model.{frames, zero_page, page_at}
use Rattle.tables.specs.Rules.{uses, holders, frames_held, sound, frame_total, frame_totals}
use Rattle.tables.specs.Changes.{change_to, after}
use Rattle.tables.proofs.EachLaws.{map_set}
use Rattle.tables.proofs.RuleLaws.{pages_ruled, pages_once, uses_past, few_uses, sound_of, few_frames}
use Rattle.tables.proofs.SumLaws.{sum_below, uses_sum}

-- ---- numbers of the frames below n

-- where each is 0 or 1, those that are not 0 are as many as their sum
count_used : (n : ℕ) (a : ℕ → ℕ) → ((i : ℕ) → i < n → a i ≤ 1) → count_below n (λ i. not (eqb (a i) 0)) ≡ sum_below n a
unfolding count_below sum_below
count_used zero a few = refl
count_used (suc n) a few =
    let x = used (a n) (few n (omega arith)) in
    let y = count_used n a (λ i l. few i (omega arith)) in
    omega arith
  where
    used : (k : ℕ) → k ≤ 1 → cond {A = ℕ} (not (eqb k 0)) 1 0 ≡ k
    used zero h = refl
    used (suc k) h = let e : suc k ≡ 1 = omega arith in rw e

-- those from n on are 0
sum_idle : (n m : ℕ) (a : ℕ → ℕ) → n ≤ m → ((i : ℕ) → n ≤ i → i < m → a i ≡ 0) → sum_below m a ≡ sum_below n a
unfolding sum_below
sum_idle n zero a h idle = let e : n ≡ 0 = omega arith in rw e
sum_idle n (suc m) a h idle =
    by (ℕ_discrete n (suc m)) (λ k. sum_idle n m a k (λ i l j. idle i l (omega arith)))
  where
    by : Dec (n ≡ suc m) → (n ≤ m → sum_below m a ≡ sum_below n a) → a m + sum_below m a ≡ sum_below n a
    by (yes e) k = rw e
    by (no d) k =
        let x = idle m (omega (arith, d)) (omega arith) in
        let y = k (omega (arith, d)) in
        omega arith

count_low : (n : ℕ) (a : ℕ → ℕ) → count_below n (λ i. not (eqb (a i) 0)) ≤ n
unfolding count_below
count_low zero a = omega arith
count_low (suc n) a = let x = one (eqb (a n) 0) in let y = count_low n a in omega arith
  where
    one : (b : Bool) → cond {A = ℕ} (not b) 1 0 ≤ 1
    one true = omega arith
    one false = omega arith

-- ---- one number among those of a list

pub sum_set : (l : List ℕ) (k n : ℕ) → k < length l → sum (set l k n) + get_or l k 0 ≡ sum l + n
sum_set [] k n h = absurd (not-suc-le-zero h)
sum_set (x ∷ l) zero n h = omega arith
sum_set (x ∷ l) (suc k) n h = let e = sum_set l k n (le_of_suc-le-suc h) in omega arith

pub sum_at : (l : List ℕ) (k : ℕ) → get_or l k 0 ≤ sum l
sum_at [] k = omega arith
sum_at (x ∷ l) zero = omega arith
sum_at (x ∷ l) (suc k) = let h = sum_at l k in omega arith

-- ---- the frames of one page among those of all

module _ (gs : List Page) (p : ℕ) where
  total_at : get_or (map frame_total gs) p 0 ≡ frame_total (get_or gs p zero_page)
  total_at = get_or-map frame_total gs p zero_page

  totals_set : (g : Page) → p < length gs
      → frame_totals (set gs p g) + frame_total (get_or gs p zero_page) ≡ frame_totals gs + frame_total g
  unfolding frame_totals
  totals_set g h =
      rw (map_set frame_total gs p g, ← total_at)
      (sum_set (map frame_total gs) p (frame_total g) (rw (length-map gs frame_total) h))

  pub totals_at : frame_total (get_or gs p zero_page) ≤ frame_totals gs
  unfolding frame_totals
  totals_at = rw (← total_at) (sum_at (map frame_total gs) p)

-- ---- the tables

pub held_total : (t : Tables) → sound t ≡ true → frames_held t ≡ frame_totals t.pages
unfolding holders
held_total t ok =
    let s = sound_of t ok in
    let low = few_frames s in
    let ruled = pages_ruled s.paged in
    count_used (frames t) (λ f. uses f t.pages)
    (λ f l. few_uses (frames t) t.pages ruled (pages_once t s.once) f (omega arith))
    ∙ sym (sum_idle (frames t) 254 (λ f. uses f t.pages) low
    (λ f past l. uses_past (frames t) f past (omega arith) t.pages ruled))
    ∙ uses_sum (frames t) low t.pages ruled

pub held_low : (t : Tables) → frames_held t ≤ frames t
held_low t = count_low (frames t) (holders t)

totalled : (t : Tables) (p : ℕ) (g : Page) (x : ℕ) → sound (after t (change_to p g x)) ≡ true
    → frames_held (after t (change_to p g x)) ≡ frame_totals (set t.pages p g)
unfolding after
totalled t p g x ok = held_total (after t (change_to p g x)) ok

-- the frames of the page's old copies go, and those of its new ones come
pub held_after_lem : (t : Tables) (p : ℕ) (g : Page) (x : ℕ) → p < 64 → sound t ≡ true
    → sound (after t (change_to p g x)) ≡ true
    → frames_held t - frame_total (page_at t p) + frame_total g ≡ frames_held (after t (change_to p g x))
held_after_lem t p g x near ok ok' =
    let inside : p < length t.pages = rw (sound_of t ok).paged.pages_long near in
    omega (
      arith,
      held_total t ok,
      totalled t p g x ok',
      totals_set t.pages p g inside,
      totals_at t.pages p,
    )
