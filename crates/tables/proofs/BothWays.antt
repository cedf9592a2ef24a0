-- A right register, in both directions: each copy's frame names it, and no entry names anything else.
use Prim.Native.Nat.{ℕ, zero, suc, ◌+◌, ◌≤◌, ◌<◌}
use mathlib.Core.Bool.{Bool, true, false, cond, true≢false}
use mathlib.Core.List.{List, [], ◌∷◌}
use mathlib.Core.Path.{◌≡◌, refl, sym, ap, subst, ◌∙◌}
use native.Mathlib.Nat.{not-suc-le-zero, le_of_suc-le-suc, zero-add}
use native.Mathlib.Omega.{arith}
use lib.ListN.{length, get_or, set}
use lib.Seq.{set-get_or}
use borrow.Author.Tests.{eqb-true, eq-eqb}
use Rattle.tables.specs.declared.Copy.{Copy}
use Rattle.tables.specs.declared.Page.{Page}
use Rattle.tables.specs.declared.Tables.{Tables}
use Rattle.tables.specs.declared.Holder.{Holder}
use Rattle.tables.specs.declared.Holder.TheVariants.{At, Free, Retired}
use Rattle.tables.specs.Lists.{count}
use Rattle.tables.specs.Model.{frames, entry_at, is_retired_entry, retired_at, on_frame, copies_in_use, fresh_page, zero_copy, zero_page, page_at}
use Rattle.tables.specs.Search.{in_copies, in_pages, searched, is_retired}
use Rattle.tables.specs.Rules.{sound}
use Rattle.tables.specs.Register.{entry_for, entry_of, registered}
use Rattle.tables.proofs.ListLaws.{not_so, count_at}
use Rattle.tables.proofs.UsesLaws.{uses_at}
use Rattle.tables.proofs.RuleLaws.{pages_ruled, pages_once, entry_held, out_idle, Sound, sound_of, few_uses}
use Rattle.tables.proofs.RegisterLaws.{apart, registered_is}

-- ---- each copy's frame names it

-- the search finds the only copy on a frame
finds : (f p j k : ℕ) (cs : List Copy) (h : Holder) → k < length cs → (get_or cs k zero_copy).frame ≡ f → count (on_frame f) cs ≤ 1
    → in_copies f p j cs h ≡ At p (j + k)
unfolding in_copies count
finds f p j k [] h l e few = absurd (not-suc-le-zero l)
finds f p j zero (c ∷ cs) h l e few = rw (eq-eqb c.frame f e) (ap (At p) (omega arith))
finds f p j (suc k) (c ∷ cs) h l e few = by (on_frame f c) few (finds f p (j + 1) k cs h (le_of_suc-le-suc l) e)
  where
    more : 1 ≤ count (on_frame f) cs
    more = count_at (on_frame f) cs k zero_copy (le_of_suc-le-suc l) (eq-eqb (get_or cs k zero_copy).frame f e)

    by : (b : Bool) → cond b 1 0 + count (on_frame f) cs ≤ 1 → (count (on_frame f) cs ≤ 1 → in_copies f p (j + 1) cs h ≡ At p (j + 1 + k))
        → cond b (At p j) (in_copies f p (j + 1) cs h) ≡ At p (j + suc k)
    by true few rest = absurd (omega (arith, more))
    by false few rest = rest (omega arith) ∙ ap (At p) (omega arith)

pub copy_named : (t : Tables) (p k : ℕ) → sound t ≡ true → p < 64 → k < length (copies_in_use (page_at t p)) → (get_or (copies_in_use (page_at t p)) k zero_copy).frame < 254
    → entry_at t (get_or (copies_in_use (page_at t p)) k zero_copy).frame ≡ entry_for p k
copy_named t p k ok h l low =
    let few = few_uses (frames t) t.pages (pages_ruled s.paged) (pages_once t s.once) f low in
    let whole : set t.pages p (page_at t p) ≡ t.pages = set-get_or t.pages p zero_page in
    let own = uses_at f t.pages p in
    entry_held s.right f low held
    ∙ ap (λ (gs : List Page). entry_of (in_pages f 0 gs)) (sym whole)
    ∙ ap entry_of (apart f 0 t.pages p (page_at t p) (rw s.paged.pages_long h) (rw whole few))
    ∙ ap entry_of (finds f (0 + p) 0 k (copies_in_use (page_at t p)) (in_pages f 0 (set t.pages p fresh_page)) l refl (omega arith))
    ∙ omega arith
  where
    s : Sound t
    s = sound_of t ok

    f : ℕ
    f = (get_or (copies_in_use (page_at t p)) k zero_copy).frame

    -- it is on the frame, which so is not retired
    held : is_retired_entry (entry_at t f) ≡ false
    held = not_so (is_retired_entry (entry_at t f)) (λ out.
        let some = count_at (on_frame f) (copies_in_use (page_at t p)) k zero_copy l (eq-eqb f f refl) in
        let own = uses_at f t.pages p in
        let none = out_idle s.right f out in
        omega arith)

-- ---- and no entry names anything else

-- what the search finds among pages numbered from b on is a copy on the frame
abbrev Found : ℕ → ℕ → List Page → Holder → Type 0
Found f b gs (At p k) =
    (i : ℕ) × (p ≡ b + i) × (i < length gs) × (k < length (copies_in_use (get_or gs i zero_page))) × ((get_or (copies_in_use (get_or gs i zero_page)) k zero_copy).frame ≡ f)
Found f b gs Free = Unit {0}
Found f b gs Retired = Unit {0}

found_copies : (f p j : ℕ) (cs : List Copy) (h : Holder) (P : Holder → Type 0)
    → ((k : ℕ) → k < length cs → (get_or cs k zero_copy).frame ≡ f → P (At p (j + k))) → P h → P (in_copies f p j cs h)
unfolding in_copies
found_copies f p j [] h P here later = later
found_copies f p j (c ∷ cs) h P here later =
    by (on_frame f c) refl
    (found_copies f p (j + 1) cs h P (λ k l e. subst (λ (n : ℕ). P (At p n)) (omega arith) (here (suc k) (omega arith) e)) later)
  where
    by : (b : Bool) → on_frame f c ≡ b → P (in_copies f p (j + 1) cs h) → P (cond b (At p j) (in_copies f p (j + 1) cs h))
    by true e rest = subst (λ (n : ℕ). P (At p n)) (omega arith) (here zero (omega arith) (eqb-true c.frame f e))
    by false e rest = rest

found_pages : (f b : ℕ) (gs : List Page) → Found f b gs (in_pages f b gs)
unfolding in_pages
found_pages f b [] = tt
found_pages f b (g ∷ gs) =
    found_copies f b 0 (copies_in_use g) (in_pages f (b + 1) gs) (Found f b (g ∷ gs)) (λ k l e. (zero, omega arith, omega arith, rw (zero-add k) l, rw (zero-add k) e))
    (later (in_pages f (b + 1) gs) (found_pages f (b + 1) gs))
  where
    later : (h : Holder) → Found f (b + 1) gs h → Found f b (g ∷ gs) h
    later (At p k) w = (suc w.0, omega (arith, w.1), omega (arith, w.2), w.3, w.4)
    later Free w = tt
    later Retired w = tt

-- what shows a copy is not retired
not_retired : (b : Bool) (h : Holder) {p k : ℕ} → cond b Retired h ≡ At p k → h ≡ At p k
not_retired true h e = absurd (true≢false (ap is_retired e))
not_retired false h e = e

-- of sound tables, the holder that a register entry names is a copy in use on that frame
pub named_copy : (t : Tables) (f p k : ℕ) → sound t ≡ true → f < frames t → registered t f ≡ At p k
    → (p < 64) × (k < length (copies_in_use (page_at t p))) × ((get_or (copies_in_use (page_at t p)) k zero_copy).frame ≡ f)
named_copy t f p k ok h e =
    let s = sound_of t ok in
    let w : Found f 0 t.pages (At p k) =
    subst (Found f 0 t.pages) (not_retired (retired_at t f) (searched t f) (sym (registered_is t f ok h) ∙ e)) (found_pages f 0 t.pages) in
    let q : w.0 ≡ p = omega (arith, w.1) in
    subst (λ (i : ℕ). (i < 64) × (k < length (copies_in_use (page_at t i))) × ((get_or (copies_in_use (page_at t i)) k zero_copy).frame ≡ f)) q
    (rw s.paged.pages_long at w.2, w.3, w.4)
