-- The one pass over the pages and the register answers what the table rules say.
use Prim.Native.Nat.{ℕ, zero, suc, ◌+◌, ◌-◌, ◌≤◌, ◌<◌}
use mathlib.Core.Path.{◌≡◌, refl, sym, ap, ◌∙◌}
use mathlib.Core.Bool.{Bool, true, false, not, ◌&&◌, cond, and-true, and-false, true≢false}
use mathlib.Core.List.{List, [], ◌∷◌}
use native.Mathlib.Decide.{ℕ_discrete}
use native.Mathlib.Omega.{arith}
use lib.ListN.{length, get_or, drop, length-drop}
use lib.Seq.{get_or-drop}
use lib.Dec.{leb, ltb, eqb}
use borrow.Author.Tests.{leb-true, le-leb, eqb-true, eq-eqb, ne_eqb, lt-ltb, ltb-true, ltb-false, not-true, not-false}
use Rattle.tables.specs.declared.Copy.{Copy}
use Rattle.tables.specs.declared.Page.{Page}
use Rattle.tables.specs.declared.Holder.{Holder}
use Rattle.tables.specs.Lists.{all, count, all_below}
use Rattle.tables.specs.Model.{free_entry, retired_entry, is_retired_entry, on_frame, copies_in_use, zero_page}
use Rattle.tables.specs.Search.{in_copies, in_pages}
use Rattle.tables.specs.Rules.{uses, page_rule, frame_totals}
use Rattle.tables.specs.Register.{entry_for, entry_of, entry_rule, register_rule}
use Rattle.tables.specs.PrivatePass.{entry_is, entries_are, scan_pages, names_copy, naming_entries, not_retired, entries_of, others_ok}
use Rattle.tables.proofs.ListLaws.{and_left, and_right, and_intro, not_so, iff_eq, all_at, all_of, all_drop, all_first, all_rest, count_at, below_at, below_of}
use Rattle.tables.proofs.RuleLaws.{eight, Once, RegisterOk, register_of, of_register, right_held, right_out, entry_held, out_low, out_idle, few_uses}
use Rattle.tables.proofs.HolderLaws.{skip, nobody, free_pages}
use Rattle.tables.proofs.RegisterLaws.{low_pages, entry_low}
use Rattle.tables.proofs.SumLaws.{sum_below, sum_same, sum_le, sum_equal, taken_sum, uses_sum}

-- ---- the entries of copies name them just where each frame's entry is that of its only holder

-- What the entry of frame f says of copies of page p, numbered from k on, before pages that use it n times and of which
-- it has the holder h: at most one of all is on it, and that one is what the search finds.
record Told (r : List ℕ) (p k : ℕ) (cs : List Copy) (n : ℕ) (h : Holder) (f : ℕ) : Type 0 where
  once : count (on_frame f) cs + n ≤ 1
  tells : 1 ≤ count (on_frame f) cs + n → get_or r f free_entry ≡ entry_of (in_copies f p k cs h)

-- the same of pages, numbered from p on
record Points (r : List ℕ) (p : ℕ) (gs : List Page) (f : ℕ) : Type 0 where
  once : uses f gs ≤ 1
  tells : 1 ≤ uses f gs → get_or r f free_entry ≡ entry_of (in_pages f p gs)

none : (m : ℕ) → (1 ≤ m → ⊥) → m ≡ 0
none zero h = refl
none (suc m) h = absurd (h (omega arith))

-- ---- from the pass

module _ (limit : ℕ) (r : List ℕ) (f : ℕ) (small : f < 254) where
  -- Entries that name copies of page p, numbered from k on, are no lower than that of the first of them: so they do not
  -- name two on one frame.
  told : (p k : ℕ) (cs : List Copy) (n : ℕ) (h : Holder) → entries_are r p k cs ≡ true → k + length cs ≤ 8
      → n ≤ 1 → (1 ≤ n → get_or r f free_entry ≡ entry_of h) → (1 ≤ n → entry_for (p + 1) 0 ≤ get_or r f free_entry)
      → Told r p k cs n h f × (1 ≤ count (on_frame f) cs + n → entry_for p k ≤ get_or r f free_entry)
  unfolding entries_are count in_copies
  told p k [] n h e few one tells least =
      (record { once = omega arith; tells = λ z. tells (omega arith) }, λ z. let l = least (omega arith) in omega arith)
  told p k (c ∷ cs) n h e few one tells least =
      by (on_frame f c) refl (told p (k + 1) cs n h (and_right (entry_is r c.frame (entry_for p k)) _ e) (omega arith) one tells least)
    where
      own : on_frame f c ≡ true → get_or r f free_entry ≡ entry_for p k
      own q =
          let s : c.frame ≡ f = eqb-true c.frame f q in
          eqb-true (get_or r f free_entry) (entry_for p k) (rw (s, lt-ltb f 254 small) at (and_left (entry_is r c.frame (entry_for p k)) _ e))

      by : (b : Bool) → on_frame f c ≡ b → Told r p (k + 1) cs n h f × (1 ≤ count (on_frame f) cs + n → entry_for p (k + 1) ≤ get_or r f free_entry)
          → Told r p k (c ∷ cs) n h f × (1 ≤ count (on_frame f) (c ∷ cs) + n → entry_for p k ≤ get_or r f free_entry)
      by true q w =
          let z : count (on_frame f) cs + n ≡ 0 =
          none (count (on_frame f) cs + n) (λ s. let a = w.1 s in let b = own q in omega arith) in
          (record { once = rw q (omega arith); tells = λ s. rw q (own q) }, λ s. let b = own q in omega arith)
      by false q w = (
        record { once = rw q (let a = w.0.once in omega arith); tells = λ s. rw q (w.0.tells (let a = rw q at s in omega arith)) },
        λ s. let a = w.1 (let a = rw q at s in omega arith) in omega arith,
      )

  pointed : (p : ℕ) (gs : List Page) → scan_pages limit r p gs ≡ true → Points r p gs f × (1 ≤ uses f gs → entry_for p 0 ≤ get_or r f free_entry)
  unfolding scan_pages in_pages uses
  pointed p [] e = (record { once = omega arith; tells = λ z. absurd (omega arith) }, λ z. absurd (omega arith))
  pointed p (g ∷ gs) e =
      let here = and_left (page_rule limit g && entries_are r p 0 (copies_in_use g)) _ e in
      let rest = pointed (p + 1) gs (and_right (page_rule limit g && entries_are r p 0 (copies_in_use g)) _ e) in
      let few = eight limit g (and_left (page_rule limit g) _ here) in
      let w = told p 0 (copies_in_use g) (uses f gs) (in_pages f (p + 1) gs) (and_right (page_rule limit g) _ here) (omega arith) rest.0.once rest.0.tells rest.1 in
      (record { once = w.0.once; tells = w.0.tells }, w.1)

scanned_ok : (limit : ℕ) (r : List ℕ) (p : ℕ) (gs : List Page) → scan_pages limit r p gs ≡ true → all (page_rule limit) gs ≡ true
unfolding scan_pages all
scanned_ok limit r p [] e = refl
scanned_ok limit r p (g ∷ gs) e =
    let here = and_left (page_rule limit g && entries_are r p 0 (copies_in_use g)) _ e in
    and_intro (and_left (page_rule limit g) _ here) (scanned_ok limit r (p + 1) gs (and_right (page_rule limit g && entries_are r p 0 (copies_in_use g)) _ e))

-- ---- and back

module _ (limit : ℕ) (r : List ℕ) where
  names_of : (p k : ℕ) (cs : List Copy) (n : ℕ → ℕ) (h : ℕ → Holder) → ((f : ℕ) → f < 254 → Told r p k cs (n f) (h f) f) → entries_are r p k cs ≡ true
  unfolding entries_are in_copies count
  names_of p k [] n h tells = refl
  names_of p k (c ∷ cs) n h tells = and_intro (by (ltb c.frame 254) refl) (names_of p (k + 1) cs n h (λ f l. tail f (on_frame f c) refl (tells f l)))
    where
      own : on_frame c.frame c ≡ true
      own = eq-eqb c.frame c.frame refl

      by : (b : Bool) → ltb c.frame 254 ≡ b → cond b (eqb (get_or r c.frame free_entry) (entry_for p k)) true ≡ true
      by true e =
          let t = (tells c.frame (ltb-true c.frame 254 e)).tells (rw own (omega arith)) in
          eq-eqb (get_or r c.frame free_entry) (entry_for p k) (rw own at t)
      by false e = refl

      tail : (f : ℕ) (b : Bool) → on_frame f c ≡ b → Told r p k (c ∷ cs) (n f) (h f) f → Told r p (k + 1) cs (n f) (h f) f
      tail f true q t =
          let a = rw q at t.once in
          record { once = omega arith; tells = λ z. absurd (omega arith) }
      tail f false q t =
          let a = rw q at t.once in
          record { once = omega arith; tells = λ z. rw q at (t.tells (rw q (omega arith))) }

  scan_of : (p : ℕ) (gs : List Page) → all (page_rule limit) gs ≡ true → ((f : ℕ) → f < 254 → Points r p gs f) → scan_pages limit r p gs ≡ true
  unfolding scan_pages in_pages uses
  scan_of p [] e points = refl
  scan_of p (g ∷ gs) e points =
      and_intro
      (and_intro (all_first (page_rule limit) g gs e)
      (names_of p 0 (copies_in_use g) (λ f. uses f gs) (λ f. in_pages f (p + 1) gs)
      (λ f l. record { once = (points f l).once; tells = (points f l).tells })))
      (scan_of (p + 1) gs (all_rest (page_rule limit) g gs e) (λ f l. rest f (points f l)))
    where
      rest : (f : ℕ) → Points r p (g ∷ gs) f → Points r (p + 1) gs f
      rest f t =
          record {
            once = let a = t.once in omega arith;
            tells = λ z.
                let a = t.once in
                t.tells (omega arith) ∙ ap entry_of (skip f p 0 (copies_in_use g) (in_pages f (p + 1) gs) (omega arith));
          }

-- ---- every entry is that of a copy, of a free frame or of a retired one

three_numbers : (r : List ℕ) → (naming_entries r + entries_of free_entry r) + entries_of retired_entry r ≡ length r
unfolding count
three_numbers [] = refl
three_numbers (e ∷ r) = by (eqb e free_entry) refl (eqb e retired_entry) refl (three_numbers r)
  where
    by : (a : Bool) → eqb e free_entry ≡ a → (b : Bool) → eqb e retired_entry ≡ b
        → (naming_entries r + entries_of free_entry r) + entries_of retired_entry r ≡ length r
        → ((cond (not a && not b) 1 0 + naming_entries r) + (cond a 1 0 + entries_of free_entry r)) + (cond b 1 0 + entries_of retired_entry r) ≡ suc (length r)
    by true p true q k = let x = eqb-true e free_entry p in let y = eqb-true e retired_entry q in absurd (omega arith)
    by true p false q k = omega arith
    by false p true q k = omega arith
    by false p false q k = omega arith

-- where none is that of a retired frame
none_retired : (r : List ℕ) → entries_of retired_entry r ≡ 0 → all not_retired r ≡ true
none_retired r z =
    all_of not_retired r free_entry (λ i l.
    ap not (not_so (is_retired_entry (get_or r i free_entry)) (λ out. let k = count_at is_retired_entry r i free_entry l out in omega arith)))

-- ---- the rules

module _ (limit : ℕ) (low : limit ≤ 254) (gs : List Page) (r : List ℕ) (many : length gs ≡ 64) (long : length r ≡ 254) where
  -- no frame under two of the pages' copies
  abbrev at_most_one : ℕ → Bool
  at_most_one f = leb (uses f gs) 1

  -- 1 where the entry of frame f names a copy
  abbrev named_at : ℕ → ℕ
  named_at f = cond (names_copy (get_or r f free_entry)) 1 0

  -- so it is where a copy is on the frame and the entry is its
  taken_at : all (page_rule limit) gs ≡ true → (f : ℕ) → 1 ≤ uses f gs → get_or r f free_entry ≡ entry_of (in_pages f 0 gs) → names_copy (get_or r f free_entry) ≡ true
  taken_at ok f some e =
      let few = low_pages f 0 64 gs (omega arith) (λ i l. eight limit (get_or gs i zero_page) (all_at (page_rule limit) gs i zero_page ok l)) in
      let l = entry_low (in_pages f 0 gs) few (free_pages f 0 gs ∙ ne_eqb (uses f gs) 0 (λ z. omega arith)) in
      rw (ne_eqb (get_or r f free_entry) free_entry (λ z. omega arith), ne_eqb (get_or r f free_entry) retired_entry (λ z. omega arith))

  sums : all (page_rule limit) gs ≡ true → frame_totals gs ≡ sum_below 254 (λ f. uses f gs)
  sums ok = sym (uses_sum limit low gs ok)

  entries : naming_entries r ≡ sum_below 254 named_at
  entries = taken_sum r ∙ ap (λ (n : ℕ). sum_below n named_at) long

  -- ---- from the pass
  module _ (scanned : scan_pages limit r 0 gs ≡ true) where
    ok : all (page_rule limit) gs ≡ true
    ok = scanned_ok limit r 0 gs scanned

    points : (f : ℕ) → f < 254 → Points r 0 gs f
    points f l = (pointed limit r f l 0 gs scanned).0

    few_named : (f : ℕ) → f < 254 → uses f gs ≤ named_at f
    few_named f l = go (ℕ_discrete (uses f gs) 0)
      where
        go : Dec (uses f gs ≡ 0) → uses f gs ≤ named_at f
        go (yes z) = omega arith
        go (no d) =
            let one = (points f l).once in
            rw (taken_at ok f (omega (arith, d)) ((points f l).tells (omega (arith, d)))) (omega arith)

    -- Copies are on no more frames than entries name copies: so where these frames and the free ones are all, no frame
    -- is retired.
    others_told : others_ok limit (frame_totals gs) r ≡ (eqb (frame_totals gs) (naming_entries r) && all not_retired (drop limit r))
    others_told = by (eqb (frame_totals gs + entries_of free_entry r) 254) refl
      where
        few : frame_totals gs ≤ naming_entries r
        few = rw (sums ok, entries) (sum_le 254 (λ f. uses f gs) named_at few_named)

        all_three : (naming_entries r + entries_of free_entry r) + entries_of retired_entry r ≡ 254
        all_three = three_numbers r ∙ long

        by : (b : Bool) → eqb (frame_totals gs + entries_of free_entry r) 254 ≡ b
            → cond b true (eqb (frame_totals gs + entries_of free_entry r + entries_of retired_entry r) 254 && all not_retired (drop limit r))
            ≡ (eqb (frame_totals gs) (naming_entries r) && all not_retired (drop limit r))
        by true e =
            let q = eqb-true (frame_totals gs + entries_of free_entry r) 254 e in
            sym
            (and_intro (eq-eqb (frame_totals gs) (naming_entries r) (omega (arith, few, all_three)))
            (all_drop not_retired limit r (none_retired r (omega (arith, few, all_three)))))
        by false e =
            ap (λ (b : Bool). b && all not_retired (drop limit r))
            (iff_eq (eqb (frame_totals gs + entries_of free_entry r + entries_of retired_entry r) 254) (eqb (frame_totals gs) (naming_entries r))
            (λ z.
            let q = eqb-true (frame_totals gs + entries_of free_entry r + entries_of retired_entry r) 254 z in
            eq-eqb (frame_totals gs) (naming_entries r) (omega (arith, all_three)))
            (λ z.
            let q = eqb-true (frame_totals gs) (naming_entries r) z in
            eq-eqb (frame_totals gs + entries_of free_entry r + entries_of retired_entry r) 254 (omega (arith, all_three))))

  module _ (scanned : scan_pages limit r 0 gs ≡ true) (same : frame_totals gs ≡ naming_entries r) (kept : all not_retired (drop limit r) ≡ true) where
    -- as many entries name copies as copies are on frames: so that of a frame that nobody is on names none
    free_entry_lem : (f : ℕ) → f < 254 → uses f gs ≡ 0 → names_copy (get_or r f free_entry) ≡ false
    free_entry_lem f l z =
        by (names_copy (get_or r f free_entry))
        (sym z ∙ sum_equal 254 (λ f. uses f gs) named_at (few_named scanned) (sym (sums (ok scanned)) ∙ same ∙ entries) f l)
      where
        by : (b : Bool) → ◌≡◌ {A = ℕ} 0 (cond b 1 0) → b ≡ false
        by true q = absurd (omega arith)
        by false q = refl

    -- no frame past the last one is retired
    out_in : (f : ℕ) → f < 254 → is_retired_entry (get_or r f free_entry) ≡ true → f < limit
    out_in f l out = by (ltb f limit) refl
      where
        by : (b : Bool) → ltb f limit ≡ b → f < limit
        by true e = ltb-true f limit e
        by false e =
            let past = ltb-false f limit e in
            let at : limit + (f - limit) ≡ f = omega arith in
            let in_rest : f - limit < length (drop limit r) = rw (length-drop limit r, long) (omega arith) in
            let stays = all_at not_retired (drop limit r) (f - limit) free_entry kept in_rest in
            absurd (true≢false (sym out ∙ not-true (is_retired_entry (get_or r f free_entry)) (rw (get_or-drop limit r (f - limit) free_entry, at) at stays)))

    right_at : (f : ℕ) → f < 254 → entry_rule limit f (in_pages f 0 gs) (get_or r f free_entry) ≡ true
    right_at f l = go (ℕ_discrete (uses f gs) 0)
      where
        go : Dec (uses f gs ≡ 0) → entry_rule limit f (in_pages f 0 gs) (get_or r f free_entry) ≡ true
        go (yes z) = by (is_retired_entry (get_or r f free_entry)) refl (free_entry_lem f l z)
          where
            by : (b : Bool) → is_retired_entry (get_or r f free_entry) ≡ b → (not (eqb (get_or r f free_entry) free_entry) && not b) ≡ false
                → entry_rule limit f (in_pages f 0 gs) (get_or r f free_entry) ≡ true
            by true e q = right_out limit f gs (get_or r f free_entry) e (out_in f l e) z
            by false e q =
                right_held limit f (in_pages f 0 gs) (get_or r f free_entry) e
                (eqb-true (get_or r f free_entry) free_entry (not-false _ (sym (and-true _) ∙ q)) ∙ ap entry_of (sym (nobody f 0 gs z)))
        go (no d) =
            let e = (points scanned f l).tells (omega (arith, d)) in
            let is = taken_at (ok scanned) f (omega (arith, d)) e in
            right_held limit f (in_pages f 0 gs) (get_or r f free_entry) (not-true _ (and_right (not (eqb (get_or r f free_entry) free_entry)) _ is)) e

    passes : (all (page_rule limit) gs && (all_below limit at_most_one && register_rule limit gs r)) ≡ true
    passes =
        and_intro (ok scanned)
        (and_intro (below_of limit at_most_one (λ f l. le-leb _ _ (points scanned f (omega arith)).once))
        (of_register limit gs r (record { register_long = long; entry_ok = right_at })))

  -- ---- from the rules
  module _ (ok : all (page_rule limit) gs ≡ true) (once : Once limit gs) (right : RegisterOk limit gs r) where
    -- an entry is that of a copy just where one is on the frame
    held_at : (f : ℕ) → f < 254 → 1 ≤ uses f gs → get_or r f free_entry ≡ entry_of (in_pages f 0 gs)
    held_at f l some = entry_held right f l (not_so (is_retired_entry (get_or r f free_entry)) (λ out. let z = out_idle right f out in omega arith))

    uses_named : (f : ℕ) → f < 254 → uses f gs ≡ named_at f
    uses_named f l = go (ℕ_discrete (uses f gs) 0)
      where
        go : Dec (uses f gs ≡ 0) → uses f gs ≡ named_at f
        go (no d) =
            let one = few_uses limit gs ok once f l in
            rw (taken_at ok f (omega (arith, d)) (held_at f l (omega (arith, d)))) (omega (arith, d))
        go (yes z) = by (is_retired_entry (get_or r f free_entry)) refl
          where
            by : (b : Bool) → is_retired_entry (get_or r f free_entry) ≡ b → uses f gs ≡ cond (not (eqb (get_or r f free_entry) free_entry) && not b) 1 0
            by true e = rw (and-false (not (eqb (get_or r f free_entry) free_entry))) z
            by false e = rw (entry_held right f l e, nobody f 0 gs z) z

    scanned_all : ((scan_pages limit r 0 gs) && (eqb (frame_totals gs) (naming_entries r) && all not_retired (drop limit r))) ≡ true
    scanned_all =
        and_intro (scan_of limit r 0 gs ok (λ f l. record { once = few_uses limit gs ok once f l; tells = held_at f l }))
        (and_intro (eq-eqb (frame_totals gs) (naming_entries r) (sums ok ∙ sum_same 254 (λ f. uses f gs) named_at uses_named ∙ sym entries))
        (all_of not_retired (drop limit r) free_entry (λ i l.
        rw (get_or-drop limit r i free_entry) (ap not (not_so (is_retired_entry (get_or r (limit + i) free_entry)) (λ out. let k = out_low right (limit + i) out in omega arith))))))

  -- ---- so both say the same
  pub scan_rules : (scan_pages limit r 0 gs && others_ok limit (frame_totals gs) r)
      ≡ (all (page_rule limit) gs && (all_below limit at_most_one && register_rule limit gs r))
  scan_rules =
      iff_eq _ _
      (λ e.
      let scanned = and_left (scan_pages limit r 0 gs) _ e in
      let e₁ = sym (others_told scanned) ∙ and_right (scan_pages limit r 0 gs) _ e in
      passes scanned (eqb-true (frame_totals gs) (naming_entries r) (and_left (eqb (frame_totals gs) (naming_entries r)) _ e₁))
      (and_right (eqb (frame_totals gs) (naming_entries r)) _ e₁))
      (λ e.
      let e₁ = and_right (all (page_rule limit) gs) _ e in
      let e₂ = scanned_all (and_left (all (page_rule limit) gs) _ e)
      (λ f l. leb-true (uses f gs) 1 (below_at limit at_most_one f (and_left (all_below limit at_most_one) _ e₁) l))
      (register_of limit gs r (and_right (all_below limit at_most_one) _ e₁)) in
      let scanned = and_left (scan_pages limit r 0 gs) _ e₂ in
      and_intro scanned (others_told scanned ∙ and_right (scan_pages limit r 0 gs) _ e₂))
