-- A page that stands still meets its rule after each change, and which frames its copies are then on.
use Prim.Native.Nat.{ℕ, ◌+◌, ◌-◌, ◌≤◌, ◌<◌}
use mathlib.Core.Bool.{Bool, true, false, ◌&&◌, cond, true≢false, false≢true}
use mathlib.Core.List.{List, [], ◌∷◌, ◌++◌, map}
use mathlib.Core.Path.{◌≡◌, refl, sym, ◌∙◌}
use native.Mathlib.Omega.{arith}
use lib.Dec.{eqb}
use lib.ListN.{length, get_or, set, take, drop, replicate, length-set}
use lib.Seq.{get_or-set_same, get_or-take, length-take-le}
use borrow.Author.Tests.{le-leb, eqb-false, ne_eqb}
use Rattle.tables.specs.declared.Copy.{Copy}
use Rattle.tables.specs.declared.Page.{Page}
use Rattle.tables.specs.declared.Edit.TheVariants.{Granted, Staled, Placed, Added, Removed, Marked}
use Rattle.tables.specs.Lists.{all, count}
use Rattle.tables.specs.Model.{is_null, copies_in_use, fresh_copy, zero_copy, on_frame}
use Rattle.tables.specs.Rules.{is_fresh, copy_rule, is_recent, is_current, at_most}
use Rattle.tables.specs.Changes.{created, with_copies, stale_copy, new_copy, close_gap, with_current, changed}
use Rattle.tables.proofs.ListLaws.{and_intro, not_so, all_of, all_append, all_drop, all_imp, all_map, all_set, count_append, count_at, count_le, count_map, count_set, count_some}
use Rattle.tables.proofs.RuleLaws.{GoodCopy, good_copy, of_good_copy, current_placed, StandingPage, length_in_use, copy_at_lem, fresh_copy_lem}
use Rattle.tables.proofs.ChangeLaws.{without, length_without, all_without, count_without, changed_rights, changed_copies, in_use_staled, rest_staled, in_use_placed, rest_placed, in_use_marked, rest_marked, added, in_use_added, rest_added, in_use_removed, rest_removed}
use Rattle.tables.proofs.Allowed.{StaleOk, RemoveOk, MarkOk}

-- ---- a copy of a changed page

-- how many copies the page has does not matter to a copy that has a frame
placed_good : {limit n m : ℕ} {c : Copy} → GoodCopy limit n c → is_null c ≡ false → GoodCopy limit m c
placed_good o e =
    record {
      marks = o.marks;
      placed = o.placed;
      lone = λ z. absurd (true≢false (sym z ∙ e));
      null_recent = o.null_recent;
      null_idle = o.null_idle;
    }

-- a copy that has a frame may lose MOST RECENT
stale_good : {limit n : ℕ} {c : Copy} → GoodCopy limit n c → is_null c ≡ false → GoodCopy limit n (stale_copy c)
stale_good o e =
    record {
      marks = λ z. and_intro (o.marks z) z;
      placed = o.placed;
      lone = o.lone;
      null_recent = λ z. absurd (true≢false (sym z ∙ e));
      null_idle = o.null_idle;
    }

-- a new copy on a frame in range
new_good : (limit n frame : ℕ) (recent : Bool) → frame < limit → limit ≤ 254 → GoodCopy limit n (new_copy frame recent)
new_good limit n frame recent h small =
    record {
      marks = λ z. absurd (false≢true z);
      placed = λ z. h;
      lone = λ z. absurd (true≢false (sym z ∙ full));
      null_recent = λ z. absurd (true≢false (sym z ∙ full));
      null_idle = λ z. refl;
    }
  where
    full : eqb frame 255 ≡ false
    full = ne_eqb frame 255 (λ z. omega arith)

-- a copy that may have the mark
marked_good : (limit n : ℕ) (c : Copy) (b : Bool) → GoodCopy limit n c → (b ≡ true → c.recent ≡ true) → (b ≡ true → is_null c ≡ false)
    → GoodCopy limit n (with_current c b)
marked_good limit n c b o r f =
    record { marks = r; placed = o.placed; lone = o.lone; null_recent = o.null_recent; null_idle = λ z. idle b z f }
  where
    idle : (b : Bool) → is_null c ≡ true → (b ≡ true → is_null c ≡ false) → b ≡ false
    idle true z f = absurd (true≢false (sym z ∙ f refl))
    idle false z f = refl

-- of two copies or more none is null
full : {limit n : ℕ} {c : Copy} → GoodCopy limit n c → 2 ≤ n → is_null c ≡ false
full {c = c} o h = not_so (is_null c) (λ z. let one = o.lone z in omega arith)

-- where one that is not the last is taken from m, some are left
some_left : (b : Bool) (m k : ℕ) → (b && eqb m 1) ≡ false → 1 ≤ m → k + cond b 1 0 ≡ m → 1 ≤ k
some_left true m k e h q = let ne = eqb-false m 1 e in omega (arith, ne)
some_left false m k e h q = omega arith

-- a list of one
all_one : {A : Type 0} (f : A → Bool) (a : A) → f a ≡ true → all f (a ∷ []) ≡ true
unfolding all
all_one f a e = and_intro e refl

-- ---- a changed page

module _ {limit : ℕ} {g : Page} (s : StandingPage limit g) where
  -- beside a copy that has a frame none is null
  pub none_null : (k : ℕ) → k < g.n → is_null (get_or g.copies k zero_copy) ≡ false
      → (j : ℕ) → j < g.n → is_null (get_or g.copies j zero_copy) ≡ false
  none_null k h e j m =
      not_so _ (λ z.
      let one = (copy_at_lem s j m).lone z in
      let q : k ≡ j = omega arith in
      true≢false (sym z ∙ rw q at e))

  -- so what holds of each copy that has a frame holds of all
  all_placed : (f : Copy → Bool) (k : ℕ) → k < g.n → is_null (get_or g.copies k zero_copy) ≡ false
      → ((c : Copy) → GoodCopy limit g.n c → is_null c ≡ false → f c ≡ true) → all f (copies_in_use g) ≡ true
  all_placed f k h e then =
      all_of f (copies_in_use g) zero_copy
      (λ j l.
      let m : j < g.n = rw (length_in_use s) at l in
      rw (get_or-take g.n g.copies j zero_copy m) (then (get_or g.copies j zero_copy) (copy_at_lem s j m) (none_null k h e j m)))

  -- the page with other copies
  recopied : (n : ℕ) (cs : List Copy) → length cs ≡ 8 → n ≤ 8 → all (copy_rule limit n) (take n cs) ≡ true → all is_fresh (drop n cs) ≡ true
      → 1 ≤ count is_recent (take n cs) → StandingPage limit (with_copies g n cs)
  recopied n cs long most ok rest re =
      record {
        rights_long = s.rights_long;
        copies_long = long;
        owner_ok = s.owner_ok;
        rights_ok = s.rights_ok;
        some = let a = count_le is_recent (take n cs) in let b = length-take-le n cs (rw long most) in omega arith;
        most = most;
        copies_ok = ok;
        rest_fresh = rest;
        recent_ok = re;
      }

  -- after a write
  pub staled_ok : StaleOk g → StandingPage limit (changed g Staled)
  unfolding changed
  staled_ok a =
      let w = count_some is_current (copies_in_use g) zero_copy a.written in
      let h : w.0 < g.n = rw (length_in_use s) at w.1 in
      let same = get_or-take g.n g.copies w.0 zero_copy h in
      let cur : (get_or g.copies w.0 zero_copy).current ≡ true = rw same at w.2 in
      let o = copy_at_lem s w.0 h in
      recopied g.n (map stale_copy g.copies) (changed_copies g Staled s.copies_long) s.most
      (rw (in_use_staled g, all_map (copy_rule limit g.n) stale_copy (copies_in_use g))
      (all_placed (λ c. copy_rule limit g.n (stale_copy c)) w.0 h (current_placed o cur)
      (λ c u v. of_good_copy limit g.n (stale_copy c) (stale_good u v))))
      (rw (rest_staled g, all_map is_fresh stale_copy (drop g.n g.copies))
      (all_imp is_fresh (λ c. is_fresh (stale_copy c)) (drop g.n g.copies) (λ c z. rw (fresh_copy_lem c z)) s.rest_fresh))
      (rw (in_use_staled g, count_map is_recent (λ c. c.recent && c.current) stale_copy (copies_in_use g) (λ c. refl))
      (count_at (λ c. c.recent && c.current) (copies_in_use g) w.0 zero_copy w.1 (rw same (and_intro (o.marks cur) cur))))

  -- with a copy on a frame in place of the first
  pub placed_ok : (f : ℕ) → f < limit → limit ≤ 254 → StandingPage limit (changed g (Placed f))
  unfolding changed
  placed_ok f h small =
      let some : 1 ≤ g.n = s.some in
      let c : Copy = new_copy f true in
      let long = length_in_use s in
      recopied g.n (set g.copies 0 c) (changed_copies g (Placed f) s.copies_long) s.most
      (rw (in_use_placed g f some)
      (all_set (copy_rule limit g.n) (copies_in_use g) 0 c s.copies_ok (of_good_copy limit g.n c (new_good limit g.n f true h small))))
      (rw (rest_placed g f some) s.rest_fresh)
      (rw (in_use_placed g f some)
      (count_at is_recent (set (copies_in_use g) 0 c) 0 zero_copy (rw (length-set (copies_in_use g) 0 c, long) some)
      (rw (get_or-set_same (copies_in_use g) 0 c zero_copy (rw long some)))))

  -- with another mark
  pub marked_ok : (k : ℕ) (b : Bool) → MarkOk g k b → StandingPage limit (changed g (Marked k b))
  unfolding changed
  marked_ok k b a =
      let h : k < g.n = a.in_use in
      let old : Copy = get_or g.copies k zero_copy in
      let same : get_or (copies_in_use g) k zero_copy ≡ old = get_or-take g.n g.copies k zero_copy h in
      let u = count_set is_recent (copies_in_use g) k (with_current old b) zero_copy (rw (length_in_use s) h) in
      let v : count is_recent (set (copies_in_use g) k (with_current old b)) + cond old.recent 1 0 ≡ count is_recent (copies_in_use g) + cond old.recent 1 0 = rw same at u in
      recopied g.n (set g.copies k (with_current old b)) (changed_copies g (Marked k b) s.copies_long) s.most
      (rw (in_use_marked g k b h)
      (all_set (copy_rule limit g.n) (copies_in_use g) k (with_current old b) s.copies_ok
      (of_good_copy limit g.n (with_current old b) (marked_good limit g.n old b (copy_at_lem s k h) a.fresh a.placed))))
      (rw (rest_marked g k b h) s.rest_fresh)
      (rw (in_use_marked g k b h) (omega (arith, s.recent_ok)))

  -- with one copy more
  pub added_ok : (f : ℕ) (r : Bool) → f < limit → limit ≤ 254 → g.n < 8 → (k : ℕ) → k < g.n → is_null (get_or g.copies k zero_copy) ≡ false
      → StandingPage limit (changed g (Added f r))
  added_ok f r h small room k hk e =
      let c : Copy = new_copy f r in
      let n : ℕ = g.n + 1 in
      let used : take n (set g.copies g.n c) ≡ copies_in_use g ++ (c ∷ []) = rw (added g f r room) at (in_use_added g s.copies_long f r room) in
      let rest : drop n (set g.copies g.n c) ≡ drop 1 (drop g.n g.copies) = rw (added g f r room) at (rest_added g s.copies_long f r room) in
      rw (added g f r room)
      (recopied n (set g.copies g.n c) (length-set g.copies g.n c ∙ s.copies_long) (omega arith)
      (rw (used, all_append (copy_rule limit n) (copies_in_use g) (c ∷ []))
      (and_intro (all_placed (copy_rule limit n) k hk e (λ c u v. of_good_copy limit n c (placed_good u v)))
      (all_one (copy_rule limit n) c (of_good_copy limit n c (new_good limit n f r h small)))))
      (rw rest (all_drop is_fresh 1 (drop g.n g.copies) s.rest_fresh))
      (rw (used, count_append is_recent (copies_in_use g) (c ∷ [])) (omega (arith, s.recent_ok))))

  -- with one copy fewer
  pub removed_ok : (k : ℕ) → RemoveOk g k → StandingPage limit (changed g (Removed k))
  unfolding changed
  removed_ok k a =
      let h : k < g.n = a.in_use in
      let long = length_in_use s in
      let used = in_use_removed g s.copies_long k h s.most in
      let left : 1 ≤ count is_recent (without (copies_in_use g) k) =
      some_left (get_or g.copies k zero_copy).recent (count is_recent (copies_in_use g)) (count is_recent (without (copies_in_use g) k)) a.not_last s.recent_ok
      (rw (get_or-take g.n g.copies k zero_copy h) at (count_without is_recent (copies_in_use g) k zero_copy (rw long h))) in
      let two : 2 ≤ g.n = let u = count_le is_recent (without (copies_in_use g) k) in let v = length_without (copies_in_use g) k (rw long h) in omega arith in
      recopied (g.n - 1) (close_gap g.copies k) (changed_copies g (Removed k) s.copies_long) (omega (arith, s.most))
      (rw used
      (all_imp (copy_rule limit g.n) (copy_rule limit (g.n - 1)) (without (copies_in_use g) k)
      (λ c z. let o = good_copy limit g.n c z in of_good_copy limit (g.n - 1) c (placed_good o (full o two)))
      (all_without (copy_rule limit g.n) (copies_in_use g) k s.copies_ok)))
      (rw (rest_removed g s.copies_long k h s.most, all_append is_fresh (drop g.n g.copies) (fresh_copy ∷ []))
      (and_intro s.rest_fresh (all_one is_fresh fresh_copy refl)))
      (rw used left)

  -- with another right
  pub granted_ok : (o r : ℕ) → r ≤ 2 → StandingPage limit (changed g (Granted o r))
  unfolding changed
  granted_ok o r h =
      record {
        rights_long = changed_rights g (Granted o r) s.rights_long;
        copies_long = s.copies_long;
        owner_ok = s.owner_ok;
        rights_ok = all_set (at_most 2) g.rights o r s.rights_ok (le-leb r 2 h);
        some = s.some;
        most = s.most;
        copies_ok = s.copies_ok;
        rest_fresh = s.rest_fresh;
        recent_ok = s.recent_ok;
      }

  -- ---- how many of its copies are on frame f

  -- after a write, as many as before
  pub staled_on : (f : ℕ) → count (on_frame f) (copies_in_use (changed g Staled)) ≡ count (on_frame f) (copies_in_use g)
  staled_on f = rw (in_use_staled g) (count_map (on_frame f) (on_frame f) stale_copy (copies_in_use g) (λ c. refl))

  -- with another mark, as many as before
  pub marked_on : (k : ℕ) (b : Bool) (f : ℕ) → k < g.n → count (on_frame f) (copies_in_use (changed g (Marked k b))) ≡ count (on_frame f) (copies_in_use g)
  marked_on k b f h =
      let c : Copy = with_current (get_or g.copies k zero_copy) b in
      let u : count (on_frame f) (set (copies_in_use g) k c) + cond (on_frame f c) 1 0 ≡ count (on_frame f) (copies_in_use g) + cond (on_frame f c) 1 0 =
      rw (get_or-take g.n g.copies k zero_copy h) at (count_set (on_frame f) (copies_in_use g) k c zero_copy (rw (length_in_use s) h)) in
      rw (in_use_marked g k b h) (omega arith)

  -- without copy k, one fewer where that was
  pub removed_on : (k f : ℕ) → k < g.n
      → count (on_frame f) (copies_in_use (changed g (Removed k))) + cond (on_frame f (get_or g.copies k zero_copy)) 1 0 ≡ count (on_frame f) (copies_in_use g)
  removed_on k f h =
      rw (in_use_removed g s.copies_long k h s.most, ← get_or-take g.n g.copies k zero_copy h)
      (count_without (on_frame f) (copies_in_use g) k zero_copy (rw (length_in_use s) h))

  -- with copy 0 placed on frame x, one fewer where it was, and one more there
  pub placed_on : (x f : ℕ)
      → count (on_frame f) (copies_in_use (changed g (Placed x))) + cond (on_frame f (get_or g.copies 0 zero_copy)) 1 0
      ≡ count (on_frame f) (copies_in_use g) + cond (eqb x f) 1 0
  placed_on x f =
      rw (in_use_placed g x s.some, ← get_or-take g.n g.copies 0 zero_copy s.some)
      (count_set (on_frame f) (copies_in_use g) 0 (new_copy x true) zero_copy (rw (length_in_use s) s.some))

  -- with a copy more on frame x, one more there
  pub added_on : (x : ℕ) (r : Bool) (f : ℕ) → g.n < 8 → count (on_frame f) (copies_in_use (changed g (Added x r))) ≡ count (on_frame f) (copies_in_use g) + cond (eqb x f) 1 0
  unfolding count
  added_on x r f h = rw (in_use_added g s.copies_long x r h, count_append (on_frame f) (copies_in_use g) (new_copy x r ∷ [])) (omega arith)

-- the null copy of a created page is on no frame
pub created_on : (st f : ℕ) → f ≤ 254 → count (on_frame f) (copies_in_use (created st)) ≡ 0
unfolding created count
created_on st f h = rw (ne_eqb 255 f (λ z. omega arith))

-- a page that was created
pub created_ok : (limit st : ℕ) → st < 16 → StandingPage limit (created st)
unfolding created all count
created_ok limit st h =
    record {
      rights_long = length-set (replicate 16 1) st 2;
      copies_long = refl;
      owner_ok = omega arith;
      rights_ok = all_set (at_most 2) (replicate 16 1) st 2 refl refl;
      some = omega arith;
      most = omega arith;
      copies_ok = refl;
      rest_fresh = refl;
      recent_ok = omega arith;
    }
