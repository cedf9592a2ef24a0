-- What the table rules say, part by part, and back: of a copy, of a page, of the tables.
use Prim.Native.Nat.{ℕ, ◌≤◌, ◌<◌}
use mathlib.Core.Bool.{Bool, true, false, not, ◌&&◌, ◌||◌, cond, true≢false}
use mathlib.Core.List.{List, [], ◌∷◌}
use mathlib.Core.Path.{◌≡◌, refl, sym, ap, ◌∙◌}
use native.Mathlib.Omega.{arith}
use lib.Dec.{leb, ltb, eqb}
use lib.ListN.{length, get_or, take, drop, length-take, get_or-eq_default}
use lib.Seq.{length-take-le, get_or-take}
use borrow.Author.Tests.{ltb-true, ltb-false, leb-true, eqb-true, eqb-false, not-true, lt-ltb, le-leb, eq-eqb, ne_eqb}
use Rattle.tables.specs.declared.Copy.{Copy}
use Rattle.tables.specs.declared.Page.{Page}
use Rattle.tables.specs.declared.Shared.{Shared}
use Rattle.tables.specs.declared.Tables.{Tables}
use Rattle.tables.specs.declared.Holder.{Holder}
use Rattle.tables.specs.Lists.{all, count}
use Rattle.tables.specs.Model.{frames, free_entry, is_retired_entry, retired_at, is_null, copies_in_use, absent, on_frame, fresh_copy, fresh_page, zero_copy, zero_page, page_at}
use Rattle.tables.specs.Rules.{uses, holders, is_fresh, copy_rule, is_recent, at_most, standing_rule, absent_rule, shaped, page_rule, none_shared, sizes_rule, pages_rule, sound}
use Rattle.tables.specs.Search.{in_pages, is_free}
use Rattle.tables.specs.Register.{entry_of, entry_rule, register_rule}
use Rattle.tables.proofs.HolderLaws.{free_pages}
use Rattle.tables.proofs.UsesLaws.{uses_hold}
use Rattle.tables.proofs.ListLaws.{and_left, and_right, and_intro, or_left, or_right, not_so, all_first, all_rest, all_at, all_of, below_at, below_of}

-- ---- a copy

-- the rule of a copy of a page with n copies, on frames below limit
pub record GoodCopy (limit n : ℕ) (c : Copy) : Type 0 where
  -- a CURRENT copy is MOST RECENT
  pub marks : c.current ≡ true → c.recent ≡ true
  -- a copy that has a frame has one in range
  pub placed : is_null c ≡ false → c.frame < limit
  -- a null copy is the only one, MOST RECENT and not CURRENT
  pub lone : is_null c ≡ true → n ≡ 1
  pub null_recent : is_null c ≡ true → c.recent ≡ true
  pub null_idle : is_null c ≡ true → c.current ≡ false

marks_of : (r c : Bool) → (r || not c) ≡ true → c ≡ true → r ≡ true
marks_of true c e h = refl
marks_of false true e h = e
marks_of false false e h = h

of_marks : (r c : Bool) → (c ≡ true → r ≡ true) → (r || not c) ≡ true
of_marks true c h = refl
of_marks false true h = h refl
of_marks false false h = refl

-- the parts of the rule
pub good_copy : (limit n : ℕ) (c : Copy) → copy_rule limit n c ≡ true → GoodCopy limit n c
good_copy limit n c e =
    let m = c.recent || not c.current in
    let k = cond (is_null c) (eqb n 1 && (c.recent && not c.current)) (ltb c.frame limit) in
    let e₁ : m ≡ true = and_left m k e in
    let e₂ : k ≡ true = and_right m k e in
    record {
      marks = marks_of c.recent c.current e₁;
      placed = λ z. ltb-true c.frame limit (rw z at e₂);
      lone = λ z. eqb-true n 1 (and_left (eqb n 1) _ (rw z at e₂));
      null_recent = λ z. and_left c.recent _ (and_right (eqb n 1) _ (rw z at e₂));
      null_idle = λ z. not-true c.current (and_right c.recent _ (and_right (eqb n 1) _ (rw z at e₂)));
    }

-- and the rule from its parts
pub of_good_copy : (limit n : ℕ) (c : Copy) → GoodCopy limit n c → copy_rule limit n c ≡ true
of_good_copy limit n c g = and_intro (of_marks c.recent c.current g.marks) (by (is_null c) refl)
  where
    by : (b : Bool) → is_null c ≡ b → cond b (eqb n 1 && (c.recent && not c.current)) (ltb c.frame limit) ≡ true
    by true z = and_intro (eq-eqb n 1 (g.lone z)) (and_intro (g.null_recent z) (ap not (g.null_idle z)))
    by false z = lt-ltb c.frame limit (g.placed z)

-- a CURRENT copy has a frame
pub current_placed : {limit n : ℕ} {c : Copy} → GoodCopy limit n c → c.current ≡ true → is_null c ≡ false
current_placed {c = c} g h = not_so (is_null c) (λ z. true≢false (sym h ∙ g.null_idle z))

-- and it is in range
pub current_frame : {limit n : ℕ} {c : Copy} → GoodCopy limit n c → c.current ≡ true → c.frame < limit
current_frame g h = g.placed (current_placed g h)

-- ---- a page that stands

-- the rule of such a page, for frames below limit
pub record StandingPage (limit : ℕ) (g : Page) : Type 0 where
  pub rights_long : length g.rights ≡ 16
  pub copies_long : length g.copies ≡ 8
  pub owner_ok : g.owner ≤ 15
  pub rights_ok : all (at_most 2) g.rights ≡ true
  pub some : 1 ≤ g.n
  pub most : g.n ≤ 8
  pub copies_ok : all (copy_rule limit g.n) (copies_in_use g) ≡ true
  pub rest_fresh : all is_fresh (drop g.n g.copies) ≡ true
  pub recent_ok : 1 ≤ count is_recent (copies_in_use g)

-- the parts of the rule of a page that stands
pub standing : (limit : ℕ) (g : Page) → page_rule limit g ≡ true → absent g ≡ false → StandingPage limit g
unfolding page_rule standing_rule
standing limit g e st =
    let r = eqb (length g.rights) 16 in
    let s = and_left (shaped g) _ e in
    let e₁ : standing_rule limit g ≡ true = rw st at (and_right (shaped g) _ e) in
    let e₂ = and_right (leb g.owner 15) _ e₁ in
    let e₃ = and_right (all (at_most 2) g.rights) _ e₂ in
    let e₄ = and_right (leb g.n 8) _ e₃ in
    let e₅ = and_right (all (copy_rule limit g.n) (copies_in_use g)) _ e₄ in
    let ne = eqb-false g.n 0 st in
    record {
      rights_long = eqb-true _ 16 (and_left r _ s);
      copies_long = eqb-true _ 8 (and_right r _ s);
      owner_ok = leb-true g.owner 15 (and_left (leb g.owner 15) _ e₁);
      rights_ok = and_left (all (at_most 2) g.rights) _ e₂;
      some = omega (arith, ne);
      most = leb-true g.n 8 (and_left (leb g.n 8) _ e₃);
      copies_ok = and_left (all (copy_rule limit g.n) (copies_in_use g)) _ e₄;
      rest_fresh = and_left (all is_fresh (drop g.n g.copies)) _ e₅;
      recent_ok = leb-true 1 _ (and_right (all is_fresh (drop g.n g.copies)) _ e₅);
    }

module _ {limit : ℕ} {g : Page} (s : StandingPage limit g) where
  -- such a page is not absent
  pub not_absent : absent g ≡ false
  not_absent = ne_eqb g.n 0 (λ z. omega arith)

  -- and the rule from its parts
  pub of_standing : page_rule limit g ≡ true
  unfolding page_rule standing_rule
  of_standing =
      and_intro (and_intro (eq-eqb _ _ s.rights_long) (eq-eqb _ _ s.copies_long))
      (rw not_absent (and_intro (le-leb _ _ s.owner_ok) (and_intro s.rights_ok (and_intro (le-leb _ _ s.most)
      (and_intro s.copies_ok (and_intro s.rest_fresh (le-leb _ _ s.recent_ok)))))))

  -- its copies are n
  pub length_in_use : length (copies_in_use g) ≡ g.n
  length_in_use = length-take-le g.n g.copies (rw s.copies_long s.most)

  -- each of them meets the rule of a copy
  pub copy_at_lem : (k : ℕ) → k < g.n → GoodCopy limit g.n (get_or g.copies k zero_copy)
  copy_at_lem k h =
      good_copy limit g.n (get_or g.copies k zero_copy)
      (rw (get_or-take g.n g.copies k zero_copy h) at
      (all_at (copy_rule limit g.n) (copies_in_use g) k zero_copy s.copies_ok (rw length_in_use h)))

-- ---- an absent page

-- an entry that is as in fresh tables
pub fresh_copy_lem : (c : Copy) → is_fresh c ≡ true → c ≡ fresh_copy
fresh_copy_lem c e =
    let w = not-true (c.current || c.recent) (and_right (is_null c) _ e) in
    same c.frame c.current c.recent (eqb-true c.frame 255 (and_left (is_null c) _ e))
    (or_left c.current _ w) (or_right c.current _ w)
  where
    same : (f : ℕ) (a b : Bool) → f ≡ 255 → a ≡ false → b ≡ false → ◌≡◌ {A = Copy} (record { frame = f; current = a; recent = b }) fresh_copy
    same f a b p q r = cc

-- a fresh page meets the rule
pub fresh_page_ok : (limit : ℕ) → page_rule limit fresh_page ≡ true
unfolding page_rule absent_rule fresh_page all
fresh_page_ok limit = refl

-- ---- the copies of any page

-- each meets the rule of a copy
pub copies_ruled : (limit : ℕ) (g : Page) → page_rule limit g ≡ true → all (copy_rule limit g.n) (copies_in_use g) ≡ true
unfolding all
copies_ruled limit g e = go (absent g) refl
  where
    go : (b : Bool) → absent g ≡ b → all (copy_rule limit g.n) (copies_in_use g) ≡ true
    go true q = rw (ap (λ (n : ℕ). take n g.copies) (eqb-true g.n 0 q))
    go false q = (standing limit g e q).copies_ok

-- they are eight at the most
pub eight : (limit : ℕ) (g : Page) → page_rule limit g ≡ true → length (copies_in_use g) ≤ 8
unfolding page_rule
eight limit g e =
    let s = and_left (shaped g) _ e in
    let l : length g.copies ≡ 8 = eqb-true _ 8 (and_right (eqb (length g.rights) 16) _ s) in
    let m = length-take g.n g.copies in
    omega arith

-- none is on a frame past the last one
module _ (limit f : ℕ) (past : limit ≤ f) (small : f < 255) where
  copy_past : (n : ℕ) (c : Copy) → GoodCopy limit n c → on_frame f c ≡ false
  copy_past n c o = by (is_null c) refl
    where
      by : (b : Bool) → is_null c ≡ b → eqb c.frame f ≡ false
      by true e = let k = eqb-true c.frame 255 e in ne_eqb c.frame f (λ z. omega arith)
      by false e = let k = o.placed e in ne_eqb c.frame f (λ z. omega arith)

  copies_past : (n : ℕ) (cs : List Copy) → all (copy_rule limit n) cs ≡ true → count (on_frame f) cs ≡ 0
  unfolding count
  copies_past n [] e = refl
  copies_past n (c ∷ cs) e =
      rw (copy_past n c (good_copy limit n c (all_first (copy_rule limit n) c cs e)), copies_past n cs (all_rest (copy_rule limit n) c cs e))

  pub uses_past : (gs : List Page) → all (page_rule limit) gs ≡ true → uses f gs ≡ 0
  unfolding uses
  uses_past [] e = refl
  uses_past (g ∷ gs) e =
      let own = copies_past g.n (copies_in_use g) (copies_ruled limit g (all_first (page_rule limit) g gs e)) in
      let rest = uses_past gs (all_rest (page_rule limit) g gs e) in
      omega arith

-- ---- the tables, rule by rule: each part is about the fields that its rule is about

-- P and S
pub record SizesOk (a : Shared) : Type 0 where
  pub fast_ok : a.p ≤ 127
  pub slow_ok : a.s ≤ 127

pub sizes_of : (a : Shared) → sizes_rule a ≡ true → SizesOk a
unfolding sizes_rule
sizes_of a e =
    record { fast_ok = leb-true a.p 127 (and_left (leb a.p 127) _ e); slow_ok = leb-true a.s 127 (and_right (leb a.p 127) _ e) }

pub of_sizes : (a : Shared) → SizesOk a → sizes_rule a ≡ true
unfolding sizes_rule
of_sizes a s = and_intro (le-leb _ _ s.fast_ok) (le-leb _ _ s.slow_ok)

-- the pages, each by itself
pub record PagesOk (limit : ℕ) (gs : List Page) : Type 0 where
  pub pages_long : length gs ≡ 64
  pub page_ok : (p : ℕ) → p < 64 → page_rule limit (get_or gs p zero_page) ≡ true

pub pages_of : (limit : ℕ) (gs : List Page) → pages_rule limit gs ≡ true → PagesOk limit gs
unfolding pages_rule
pages_of limit gs e =
    let l : length gs ≡ 64 = eqb-true _ 64 (and_left (eqb (length gs) 64) _ e) in
    record { pages_long = l; page_ok = λ p h. all_at (page_rule limit) gs p zero_page (and_right (eqb (length gs) 64) _ e) (rw l h) }

-- all of them
pub pages_ruled : {limit : ℕ} {gs : List Page} → PagesOk limit gs → all (page_rule limit) gs ≡ true
pages_ruled {limit} {gs} s = all_of (page_rule limit) gs zero_page (λ p h. s.page_ok p (rw s.pages_long at h))

pub of_pages : (limit : ℕ) (gs : List Page) → PagesOk limit gs → pages_rule limit gs ≡ true
unfolding pages_rule
of_pages limit gs s = and_intro (eq-eqb _ _ s.pages_long) (pages_ruled s)

-- no frame under two copies
abbrev pub Alone : ℕ → (ℕ → ℕ) → Type 0
Alone limit held = (f : ℕ) → f < limit → held f ≤ 1

pub alone_of : (limit : ℕ) (held : ℕ → ℕ) → none_shared limit held ≡ true → Alone limit held
unfolding none_shared
alone_of limit held e f h = leb-true (held f) 1 (below_at limit (λ f. leb (held f) 1) f e h)

pub of_alone : (limit : ℕ) (held : ℕ → ℕ) → Alone limit held → none_shared limit held ≡ true
unfolding none_shared
of_alone limit held once = below_of limit (λ f. leb (held f) 1) (λ f h. le-leb _ _ (once f h))

-- of pages
abbrev pub Once : ℕ → List Page → Type 0
Once limit gs = (f : ℕ) → f < limit → uses f gs ≤ 1

pub pages_once : (t : Tables) → Alone (frames t) (holders t) → Once (frames t) t.pages
pages_once t once f h = omega (arith, uses_hold t f, once f h)

-- the register
pub record RegisterOk (limit : ℕ) (gs : List Page) (r : List ℕ) : Type 0 where
  pub register_long : length r ≡ 254
  pub entry_ok : (f : ℕ) → f < 254 → entry_rule limit f (in_pages f 0 gs) (get_or r f free_entry) ≡ true

pub register_of : (limit : ℕ) (gs : List Page) (r : List ℕ) → register_rule limit gs r ≡ true → RegisterOk limit gs r
unfolding register_rule
register_of limit gs r e =
    record {
      register_long = eqb-true _ 254 (and_left (eqb (length r) 254) _ e);
      entry_ok = λ f h. below_at 254 (λ f. entry_rule limit f (in_pages f 0 gs) (get_or r f free_entry)) f (and_right (eqb (length r) 254) _ e) h;
    }

pub of_register : (limit : ℕ) (gs : List Page) (r : List ℕ) → RegisterOk limit gs r → register_rule limit gs r ≡ true
unfolding register_rule
of_register limit gs r s =
    and_intro (eq-eqb _ _ s.register_long) (below_of 254 (λ f. entry_rule limit f (in_pages f 0 gs) (get_or r f free_entry)) s.entry_ok)

-- the entry of a frame that is not retired is that of the copy which the search finds
pub right_held : (limit f : ℕ) (h : Holder) (e : ℕ) → is_retired_entry e ≡ false → e ≡ entry_of h → entry_rule limit f h e ≡ true
right_held limit f h e in_use q = rw in_use (eq-eqb e (entry_of h) q)

-- a retired frame is in range, and no copy is on it
pub right_out : (limit f : ℕ) (gs : List Page) (e : ℕ) → is_retired_entry e ≡ true → f < limit → uses f gs ≡ 0 → entry_rule limit f (in_pages f 0 gs) e ≡ true
right_out limit f gs e out low idle = rw out (and_intro (free_pages f 0 gs ∙ eq-eqb (uses f gs) 0 idle) (lt-ltb f limit low))

module _ {limit : ℕ} {gs : List Page} {r : List ℕ} (s : RegisterOk limit gs r) where
  pub entry_held : (f : ℕ) → f < 254 → is_retired_entry (get_or r f free_entry) ≡ false → get_or r f free_entry ≡ entry_of (in_pages f 0 gs)
  entry_held f h in_use = eqb-true _ _ (rw in_use at (s.entry_ok f h))

  -- past the register there is no entry
  out_near : (f : ℕ) → is_retired_entry (get_or r f free_entry) ≡ true → f < 254
  out_near f out = by (ltb f 254) refl
    where
      by : (b : Bool) → ltb f 254 ≡ b → f < 254
      by true e = ltb-true f 254 e
      by false e =
          let far : length r ≤ f = rw s.register_long (ltb-false f 254 e) in
          absurd (true≢false (sym out ∙ ap is_retired_entry (get_or-eq_default r free_entry {n = f} far)))

  out_free : (f : ℕ) → is_retired_entry (get_or r f free_entry) ≡ true → (is_free (in_pages f 0 gs) && ltb f limit) ≡ true
  out_free f out = rw out at (s.entry_ok f (out_near f out))

  pub out_low : (f : ℕ) → is_retired_entry (get_or r f free_entry) ≡ true → f < limit
  out_low f out = ltb-true f limit (and_right (is_free (in_pages f 0 gs)) _ (out_free f out))

  pub out_idle : (f : ℕ) → is_retired_entry (get_or r f free_entry) ≡ true → uses f gs ≡ 0
  out_idle f out = eqb-true (uses f gs) 0 (sym (free_pages f 0 gs) ∙ and_left (is_free (in_pages f 0 gs)) _ (out_free f out))

-- the table rules: one part for each
pub record Sound (t : Tables) : Type 0 where
  pub sizes : SizesOk t.shared
  pub paged : PagesOk (frames t) t.pages
  pub once : Alone (frames t) (holders t)
  pub right : RegisterOk (frames t) t.pages t.register

pub sound_of : (t : Tables) → sound t ≡ true → Sound t
unfolding sound
sound_of t e =
    let e₁ = and_right (sizes_rule t.shared) _ e in
    let e₂ = and_right (pages_rule (frames t) t.pages) _ e₁ in
    record {
      sizes = sizes_of t.shared (and_left (sizes_rule t.shared) _ e);
      paged = pages_of (frames t) t.pages (and_left (pages_rule (frames t) t.pages) _ e₁);
      once = alone_of (frames t) (holders t) (and_left (none_shared (frames t) (holders t)) _ e₂);
      right = register_of (frames t) t.pages t.register (and_right (none_shared (frames t) (holders t)) _ e₂);
    }

-- and the rules from their parts
pub of_sound : (t : Tables) → Sound t → sound t ≡ true
unfolding sound
of_sound t s =
    and_intro (of_sizes t.shared s.sizes) (and_intro (of_pages (frames t) t.pages s.paged)
    (and_intro (of_alone (frames t) (holders t) s.once) (of_register (frames t) t.pages t.register s.right)))

module _ {t : Tables} (s : Sound t) where
  -- the frames have numbers of the register
  pub few_frames : frames t ≤ 254
  few_frames = omega (arith, s.sizes.fast_ok, s.sizes.slow_ok)

  -- a retired frame is in range, and no copy has it
  pub retired_low : (f : ℕ) → retired_at t f ≡ true → f < frames t
  retired_low = out_low s.right

  pub retired_bare : (f : ℕ) → retired_at t f ≡ true → holders t f ≡ 0
  unfolding holders
  retired_bare = out_idle s.right

-- no number below 254 is a frame under two copies
pub few_uses : (limit : ℕ) (gs : List Page) → all (page_rule limit) gs ≡ true → Once limit gs
    → (f : ℕ) → f < 254 → uses f gs ≤ 1
few_uses limit gs ok once f h = by (ltb f limit) refl
  where
    by : (b : Bool) → ltb f limit ≡ b → uses f gs ≤ 1
    by true e = once f (ltb-true f limit e)
    by false e = let l = ltb-false f limit e in let z = uses_past limit f (omega arith) (omega arith) gs ok in omega arith

-- a page that stands, of sound tables
pub standing_at : (t : Tables) (p : ℕ) → Sound t → p < 64 → absent (page_at t p) ≡ false → StandingPage (frames t) (page_at t p)
standing_at t p s h st = standing (frames t) (page_at t p) (s.paged.page_ok p h) st
