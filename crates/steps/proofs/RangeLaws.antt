-- Number 7: what the test of a call's range says of its bytes and of the step. In order: what a call names; a span
-- without the sum; tests of what is not named; a span within the page; the three tests as a number; a write's bytes.
use Prim.Native.Nat.{ℕ, ◌+◌, ◌-◌, ◌≤◌}
use mathlib.Core.Path.{◌≡◌, refl, sym, ap, ◌∙◌}
use mathlib.Core.Bool.{Bool, true, false, ◌&&◌, ◌||◌, cond, false≢true}
use native.Mathlib.Omega.{arith}
use lib.Dec.{ltb, eqb}
use borrow.Author.Tests.{ltb-true, ltb-false, lt-ltb, le-ltb}
use Rattle.tables.proofs.ListLaws.{or_right, iff_eq}
use Rattle.tables.specs.Numbers.{accepted, out_of_range}
use Rattle.steps.specs.declared.Kind.{Kind}
use Rattle.steps.specs.declared.Kind.TheVariants.{Write}
use Rattle.steps.specs.declared.Call.{Call}
use Rattle.steps.specs.Kinds.{station, page, other, right, names, among, code, has}
use Rattle.steps.specs.Calls.{name_outside, frame_outside, bad_span, span_outside, outside}

-- what a call of kind k names is in range, but for its frame and its span
abbrev pub NamesNear : Call → Kind → Type 0
NamesNear c k =
    (((has station k && ltb 15 c.station) || (has page k && ltb 63 c.page))
    || ((has other k && ltb 15 c.other) || (has right k && ltb 2 c.right)))
    ≡ false

-- the sum is not needed where the offset is in range
pub span_short : (o n : ℕ) → o ≤ 63 → (eqb n 0 || ltb (64 - o) n) ≡ bad_span o n
span_short o n h =
    rw (le-ltb 63 o h)
    (ap (λ (b : Bool). eqb n 0 || b)
    (iff_eq (ltb (64 - o) n) (ltb 64 (o + n))
    (λ e. let k = ltb-true (64 - o) n e in lt-ltb 64 (o + n) (omega arith))
    (λ e. let k = ltb-true 64 (o + n) e in lt-ltb (64 - o) n (omega arith))))

-- what is not named adds nothing
pub or_one : (x : Bool) → x ≡ (x || false)
or_one true = refl
or_one false = refl

pub or_two : (x : Bool) → x ≡ ((x || false) || false)
or_two x = or_one x ∙ or_one (x || false)

pub or_span : (x y : Bool) → (x || y) ≡ ((x || false) || y)
or_span x y = ap (λ (b : Bool). b || y) (or_one x)

pub or_frame : (x y : Bool) → (x || y) ≡ ((x || false) || (y || false))
or_frame x y = or_span x y ∙ ap (λ (b : Bool). (x || false) || b) (or_one y)

-- a span that is not bad stands within the page
pub span_within : (o n : ℕ) → bad_span o n ≡ false → o + n ≤ 64
span_within o n e = ltb-false 64 (o + n) (or_right (eqb n 0) _ (or_right (ltb 63 o) _ e))

-- ---- the three tests as a number

module _ (frames size : ℕ) (c : Call) where
  -- what a call that passes them keeps to
  pub record Ranged : Type 0 where
    pub names_in : name_outside c ≡ false
    pub frame_in : frame_outside frames c ≡ false
    pub span_in : span_outside size c ≡ false

  pub outside_any : (name_outside c || (frame_outside frames c || span_outside size c)) ≡ true → outside frames size c ≡ out_of_range
  outside_any = go (name_outside c) (frame_outside frames c) (span_outside size c)
    where
      go : (x y z : Bool) → (x || (y || z)) ≡ true → cond x out_of_range (cond y out_of_range (cond z out_of_range accepted)) ≡ out_of_range
      go true y z e = refl
      go false true z e = refl
      go false false true e = refl
      go false false false e = absurd (false≢true e)

  pub outside_none : (name_outside c || (frame_outside frames c || span_outside size c)) ≡ false → outside frames size c ≡ accepted
  outside_none = go (name_outside c) (frame_outside frames c) (span_outside size c)
    where
      go : (x y z : Bool) → (x || (y || z)) ≡ false → cond x out_of_range (cond y out_of_range (cond z out_of_range accepted)) ≡ accepted
      go true y z e = absurd (false≢true (sym e))
      go false true z e = absurd (false≢true (sym e))
      go false false true e = absurd (false≢true (sym e))
      go false false false e = refl

  -- 0 or 7
  pub outside_listed : (P : ℕ → Type 0) → P accepted → P out_of_range → P (outside frames size c)
  outside_listed P p q = go (name_outside c) (frame_outside frames c) (span_outside size c)
    where
      go : (x y z : Bool) → P (cond x out_of_range (cond y out_of_range (cond z out_of_range accepted)))
      go true y z = q
      go false true z = q
      go false false true = q
      go false false false = p

  pub ranged : outside frames size c ≡ accepted → Ranged
  ranged e = go (name_outside c) (frame_outside frames c) (span_outside size c) refl refl refl e
    where
      go : (x y z : Bool) → name_outside c ≡ x → frame_outside frames c ≡ y → span_outside size c ≡ z
          → cond x out_of_range (cond y out_of_range (cond z out_of_range accepted)) ≡ accepted → Ranged
      go true y z p q r e = absurd (omega arith)
      go false true z p q r e = absurd (omega arith)
      go false false true p q r e = absurd (omega arith)
      go false false false p q r e = record { names_in = p; frame_in = q; span_in = r }

  pub write_short : outside frames size c ≡ accepted → c.kind ≡ Write → size ≤ 64
  unfolding names among code
  write_short e q =
      let w : bad_span c.offset size ≡ false = rw q at (ranged e).span_in in
      let s = span_within c.offset size w in
      omega arith
