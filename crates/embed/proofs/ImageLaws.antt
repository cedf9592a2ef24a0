-- The forms of an entry, a page and the tables. Sound tables are read back from their bytes, and bytes that hold tables
-- are those of the tables that are read from them.
use Prim.Native.Nat.{ℕ, ◌<◌}
use mathlib.Core.Bool.{true, and-true}
use mathlib.Core.Path.{◌≡◌, refl, sym, ◌∙◌}
use mathlib.Core.List.{List, [], append-nil}
use native.Mathlib.Omega.{arith}
use lib.Dec.{eqb}
use lib.ListN.{length, get_or}
use lib.Seq.{drop-drop, get_or-drop, take_all}
use borrow.Author.Tests.{eqb-true}
use Rattle.tables.specs.declared.Copy.{Copy}
use Rattle.tables.specs.declared.Page.{Page}
use Rattle.tables.specs.declared.Tables.{Tables}
use Rattle.tables.specs.Model.{frames, free_entry, page_at, zero_copy, zero_page}
use Rattle.tables.specs.Rules.{shaped, page_rule, sound}
use Rattle.tables.proofs.ListLaws.{and_left, and_right}
use Rattle.tables.proofs.RuleLaws.{sound_of}
use Rattle.tables.proofs.RegisterLaws.{register_fits}
use Rattle.steps.specs.Data.{copy_marks_valid}
use Rattle.embed.specs.Bytes.{page_size, tables_size, copy_bytes, page_bytes, tables_bytes, page_marks_valid, marks_valid}
use Rattle.embed.specs.Bytes.{copy_from, page_from, tables_from}
use Rattle.embed.specs.Exports.{tables_sized, tables_in}
use Rattle.embed.proofs.Forms.{AreBytes, Form, some_bytes, a_byte, a_mark, a_number, a_row, each_anything}
use Rattle.embed.proofs.Forms.{and_then, a_struct}

-- ---- an entry, a page, the tables

pub copy_form : Form 3 copy_bytes copy_from copy_marks_valid (λ (c : Copy). Unit {0})
copy_form =
    a_struct (and_then a_byte (and_then a_mark a_mark))
    (λ (c : Copy). (c.frame, (c.current, c.recent)))
    (λ x. record { frame = x.0; current = x.1.0; recent = x.1.1 })
    (λ c. refl) (λ x. refl)
    (λ b. simp (drop-drop, get_or-drop)) (λ b. simp (drop-drop, get_or-drop)) (λ c h. (tt, (tt, tt)))

-- as long as declared
pub record PageFormed (g : Page) : Type 0 where
  pub rights_long : length g.rights ≡ 16
  pub copies_long : length g.copies ≡ 8

pub page_form : Form page_size page_bytes page_from page_marks_valid PageFormed
unfolding page_bytes page_from page_marks_valid
page_form =
    a_struct (and_then (some_bytes 16) (and_then (a_row copy_form 8 zero_copy) (and_then a_byte a_byte)))
    (λ (g : Page). (g.rights, (g.copies, (g.owner, g.n))))
    (λ x. record { rights = x.0; copies = x.1.0; owner = x.1.1.0; n = x.1.1.1 })
    (λ g. refl) (λ x. refl)
    (λ b. simp (drop-drop, get_or-drop)) (λ b. sym (and-true _))
    (λ g h. (h.rights_long, ((h.copies_long, λ i j. tt), (tt, tt))))

-- so long, and the entries of the register numbers of two bytes
pub record Formed (t : Tables) : Type 0 where
  pub pages_long : length t.pages ≡ 64
  pub pages_formed : (p : ℕ) → p < 64 → PageFormed (get_or t.pages p zero_page)
  pub register_long : length t.register ≡ 254
  pub register_low : (f : ℕ) → f < 254 → get_or t.register f free_entry < 65536

pub tables_form : Form tables_size tables_bytes tables_from marks_valid Formed
unfolding tables_bytes tables_from marks_valid
tables_form =
    a_struct
    (and_then a_byte (and_then a_byte (and_then (a_row page_form 64 zero_page) (a_row a_number 254 free_entry))))
    (λ (t : Tables). (t.shared.p, (t.shared.s, (t.pages, t.register))))
    (λ x. record { shared = record { p = x.0; s = x.1.0 }; pages = x.1.1.0; register = x.1.1.1 })
    (λ t. refl) (λ x. refl)
    (λ b. simp (drop-drop, get_or-drop)) (λ b. simp (drop-drop, each_anything, and-true))
    (λ t h. (tt, (tt, ((h.pages_long, h.pages_formed), (h.register_long, h.register_low)))))

-- ---- sound tables

rule_formed : (limit : ℕ) (g : Page) → page_rule limit g ≡ true → PageFormed g
unfolding page_rule
rule_formed limit g e =
    let s : shaped g ≡ true = and_left (shaped g) _ e in
    record {
      rights_long = eqb-true (length g.rights) 16 (and_left _ _ s);
      copies_long = eqb-true (length g.copies) 8 (and_right (eqb (length g.rights) 16) _ s);
    }

pub sound_formed : (t : Tables) → sound t ≡ true → Formed t
sound_formed t e =
    let s = sound_of t e in
    record {
      pages_long = s.paged.pages_long;
      pages_formed = λ p h. rule_formed (frames t) (page_at t p) (s.paged.page_ok p h);
      register_long = s.right.register_long;
      register_low = register_fits t s;
    }

-- they are what their bytes give back
pub from_bytes : (t : Tables) → sound t ≡ true → tables_from (tables_bytes t) ≡ t
from_bytes t e = rw append-nil at (tables_form.back t (sound_formed t e) [])

-- whose marks are right
pub bytes_marked : (t : Tables) → sound t ≡ true → marks_valid (tables_bytes t) ≡ true
bytes_marked t e = rw append-nil at (tables_form.passed t (sound_formed t e) [])

-- ---- bytes that hold tables

-- they are as many as tables take
pub in_sized : (b : List ℕ) → tables_in b ≡ true → length b ≡ tables_size
in_sized b e = eqb-true (length b) tables_size (and_left (tables_sized b) (marks_valid b) e)

-- tables that are put back unchanged are the bytes that they were
pub tables_same : (b : List ℕ) → AreBytes b → tables_in b ≡ true → tables_bytes (tables_from b) ≡ b
tables_same b low e =
    let n = in_sized b e in
    tables_form.same b low (omega arith) (and_right (tables_sized b) (marks_valid b) e) ∙ take_all tables_size b (omega arith)
