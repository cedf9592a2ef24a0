-- `Tables::sound`. What the pass says of the pages is what it says of those from page p on; `held` and the frames of
-- those are the frames of all.
use Prim.Native.Nat.{◌+◌, ◌≤◌}
use mathlib.Core.Bool.{true, false}
use mathlib.Core.Path.{◌≡◌, refl, sym, ◌∙◌}
use native.Mathlib.Nat.{zero-add, add-zero, add_assoc}
use native.Mathlib.Omega.{arith}
use lib.ListN.{length}
use borrow.Author.Tests.{eq-eqb, le-leb, lt-leb}
use borrow.Author.Rules.{rules}
use Rattle.tables.specs.Model.{zero_page}
use Rattle.tables.specs.Rules.{holders, none_shared, sizes_rule, pages_rule, sound, frame_totals}
use Rattle.tables.specs.PrivatePass.{scan_pages}
use Rattle.tables.proofs.Loops.{drop_more, drop_end}
use Rattle.tables.proofs.ScanLaws.{scan_rules}
use Rattle.tables.proofs.Tables.sound.Goals as goal
use Rattle.tables.proofs.Tables.sound.Goals.{then-fast-gt127-via-then-fast-gt127, then-fast-gt127-via-else-fast-gt127+then-slow-gt127}

pub returns-then-fast-gt127 : goal.returns-then-fast-gt127
unfolding sound sizes_rule
returns-then-fast-gt127 c =
    elim c.then-fast-gt127.branch [
      | then-fast-gt127-via-then-fast-gt127 w ↦ sym (rw (lt-leb _ _ w.if-fast-gt127.true))
      | then-fast-gt127-via-else-fast-gt127+then-slow-gt127 w ↦ sym (rw (le-leb _ _ w.if-fast-gt127.false, lt-leb _ _ w.if-slow-gt127.true))
    ]

pub loop-p-init : goal.loop-p-init
loop-p-init c = (omega arith, refl, sym (zero-add _))

pub returns-then-not-page_ok : goal.returns-then-not-page_ok
unfolding sound sizes_rule pages_rule none_shared holders scan_pages
returns-then-not-page_ok c =
    let t = c.args.self in
    let l : length t.pages ≡ 64 = search rules in
    let r : length t.register ≡ 254 = search rules in
    let v = c.loop-p in
    let e = sym c.page_ok.ensures ∙ c.if-not-page_ok.true in
    let few : t.shared.p + t.shared.s ≤ 254 = omega arith in
    let z : scan_pages (t.shared.p + t.shared.s) t.register 0 t.pages ≡ false =
    v.invariant.1 ∙ rw (drop_more t.pages v.p zero_page (omega arith), e) in
    sym
    (rw (le-leb _ _ c.if-fast-gt127.false, le-leb _ _ c.if-slow-gt127.false, eq-eqb _ _ l)
    (sym (scan_rules (t.shared.p + t.shared.s) few t.pages t.register l r) ∙ rw z))

pub loop-p-preserved : goal.loop-p-preserved
unfolding scan_pages frame_totals
loop-p-preserved c =
    let v = c.loop-p in
    let m = drop_more c.args.self.pages v.p zero_page (omega arith) in
    let e = sym c.page_ok.ensures ∙ c.if-not-page_ok.false in (
      omega arith,
      v.invariant.1 ∙ rw (m, e),
      v.invariant.2 ∙ rw (m, c.from-held.ensures, c.frame_total.ensures) (sym (add_assoc _ _ _)),
    )

pub returns : goal.returns
unfolding sound sizes_rule pages_rule none_shared holders scan_pages frame_totals
returns c =
    let t = c.args.self in
    let l : length t.pages ≡ 64 = search rules in
    let r : length t.register ≡ 254 = search rules in
    let v = c.loop-p in
    let few : t.shared.p + t.shared.s ≤ 254 = omega arith in
    let end = drop_end t.pages v.p (omega arith) in
    let z : scan_pages (t.shared.p + t.shared.s) t.register 0 t.pages ≡ true = v.invariant.1 ∙ rw end in
    let h : frame_totals t.pages ≡ v.held = v.invariant.2 ∙ rw end (add-zero _) in
    c.others_ok.ensures
    ∙ sym
    (rw (le-leb _ _ c.if-fast-gt127.false, le-leb _ _ c.if-slow-gt127.false, eq-eqb _ _ l)
    (sym (scan_rules (t.shared.p + t.shared.s) few t.pages t.register l r) ∙ rw (z, h)))
