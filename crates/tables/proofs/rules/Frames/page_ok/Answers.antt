-- `Frames::page_ok` tests one page, with the entries of its frames.
use Prim.Native.Nat.{ℕ}
use mathlib.Core.Path.{◌≡◌, sym, ap}
use mathlib.Core.Bool.{true, and-true}
use lib.ListN.{length, take}
use borrow.Author.Tests.{eq-eqb, ne_eqb}
use borrow.Author.Rules.{rules}
use Rattle.tables.specs.Model.{copies_in_use}
use Rattle.tables.specs.Rules.{absent_rule, page_rule}
use Rattle.tables.specs.PrivatePass.{entries_are}
use Rattle.tables.proofs.rules.Frames.page_ok.Goals as goal

pub returns-then-page-eq0 : goal.returns-then-page-eq0
unfolding page_rule entries_are
returns-then-page-eq0 c =
    let a = c.args in
    let g = a.page.now in
    let l : length g.rights ≡ 16 = search rules in
    let m : length g.copies ≡ 8 = search rules in
    let z : entries_are a.self.register.now a.p 0 (copies_in_use g) ≡ true =
    ap (λ (n : ℕ). entries_are a.self.register.now a.p 0 (take n g.copies)) c.if-page-eq0.true in
    sym (rw (eq-eqb _ _ l, eq-eqb _ _ m, eq-eqb _ _ c.if-page-eq0.true, z, and-true (absent_rule g)) (sym c.absent_ok.ensures))

pub returns-else-page-eq0 : goal.returns-else-page-eq0
unfolding page_rule
returns-else-page-eq0 c =
    let g = c.args.page.now in
    let l : length g.rights ≡ 16 = search rules in
    let m : length g.copies ≡ 8 = search rules in
    sym (rw (eq-eqb _ _ l, eq-eqb _ _ m, ne_eqb _ _ c.if-page-eq0.false) (sym c.standing_ok.ensures))
