-- `Frames::standing_ok` tests a standing page, rule by rule, with the entries of its frames.
use mathlib.Core.Bool.{false}
use mathlib.Core.Path.{◌≡◌, sym, ◌∙◌}
use lib.ListN.{length, drop}
use lib.Dec.{leb}
use borrow.Author.Tests.{le-leb, lt-leb}
use borrow.Author.Rules.{rules}
use Rattle.tables.specs.Lists.{all, count}
use Rattle.tables.specs.Model.{copies_in_use}
use Rattle.tables.specs.Rules.{at_most, is_fresh, is_recent, copy_rule, standing_rule}
use Rattle.tables.specs.PrivatePass.{entries_are}
use Rattle.tables.proofs.ListLaws.{all_is, all_folded}
use Rattle.tables.proofs.Loops.{rest_from}
use Rattle.tables.proofs.PassLaws.{scan_copies_lem, scan_fails, scan_passes}
use Rattle.tables.proofs.rules.Frames.standing_ok.Goals as goal
use Rattle.tables.proofs.rules.Frames.standing_ok.Goals.{then-page-gt15-via-then-page-gt15, then-page-gt15-via-else-page-gt15+then-not-rights_ok, then-page-gt15-via-else-page-gt15+else-not-rights_ok+then-page-gt8}

pub returns-then-page-gt15 : goal.returns-then-page-gt15
unfolding standing_rule
returns-then-page-gt15 c =
    let g = c.args.page.now in
    let rights = sym (all_folded (at_most 2) g.rights) in
    elim c.then-page-gt15.branch [
      | then-page-gt15-via-then-page-gt15 w ↦ sym (rw (lt-leb _ _ w.if-page-gt15.true))
      | then-page-gt15-via-else-page-gt15+then-not-rights_ok w ↦
          let r = rights ∙ sym w.rights_ok.ensures ∙ w.if-not-rights_ok.true in
          sym (rw (le-leb _ _ w.if-page-gt15.false, r))
      | then-page-gt15-via-else-page-gt15+else-not-rights_ok+then-page-gt8 w ↦
          let r = rights ∙ sym w.rights_ok.ensures ∙ w.if-not-rights_ok.false in
          sym (rw (le-leb _ _ w.if-page-gt15.false, r, lt-leb _ _ w.if-page-gt8.true))
    ]

pub returns-else-copies_ok : goal.returns-else-copies_ok
unfolding standing_rule
returns-else-copies_ok c =
    let a = c.args in
    let t = a.self in
    let g = a.page.now in
    let r = sym (all_folded (at_most 2) g.rights) ∙ sym c.rights_ok.ensures ∙ c.if-not-rights_ok.false in
    let k = sym (scan_copies_lem t.limit g.n t.register.now a.p 0 false (copies_in_use g)) ∙ sym c.copies_ok.ensures ∙ c.if-copies_ok.false in
    c.if-copies_ok.false
    ∙ sym
    (rw (le-leb _ _ c.if-page-gt15.false, r, le-leb _ _ c.if-page-gt8.false)
    (scan_fails (all (copy_rule t.limit g.n) (copies_in_use g)) (entries_are t.register.now a.p 0 (copies_in_use g)) (leb 1 (count is_recent (copies_in_use g))) (all is_fresh (drop g.n g.copies)) k))

pub returns-then-copies_ok : goal.returns-then-copies_ok
unfolding standing_rule
returns-then-copies_ok c =
    let a = c.args in
    let t = a.self in
    let g = a.page.now in
    let r = sym (all_folded (at_most 2) g.rights) ∙ sym c.rights_ok.ensures ∙ c.if-not-rights_ok.false in
    let k = sym (scan_copies_lem t.limit g.n t.register.now a.p 0 false (copies_in_use g)) ∙ sym c.copies_ok.ensures ∙ c.if-copies_ok.true in
    let m : length g.copies ≡ 8 = search rules in
    let rest = rw (rest_from g.copies 8 g.n c.from.result c.from.ensures m) at c.unused_ok.ensures in
    rest
    ∙ all_is is_fresh (drop g.n g.copies)
    ∙ sym
    (rw (le-leb _ _ c.if-page-gt15.false, r, le-leb _ _ c.if-page-gt8.false)
    (scan_passes (all (copy_rule t.limit g.n) (copies_in_use g)) (entries_are t.register.now a.p 0 (copies_in_use g)) (leb 1 (count is_recent (copies_in_use g))) (all is_fresh (drop g.n g.copies)) k))
