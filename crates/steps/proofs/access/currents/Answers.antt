-- `currents`: one for each copy that is CURRENT, and the copies are eight at the most.
use Prim.Native.Nat.{◌≤◌}
use mathlib.Core.Path.{◌≡◌}
use native.Mathlib.Omega.{arith}
use lib.ListN.{length}
use Rattle.std.proofs.Common.{rules}
use Rattle.std.specs.Prelude.{count_by}
use Rattle.std.proofs.lemmas.List.Sums.{count_by-le-length}
use Rattle.tables.specs.Model.{copies_in_use}
use Rattle.tables.specs.Rules.{is_current}
use Rattle.steps.proofs.access.currents.Goals as goal

pub returns : goal.returns
returns c =
    let all = copies_in_use c.args.page.now in
    let sum : c.sum.result ≡ count_by is_current all = search rules in
    let few : length all ≤ 8 = rw c.copies_in_use.ensures.items at c.copies_in_use.ensures.few in
    let most = count_by-le-length is_current all in
    (sum, omega (arith, sum, few, most))
