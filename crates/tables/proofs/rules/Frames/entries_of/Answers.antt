-- `Frames::entries_of`: one for each entry that is this one.
use Prim.Native.Nat.{ℕ}
use mathlib.Core.Bool.{cond}
use Rattle.std.proofs.Common.{rules, arith}
use borrow.Author.Tests.{tests}
use Rattle.std.proofs.lemmas.List.Sums.{count_by-le-length}
use Rattle.std.proofs.lemmas.Iterator.{YieldsList-from_slice, YieldsList-from_map}
use Rattle.std.proofs.lemmas.Iterator.Consumers.{fits_by_from_yields_list}
use Rattle.tables.specs.PrivatePass.{is_entry}
use Rattle.tables.proofs.rules.Frames.entries_of.Goals as goal

pub sum-requires-clause-fits : goal.sum-requires-clause-fits
sum-requires-clause-fits c =
    let entry = c.args.entry in
    let register = c.args.self.register.now in
    let one : ℕ → ℕ = λ (e : ℕ). cond (is_entry entry e) 1 0 in
    let few = count_by-le-length (is_entry entry) register in
    fits_by_from_yields_list one register c.map.result 65536
    (YieldsList-from_map _ one (YieldsList-from_slice register cc) c.map.ensures.closure (λ x r q k. search (rules, tests)))
    (omega arith)
