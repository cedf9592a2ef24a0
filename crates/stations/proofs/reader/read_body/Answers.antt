-- `read_body` meets its contract: each way out decides the tests of `read_body`.
use Prim.Native.Nat.{◌-◌}
use native.Mathlib.Omega.{arith}
use mathlib.Core.Path.{sym, ◌∙◌}
use lib.ListN.{length, drop, length-drop}
use lib.Seq.{take_all}
use Rattle.std.proofs.lemmas.Result.{err_from_is_err_and}
use Rattle.stations.proofs.ReaderLaws.{body_cut, body_unlisted, body_misfit, body_told}
use Rattle.stations.proofs.reader.read_body.Goals as goal

pub returns-in_default-m : goal.returns-in_default-m
returns-in_default-m c = body_cut _ _ _ c.in-1.len_at_least (omega arith) c.in_ok-kind.ensures c.in_default-m.len_below

pub returns-in_err-refusal : goal.returns-in_err-refusal
returns-in_err-refusal c =
    let p = err_from_is_err_and c.from_residual-in_err-refusal.result c.from_residual-in_err-refusal.ensures.1 in
    rw (p.1, p.2) (body_unlisted _ _ _ c.in-1.len_at_least (omega arith) c.in_ok-kind.ensures _ c.in-len4-up.len_at_least c.in_err-refusal.ensures)

pub returns-then-not-may_carry : goal.returns-then-not-may_carry
returns-then-not-may_carry c =
    let m = c.args.m.now in
    body_misfit _ _ _ c.in-1.len_at_least (omega arith) c.in_ok-kind.ensures _ c.in-len4-up.len_at_least c.in_ok-refusal.ensures _ _
    (omega (arith, c.from_be_bytes-laid.ensures)) (take_all (length m - 4) (drop 4 m) (omega (arith, length-drop 4 m)))
    (sym c.if-not-may_carry.true ∙ c.may_carry.ensures)

pub returns : goal.returns
returns c =
    let m = c.args.m.now in
    body_told _ _ _ c.in-1.len_at_least (omega arith) c.in_ok-kind.ensures _ c.in-len4-up.len_at_least c.in_ok-refusal.ensures _ _
    (omega (arith, c.from_be_bytes-laid.ensures)) (take_all (length m - 4) (drop 4 m) (omega (arith, length-drop 4 m)))
    (sym c.if-not-may_carry.false ∙ c.may_carry.ensures)
