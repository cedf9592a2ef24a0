-- `step`: a decision on any tables and stores, carried out, is the step (`carries`).
use Rattle.steps.specs.Promises.{state_of}
use Rattle.steps.proofs.StepLaws.{carries, stepped, stepped_refused}
use Rattle.std.proofs.Common.{rules}
use Rattle.steps.proofs.effects.step.Goals as goal

pub returns-in-Ok : goal.returns-in-Ok
returns-in-Ok c =
    let a = c.args in
    let s = state_of a.tables a.fast.now a.slow.now in
    let d = c.in-Ok.d in
    stepped s a.call a.bytes.now a.out.now d (carries s a.call a.bytes.now a.out.now d (search rules) (search rules))
    _ _ _ _ c.settle.ensures c.carry.ensures

pub returns-in-Err : goal.returns-in-Err
returns-in-Err c =
    let a = c.args in
    stepped_refused (state_of a.tables a.fast.now a.slow.now) a.call a.bytes.now a.out.now c.in-Err.refusal (search rules)
