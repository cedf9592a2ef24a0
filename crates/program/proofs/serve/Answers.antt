-- One buffer takes all replies of the run.
use Rattle.std.proofs.Common.{length, take, ap, sym, ◌∙◌, arith, rules}
use lib.Seq.{take_at}
use Rattle.tables.specs.declared.Tables.{Tables}
use Rattle.tables.specs.Model.{Made}
use Rattle.tables.proofs.FreshLaws.{taken}
use Rattle.steps.specs.Promises.{state_of}
use Rattle.messages.specs.Run.{run, joined_replies}
use Rattle.messages.proofs.JoinLaws.{whole_replies}
use Rattle.program.proofs.serve.Goals as goal

pub returns-clause-out_after : goal.returns-clause-out_after
returns-clause-out_after c =
    let a = c.args in
    let p = c.fill-done.ensures in
    let t = taken c.fresh.result c.unwrap_or_else-fresh.result c.unwrap_or_else-fresh.ensures (λ e h. search rules) in
    ap (take c.fill-done.result.used) p.buffer_out
    ∙ take_at _ _ c.fill-done.result.used (sym p.used_told)
    ∙ whole_replies (length a.out.now) a.file.now (state_of c.unwrap_or_else-fresh.result a.fast.now a.slow.now)
    (omega (arith, c.requires.file_short, c.requires.out_long))
    ∙ ap (λ (t : Tables). joined_replies 70 (run 70 a.file.now (state_of t a.fast.now a.slow.now)).turns)
    (t ∙ ap (λ (m : Made). m.tables) c.fresh.ensures)
