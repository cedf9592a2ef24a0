use Rattle.std.proofs.Common.{arith, length, ◌+◌, ◌∙◌, ap, drop, length-drop}
use lib.Seq.{drop-drop}
use Rattle.std.proofs.lemmas.List.{take_rest}
use Rattle.program.proofs.Taken.{writes_more}
use Rattle.program.proofs.write_replies.Goals as goal

pub loop-rest-preserved : goal.loop-rest-preserved
loop-rest-preserved g c =
    let (done, within, rest, so_far) = c.loop-rest.invariant in
    let n = c.in_ok-n.n in
    let all = c.args.replies.now in
    let written = c.in_ok-n.ensures in (
      done + n,
      omega (arith, written.bound, within, ap length rest, length-drop done all),
      take_rest _ n ∙ ap (drop n) rest ∙ drop-drop n done all,
      writes_more done _ _ _ _ _ _ rest so_far written.bytes,
    )
