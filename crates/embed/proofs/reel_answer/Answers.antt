-- `reel_answer` answers on the tables in the lent bytes, and puts them back where they moved.
use mathlib.Core.Bool.{cond}
use mathlib.Core.Path.{◌≡◌, sym, ap, ◌∙◌}
use native.Mathlib.Omega.{arith}
use borrow.Author.Rules.{rules}
use lib.ListN.{length}
use Rattle.steps.specs.Effects.{State}
use Rattle.steps.specs.Promises.{state_of}
use Rattle.messages.specs.Promises.{sent_alone}
use Rattle.messages.specs.Run.{answer}
use Rattle.messages.proofs.TurnLaws.{reply_short, unmoved}
use Rattle.embed.specs.Bytes.{tables_bytes}
use Rattle.embed.specs.Exports.{with_tables, lent_state}
use Rattle.embed.proofs.Forms.{AreBytes}
use Rattle.embed.proofs.ImageLaws.{in_sized}
use Rattle.embed.proofs.LentLaws.{held_answer, put_moved, left_in_lem}
use Rattle.embed.proofs.reel_answer.Goals as goal
use Rattle.embed.proofs.reel_answer.Goals.{then-a, else-a}

pub put_tables-requires : goal.put_tables-requires
put_tables-requires c =
    let a = c.args in
    let q = rw c.tables_of-before.ensures at c.answer-a.ensures in
    in_sized a.tables.now (held_answer _ a.tables.now a.fast.now a.slow.now _ (sym q.moved_told ∙ c.if-a.true))

pub packed-requires : goal.packed-requires
packed-requires c =
    let a = c.args in
    let s = state_of c.tables_of-before.result a.fast.now a.slow.now in
    omega (arith, c.answer-a.ensures.len_told, reply_short (length a.out.now) s (sent_alone a.message.now))

pub returns : goal.returns
returns c =
    let a = c.args in
    let b = a.tables.now in
    let q = rw c.tables_of-before.ensures at c.answer-a.ensures in
    let low : AreBytes b = λ i. search rules in
    let o = answer (length a.out.now) (lent_state b a.fast.now a.slow.now) (sent_alone a.message.now) in
    let t = c.answer-a.result.tables in
    let moved = c.answer-a.result.moved in
    let put : c.if-a.tables ≡ cond moved (tables_bytes t) b =
    elim c.if-a.branch [
      | then-a w ↦ rw w.if-a.true (w.tables-is ∙ w.put_tables.ensures)
      | else-a w ↦ rw w.if-a.false w.tables-is
    ] in
    let back =
    put_moved b t moved low (λ e. held_answer _ b a.fast.now a.slow.now _ (sym q.moved_told ∙ e))
    (λ e. ap (λ (s : State). s.tables) q.state_out ∙ unmoved _ _ _ (sym q.moved_told ∙ e)) in
    record {
      told = c.packed.ensures ∙ rw (c.answer_number.ensures, q.number_told, q.len_told, q.laid_told);
      tables_out = put ∙ back ∙ ap (λ (s : State). with_tables b s.tables) q.state_out ∙ left_in_lem b a.fast.now a.slow.now o low;
      lent_out = rw (ap (λ (s : State). s.fast) q.state_out, ap (λ (s : State). s.slow) q.state_out, q.reply_out);
    }
