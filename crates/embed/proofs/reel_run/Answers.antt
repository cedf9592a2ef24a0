-- `reel_run` runs on the tables in the lent bytes, and puts the tally back, and the tables where they moved.
use mathlib.Core.Bool.{cond}
use mathlib.Core.Path.{◌≡◌, sym, ap, ◌∙◌}
use borrow.Author.Rules.{rules}
use Rattle.steps.specs.Effects.{State}
use Rattle.messages.proofs.PartLaws.{unmoved_end}
use Rattle.embed.specs.Bytes.{tables_bytes}
use Rattle.embed.specs.Exports.{with_tables}
use Rattle.embed.proofs.ImageLaws.{in_sized}
use Rattle.embed.proofs.LentLaws.{held_run, put_moved}
use Rattle.embed.proofs.reel_run.Goals as goal
use Rattle.embed.proofs.reel_run.Goals.{then-ran, else-ran}

pub put_tables-requires : goal.put_tables-requires
put_tables-requires c =
    let a = c.args in
    let q = rw (c.tables_of-before.ensures, c.tally_of-counted.ensures) at c.run-ran.ensures in
    in_sized a.tables.now (held_run _ a.tables.now a.fast.now a.slow.now _ (sym q.moved_told ∙ c.if-ran.true))

pub returns : goal.returns
returns c =
    let a = c.args in
    let b = a.tables.now in
    let t = c.run-ran.result.tables in
    let moved = c.run-ran.result.moved in
    let q = rw (c.tables_of-before.ensures, c.tally_of-counted.ensures) at c.run-ran.ensures in
    let put : c.if-ran.tables ≡ cond moved (tables_bytes t) b =
    elim c.if-ran.branch [
      | then-ran w ↦ rw w.if-ran.true (w.tables-is ∙ w.put_tables.ensures)
      | else-ran w ↦ rw w.if-ran.false w.tables-is
    ] in
    let back =
    put_moved b t moved (λ i. search rules) (λ e. held_run _ b a.fast.now a.slow.now _ (sym q.moved_told ∙ e))
    (λ e. ap (λ (s : State). s.tables) q.state_out ∙ unmoved_end _ _ _ (sym q.moved_told ∙ e)) in
    record {
      tables_out = put ∙ back ∙ ap (λ (s : State). with_tables b s.tables) q.state_out;
      lent_out =
          rw (ap (λ (s : State). s.fast) q.state_out, ap (λ (s : State). s.slow) q.state_out, q.buffer_out);
      tally_out = c.put_tally.ensures ∙ rw q.tally_out;
    }
