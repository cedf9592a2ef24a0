-- `reel_replies` runs from a place on, and puts the tally back, and the tables where they moved.
use mathlib.Core.Bool.{cond}
use mathlib.Core.Path.{◌≡◌, sym, ap, ◌∙◌}
use borrow.Author.Rules.{rules}
use Rattle.steps.specs.Effects.{State}
use Rattle.messages.proofs.PartLaws.{unmoved_after}
use Rattle.embed.specs.Bytes.{tables_bytes}
use Rattle.embed.specs.Exports.{with_tables}
use Rattle.embed.proofs.ImageLaws.{in_sized}
use Rattle.embed.proofs.LentLaws.{held_part, put_moved}
use Rattle.embed.proofs.reel_replies.Goals as goal
use Rattle.embed.proofs.reel_replies.Goals.{then-part, else-part}

pub put_tables-requires : goal.put_tables-requires
put_tables-requires c =
    let a = c.args in
    let q = rw (c.tables_of-before.ensures, c.tally_of-counted.ensures) at c.fill-part.ensures in
    in_sized a.tables.now (held_part _ a.tables.now a.fast.now a.slow.now _ (sym q.moved_told ∙ c.if-part.true))

pub returns : goal.returns
returns c =
    let a = c.args in
    let b = a.tables.now in
    let t = c.fill-part.result.tables in
    let moved = c.fill-part.result.moved in
    let q = rw (c.tables_of-before.ensures, c.tally_of-counted.ensures) at c.fill-part.ensures in
    let put : c.if-part.tables ≡ cond moved (tables_bytes t) b =
    elim c.if-part.branch [
      | then-part w ↦ rw w.if-part.true (w.tables-is ∙ w.put_tables.ensures)
      | else-part w ↦ rw w.if-part.false w.tables-is
    ] in
    let back =
    put_moved b t moved (λ i. search rules) (λ e. held_part _ b a.fast.now a.slow.now _ (sym q.moved_told ∙ e))
    (λ e. ap (λ (s : State). s.tables) q.state_out ∙ unmoved_after _ _ _ _ (sym q.moved_told ∙ e)) in
    record {
      place_told = q.place_told;
      used_told = q.used_told;
      tables_out = put ∙ back ∙ ap (λ (s : State). with_tables b s.tables) q.state_out;
      lent_out =
          rw (ap (λ (s : State). s.fast) q.state_out, ap (λ (s : State). s.slow) q.state_out, q.buffer_out);
      tally_out = c.put_tally.ensures ∙ rw q.tally_out;
    }
