-- `reel_answers` answers on the tables in the lent bytes, and puts them back.
use mathlib.Core.Path.{ap, ◌∙◌}
use Rattle.steps.specs.Effects.{State}
use Rattle.messages.specs.declared.Tally.{Tally}
use Rattle.timing.proofs.reel_answers.Goals as goal

pub returns : goal.returns
returns c =
    let q = rw c.tables_of-before.ensures at c.answers-left.ensures in
    record {
      tables_out = c.put_back.ensures ∙ rw (ap (λ (s : State). s.tables) q.state_out);
      lent_out = rw (ap (λ (s : State). s.fast) q.state_out, ap (λ (s : State). s.slow) q.state_out, q.buffer_out);
      told = ap (λ (n : Tally). n.messages) q.tally_out;
    }
