-- `lay_within`: the frames of the copies that are meant.
use mathlib.Core.Path.{sym, ◌∙◌}
use Rattle.std.proofs.Common.{rules}
use Rattle.tables.specs.Rules.{is_current}
use Rattle.tables.proofs.ListLaws.{all_is}
use Rattle.steps.specs.Steps.{is_placed}
use Rattle.steps.proofs.effects.lay_within.Goals as goal

pub returns-in-ZerosEach : goal.returns-in-ZerosEach
returns-in-ZerosEach c =
    rw c.in-ZerosEach.is (c.frames_within.ensures is_placed (λ c answer h. search rules) ∙ all_is _ _)

pub returns-then-span_within : goal.returns-then-span_within
returns-then-span_within c =
    rw (c.in-Spread.is, sym c.span_within.ensures ∙ c.if-span_within.true)
    (c.frames_within-then-span_within.ensures is_current (λ c answer h. search rules) ∙ all_is _ _)
