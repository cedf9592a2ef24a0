-- `lay_in`: bytes laid into the frames of the copies that are meant, which lie within the stores.
use mathlib.Core.Path.{◌∙◌}
use Prim.Native.Nat.{◌+◌}
use lib.ListN.{length}
use lib.Dec.{leb}
use Rattle.std.proofs.Common.{rules}
use Rattle.tables.specs.Rules.{is_current}
use Rattle.tables.proofs.ListLaws.{and_right}
use Rattle.steps.specs.Steps.{is_placed}
use Rattle.steps.specs.Effects.{laid_frames}
use Rattle.steps.specs.Private.{frames_lent}
use Rattle.steps.proofs.Blocks.{lay_each_is}
use Rattle.steps.proofs.CarryLaws.{each_below}
use Rattle.steps.proofs.effects.lay_in.Goals as goal

pub lay_each-requires-clause-low : goal.lay_each-requires-clause-low
lay_each-requires-clause-low c i h u =
    let a = c.args in
    each_below is_placed (frames_lent a.stores.now) a.page (rw c.in-ZerosEach.is at c.requires.lay_value) i h (search rules)

pub lay_each-requires-in-Spread-clause-low : goal.lay_each-requires-in-Spread-clause-low
lay_each-requires-in-Spread-clause-low c i h u =
    let a = c.args in
    let w = c.in-Spread in
    each_below is_current (frames_lent a.stores.now) a.page
    (and_right (leb (w.offset + length a.bytes.now) 64) _ (rw w.is at c.requires.lay_value)) i h (search rules)

pub returns-in-ZerosEach-clause-laid : goal.returns-in-ZerosEach-clause-laid
unfolding laid_frames
returns-in-ZerosEach-clause-laid c =
    rw c.in-ZerosEach.is (c.lay_each.ensures.laid is_placed (λ c answer h. search rules) ∙ lay_each_is is_placed _ _ _ _)

pub returns-in-Spread-clause-laid : goal.returns-in-Spread-clause-laid
unfolding laid_frames
returns-in-Spread-clause-laid c =
    rw c.in-Spread.is
    (c.lay_each-in-Spread.ensures.laid is_current (λ c answer h. search rules) ∙ lay_each_is is_current _ _ _ _)
