-- `read`: what is had at the place of a read (`had`).
use mathlib.Core.Path.{refl}
use Rattle.steps.specs.Kinds.{call_of}
use Rattle.steps.specs.Effects.{read_call}
use Rattle.steps.specs.Promises.{state_of}
use Rattle.steps.proofs.PlaceLaws.{had_in, had}
use Rattle.steps.proofs.effects.read.Goals as goal

pub part_at-requires : goal.part_at-requires
unfolding call_of
part_at-requires c =
    let a = c.args in
    had_in (state_of a.tables a.fast.now a.slow.now) (read_call a.station a.page a.offset a.count) refl
    c.read_place-place.result c.read_place-place.ensures

pub returns : goal.returns
unfolding call_of
returns c =
    let a = c.args in
    let r = c.part_at in
    had (state_of a.tables a.fast.now a.slow.now) (read_call a.station a.page a.offset a.count) refl
    c.read_place-place.result c.read_place-place.ensures
    a.fast.ref_ptr a.slow.ref_ptr r.result.ref_ptr r.result.now r.ensures.result_value r.ensures.ref_ptr_value
