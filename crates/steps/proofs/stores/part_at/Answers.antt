-- `part_at`: the part of the one store or of the other.
use Prim.Native.Nat.{◌^◌}
use mathlib.Core.Path.{refl}
use native.Mathlib.Omega.{arith}
use Rattle.steps.proofs.StoreLaws.{part_span}
use Rattle.steps.proofs.PlaceLaws.{place_low}
use Rattle.steps.proofs.stores.part_at.Goals as goal

pub overflow_add-end : goal.overflow_add-end
overflow_add-end c =
    let a = c.args in
    record { fits = place_low a.place a.fast.now a.slow.now (2 ^ 64) c.requires (omega arith) (omega arith) }

pub slice_bounds-result-end : goal.slice_bounds-result-end
slice_bounds-result-end c = rw c.if-place.true at c.requires

pub slice_bounds-result-end-else-place : goal.slice_bounds-result-end-else-place
slice_bounds-result-end-else-place c = rw c.if-place.false at c.requires

pub returns-then-place : goal.returns-then-place
returns-then-place c =
    let a = c.args in
    record { result_value = rw c.if-place.true (part_span a.slow.now a.place.start a.place.len); ref_ptr_value = rw c.if-place.true refl }

pub returns-else-place : goal.returns-else-place
returns-else-place c =
    let a = c.args in
    record { result_value = rw c.if-place.false (part_span a.fast.now a.place.start a.place.len); ref_ptr_value = rw c.if-place.false refl }
