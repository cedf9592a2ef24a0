-- `part`: a part of the fast store or of the slow one is a part of the frame in the joined stores.
use Prim.Native.Nat.{◌+◌, ◌-◌, ◌*◌, ◌/◌, ◌≤◌}
use mathlib.Core.Path.{◌≡◌, sym, ap, ◌∙◌}
use native.Mathlib.Omega.{arith}
use lib.ListN.{length, length-append}
use Rattle.steps.specs.Private.{bytes_of}
use Rattle.steps.proofs.StoreLaws.{part_span, part_fast, part_slow, part_block, length_frame_part}
use Rattle.steps.proofs.stores.Stores.part.Goals as goal

pub returns-then-f-p : goal.returns-then-f-p
returns-then-f-p c =
    let a = c.args in
    let x = a.self.now.fast.now in
    let y = a.self.now.slow.now in
    let p = length x / 64 in
    let split : length x ≡ 64 * p = omega arith in
    let inside : 64 * a.frame + 64 ≤ length (bytes_of a.self.now) = simp length-append (omega arith) in
    let e = part_span x (64 * a.frame + a.offset) a.len
    ∙ part_fast x y p a.frame split a.offset a.len (omega arith) (omega arith)
    ∙ sym (part_block x y p a.frame split a.offset a.len (omega arith) (omega arith)) in
    record { bytes = e; len = ap length e ∙ length_frame_part (bytes_of a.self.now) a.frame a.offset a.len inside c.requires.span }

pub returns-else-f-p : goal.returns-else-f-p
returns-else-f-p c =
    let a = c.args in
    let x = a.self.now.fast.now in
    let y = a.self.now.slow.now in
    let p = length x / 64 in
    let split : length x ≡ 64 * p = omega arith in
    let inside : 64 * a.frame + 64 ≤ length (bytes_of a.self.now) = simp length-append (omega arith) in
    let e = part_span y (64 * (a.frame - p) + a.offset) a.len
    ∙ part_slow x y p a.frame split a.offset a.len (omega arith)
    ∙ sym (part_block x y p a.frame split a.offset a.len (omega arith) (omega arith)) in
    record { bytes = e; len = ap length e ∙ length_frame_part (bytes_of a.self.now) a.frame a.offset a.len inside c.requires.span }
