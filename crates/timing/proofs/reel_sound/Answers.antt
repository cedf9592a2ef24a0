-- `reel_sound` counts the tests that hold.
use mathlib.Core.Path.{◌≡◌, ◌∙◌}
use native.Mathlib.Omega.{arith}
use Rattle.timing.proofs.SoundLaws.{tested_none, tested_on}
use Rattle.timing.proofs.reel_sound.Goals as goal
use Rattle.timing.proofs.reel_sound.Goals.{then-sound, else-sound}

pub loop-i-init : goal.loop-i-init
loop-i-init c = tested_none _

pub loop-i-preserved : goal.loop-i-preserved
loop-i-preserved c =
    tested_on c.loop-i.invariant _ _ c.sound.ensures
    (elim c.if-sound.branch [
      | then-sound w ↦ w.held-is ∙ rw w.if-sound.true
      | else-sound w ↦ w.held-is ∙ rw w.if-sound.false (omega arith)
    ])

pub returns : goal.returns
returns c =
    let v = c.loop-i in
    let e : v.i ≡ c.args.times = omega arith in
    v.invariant.counted ∙ rw (e, c.tables_of-t.ensures)
