-- `reel_sound` counts the tests that hold.
use Rattle.timing.proofs.SoundLaws.{Tested}
use Rattle.timing.proofs.reel_sound.Given as goal

abbrev pub invariant-loop-i : goal.invariant-loop-i
invariant-loop-i l = Tested l.initial.t l.i l.t l.held
