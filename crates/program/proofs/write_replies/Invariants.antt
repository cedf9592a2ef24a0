-- What has been written is the front of the replies.
use Rattle.std.proofs.Common.{ℕ, ◌≡◌, length, take, drop, ◌≤◌}
use Rattle.std.specs.Io.KnownBytes.{Appends}
use Rattle.program.proofs.write_replies.Given as goal

abbrev pub invariant-loop-rest : goal.invariant-loop-rest
invariant-loop-rest g l =
    (done : ℕ)
    × (done ≤ length l.replies)
    × (l.rest ≡ drop done l.replies)
    × Appends (g.W.Write.contents l.initial.to) (g.W.Write.contents l.to) (take done l.replies)

abbrev pub decreases-loop-rest : goal.decreases-loop-rest
decreases-loop-rest g l = length l.rest
