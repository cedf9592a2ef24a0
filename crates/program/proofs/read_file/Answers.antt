use Rattle.std.proofs.Common.{◌≡◌, rules, arith, ◌∙◌, length-take-le}
use Rattle.program.specs.Served.{most}
use Rattle.program.proofs.Taken.{takes_more, stops, full}
use Rattle.program.proofs.read_file.Goals as goal

pub loop-done-preserved : goal.loop-done-preserved
loop-done-preserved g c =
    let (same, within, taken) = c.loop-done.invariant in
    let read = c.in_ok-n.ensures in
    (search rules, search rules, takes_more _ _ _ _ _ within read.bound.0 _ _ _ taken read.bytes.0)

pub returns-then-n-eq0-clause-bytes : goal.returns-then-n-eq0-clause-bytes
returns-then-n-eq0-clause-bytes g c =
    let (same, within, taken) = c.loop-done.invariant in
    let read = c.in_ok-n.ensures in
    let end = read.bytes.1 c.if-n-eq0.true (search rules) in
    stops _ _ _ _ _ within read.bound.0 _ _ _ most (same ∙ c.requires) c.if-n-eq0.true taken read.bytes.0 end

pub returns-clause-bytes : goal.returns-clause-bytes
returns-clause-bytes g c =
    let (same, within, taken) = c.loop-done.invariant in
    let done = c.loop-done.done in
    let full_up : done ≡ most = omega (arith, c.requires, same, within, c.loop-done-test.false) in
    full _ _ _ most (length-take-le done c.loop-done.file within ∙ full_up) taken
