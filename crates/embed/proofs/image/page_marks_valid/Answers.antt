-- `page_marks_valid`. What is found so far and the entries from k on give the answer.
use Prim.Native.Nat.{◌+◌, ◌*◌, ◌-◌}
use mathlib.Core.Bool.{and_assoc, and-true}
use mathlib.Core.Path.{◌≡◌, sym, ◌∙◌}
use native.Mathlib.Omega.{arith}
use lib.ListN.{length, take, drop}
use lib.Seq.{drop-drop}
use Rattle.std.proofs.lemmas.List.{take_rest}
use Rattle.steps.proofs.DataLaws.{each_next}
use Rattle.steps.specs.Data.{copy_marks_valid, each_is}
use Rattle.embed.specs.Bytes.{page_size, page_marks_valid}
use Rattle.embed.proofs.image.page_marks_valid.Goals as goal

pub loop-k-init : goal.loop-k-init
unfolding page_marks_valid
loop-k-init c = rw (take_rest, drop-drop)

pub loop-k-preserved : goal.loop-k-preserved
loop-k-preserved c =
    let l = c.loop-k in
    let row = c.args.row.now in
    let at = page_size * c.args.i + 16 in
    let entries = take (length row - at) (drop at row) in
    and_assoc l.ok c.copy_marks_valid-ok.result _
    ∙ rw (c.copy_marks_valid-ok.ensures, ← each_next 3 copy_marks_valid 8 l.k entries (omega arith)) l.invariant

pub returns : goal.returns
unfolding each_is
returns c =
    let e : c.loop-k.k ≡ 8 = omega arith in
    sym (and-true c.loop-k.ok) ∙ rw e at c.loop-k.invariant
