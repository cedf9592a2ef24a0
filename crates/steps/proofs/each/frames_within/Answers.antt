-- `frames_within`, copy by copy.
use mathlib.Core.Path.{refl, ◌∙◌}
use Rattle.std.proofs.Common.{rules}
use borrow.Author.Tests.{tests}
use Rattle.std.proofs.lemmas.Iterator.{YieldsList-from_slice}
use Rattle.std.proofs.lemmas.Iterator.Search.{all_from_yields_List}
use Rattle.steps.specs.Promises.{frame_within}
use Rattle.steps.proofs.each.frames_within.Goals as goal

pub returns : goal.returns
returns g c = λ those tells.
    all_from_yields_List (frame_within those c.args.limit) _ _ _ c.all.ensures.ran (YieldsList-from_slice c.copies_in_use.result.now cc) (λ x b q k. search (rules, tests, tells))
    ∙ rw c.copies_in_use.ensures.items refl
