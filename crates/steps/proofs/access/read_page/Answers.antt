-- `read_page`: 11, or the frame of the first CURRENT copy.
use Rattle.steps.proofs.CountLaws.{read_none, read_some}
use Rattle.steps.proofs.access.read_page.Goals as goal

pub returns-in-Some : goal.returns-in-Some
returns-in-Some c = λ size. read_some c.args.view c.args.call size c.in_ok-lacks_right.ensures c.in-Some.ensures c.showing.ensures

pub returns-in-None : goal.returns-in-None
returns-in-None c = λ size. read_none c.args.view c.args.call size c.in_ok-lacks_right.ensures c.in-None.ensures
