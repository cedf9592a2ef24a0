-- `reply_refusal` meets its contract: with room, the heading of a refusal.
use borrow.Author.Tests.{le-ltb}
use Rattle.messages.specs.Replies.{reply}
use Rattle.messages.proofs.replies.reply_refusal.Goals as goal

pub returns-then-out-ge70 : goal.returns-then-out-ge70
unfolding reply
returns-then-out-ge70 c = rw (le-ltb _ 70 c.if-out-ge70.true, ← c.from.ensures) c.head.ensures
