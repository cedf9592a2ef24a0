-- `reply_decided` meets its contract: the data behind the first six bytes, and the heading before them.
use Rattle.messages.proofs.ReplyLaws.{laid_reply}
use Rattle.messages.proofs.replies.reply_decided.Goals as goal

pub returns : goal.returns
returns c = laid_reply _ _ _ _ _ _ _ _ _ c.requires.room c.carry.ensures c.head.ensures
