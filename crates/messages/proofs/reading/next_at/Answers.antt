-- `next_at` meets its contract: what is left of the file is nothing, or begins with a length. One byte that is left is
-- by the laws that the function names.
use Rattle.messages.proofs.ReaderLaws.{yields_end, yields_short, yields_message}
use Rattle.messages.proofs.reading.next_at.Goals as goal

pub returns-in-empty : goal.returns-in-empty
returns-in-empty c = yields_end _ _ _ c.bytes_from.ensures c.in-empty.len_below

pub returns-then-rest-len : goal.returns-then-rest-len
returns-then-rest-len c =
    yields_short _ _ _ c.bytes_from.ensures c.in-len2-up.len_at_least _ c.from_be_bytes-len.ensures c.if-rest-len.true

pub returns-else-rest-len : goal.returns-else-rest-len
returns-else-rest-len c =
    yields_message _ _ _ c.bytes_from.ensures c.in-len2-up.len_at_least _ c.from_be_bytes-len.ensures c.if-rest-len.false
