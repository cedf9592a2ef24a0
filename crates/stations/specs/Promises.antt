-- What the writer and the reader promise.
use Rattle.std.specs.Prelude.{ℕ, ◌≡◌, List, Result, length}
use Rattle.tables.specs.declared.refusals.Refusal.{Refusal}
use Rattle.tables.specs.Numbers.{answer_number}
use Rattle.steps.specs.Stores.{over}
use Rattle.steps.specs.Steps.{Outcome, number_of}
use Rattle.messages.specs.Promises.{sent_alone}
use Rattle.stations.specs.declared.Reply.{Reply}
use Rattle.stations.specs.Writer.{message_in, Written, written_length}
use Rattle.stations.specs.Reader.{reading, read_reply, reading_of, reply_content}

-- what the writer leaves of a call that comes to o: its number, the length of the message, and the message at the front
-- of the buffer; "refused, it writes nothing, and bytes past a message remain as lent"
pub record Wrote (o : Outcome (List ℕ)) (out out' : List ℕ) (r : Written) : Type 0 where
  pub number_told : answer_number r ≡ number_of o
  pub len_told : written_length r ≡ length (message_in o)
  pub buffer_out : out' ≡ over (message_in o) out

-- what `read_reply` gives of bytes l for a kind: its answer, and by `reading_of`, case by case, what that means of the
-- reply at their front
pub record ReadOf (kind : ℕ) (l : List ℕ) (r : Result Reply Refusal) : Type 0 where
  pub told : reading r ≡ read_reply kind l
  pub meant : reading_of l (reading r) ≡ reply_content kind (sent_alone l)
