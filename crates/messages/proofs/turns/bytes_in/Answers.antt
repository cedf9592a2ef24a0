-- `bytes_in` meets its contract: a message that the reader yields stands within the file.
use mathlib.Core.Path.{sym, ◌∙◌}
use native.Mathlib.Omega.{arith}
use Rattle.messages.proofs.ReaderLaws.{message_at, message_part}
use Rattle.messages.proofs.turns.bytes_in.Goals as goal

pub slice_bounds-result-count : goal.slice_bounds-result-count
slice_bounds-result-count c =
    let m = message_at _ c.requires.at _ _ _ (sym c.in-Message.is ∙ c.requires.found) in
    omega arith

pub slice_bounds-result-start : goal.slice_bounds-result-start
slice_bounds-result-start c =
    let m = message_at _ c.requires.at _ _ _ (sym c.in-Message.is ∙ c.requires.found) in
    omega arith

pub slice_bounds-result-end : goal.slice_bounds-result-end
slice_bounds-result-end c =
    let m = message_at _ c.requires.at _ _ _ (sym c.in-Message.is ∙ c.requires.found) in
    omega arith

pub returns-in-Message : goal.returns-in-Message
returns-in-Message c =
    let e = c.in-Message.is in
    rw e (message_part _ c.requires.at _ _ _ (sym e ∙ c.requires.found))
