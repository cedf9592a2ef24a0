-- `write_kind` meets its contract: 18, 3 and 7, and the message.
use native.Mathlib.Omega.{arith}
use Rattle.std.proofs.lemmas.Result.{err_from_is_err_and}
use Rattle.steps.specs.Kinds.{call_of}
use Rattle.stations.proofs.WriterLaws.{wrote_no_room, wrote_unknown, wrote_outside, room_left, wrote_message}
use Rattle.stations.proofs.writer.write_kind.Goals as goal

pub returns-then-out-lt-MESSAGE_SIZE : goal.returns-then-out-lt-MESSAGE_SIZE
returns-then-out-lt-MESSAGE_SIZE c = wrote_no_room _ _ _ _ c.if-out-lt-MESSAGE_SIZE.true

pub returns-in_err-kind : goal.returns-in_err-kind
returns-in_err-kind c =
    let p = err_from_is_err_and c.from_residual.result c.from_residual.ensures.1 in
    rw (p.1, p.2) (wrote_unknown _ _ _ _ _ c.if-out-lt-MESSAGE_SIZE.false (c.in_err-kind.ensures))

pub returns-in_err-outside : goal.returns-in_err-outside
returns-in_err-outside c =
    let p = err_from_is_err_and c.from_residual-in_err-outside.result c.from_residual-in_err-outside.ensures.1 in
    rw (p.1, p.2)
    (wrote_outside _ _ _ _ _ c.if-out-lt-MESSAGE_SIZE.false (c.in_ok-kind.ensures) _ (rw c.form-form.ensures at c.in_err-outside.ensures))

pub lay_message-requires : goal.lay_message-requires
lay_message-requires c =
    rw c.form-form.ensures
    (room_left _ _ _ _ _ c.if-out-lt-MESSAGE_SIZE.false (c.in_ok-kind.ensures) (rw c.form-form.ensures at c.in_ok-outside.ensures))

pub returns : goal.returns
unfolding call_of
returns c =
    let e = c.form-form.ensures in
    wrote_message _ _ _ _ _ c.if-out-lt-MESSAGE_SIZE.false (c.in_ok-kind.ensures) _ _ (omega arith) (rw e at c.in_ok-outside.ensures)
    (rw e at c.lay_message.ensures.value) (rw e at c.lay_message.ensures.out_after)
