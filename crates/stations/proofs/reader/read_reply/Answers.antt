-- `read_reply` meets its contract: what the reader over messages yields at place 0.
use mathlib.Core.Path.{sym, ap, ◌∙◌}
use mathlib.Core.List.{List}
use Prim.Native.Nat.{ℕ, ◌≤◌}
use lib.ListN.{length}
use native.Mathlib.Omega.{arith}
use Rattle.messages.proofs.ReaderLaws.{message_at, message_part}
use Rattle.stations.specs.Reader.{read_body, read_reply}
use Rattle.stations.proofs.ReaderLaws.{read_of, read_none}
use Rattle.stations.proofs.reader.read_reply.Goals as goal
use Rattle.stations.proofs.reader.read_reply.Goals.{In-Message}

pub returns-in_default : goal.returns-in_default
returns-in_default c = read_none _ _ _ c.message_at.ensures.told c.in_default.not-Message

-- a message stands within the bytes
inside : (c : In-Message) → (c.in-Message.start ≤ c.in-Message.next) × (c.in-Message.next ≤ length c.args.bytes.now)
inside c =
    let m = message_at _ 0 _ _ _ (sym c.in-Message.is ∙ c.message_at.ensures.told) in
    (omega arith, omega arith)

pub slice_bounds-read_body-count : goal.slice_bounds-read_body-count
slice_bounds-read_body-count c = omega (arith, inside (goal.at.slice_bounds-read_body-count c).In-Message)

pub slice_bounds-read_body-start : goal.slice_bounds-read_body-start
slice_bounds-read_body-start c = omega (arith, inside (goal.at.slice_bounds-read_body-start c).In-Message)

pub slice_bounds-read_body-end : goal.slice_bounds-read_body-end
slice_bounds-read_body-end c = omega (arith, inside (goal.at.slice_bounds-read_body-end c).In-Message)

pub returns : goal.returns
unfolding read_reply
returns c =
    let a = c.args in
    let e = sym c.in-Message.is ∙ c.message_at.ensures.told in
    read_of a.kind a.bytes.now
    (rw (← e) (c.read_body.ensures ∙ ap (λ (l : List ℕ). read_body a.kind l) (message_part a.bytes.now 0 _ _ _ e)))
