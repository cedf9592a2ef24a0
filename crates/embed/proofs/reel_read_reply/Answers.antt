-- `reel_read_reply` meets its contract: the data of a reply stand within its first 70 bytes.
use Prim.Native.Nat.{ℕ}
use mathlib.Core.Path.{◌≡◌, sym, ap, ◌∙◌}
use mathlib.Core.List.{List}
use native.Mathlib.Omega.{arith}
use Rattle.stations.specs.Reader.{read_reply, Reading, Refused, Reply, reading}
use Rattle.stations.proofs.ReaderLaws.{read_within}
use Rattle.embed.specs.Exports.{reading_number}
use Rattle.embed.specs.Private.{Low}
use Rattle.embed.proofs.reel_read_reply.Goals as goal

low : (kind : ℕ) (l : List ℕ) (r : Reading) → read_reply kind l ≡ r → Low r
low kind l (Refused n) e = tt
low kind l (Reply number laid start len) e =
    let w = read_within kind l number laid start len e in
    (omega (arith, w.0), omega (arith, w.1))

pub reading_number-requires : goal.reading_number-requires
reading_number-requires c = low _ _ (reading c.read_reply-told.result) (sym c.read_reply-told.ensures.told)

pub returns : goal.returns
returns c = c.reading_number.ensures ∙ ap reading_number c.read_reply-told.ensures.told
