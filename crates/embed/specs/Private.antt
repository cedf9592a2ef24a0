-- What private functions ask. For the proofs alone: no exported contract names it.
use Rattle.std.specs.Prelude.{ℕ, ◌≡◌, ◌≤◌, ◌<◌, List, length}
use Rattle.std.specs.Borrow.{Bor, MutBor}
use Rattle.stations.specs.Reader.{Reading, Refused, Reply}
use Rattle.steps.specs.declared.Place.{Place}

-- a place that goes into one number
pub record Small (place : Place) : Type 0 where
  pub start_low : place.start < 65536
  pub len_low : place.len ≤ 64

-- so does what is read of a reply
abbrev pub Low : Reading → Type 0
Low (Refused n) = Unit {0}
Low (Reply number laid start len) = (start < 256) × (len < 256)

-- what a function puts into so many bytes is what `to` makes of the value that it is called with
abbrev pub Puts : {T : Type 0} → ℕ → (Bor T → MutBor (List ℕ) → Unit {0} → MutBor (List ℕ) → Type 0) → (T → List ℕ)
    → Type 0
Puts {T} size post to =
    (x : Bor T) (b b' : MutBor (List ℕ)) → length b.now ≡ size → post x b tt b' → b'.now ≡ to x.now
