-- Source document 001: "In order to insure that page control can not, in effect, delete a PAGE the delete copy
-- operation will not delete the last MOST_RECENT COPY of a PAGE." Whatever the placement module sends, the pages stay
-- as stations know them, and none is lost to its readers for good.
use Rattle.std.specs.Prelude.{ℕ, ◌*◌, ◌≤◌, ◌<◌, ◌≡◌, Bool, true, false, not, List, [], ◌∷◌, length, ltb}
use Rattle.tables.specs.Lists.{all, listed}
use Rattle.tables.specs.Numbers.{accepted, out_of_range, no_right}
use Rattle.tables.specs.Model.{frames, is_null, absent, page_at, fresh_tables}
use Rattle.tables.specs.Rules.{free}
use Rattle.steps.specs.Kinds.{station, has, is_read}
use Rattle.steps.specs.Steps.{Outcome, refuse, accept, number_of, copy_at}
use Rattle.steps.specs.Effects.{State}
use Rattle.steps.specs.Promises.{state_of}
use Rattle.steps.specs.declared.Call.{Call}
use Rattle.messages.specs.Run.{Sent, asked, answer, messages_of, run}
use Rattle.theorems.specs.Hidden.{run_over}
use Rattle.claims.specs.Note.{seen, asks_for}

-- Messages that no station sends: "the bus that stamps the station byte" stamps none into moves and looks, which have
-- no such byte. A message that is refused by its own bytes may be among them.
abbrev pub unstamped : Outcome Call → Bool
unstamped (refuse n) = true
unstamped (accept c) = not (has station c.kind)

abbrev pub from_placement : List Sent → Bool
from_placement xs = all (λ (x : Sent). unstamped (asked x)) xs

-- at most two moves after which no read of page q is answered 11: each is accepted, or out of range, or the station has
-- no right to read that page
pub record BroughtBack (room : ℕ) (s : State) (q : ℕ) : Type 0 where
  pub file : List ℕ
  pub of_bytes : all (λ (b : ℕ). ltb b 256) file ≡ true
  pub few : length (messages_of file) ≤ 2
  pub by_placement : from_placement (messages_of file) ≡ true
  pub reads_answered : (x : Sent) → asks_for q (λ c. is_read c.kind) (asked x) ≡ true
      → listed (number_of (answer room (run room file s).final x)) (accepted ∷ out_of_range ∷ no_right ∷ []) ≡ true

-- of a state s
pub record PagesSafe (s : State) : Type 0 where
  -- after any messages from placement, those of a file or others, with a reply buffer of any length, the same pages
  -- stand with the same owners, rights and data
  pub pages_kept : (room : ℕ) (xs : List Sent) → from_placement xs ≡ true → (q : ℕ) → q < 64
      → seen (run_over room xs s).final q ≡ seen s q
  -- a page can be had back of which a MOST RECENT copy has a frame,
  pub back_from_copy : (room q k : ℕ) → 70 ≤ room → q < 64 → k < (page_at s.tables q).n
      → (copy_at (page_at s.tables q) k).recent ≡ true → is_null (copy_at (page_at s.tables q) k) ≡ false
      → BroughtBack room s q
  -- and one that stands where a frame is free
  pub back_to_frame : (room q f : ℕ) → 70 ≤ room → q < 64 → absent (page_at s.tables q) ≡ false
      → f < frames s.tables → free s.tables f ≡ true → BroughtBack room s q

-- of every state that any messages left, from fresh tables of any size in range
abbrev pub Placement : Type 0
Placement =
    (p s room : ℕ) (fast slow : List ℕ) (xs : List Sent) → p ≤ 127 → s ≤ 127 → length fast ≡ 64 * p
    → length slow ≡ 64 * s → PagesSafe (run_over room xs (state_of (fresh_tables p s) fast slow)).final
