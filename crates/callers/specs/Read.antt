-- What a program in C has of `reel_read`, on any bytes, whether they hold tables or not: document 01, "A read can also
-- be had as a part of the fast store or of the slow one, the very bytes of that copy; .. and it is empty where the read
-- would be refused." That the place is the copy's own is in the definition of the place (`read_place`).
use Rattle.std.specs.Prelude.{ℕ, ◌+◌, ◌/◌, ◌%◌, ◌≤◌, ◌≡◌, Bool, true, not, cond, List, [], length, eqb}
use Rattle.steps.specs.Stores.{part}
use Rattle.steps.specs.Steps.{Outcome}
use Rattle.steps.specs.Effects.{Result, step, data_of, read_call}
use Rattle.messages.specs.Replies.{is_refusal}
use Rattle.embed.specs.Exports.{read_number, Kept, state_in}

-- ---- the number taken apart, as include/reel.h does it

abbrev pub place_length : ℕ → ℕ
place_length r = r % 256

abbrev pub place_slow : ℕ → Bool
place_slow r = not (eqb (r / 256 % 256) 0)

abbrev pub place_offset : ℕ → ℕ
place_offset r = r / 65536

-- the store that the place is in
abbrev pub place_store : ℕ → Kept → List ℕ
place_store r k = cond (place_slow r) k.slow k.fast

-- ---- what is promised

-- k: what the program keeps; o: what the read comes to; r: the number that `reel_read` gave
pub record ReadHad (k : Kept) (o : Outcome Result) (r : ℕ) : Type 0 where
  -- the bytes there are the data of the read
  pub bytes_had : part (place_store r k) (place_offset r) (place_length r) ≡ data_of o
  -- they lie within the store
  pub within_store : place_offset r + place_length r ≤ length (place_store r k)
  -- they are none just where the read is refused
  pub empty_refused : eqb (place_length r) 0 ≡ is_refusal o
  -- there the number is 0
  pub zero_refused : is_refusal o ≡ true → r ≡ 0

-- `read_number` is all that the contract of `reel_read` says
abbrev pub ReadLent : Type 0
ReadLent =
    (k : Kept) (station page offset count : ℕ)
    → let c = read_call station page offset count in
    ReadHad k (step (state_in k) c []) (read_number k.tables (length k.fast) (length k.slow) c)
