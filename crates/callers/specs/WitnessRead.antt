-- For each field of `ReadHad` a wrong place that this field rules out and no other does; and a read on bytes that hold
-- no tables. Computed.
use Rattle.std.specs.Prelude.{ℕ, ◌+◌, ◌≤◌, ◌≡◌, refl, true, false, List, [], ◌∷◌, length, get_or, eqb}
use Rattle.std.proofs.Common.{ap, true≢false, arith}
use Rattle.std.proofs.lemmas.Bool.{false≢true}
use Rattle.steps.specs.Stores.{part}
use Rattle.steps.specs.Steps.{Outcome, refuse, accept}
use Rattle.steps.specs.Effects.{Result, step, data_of, read_call}
use Rattle.messages.specs.Replies.{is_refusal}
use Rattle.theorems.specs.Witness3.{But, fast_bytes, slow_bytes, start}
use Rattle.embed.specs.Exports.{place_number, read_number, Kept, kept, state_in}
use Rattle.callers.specs.Read.{place_length, place_offset, place_store, ReadHad, ReadLent}

-- the fields of `ReadHad`
pub data ReadField : Type 0 where
  bytes_had : ReadField
  within_store : ReadField
  empty_refused : ReadField
  zero_refused : ReadField

abbrev pub field_place : ReadField → ℕ
field_place bytes_had = 0
field_place within_store = 1
field_place empty_refused = 2
field_place zero_refused = 3

-- two stores of 64 bytes
abbrev pub stores : Kept
stores = kept [] fast_bytes slow_bytes

module _ (o : Outcome Result) (r : ℕ) where
  abbrev pub Says : ReadField → Type 0
  Says bytes_had = part (place_store r stores) (place_offset r) (place_length r) ≡ data_of o
  Says within_store = place_offset r + place_length r ≤ length (place_store r stores)
  Says empty_refused = eqb (place_length r) 0 ≡ is_refusal o
  Says zero_refused = is_refusal o ≡ true → r ≡ 0

  -- they are what `ReadHad` says
  pub part_of : ReadHad stores o r → (i : ReadField) → Says i
  part_of h bytes_had = h.bytes_had
  part_of h within_store = h.within_store
  part_of h empty_refused = h.empty_refused
  part_of h zero_refused = h.zero_refused

  pub of_parts : ((i : ReadField) → Says i) → ReadHad stores o r
  of_parts k =
      record {
        bytes_had = k bytes_had;
        within_store = k within_store;
        empty_refused = k empty_refused;
        zero_refused = k zero_refused;
      }

pub each : (X : ReadField → Type 0) → X bytes_had → X within_store → X empty_refused → X zero_refused → (i : ReadField)
    → X i
each X a b c d bytes_had = a
each X a b c d within_store = b
each X a b c d empty_refused = c
each X a b c d zero_refused = d

-- an accepted read of these bytes
abbrev pub reads : List ℕ → Outcome Result
reads bs = accept (record { state = start; moved = false; laid = 0; data_out = bs })

abbrev pub wrong_read : ReadField → Outcome Result
wrong_read bytes_had = reads (0xEE ∷ 0xEE ∷ [])
wrong_read within_store = reads (0xEE ∷ [])
wrong_read empty_refused = reads []
wrong_read zero_refused = refuse 9

abbrev pub wrong_place : ReadField → ℕ
-- the first two bytes of the other store
wrong_place bytes_had = place_number (record { slow = true; start = 0; len = 2 })
-- two bytes from the last one on
wrong_place within_store = place_number (record { slow = false; start = 63; len = 2 })
-- no place for a read that is accepted
wrong_place empty_refused = 0
-- a store named where the read is refused
wrong_place zero_refused = place_number (record { slow = true; start = 0; len = 0 })

abbrev pub Row : ReadField → ReadField → Type 0
Row i j = But (eqb (field_place i) (field_place j)) (Says (wrong_read i) (wrong_place i) j)

pub alone : (i j : ReadField) → Row i j
unfolding part
alone bytes_had =
    each (Row bytes_had) (λ e. false≢true (ap (λ (l : List ℕ). eqb (get_or l 0 0) 0xEE) e)) (omega arith) refl
    (λ e. absurd (false≢true e))
alone within_store = each (Row within_store) refl (λ h. omega arith) refl (λ e. absurd (false≢true e))
alone empty_refused = each (Row empty_refused) refl (omega arith) true≢false (λ e. absurd (false≢true e))
alone zero_refused = each (Row zero_refused) refl (omega arith) refl (λ k. omega (arith, k refl))

-- on no bytes at all, of a station, a page, an offset and a count that are out of range
pub read_of_none : ReadLent
    → let c = read_call 255 255 255 255 in
    ReadHad (kept [] [] []) (step (state_in (kept [] [] [])) c []) (read_number [] 0 0 c)
read_of_none k = k (kept [] [] []) 255 255 255 255
