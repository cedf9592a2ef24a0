-- What a program in C has of a read. In order: the number of a place, taken apart; the length of the data; the read.
use Prim.Native.Nat.{ℕ, ◌+◌, ◌*◌, ◌/◌, ◌%◌, ◌≤◌}
use mathlib.Core.Path.{◌≡◌, refl, sym, ap, ◌∙◌}
use mathlib.Core.Bool.{Bool, true, false, not, cond, false≢true}
use mathlib.Core.List.{List, []}
use native.Mathlib.Omega.{arith}
use lib.ListN.{length}
use lib.Dec.{leb, eqb}
use borrow.Author.Tests.{leb-true, ne_eqb}
use Rattle.tables.proofs.ListLaws.{and_left}
use Rattle.steps.specs.declared.Kind.TheVariants.{Read}
use Rattle.steps.specs.declared.Call.{Call}
use Rattle.steps.specs.declared.Place.{Place}
use Rattle.steps.specs.Kinds.{tells, names, code, argument, call_of}
use Rattle.steps.specs.Data.{formed}
use Rattle.steps.specs.declared.Plan.{Plan}
use Rattle.steps.specs.Steps.{Outcome, refuse, accept, mapped, decide_any}
use Rattle.steps.specs.Effects.{State, Result, carried_out, step, data_of, place_of, read_place, read_call}
use Rattle.steps.proofs.StoreLaws.{length_part}
use Rattle.steps.proofs.DecideLaws.{IfAccepted, if_accepted}
use Rattle.steps.proofs.StepLaws.{step_formed}
use Rattle.steps.proofs.PlaceLaws.{read_in, read_bytes}
use Rattle.messages.specs.Replies.{is_refusal}
use Rattle.embed.specs.Exports.{place_number, kept, state_in}
use Rattle.embed.specs.Private.{Small}
use Rattle.embed.proofs.PlaceLaws.{read_small}
use Rattle.callers.specs.Read.{place_length, place_slow, place_offset, ReadHad, ReadLent}

-- ---- a place in one number

record Apart (q : Place) (r : ℕ) : Type 0 where
  length_is : place_length r ≡ q.len
  slow_is : place_slow r ≡ q.slow
  offset_is : place_offset r ≡ q.start

apart : (q : Place) → Small q → Apart q (place_number q)
apart q small = go q.slow refl
  where
    len_low : q.len ≤ 64
    len_low = small.len_low

    go : (b : Bool) → q.slow ≡ b → Apart q (place_number q)
    go true e =
        let r = q.len + 256 * 1 + 65536 * q.start in
        let is : place_number q ≡ r = rw e refl in
        let one : r / 256 % 256 ≡ 1 = omega (arith, len_low) in
        record {
          length_is = ap place_length is ∙ omega (arith, len_low);
          slow_is = ap place_slow is ∙ ap (λ (n : ℕ). not (eqb n 0)) one ∙ sym e;
          offset_is = ap place_offset is ∙ omega (arith, len_low);
        }
    go false e =
        let r = q.len + 256 * 0 + 65536 * q.start in
        let is : place_number q ≡ r = rw e refl in
        let none : r / 256 % 256 ≡ 0 = omega (arith, len_low) in
        record {
          length_is = ap place_length is ∙ omega (arith, len_low);
          slow_is = ap place_slow is ∙ ap (λ (n : ℕ). not (eqb n 0)) none ∙ sym e;
          offset_is = ap place_offset is ∙ omega (arith, len_low);
        }

-- ---- the data of an accepted read are one byte or more

module _ (s : State) (c : Call) (kind : c.kind ≡ Read) where
  some : (o : Outcome Result)
      → IfAccepted (λ (r : Result). (formed (tells c.kind) r.data_out ≡ true) × (r.laid ≤ 512)) o
      → eqb (length (data_of o)) 0 ≡ is_refusal o
  unfolding formed tells
  some (refuse n) k = refl
  some (accept r) (if_accepted u) =
      let form = rw kind at u.0 in
      let l = leb-true 1 (length r.data_out) (and_left (leb 1 (length r.data_out)) _ form) in
      ne_eqb (length r.data_out) 0 (λ z. omega arith)

  -- a read that is refused has no place
  no_place : is_refusal (step s c []) ≡ true
      → place_number (read_place s.tables (length s.fast) (length s.slow) c) ≡ 0
  unfolding step
  no_place = go (decide_any s.tables (length s.fast) (length s.slow) c 0)
    where
      go : (o : Outcome Plan) → is_refusal (mapped (carried_out s c []) o) ≡ true
          → place_number (place_of s.tables.shared.p o) ≡ 0
      go (refuse n) e = refl
      go (accept plan) e = absurd (false≢true e)

  -- ---- the read

  abbrev q : Place
  q = read_place s.tables (length s.fast) (length s.slow) c

  read_held : (b : List ℕ) → ReadHad (kept b s.fast s.slow) (step s c []) (place_number q)
  read_held b =
      let a = apart q (read_small s.tables (length s.fast) (length s.slow) c) in
      let inside = read_in s c kind in
      let bytes = read_bytes s c kind in
      let long : length (data_of (step s c [])) ≡ q.len =
      ap length (sym bytes) ∙ length_part (cond q.slow s.slow s.fast) q.start q.len inside in
      record {
        bytes_had = rw (a.length_is, a.slow_is, a.offset_is) bytes;
        within_store = rw (a.length_is, a.slow_is, a.offset_is) inside;
        empty_refused = ap (λ (n : ℕ). eqb n 0) (a.length_is ∙ sym long) ∙ some (step s c []) (step_formed s c []);
        zero_refused = no_place;
      }

pub read_lent : ReadLent
unfolding call_of names argument code
read_lent k station page offset count = read_held (state_in k) (read_call station page offset count) refl k.tables
