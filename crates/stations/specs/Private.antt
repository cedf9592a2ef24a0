-- What the private functions of this layer ask of each other and promise. For the proofs alone: no exported contract
-- names it.
use Rattle.std.specs.Prelude.{ℕ, ◌+◌, ◌-◌, ◌<◌, ◌≤◌, Bool, ◌&&◌, ◌||◌, cond, Option, Some, None, List, [], ◌∷◌, ◌++◌, length, take, replicate, ltb, eqb}
use Rattle.tables.specs.declared.refusals.Refusal.{Refusal}
use Rattle.tables.specs.Lists.{listed}
use Rattle.tables.specs.Numbers.{accepted, wrong_length, all_numbers}
use Rattle.steps.specs.declared.Kind.{Kind}
use Rattle.steps.specs.declared.Call.{Call}
use Rattle.steps.specs.Kinds.{names, tells, values}
use Rattle.steps.specs.Data.{formed}
use Rattle.steps.specs.Steps.{Outcome, refuse, accept}

-- ---- a message by the lengths of its kind's messages

-- how many arguments of one byte there are, and the bytes that end it: those that may be longer end with bytes
abbrev pub singles : ℕ → ℕ → ℕ
singles least most = cond (ltb least most) (least - 3) (least - 2)

abbrev pub tail : ℕ → ℕ → List ℕ → List ℕ
tail least most bs = cond (ltb least most) bs []

pub record Lengths (least most : ℕ) : Type 0 where
  pub some : 2 ≤ least
  pub more : least < most → 3 ≤ least

-- the message with four arguments, as many of them as there are
abbrev pub laid_message : ℕ → ℕ → ℕ → List ℕ → List ℕ → List ℕ
laid_message kind least most r bs =
    take (4 + singles least most) (0 ∷ (2 + singles least most + length (tail least most bs)) ∷ 1 ∷ kind ∷ r)
    ++ tail least most bs

-- room for it
pub record MessageRoom (least most : ℕ) (bs out : List ℕ) : Type 0 where
  pub lengths : Lengths least most
  pub few : singles least most ≤ 4
  pub short : singles least most + length (tail least most bs) ≤ 67
  pub room : 71 ≤ length out

-- ---- the arguments of a call

-- in the order of a kind, one byte each, with 0 past the last one
abbrev pub arguments : Kind → Call → List ℕ
arguments k c = take 4 (values (names k) c [] ++ replicate 4 0)

-- ---- what a reply carries

-- its number, where that is 0 or in the table
abbrev pub number_read : ℕ → Outcome ℕ
number_read n = cond (eqb n accepted || listed n all_numbers) (accept n) (refuse wrong_length)

-- whether a reply to a message of kind k, which carries this refusal or none, may have so many bytes laid, and data d
abbrev pub may_carry : Kind → Option Refusal → ℕ → List ℕ → Bool
may_carry k None laid d = formed (tells k) d
may_carry k (Some refusal) laid d = eqb (length d) 0 && eqb laid 0
