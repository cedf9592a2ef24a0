-- Document 01, "The flat memory". Of the kernel it uses what a message asks for (`Call`) and the number of its kind.
use Rattle.steps.specs.Steps.{Outcome, refuse, accept}
use Rattle.std.specs.Prelude.{ℕ, ◌+◌, Bool, true, false, not, ◌&&◌, ◌||◌, cond, List, [], ◌∷◌, ◌++◌, length, take, drop, get_or, set, replicate, leb, ltb, eqb}
use Rattle.steps.specs.declared.Call.{Call}
use Rattle.steps.specs.Kinds.{kind_number}

-- "State: each page absent, or an owner, 16 rights and 64 bytes."
pub record FlatPage : Type 0 where
  pub owner : ℕ
  pub rights : List ℕ
  pub bytes : List ℕ

pub data Slot : Type 0 where
  gone : Slot
  here : FlatPage → Slot

abbrev pub Flat : Type 0
Flat = List Slot

abbrev pub slot_at : Flat → ℕ → Slot
slot_at f p = get_or f p gone

-- "At the start all are absent."
abbrev pub none : Flat
none = replicate 64 gone

-- "It passes over ..", or "Its answer .. is a number, and for an accepted read the bytes"
pub data Reaction : Type 0 where
  silent : Reaction
  no : ℕ → Reaction
  yes : Flat → List ℕ → Reaction

abbrev pub unless : Bool → ℕ → Reaction → Reaction
unless true n r = no n
unless false n r = r

-- "7: station above 15, page above 63": kinds 1 to 5 name both
abbrev pub far_name : Call → Bool
far_name c = ltb 15 c.station || ltb 63 c.page

-- "right above 2", and the other station of a grant
abbrev pub far_grant : Call → Bool
far_grant c = ltb 15 c.other || ltb 2 c.right

-- "offset above 63, count 0, or offset + count above 64"
abbrev pub far_span : ℕ → ℕ → Bool
far_span start n = ltb 63 start || (eqb n 0 || ltb 64 (start + n))

-- the rest of 7, for kind k: "where a write's count is the number of its bytes"
abbrev pub far_rest : ℕ → Call → List ℕ → Bool
far_rest k c bs =
    cond (eqb k 3) (far_grant c)
    (cond (eqb k 4) (far_span c.offset c.count)
    (cond (eqb k 5) (far_span c.offset (length bs)) false))

-- "8: create, page not absent." "Create: the station is owner with right 2, .. the bytes 64 zeros." Document 02,
-- request [6]: "Create now gives right 1 to every station but the owner. .. The flat memory's create changes alike"
abbrev pub creating : Flat → Call → Slot → Reaction
creating f c gone =
    yes (set f c.page (here (record {
      owner = c.station;
      rights = set (replicate 16 1) c.station 2;
      bytes = replicate 64 0;
    }))) []
creating f c (here b) = no 8

-- "9: the other four kinds, page absent."
abbrev pub on_page : Slot → (FlatPage → Reaction) → Reaction
on_page gone k = no 9
on_page (here b) k = k b

-- "10: delete or grant by a station that isn't the owner, read with right 0, write with right below 2", on page b
abbrev pub may_not : ℕ → FlatPage → Call → Bool
may_not k b c =
    cond (eqb k 2 || eqb k 3) (not (eqb b.owner c.station))
    (cond (eqb k 4) (eqb (get_or b.rights c.station 0) 0)
    (ltb (get_or b.rights c.station 0) 2))

-- "Delete: the page is absent. Grant: the other station's right becomes the one named. Read: no change; the answer has
-- count bytes from the offset on. Write: the message's bytes replace those from the offset on, the rest stay."
abbrev pub done_to : ℕ → Flat → FlatPage → Call → List ℕ → Reaction
done_to k f b c bs =
    cond (eqb k 2) (yes (set f c.page gone) [])
    (cond (eqb k 3)
    (yes (set f c.page (here (record {
      owner = b.owner;
      rights = set b.rights c.other c.right;
      bytes = b.bytes;
    }))) [])
    (cond (eqb k 4) (yes f (take c.count (drop c.offset b.bytes)))
    (yes (set f c.page (here (record {
      owner = b.owner;
      rights = b.rights;
      bytes = take c.offset b.bytes ++ (bs ++ drop (c.offset + length bs) b.bytes);
    }))) [])))

-- "It passes over kinds 6 to 11", and document 02, request [5]: "The flat memory passes over kind 12."
abbrev pub passes_over : ℕ → Bool
passes_over k = leb 6 k && leb k 12

-- A call of the kind with number k, and a write's bytes bs: "It tests in this order, and a refusal changes nothing", 7,
-- 8, 9, 10. "Else 0."
unfoldable pub react_as : ℕ → Flat → Call → List ℕ → Reaction
react_as k f c bs =
    cond (passes_over k) silent
    (unless (far_name c) 7 (unless (far_rest k c bs) 7
    (cond (eqb k 1) (creating f c (slot_at f c.page))
    (on_page (slot_at f c.page) (λ b. unless (may_not k b c) 10 (done_to k f b c bs))))))

abbrev pub flat_kind : Call → Bool
flat_kind c = not (passes_over (kind_number c.kind))

abbrev pub react : Flat → Call → List ℕ → Reaction
react f c bs = react_as (kind_number c.kind) f c bs

-- ".. and every message that by its own bytes falls under 1 to 4"
unfoldable pub react_to : Flat → Outcome Call → List ℕ → Reaction
react_to f (refuse n) bs = silent
react_to f (accept c) bs = react f c bs

-- "a refusal changes nothing"
abbrev pub flat_left : Flat → Reaction → Flat
flat_left f silent = f
flat_left f (no n) = f
flat_left f (yes f' bs) = f'

-- an answer: "a number, and for an accepted read the bytes"
pub record Answer : Type 0 where
  pub number : ℕ
  pub bytes : List ℕ

abbrev pub answers_of : Reaction → List Answer
answers_of silent = []
answers_of (no n) = record { number = n; bytes = [] } ∷ []
answers_of (yes f bs) = record { number = 0; bytes = bs } ∷ []

abbrev pub accepts : Reaction → Bool
accepts silent = false
accepts (no n) = false
accepts (yes f bs) = true
