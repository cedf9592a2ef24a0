-- Demand 3: the flat memory beside a run.
use Rattle.std.specs.Prelude.{ℕ, ◌*◌, ◌≤◌, ◌<◌, ◌≡◌, Bool, true, false, not, ◌&&◌, ◌||◌, cond, List, [], ◌∷◌, ◌++◌, map, length, drop, get_or, eqb}
use Rattle.tables.specs.declared.Copy.{Copy}
use Rattle.tables.specs.declared.Page.{Page}
use Rattle.tables.specs.declared.Tables.{Tables}
use Rattle.tables.specs.Lists.{count, Each}
use Rattle.tables.specs.Numbers.{nothing_current}
use Rattle.tables.specs.Model.{copies_in_use, absent, page_at, fresh_tables}
use Rattle.tables.specs.Rules.{is_recent}
use Rattle.steps.specs.declared.Call.{Call}
use Rattle.steps.specs.Kinds.{kind_number}
use Rattle.steps.specs.Stores.{contents}
use Rattle.steps.specs.Steps.{Outcome, refuse, accept, currents}
use Rattle.steps.specs.Effects.{State, joined}
use Rattle.messages.specs.Replies.{reply_in}
use Rattle.messages.specs.Run.{Sent, asked, bytes_of, Turn, messages_of, Run, run}
use Rattle.theorems.specs.Flat.{Flat, FlatPage, Slot, gone, here, slot_at, none, Reaction, flat_kind, react, react_to, flat_left, Answer, answers_of, accepts}

-- ---- what the flat memory learns of a run

-- the number of a reply: its fourth byte
abbrev pub reply_number : List ℕ → ℕ
reply_number r = get_or r 3 0

-- whether a turn's message was answered 11
abbrev pub eleven : ℕ → Turn → Bool
eleven room t = eqb (reply_number (reply_in room t.outcome)) nothing_current

abbrev pub sent_in : Turn → Sent
sent_in t = t.sent

abbrev pub elevens : ℕ → List Turn → List Bool
elevens room ts = map (eleven room) ts

-- ---- the flat memory beside the messages xs of a file, of which those that es marks were answered 11
-- "It gets the messages of the file in order. Messages that the kernel answers 11 are kept from it; nothing else of the
-- kernel's answers or tables reaches it."

abbrev pub reaction : Flat → Sent → Reaction
reaction f x = react_to f (asked x) (bytes_of x)

unfoldable pub flat_after : Flat → Sent → Bool → Flat
flat_after f x e = cond e f (flat_left f (reaction f x))

unfoldable pub flat_end : Flat → List Sent → List Bool → Flat
flat_end f [] es = f
flat_end f (x ∷ xs) [] = f
flat_end f (x ∷ xs) (e ∷ es) = flat_end (flat_after f x e) xs es

unfoldable pub flat_answers : Flat → List Sent → List Bool → List Answer
flat_answers f [] es = []
flat_answers f (x ∷ xs) [] = []
flat_answers f (x ∷ xs) (e ∷ es) = cond e [] (answers_of (reaction f x)) ++ flat_answers (flat_after f x e) xs es

-- ---- "the run's replies to those same messages": those of the kinds that the flat memory answers, 1 to 5, and not
-- answered 11

abbrev pub is_answered : Outcome Call → Bool
is_answered (refuse n) = false
is_answered (accept c) = flat_kind c

-- "each reply taken as its number and the bytes after its first six"
abbrev pub answer_in : List ℕ → Answer
answer_in r = record { number = reply_number r; bytes = drop 6 r }

unfoldable pub run_answers : ℕ → List Turn → List Answer
run_answers room [] = []
run_answers room (t ∷ ts) =
    cond (not (eleven room t) && is_answered (asked t.sent)) (answer_in (reply_in room t.outcome) ∷ []) []
    ++ run_answers room ts

-- ---- number 11 exactly where the flat memory would accept and nothing is current

-- "11: read or write, no CURRENT copy": kinds 4 and 5
abbrev pub lacks : Tables → Call → Bool
lacks t c = (eqb (kind_number c.kind) 4 || eqb (kind_number c.kind) 5) && eqb (currents (page_at t c.page)) 0

abbrev pub due : Flat → State → Outcome Call → List ℕ → Bool
due f s (refuse n) bs = false
due f s (accept c) bs = accepts (react f c bs) && lacks s.tables c

-- where 11 is due, turn by turn, beside the flat memory at that point
unfoldable pub dues : ℕ → Flat → List Turn → List Bool
dues room f [] = []
dues room f (t ∷ ts) =
    due f t.found (asked t.sent) (bytes_of t.sent) ∷ dues room (flat_after f t.sent (eleven room t)) ts

-- ---- at the end: the same pages, owners and rights, and every MOST RECENT copy holds its page's flat bytes

-- "A copy holds the bytes at its frame in the run's stores"; one without a frame counts as 64 zeros (`contents`)
abbrev pub Holds : List ℕ → List Copy → List ℕ → Type 0
Holds st cs bs = Each (λ (c : Copy). c.recent ≡ true → contents st c ≡ bs) cs

pub record SamePage (st : List ℕ) (g : Page) (b : FlatPage) : Type 0 where
  pub owners : g.owner ≡ b.owner
  pub rights : g.rights ≡ b.rights
  pub some_recent : 1 ≤ count is_recent (copies_in_use g)
  pub holds : Holds st (copies_in_use g) b.bytes

abbrev pub SameSlot : List ℕ → Page → Slot → Type 0
SameSlot st g gone = absent g ≡ true
SameSlot st g (here b) = (absent g ≡ false) × SamePage st g b

-- ---- the one theorem

-- of a run r over the messages xs, with P = p, S = s and a reply buffer of `room` bytes
pub record AgreesOn (p s room : ℕ) (xs : List Sent) (r : Run) : Type 0 where
  -- a turn for each message, in order
  pub messages : map sent_in r.turns ≡ xs
  -- "Two lists, in the file's order, are equal"
  pub answers : flat_answers none xs (elevens room r.turns) ≡ run_answers room r.turns
  -- 11 exactly where it is due
  pub elevens_due : elevens room r.turns ≡ dues room none r.turns
  -- P, S and the lengths of the stores stay, so that frame f is the f-th block of both together
  pub fast_kept : r.final.tables.shared.p ≡ p
  pub slow_kept : r.final.tables.shared.s ≡ s
  pub fast_long : length r.final.fast ≡ 64 * p
  pub slow_long : length r.final.slow ≡ 64 * s
  pub pages : (q : ℕ) → q < 64
      → SameSlot (joined r.final) (page_at r.final.tables q)
      (slot_at (flat_end none xs (elevens room r.turns)) q)

-- `AgreesOn` over the messages of a file
abbrev pub Agrees : ℕ → ℕ → ℕ → List ℕ → Run → Type 0
Agrees p s room file r = AgreesOn p s room (messages_of file) r

-- "The file is of any length"; "fresh tables of any P and S in range"; "The stores' bytes may be anything", and so may
-- the reply buffer's
abbrev pub Demand3 : Type 0
Demand3 =
    (p s : ℕ) (fast slow out file : List ℕ) → p ≤ 127 → s ≤ 127 → length fast ≡ 64 * p → length slow ≡ 64 * s
    → 70 ≤ length out
    → Agrees p s (length out) file
    (run (length out) file (record { tables = fresh_tables p s; fast = fast; slow = slow }))
