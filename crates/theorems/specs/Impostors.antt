-- Document 01, "Try these impostors": wrong kernels beside the right one on the worked example, computed. Each differs
-- from the definitions that the contracts cite (demand 2), and where demand 3 sees it too, it is shown there.
use Rattle.std.specs.Prelude.{ℕ, ◌≡◌, refl, Bool, true, false, ◌&&◌, cond, length, take, drop, get_or, replicate, eqb}
use Rattle.std.proofs.Common.{ap}
use Rattle.std.proofs.lemmas.Bool.{false≢true}
use mathlib.Core.List.{List, [], ◌∷◌, ◌++◌, map, drop_last}
use Rattle.tables.specs.Lists.{count, count_below}
use Rattle.tables.specs.Numbers.{no_page, nothing_current}
use Rattle.tables.specs.Model.{free_entry, is_retired_entry, retired_at, absent, copies_in_use, page_at, fresh_tables, with_pages}
use Rattle.tables.specs.Rules.{uses, holders, free}
use Rattle.steps.specs.declared.Call.{Call}
use Rattle.steps.specs.Kinds.{offset, bytes, copy, frame, names, kinds, code, among, has, argument, call_of}
use Rattle.steps.specs.Stores.{part, splice, block, lay_frame, zeros}
use Rattle.steps.specs.Steps.{Outcome, refuse, accept, copy_at, first_current}
use Rattle.steps.specs.Effects.{State, joined, Result, left}
use Rattle.messages.specs.Messages.{parse}
use Rattle.messages.specs.Replies.{reply}
use Rattle.messages.specs.Run.{Sent, cut, whole, split, messages_of, asked, Turn, bytes_of}
use Rattle.theorems.specs.Flat.{none, react_as, react_to, Answer}
use Rattle.theorems.specs.Demand3.{sent_in, elevens, flat_after, flat_answers, run_answers, dues}
use Rattle.theorems.specs.Retired.{three_numbers, ever_retired, only_retired}
use Rattle.theorems.specs.Cases.{state₀, file₁, replies₁, right_turn}

-- what answers a message
abbrev pub Kernel : Type 0
Kernel = State → Sent → Outcome Result

unfoldable pub turns_by : Kernel → State → List Sent → List Turn
turns_by k s [] = []
turns_by k s (x ∷ xs) = record { found = s; sent = x; outcome = k s x } ∷ turns_by k (left s (k s x)) xs

-- the turns of the worked example
abbrev pub worked_by : Kernel → List Turn
worked_by k = turns_by k state₀ (messages_of file₁)

abbrev pub replies_by : Kernel → List (List ℕ)
replies_by k = map (λ (t : Turn). reply t.outcome) (worked_by k)

-- the right kernel, for comparison
pub right : replies_by right_turn ≡ replies₁
unfolding turns_by messages_of split right_turn parse names kinds code among argument call_of
right = refl

abbrev pub flat_side : Kernel → List Answer
flat_side k = flat_answers none (messages_of file₁) (elevens 70 (worked_by k))

abbrev pub run_side : Kernel → List Answer
run_side k = run_answers 70 (worked_by k)

-- the right kernel, but for the calls that are picked
abbrev pub except : (Call → Bool) → (Call → Outcome Result) → State → Sent → Outcome Call → Outcome Result
except picked wrong s x (refuse n) = right_turn s x
except picked wrong s x (accept c) = cond (picked c) (wrong c) (right_turn s x)

-- acknowledged, and nothing done
abbrev pub acknowledged : State → ℕ → Outcome Result
acknowledged s laid = accept (record { state = s; moved = false; laid = laid; data_out = [] })

-- ---- says "nothing current" before looking: 11 for every read and write

abbrev pub hasty : Kernel
hasty s x = except (λ c. has offset c.kind) (λ c. refuse nothing_current) s x (asked x)

-- 11 came where it was not due
pub hasty_elevens : elevens 70 (worked_by hasty) ≡ (false ∷ false ∷ false ∷ true ∷ true ∷ false ∷ [])
unfolding turns_by messages_of split right_turn parse names kinds code among argument call_of
hasty_elevens = refl

pub hasty_dues : dues 70 none (worked_by hasty) ≡ (false ∷ false ∷ false ∷ false ∷ false ∷ false ∷ [])
unfolding turns_by messages_of split right_turn parse names kinds code among argument call_of dues flat_after react_as
    react_to
hasty_dues = refl

-- ---- "refuses all"

abbrev pub refusing : Kernel
refusing s x = refuse no_page

pub refusing_flat : flat_side refusing
    ≡ (record { number = 0; bytes = [] } ∷ record { number = 0; bytes = [] }
    ∷ record { number = 0; bytes = 0x41 ∷ 0x37 ∷ 0 ∷ [] } ∷ [])
unfolding turns_by messages_of split right_turn parse names kinds code among argument call_of flat_answers flat_after
    react_as react_to
refusing_flat = refl

pub refusing_run : run_side refusing
    ≡ (record { number = 9; bytes = [] } ∷ record { number = 9; bytes = [] } ∷ record { number = 9; bytes = [] } ∷ [])
unfolding turns_by messages_of split right_turn parse names kinds code among argument call_of run_answers
refusing_run = refl

-- ---- "a constant reply": the read's bytes are missing

abbrev pub constant : Kernel
constant s x = acknowledged s 0

pub constant_run : run_side constant
    ≡ (record { number = 0; bytes = [] } ∷ record { number = 0; bytes = [] } ∷ record { number = 0; bytes = [] } ∷ [])
unfolding turns_by messages_of split right_turn parse names kinds code among argument call_of run_answers
constant_run = refl

pub constant_flat : flat_side constant
    ≡ (record { number = 0; bytes = [] } ∷ record { number = 0; bytes = [] }
    ∷ record { number = 0; bytes = 0x41 ∷ 0x37 ∷ 0 ∷ [] } ∷ [])
unfolding turns_by messages_of split right_turn parse names kinds code among argument call_of flat_answers flat_after
    react_as react_to
constant_flat = refl

-- ---- "serves the first message and then only acknowledges"

abbrev pub tired : Kernel
tired s x = cond (absent (page_at s.tables 5)) (right_turn s x) (acknowledged s 0)

pub tired_replies : replies_by tired
    ≡ ((0 ∷ 4 ∷ 1 ∷ 0 ∷ 0 ∷ 0 ∷ []) ∷ (0 ∷ 4 ∷ 1 ∷ 0 ∷ 0 ∷ 0 ∷ []) ∷ (0 ∷ 4 ∷ 1 ∷ 0 ∷ 0 ∷ 0 ∷ [])
    ∷ (0 ∷ 4 ∷ 1 ∷ 0 ∷ 0 ∷ 0 ∷ [])
    ∷ (0 ∷ 4 ∷ 1 ∷ 0 ∷ 0 ∷ 0 ∷ []) ∷ (0 ∷ 4 ∷ 1 ∷ 0 ∷ 0 ∷ 0 ∷ []) ∷ [])
unfolding turns_by messages_of split right_turn parse names kinds code among argument call_of
tired_replies = refl

-- its read has no bytes, and the flat memory's has three, as beside the constant reply
pub tired_run : run_side tired
    ≡ (record { number = 0; bytes = [] } ∷ record { number = 0; bytes = [] } ∷ record { number = 0; bytes = [] } ∷ [])
unfolding turns_by messages_of split right_turn parse names kinds code among argument call_of run_answers
tired_run = refl

-- ---- "drops moves": kinds 6 to 9 are acknowledged and not carried out

abbrev pub dropping : Kernel
dropping s x = except (λ c. has copy c.kind) (λ c. acknowledged s (cond (has frame c.kind) 64 0)) s x (asked x)

-- the write and the read find nothing CURRENT, and the look finds the null copy
pub dropping_replies : replies_by dropping
    ≡ ((0 ∷ 4 ∷ 1 ∷ 0 ∷ 0 ∷ 0 ∷ []) ∷ (0 ∷ 4 ∷ 1 ∷ 0 ∷ 0 ∷ 0x40 ∷ []) ∷ (0 ∷ 4 ∷ 1 ∷ 0 ∷ 0 ∷ 0 ∷ [])
    ∷ (0 ∷ 4 ∷ 1 ∷ 11 ∷ 0 ∷ 0 ∷ []) ∷ (0 ∷ 4 ∷ 1 ∷ 11 ∷ 0 ∷ 0 ∷ []) ∷ (0 ∷ 8 ∷ 1 ∷ 0 ∷ 0 ∷ 0 ∷ 1 ∷ 255 ∷ 0 ∷ 1 ∷ [])
    ∷ [])
unfolding turns_by messages_of split right_turn parse names kinds code among argument call_of
dropping_replies = refl

-- ---- "invents bytes laid"

abbrev pub inflated : Outcome Result → Outcome Result
inflated (refuse n) = refuse n
inflated (accept r) = accept (record { state = r.state; moved = r.moved; laid = 1; data_out = r.data_out })

abbrev pub inventing : Kernel
inventing s x = inflated (right_turn s x)

pub inventing_replies : replies_by inventing
    ≡ ((0 ∷ 4 ∷ 1 ∷ 0 ∷ 0 ∷ 1 ∷ []) ∷ (0 ∷ 4 ∷ 1 ∷ 0 ∷ 0 ∷ 1 ∷ []) ∷ (0 ∷ 4 ∷ 1 ∷ 0 ∷ 0 ∷ 1 ∷ [])
    ∷ (0 ∷ 4 ∷ 1 ∷ 0 ∷ 0 ∷ 1 ∷ [])
    ∷ (0 ∷ 7 ∷ 1 ∷ 0 ∷ 0 ∷ 1 ∷ 0x41 ∷ 0x37 ∷ 0 ∷ []) ∷ (0 ∷ 8 ∷ 1 ∷ 0 ∷ 0 ∷ 1 ∷ 1 ∷ 0 ∷ 1 ∷ 1 ∷ []) ∷ [])
unfolding turns_by messages_of split right_turn parse names kinds code among argument call_of
inventing_replies = refl

-- ---- "a reader that reports the end too early": the last message is lost

abbrev pub early : List ℕ → List Sent
early file = drop_last (messages_of file)

abbrev pub early_turns : List Turn
early_turns = turns_by right_turn state₀ (early file₁)

-- the look at the page has no reply
pub early_replies : map (λ (t : Turn). reply t.outcome) early_turns ≡ drop_last replies₁
unfolding turns_by messages_of split right_turn parse names kinds code among argument call_of
early_replies = refl

-- the flat memory stops there too, and its answers agree: demand 3's `messages` rules it out, and in Witness3 it alone
pub early_answers : flat_answers none (messages_of file₁) (elevens 70 early_turns) ≡ run_answers 70 early_turns
unfolding turns_by messages_of split right_turn parse names kinds code among argument call_of flat_answers flat_after
    react_as react_to run_answers
early_answers = refl

pub early_messages : map sent_in early_turns ≡ messages_of file₁ → ⊥
unfolding turns_by messages_of split right_turn parse names kinds code among argument call_of
early_messages e = false≢true (ap (λ (l : List Sent). eqb (length l) 6) e)

-- one that stops at a message that is turned back by its own bytes: here L is 0, and the worked example after it is
-- lost
abbrev pub unless_refused : Outcome Call → List Sent → List Sent
unless_refused (refuse n) xs = []
unless_refused (accept c) xs = xs

abbrev pub stopping : List Sent → List Sent
stopping [] = []
stopping (x ∷ xs) = x ∷ unless_refused (asked x) (stopping xs)

pub stopping_messages : length (stopping (messages_of (0 ∷ 0 ∷ file₁))) ≡ 1
unfolding messages_of split parse
stopping_messages = refl

pub seven_messages : length (messages_of (0 ∷ 0 ∷ file₁)) ≡ 7
unfolding messages_of split
seven_messages = refl

-- ---- two of the traps, on files of their own

-- the tables as the right kernel leaves them, with other stores
abbrev pub with_stores : Outcome Result → List ℕ → ℕ → Outcome Result
with_stores (refuse n) st p = refuse n
with_stores (accept r) st p =
    accept (record {
      state = record { tables = r.state.tables; fast = take p st; slow = drop p st };
      moved = r.moved;
      laid = r.laid;
      data_out = r.data_out;
    })

-- "writing one current copy of two": only the lowest-numbered takes the bytes
abbrev pub sparing : Kernel
sparing s x =
    except (λ c. has bytes c.kind)
    (λ c. with_stores (right_turn s x) (lay_frame (joined s) (first_current (copies_in_use (page_at s.tables c.page)))
    c.offset (bytes_of x))
    (length s.fast)) s x (asked x)

-- two current copies, a write of 9, the first no longer current, a read
abbrev pub two_current : List ℕ
two_current =
    0 ∷ 4 ∷ 1 ∷ 1 ∷ 3 ∷ 5 ∷ 0 ∷ 5 ∷ 1 ∷ 6 ∷ 5 ∷ 0 ∷ 0 ∷ 0 ∷ 4 ∷ 1 ∷ 8 ∷ 5 ∷ 0 ∷ 0 ∷ 5 ∷ 1 ∷ 6 ∷ 5 ∷ 0 ∷ 1 ∷ 0 ∷ 4 ∷ 1
    ∷ 8 ∷ 5 ∷ 1
    ∷ 0 ∷ 6 ∷ 1 ∷ 5 ∷ 3 ∷ 5 ∷ 0 ∷ 9 ∷ 0 ∷ 4 ∷ 1 ∷ 9 ∷ 5 ∷ 0 ∷ 0 ∷ 6 ∷ 1 ∷ 4 ∷ 3 ∷ 5 ∷ 0 ∷ 1 ∷ []

pub sparing_flat : flat_answers none (messages_of two_current)
    (elevens 70 (turns_by sparing state₀ (messages_of two_current)))
    ≡ (record { number = 0; bytes = [] } ∷ record { number = 0; bytes = [] } ∷ record { number = 0; bytes = 9 ∷ [] }
    ∷ [])
unfolding turns_by messages_of split right_turn parse names kinds code among argument call_of flat_answers flat_after
    react_as react_to splice first_current
sparing_flat = refl

pub sparing_run : run_answers 70 (turns_by sparing state₀ (messages_of two_current))
    ≡ (record { number = 0; bytes = [] } ∷ record { number = 0; bytes = [] } ∷ record { number = 0; bytes = 0 ∷ [] }
    ∷ [])
unfolding turns_by messages_of split right_turn parse names kinds code among argument call_of run_answers splice
    first_current
sparing_run = refl

-- "taking a free frame's old bytes for zeros": a copy is made and nothing is laid
abbrev pub trusting : Kernel
trusting s x =
    except (λ c. has copy c.kind && has frame c.kind)
    (λ c. with_stores (right_turn s x) (joined s) (length s.fast)) s x (asked x)

-- the third byte that the worked example reads was never written
pub trusting_run : run_side trusting
    ≡ (record { number = 0; bytes = [] } ∷ record { number = 0; bytes = [] }
    ∷ record { number = 0; bytes = 0x41 ∷ 0x37 ∷ 0xEE ∷ [] } ∷ [])
unfolding turns_by messages_of split right_turn parse names kinds code among argument call_of run_answers
trusting_run = refl

-- ---- document 02, request [2]: wrong deletes, which leave bytes of a deleted page

unfoldable pub end_by : Kernel → State → List Sent → State
end_by k s [] = s
end_by k s (x ∷ xs) = end_by k (left s (k s x)) xs

-- a message of this kind
abbrev pub sends : ℕ → Sent → Bool
sends kind cut = false
sends kind (whole m) = eqb (get_or m 1 0) kind

-- the right kernel, but for the stores that an accepted delete page leaves
abbrev pub deleting_to : (State → Outcome Result → List ℕ) → Kernel
deleting_to stores s x = cond (sends 2 x) (with_stores (right_turn s x) (stores s (right_turn s x)) (length s.fast))
    (right_turn s x)

-- With P = 2 and S = 1, page 5 is made, copied to frame 0, set current and written, so that its bytes begin with 9; it
-- is copied to frame 2, and deleted.
abbrev pub state₄ : State
state₄ = record { tables = fresh_tables 2 1; fast = replicate 128 0xEE; slow = replicate 64 0xDD }

abbrev pub file₄ : List ℕ
file₄ =
    0 ∷ 4 ∷ 1 ∷ 1 ∷ 3 ∷ 5 ∷ 0 ∷ 5 ∷ 1 ∷ 6 ∷ 5 ∷ 0 ∷ 0 ∷ 0 ∷ 4 ∷ 1 ∷ 8 ∷ 5 ∷ 0 ∷ 0 ∷ 6 ∷ 1 ∷ 5 ∷ 3 ∷ 5 ∷ 0 ∷ 9 ∷ 0 ∷ 5
    ∷ 1 ∷ 6 ∷ 5 ∷ 0 ∷ 2
    ∷ 0 ∷ 4 ∷ 1 ∷ 2 ∷ 3 ∷ 5 ∷ []

-- the first byte of each frame at its end
abbrev pub firsts : Kernel → List ℕ
firsts k = map (λ f. get_or (block (joined (end_by k state₄ (messages_of file₄))) f) 0 1) (0 ∷ 1 ∷ 2 ∷ [])

pub right_clears : firsts right_turn ≡ (0 ∷ 0xEE ∷ 0 ∷ [])
unfolding end_by messages_of split right_turn parse names kinds code among argument call_of part
right_clears = refl

-- "The freed frame's bytes remain as they are", which document 01 said
abbrev pub remaining : Kernel
remaining = deleting_to (λ s o. joined s)

pub remaining_leaves : firsts remaining ≡ (9 ∷ 0xEE ∷ 9 ∷ [])
unfolding end_by messages_of split right_turn parse names kinds code among argument call_of part
remaining_leaves = refl

-- only slow frames are filled
abbrev pub slow_only : Kernel
slow_only = deleting_to (λ s o. s.fast ++ (left s o).slow)

pub slow_only_leaves : firsts slow_only ≡ (9 ∷ 0xEE ∷ 0 ∷ [])
unfolding end_by messages_of split right_turn parse names kinds code among argument call_of part
slow_only_leaves = refl

-- only the first frame of a deleted page is filled
abbrev pub first_only : Kernel
first_only = deleting_to (λ s o. lay_frame (joined s) (copy_at (page_at s.tables 5) 0).frame 0 zeros)

pub first_only_leaves : firsts first_only ≡ (0 ∷ 0xEE ∷ 9 ∷ [])
unfolding end_by messages_of split right_turn parse names kinds code among argument call_of part splice
first_only_leaves = refl

-- a frame that no copy ever had is filled too
abbrev pub over_filling : Kernel
over_filling = deleting_to (λ s o. lay_frame (joined (left s o)) 1 0 zeros)

pub over_filling_leaves : firsts over_filling ≡ (0 ∷ 0 ∷ 0 ∷ [])
unfolding end_by messages_of split right_turn parse names kinds code among argument call_of part splice
over_filling_leaves = refl

-- bytes that remain change no answer: those of the run are the flat memory's
pub remaining_unseen : flat_answers none (messages_of file₄)
    (elevens 70 (turns_by remaining state₄ (messages_of file₄)))
    ≡ run_answers 70 (turns_by remaining state₄ (messages_of file₄))
unfolding turns_by messages_of split right_turn parse names kinds code among argument call_of flat_answers flat_after
    react_as react_to run_answers
remaining_unseen = refl

-- ---- document 02, request [5]: wrong retires

-- Page 5 is made and copied to frame 0; frame 1 is retired, and frame 0, which is held, is to be; then the page is
-- deleted.
abbrev pub retiring : List Sent
retiring =
    whole (1 ∷ 1 ∷ 3 ∷ 5 ∷ []) ∷ whole (1 ∷ 6 ∷ 5 ∷ 0 ∷ 0 ∷ []) ∷ whole (1 ∷ 0xC ∷ 1 ∷ []) ∷ whole (1 ∷ 0xC ∷ 0 ∷ [])
    ∷ []

abbrev pub retiring_all : List Sent
retiring_all = retiring ++ (whole (1 ∷ 2 ∷ 3 ∷ 5 ∷ []) ∷ [])

-- which frames are retired at the end, and which `retired_exactly` says
abbrev pub retired_by : Kernel → List Bool
retired_by k = map (λ f. retired_at (end_by k state₄ retiring_all).tables f) (0 ∷ 1 ∷ 2 ∷ [])

abbrev pub told_by : Kernel → List Bool
told_by k = map (λ f. ever_retired (turns_by k state₄ retiring_all) f) (0 ∷ 1 ∷ 2 ∷ [])

pub right_retired : (retired_by right_turn ≡ (false ∷ true ∷ false ∷ []))
    × (told_by right_turn ≡ (false ∷ true ∷ false ∷ []))
unfolding end_by turns_by right_turn parse names kinds code among argument call_of
right_retired = (refl, refl)

pub right_numbers : three_numbers (end_by right_turn state₄ retiring).tables ≡ 3
unfolding end_by right_turn free count_below count holders uses
right_numbers = refl

-- "the mark lost when a page is deleted"
abbrev pub forgetting : Kernel
forgetting s x = cond (sends 2 x) (forget (right_turn s x)) (right_turn s x)
  where
    forget : Outcome Result → Outcome Result
    forget (refuse n) = refuse n
    forget (accept r) =
        let t = r.state.tables in
        accept (record {
          state = record {
            tables = with_pages t t.pages (map (λ (e : ℕ). cond (is_retired_entry e) free_entry e) t.register);
            fast = r.state.fast;
            slow = r.state.slow;
          };
          moved = r.moved;
          laid = r.laid;
          data_out = r.data_out;
        })

pub forgetting_retired : (retired_by forgetting ≡ (false ∷ false ∷ false ∷ []))
    × (told_by forgetting ≡ (false ∷ true ∷ false ∷ []))
unfolding end_by turns_by right_turn parse names kinds code among argument call_of
forgetting_retired = (refl, refl)

-- "a held frame retired": of three frames one is free, one held and two are retired
abbrev pub greedy : Kernel
greedy s x = cond (sends 0xC x) (mark x) (right_turn s x)
  where
    mark : Sent → Outcome Result
    mark cut = refuse 1
    mark (whole m) = accept (only_retired s (get_or m 2 0))

pub greedy_numbers : three_numbers (end_by greedy state₄ retiring).tables ≡ 4
unfolding end_by right_turn free count_below count holders uses
greedy_numbers = refl
