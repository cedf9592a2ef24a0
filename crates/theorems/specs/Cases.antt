-- Document 01, "Cases": the worked example and the starred cases; cases of requests [2], [5] and [6] of document 02.
-- Computed from the definitions.
use Rattle.std.specs.Prelude.{ℕ, ◌≡◌, refl, true, false, replicate, set}
use mathlib.Core.List.{List, [], ◌∷◌, ◌++◌, map, flatten}
use Rattle.tables.specs.Lists.{all, count, all_below}
use Rattle.tables.specs.Model.{retired_entry, free_entry, fresh_page, fresh_tables}
use Rattle.tables.specs.Rules.{uses, holders, standing_rule, absent_rule, page_rule, none_shared, sizes_rule, pages_rule, sound}
use Rattle.tables.specs.Search.{in_copies, in_pages}
use Rattle.tables.specs.Register.{register_rule, vacated, occupied}
use Rattle.tables.specs.Changes.{created, close_gap, changed, with_retired, after}
use Rattle.tables.specs.Keep.{leaves_record}
use Rattle.steps.specs.Stores.{part, splice, zeros, fits, frames_of, lay_frames}
use Rattle.steps.specs.Kinds.{names, kinds, code, among, least_length, most_length, argument, call_of, value, values}
use Rattle.steps.specs.Steps.{Outcome, first_current, perform, decide_on}
use Rattle.steps.specs.Effects.{copies_shown, laid_frames, shown_of, State, joined, Result, step}
use Rattle.messages.specs.Messages.{parse}
use Rattle.messages.specs.Replies.{reply}
use Rattle.messages.specs.Run.{Sent, split, messages_of, turns_of, end_of, answer, Run, run, replies}
use Rattle.stations.specs.Writer.{written}
use Rattle.theorems.specs.Closed.{besides, closing_file}
use Rattle.theorems.specs.Flat.{none, react_as, react_to, Answer}
use Rattle.theorems.specs.Demand3.{elevens, flat_after, flat_answers, run_answers}

-- ---- "So L is 4, 4, 6, 6, 6 to 69, 5, 4, 4, 4, 3, 3", and 3 for kind 12 of document 02

pub least_lengths : map least_length kinds ≡ (4 ∷ 4 ∷ 6 ∷ 6 ∷ 6 ∷ 5 ∷ 4 ∷ 4 ∷ 4 ∷ 3 ∷ 3 ∷ 3 ∷ [])
unfolding kinds names
least_lengths = refl

pub most_lengths : map most_length kinds ≡ (4 ∷ 4 ∷ 6 ∷ 6 ∷ 69 ∷ 5 ∷ 4 ∷ 4 ∷ 4 ∷ 3 ∷ 3 ∷ 3 ∷ [])
unfolding kinds names code among
most_lengths = refl

-- ---- the worked example

-- "A program with P = S = 4"; the stores' bytes are anything
abbrev pub state₀ : State
state₀ = record { tables = fresh_tables 4 4; fast = replicate 256 0xEE; slow = replicate 256 0xDD }

abbrev pub file₁ : List ℕ
file₁ =
    -- create page 5 by station 3: created
    (0x00 ∷ 0x04 ∷ 0x01 ∷ 0x01 ∷ 0x03 ∷ 0x05 ∷ [])
    -- make copy of copy 0 to frame 0: 64 laid
    ++ (0x00 ∷ 0x05 ∷ 0x01 ∷ 0x06 ∷ 0x05 ∷ 0x00 ∷ 0x00 ∷ [])
    -- set current 0: current
    ++ (0x00 ∷ 0x04 ∷ 0x01 ∷ 0x08 ∷ 0x05 ∷ 0x00 ∷ [])
    -- write 41 37 at offset 0: 2 laid
    ++ (0x00 ∷ 0x07 ∷ 0x01 ∷ 0x05 ∷ 0x03 ∷ 0x05 ∷ 0x00 ∷ 0x41 ∷ 0x37 ∷ [])
    -- read offset 0 count 3: three bytes
    ++ (0x00 ∷ 0x06 ∷ 0x01 ∷ 0x04 ∷ 0x03 ∷ 0x05 ∷ 0x00 ∷ 0x03 ∷ [])
    -- look at page 5: one copy on frame 0
    ++ (0x00 ∷ 0x03 ∷ 0x01 ∷ 0x0A ∷ 0x05 ∷ [])

-- the run with the least reply buffer; to open it is to open all that it computes by
unfoldable pub run_on : State → List ℕ → Run
unfolding messages_of split turns_of end_of answer parse names kinds code among argument call_of step decide_on
    laid_frames shown_of sound sizes_rule pages_rule none_shared all_below all count holders uses page_rule
    standing_rule absent_rule fits fresh_tables fresh_page after changed leaves_record created close_gap in_pages
    in_copies register_rule vacated occupied perform first_current copies_shown frames_of lay_frames splice part reply
run_on s file = run 70 file s

-- one turn of it
unfoldable pub right_turn : State → Sent → Outcome Result
unfolding answer parse names kinds code among argument call_of step decide_on laid_frames shown_of sound sizes_rule
    pages_rule none_shared all_below all count holders uses page_rule standing_rule absent_rule fits fresh_tables
    fresh_page after changed leaves_record created close_gap in_pages in_copies register_rule vacated occupied perform
    first_current copies_shown frames_of lay_frames splice part reply
right_turn s x = answer 70 s x

abbrev pub replies_of : State → List ℕ → List (List ℕ)
replies_of s file = replies 70 (run_on s file).turns

abbrev pub replies₁ : List (List ℕ)
replies₁ =
    (0x00 ∷ 0x04 ∷ 0x01 ∷ 0x00 ∷ 0x00 ∷ 0x00 ∷ [])
    ∷ (0x00 ∷ 0x04 ∷ 0x01 ∷ 0x00 ∷ 0x00 ∷ 0x40 ∷ [])
    ∷ (0x00 ∷ 0x04 ∷ 0x01 ∷ 0x00 ∷ 0x00 ∷ 0x00 ∷ [])
    ∷ (0x00 ∷ 0x04 ∷ 0x01 ∷ 0x00 ∷ 0x00 ∷ 0x02 ∷ [])
    ∷ (0x00 ∷ 0x07 ∷ 0x01 ∷ 0x00 ∷ 0x00 ∷ 0x00 ∷ 0x41 ∷ 0x37 ∷ 0x00 ∷ [])
    ∷ (0x00 ∷ 0x08 ∷ 0x01 ∷ 0x00 ∷ 0x00 ∷ 0x00 ∷ 0x01 ∷ 0x00 ∷ 0x01 ∷ 0x01 ∷ [])
    ∷ []

pub worked : replies_of state₀ file₁ ≡ replies₁
unfolding run_on
worked = refl

-- ---- the starred cases

-- a message, and the reply to it
pub record MessageReply : Type 0 where
  pub message : List ℕ
  pub answer : List ℕ

infix 80 ◌↝◌
abbrev pub ◌↝◌ : List ℕ → List ℕ → MessageReply
message ↝ answer = record { message = message; answer = answer }

-- a case: messages sent one after the other after those of the worked example
abbrev pub Case : Type 0
Case = List MessageReply

abbrev pub messages_in : Case → List (List ℕ)
messages_in c = map (λ (m : MessageReply). m.message) c

abbrev pub answers_in : Case → List (List ℕ)
answers_in c = map (λ (m : MessageReply). m.answer) c

-- "A refusal is 00 04 01 nn 00 00"; an accepted reply without data states the bytes laid, here below 256
abbrev pub refused_with : ℕ → List ℕ
refused_with n = 0x00 ∷ 0x04 ∷ 0x01 ∷ n ∷ 0x00 ∷ 0x00 ∷ []

abbrev pub laid_reply : ℕ → List ℕ
laid_reply n = 0x00 ∷ 0x04 ∷ 0x01 ∷ 0x00 ∷ 0x00 ∷ n ∷ []

-- the reply to a read of one byte
abbrev pub byte_reply : ℕ → List ℕ
byte_reply b = 0x00 ∷ 0x05 ∷ 0x01 ∷ 0x00 ∷ 0x00 ∷ 0x00 ∷ b ∷ []

-- "each on that end state anew, by station 3 and on page 5 where no other is named"
abbrev pub cases : List Case
cases =
    -- read offset 63 count 1 gives 00; count 2 there: 7
    ((0x00 ∷ 0x06 ∷ 0x01 ∷ 0x04 ∷ 0x03 ∷ 0x05 ∷ 0x3F ∷ 0x01 ∷ [])
    ↝ byte_reply 0x00 ∷ [])
    ∷ ((0x00 ∷ 0x06 ∷ 0x01 ∷ 0x04 ∷ 0x03 ∷ 0x05 ∷ 0x3F ∷ 0x02 ∷ []) ↝ refused_with 7 ∷ [])
    -- frame 7 copied to: accepted; frame 8: 7; frame 0: 13
    ∷ ((0x00 ∷ 0x05 ∷ 0x01 ∷ 0x06 ∷ 0x05 ∷ 0x00 ∷ 0x07 ∷ []) ↝ laid_reply 64 ∷ [])
    ∷ ((0x00 ∷ 0x05 ∷ 0x01 ∷ 0x06 ∷ 0x05 ∷ 0x00 ∷ 0x08 ∷ []) ↝ refused_with 7 ∷ [])
    ∷ ((0x00 ∷ 0x05 ∷ 0x01 ∷ 0x06 ∷ 0x05 ∷ 0x00 ∷ 0x00 ∷ []) ↝ refused_with 13 ∷ [])
    -- delete copy 0: 15; station 4 reads, which request [6] accepts; create page 5: 8
    ∷ ((0x00 ∷ 0x04 ∷ 0x01 ∷ 0x07 ∷ 0x05 ∷ 0x00 ∷ []) ↝ refused_with 15 ∷ [])
    ∷ ((0x00 ∷ 0x06 ∷ 0x01 ∷ 0x04 ∷ 0x04 ∷ 0x05 ∷ 0x00 ∷ 0x01 ∷ [])
    ↝ byte_reply 0x41 ∷ [])
    ∷ ((0x00 ∷ 0x04 ∷ 0x01 ∷ 0x01 ∷ 0x03 ∷ 0x05 ∷ []) ↝ refused_with 8 ∷ [])
    -- copy 1 made, then a write: set current 1 gives 16
    ∷ ((0x00 ∷ 0x05 ∷ 0x01 ∷ 0x06 ∷ 0x05 ∷ 0x00 ∷ 0x01 ∷ []) ↝ laid_reply 64
    ∷ (0x00 ∷ 0x06 ∷ 0x01 ∷ 0x05 ∷ 0x03 ∷ 0x05 ∷ 0x00 ∷ 0x09 ∷ []) ↝ laid_reply 1
    ∷ (0x00 ∷ 0x04 ∷ 0x01 ∷ 0x08 ∷ 0x05 ∷ 0x01 ∷ []) ↝ refused_with 16 ∷ [])
    -- remove current 0, then read: 11
    ∷ ((0x00 ∷ 0x04 ∷ 0x01 ∷ 0x09 ∷ 0x05 ∷ 0x00 ∷ []) ↝ laid_reply 0
    ∷ (0x00 ∷ 0x06 ∷ 0x01 ∷ 0x04 ∷ 0x03 ∷ 0x05 ∷ 0x00 ∷ 0x01 ∷ []) ↝ refused_with 11 ∷ [])
    -- page 6 created, set current 0: 17
    ∷ ((0x00 ∷ 0x04 ∷ 0x01 ∷ 0x01 ∷ 0x03 ∷ 0x06 ∷ []) ↝ laid_reply 0
    ∷ (0x00 ∷ 0x04 ∷ 0x01 ∷ 0x08 ∷ 0x06 ∷ 0x00 ∷ []) ↝ refused_with 17 ∷ [])
    ∷ []

-- one file of the worked example's messages and the case's, and every reply of its run
abbrev pub file_of : Case → List ℕ
file_of c = file₁ ++ flatten (messages_in c)

pub starred : map (λ (c : Case). replies_of state₀ (file_of c)) cases
    ≡ map (λ (c : Case). replies₁ ++ answers_in c) cases
unfolding run_on flatten
starred = refl

-- ---- document 02, request [2]: what deletes lay and leave

-- Copies are made on frames 4 and 1; copy 0, which is on frame 0, is deleted; copy 2, which is none any more; the page,
-- by a station that does not own it and by its owner; page 6 is created and deleted with its null copy.
abbrev pub deleting : Case
deleting =
    (0x00 ∷ 0x05 ∷ 0x01 ∷ 0x06 ∷ 0x05 ∷ 0x00 ∷ 0x04 ∷ []) ↝ laid_reply 64
    ∷ (0x00 ∷ 0x05 ∷ 0x01 ∷ 0x06 ∷ 0x05 ∷ 0x00 ∷ 0x01 ∷ []) ↝ laid_reply 64
    ∷ (0x00 ∷ 0x04 ∷ 0x01 ∷ 0x07 ∷ 0x05 ∷ 0x00 ∷ []) ↝ laid_reply 64
    ∷ (0x00 ∷ 0x04 ∷ 0x01 ∷ 0x07 ∷ 0x05 ∷ 0x02 ∷ []) ↝ refused_with 12
    ∷ (0x00 ∷ 0x04 ∷ 0x01 ∷ 0x02 ∷ 0x04 ∷ 0x05 ∷ []) ↝ refused_with 10
    ∷ (0x00 ∷ 0x04 ∷ 0x01 ∷ 0x02 ∷ 0x03 ∷ 0x05 ∷ []) ↝ laid_reply 128
    ∷ (0x00 ∷ 0x04 ∷ 0x01 ∷ 0x01 ∷ 0x03 ∷ 0x06 ∷ []) ↝ laid_reply 0
    ∷ (0x00 ∷ 0x04 ∷ 0x01 ∷ 0x02 ∷ 0x03 ∷ 0x06 ∷ []) ↝ laid_reply 0
    ∷ []

pub deleting_replies : replies_of state₀ (file_of deleting) ≡ replies₁ ++ answers_in deleting
unfolding run_on flatten
deleting_replies = refl

-- frames 0, 1 and 4 are cleared, and the others are as they were
pub deleting_stores : joined (run_on state₀ (file_of deleting)).final
    ≡ (zeros ++ (zeros ++ replicate 128 0xEE)) ++ (zeros ++ replicate 192 0xDD)
unfolding run_on flatten
deleting_stores = refl

-- copies on frames 1 to 7
abbrev pub eight_made : Case
eight_made =
    (0x00 ∷ 0x05 ∷ 0x01 ∷ 0x06 ∷ 0x05 ∷ 0x00 ∷ 0x01 ∷ []) ↝ laid_reply 64
    ∷ (0x00 ∷ 0x05 ∷ 0x01 ∷ 0x06 ∷ 0x05 ∷ 0x00 ∷ 0x02 ∷ []) ↝ laid_reply 64
    ∷ (0x00 ∷ 0x05 ∷ 0x01 ∷ 0x06 ∷ 0x05 ∷ 0x00 ∷ 0x03 ∷ []) ↝ laid_reply 64
    ∷ (0x00 ∷ 0x05 ∷ 0x01 ∷ 0x06 ∷ 0x05 ∷ 0x00 ∷ 0x04 ∷ []) ↝ laid_reply 64
    ∷ (0x00 ∷ 0x05 ∷ 0x01 ∷ 0x06 ∷ 0x05 ∷ 0x00 ∷ 0x05 ∷ []) ↝ laid_reply 64
    ∷ (0x00 ∷ 0x05 ∷ 0x01 ∷ 0x06 ∷ 0x05 ∷ 0x00 ∷ 0x06 ∷ []) ↝ laid_reply 64
    ∷ (0x00 ∷ 0x05 ∷ 0x01 ∷ 0x06 ∷ 0x05 ∷ 0x00 ∷ 0x07 ∷ []) ↝ laid_reply 64
    ∷ []

-- a page with eight copies: 512 bytes laid
abbrev pub deleting_eight : Case
deleting_eight =
    eight_made
    ++ ((0x00 ∷ 0x04 ∷ 0x01 ∷ 0x02 ∷ 0x03 ∷ 0x05 ∷ []) ↝ (0x00 ∷ 0x04 ∷ 0x01 ∷ 0x00 ∷ 0x02 ∷ 0x00 ∷ []) ∷ [])

pub eight_replies : replies_of state₀ (file_of deleting_eight) ≡ replies₁ ++ answers_in deleting_eight
unfolding run_on flatten
eight_replies = refl

-- ---- document 02, request [5]: retired frames

abbrev pub retire_case : Case
retire_case =
    -- frame 7, the last one, is retired and looked at
    (0x00 ∷ 0x03 ∷ 0x01 ∷ 0x0C ∷ 0x07 ∷ []) ↝ laid_reply 0
    ∷ (0x00 ∷ 0x03 ∷ 0x01 ∷ 0x0B ∷ 0x07 ∷ []) ↝ (0x00 ∷ 0x07 ∷ 0x01 ∷ 0x00 ∷ 0x00 ∷ 0x00 ∷ 0x02 ∷ 0xFF ∷ 0xFF ∷ [])
    -- a copy is made on frame 7: of copy 0, and of a copy that the page does not have
    ∷ (0x00 ∷ 0x05 ∷ 0x01 ∷ 0x06 ∷ 0x05 ∷ 0x00 ∷ 0x07 ∷ []) ↝ refused_with 20
    ∷ (0x00 ∷ 0x05 ∷ 0x01 ∷ 0x06 ∷ 0x05 ∷ 0x01 ∷ 0x07 ∷ []) ↝ refused_with 12
    -- frame 7 is retired again; frame 0 is held; there is no frame 8
    ∷ (0x00 ∷ 0x03 ∷ 0x01 ∷ 0x0C ∷ 0x07 ∷ []) ↝ laid_reply 0
    ∷ (0x00 ∷ 0x03 ∷ 0x01 ∷ 0x0C ∷ 0x00 ∷ []) ↝ refused_with 13
    ∷ (0x00 ∷ 0x03 ∷ 0x01 ∷ 0x0C ∷ 0x08 ∷ []) ↝ refused_with 7
    -- page 6 is created, and its null copy brought to frame 7
    ∷ (0x00 ∷ 0x04 ∷ 0x01 ∷ 0x01 ∷ 0x03 ∷ 0x06 ∷ []) ↝ laid_reply 0
    ∷ (0x00 ∷ 0x05 ∷ 0x01 ∷ 0x06 ∷ 0x06 ∷ 0x00 ∷ 0x07 ∷ []) ↝ refused_with 20
    -- page 5 is deleted, and frames 7 and 0 are looked at
    ∷ (0x00 ∷ 0x04 ∷ 0x01 ∷ 0x02 ∷ 0x03 ∷ 0x05 ∷ []) ↝ laid_reply 64
    ∷ (0x00 ∷ 0x03 ∷ 0x01 ∷ 0x0B ∷ 0x07 ∷ []) ↝ (0x00 ∷ 0x07 ∷ 0x01 ∷ 0x00 ∷ 0x00 ∷ 0x00 ∷ 0x02 ∷ 0xFF ∷ 0xFF ∷ [])
    ∷ (0x00 ∷ 0x03 ∷ 0x01 ∷ 0x0B ∷ 0x00 ∷ []) ↝ (0x00 ∷ 0x07 ∷ 0x01 ∷ 0x00 ∷ 0x00 ∷ 0x00 ∷ 0x00 ∷ 0xFF ∷ 0xFF ∷ [])
    -- a retire that is too long, and kind 13
    ∷ (0x00 ∷ 0x04 ∷ 0x01 ∷ 0x0C ∷ 0x01 ∷ 0x01 ∷ []) ↝ refused_with 4
    ∷ (0x00 ∷ 0x03 ∷ 0x01 ∷ 0x0D ∷ 0x01 ∷ []) ↝ refused_with 3
    ∷ []

pub retiring_replies : replies_of state₀ (file_of retire_case) ≡ replies₁ ++ answers_in retire_case
unfolding run_on flatten
retiring_replies = refl

-- frame 7 is retired, every other one free, and of the stores only frame 0 is other than at the start: the delete
-- cleared it
pub retiring_leaves :
    ((run_on state₀ (file_of retire_case)).final.tables.register ≡ set (replicate 254 free_entry) 7 retired_entry)
    × (joined (run_on state₀ (file_of retire_case)).final ≡ (zeros ++ replicate 192 0xEE) ++ replicate 256 0xDD)
unfolding run_on flatten
retiring_leaves = (refl, refl)

-- a page with eight copies, of nine frames: 20 before 14 on a retired frame, and 14 on a free one
abbrev pub state_nine : State
state_nine = record { tables = fresh_tables 5 4; fast = replicate 320 0xEE; slow = replicate 256 0xDD }

abbrev pub retiring_ninth : Case
retiring_ninth =
    eight_made
    ++ ((0x00 ∷ 0x05 ∷ 0x01 ∷ 0x06 ∷ 0x05 ∷ 0x00 ∷ 0x08 ∷ []) ↝ refused_with 14
    ∷ (0x00 ∷ 0x03 ∷ 0x01 ∷ 0x0C ∷ 0x08 ∷ []) ↝ laid_reply 0
    ∷ (0x00 ∷ 0x05 ∷ 0x01 ∷ 0x06 ∷ 0x05 ∷ 0x00 ∷ 0x08 ∷ []) ↝ refused_with 20
    ∷ [])

pub ninth_replies : replies_of state_nine (file_of retiring_ninth) ≡ replies₁ ++ answers_in retiring_ninth
unfolding run_on flatten
ninth_replies = refl

-- of the tables that the worked example leaves: the last frame retired, one past it, and the frame of the copy
pub retired_tested :
    map (λ (f : ℕ). sound (with_retired (run_on state₀ file₁).final.tables f)) (7 ∷ 8 ∷ 253 ∷ 0 ∷ [])
    ≡ (true ∷ false ∷ false ∷ false ∷ [])
unfolding run_on sound sizes_rule pages_rule none_shared all_below all count holders uses page_rule standing_rule
    absent_rule register_rule in_pages in_copies
retired_tested = refl

-- ---- document 02, request [6]: new pages open for reading

-- page 6 with a CURRENT copy on frame 1
abbrev pub placing : Case
placing =
    (0x00 ∷ 0x05 ∷ 0x01 ∷ 0x06 ∷ 0x06 ∷ 0x00 ∷ 0x01 ∷ []) ↝ laid_reply 64
    ∷ (0x00 ∷ 0x04 ∷ 0x01 ∷ 0x08 ∷ 0x06 ∷ 0x00 ∷ []) ↝ laid_reply 0
    ∷ []

-- station x reads the first byte of page 6, and writes it
abbrev pub read_by : ℕ → List ℕ
read_by x = 0x00 ∷ 0x06 ∷ 0x01 ∷ 0x04 ∷ x ∷ 0x06 ∷ 0x00 ∷ 0x01 ∷ []

abbrev pub write_by : ℕ → List ℕ
write_by x = 0x00 ∷ 0x06 ∷ 0x01 ∷ 0x05 ∷ x ∷ 0x06 ∷ 0x00 ∷ 0x7F ∷ []

-- page 6 is created by station 3: every station may read it, and only station 3 may write and grant, as to station 4
abbrev pub opening : Case
opening =
    (0x00 ∷ 0x04 ∷ 0x01 ∷ 0x01 ∷ 0x03 ∷ 0x06 ∷ []) ↝ laid_reply 0
    ∷ placing
    ++ (read_by 0 ↝ byte_reply 0x00
    ∷ read_by 15 ↝ byte_reply 0x00
    ∷ write_by 2 ↝ refused_with 10
    ∷ write_by 4 ↝ refused_with 10
    ∷ write_by 3 ↝ laid_reply 1
    ∷ read_by 4 ↝ byte_reply 0x7F
    ∷ (0x00 ∷ 0x06 ∷ 0x01 ∷ 0x03 ∷ 0x04 ∷ 0x06 ∷ 0x04 ∷ 0x02 ∷ []) ↝ refused_with 10
    ∷ (0x00 ∷ 0x06 ∷ 0x01 ∷ 0x03 ∷ 0x03 ∷ 0x06 ∷ 0x04 ∷ 0x02 ∷ []) ↝ laid_reply 0
    ∷ write_by 4 ↝ laid_reply 1
    ∷ [])

pub opening_replies : replies_of state₀ (file_of opening) ≡ replies₁ ++ answers_in opening
unfolding run_on flatten
opening_replies = refl

-- station 3 grants right 0 of page 6 to station x
abbrev pub close_to : ℕ → MessageReply
close_to x = (0x00 ∷ 0x06 ∷ 0x01 ∷ 0x03 ∷ 0x03 ∷ 0x06 ∷ x ∷ 0x00 ∷ []) ↝ laid_reply 0

-- page 6 is created by station 3, and closed
abbrev pub sixteen : Case
sixteen =
    (0x00 ∷ 0x04 ∷ 0x01 ∷ 0x01 ∷ 0x03 ∷ 0x06 ∷ []) ↝ laid_reply 0
    ∷ close_to 0 ∷ close_to 1 ∷ close_to 2 ∷ close_to 4 ∷ close_to 5 ∷ close_to 6 ∷ close_to 7 ∷ close_to 8 ∷ close_to 9
    ∷ close_to 10 ∷ close_to 11 ∷ close_to 12 ∷ close_to 13 ∷ close_to 14 ∷ close_to 15 ∷ []

pub closing_bytes : closing_file 3 6 ≡ flatten (messages_in sixteen)
unfolding flatten besides written names code among argument call_of values value
closing_bytes = refl

-- what was written then, only station 3 may read; a create that is refused does not open the page again
abbrev pub closed_case : Case
closed_case =
    sixteen ++ (placing
    ++ (write_by 3 ↝ laid_reply 1
    ∷ read_by 0 ↝ refused_with 10
    ∷ read_by 15 ↝ refused_with 10
    ∷ (0x00 ∷ 0x04 ∷ 0x01 ∷ 0x01 ∷ 0x04 ∷ 0x06 ∷ []) ↝ refused_with 8
    ∷ (0x00 ∷ 0x04 ∷ 0x01 ∷ 0x01 ∷ 0x03 ∷ 0x06 ∷ []) ↝ refused_with 8
    ∷ read_by 4 ↝ refused_with 10
    ∷ read_by 3 ↝ byte_reply 0x7F
    ∷ []))

pub closed_replies : replies_of state₀ (file_of closed_case) ≡ replies₁ ++ answers_in closed_case
unfolding run_on flatten
closed_replies = refl

-- ---- the flat memory beside the worked example, a read answered 11 after it and a delete by another station

abbrev pub file₂ : List ℕ
file₂ =
    file₁
    -- remove current 0
    ++ (0x00 ∷ 0x04 ∷ 0x01 ∷ 0x09 ∷ 0x05 ∷ 0x00 ∷ [])
    -- read offset 0 count 1
    ++ (0x00 ∷ 0x06 ∷ 0x01 ∷ 0x04 ∷ 0x03 ∷ 0x05 ∷ 0x00 ∷ 0x01 ∷ [])
    -- delete page 5 by station 4
    ++ (0x00 ∷ 0x04 ∷ 0x01 ∷ 0x02 ∷ 0x04 ∷ 0x05 ∷ [])

abbrev pub expected : List Answer
expected =
    record { number = 0; bytes = [] }
    ∷ record { number = 0; bytes = [] }
    ∷ record { number = 0; bytes = 0x41 ∷ 0x37 ∷ 0x00 ∷ [] }
    ∷ record { number = 10; bytes = [] }
    ∷ []

pub flat_side : flat_answers none (messages_of file₂) (elevens 70 (run_on state₀ file₂).turns) ≡ expected
unfolding flat_answers flat_after react_as react_to run_on messages_of split parse names kinds code among argument
    call_of
flat_side = refl

pub run_side : run_answers 70 (run_on state₀ file₂).turns ≡ expected
unfolding run_answers run_on names code among
run_side = refl
