-- Document 01, "Why a message is turned back": its table, a row a name.
use Rattle.std.specs.Prelude.{ℕ, ◌≡◌, false, List, [], ◌∷◌, ◌++◌, Result, Ok, Err}
use Rattle.tables.specs.Lists.{listed}
use Rattle.tables.specs.declared.refusals.Refusal.{Refusal}
use Rattle.tables.specs.declared.refusals.Refusal.TheVariants.{CutShort, ForeignVersion, UnknownKind, WrongLength, BrokenTables, MisfitStore, OutOfRange, PageStands, NoPage, NoRight, NothingCurrent, NoCopy, FrameHeld, EightCopies, LastRecent, Stale, NoFrame, ShortBuffer, TooManyFrames, Retired}

-- the message was carried out
abbrev pub accepted : ℕ
accepted = 0

-- one byte left, or fewer than L after the length
abbrev pub cut_short : ℕ
cut_short = 1

-- L is 0, or version not 1
abbrev pub foreign_version : ℕ
foreign_version = 2

-- L is 1, or kind not 1 to 12
abbrev pub unknown_kind : ℕ
unknown_kind = 3

-- L not as listed for the kind
abbrev pub wrong_length : ℕ
wrong_length = 4

-- a table rule fails
abbrev pub broken_tables : ℕ
broken_tables = 5

-- a store's length is wrong
abbrev pub misfit_store : ℕ
misfit_store = 6

-- station, page, right, frame or offset too large; count 0; offset + count above 64
abbrev pub out_of_range : ℕ
out_of_range = 7

-- create on a standing page
abbrev pub page_stands : ℕ
page_stands = 8

-- the page doesn't stand
abbrev pub no_page : ℕ
no_page = 9

-- right too low, or not owner
abbrev pub no_right : ℕ
no_right = 10

-- read or write, no CURRENT copy
abbrev pub nothing_current : ℕ
nothing_current = 11

-- copy number is n or more
abbrev pub no_copy : ℕ
no_copy = 12

-- make copy to a held frame, or retire of one
abbrev pub frame_held : ℕ
frame_held = 13

-- make copy with n = 8
abbrev pub eight_copies : ℕ
eight_copies = 14

-- delete of the only MOST RECENT copy
abbrev pub last_recent : ℕ
last_recent = 15

-- set current, not MOST RECENT
abbrev pub stale : ℕ
stale = 16

-- set current on a null copy
abbrev pub no_frame : ℕ
no_frame = 17

-- reply buffer below 70 bytes; nothing is written
abbrev pub short_buffer : ℕ
short_buffer = 18

-- fresh with P or S above 127; returns fresh tables with P = S = 0
abbrev pub too_many_frames : ℕ
too_many_frames = 19

-- document 02, request [5], "retired": make copy to a retired frame
abbrev pub retired : ℕ
retired = 20

-- The rows that a message can be turned back with, in the papers' order: 19 is for making tables alone.
abbrev pub message_numbers : List ℕ
message_numbers =
    cut_short ∷ foreign_version ∷ unknown_kind ∷ wrong_length ∷ broken_tables ∷ misfit_store ∷ out_of_range
    ∷ page_stands ∷ no_page ∷ no_right ∷ nothing_current ∷ no_copy ∷ frame_held ∷ eight_copies ∷ last_recent ∷ stale
    ∷ no_frame ∷ short_buffer ∷ retired ∷ []

-- all rows
abbrev pub all_numbers : List ℕ
all_numbers = message_numbers ++ (too_many_frames ∷ [])

-- the number of each refusal: the row of its name
abbrev pub refusal_number : Refusal → ℕ
refusal_number CutShort = cut_short
refusal_number ForeignVersion = foreign_version
refusal_number UnknownKind = unknown_kind
refusal_number WrongLength = wrong_length
refusal_number BrokenTables = broken_tables
refusal_number MisfitStore = misfit_store
refusal_number OutOfRange = out_of_range
refusal_number PageStands = page_stands
refusal_number NoPage = no_page
refusal_number NoRight = no_right
refusal_number NothingCurrent = nothing_current
refusal_number NoCopy = no_copy
refusal_number FrameHeld = frame_held
refusal_number EightCopies = eight_copies
refusal_number LastRecent = last_recent
refusal_number Stale = stale
refusal_number NoFrame = no_frame
refusal_number ShortBuffer = short_buffer
refusal_number TooManyFrames = too_many_frames
refusal_number Retired = retired

-- the number of an answer: that of its refusal, and 0 where there is none
abbrev pub answer_number : {A : Type 0} → Result A Refusal → ℕ
answer_number (Ok x) = accepted
answer_number (Err refusal) = refusal_number refusal

-- what a number is taken for: the refusal that has it, or else itself, where it is no row's
abbrev pub RefusalOf : ℕ → Result Refusal ℕ → Type 0
RefusalOf number (Ok refusal) = refusal_number refusal ≡ number
RefusalOf number (Err other) = (other ≡ number) × (listed number all_numbers ≡ false)
