-- What the functions that this layer exports promise.
use Rattle.std.specs.Prelude.{ℕ, ◌+◌, ◌-◌, ◌/◌, ◌%◌, ◌≡◌, Bool, true, not, ◌&&◌, ◌||◌, cond, Option, Some, None, List, [], ◌∷◌, ◌++◌, length, take, drop, leb, ltb, eqb}
use Rattle.tables.specs.declared.Copy.{Copy}
use Rattle.tables.specs.declared.Page.{Page}
use Rattle.tables.specs.declared.Tables.{Tables}
use Rattle.tables.specs.declared.Edit.{Edit}
use Rattle.tables.specs.declared.Change.{Change}
use Rattle.tables.specs.Lists.{all}
use Rattle.tables.specs.Model.{null_frame, copies_in_use, page_at}
use Rattle.tables.specs.Numbers.{unknown_kind, broken_tables, answer_number}
use Rattle.tables.specs.Rules.{is_current, frames_held, sound, frame_total}
use Rattle.tables.specs.Changes.{changed, change_to, after}
use Rattle.steps.specs.declared.Kind.{Kind}
use Rattle.steps.specs.declared.Call.{Call}
use Rattle.steps.specs.declared.Form.{Form}
use Rattle.steps.specs.declared.Lay.{Lay}
use Rattle.steps.specs.declared.Lay.TheVariants.{Nothing, Zeros, ZerosEach, Duplicate, Spread}
use Rattle.steps.specs.declared.Show.{Show}
use Rattle.steps.specs.declared.Work.{Work}
use Rattle.steps.specs.declared.Work.TheVariants.{Shows, Lays}
use Rattle.steps.specs.declared.Plan.{Plan}
use Rattle.steps.specs.declared.Decision.{Decision}
use Rattle.steps.specs.declared.Done.{Done}
use Rattle.steps.specs.declared.Place.{Place}
use Rattle.steps.specs.Kinds.{is_unknown, kind_of, tells, least_length, most_length, call_of}
use Rattle.steps.specs.Stores.{part, over}
use Rattle.steps.specs.Steps.{Outcome, refuse, accept, test, mapped, is_placed, page_for, number_of}
use Rattle.steps.specs.Effects.{stored, work_data, moves, State, Result, left, laid_by, data_of}

-- the state of tables and two lent stores
abbrev pub state_of : Tables → List ℕ → List ℕ → State
state_of t fast slow = record { tables = t; fast = fast; slow = slow }

-- ---- kinds

-- the kind with a number; 3 for a number that is no kind's
abbrev pub kind_known : ℕ → Outcome Kind
kind_known number = test (is_unknown number) unknown_kind (accept (kind_of number))

-- the form of the messages and replies of a kind, and the call of a message with these arguments
abbrev pub kind_form : Kind → List ℕ → Form
kind_form k arguments =
    record {
      least = least_length k;
      most = most_length k;
      tells = tells k;
      call = call_of k arguments;
    }

-- the form of the kind with a number, where the arguments are a, b, c, d
abbrev pub form_of : ℕ → ℕ → ℕ → ℕ → ℕ → Form
form_of number a b c d = kind_form (kind_of number) (a ∷ b ∷ c ∷ d ∷ [])

-- ---- what a call comes to

abbrev pub laid_of : Outcome Plan → ℕ
laid_of (refuse n) = 0
laid_of (accept plan) = plan.laid

-- The change by which a plan moves the tables: edit e is made to page p, whose record is g, and frame f is retired, 255
-- for none. There is none where the edit is seen at a glance to leave the record, and no frame is retired.
abbrev pub change_for : ℕ → Page → Edit → ℕ → Option Change
change_for p g e f = cond (moves g e f) (Some (change_to p (changed g e) f)) None

-- the decision of a plan on page p, whose record is g
abbrev pub decision_on : ℕ → Page → Plan → Decision
decision_on p g plan =
    record {
      laid = plan.laid;
      len = plan.len;
      work = plan.work;
      change = change_for p g plan.edit plan.retires;
      before = g;
    }

-- what a call c on tables t that comes to o is decided to be
abbrev pub decision_of : Tables → Call → Outcome Plan → Outcome Decision
decision_of t c o = mapped (decision_on (page_for c) (page_at t (page_for c))) o

-- the tables with a change, where there is one
abbrev pub moved_to : Tables → Option Change → Tables
moved_to t None = t
moved_to t (Some change) = after t change

-- the tables after a decision
abbrev pub settled : Tables → Decision → Tables
settled t d = moved_to t d.change

-- what a forecast begins with: 5 for broken tables; else how many frames are held
abbrev pub held_in : Tables → Outcome ℕ
held_in t = test (not (sound t)) broken_tables (accept (frames_held t))

-- the record of a page after a change of it, where there is one
abbrev pub record_after : Page → Option Change → Page
record_after g None = g
record_after g (Some change) = change.becomes

-- How many frames are held after a decision, where so many were before: the frames of the page's copies before the
-- decision go, and those of its copies after the decision come. On sound tables that have so many frames held that is
-- `frames_held` of the tables after the decision (`held_settled`).
abbrev pub held_after : ℕ → Decision → ℕ
held_after held d = held - frame_total d.before + frame_total (record_after d.before d.change)

-- ---- what was decided, carried out

-- two stores and a buffer for the data of the reply, as they are lent or left
pub record Lent : Type 0 where
  pub fast : List ℕ
  pub slow : List ℕ
  pub out : List ℕ

abbrev pub lent : List ℕ → List ℕ → List ℕ → Lent
lent fast slow out = record { fast = fast; slow = slow; out = out }

-- whether the frame of a copy is one of so many, if `those` holds of the copy
abbrev pub frame_within : (Copy → Bool) → ℕ → Copy → Bool
frame_within those frames c = not (those c && leb frames c.frame)

-- whether what is laid on page g lies within stores of so many frames; a write has `size` bytes
abbrev pub lay_within : Page → ℕ → ℕ → Lay → Bool
lay_within g frames size Nothing = true
lay_within g frames size (Zeros f) = ltb f frames
lay_within g frames size ZerosEach = all (frame_within is_placed frames) (copies_in_use g)
lay_within g frames size (Duplicate from to) = ltb from frames && ltb to frames
lay_within g frames size (Spread offset) = leb (offset + size) 64
    && all (frame_within is_current frames) (copies_in_use g)

-- whether `len` bytes that are shown lie within stores of so many frames, and within a frame
abbrev pub show_within : ℕ → ℕ → Show → Bool
show_within len frames (Show.Frame f offset) = ltb f frames && leb (offset + len) 64
show_within len frames Show.Page = true
show_within len frames (Show.Holder h) = true

-- whether the frame that is filled is one of so many, or none
abbrev pub clear_within : ℕ → ℕ → Bool
clear_within frames f = eqb f null_frame || ltb f frames

-- whether what a work lays or shows lies within stores of so many frames
abbrev pub work_within : Page → ℕ → ℕ → ℕ → Work → Bool
work_within g len frames size (Shows s) = show_within len frames s
work_within g len frames size (Lays l f) = lay_within g frames size l && clear_within frames f

-- whether the fast store is a whole number of frames, so that frame P begins the slow store
abbrev pub whole_frames : List ℕ → Bool
whole_frames fast = eqb (length fast % 64) 0

-- whether a decision lies within what is lent; one that was made on sound tables, with stores that fit them, does
-- (`decided_within`)
abbrev pub within : Decision → ℕ → Lent → Bool
within d size l =
    leb 64 (length l.out) && (whole_frames l.fast
    && work_within d.before d.len (length l.fast / 64 + length l.slow / 64) size d.work)

-- what a decision leaves: each store by itself, and the data at the front of the buffer. One that does not lie within
-- leaves all as lent.
unfoldable pub carried : Decision → List ℕ → Lent → Lent
carried d bs l =
    cond (within d (length bs) l)
    (record {
      fast = take (length l.fast) (stored d.before d.work bs (l.fast ++ l.slow));
      slow = drop (length l.fast) (stored d.before d.work bs (l.fast ++ l.slow));
      out = over (work_data d.before d.work d.len (l.fast ++ l.slow)) l.out;
    })
    l

-- ---- a call on tables and stores

-- what `step` leaves of a call on state s that comes to o: the state s', and the data at the front of the buffer
pub record Stepped (s : State) (o : Outcome Result) (out : List ℕ) (s' : State) (out' : List ℕ)
    (r : Done) : Type 0 where
  pub number_told : answer_number r.answer ≡ number_of o
  pub laid_told : r.laid ≡ laid_by o
  pub len_told : r.len ≡ length (data_of o)
  pub state_out : s' ≡ left s o
  pub data_out : out' ≡ over (data_of o) out

-- ---- a read as a part of a store

-- the bytes at a place in one of two stores
abbrev pub bytes_at : Place → List ℕ → List ℕ → List ℕ
bytes_at place fast slow = part (cond place.slow slow fast) place.start place.len

-- where a reference to them points, if those to the stores point at `fast` and `slow`: a block of memory and an offset
-- in it
abbrev pub pointer_at : Place → ℕ × ℕ → ℕ × ℕ → ℕ × ℕ
pointer_at place fast slow = cond place.slow (slow.0, place.start + slow.1) (fast.0, place.start + fast.1)

-- what `read` gives of a call that comes to o and has its bytes at a place: `bytes`, at `pointer`
pub record ReadPart (o : Outcome Result) (place : Place) (fast slow pointer : ℕ × ℕ) (bytes : List ℕ) : Type 0 where
  pub bytes_told : bytes ≡ data_of o
  pub len_told : length bytes ≡ place.len
  pub pointer_told : pointer ≡ pointer_at place fast slow
