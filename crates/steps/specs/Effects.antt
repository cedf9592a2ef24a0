-- Document 01, "The steps": what was decided, carried out on the two stores and the reply.
use Rattle.std.specs.Prelude.{ℕ, ◌+◌, ◌-◌, ◌*◌, Bool, true, false, not, ◌||◌, cond, List, [], ◌∷◌, ◌++◌, length, take, drop, ltb, eqb}
use Rattle.tables.specs.declared.Copy.{Copy}
use Rattle.tables.specs.declared.Page.{Page}
use Rattle.tables.specs.declared.Tables.{Tables}
use Rattle.tables.specs.declared.Edit.{Edit}
use Rattle.tables.specs.Model.{null_frame, copies_in_use, page_at}
use Rattle.tables.specs.Rules.{is_current}
use Rattle.tables.specs.Search.{shown}
use Rattle.tables.specs.Changes.{edited, after}
use Rattle.tables.specs.Keep.{leaves_record}
use Rattle.steps.specs.declared.Kind.TheVariants.{Read}
use Rattle.steps.specs.declared.Call.{Call}
use Rattle.steps.specs.declared.Place.{Place}
use Rattle.steps.specs.declared.Lay.{Lay}
use Rattle.steps.specs.declared.Lay.TheVariants.{Nothing, Zeros, ZerosEach, Duplicate, Spread}
use Rattle.steps.specs.declared.Show.{Show}
use Rattle.steps.specs.declared.Work.{Work}
use Rattle.steps.specs.declared.Work.TheVariants.{Shows, Lays}
use Rattle.steps.specs.Kinds.{call_of}
use Rattle.steps.specs.Stores.{part, block, zeros, frames_of, lay_frames}
use Rattle.steps.specs.declared.Plan.{Plan}
use Rattle.steps.specs.Steps.{Outcome, refuse, accept, mapped, is_placed, page_for, decide_any}

abbrev pub bit : Bool → ℕ
bit true = 1
bit false = 0

-- step 10: "n, then for each copy the frame (255 for null), CURRENT and MOST RECENT as 0 or 1"
unfoldable pub copies_shown : List Copy → List ℕ
copies_shown [] = []
copies_shown (c ∷ cs) = c.frame ∷ bit c.current ∷ bit c.recent ∷ copies_shown cs

-- ---- what is laid into the stores: into which frames, from which offset on, and which bytes

-- the frames that bytes are laid into, on page g. Step 5: "All CURRENT copies take the bytes"; document 02, request
-- [2]: "a frame that is freed .. is filled", of a delete page each one
unfoldable pub laid_frames : Page → Lay → List ℕ
laid_frames g Nothing = []
laid_frames g (Zeros f) = f ∷ []
laid_frames g ZerosEach = frames_of is_placed (copies_in_use g)
laid_frames g (Duplicate from to) = to ∷ []
laid_frames g (Spread offset) = frames_of is_current (copies_in_use g)

abbrev pub laid_from : Lay → ℕ
laid_from Nothing = 0
laid_from (Zeros f) = 0
laid_from ZerosEach = 0
laid_from (Duplicate from to) = 0
laid_from (Spread offset) = offset

-- the bytes, where a write has bs and the joined stores are st. Step 6: "all 64 bytes are copied", and "From a null
-- copy: 64 zeros"
abbrev pub laid_bytes : Lay → List ℕ → List ℕ → List ℕ
laid_bytes Nothing bs st = []
laid_bytes (Zeros f) bs st = zeros
laid_bytes ZerosEach bs st = zeros
laid_bytes (Duplicate from to) bs st = block st from
laid_bytes (Spread offset) bs st = bs

-- the joined stores with what l lays
abbrev pub laid_in : Page → Lay → List ℕ → List ℕ → List ℕ
laid_in g l bs st = lay_frames (laid_frames g l) (laid_from l) (laid_bytes l bs st) st

-- the frame that a delete copy fills, as a list; 255 is none
abbrev pub cleared_frames : ℕ → List ℕ
cleared_frames f = cond (eqb f null_frame) [] (f ∷ [])

-- request [2]: "filled with 64 zeros, fast or slow"
abbrev pub cleared_in : ℕ → List ℕ → List ℕ
cleared_in f st = lay_frames (cleared_frames f) 0 zeros st

-- ---- what is shown in the reply

-- `len` bytes of a frame, the copies of page g, or the holder of a frame
unfoldable pub shown_of : Page → Show → ℕ → List ℕ → List ℕ
shown_of g (Show.Frame f offset) len st = part (block st f) offset len
shown_of g Show.Page len st = g.n ∷ copies_shown (copies_in_use g)
shown_of g (Show.Holder h) len st = shown h

-- ---- a work, which does one or the other

-- the frames that a work lays bytes into: every other frame keeps its bytes (`elsewhere_kept`)
abbrev pub laid_into : Page → Work → List ℕ
laid_into g (Shows s) = []
laid_into g (Lays l f) = laid_frames g l ++ cleared_frames f

-- how many bytes a work lays in all
abbrev pub bytes_laid : Page → Work → List ℕ → List ℕ → ℕ
bytes_laid g (Shows s) bs st = 0
bytes_laid g (Lays l f) bs st =
    length (laid_frames g l) * length (laid_bytes l bs st) + length (cleared_frames f) * length zeros

-- the joined stores after a work
abbrev pub stored : Page → Work → List ℕ → List ℕ → List ℕ
stored g (Shows s) bs st = st
stored g (Lays l f) bs st = cleared_in f (laid_in g l bs st)

-- the data that a work shows, `len` bytes
abbrev pub work_data : Page → Work → ℕ → List ℕ → List ℕ
work_data g (Shows s) len st = shown_of g s len st
work_data g (Lays l f) len st = []

-- the tables and the two stores
pub record State : Type 0 where
  pub tables : Tables
  pub fast : List ℕ
  pub slow : List ℕ

abbrev pub joined : State → List ℕ
joined s = s.fast ++ s.slow

-- whether a plan moves the tables: its edit is not one that `leaves_record` knows to leave the record g, or it retires
-- a frame
abbrev pub moves : Page → Edit → ℕ → Bool
moves g e f = not (leaves_record g e) || not (eqb f null_frame)

-- what an accepted call leaves, whether it moved the tables, the bytes laid, and the data of its reply
pub record Result : Type 0 where
  pub state : State
  pub moved : Bool
  pub laid : ℕ
  pub data_out : List ℕ

-- the tables after an accepted call: no store has a part in them
abbrev pub tables_after : Tables → Call → Plan → Tables
tables_after t c plan = after t (edited t (page_for c) plan.edit plan.retires)

-- the tables after a call that comes to o
abbrev pub tables_left : Tables → Call → Outcome Plan → Tables
tables_left t c (refuse n) = t
tables_left t c (accept plan) = tables_after t c plan

abbrev pub carried_out : State → Call → List ℕ → Plan → Result
carried_out s c bs plan =
    record {
      state = record {
        tables = tables_after s.tables c plan;
        fast = take (length s.fast) (stored (page_at s.tables (page_for c)) plan.work bs (joined s));
        slow = drop (length s.fast) (stored (page_at s.tables (page_for c)) plan.work bs (joined s));
      };
      moved = moves (page_at s.tables (page_for c)) plan.edit plan.retires;
      laid = plan.laid;
      data_out = work_data (page_at s.tables (page_for c)) plan.work plan.len (joined s);
    }

-- A call, on any tables and stores; a write has the bytes bs.
unfoldable pub step : State → Call → List ℕ → Outcome Result
step s c bs = mapped (carried_out s c bs) (decide_any s.tables (length s.fast) (length s.slow) c (length bs))

-- "Tables and stores remain exactly as they were in every row."
abbrev pub left : State → Outcome Result → State
left s (refuse n) = s
left s (accept r) = r.state

-- where the tables did not move, they are those that came in (`step_unmoved`)
abbrev pub moved_by : Outcome Result → Bool
moved_by (refuse n) = false
moved_by (accept r) = r.moved

abbrev pub laid_by : Outcome Result → ℕ
laid_by (refuse n) = 0
laid_by (accept r) = r.laid

abbrev pub data_of : Outcome Result → List ℕ
data_of (refuse n) = []
data_of (accept r) = r.data_out

-- ---- a read as a part of a store

-- "read (station, page, offset, count)"
abbrev pub read_call : ℕ → ℕ → ℕ → ℕ → Call
read_call station page offset count = call_of Read (station ∷ page ∷ offset ∷ count ∷ [])

-- Where frame f has so many bytes from an offset on, with p fast frames: "Frame f is the f-th block of 64 bytes, slow
-- frames counted on from P."
abbrev pub frame_place : ℕ → ℕ → ℕ → ℕ → Place
frame_place p f offset len =
    cond (ltb f p) (record { slow = false; start = 64 * f + offset; len = len })
    (record { slow = true; start = 64 * (f - p) + offset; len = len })

abbrev pub no_place : Place
no_place = record { slow = false; start = 0; len = 0 }

-- where the bytes of a frame that is shown are
abbrev pub shown_at : ℕ → Show → ℕ → Place
shown_at p (Show.Frame f offset) len = frame_place p f offset len
shown_at p Show.Page len = no_place
shown_at p (Show.Holder h) len = no_place

abbrev pub work_at : ℕ → Work → ℕ → Place
work_at p (Shows s) len = shown_at p s len
work_at p (Lays l f) len = no_place

-- "it is empty where the read would be refused"
abbrev pub place_of : ℕ → Outcome Plan → Place
place_of p (refuse n) = no_place
place_of p (accept plan) = work_at p plan.work plan.len

-- "A read can also be had as a part of the fast store or of the slow one, the very bytes of that copy": where they are,
-- with stores of these lengths
abbrev pub read_place : Tables → ℕ → ℕ → Call → Place
read_place t fast slow c = place_of t.shared.p (decide_any t fast slow c 0)
