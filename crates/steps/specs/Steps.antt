-- Document 01, "The steps": what each is tested for, changes, lays and replies. Everything here is decided from the
-- tables, the call and the number of a write's bytes.
use Rattle.std.specs.Prelude.{ℕ, ◌+◌, ◌*◌, Bool, true, false, not, ◌&&◌, cond, List, [], ◌∷◌, Result, Ok, Err, length, get_or, leb, ltb, eqb}
use Rattle.tables.specs.declared.refusals.Refusal.{Refusal}
use Rattle.tables.specs.declared.Copy.{Copy}
use Rattle.tables.specs.declared.Page.{Page}
use Rattle.tables.specs.declared.Shared.{Shared}
use Rattle.tables.specs.declared.Tables.{Tables}
use Rattle.tables.specs.declared.Holder.{Holder}
use Rattle.tables.specs.declared.Edit.{Edit}
use Rattle.tables.specs.declared.Edit.TheVariants.{Kept, Created, Deleted, Granted, Staled, Placed, Added, Removed, Marked}
use Rattle.tables.specs.Lists.{count}
use Rattle.tables.specs.Numbers.{accepted, broken_tables, misfit_store, page_stands, no_page, no_right, nothing_current, no_copy, frame_held, eight_copies, last_recent, stale, no_frame, retired, refusal_number}
use Rattle.tables.specs.Model.{frame_count, null_frame, is_null, copies_in_use, absent, zero_copy, page_at}
use Rattle.tables.specs.Rules.{is_current, is_recent, sound}
use Rattle.tables.specs.Search.{is_free, is_retired}
use Rattle.tables.specs.Register.{registered}
use Rattle.steps.specs.declared.Kind.{Kind}
use Rattle.steps.specs.declared.Kind.TheVariants.{Create, DeletePage, Grant, Read, Write, MakeCopy, DeleteCopy, SetCurrent, RemoveCurrent, LookPage, LookFrame, Retire}
use Rattle.steps.specs.declared.Act.{Act}
use Rattle.steps.specs.declared.Call.{Call}
use Rattle.steps.specs.declared.View.{View}
use Rattle.steps.specs.declared.Plan.{Plan}
use Rattle.steps.specs.declared.Lay.{Lay}
use Rattle.steps.specs.declared.Lay.TheVariants.{Nothing, Zeros, ZerosEach, Duplicate, Spread}
use Rattle.steps.specs.declared.Show.{Show}
use Rattle.steps.specs.declared.Work.{Work}
use Rattle.steps.specs.declared.Work.TheVariants.{Shows, Lays}
use Rattle.steps.specs.Calls.{outside}
use Rattle.steps.specs.Stores.{fits}
use Rattle.steps.specs.Rights.{allows}

-- what a call or a message comes to: turned back with a number, or accepted, with a plan or a result
pub data Outcome (A : Type 0) : Type 0 where
  refuse : ℕ → Outcome A
  accept : A → Outcome A

-- what an answer of the code says
abbrev pub outcome_of : {A : Type 0} → Result A Refusal → Outcome A
outcome_of (Ok a) = accept a
outcome_of (Err refusal) = refuse (refusal_number refusal)

-- turned back with number n where the test holds
abbrev pub test : {A : Type 0} → Bool → ℕ → Outcome A → Outcome A
test true n o = refuse n
test false n o = o

-- turned back with number n, unless that is 0
abbrev pub guarded : {A : Type 0} → ℕ → Outcome A → Outcome A
guarded n o = test (not (eqb n accepted)) n o

abbrev pub mapped : {A B : Type 0} → (A → B) → Outcome A → Outcome B
mapped f (refuse n) = refuse n
mapped f (accept a) = accept (f a)

-- What an accepted call does: its edit of the page's record, the frame that it retires, 255 for none, the bytes laid,
-- the length of its data, and what it shows or lays. "Every accepted reply states the bytes laid: 64 for make copy, for
-- write its length times the number of current copies"; since request [2] of document 02, 64 also for each frame that a
-- delete frees; else 0.
abbrev pub plan_of : Edit → ℕ → ℕ → ℕ → Work → Plan
plan_of e f laid len w = record { edit = e; retires = f; laid = laid; len = len; work = w }

abbrev pub planned : Edit → ℕ → ℕ → ℕ → Work → Outcome Plan
planned e f laid len w = accept (plan_of e f laid len w)

-- nothing is shown, laid or filled
abbrev pub no_work : Work
no_work = Lays Nothing null_frame

-- only the record changes
abbrev pub editing : Edit → Outcome Plan
editing e = planned e null_frame 0 0 no_work

-- only a frame is retired
abbrev pub retiring : ℕ → Outcome Plan
retiring f = planned Kept f 0 0 no_work

-- so many bytes are shown, and nothing changes
abbrev pub showing : ℕ → Show → Outcome Plan
showing len s = planned Kept null_frame 0 len (Shows s)

-- so many bytes are laid, and the record changes
abbrev pub laying : Edit → ℕ → Lay → Outcome Plan
laying e laid l = planned e null_frame laid 0 (Lays l null_frame)

-- the record changes, and frame f, which that frees, is filled
abbrev pub clearing : Edit → ℕ → Outcome Plan
clearing e f = planned e null_frame 64 0 (Lays Nothing f)

-- ---- rights

abbrev pub right_of : Page → ℕ → ℕ
right_of g station = get_or g.rights station 0

-- "read ..: right 1 or 2", "write ..: right 2"
abbrev pub may : Page → ℕ → Act → Bool
may g station act = allows (right_of g station) act

-- "owner only"
abbrev pub owns : Page → ℕ → Bool
owns g station = eqb g.owner station

-- ---- copies

-- whether a copy has a frame
abbrev pub is_placed : Copy → Bool
is_placed c = not (is_null c)

abbrev pub copy_at : Page → ℕ → Copy
copy_at g k = get_or g.copies k zero_copy

abbrev pub currents : Page → ℕ
currents g = count is_current (copies_in_use g)

abbrev pub recents : Page → ℕ
recents g = count is_recent (copies_in_use g)

-- how many copies of a page have a frame
abbrev pub placed_count : Page → ℕ
placed_count g = count is_placed (copies_in_use g)

-- the frame of "the lowest-numbered CURRENT copy"
unfoldable pub first_current : List Copy → ℕ
first_current [] = null_frame
first_current (c ∷ cs) = cond c.current c.frame (first_current cs)

-- ---- the steps, numbers 8 to 17 and 20 in the order of the papers

-- 9, 10: "the page doesn't stand"; "right too low". 0 where the station may act on it
abbrev pub lacks_right : Page → ℕ → Act → ℕ
lacks_right g station act = cond (absent g) no_page (cond (may g station act) accepted no_right)

-- 9, 10: "the page doesn't stand"; ".. or not owner"
abbrev pub lacks_owner : Page → ℕ → ℕ
lacks_owner g station = cond (absent g) no_page (cond (owns g station) accepted no_right)

-- 9, 12: "the page doesn't stand"; "copy number is n or more"
abbrev pub lacks_copy : Page → ℕ → ℕ
lacks_copy g k = cond (absent g) no_page (cond (leb g.n k) no_copy accepted)

-- make copy, of copy c to frame f: "all 64 bytes are copied; the new copy is not CURRENT, and MOST RECENT if the source
-- is. From a null copy: 64 zeros, the new copy is recent, the null copy goes."
abbrev pub copying : Copy → ℕ → Outcome Plan
copying c f =
    cond (is_null c) (laying (Placed f) 64 (Zeros f)) (laying (Added f c.recent) 64 (Duplicate c.frame f))

-- What call c comes to on a view v of the tables, by its kind; a write has `size` bytes. The numbers are tested in the
-- order that the papers give for each kind, behind 7. Document 02, request [2], of both deletes: "a frame that is freed
-- .. is filled with 64 zeros, fast or slow", and "Each filled frame counts 64 bytes laid".
module _ (v : View) (c : Call) (size : ℕ) where
  -- the record of its page, the state of its frame, and the copy that it names
  abbrev g : Page
  g = v.page

  abbrev h : Holder
  h = v.holder

  abbrev k : Copy
  k = copy_at g c.copy

  unfoldable pub perform : Kind → Outcome Plan
  -- 8. "the page stands with one null copy; the station is owner"
  perform Create = test (not (absent g)) page_stands (editing (Created c.station))
  -- 9, 10. "owner only. All copies go and their frames are free."
  perform DeletePage = guarded (lacks_owner g c.station) (laying Deleted (64 * placed_count g) ZerosEach)
  -- 9, 10. "owner only. The owner's own right may be lowered; ownership remains."
  perform Grant = guarded (lacks_owner g c.station) (editing (Granted c.other c.right))
  -- 9, 10, 11. "right 1 or 2. The bytes come from the lowest-numbered CURRENT copy."
  perform Read =
      guarded (lacks_right g c.station Act.Read) (test (eqb (currents g) 0) nothing_current
      (showing c.count (Show.Frame (first_current (copies_in_use g)) c.offset)))
  -- 9, 10, 11. "right 2. All CURRENT copies take the bytes; all other copies lose MOST RECENT, even if the bytes were
  -- equal."
  perform Write =
      guarded (lacks_right g c.station Act.Write) (test (eqb (currents g) 0) nothing_current
      (laying Staled (size * currents g) (Spread c.offset)))
  -- 9, 12, 20, 13, 14. Request [5]: "20 .., make copy to such a frame, directly before 13"
  perform MakeCopy =
      guarded (lacks_copy g c.copy) (test (is_retired h) retired (test (not (is_free h)) frame_held
      (test (eqb g.n 8) eight_copies (copying k c.frame))))
  -- 9, 12, 15. "its frame becomes free": a null copy has none, but is alone and MOST RECENT, so 15
  perform DeleteCopy =
      guarded (lacks_copy g c.copy) (test (k.recent && eqb (recents g) 1) last_recent
      (clearing (Removed c.copy) k.frame))
  -- 9, 12, 17, 16. "Already current: accepted, no change."
  perform SetCurrent =
      guarded (lacks_copy g c.copy) (test (is_null k) no_frame (test (not k.recent) stale
      (editing (Marked c.copy true))))
  -- 9, 12. "Not current, or null: accepted, no change."
  perform RemoveCurrent = guarded (lacks_copy g c.copy) (editing (Marked c.copy false))
  -- 9. "n, then for each copy the frame .., CURRENT and MOST RECENT"
  perform LookPage = test (absent g) no_page (showing (1 + 3 * length (copies_in_use g)) Show.Page)
  -- "1, page, copy. Free: 0, 255, 255."; request [1]: "Looking at a frame then reads the register"; [5]: "A retired
  -- frame shows 2, 255, 255"
  perform LookFrame = showing 3 (Show.Holder h)
  -- 13. Request [5]: "marks a free frame ..; a frame already retired is accepted without change"
  perform Retire = cond (is_retired h) (editing Kept) (test (not (is_free h)) frame_held (retiring c.frame))

-- 7, and then the step
unfoldable pub decide_on : View → Call → ℕ → Outcome Plan
decide_on v c size = guarded (outside v.frames size c) (perform v c size c.kind)

-- ---- a call on the tables

-- The page whose record a call is decided on. A call that names no page below 64 gets page 0: its kind names none and
-- leaves that record as it is, or 7 refuses the call.
abbrev pub page_for : Call → ℕ
page_for c = cond (ltb c.page 64) c.page 0

-- what a call looks at: the number of frames, the record of its page, the holder of its frame
abbrev pub viewing : Shared → Page → Holder → View
viewing a g h = record { frames = frame_count a; page = g; holder = h }

-- what a call looks at, with the holder of its frame as `look` tells it
abbrev pub view_by : (Tables → ℕ → Holder) → Tables → Call → View
view_by look t c = viewing t.shared (page_at t (page_for c)) (look t c.frame)

-- "Looking at a frame then reads the register": that this is what the search gives is `registered_is`, and for a step
-- `step_searched_lem`
abbrev pub view_of : Tables → Call → View
view_of t c = view_by registered t c

-- what call c comes to on sound tables with fitting stores: 5 and 6 are not tested
abbrev pub decide : Tables → Call → ℕ → Outcome Plan
decide t c size = decide_on (view_of t c) c size

-- 5, "a table rule fails"; 6, "a store's length is wrong"; and else 0
abbrev pub rules_number : Tables → ℕ → ℕ → ℕ
rules_number t fast slow = cond (sound t) (cond (fits t fast slow) accepted misfit_store) broken_tables

-- what call c comes to on any tables, with stores of any lengths: 5, 6, and then `decide`
abbrev pub decide_any : Tables → ℕ → ℕ → Call → ℕ → Outcome Plan
decide_any t fast slow c size = guarded (rules_number t fast slow) (decide t c size)

-- the number of an outcome, 0 where accepted
abbrev pub number_of : {A : Type 0} → Outcome A → ℕ
number_of (refuse n) = n
number_of (accept a) = accepted
