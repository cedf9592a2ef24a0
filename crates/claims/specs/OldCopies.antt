-- A history computed beside the right kernel, and wrong kernels that let an old copy pass for the latest: each is
-- refuted by the statement that the right one fulfils. Then who is entitled to what, and a page that is brought back.
-- Computed.
use Rattle.std.specs.Prelude.{ℕ, suc, ◌≡◌, refl, Bool, true, false, ◌&&◌, List, [], ◌∷◌, ◌++◌, map, get_or, set, replicate, eqb}
use Rattle.std.proofs.Common.{ap, true≢false, arith}
use Rattle.std.proofs.lemmas.Bool.{false≢true}
use Rattle.tables.specs.declared.Copy.{Copy}
use Rattle.tables.specs.declared.Page.{Page}
use Rattle.tables.specs.declared.Edit.{Edit}
use Rattle.tables.specs.declared.Edit.TheVariants.{Added, Removed, Marked}
use Rattle.tables.specs.Lists.{all, count}
use Rattle.tables.specs.Numbers.{last_recent}
use Rattle.tables.specs.Model.{fresh_copy, fresh_page, fresh_tables, with_pages, zero_copy, page_at}
use Rattle.tables.specs.Changes.{new_copy, close_gap, changed, change_to, after}
use Rattle.steps.specs.declared.Kind.{Kind}
use Rattle.steps.specs.declared.Kind.TheVariants.{Create, Read}
use Rattle.steps.specs.declared.Call.{Call}
use Rattle.steps.specs.declared.Lay.TheVariants.{Nothing, Duplicate}
use Rattle.steps.specs.declared.Work.{Work}
use Rattle.steps.specs.declared.Work.TheVariants.{Lays}
use Rattle.steps.specs.Kinds.{names, kinds, code, among, argument, call_of}
use Rattle.steps.specs.Stores.{part, splice, lay_frames}
use Rattle.steps.specs.Steps.{Outcome, refuse, accept, test, plan_of, no_work, copy_at, currents, number_of}
use Rattle.steps.specs.Effects.{laid_frames, State, joined, Result, carried_out}
use Rattle.steps.specs.Promises.{state_of}
use Rattle.messages.specs.Messages.{parse}
use Rattle.messages.specs.Run.{Sent, whole, asked, Turn}
use Rattle.theorems.specs.Cases.{run_on, right_turn}
use Rattle.theorems.specs.Impostors.{Kernel, turns_by, end_by, except}
use Rattle.theorems.specs.Leaks.{same_bytes, of_kind, held_by, with_data, spares_equal}
use Rattle.theorems.specs.Flat.{Slot}
use Rattle.claims.specs.History.{PageWrite, PageHistory, unwritten, absent_history, followed, history_after}
use Rattle.claims.specs.Latest.{next_history, Latest, ReadLast}
use Rattle.claims.specs.Note.{first_of, seen, data_in, to_modify, to_rule, to_read}
use Rattle.claims.specs.Placement.{unstamped}

-- the history of page q after some turns, of which the first is number n
unfoldable pub history_over : ℕ → ℕ → List Turn → PageHistory → PageHistory
history_over q n [] h = h
history_over q n (t ∷ ts) h = history_over q (suc n) ts (next_history q n t h)

-- ---- the right kernel

-- P = 2 and S = 1; the stores' bytes are anything
abbrev pub unused : State
unused = state_of (fresh_tables 2 1) (replicate 128 7) (replicate 64 7)

-- station 3 creates page 5; its null copy is copied to frame 0 and set current, and that one copied to frame 1; then
-- station 3 writes a 9
abbrev pub five : List ℕ
five =
    (0 ∷ 4 ∷ 1 ∷ 1 ∷ 3 ∷ 5 ∷ []) ++ (0 ∷ 5 ∷ 1 ∷ 6 ∷ 5 ∷ 0 ∷ 0 ∷ []) ++ (0 ∷ 4 ∷ 1 ∷ 8 ∷ 5 ∷ 0 ∷ [])
    ++ (0 ∷ 5 ∷ 1 ∷ 6 ∷ 5 ∷ 0 ∷ 1 ∷ []) ++ (0 ∷ 6 ∷ 1 ∷ 5 ∷ 3 ∷ 5 ∷ 0 ∷ 9 ∷ [])

-- the bytes after that write
abbrev pub nine : List ℕ
nine = 9 ∷ replicate 63 0

-- the state that they leave: copy 0 is CURRENT and MOST RECENT, copy 1 is stale
abbrev pub written : State
written =
    state_of (after (fresh_tables 2 1) (change_to 5 (record {
      rights = set (replicate 16 1) 3 2;
      copies =
          set (set (replicate 8 fresh_copy) 0 (record { frame = 0; current = true; recent = true })) 1
          (new_copy 1 false);
      owner = 3;
      n = 2;
    }) 255)) (nine ++ replicate 64 0) (replicate 64 7)

pub five_leave : (run_on unused five).final ≡ written
unfolding run_on
five_leave = refl

-- the history: copy 0 carries the write of message 5, copy 1 none
abbrev pub fifth : PageWrite
fifth = record { message = 5; bytes = nine }

abbrev pub known : PageHistory
known =
    record {
      stands = true;
      copies =
          record { frame = 0; current = true; carries = fifth }
          ∷ record { frame = 1; current = false; carries = unwritten } ∷ [];
      last = fifth;
    }

pub five_known : history_over 5 1 (run_on unused five).turns absent_history ≡ known
unfolding run_on history_over history_after followed parse names kinds code among argument call_of splice
five_known = refl

pub right_latest : Latest known (joined written) (page_at written.tables 5)
unfolding fresh_tables after all count part
right_latest =
    record {
      standing = refl;
      copies = refl;
      current_last = refl;
      some_last = λ _. omega arith;
      bytes = (refl, (refl, tt));
    }

-- ---- wrong kernels, from there on

-- what the theorem says of page 5 after messages that come sixth and later
abbrev pub LatestBy : Kernel → List Sent → Type 0
LatestBy k xs =
    Latest (history_over 5 6 (turns_by k written xs) known) (joined (end_by k written xs))
    (page_at (end_by k written xs).tables 5)

-- messages: a copy of copy k of page 5 made on frame f; copy k set current; a byte written
abbrev pub send_copy : ℕ → ℕ → Sent
send_copy k f = whole (1 ∷ 6 ∷ 5 ∷ k ∷ f ∷ [])

abbrev pub send_current : ℕ → Sent
send_current k = whole (1 ∷ 8 ∷ 5 ∷ k ∷ [])

abbrev pub send_write : ℕ → Sent
send_write b = whole (1 ∷ 5 ∷ 3 ∷ 5 ∷ 0 ∷ b ∷ [])

-- a call carried out with another edit and work
abbrev pub doing : State → Call → Edit → ℕ → Work → Outcome Result
doing s c e laid w = accept (carried_out s c [] (plan_of e 255 laid 0 w))

abbrev pub copying_as : State → Call → Bool → Outcome Result
copying_as s c recent =
    doing s c (Added c.frame recent) 64
    (Lays (Duplicate (copy_at (page_at s.tables 5) c.copy).frame c.frame) 255)

-- the right outcome, with another state
abbrev pub with_state : (State → State) → Outcome Result → Outcome Result
with_state f (refuse n) = refuse n
with_state f (accept r) =
    accept (record { state = f r.state; moved = r.moved; laid = r.laid; data_out = r.data_out })

-- a new copy with the CURRENT mark of its source
abbrev pub current_too : State → Call → State → State
current_too s c s' =
    let g = page_at s.tables 5 in
    let g' = changed (page_at s'.tables 5) (Marked g.n (copy_at g c.copy).current) in
    state_of (with_pages s'.tables (set s'.tables.pages 5 g') s'.tables.register) s'.fast s'.slow

abbrev pub copies_current : Kernel
copies_current s x = except (of_kind 6) (λ c. with_state (current_too s c) (right_turn s x)) s x (asked x)

-- copy i of the record and copy i of the history: whether they are CURRENT, and MOST RECENT
abbrev pub current_at : ℕ → List Copy → Bool
current_at i cs = (get_or cs i zero_copy).current

abbrev pub recent_at : ℕ → List Copy → Bool
recent_at i cs = (get_or cs i zero_copy).recent

pub copies_current_lem : LatestBy copies_current (send_copy 0 2 ∷ []) → ⊥
unfolding turns_by end_by history_over history_after followed right_turn parse names kinds code among argument call_of
    changed fresh_tables after
copies_current_lem l = true≢false (ap (current_at 2) l.copies)

-- a write that spares the marks when the bytes are equal
pub spares_old : LatestBy spares_equal (send_copy 0 2 ∷ send_write 9 ∷ []) → ⊥
unfolding turns_by end_by history_over history_after followed right_turn parse names kinds code among argument call_of
    fresh_tables after same_bytes part
spares_old l = true≢false (ap (recent_at 2) l.copies)

-- one current copy of two written: the slow store is left as it was
abbrev pub writes_fast : Kernel
writes_fast s x =
    except (of_kind 5) (λ c. with_state (λ s'. state_of s'.tables s'.fast s.slow) (right_turn s x)) s x (asked x)

pub writes_fast_lem : LatestBy writes_fast (send_copy 0 2 ∷ send_current 2 ∷ send_write 8 ∷ []) → ⊥
unfolding turns_by end_by history_over history_after followed right_turn parse names kinds code among argument call_of
    fresh_tables after splice part
writes_fast_lem l = false≢true (ap (λ (b : List ℕ). eqb (get_or b 0 0) 8) l.bytes.1.1.0)

-- the last current spared for the last recent
abbrev pub spares_current : Kernel
spares_current s x =
    let g = page_at s.tables 5 in
    except (of_kind 7)
    (λ c. test ((copy_at g c.copy).current && eqb (currents g) 1) last_recent
    (doing s c (Removed c.copy) 64 (Lays Nothing (copy_at g c.copy).frame))) s x (asked x)

-- copy 0 of page 5 no more current, and deleted
abbrev pub both_gone : List Sent
both_gone = whole (1 ∷ 9 ∷ 5 ∷ 0 ∷ []) ∷ whole (1 ∷ 7 ∷ 5 ∷ 0 ∷ []) ∷ []

pub spares_current_lem : LatestBy spares_current both_gone → ⊥
unfolding turns_by end_by history_over history_after followed right_turn parse names kinds code among argument call_of
    fresh_tables after count changed close_gap laid_frames lay_frames
spares_current_lem l = let k = l.some_last refl in omega arith

-- and placement has changed the page
pub spares_changes : seen (end_by spares_current written both_gone) 5 ≡ seen written 5 → ⊥
unfolding end_by right_turn parse names kinds code among argument call_of fresh_tables after count changed close_gap
    laid_frames lay_frames first_of part splice
spares_changes e = true≢false (ap (λ (x : Slot). eqb (get_or (data_in x) 0 0) 0) e)

-- a make copy that is always MOST RECENT
abbrev pub copies_recent : Kernel
copies_recent s x = except (of_kind 6) (λ c. copying_as s c true) s x (asked x)

pub copies_recent_lem : LatestBy copies_recent (send_copy 1 2 ∷ []) → ⊥
unfolding turns_by end_by history_over history_after followed right_turn parse names kinds code among argument call_of
    changed fresh_tables after
copies_recent_lem l = true≢false (ap (recent_at 2) l.copies)

-- a make copy to a frame that a copy has
abbrev pub copies_over : Kernel
copies_over s x =
    except (of_kind 6) (λ c. copying_as s c (copy_at (page_at s.tables 5) c.copy).recent) s x (asked x)

pub copies_over_lem : LatestBy copies_over (send_copy 0 1 ∷ []) → ⊥
unfolding turns_by end_by history_over history_after followed right_turn parse names kinds code among argument call_of
    changed fresh_tables after laid_frames lay_frames splice part
copies_over_lem l = true≢false (ap (λ (b : List ℕ). eqb (get_or b 0 0) 9) l.bytes.1.0)

-- set current without the test
abbrev pub sets_any : Kernel
sets_any s x = except (of_kind 8) (λ c. doing s c (Marked c.copy true) 0 no_work) s x (asked x)

pub sets_any_lem : LatestBy sets_any (send_current 1 ∷ []) → ⊥
unfolding turns_by end_by history_over history_after followed right_turn parse names kinds code among argument call_of
    all
sets_any_lem l = false≢true l.current_last

-- a read that shows the last copy
abbrev pub shows_last : Kernel
shows_last s x =
    except (of_kind 4) (λ c. with_data (part (held_by s 1) c.offset c.count) (right_turn s x)) s x (asked x)

abbrev pub send_read : Sent
send_read = whole (1 ∷ 4 ∷ 3 ∷ 5 ∷ 0 ∷ 1 ∷ [])

pub shows_last_lem : ReadLast known
    (record { found = written; sent = send_read; outcome = shows_last written send_read })
    (call_of Read (3 ∷ 5 ∷ 0 ∷ 1 ∷ [])) → ⊥
unfolding right_turn parse names kinds code among argument call_of fresh_tables after part
shows_last_lem r = false≢true (ap (λ (b : List ℕ). eqb (get_or b 0 0) 9) r.latest)

-- ---- who is entitled: on that page station 3, the owner, has right 2, and station 4 has right 1

abbrev pub fifth_page : Page
fifth_page = page_at written.tables 5

-- the kinds in their order, each by the owner and by station 4, on page 5
abbrev pub by_kind : (Page → Call → Bool) → List (Bool × Bool)
by_kind entitled =
    map (λ (k : Kind). (entitled fifth_page (call_of k (3 ∷ 5 ∷ [])), entitled fifth_page (call_of k (4 ∷ 5 ∷ []))))
    kinds

abbrev pub no : Bool × Bool
no = (false, false)

-- a write with right 2, and the owner's delete
pub modifies : by_kind to_modify
    ≡ no ∷ (true, false) ∷ no ∷ no ∷ (true, false) ∷ no ∷ no ∷ no ∷ no ∷ no ∷ no ∷ no ∷ []
unfolding kinds names code argument call_of fresh_tables after
modifies = refl

-- the owner's delete and grant
pub rules : by_kind to_rule ≡ no ∷ (true, false) ∷ (true, false) ∷ no ∷ no ∷ no ∷ no ∷ no ∷ no ∷ no ∷ no ∷ no ∷ []
unfolding kinds names code argument call_of fresh_tables after
rules = refl

-- a read with right 1 or 2
pub reads : by_kind to_read ≡ no ∷ no ∷ no ∷ (true, true) ∷ no ∷ no ∷ no ∷ no ∷ no ∷ no ∷ no ∷ no ∷ []
unfolding kinds names code argument call_of fresh_tables after
reads = refl

-- whoever creates a page that does not stand
pub creates : (to_modify fresh_page (call_of Create (4 ∷ 5 ∷ [])) ≡ true)
    × (to_rule fresh_page (call_of Create (4 ∷ 5 ∷ [])) ≡ true)
unfolding names code argument call_of fresh_page
creates = (refl, refl)

-- the kinds that no station sends: 6 to 12
pub unstamped_kinds : map (λ (k : Kind). unstamped (accept (call_of k []))) kinds
    ≡ false ∷ false ∷ false ∷ false ∷ false ∷ true ∷ true ∷ true ∷ true ∷ true ∷ true ∷ true ∷ []
unfolding kinds names code among call_of
unstamped_kinds = refl

-- ---- a page is brought back

-- page 5 is created, with a null copy: a read is answered 11, and after a make copy and a set current 0
abbrev pub send_create : List ℕ
send_create = 0 ∷ 4 ∷ 1 ∷ 1 ∷ 3 ∷ 5 ∷ []

abbrev pub numbers_of : List ℕ → List ℕ
numbers_of file = map (λ (t : Turn). number_of t.outcome) (run_on unused file).turns

pub brought_back : numbers_of (send_create ++ (0 ∷ 6 ∷ 1 ∷ 4 ∷ 3 ∷ 5 ∷ 0 ∷ 1 ∷ []) ++ (0 ∷ 5 ∷ 1 ∷ 6 ∷ 5 ∷ 0 ∷ 2 ∷ [])
    ++ (0 ∷ 4 ∷ 1 ∷ 8 ∷ 5 ∷ 0 ∷ []) ++ (0 ∷ 6 ∷ 1 ∷ 4 ∷ 3 ∷ 5 ∷ 0 ∷ 1 ∷ [])) ≡ 0 ∷ 11 ∷ 0 ∷ 0 ∷ 0 ∷ []
unfolding run_on
brought_back = refl

-- where there is no frame at all, the page is read by nobody, and no move helps
pub no_frame : map (λ (t : Turn). number_of t.outcome)
    (run_on (state_of (fresh_tables 0 0) [] []) (send_create ++ (0 ∷ 6 ∷ 1 ∷ 4 ∷ 3 ∷ 5 ∷ 0 ∷ 1 ∷ [])
    ++ (0 ∷ 5 ∷ 1 ∷ 6 ∷ 5 ∷ 0 ∷ 0 ∷ []) ++ (0 ∷ 4 ∷ 1 ∷ 8 ∷ 5 ∷ 0 ∷ []))).turns ≡ 0 ∷ 11 ∷ 7 ∷ 17 ∷ []
unfolding run_on
no_frame = refl
