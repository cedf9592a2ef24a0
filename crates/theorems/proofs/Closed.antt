-- The closing file of a new page. In order: the messages of a file that the writer laid; a call that changes a record
-- without frames; the create; the grants; all of them.
use Prim.Native.Nat.{ℕ, zero, suc, ◌+◌, ◌*◌, ◌/◌, ◌%◌, ◌≤◌, ◌<◌}
use mathlib.Core.Path.{◌≡◌, refl, sym, ap, subst, ◌∙◌}
use mathlib.Core.Bool.{Bool, true, false, ◌&&◌}
use mathlib.Core.List.{List, [], ◌∷◌, ◌++◌, map, flatten}
use native.Mathlib.Nat.{not-suc-le-zero, le_of_suc-le-suc}
use native.Mathlib.Omega.{arith}
use lib.ListN.{length, get_or, set, replicate, length-append}
use lib.Seq.{take_at, drop_at, take-append_seam, drop-append_seam, get_or-set_same, set-set}
use lib.Dec.{ltb, eqb}
use borrow.Author.Tests.{eqb-true, eq-eqb, lt-ltb, le-ltb, ltb-true}
use Rattle.tables.specs.declared.Page.{Page}
use Rattle.tables.specs.declared.Tables.{Tables}
use Rattle.tables.specs.declared.Edit.{Edit}
use Rattle.tables.specs.declared.Edit.TheVariants.{Created, Granted}
use Rattle.tables.specs.Lists.{all, all_below}
use Rattle.tables.specs.Numbers.{accepted}
use Rattle.tables.specs.Model.{is_null, copies_in_use, absent, zero_page, page_at, with_pages}
use Rattle.tables.specs.Rules.{sound}
use Rattle.tables.specs.Changes.{created, granted, changed, change_to, after}
use Rattle.tables.proofs.ListLaws.{and_left, and_right, below_at}
use Rattle.tables.proofs.RuleLaws.{sound_of}
use Rattle.tables.proofs.KeepLaws.{frameless_after}
use Rattle.steps.specs.declared.Kind.TheVariants.{Create, Grant}
use Rattle.steps.specs.declared.Call.{Call}
use Rattle.steps.specs.Kinds.{names, code, among, argument, call_of, values, value}
use Rattle.steps.specs.Stores.{lay_frames}
use Rattle.steps.specs.declared.Plan.{Plan}
use Rattle.steps.specs.Steps.{Outcome, accept, mapped, plan_of, no_work, page_for, decide, perform, decide_on}
use Rattle.steps.specs.Effects.{laid_frames, State, carried_out, step, left}
use Rattle.steps.specs.Promises.{state_of}
use Rattle.steps.proofs.StepLaws.{Good, good_rules, rules_good, decide_ruled}
use Rattle.messages.specs.Messages.{parse, write_bytes}
use Rattle.messages.specs.Replies.{reply, reply_in}
use Rattle.messages.specs.Run.{Sent, whole, answer, left_by, turns_of, end_of, split, messages_of, replies, run}
use Rattle.messages.proofs.ReaderLaws.{next_message}
use Rattle.messages.proofs.TurnLaws.{rules_of, rules_kept}
use Rattle.stations.specs.Writer.{body, canonical, written, message_in}
use Rattle.stations.proofs.WriterLaws.{named_made, written_inside}
use Rattle.theorems.specs.Stations.{InRange}
use Rattle.theorems.specs.Closed.{all_stations, besides, create_call, close_call, file_for, closing_file, closed_page, closed_tables, Closed, Closing}
use Rattle.theorems.proofs.Written.{parsed, body_short}

-- ---- the messages of a file that the writer laid

module _ (c : Call) (i : InRange c []) where
  -- the first of them, whatever follows
  one_sent : (rest : List ℕ) → messages_of (message_in (written 71 c []) ++ rest) ≡ whole (body c []) ∷ messages_of rest
  one_sent rest =
      let m : List ℕ = body c [] in
      let n : ℕ = length m in
      let few : n ≤ 69 = body_short c [] i in
      let size : n / 256 % 256 * 256 + n % 256 ≡ n = omega arith in
      ap (λ (o : Outcome (List ℕ)). messages_of (message_in o ++ rest)) (written_inside 71 c [] (omega arith) i)
      ∙ next_message (n / 256 % 256) (n % 256) (m ++ rest)
      ∙ rw (size, le-ltb (length (m ++ rest)) n (rw (length-append m rest) (omega arith)), take-append_seam m rest, drop-append_seam m rest)

-- ---- a call that changes a record without frames, and does nothing else

-- the state with this record of page p
abbrev with_record : State → ℕ → Page → State
with_record s p g = state_of (with_pages s.tables (set s.tables.pages p g) s.tables.register) s.fast s.slow

abbrev frameless : Page → Bool
frameless g = all is_null (copies_in_use g)

-- an absent page has no copy
gone_frameless : (g : Page) → absent g ≡ true → frameless g ≡ true
unfolding all
gone_frameless g gone = let none : g.n ≡ 0 = eqb-true g.n 0 gone in rw none

-- a message that is accepted, lays nothing, shows nothing, and leaves state s'
record Quiet (room : ℕ) (s : State) (x : Sent) (s' : State) : Type 0 where
  reply_is : reply_in room (answer room s x) ≡ 0 ∷ 4 ∷ 1 ∷ 0 ∷ 0 ∷ 0 ∷ []
  left_is : left_by room s x ≡ s'

module _ (room : ℕ) (s : State) (c : Call) (e : Edit) (wide : 70 ≤ room) (good : Good s) (i : InRange c []) (plain : canonical c ≡ c) where
  abbrev bs : List ℕ
  bs = write_bytes (body c [])

  abbrev plan : Plan
  plan = plan_of e 255 0 0 no_work

  abbrev was : Page
  was = page_at s.tables (page_for c)

  answer_is : decide s.tables c (length bs) ≡ accept plan → answer room s (whole (body c [])) ≡ accept (carried_out s c bs plan)
  unfolding answer step
  answer_is d =
      let asks : parse (body c []) ≡ accept c = parsed c [] i ∙ ap accept plain in
      rw (le-ltb room 70 wide, asks)
      (ap (mapped (carried_out s c bs)) (decide_ruled s.tables (length s.fast) (length s.slow) c (length bs) (good_rules good) ∙ d))

  frameless_left : frameless was ≡ true → frameless (changed was e) ≡ true → (carried_out s c bs plan).state ≡ with_record s (page_for c) (changed was e)
  unfolding laid_frames lay_frames
  frameless_left from to =
      rw (frameless_after s.tables (page_for c) (changed was e) (sound_of s.tables good.tables_sound).right.register_long from to, take_at s.fast s.slow (length s.fast) refl, drop_at s.fast s.slow (length s.fast) refl)

  quiet_at : decide s.tables c (length bs) ≡ accept plan → frameless was ≡ true → frameless (changed was e) ≡ true
      → Quiet room s (whole (body c [])) (with_record s (page_for c) (changed was e))
  unfolding reply
  quiet_at d from to =
      let a = answer_is d in
      record {
        reply_is = ap (reply_in room) a ∙ rw (le-ltb room 70 wide);
        left_is = ap (left s) a ∙ frameless_left from to;
      }

-- ---- the create and a grant

module _ (room station page : ℕ) (wide : 70 ≤ room) (low : station < 16) (near : page < 64) where
  create_in : InRange (create_call station page) []
  unfolding names code among argument call_of values value
  create_in = rw (le-ltb 15 station (omega arith), le-ltb 63 page (omega arith))

  close_in : (other : ℕ) → other < 16 → InRange (close_call station page other) []
  unfolding names code among argument call_of values value
  close_in other h = rw (le-ltb 15 station (omega arith), le-ltb 63 page (omega arith), le-ltb 15 other (omega arith))

  create_decided : (t : Tables) (size : ℕ) → absent (page_at t page) ≡ true → decide t (create_call station page) size ≡ accept (plan_of (Created station) 255 0 0 no_work)
  unfolding decide_on perform names code among argument call_of
  create_decided t size gone = rw (lt-ltb page 64 near, le-ltb 15 station (omega arith), le-ltb 63 page (omega arith), gone)

  close_decided : (t : Tables) (size other : ℕ) → other < 16 → absent (page_at t page) ≡ false → (page_at t page).owner ≡ station
      → decide t (close_call station page other) size ≡ accept (plan_of (Granted other 0) 255 0 0 no_work)
  unfolding decide_on perform names code among argument call_of
  close_decided t size other h some own =
      rw (lt-ltb page 64 near, le-ltb 15 station (omega arith), le-ltb 63 page (omega arith), le-ltb 15 other (omega arith), some, eq-eqb (page_at t page).owner station own)

  module _ (s : State) where
    -- the page is created
    create_quiet : Good s → absent (page_at s.tables page) ≡ true
        → Quiet room s (whole (body (create_call station page) [])) (with_record s page (created station))
    unfolding changed created all call_of names code argument
    create_quiet good gone =
        let c : Call = create_call station page in
        let at : page_for c ≡ page = rw (lt-ltb page 64 near) in
        let from : frameless (page_at s.tables page) ≡ true = gone_frameless (page_at s.tables page) gone in
        subst (λ (p : ℕ). Quiet room s (whole (body c [])) (with_record s p (created station))) at
        (quiet_at room s c (Created station) wide good create_in (named_made Create (station ∷ page ∷ []) []) (create_decided s.tables _ gone) (rw at from) refl)

    -- a right is granted
    close_quiet : (other : ℕ) → other < 16 → Good s → absent (page_at s.tables page) ≡ false → (page_at s.tables page).owner ≡ station
        → frameless (page_at s.tables page) ≡ true
        → Quiet room s (whole (body (close_call station page other) [])) (with_record s page (granted (page_at s.tables page) other 0))
    unfolding changed call_of names code argument
    close_quiet other h good some own null =
        let c : Call = close_call station page other in
        let at : page_for c ≡ page = rw (lt-ltb page 64 near) in
        subst (λ (p : ℕ). Quiet room s (whole (body c [])) (with_record s p (granted (page_at s.tables p) other 0))) at
        (quiet_at room s c (Granted other 0) wide good (close_in other h) (named_made Grant (station ∷ page ∷ other ∷ 0 ∷ []) [])
        (close_decided s.tables _ other h some own) (rw at null) (rw at null))

-- ---- messages that are accepted one after the other

record Ends (room n : ℕ) (s : State) (xs : List Sent) (s' : State) : Type 0 where
  replies_are : replies room (turns_of room s xs) ≡ replicate n (0 ∷ 4 ∷ 1 ∷ 0 ∷ 0 ∷ 0 ∷ [])
  end_is : end_of room s xs ≡ s'

ends_none : (room : ℕ) (s : State) → Ends room 0 s [] s
unfolding turns_of end_of
ends_none room s = record { replies_are = refl; end_is = refl }

ends_more : (room n : ℕ) (s s₁ s' : State) (x : Sent) (xs : List Sent) → Quiet room s x s₁ → Ends room n s₁ xs s' → Ends room (suc n) s (x ∷ xs) s'
unfolding turns_of end_of
ends_more room n s s₁ s' x xs q e =
    record {
      replies_are = rw (q.reply_is, q.left_is) (ap (λ (l : List (List ℕ)). (0 ∷ 4 ∷ 1 ∷ 0 ∷ 0 ∷ 0 ∷ []) ∷ l) e.replies_are);
      end_is = rw q.left_is e.end_is;
    }

-- the record of a page after grants of right 0
closed_by : Page → List ℕ → Page
closed_by g [] = g
closed_by g (o ∷ os) = closed_by (granted g o 0) os

is_station : ℕ → Bool
is_station x = ltb x 16

-- from state s, of which the page gets the record g
module _ (room station page : ℕ) (wide : 70 ≤ room) (low : station < 16) (near : page < 64) (s : State) (paged : length s.tables.pages ≡ 64) where
  had : (g : Page) → page_at (with_record s page g).tables page ≡ g
  had g = get_or-set_same s.tables.pages page g zero_page (omega arith)

  closes_one : (other : ℕ) (g : Page) → other < 16 → rules_of (with_record s page g) ≡ accepted → absent g ≡ false → g.owner ≡ station → frameless g ≡ true
      → Quiet room (with_record s page g) (whole (body (close_call station page other) [])) (with_record s page (granted g other 0))
  closes_one other g h ruled some own null =
      let is = had g in
      let twice : set (set s.tables.pages page g) page (granted g other 0) ≡ set s.tables.pages page (granted g other 0) =
      set-set s.tables.pages page g (granted g other 0) in
      let x : Sent = whole (body (close_call station page other) []) in
      let q = close_quiet room station page wide low near (with_record s page g) other h (rules_good ruled) (rw is some) (rw is own) (rw is null) in
      subst (λ (gs : List Page). Quiet room (with_record s page g) x (state_of (with_pages s.tables gs s.tables.register) s.fast s.slow)) twice
      (rw is at q)

  closes_all : (os : List ℕ) (g : Page) → all is_station os ≡ true → rules_of (with_record s page g) ≡ accepted → absent g ≡ false → g.owner ≡ station
      → frameless g ≡ true
      → Ends room (length os) (with_record s page g) (messages_of (file_for (map (close_call station page) os))) (with_record s page (closed_by g os))
  unfolding flatten messages_of split all closed_by is_station
  closes_all [] g each ruled some own null = ends_none room (with_record s page g)
  closes_all (o ∷ os) g each ruled some own null =
      let h : o < 16 = ltb-true o 16 (and_left (ltb o 16) _ each) in
      let q = closes_one o g h ruled some own null in
      let still : rules_of (with_record s page (granted g o 0)) ≡ accepted =
      subst (λ (s' : State). rules_of s' ≡ accepted) q.left_is (rules_kept room (with_record s page g) _ ∙ ruled) in
      rw (one_sent (close_call station page o) (close_in room station page wide low near o h) (file_for (map (close_call station page) os)))
      (ends_more room (length os) _ _ _ _ _ q (closes_all os (granted g o 0) (and_right (ltb o 16) _ each) still some own null))

-- ---- the other stations of each station

-- one is 0 to 15, and stands there
station_at : (i : ℕ) → i < 16 → get_or all_stations i 0 ≡ i
unfolding all_below
station_at i h = eqb-true _ i (below_at 16 (λ (k : ℕ). eqb (get_or all_stations k 0) k) i refl h)

map_at : (f : ℕ → Page) (l : List ℕ) (i : ℕ) → i < length l → get_or (map f l) i zero_page ≡ f (get_or l i 0)
map_at f [] i h = absurd (not-suc-le-zero h)
map_at f (x ∷ xs) zero h = refl
map_at f (x ∷ xs) (suc i) h = map_at f xs i (le_of_suc-le-suc h)

-- what is so of the pages of all stations is so of each
each_page : (f g : ℕ → Page) → map f all_stations ≡ map g all_stations → (i : ℕ) → i < 16 → f i ≡ g i
each_page f g e i h =
    ap f (sym (station_at i h)) ∙ sym (map_at f all_stations i h) ∙ ap (λ (l : List Page). get_or l i zero_page) e ∙ map_at g all_stations i h
    ∙ ap g (station_at i h)

abbrev others : ℕ → List ℕ
others station = besides station all_stations

fifteen_others : (station : ℕ) → station < 16 → (length (others station) ≡ 15) × (all is_station (others station) ≡ true)
unfolding all_below besides all is_station
fifteen_others station h =
    let k = below_at 16 (λ (x : ℕ). eqb (length (others x)) 15 && all is_station (others x)) station refl h in
    (eqb-true _ 15 (and_left (eqb (length (others station)) 15) _ k), and_right (eqb (length (others station)) 15) _ k)

-- they leave the record that document 01's create made
closed_by_lem : (station : ℕ) → station < 16 → closed_by (created station) (others station) ≡ closed_page station
unfolding besides closed_by created
closed_by_lem = each_page (λ (x : ℕ). closed_by (created x) (others x)) closed_page refl

-- ---- the closing file

module _ (station page : ℕ) (low : station < 16) (near : page < 64) where
  -- each grant has eight bytes
  grants_long : (os : List ℕ) → all is_station os ≡ true → length (file_for (map (close_call station page) os)) ≡ 8 * length os
  unfolding flatten all is_station names values value argument code call_of
  grants_long [] each = refl
  grants_long (o ∷ os) each =
      let i = close_in 70 station page (omega arith) low near o (ltb-true o 16 (and_left (ltb o 16) _ each)) in
      let rest = grants_long os (and_right (ltb o 16) _ each) in
      rw (written_inside 71 (close_call station page o) [] (omega arith) i) (omega arith)

  file_long : length (closing_file station page) ≡ 126
  unfolding flatten names values value argument code call_of
  file_long =
      let k = fifteen_others station low in
      let rest = grants_long (others station) k.1 in
      rw (written_inside 71 (create_call station page) [] (omega arith) (create_in 70 station page (omega arith) low near)) (omega (arith, k.0))

closes_page : (room station page : ℕ) (s : State) → 70 ≤ room → station < 16 → page < 64 → Good s → absent (page_at s.tables page) ≡ true
    → Closed room station page s (run room (closing_file station page) s)
unfolding flatten created all
closes_page room station page s wide low near good gone =
    let t = s.tables in
    let ok = sound_of t good.tables_sound in
    let k = fifteen_others station low in
    let q = create_quiet room station page wide low near s good gone in
    let ruled : rules_of (with_record s page (created station)) ≡ accepted =
    subst (λ (s' : State). rules_of s' ≡ accepted) q.left_is (rules_kept room s _ ∙ good_rules good) in
    let all_closed = closes_all room station page wide low near s ok.paged.pages_long (others station) (created station) k.1 ruled refl refl refl in
    let file = one_sent (create_call station page) (create_in room station page wide low near) (file_for (map (close_call station page) (others station))) in
    let e = ends_more room _ _ _ _ _ _ q all_closed in
    record {
      answers = rw file (e.replies_are ∙ ap (λ (n : ℕ). replicate (suc n) (0 ∷ 4 ∷ 1 ∷ 0 ∷ 0 ∷ 0 ∷ [])) k.0);
      leaves = rw file (e.end_is ∙ ap (with_record s page) (closed_by_lem station low));
    }

created_before : (t : Tables) (station page : ℕ) → sound t ≡ true → absent (page_at t page) ≡ true
    → after t (change_to page (closed_page station) 255) ≡ closed_tables t station page
unfolding all
created_before t station page ok gone = frameless_after t page (closed_page station) (sound_of t ok).right.register_long (gone_frameless (page_at t page) gone) refl

pub closing : Closing
closing =
    record {
      long = file_long;
      closes = λ room station page s wide low near ok fit gone.
          closes_page room station page s wide low near (record { tables_sound = ok; stores_fit = fit }) gone;
      as_created = created_before;
    }
