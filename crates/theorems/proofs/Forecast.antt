-- What is forecast is what the run gives. In order: one message; numbers that stop, and counts; the figures after
-- messages, from any figures on; the tally; numbers that are never given; files that differ in what writes carry;
-- fresh tables.
use Prim.Native.Nat.{ℕ, zero, suc, ◌+◌, ◌≤◌, ◌<◌, max, min}
use mathlib.Core.Path.{◌≡◌, refl, sym, ap, ◌∙◌, subst}
use mathlib.Core.Bool.{Bool, true, false, not, cond, true≢false}
use mathlib.Core.List.{List, [], ◌∷◌, map}
use native.Mathlib.Decide.{ℕ_discrete}
use native.Mathlib.Nat.{not-suc-le-zero, le_of_suc-le-suc}
use native.Mathlib.Omega.{arith}
use lib.ListN.{length, get_or, drop, replicate, length-set, length-replicate}
use lib.Seq.{get_or-set_same, get_or-set_other}
use lib.Dec.{ltb, eqb}
use borrow.Author.Tests.{le-ltb, eq-eqb, ne_eqb}
use Rattle.tables.specs.declared.Tables.{Tables}
use Rattle.tables.specs.Lists.{all, count, sum, maximum, listed}
use Rattle.tables.specs.Numbers.{accepted, broken_tables, misfit_store, short_buffer, too_many_frames, all_numbers}
use Rattle.tables.specs.Model.{made}
use Rattle.tables.specs.Rules.{frames_held, sound}
use Rattle.tables.proofs.ListLaws.{all_listed}
use Rattle.tables.proofs.HeldLaws.{sum_set, sum_at}
use Rattle.steps.specs.declared.Call.{Call}
use Rattle.steps.specs.Stores.{fits}
use Rattle.steps.specs.declared.Plan.{Plan}
use Rattle.steps.specs.Steps.{Outcome, refuse, accept, mapped, decide, number_of}
use Rattle.steps.specs.Effects.{State, tables_left, Result, carried_out, step, left, laid_by}
use Rattle.steps.specs.Promises.{laid_of}
use Rattle.steps.proofs.DecideLaws.{IfDecided, if_refused, call_numbers, decide_ok}
use Rattle.steps.proofs.StepLaws.{Good, step_good, good_rules, decide_ruled}
use Rattle.messages.specs.declared.Tally.{Tally}
use Rattle.messages.specs.Replies.{reply, reply_in, stopped, up_to, counted, zero_tally, is_refusal}
use Rattle.messages.specs.Run.{Sent, asked, bytes_of, respond, answer, Turn, turn_of, left_by, turns_of, messages_of, run, tally}
use Rattle.messages.specs.Forecast.{Forecast, Foreseen, foreseen_by, foreseen, numbers_counted, counted_under, at_start, with_message, forecast_of, no_forecast, forecast}
use Rattle.messages.proofs.ParseLaws.{own_numbers, Known, bad, good, asked_known}
use Rattle.messages.proofs.TurnLaws.{answer_told}
use Rattle.messages.proofs.ForecastLaws.{came, stops, none_more, foreseen_sound}
use Rattle.theorems.specs.Demand3.{reply_number}
use Rattle.theorems.specs.Hidden.{message_covered, SameBut}
use Rattle.theorems.specs.Forecast.{laid_in_all, how_many_get, tally_forecast, FiguresOf, Foretold}
use Rattle.theorems.proofs.Frames.{by_message}
use Rattle.theorems.proofs.Refusals.{number_low}
use Rattle.theorems.proofs.HiddenLaws.{same_asked, same_carried, made_sound}

-- ---- one message, on sound tables with fitting stores

abbrev had : State → Outcome Result → Foreseen
had s o = came (number_of o) (laid_by o) (left s o).tables

left_good : (room : ℕ) (s : State) → Good s → (x : Sent) → Good (left_by room s x)
left_good room s i x = by_message s Good i (λ c bs. step_good s c bs i) room x

module _ (room : ℕ) (roomy : 70 ≤ room) where
  message_had : (s : State) → Good s → (x : Sent) → had s (answer room s x) ≡ foreseen s.tables x
  unfolding answer step
  message_had s i x = rw (le-ltb room 70 roomy) (parsed (asked x) (bytes_of x))
    where
      decided : (c : Call) (bs : List ℕ) (o : Outcome Plan)
          → had s (mapped (carried_out s c bs) o) ≡ came (number_of o) (laid_of o) (tables_left s.tables c o)
      decided c bs (refuse n) = refl
      decided c bs (accept plan) = refl

      parsed : (a : Outcome Call) (bs : List ℕ) → had s (respond s a bs) ≡ foreseen_by s.tables a (length bs)
      parsed (refuse n) bs = refl
      parsed (accept c) bs =
          ap (λ (o : Outcome Plan). had s (mapped (carried_out s c bs) o))
          (decide_ruled s.tables _ _ c (length bs) (good_rules i))
          ∙ decided c bs (decide s.tables c (length bs))

  -- its reply carries its number
  carried : (o : Outcome Result) (n : ℕ) → eqb (reply_number (reply_in room o)) n ≡ eqb (number_of o) n
  unfolding reply
  carried o n = rw (le-ltb room 70 roomy) (by o)
    where
      by : (o : Outcome Result) → eqb (get_or (reply o) 3 0) n ≡ eqb (number_of o) n
      by (refuse m) = refl
      by (accept r) = refl

-- ---- numbers that stop

more_then : (x y z : ℕ) → up_to (up_to x y) z ≡ up_to x (y + z)
unfolding up_to
more_then x y z = omega arith

from_zero : (n : ℕ) → up_to 0 n ≡ stopped n
unfolding up_to
from_zero n = omega arith

-- figures within their limits
record Within (f : Forecast) : Type 0 where
  laid_low : f.laid ≤ 4294967295
  count_low : (n : ℕ) → get_or f.counts n 0 ≤ 4294967295
  long : length f.counts ≡ numbers_counted

-- one message more under number k: what is counted under n
counted_at : (c : List ℕ) (k n : ℕ) → k < length c
    → get_or (counted_under c k) n 0 ≡ cond (eqb k n) (up_to (get_or c n 0) 1) (get_or c n 0)
counted_at c k n h = by (ℕ_discrete k n)
  where
    by : Dec (k ≡ n) → get_or (counted_under c k) n 0 ≡ cond (eqb k n) (up_to (get_or c n 0) 1) (get_or c n 0)
    by (yes e) = rw (eq-eqb k n e, ← e) (get_or-set_same c k (up_to (get_or c k 0) 1) 0 h)
    by (no d) = rw (ne_eqb k n d) (get_or-set_other c k n (up_to (get_or c k 0) 1) 0 (λ e. d (sym e)))

with_within : (f : Forecast) (m : Foreseen) → Within f → m.number < numbers_counted → Within (with_message f m)
with_within f m w low =
    record {
      laid_low = stops f.laid m.laid;
      count_low = λ n. rw (counted_at f.counts m.number n (rw w.long low)) (by n (eqb m.number n));
      long = length-set f.counts m.number _ ∙ w.long;
    }
  where
    by : (n : ℕ) (b : Bool) → cond b (up_to (get_or f.counts n 0) 1) (get_or f.counts n 0) ≤ 4294967295
    by n true = stops (get_or f.counts n 0) 1
    by n false = w.count_low n

zero_at : (k n : ℕ) → ◌≡◌ {A = ℕ} (get_or (replicate k 0) n 0) 0
zero_at zero n = refl
zero_at (suc k) zero = refl
zero_at (suc k) (suc n) = zero_at k n

start_within : (t : Tables) → Within (at_start t)
start_within t =
    record {
      laid_low = omega arith;
      count_low = λ n. rw (zero_at numbers_counted n) (omega arith);
      long = length-replicate {A = ℕ} numbers_counted 0;
    }

-- ---- the figures after messages

-- what turns ts add to the figures f, which makes them g
record Adds (room : ℕ) (f : Forecast) (ts : List Turn) (g : Forecast) : Type 0 where
  number : g.number ≡ f.number
  most : g.most
      ≡ max f.most
      (maximum (map (λ (r : State). frames_held r.tables) (map (λ (t : Turn). left t.found t.outcome) ts)))
  laid : g.laid ≡ up_to f.laid (laid_in_all ts)
  counts : (n : ℕ) → n < numbers_counted → get_or g.counts n 0 ≡ up_to (get_or f.counts n 0) (how_many_get room ts n)
  long : length g.counts ≡ numbers_counted

module _ (room : ℕ) (roomy : 70 ≤ room) where
  -- one message before others
  adds_more : (s : State) (x : Sent) (f : Forecast) → Within f → (ts : List Turn) (g : Forecast)
      → Adds room (with_message f (had s (answer room s x))) ts g
      → Adds room f (turn_of room s x ∷ ts) g
  unfolding count
  adds_more s x f w ts g a =
      record {
        number = a.number;
        most = a.most ∙ max_then f.most _ _;
        laid = a.laid ∙ more_then f.laid _ _;
        counts = λ n h. a.counts n h
            ∙ ap (λ (k : ℕ). up_to k (how_many_get room ts n))
            (counted_at f.counts k n (rw w.long (number_low room s x)))
            ∙ by n (eqb k n)
            ∙ ap (λ (b : Bool). up_to (get_or f.counts n 0) (cond b 1 0 + how_many_get room ts n))
            (sym (carried room roomy o n));
        long = a.long;
      }
    where
      o : Outcome Result
      o = answer room s x

      k : ℕ
      k = number_of o

      max_then : (x y z : ℕ) → max (max x y) z ≡ max x (max y z)
      max_then x y z = omega arith

      by : (n : ℕ) (b : Bool)
          → up_to (cond b (up_to (get_or f.counts n 0) 1) (get_or f.counts n 0)) (how_many_get room ts n)
          ≡ up_to (get_or f.counts n 0) (cond b 1 0 + how_many_get room ts n)
      by n true = more_then (get_or f.counts n 0) 1 (how_many_get room ts n)
      by n false = let z : 0 + how_many_get room ts n ≡ how_many_get room ts n = omega arith in rw z

  adds : (xs : List Sent) (s : State) → Good s → (f : Forecast) → Within f
      → Adds room f (turns_of room s xs) (forecast_of f s.tables xs)
  unfolding turns_of forecast_of count
  adds [] s i f w =
      record {
        number = refl;
        most = omega arith;
        laid = none_more f.laid w.laid_low;
        counts = λ n h. none_more (get_or f.counts n 0) (w.count_low n);
        long = w.long;
      }
  adds (x ∷ xs) s i f w =
      let m = had s (answer room s x) in
      adds_more s x f w _ _
      (subst
      (λ (m' : Foreseen). Adds room (with_message f m) (turns_of room (left_by room s x) xs)
      (forecast_of (with_message f m') m'.tables xs))
      (message_had room roomy s i x)
      (adds xs (left_by room s x) (left_good room s i x) (with_message f m)
      (with_within f m w (number_low room s x))))

  -- no message gets another number
  none_other : (xs : List Sent) (s : State) (n : ℕ) → numbers_counted ≤ n → how_many_get room (turns_of room s xs) n ≡ 0
  unfolding turns_of count
  none_other [] s n h = refl
  none_other (x ∷ xs) s n h =
      let low = number_low room s x in
      rw (carried room roomy (answer room s x) n, ne_eqb (number_of (answer room s x)) n (λ e. omega arith))
      (let k = none_other xs (left_by room s x) n h in omega arith)

-- ---- the tally

-- one message more under a number is one more in their sum, where both stop
sum_counted : (c : List ℕ) (k : ℕ) → k < length c → get_or c k 0 ≤ 4294967295
    → up_to (stopped (sum c)) 1 ≡ stopped (sum (counted_under c k))
unfolding up_to
sum_counted c k h low = omega (arith, sum_at c k, sum_set c k (min (get_or c k 0 + 1) 4294967295) h)

-- and in that of all but number 0, unless it is 0
refusals_counted : (c : List ℕ) (k : ℕ) → k < length c → get_or c k 0 ≤ 4294967295
    → up_to (stopped (sum (drop 1 c))) (cond (not (eqb k 0)) 1 0) ≡ stopped (sum (drop 1 (counted_under c k)))
refusals_counted [] k h low = absurd (not-suc-le-zero h)
refusals_counted (x ∷ c) zero h low = sym (none_more (stopped (sum c)) (omega arith))
refusals_counted (x ∷ c) (suc k) h low =
    rw (ne_eqb (suc k) 0 (λ e. omega arith)) (sum_counted c k (le_of_suc-le-suc h) low)

same_tally : {a a' b b' c c' : ℕ} → a ≡ a' → b ≡ b' → c ≡ c'
    → ◌≡◌ {A = Tally} (record { messages = a; refusals = b; laid = c })
    (record { messages = a'; refusals = b'; laid = c' })
same_tally p q r = cc

module _ (room : ℕ) (roomy : 70 ≤ room) where
  tallied_one : (s : State) (x : Sent) (f : Forecast) → Within f
      → let o = answer room s x in
      counted (tally_forecast f) (is_refusal o) (laid_by o) ≡ tally_forecast (with_message f (had s o))
  tallied_one s x f w =
      let o = answer room s x in
      let low : number_of o < length f.counts = rw w.long (number_low room s x) in
      same_tally (sum_counted f.counts (number_of o) low (w.count_low (number_of o)))
      (ap (λ (b : Bool). up_to (stopped (sum (drop 1 f.counts))) (cond b 1 0)) (answer_told room s x)
      ∙ refusals_counted f.counts (number_of o) low (w.count_low (number_of o)))
      refl

  tally_told : (xs : List Sent) (s : State) → Good s → (f : Forecast) → Within f
      → tally (turns_of room s xs) (tally_forecast f) ≡ tally_forecast (forecast_of f s.tables xs)
  unfolding turns_of tally forecast_of
  tally_told [] s i f w = refl
  tally_told (x ∷ xs) s i f w =
      let m = had s (answer room s x) in
      ap (tally (turns_of room (left_by room s x) xs)) (tallied_one s x f w)
      ∙ tally_told xs (left_by room s x) (left_good room s i x) (with_message f m)
      (with_within f m w (number_low room s x))
      ∙ ap (λ (m' : Foreseen). tally_forecast (forecast_of (with_message f m') m'.tables xs))
      (message_had room roomy s i x)

-- ---- numbers that no message gets on sound tables

abbrev not_given : List ℕ
not_given = broken_tables ∷ misfit_store ∷ short_buffer ∷ too_many_frames ∷ []

abbrev given : ℕ → Bool
given n = not (listed n not_given)

number_given : (t : Tables) → sound t ≡ true → (x : Sent) → given (foreseen t x).number ≡ true
unfolding all
number_given t ok x = by (asked_known x) (length (bytes_of x))
  where
    decided : (c : Call) (o : Outcome Plan) {P : Plan → Type 0} → IfDecided P o → given (number_of o) ≡ true
    decided c (refuse n) (if_refused row) = all_listed given call_numbers n refl row
    decided c (accept plan) k = refl

    by : {a : Outcome Call} → Known a → (size : ℕ) → given (foreseen_by t a size).number ≡ true
    by (bad {n} some own) size = all_listed given own_numbers n refl own
    by (good {c}) size = decided c (decide t c size) (decide_ok t c size ok)

-- so nothing is counted under them
none_counted : (n : ℕ) → listed n not_given ≡ true → (xs : List Sent) (t : Tables) → sound t ≡ true → (f : Forecast)
    → get_or (forecast_of f t xs).counts n 0 ≡ get_or f.counts n 0
unfolding forecast_of
none_counted n h [] t ok f = refl
none_counted n h (x ∷ xs) t ok f =
    none_counted n h xs (foreseen t x).tables (foreseen_sound t ok x) (with_message f (foreseen t x))
    ∙ get_or-set_other f.counts (foreseen t x).number n _ 0
    (λ e. true≢false (sym (number_given t ok x) ∙ ap (λ (k : ℕ). not (listed k not_given)) (sym e) ∙ ap not h))

never : (t : Tables) (file : List ℕ) (n : ℕ) → listed n not_given ≡ true → get_or (forecast t file).counts n 0 ≡ 0
never t file n h = by (sound t) refl
  where
    by : (b : Bool) → sound t ≡ b
        → get_or (cond b (forecast_of (at_start t) t (messages_of file)) no_forecast).counts n 0 ≡ 0
    by true ok = none_counted n h (messages_of file) t ok (at_start t) ∙ zero_at numbers_counted n
    by false e = zero_at numbers_counted n

all_counted : all (λ (n : ℕ). ltb n numbers_counted) (accepted ∷ all_numbers) ≡ true
unfolding all
all_counted = refl

-- ---- files that differ in what writes carry

same_forecast : (xs xs' : List Sent) → SameBut xs xs' → (f : Forecast) (t : Tables)
    → forecast_of f t xs ≡ forecast_of f t xs'
unfolding forecast_of
same_forecast [] [] e f t = refl
same_forecast [] (x' ∷ xs') e f t = cc
same_forecast (x ∷ xs) [] e f t = cc
same_forecast (x ∷ xs) (x' ∷ xs') e f t =
    let first : message_covered x ≡ message_covered x' = cc in
    let rest : map message_covered xs ≡ map message_covered xs' = cc in
    let same : foreseen t x ≡ foreseen t x' = rw (same_asked x x' first, same_carried x x' first) in
    same_forecast xs xs' rest (with_message f (foreseen t x)) (foreseen t x).tables
    ∙ ap (λ (m : Foreseen). forecast_of (with_message f m) m.tables xs') same

-- ---- fresh tables

pub number_stays : (xs : List Sent) (t : Tables) (f : Forecast) → (forecast_of f t xs).number ≡ f.number
unfolding forecast_of
number_stays [] t f = refl
number_stays (x ∷ xs) t f = number_stays xs (foreseen t x).tables (with_message f (foreseen t x))

fresh_forecast : (p s : ℕ) (file : List ℕ) → (forecast (made p s).tables file).number ≡ accepted
fresh_forecast p s file =
    rw (made_sound p s) (number_stays (messages_of file) (made p s).tables (at_start (made p s).tables))

-- ---- the theorem

module _ (room : ℕ) (file : List ℕ) (s : State) (roomy : 70 ≤ room) (ok : sound s.tables ≡ true)
    (fit : fits s.tables (length s.fast) (length s.slow) ≡ true) where
  in_order : Good s
  in_order = record { tables_sound = ok; stores_fit = fit }

  figures_are : FiguresOf room s (run room file s).turns (forecast s.tables file)
  figures_are =
      rw ok (by (adds room roomy (messages_of file) s in_order (at_start s.tables) (start_within s.tables)))
    where
      by : {g : Forecast} → Adds room (at_start s.tables) (run room file s).turns g
          → FiguresOf room s (run room file s).turns g
      by a =
          record {
            number_is = a.number;
            most_is = a.most;
            laid_is = a.laid ∙ from_zero (laid_in_all (run room file s).turns);
            counts_are = λ n h. a.counts n h
                ∙ ap (λ (k : ℕ). up_to k (how_many_get room (run room file s).turns n)) (zero_at numbers_counted n)
                ∙ from_zero (how_many_get room (run room file s).turns n);
            counts_long = a.long;
            none_other = λ n h. none_other room roomy (messages_of file) s n h;
          }

  tally_is : tally (run room file s).turns zero_tally ≡ tally_forecast (forecast s.tables file)
  unfolding up_to
  tally_is = rw ok (tally_told room roomy (messages_of file) s in_order (at_start s.tables) (start_within s.tables))

pub foretold : Foretold
foretold =
    record {
      exact = figures_are;
      tally_agrees = tally_is;
      broken = λ t file e. rw e;
      table_counted = all_counted;
      never_given = never;
      hidden = λ t file file' e. rw (same_forecast (messages_of file) (messages_of file') e (at_start t) t);
      from_fresh = λ p s file. fresh_forecast p s file;
    }
