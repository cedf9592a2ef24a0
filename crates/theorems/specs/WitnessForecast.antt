-- Request [8]: for each field of `FiguresOf` wrong figures, or a wrong turn, that this field rules out and no other
-- does; the right forecast of a file beside its run, and wrong ones; the least that `Foretold` asks for, and why
-- `Foretold` asks for that. Computed.
use Rattle.std.specs.Prelude.{ℕ, zero, suc, ◌+◌, ◌%◌, ◌≤◌, ◌<◌, max, ◌≡◌, refl, Bool, true, false, ◌&&◌, cond, length, get_or, set, replicate, eqb}
use Rattle.std.proofs.Common.{sym, ap, ◌∙◌, true≢false, not-suc-le-zero, arith, eqb-true, ne_eqb}
use Rattle.std.proofs.lemmas.Bool.{false≢true}
use mathlib.Core.List.{List, [], ◌∷◌, ◌++◌, map, drop_last}
use Rattle.std.proofs.Math.Decide.{ℕ_discrete}
use Rattle.tables.specs.declared.Page.{Page}
use Rattle.tables.specs.declared.Tables.{Tables}
use Rattle.tables.specs.Lists.{count, all_below, count_below, sum}
use Rattle.tables.specs.Numbers.{accepted, retired}
use Rattle.tables.specs.Model.{frames, retired_at, fresh_copy, fresh_tables, made}
use Rattle.tables.specs.Rules.{frames_held, sound}
use Rattle.tables.specs.Changes.{created, with_copies, new_copy, change_to, with_retired, after}
use Rattle.steps.specs.Stores.{fits}
use Rattle.steps.specs.Steps.{refuse, accept}
use Rattle.steps.specs.Effects.{State}
use Rattle.steps.specs.Promises.{state_of}
use Rattle.messages.specs.declared.Tally.{Tally}
use Rattle.messages.specs.Replies.{reply, stopped, up_to, zero_tally}
use Rattle.messages.specs.Run.{Sent, cut, whole, messages_of, Turn, run, replies, tally}
use Rattle.messages.specs.Forecast.{Forecast, Foreseen, foreseen, no_counts, counted_under, at_start, with_message, forecast_of}
use Rattle.messages.specs.Forecast.{forecast}
use Rattle.theorems.specs.Demand3.{reply_number}
use Rattle.theorems.specs.Cases.{run_on, refused_with, laid_reply}
use Rattle.theorems.specs.Hidden.{covered}
use Rattle.theorems.specs.Forecast.{most_held, laid_in_all, how_many_get, FiguresOf, tally_forecast, Foretold}
use Rattle.theorems.specs.Borders.{misfit}
use Rattle.theorems.specs.Witness3.{But, file₃, broken}
use Rattle.theorems.specs.Witness1.{tally_of}
use Rattle.theorems.specs.WitnessClosed.{no_frames}

-- ---- a file beside its run

-- With P = 2 and S = 1, page 5 has a copy on frame 0 and page 6 a null copy; frame 2 is retired.
abbrev pub on_first : Page
on_first = with_copies (created 3) 1 (set (replicate 8 fresh_copy) 0 (new_copy 0 true))

abbrev pub tables₈ : Tables
tables₈ = with_retired (after (after (fresh_tables 2 1) (change_to 5 on_first 255)) (change_to 6 (created 3) 255)) 2

abbrev pub state₈ : State
state₈ = state_of tables₈ (replicate 128 0xEE) (replicate 64 0xDD)

-- Page 5 is copied to frame 1, so that two frames are held, and is to be copied to frame 2, which gets 20; the page is
-- deleted; one byte is left, which gets 1.
abbrev pub file₈ : List ℕ
file₈ = 0 ∷ 5 ∷ 1 ∷ 6 ∷ 5 ∷ 0 ∷ 1 ∷ 0 ∷ 5 ∷ 1 ∷ 6 ∷ 5 ∷ 0 ∷ 2 ∷ 0 ∷ 4 ∷ 1 ∷ 2 ∷ 3 ∷ 5 ∷ 0 ∷ []

abbrev pub turns₈ : List Turn
turns₈ = (run_on state₈ file₈).turns

abbrev pub replies₈ : List (List ℕ)
replies₈ = laid_reply 64 ∷ refused_with 20 ∷ laid_reply 128 ∷ refused_with 1 ∷ []

abbrev pub some_figures : ℕ → ℕ → ℕ → List ℕ → Forecast
some_figures number most laid counts = record { number = number; most = most; laid = laid; counts = counts }

-- so many messages under 0, 1 and 20
abbrev pub under : ℕ → ℕ → ℕ → List ℕ
under a b c = a ∷ b ∷ replicate 18 0 ++ (c ∷ replicate 11 0)

abbrev pub figures₈ : Forecast
figures₈ = some_figures 0 2 192 (under 2 1 1)

pub right_forecast : forecast tables₈ file₈ ≡ figures₈
unfolding run_on forecast_of up_to count_below
right_forecast = refl

pub right_most : most_held state₈ turns₈ ≡ 2
unfolding run_on count_below
right_most = refl

pub right_laid : laid_in_all turns₈ ≡ 192
unfolding run_on
right_laid = refl

pub right_replies : replies 70 turns₈ ≡ replies₈
unfolding run_on
right_replies = refl

-- ---- the fields of `FiguresOf`

pub data Field : Type 0 where
  number_is : Field
  most_is : Field
  laid_is : Field
  counts_are : Field
  counts_long : Field
  none_other : Field

abbrev pub place : Field → ℕ
place number_is = 0
place most_is = 1
place laid_is = 2
place counts_are = 3
place counts_long = 4
place none_other = 5

-- turns, and the figures that they are said to have
pub record Claim : Type 0 where
  pub turns : List Turn
  pub figures : Forecast

module _ (w : Claim) where
  abbrev pub Says : Field → Type 0
  Says number_is = w.figures.number ≡ accepted
  Says most_is = w.figures.most ≡ most_held state₈ w.turns
  Says laid_is = w.figures.laid ≡ stopped (laid_in_all w.turns)
  Says counts_are = (n : ℕ) → n < 32 → get_or w.figures.counts n 0 ≡ stopped (how_many_get 70 w.turns n)
  Says counts_long = length w.figures.counts ≡ 32
  Says none_other = (n : ℕ) → 32 ≤ n → how_many_get 70 w.turns n ≡ 0

  -- they are what `FiguresOf` says
  pub field_of : FiguresOf 70 state₈ w.turns w.figures → (i : Field) → Says i
  field_of k number_is = k.number_is
  field_of k most_is = k.most_is
  field_of k laid_is = k.laid_is
  field_of k counts_are = k.counts_are
  field_of k counts_long = k.counts_long
  field_of k none_other = k.none_other

  pub of_fields : ((i : Field) → Says i) → FiguresOf 70 state₈ w.turns w.figures
  of_fields k =
      record {
        number_is = k number_is;
        most_is = k most_is;
        laid_is = k laid_is;
        counts_are = k counts_are;
        counts_long = k counts_long;
        none_other = k none_other;
      }

pub each : (X : Field → Type 0) → X number_is → X most_is → X laid_is → X counts_are → X counts_long → X none_other
    → (i : Field) → X i
each X a b c d e f number_is = a
each X a b c d e f most_is = b
each X a b c d e f laid_is = c
each X a b c d e f counts_are = d
each X a b c d e f counts_long = e
each X a b c d e f none_other = f

-- a message that gets 32, the first number that has no count
abbrev pub uncounted : List Turn
uncounted = record { found = state₈; sent = whole []; outcome = refuse 32 } ∷ []

abbrev pub wrong : Field → Claim
wrong number_is = record { turns = turns₈; figures = some_figures 5 2 192 (under 2 1 1) }
-- the frames held at the start alone
wrong most_is = record { turns = turns₈; figures = some_figures 0 1 192 (under 2 1 1) }
-- what the delete lays is left out
wrong laid_is = record { turns = turns₈; figures = some_figures 0 2 64 (under 2 1 1) }
-- a message that gets 20 counted under 0
wrong counts_are = record { turns = turns₈; figures = some_figures 0 2 192 (under 3 1 0) }
-- a count more
wrong counts_long = record { turns = turns₈; figures = some_figures 0 2 192 (under 2 1 1 ++ (0 ∷ [])) }
wrong none_other = record { turns = uncounted; figures = some_figures 0 1 0 no_counts }

abbrev pub Row : Field → Field → Type 0
Row i j = But (eqb (place i) (place j)) (Says (wrong i) j)

-- a test that holds of every number below k, of one of them
below : (k : ℕ) (f : ℕ → Bool) → all_below k f ≡ true → (n : ℕ) → n < k → f n ≡ true
unfolding all_below
below zero f e n h = absurd (not-suc-le-zero h)
below (suc k) f e n h = by (f k) refl e (λ both. below k f both n) (ℕ_discrete n k)
  where
    by : (b : Bool) → f k ≡ b → (b && all_below k f) ≡ true → (all_below k f ≡ true → n < k → f n ≡ true) → Dec (n ≡ k)
        → f n ≡ true
    by true is both low (yes same) = rw same is
    by true is both low (no other) = low both (omega arith)
    by false is both low d = absurd (false≢true both)

-- how many replies of the run carry number n
abbrev carrying : ℕ → ℕ
carrying n = count (λ (r : List ℕ). eqb (reply_number r) n) replies₈

carried : (n : ℕ) → carrying n ≡ how_many_get 70 turns₈ n
carried n = ap (λ (l : List (List ℕ)). count (λ (r : List ℕ). eqb (reply_number r) n) l) (sym right_replies)

counts_by : (c : List ℕ) → all_below 32 (λ n. eqb (get_or c n 0) (stopped (carrying n))) ≡ true → (n : ℕ) → n < 32
    → get_or c n 0 ≡ stopped (how_many_get 70 turns₈ n)
counts_by c e n h =
    eqb-true (get_or c n 0) (stopped (carrying n)) (below 32 (λ n. eqb (get_or c n 0) (stopped (carrying n))) e n h)
    ∙ ap stopped (carried n)

right_counts : (n : ℕ) → n < 32 → get_or (under 2 1 1) n 0 ≡ stopped (how_many_get 70 turns₈ n)
unfolding all_below count
right_counts = counts_by (under 2 1 1) refl

more_counts : (n : ℕ) → n < 32 → get_or (under 2 1 1 ++ (0 ∷ [])) n 0 ≡ stopped (how_many_get 70 turns₈ n)
unfolding all_below count
more_counts = counts_by (under 2 1 1 ++ (0 ∷ [])) refl

right_others : (n : ℕ) → 32 ≤ n → how_many_get 70 turns₈ n ≡ 0
unfolding count
right_others n h =
    sym (carried n)
    ∙ rw (ne_eqb 0 n (λ e. omega arith), ne_eqb 1 n (λ e. omega arith), ne_eqb 20 n (λ e. omega arith))

none_counted : (n : ℕ) → n < 32 → get_or no_counts n 0 ≡ stopped (how_many_get 70 uncounted n)
unfolding all_below count reply
none_counted n h =
    eqb-true _ _ (below 32 (λ n. eqb (get_or no_counts n 0) (stopped (how_many_get 70 uncounted n))) refl n h)

start_held : 1 ≡ most_held state₈ uncounted
unfolding run_on count_below
start_held = refl

some_other : ((n : ℕ) → 32 ≤ n → how_many_get 70 uncounted n ≡ 0) → ⊥
unfolding count reply
some_other k = omega (arith, k 32 (omega arith))

pub right_figures : FiguresOf 70 state₈ turns₈ figures₈
unfolding run_on
right_figures =
    of_fields (record { turns = turns₈; figures = figures₈ })
    (each _ refl (sym right_most) refl right_counts refl right_others)

pub alone : (i j : Field) → Row i j
unfolding run_on
alone number_is =
    each (Row number_is) (λ e. omega (arith, e)) (sym right_most) refl right_counts refl
    right_others
alone most_is =
    each (Row most_is) refl (λ e. true≢false (ap (λ (n : ℕ). eqb n 1) (e ∙ right_most))) refl
    right_counts refl right_others
alone laid_is =
    each (Row laid_is) refl (sym right_most)
    (λ e. true≢false (ap (λ (n : ℕ). eqb n 64) e))
    right_counts refl right_others
alone counts_are =
    each (Row counts_are) refl (sym right_most) refl
    (λ k. true≢false (ap (λ (n : ℕ). eqb n 3) (k 0 (omega arith) ∙ sym (right_counts 0 (omega arith))))) refl
    right_others
alone counts_long =
    each (Row counts_long) refl (sym right_most) refl more_counts
    (λ e. omega (arith, e)) right_others
alone none_other = each (Row none_other) refl start_held refl none_counted refl some_other

-- ---- wrong forecasts of the file

-- what a forecast gives, and that the run has other figures
abbrev pub Caught : Forecast → Forecast → Type 0
Caught given f = (given ≡ f) × (FiguresOf 70 state₈ turns₈ f → ⊥)

other_most : (f : Forecast) → eqb f.most 2 ≡ false → FiguresOf 70 state₈ turns₈ f → ⊥
other_most f e k = false≢true (sym e ∙ ap (λ (n : ℕ). eqb n 2) (k.most_is ∙ right_most))

-- other bytes laid, where what is laid is known, and as it is
laid_apart : stopped (laid_in_all turns₈) ≡ 192 → (f : Forecast) → eqb f.laid 192 ≡ false
    → FiguresOf 70 state₈ turns₈ f → ⊥
laid_apart is f e k = false≢true (sym e ∙ ap (λ (n : ℕ). eqb n 192) (k.laid_is ∙ is))

other_laid : (f : Forecast) → eqb f.laid 192 ≡ false → FiguresOf 70 state₈ turns₈ f → ⊥
unfolding run_on
other_laid = laid_apart refl

-- one message under 1
other_cut : (f : Forecast) → eqb (get_or f.counts 1 0) 1 ≡ false → FiguresOf 70 state₈ turns₈ f → ⊥
other_cut f e k =
    false≢true (sym e ∙ ap (λ (n : ℕ). eqb n 1) (k.counts_are 1 (omega arith) ∙ sym (right_counts 1 (omega arith))))

-- a forecast from the figures f on, where a message is added by `add`
unfoldable pub foretold_by : (Forecast → Foreseen → Forecast) → Forecast → Tables → List Sent → Forecast
foretold_by add f t [] = f
foretold_by add f t (x ∷ xs) = foretold_by add (add f (foreseen t x)) (foreseen t x).tables xs

abbrev pub adding : (Forecast → Foreseen → Forecast) → Forecast
adding add = foretold_by add (at_start tables₈) tables₈ (messages_of file₈)

-- the frames held at the end alone
pub end_alone : Caught
    (adding (λ f m.
    let g = with_message f m in some_figures g.number (frames_held m.tables) g.laid g.counts))
    (some_figures 0 0 192 (under 2 1 1))
unfolding run_on foretold_by up_to count_below
end_alone = (refl, other_most _ refl)

-- a forecast with another count of the frames held
abbrev pub counting : (Tables → ℕ) → Forecast
counting held =
    foretold_by
    (λ f m. let g = with_message f m in some_figures g.number (max f.most (held m.tables)) g.laid g.counts)
    (some_figures 0 (held tables₈) 0 no_counts) tables₈ (messages_of file₈)

-- nothing else differs from the right forecast
pub right_ways : (adding with_message ≡ figures₈) × (counting frames_held ≡ figures₈)
unfolding run_on foretold_by up_to count_below
right_ways = (refl, refl)

-- all copies counted, null copies too
pub null_copies_held : Caught (counting (λ t. sum (map (λ (g : Page). g.n) t.pages)))
    (some_figures 0 3 192 (under 2 1 1))
unfolding run_on foretold_by up_to count_below
null_copies_held = (refl, other_most _ refl)

-- retired frames counted too
pub retired_held : Caught (counting (λ t. frames_held t + count_below (frames t) (retired_at t)))
    (some_figures 0 3 192 (under 2 1 1))
unfolding run_on foretold_by up_to count_below
retired_held = (refl, other_most _ refl)

-- refused messages left out
pub refusals_left_out : Caught (adding (λ f m. cond (eqb m.number accepted) (with_message f m) f))
    (some_figures 0 2 192 (under 2 0 0))
unfolding run_on foretold_by up_to count_below
refusals_left_out = (refl, other_cut _ refl)

-- the 64 bytes of a make copy to a retired frame counted
pub refused_laid : Caught
    (adding (λ f m.
    with_message f
    (record { number = m.number; laid = cond (eqb m.number retired) 64 m.laid; tables = m.tables })))
    (some_figures 0 2 256 (under 2 1 1))
unfolding run_on foretold_by up_to count_below
refused_laid = (refl, laid_apart refl _ refl)

-- the end that is cut short counted twice, and not at all
pub cut_twice : Caught (forecast_of (at_start tables₈) tables₈ (messages_of file₈ ++ (cut ∷ [])))
    (some_figures 0 2 192 (under 2 2 1))
unfolding run_on forecast_of up_to count_below
cut_twice = (refl, other_cut _ refl)

pub cut_left_out : Caught (forecast_of (at_start tables₈) tables₈ (drop_last (messages_of file₈)))
    (some_figures 0 2 192 (under 2 0 1))
unfolding run_on forecast_of up_to count_below
cut_left_out = (refl, other_cut _ refl)

-- A file that only deletes page 5: one frame is held at the start, and none after the delete. The right forecast, and
-- one with the start left out.
abbrev pub delete_file : List ℕ
delete_file = 0 ∷ 4 ∷ 1 ∷ 2 ∷ 3 ∷ 5 ∷ []

pub right_deleting : forecast tables₈ delete_file ≡ some_figures 0 1 64 (under 1 0 0)
unfolding run_on forecast_of up_to count_below
right_deleting = refl

pub start_left_out : let f = some_figures 0 0 64 (under 1 0 0) in
    (forecast_of (some_figures 0 0 0 no_counts) tables₈ (messages_of delete_file) ≡ f)
    × (FiguresOf 70 state₈ (run_on state₈ delete_file).turns f → ⊥)
unfolding run_on forecast_of up_to count_below
start_left_out = (refl, λ k. false≢true (ap (λ (n : ℕ). eqb n 1) k.most_is))

-- ---- "Figures stop at 4294967295"

-- a count that wraps, beside the one that stops
abbrev pub wrapping : List ℕ → ℕ → List ℕ
wrapping counts n = set counts n ((get_or counts n 0 + 1) % 4294967296)

pub counts_stop :
    (counted_under (4294967294 ∷ 4294967295 ∷ 7 ∷ []) 0 ≡ 4294967295 ∷ 4294967295 ∷ 7 ∷ [])
    × (counted_under (4294967294 ∷ 4294967295 ∷ 7 ∷ []) 1 ≡ 4294967294 ∷ 4294967295 ∷ 7 ∷ [])
    × (wrapping (4294967294 ∷ 4294967295 ∷ 7 ∷ []) 1 ≡ 4294967294 ∷ 0 ∷ 7 ∷ [])
unfolding up_to
counts_stop = (refl, refl, refl)

-- 64 bytes more than so many, with a message that is accepted
abbrev pub with_laid : ℕ → Forecast
with_laid laid = with_message (some_figures 0 0 laid no_counts)
    (record { number = 0; laid = 64; tables = fresh_tables 1 1 })

pub laid_stops :
    map (λ (n : ℕ). (with_laid n).laid) (4294967230 ∷ 4294967231 ∷ 4294967232 ∷ 4294967295 ∷ [])
    ≡ 4294967294 ∷ 4294967295 ∷ 4294967295 ∷ 4294967295 ∷ []
unfolding up_to
laid_stops = refl

-- a turn that lays 4294967296 bytes: figures that wrap are ruled out, and so are those that do not stop
abbrev pub over_limit : List Turn
over_limit =
    record {
      found = state₈;
      sent = whole [];
      outcome = accept (record { state = state₈; moved = false; laid = 4294967296; data_out = [] });
    }
    ∷ []

pub laid_wraps : (FiguresOf 70 state₈ over_limit (some_figures 0 1 0 (under 1 0 0)) → ⊥)
    × (FiguresOf 70 state₈ over_limit (some_figures 0 1 4294967296 (under 1 0 0)) → ⊥)
laid_wraps = (λ k. omega (arith, k.laid_is), λ k. omega (arith, k.laid_is))

-- ---- empty files, and broken tables

pub empty_files : (forecast (fresh_tables 2 1) [] ≡ some_figures 0 0 0 (replicate 32 0))
    × (forecast tables₈ [] ≡ some_figures 0 1 0 (replicate 32 0))
unfolding run_on forecast_of count_below
empty_files = (refl, refl)

-- "Broken tables give 5 and zeros."
pub broken_zeros : (forecast broken.tables file₃ ≡ some_figures 5 0 0 (replicate 32 0))
    × (forecast broken.tables [] ≡ some_figures 5 0 0 (replicate 32 0))
unfolding run_on
broken_zeros = (refl, refl)

-- a message counted under 5
pub five_counted : forecast broken.tables file₃ ≡ some_figures 5 0 0 (set no_counts 5 1) → ⊥
unfolding run_on
five_counted e = true≢false (ap (λ (f : Forecast). eqb (get_or f.counts 5 0) 0) e)

-- ---- the least that `Foretold` asks for

-- of a unit of no frame: no byte of a store, an empty file and a buffer of 70
none_sound : sound no_frames.tables ≡ true
unfolding run_on
none_sound = refl

none_fit : fits no_frames.tables 0 0 ≡ true
unfolding run_on
none_fit = refl

pub exact_at_70 : Foretold → FiguresOf 70 no_frames (run 70 [] no_frames).turns (forecast no_frames.tables [])
exact_at_70 k = k.exact 70 [] no_frames (omega arith) none_sound none_fit

pub tally_at_70 : Foretold
    → tally (run 70 file₃ no_frames).turns zero_tally ≡ tally_forecast (forecast no_frames.tables file₃)
tally_at_70 k = k.tally_agrees 70 file₃ no_frames (omega arith) none_sound none_fit

-- the tally of the run and that of the figures: four messages, of which two are refused
pub tally_right : (tally turns₈ zero_tally ≡ tally_of 4 2 192) × (tally_forecast figures₈ ≡ tally_of 4 2 192)
unfolding run_on tally up_to
tally_right = (refl, refl)

-- With a buffer of 69 no message is carried out, and no reply carries a number. A file of one byte:
pub not_at_69 : FiguresOf 69 no_frames (run 69 (0 ∷ []) no_frames).turns (forecast no_frames.tables (0 ∷ [])) → ⊥
unfolding run_on forecast_of up_to count_below
not_at_69 k = false≢true (ap (λ (n : ℕ). eqb n 0) (k.counts_are 1 (omega arith)))

-- a create, which is accepted with a buffer of 70
pub tally_not_at_69 :
    tally (run 69 file₃ no_frames).turns zero_tally ≡ tally_forecast (forecast no_frames.tables file₃) → ⊥
unfolding run_on forecast_of tally up_to count_below
tally_not_at_69 e = false≢true (ap (λ (n : Tally). eqb n.refusals 1) e)

-- stores that do not fit: calls get 6, and the forecast knows no store
pub not_on_misfit : FiguresOf 70 misfit (run 70 file₃ misfit).turns (forecast misfit.tables file₃) → ⊥
unfolding run_on forecast_of up_to count_below
not_on_misfit k = true≢false (ap (λ (n : ℕ). eqb n 0) (k.counts_are 6 (omega arith)))

-- broken tables: the forecast is 5
pub not_on_broken : FiguresOf 70 broken (run 70 file₃ broken).turns (forecast broken.tables file₃) → ⊥
unfolding run_on
not_on_broken k = false≢true (ap (λ (n : ℕ). eqb n 0) k.number_is)

-- `never_given` on broken tables, of 5 itself
pub none_under_5 : Foretold → get_or (forecast broken.tables file₃).counts 5 0 ≡ 0
none_under_5 k = k.never_given broken.tables file₃ 5 refl

-- `hidden` on any tables: a write of another byte, and ends that are cut short at other places
abbrev pub write_file : ℕ → List ℕ
write_file b = 0 ∷ 6 ∷ 1 ∷ 5 ∷ 3 ∷ 5 ∷ 0 ∷ b ∷ []

pub hidden_on_any : Foretold → (t : Tables)
    → (forecast t (write_file 8) ≡ forecast t (write_file 9)) × (forecast t (0 ∷ []) ≡ forecast t (0 ∷ 9 ∷ []))
unfolding run_on covered
hidden_on_any k t = (k.hidden t (write_file 8) (write_file 9) refl, k.hidden t (0 ∷ []) (0 ∷ 9 ∷ []) refl)

-- `from_fresh` of tables that are returned with 19
pub fresh_at_19 : Foretold → (forecast (made 0 128).tables file₃).number ≡ 0
fresh_at_19 k = k.from_fresh 0 128 file₃
