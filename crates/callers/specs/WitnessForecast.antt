-- Request [8] over lent bytes: for each field of `ForecastHad` a wrong number or wrong figures that this field rules
-- out and no other does, but for `tally_had`, which follows from `figures_had`; the forecast of a file as
-- `reel_forecast` lays it; the least that `ForecastLent` asks for. Computed.
use Rattle.std.specs.Prelude.{ℕ, suc, ◌≤◌, ◌<◌, ◌≡◌, refl, Bool, true, false, ◌&&◌, ◌||◌, cond, ◌≢◌, length, get_or, drop, set, replicate, eqb}
use Rattle.std.proofs.Common.{zero-le, suc-le-suc, sym, ap, ap₂, ◌∙◌, true≢false, arith}
use Rattle.std.proofs.lemmas.Bool.{false≢true}
use mathlib.Core.List.{List, [], ◌∷◌, flat_map}
use Rattle.tables.specs.Lists.{count_below, sum}
use Rattle.tables.specs.Numbers.{accepted, broken_tables, misfit_store}
use Rattle.tables.specs.Rules.{sound}
use Rattle.steps.specs.Data.{each_is}
use Rattle.steps.specs.Effects.{State}
use Rattle.messages.specs.declared.Tally.{Tally}
use Rattle.messages.specs.Replies.{stopped, up_to}
use Rattle.messages.specs.Run.{Turn, Run, run, buffer, tally}
use Rattle.messages.specs.Forecast.{Forecast, forecast_of}
use Rattle.theorems.specs.Cases.{run_on}
use Rattle.theorems.specs.Forecast.{most_held, FiguresOf, Foretold}
use Rattle.theorems.specs.Witness3.{But}
use Rattle.theorems.specs.WitnessForecast.{tables₈, file₈, under}
use Rattle.embed.specs.Bytes.{tables_bytes, page_bytes, tables_from, from_each, page_from, marks_valid, page_marks_valid}
use Rattle.embed.specs.Exports.{tables_of, with_tables, with_figures, figure_numbers, ForecastPromised}
use Rattle.embed.specs.Exports.{Kept, kept, state_in, RunPromised}
use Rattle.callers.specs.Forecast.{figures_in, RulesHold, ForecastHad, ForecastLent}
use Rattle.callers.specs.WitnessHidden.{nothing, least, misfit}

-- ---- the fields of `ForecastHad`

pub data Field : Type 0 where
  number_told : Field
  zeros_told : Field
  figures_had : Field
  tally_had : Field

abbrev pub place : Field → ℕ
place number_told = 0
place zeros_told = 1
place figures_had = 2
place tally_had = 3

-- what a program keeps, a file, and what `reel_forecast` is said to have given and laid of it
pub record Claim : Type 0 where
  pub keeps : Kept
  pub file : List ℕ
  pub told : ℕ
  pub laid : List ℕ

module _ (w : Claim) where
  abbrev pub Says : Field → Type 0
  Says number_told = w.told ≡ cond (sound (tables_of w.keeps.tables)) accepted broken_tables
  Says zeros_told = w.told ≢ accepted → w.laid ≡ replicate 34 0
  Says figures_had =
      RulesHold w.keeps → (room : ℕ) → 70 ≤ room
      → FiguresOf room (state_in w.keeps) (run room w.file (state_in w.keeps)).turns
      (figures_in w.told w.laid)
  Says tally_had =
      RulesHold w.keeps → (out out' n : List ℕ) (k' : Kept) → 70 ≤ length out
      → RunPromised w.keeps w.file out (0 ∷ 0 ∷ 0 ∷ []) k' out' n
      → n ≡ stopped (sum (drop 2 w.laid)) ∷ stopped (sum (drop 3 w.laid)) ∷ get_or w.laid 1 0 ∷ []

  -- they are what `ForecastHad` says
  pub field_of : ForecastHad w.keeps w.file w.told w.laid → (i : Field) → Says i
  field_of h number_told = h.number_told
  field_of h zeros_told = h.zeros_told
  field_of h figures_had = h.figures_had
  field_of h tally_had = h.tally_had

  pub of_fields : ((i : Field) → Says i) → ForecastHad w.keeps w.file w.told w.laid
  of_fields k =
      record {
        number_told = k number_told;
        zeros_told = k zeros_told;
        figures_had = k figures_had;
        tally_had = k tally_had;
      }

pub each : (X : Field → Type 0) → X number_told → X zeros_told → X figures_had → X tally_had → (i : Field) → X i
each X a b c d number_told = a
each X a b c d zeros_told = b
each X a b c d figures_had = c
each X a b c d tally_had = d

abbrev pub claim : Kept → List ℕ → ℕ → List ℕ → Claim
claim k file r l = record { keeps = k; file = file; told = r; laid = l }

abbrev pub wrong : Field → Claim
-- 0 for bytes that hold no tables
wrong number_told = claim nothing [] 0 (replicate 34 0)
-- a message counted under 5, of bytes that hold no tables
wrong zeros_told = claim nothing (0 ∷ []) 5 (set (replicate 34 0) 7 1)
-- a frame held in a unit of no frame
wrong figures_had = claim least [] 0 (set (replicate 34 0) 0 1)
-- a message that gets 1 counted under 0
wrong tally_had = claim least (0 ∷ []) 0 (set (replicate 34 0) 2 1)

-- whether field j rules out what is wrong for field i. `tally_had` follows from `figures_had` (`tally_follows`): both
-- rule out the last one.
abbrev pub ruled_out : Field → Field → Bool
ruled_out i j = eqb (place i) (place j) || (eqb (place i) 3 && eqb (place j) 2)

abbrev pub Row : Field → Field → Type 0
Row i j = But (ruled_out i j) (Says (wrong i) j)

is_five : 5 ≢ accepted
is_five e = omega arith

-- bytes that hold no tables: `reel_rules` answers 5
none_rule : {A : Type 0} → RulesHold nothing → A
unfolding run_on
none_rule e = absurd (omega (arith, e))

least_rule : RulesHold least
unfolding run_on flat_map tables_bytes page_bytes tables_from from_each page_from marks_valid page_marks_valid each_is
least_rule = refl

least_sound : sound (tables_of least.tables) ≡ true
unfolding run_on flat_map tables_bytes page_bytes tables_from from_each page_from marks_valid page_marks_valid each_is
least_sound = refl

-- `reel_run` over a file of one byte, on a unit of no frame: one message, which is refused
abbrev ran_over : Run
ran_over = run 70 (0 ∷ []) (state_in least)

ran_least : RunPromised least (0 ∷ []) (replicate 70 0) (0 ∷ 0 ∷ 0 ∷ [])
    (kept (with_tables least.tables ran_over.final.tables) ran_over.final.fast ran_over.final.slow)
    (buffer 70 ran_over.turns (replicate 70 0)) (1 ∷ 1 ∷ 0 ∷ [])
unfolding run_on tally up_to
ran_least = record { tables_out = refl; lent_out = refl; tally_out = refl }

none_held : most_held (state_in least) [] ≡ 0
unfolding run_on flat_map tables_bytes page_bytes tables_from from_each page_from marks_valid page_marks_valid each_is
    count_below
none_held = refl

pub alone : (i j : Field) → Row i j
unfolding run_on tally up_to
alone number_told =
    each (Row number_told) (λ e. omega (arith, e)) (λ some. absurd (some refl)) none_rule none_rule
alone zeros_told =
    each (Row zeros_told) refl (λ k. true≢false (ap (λ (l : List ℕ). eqb (get_or l 7 0) 1) (k is_five))) none_rule
    none_rule
alone figures_had =
    each (Row figures_had) (sym (ap (λ (b : Bool). cond b accepted broken_tables) least_sound))
    (λ some. absurd (some refl))
    (λ k. true≢false (ap (λ (n : ℕ). eqb n 1) ((k least_rule 70 (omega arith)).most_is ∙ none_held)))
    (λ _ out out' n k' roomy p. p.tally_out)
alone tally_had =
    each (Row tally_had) (sym (ap (λ (b : Bool). cond b accepted broken_tables) least_sound))
    (λ some. absurd (some refl))
    (λ k. true≢false (ap (λ (n : ℕ). eqb n 0) ((k least_rule 70 (omega arith)).counts_are 1 (omega arith))))
    (λ k. false≢true (ap (λ (l : List ℕ). eqb (get_or l 1 0) 0) (k least_rule _ _ _ _ (omega arith) ran_least)))

-- ---- `tally_had` follows from `figures_had`

-- lists as long as each other that have the same numbers
same_list : (a b : List ℕ) → length a ≡ length b → ((n : ℕ) → n < length a → get_or a n 0 ≡ get_or b n 0) → a ≡ b
same_list [] [] e h = refl
same_list [] (y ∷ ys) e h = absurd (omega (arith, e))
same_list (x ∷ xs) [] e h = absurd (omega (arith, e))
same_list (x ∷ xs) (y ∷ ys) e h =
    ap₂ (λ (n : ℕ) (ns : List ℕ). n ∷ ns) (h 0 (suc-le-suc zero-le))
    (same_list xs ys (omega (arith, e)) (λ n k. h (suc n) (suc-le-suc k)))

-- a run has one forecast
same_counts : {room : ℕ} {s : State} {ts : List Turn} {f g : Forecast} → FiguresOf room s ts f → FiguresOf room s ts g
    → f.counts ≡ g.counts
same_counts {f = f} {g} a b =
    same_list f.counts g.counts (a.counts_long ∙ sym b.counts_long)
    (λ n h. let low : n < 32 = omega (arith, h, a.counts_long) in a.counts_are n low ∙ sym (b.counts_are n low))

rules_both : (a b : Bool) → cond a (cond b accepted misfit_store) broken_tables ≡ accepted → (a ≡ true) × (b ≡ true)
rules_both true true e = (refl, refl)
rules_both true false e = absurd (omega (arith, e))
rules_both false b e = absurd (omega (arith, e))

dropped : (l : List ℕ) → drop 1 (drop 2 l) ≡ drop 3 l
dropped [] = refl
dropped (x ∷ []) = refl
dropped (x ∷ y ∷ l) = refl

pub tally_follows : Foretold → (w : Claim) → Says w figures_had → Says w tally_had
tally_follows t w had ruled out out' n k' roomy p =
    let s = state_in w.keeps in
    let both = rules_both _ _ ruled in
    let right = t.exact (length out) w.file s roomy both.0 both.1 in
    let said = had ruled (length out) roomy in
    p.tally_out
    ∙ ap (λ (m : Tally). m.messages ∷ m.refusals ∷ m.laid ∷ [])
    (t.tally_agrees (length out) w.file s roomy both.0 both.1)
    ∙ ap₂ (λ (c : List ℕ) (laid : ℕ). stopped (sum c) ∷ stopped (sum (drop 1 c)) ∷ laid ∷ [])
    (same_counts right said) (right.laid_is ∙ sym said.laid_is)
    ∙ ap (λ (c : List ℕ). stopped (sum (drop 2 w.laid)) ∷ stopped (sum c) ∷ get_or w.laid 1 0 ∷ [])
    (dropped w.laid)

-- ---- what is laid

-- the file and the tables of theorems/specs/WitnessForecast.antt: two frames held at most, 192 bytes laid, and of the
-- messages two under 0 and one each under 1 and 20
pub right_numbers : (l' : List ℕ) (r : ℕ) → ForecastPromised (tables_bytes tables₈) file₈ (replicate 34 7) l' r
    → (r ≡ 0) × (l' ≡ 2 ∷ 192 ∷ under 2 1 1)
unfolding run_on flat_map tables_bytes page_bytes tables_from from_each page_from marks_valid page_marks_valid each_is
    forecast_of up_to count_below
right_numbers l' r q = (q.told, q.figures_out)

-- of any other number of lent numbers each is left alone
pub left_alone : (f : Forecast)
    → (with_figures (replicate 33 7) f ≡ replicate 33 7) × (with_figures (replicate 35 7) f ≡ replicate 35 7)
    × (with_figures (replicate 34 7) f ≡ figure_numbers f) × (with_figures [] f ≡ [])
left_alone f = (refl, refl, refl, refl)

-- bytes that hold no tables: 5 and zeros, with an empty file too
pub none_laid : (l' : List ℕ) (r : ℕ)
    → (ForecastPromised [] [] (replicate 34 7) l' r → (r ≡ 5) × (l' ≡ replicate 34 0))
    × (ForecastPromised [] file₈ (replicate 34 7) l' r → (r ≡ 5) × (l' ≡ replicate 34 0))
unfolding run_on
none_laid l' r = (λ q. (q.told, q.figures_out), λ q. (q.told, q.figures_out))

-- sound tables, and stores that do not fit: `reel_forecast` gives 0 where `reel_rules` answers 6
pub told_at_misfit : (l' : List ℕ) (r : ℕ) → ForecastPromised misfit.tables [] (replicate 34 7) l' r
    → (r ≡ 0) × (RulesHold misfit → ⊥)
unfolding run_on flat_map tables_bytes page_bytes tables_from from_each page_from marks_valid page_marks_valid each_is
    forecast_of count_below
told_at_misfit l' r q = (q.told, λ e. true≢false (ap (λ (n : ℕ). eqb n 6) e))

-- ---- the least that is asked for

-- on no bytes at all, with an empty file
pub had_of_none : ForecastLent → ForecastHad nothing [] 5 (replicate 34 0)
unfolding run_on
had_of_none k =
    k.any_bytes nothing [] (replicate 34 7) (replicate 34 0) 5 refl (record { told = refl; figures_out = refl })

-- from fresh tables of no frame on, with no call, and no number lent
pub forecast_at_0 : ForecastLent → (l' : List ℕ) (r : ℕ) → ForecastPromised least.tables [] [] l' r
    → (r ≡ accepted) × RulesHold least
unfolding tables_bytes flat_map page_bytes run_on
forecast_at_0 k l' r = k.from_fresh 0 0 least.tables [] [] refl refl refl [] tt [] [] l' r
