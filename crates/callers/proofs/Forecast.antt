-- What a program in C has of a forecast. In order: its number; the figures that were laid; after any calls.
use Prim.Native.Nat.{ℕ}
use mathlib.Core.Path.{◌≡◌, refl, ap, ◌∙◌}
use mathlib.Core.Bool.{Bool, true, false, cond}
use mathlib.Core.List.{List, [], ◌∷◌}
use mathlib.Core.Logic.{◌≢◌}
use lib.ListN.{length, replicate}
use borrow.Author.Tests.{eq-eqb}
use Rattle.tables.specs.declared.Tables.{Tables}
use Rattle.tables.specs.Numbers.{accepted, broken_tables}
use Rattle.tables.specs.Rules.{sound}
use Rattle.steps.proofs.StepLaws.{rules_good}
use Rattle.messages.specs.declared.Tally.{Tally}
use Rattle.messages.specs.Run.{messages_of}
use Rattle.messages.specs.Forecast.{Forecast, at_start, forecast_of, no_forecast, forecast}
use Rattle.theorems.proofs.Forecast.{number_stays, foretold}
use Rattle.embed.specs.Exports.{tables_of, figures_size, figure_numbers, ForecastPromised, Kept, state_in}
use Rattle.callers.specs.Calls.{kept_after}
use Rattle.callers.specs.Forecast.{figures_in, ForecastHad, ForecastLent}
use Rattle.callers.proofs.Lent.{demands_lent}

-- ---- its number

told : (t : Tables) (file : List ℕ) → (forecast t file).number ≡ cond (sound t) accepted broken_tables
told t file = by (sound t)
  where
    by : (b : Bool)
        → (cond b (forecast_of (at_start t) t (messages_of file)) no_forecast).number ≡ cond b accepted broken_tables
    by true = number_stays (messages_of file) t (at_start t)
    by false = refl

zeros : (t : Tables) (file : List ℕ) → (forecast t file).number ≢ accepted
    → figure_numbers (forecast t file) ≡ replicate 34 0
zeros t file = by (sound t)
  where
    by : (b : Bool)
        → let f = cond b (forecast_of (at_start t) t (messages_of file)) no_forecast in
        f.number ≢ accepted → figure_numbers f ≡ replicate 34 0
    by true some = absurd (some (number_stays (messages_of file) t (at_start t)))
    by false some = refl

-- ---- the figures that were laid

module _ (k : Kept) (file l l' : List ℕ) (r : ℕ) (sized : length l ≡ figures_size)
    (q : ForecastPromised k.tables file l l' r) where
  abbrev f : Forecast
  f = forecast (tables_of k.tables) file

  laid : l' ≡ figure_numbers f
  laid = q.figures_out ∙ rw (eq-eqb (length l) figures_size sized)

  figures_are : figures_in r l' ≡ f
  figures_are = rw (laid, q.told)

  had : ForecastHad k file r l'
  had =
      record {
        number_told = q.told ∙ told (tables_of k.tables) file;
        zeros_told = λ some. laid ∙ zeros (tables_of k.tables) file (λ e. some (q.told ∙ e));
        figures_had = λ ruled room roomy.
            let i = rules_good {s = state_in k} ruled in
            rw figures_are (foretold.exact room file (state_in k) roomy i.tables_sound i.stores_fit);
        tally_had = λ ruled out out' n k' roomy p.
            let i = rules_good {s = state_in k} ruled in
            p.tally_out
            ∙ ap (λ (m : Tally). m.messages ∷ m.refusals ∷ m.laid ∷ [])
            (foretold.tally_agrees (length out) file (state_in k) roomy i.tables_sound i.stores_fit)
            ∙ rw laid;
      }

-- ---- after any calls

pub forecast_lent : ForecastLent
forecast_lent =
    record {
      any_bytes = had;
      from_fresh = λ p s b fast slow e lp ls cs calls file l l' r q.
          let ruled = (demands_lent p s b fast slow e lp ls cs calls).1.1.ruled in
          let ok = (rules_good {s = state_in (kept_after _ cs)} ruled).tables_sound in
          (q.told ∙ told _ file ∙ rw ok, ruled);
    }
