-- The forecast over a call file, in order: numbers that stop; a message on sound tables; the loop's invariant, at the
-- start, after a message and at the end.
use Prim.Native.Nat.{ℕ, ◌+◌, ◌≤◌, min, max}
use mathlib.Core.Path.{◌≡◌, refl, sym, ap, ◌∙◌}
use mathlib.Core.Bool.{true, false}
use mathlib.Core.List.{List, [], ◌∷◌}
use native.Mathlib.Omega.{arith}
use lib.ListN.{length, drop, length-set}
use Rattle.tables.specs.declared.Tables.{Tables}
use Rattle.tables.specs.Numbers.{accepted}
use Rattle.tables.specs.Rules.{frames_held, sound}
use Rattle.steps.specs.declared.Call.{Call}
use Rattle.steps.specs.declared.Plan.{Plan}
use Rattle.steps.specs.declared.Decision.{Decision}
use Rattle.steps.specs.Steps.{Outcome, refuse, accept, decide, number_of}
use Rattle.steps.specs.Promises.{decision_of, settled, held_after}
use Rattle.steps.proofs.DecisionLaws.{refused_by, Decided}
use Rattle.steps.proofs.HeldLaws.{decision_told, left_sound, held_settled}
use Rattle.messages.specs.declared.Next.{Next}
use Rattle.messages.specs.Messages.{next_at}
use Rattle.messages.specs.Replies.{up_to}
use Rattle.messages.specs.Run.{Sent, asked, bytes_of, messages_of, yielded}
use Rattle.messages.specs.Forecast.{Forecast, Foreseen, foreseen_call, foreseen_by, foreseen, numbers_counted, counted_under, at_start, with_message, forecast_of}
use Rattle.messages.specs.Promises.{sent_by}
use Rattle.messages.specs.Private.{is_end, past_of, and_then, laid_then, settled_then}
use Rattle.messages.proofs.ReaderLaws.{reader_yields}
use Rattle.messages.proofs.RunLaws.{follows, none_left}

-- ---- numbers that stop

pub stops : (x y : ℕ) → up_to x y ≤ 4294967295
unfolding up_to
stops x y = omega arith

pub none_more : (x : ℕ) → x ≤ 4294967295 → x ≡ up_to x 0
unfolding up_to
none_more x h = omega arith

-- as the library adds
pub added : (x y y' n : ℕ) → n ≡ min (x + y') 4294967295 → y' ≡ y → n ≡ up_to x y
unfolding up_to
added x y y' n e f = omega arith

-- ---- a message on sound tables leaves them sound

pub foreseen_sound : (t : Tables) → sound t ≡ true → (x : Sent) → sound (foreseen t x).tables ≡ true
foreseen_sound t ok x = by (asked x) (length (bytes_of x))
  where
    by : (m : Outcome Call) (size : ℕ) → sound (foreseen_by t m size).tables ≡ true
    by (refuse n) size = ok
    by (accept c) size = left_sound t ok c size

-- ---- what a message comes to, as the code has it

abbrev pub came : ℕ → ℕ → Tables → Foreseen
came number laid t = record { number = number; laid = laid; tables = t }

-- the frames held after a message that was decided to be d, where so many were before
abbrev pub held_then : ℕ → Outcome Decision → ℕ
held_then held (refuse n) = held
held_then held (accept d) = held_after held d

-- of a message that comes to w on tables t, and was decided to be d
pub record Judged (t : Tables) (w : Foreseen) (d : Outcome Decision) : Type 0 where
  pub comes : w ≡ came (number_of d) (laid_then d) (settled_then t d)
  pub held : held_then (frames_held t) d ≡ frames_held (settled_then t d)

pub judged : (t : Tables) → sound t ≡ true → (x : Sent) (bs : List ℕ) → bs ≡ bytes_of x → (d : Outcome Decision)
    → d ≡ and_then (asked x) (λ (c : Call). decision_of t c (decide t c (length bs))) → Judged t (foreseen t x) d
judged t ok x bs eb d e = rw (← eb) (by (asked x) d e)
  where
    planned : (c : Call) (o : Outcome Plan) (d : Decision) → Decided t c o d → foreseen_call t c o ≡ came accepted d.laid (settled t d)
    planned c o d k = rw (k.planned, k.told.laid_told, k.told.tables_told)

    by : (m : Outcome Call) (d : Outcome Decision) → d ≡ and_then m (λ (c : Call). decision_of t c (decide t c (length bs)))
        → Judged t (foreseen_by t m (length bs)) d
    by (refuse n) d e = rw e (record { comes = refl; held = refl })
    by (accept c) (refuse n) e = record { comes = ap (foreseen_call t c) (refused_by t c _ e); held = refl }
    by (accept c) (accept d) e =
        record {
          comes = planned c _ d (decision_told t ok c (length bs) d e);
          held = held_settled t ok c (length bs) d e;
        }

-- what such a message leaves is sound
pub settled_sound : (t : Tables) → sound t ≡ true → (x : Sent) (d : Outcome Decision) → Judged t (foreseen t x) d
    → sound (settled_then t d) ≡ true
settled_sound t ok x d k = ap (λ (w : Foreseen). sound w.tables) (sym k.comes) ∙ foreseen_sound t ok x

-- ---- the loop

-- the figures as they stand
abbrev pub figures : ℕ → ℕ → List ℕ → Forecast
figures most laid counts = record { number = accepted; most = most; laid = laid; counts = counts }

-- where the loop stands on tables t, begun on t₀: the rules hold, the frames held are counted, and the rest gives what
-- the whole does
pub record Foreseeing (file : List ℕ) (t₀ : Tables) (at : ℕ) (t : Tables) (held most laid : ℕ) (counts : List ℕ)
    : Type 0 where
  pub keeps : sound t ≡ true
  pub counted : held ≡ frames_held t
  pub top : held ≤ most
  pub limited : laid ≤ 4294967295
  pub long : length counts ≡ numbers_counted
  pub rest : forecast_of (figures most laid counts) t (messages_of (drop at file))
      ≡ forecast_of (at_start t₀) t₀ (messages_of file)

same_figures : {most most' laid laid' : ℕ} {counts counts' : List ℕ} → most ≡ most' → laid ≡ laid' → counts ≡ counts'
    → figures most laid counts ≡ figures most' laid' counts'
same_figures p q r = cc

forecast_step : (f : Forecast) (t : Tables) (x : Sent) (xs : List Sent)
    → forecast_of f t (x ∷ xs) ≡ forecast_of (with_message f (foreseen t x)) (foreseen t x).tables xs
unfolding forecast_of
forecast_step f t x xs = refl

forecast_end : (f : Forecast) (t : Tables) → f ≡ forecast_of f t []
unfolding forecast_of
forecast_end f t = refl

module _ {file : List ℕ} {t₀ : Tables} {at : ℕ} {t : Tables} {held most laid : ℕ} {counts : List ℕ}
    (q : Foreseeing file t₀ at t held most laid counts) (next : Next) (found : next ≡ next_at file at) where
  -- after a message, of which the reader says what follows, and which comes to m
  pub foreseeing_on : (m : Foreseen) (t' : Tables) (held' most' laid' : ℕ) (counts' : List ℕ) → is_end next ≡ false
      → foreseen t (sent_by file next) ≡ m → t' ≡ m.tables → held' ≡ frames_held t' → most' ≡ max most held'
      → laid' ≡ up_to laid m.laid → counts' ≡ counted_under counts m.number
      → Foreseeing file t₀ (past_of (length file) next) t' held' most' laid' counts'
  foreseeing_on m t' held' most' laid' counts' goes is et eh em el ec =
      let x = sent_by file next in
      let f = follows file at next found goes in
      let tables : t' ≡ (foreseen t x).tables = et ∙ ap (λ (w : Foreseen). w.tables) (sym is) in
      let one : figures most' laid' counts' ≡ with_message (figures most laid counts) (foreseen t x) =
      rw is (same_figures (em ∙ ap (max most) (eh ∙ ap frames_held et)) el ec) in
      record {
        keeps = ap sound tables ∙ foreseen_sound t q.keeps x;
        counted = eh;
        top = omega arith;
        limited = rw el (stops laid m.laid);
        long = rw ec (length-set counts m.number _ ∙ q.long);
        rest =
            rw (one, tables)
            (sym (forecast_step (figures most laid counts) t x (messages_of (drop (past_of (length file) next) file))))
            ∙ ap (forecast_of (figures most laid counts) t) (sym f.messages)
            ∙ q.rest;
      }

  -- at the end
  pub foreseeing_none : is_end next ≡ true → figures most laid counts ≡ forecast_of (at_start t₀) t₀ (messages_of file)
  foreseeing_none h =
      let none : messages_of (drop at file) ≡ [] =
      reader_yields file at ∙ ap (yielded file) (sym found) ∙ none_left file next h in
      forecast_end (figures most laid counts) t ∙ ap (forecast_of (figures most laid counts) t) (sym none) ∙ q.rest
