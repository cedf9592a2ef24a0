-- `decide`, `carry` and `settle` together are the step: by the step layer's own laws of a decision carried out and of a
-- call that is turned back.
use Prim.Native.Nat.{ℕ, ◌≤◌}
use mathlib.Core.Path.{◌≡◌, sym, ap, ◌∙◌}
use mathlib.Core.List.{List}
use lib.ListN.{length}
use Rattle.std.specs.Prelude.{Ok, Err}
use Rattle.tables.specs.declared.Tables.{Tables}
use Rattle.steps.specs.declared.Call.{Call}
use Rattle.steps.specs.Steps.{outcome_of, decide_any}
use Rattle.steps.specs.Effects.{State, moved_by}
use Rattle.steps.specs.Promises.{decision_of, Lent}
use Rattle.steps.proofs.StepLaws.{decide_ruled, step_ruled, step_refused, carries, stepped, stepped_refused}
use Rattle.theorems.specs.Together.{Decided, Carried, IsStep, Together}

any_step : (s : State) (c : Call) (bs out : List ℕ) (r : Decided) (t' : Tables) (fast' slow' out' : List ℕ) → 64 ≤ length out
    → outcome_of r ≡ decision_of s.tables c (decide_any s.tables (length s.fast) (length s.slow) c (length bs))
    → Carried s bs out r t' fast' slow' out' → IsStep s c bs out r t' fast' slow' out'
any_step s c bs out (Ok d) t' fast' slow' out' room is k =
    let q = carries s c bs out d room is in
    record { stepped = stepped s c bs out d q t' fast' slow' out' k.settle_gave k.carry_left; moved_told = q.moved_is }
any_step s c bs out (Err refusal) t' fast' slow' out' room is k =
    let e = k.carry_left in
    let fast : fast' ≡ s.fast = ap (λ (l : Lent). l.fast) e in
    let slow : slow' ≡ s.slow = ap (λ (l : Lent). l.slow) e in
    let same : out' ≡ out = ap (λ (l : Lent). l.out) e in
    record {
      stepped = rw (k.settle_gave, fast, slow, same) (stepped_refused s c bs out refusal is);
      moved_told = sym (ap moved_by (step_refused s c bs is));
    }

pub together : Together
together =
    record {
      decided = λ s c bs out r t' fast' slow' out' ok room is.
          any_step s c bs out r t' fast' slow' out' room
          (is ∙ ap (decision_of s.tables c) (sym (decide_ruled s.tables (length s.fast) (length s.slow) c (length bs) ok)));
      rules_stay = step_ruled;
      decided_any = any_step;
    }
