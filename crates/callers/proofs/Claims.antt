-- What is so of every run from fresh tables is so of what any calls came to.
use Prim.Native.Nat.{ℕ, ◌*◌, ◌≤◌, ◌<◌}
use mathlib.Core.Path.{◌≡◌, ap, ◌∙◌, sym, subst}
use mathlib.Core.Bool.{true}
use mathlib.Core.List.{List}
use lib.ListN.{length}
use Rattle.tables.specs.Model.{fresh_tables}
use Rattle.steps.specs.Effects.{State}
use Rattle.steps.specs.Promises.{state_of}
use Rattle.messages.specs.Run.{Sent, Run}
use Rattle.theorems.specs.Hidden.{run_over}
use Rattle.claims.specs.Latest.{AllLatest}
use Rattle.claims.specs.Note.{seen, Claims}
use Rattle.claims.specs.Placement.{from_placement, PagesSafe}
use Rattle.claims.proofs.NoOldCopy.{no_old_copy}
use Rattle.claims.proofs.Note.{note_claims}
use Rattle.claims.proofs.Placement.{placement}
use Rattle.embed.specs.Exports.{state_in}
use Rattle.callers.specs.Calls.{Called, Calls, kept_after, messages_through}
use Rattle.callers.specs.Hidden.{run_through}
use Rattle.callers.specs.Claims.{OfCalls, ClaimsLent}
use Rattle.callers.proofs.Calls.{through}
use Rattle.callers.proofs.Lent.{k₀, fresh, start}
use Rattle.callers.proofs.HiddenLaws.{came_to}

-- X of every run from fresh tables
of_calls : (X : Run → Type 0)
    → ((p s : ℕ) (fast slow : List ℕ) (xs : List Sent) → p ≤ 127 → s ≤ 127 → length fast ≡ 64 * p
    → length slow ≡ 64 * s
    → X (run_over 70 xs (state_of (fresh_tables p s) fast slow)))
    → OfCalls (λ k cs. X (run_through k cs))
of_calls X h p s b fast slow e lp ls cs calls =
    let xs : List Sent = messages_through cs in
    let begin = start p s b fast slow e lp ls in
    let low = fresh p s b fast slow e lp ls in
    let q = through (k₀ p s b fast slow e lp ls) cs begin.sane calls in
    subst X
    (ap (run_over 70 xs) (sym begin.state_is) ∙ came_to (k₀ p s b fast slow e lp ls) cs q xs q.turns_are)
    (h p s fast slow xs low.fast_low low.slow_low lp ls)

-- further calls, with messages from placement
placement_kept : OfCalls (λ k cs. (cs' : List Called) → Calls (kept_after k cs) cs'
    → from_placement (messages_through cs') ≡ true → (q : ℕ) → q < 64
    → seen (state_in (kept_after (kept_after k cs) cs')) q ≡ seen (state_in (kept_after k cs)) q)
placement_kept p s b fast slow e lp ls cs calls cs' calls' from q near =
    let k = k₀ p s b fast slow e lp ls in
    let t = through k cs (start p s b fast slow e lp ls).sane calls in
    let t' = through (kept_after k cs) cs' t.sane calls' in
    let safe = of_calls (λ (r : Run). PagesSafe r.final) (λ p s fast slow xs. placement p s 70 fast slow xs) p s b
    fast slow e lp ls cs calls in
    ap (λ (x : State). seen x q) t'.state_is ∙ safe.pages_kept 70 (messages_through cs') from q near

pub claims_lent : ClaimsLent
claims_lent =
    record {
      all_latest = λ p s b fast slow e lp ls cs calls q near.
          of_calls (AllLatest q) (λ p s fast slow xs hp hs lp ls.
          no_old_copy p s 70 q fast slow xs hp hs lp ls near) p s b
          fast slow e lp ls cs calls;
      note_claims = of_calls (Claims 70) (λ p s fast slow xs. note_claims.of_runs p s 70 fast slow xs);
      pages_safe = of_calls (λ (r : Run). PagesSafe r.final) (λ p s fast slow xs. placement p s 70 fast slow xs);
      pages_kept = placement_kept;
    }
