-- That no old copy becomes current, and the claims of source document 001, as a program in C holds them: of the state
-- in the bytes that it keeps, from `reel_fresh` on, after any calls in any order.
use Rattle.std.specs.Prelude.{ℕ, ◌<◌, ◌≡◌, true, List}
use Rattle.claims.specs.Latest.{AllLatest}
use Rattle.claims.specs.Note.{seen, Claims}
use Rattle.claims.specs.Placement.{from_placement, PagesSafe}
use Rattle.embed.specs.Exports.{Kept, state_in}
use Rattle.callers.specs.Calls.{Called, Calls, kept_after, messages_through}
use Rattle.callers.specs.Lent.{FromFresh}
use Rattle.callers.specs.Hidden.{run_through}

-- a statement X of what calls came to, as one run
abbrev pub OfCalls : (Kept → List Called → Type 0) → Type 0
OfCalls X = FromFresh (λ p s fast slow k. (cs : List Called) → Calls k cs → X k cs)

pub record ClaimsLent : Type 0 where
  pub all_latest : OfCalls (λ k cs. (q : ℕ) → q < 64 → AllLatest q (run_through k cs))
  pub note_claims : OfCalls (λ k cs. Claims 70 (run_through k cs))
  pub pages_safe : OfCalls (λ k cs. PagesSafe (run_through k cs).final)
  -- and after further calls, whose messages are all from placement, every page is as it was
  pub pages_kept : OfCalls (λ k cs. (cs' : List Called) → Calls (kept_after k cs) cs'
      → from_placement (messages_through cs') ≡ true → (q : ℕ) → q < 64
      → seen (state_in (kept_after (kept_after k cs) cs')) q ≡ seen (state_in (kept_after k cs)) q)
