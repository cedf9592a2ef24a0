-- Document 02 speaks of what is true "after any call file run on sound tables": the tables are sound there, and in
-- every state on the way.
use Rattle.std.specs.Prelude.{ℕ, ◌≡◌, true, List, [], ◌∷◌, length}
use Rattle.tables.specs.Rules.{sound}
use Rattle.steps.specs.Steps.{rules_number}
use Rattle.steps.specs.Effects.{State}
use Rattle.messages.specs.Run.{Turn, run}

-- what is so of every state of a run: of each that a turn found, and of the one at its end
abbrev pub EveryState : (State → Type 0) → List Turn → State → Type 0
EveryState X [] end = X end
EveryState X (t ∷ ts) end = X t.found × EveryState X ts end

-- 5 or 6 for the tables and stores of a state, and else 0
abbrev pub rules_on : State → ℕ
rules_on s = rules_number s.tables (length s.fast) (length s.slow)

-- of any file, with a reply buffer of any length
pub record StaysSound : Type 0 where
  -- whatever the lengths of the stores are
  pub every_sound : (room : ℕ) (file : List ℕ) (s : State) → sound s.tables ≡ true
      → EveryState (λ s'. sound s'.tables ≡ true) (run room file s).turns (run room file s).final
  -- on any tables: no message mends broken tables or a misfit store, or makes them so
  pub every_ruled : (room : ℕ) (file : List ℕ) (s : State)
      → EveryState (λ s'. rules_on s' ≡ rules_on s) (run room file s).turns (run room file s).final
