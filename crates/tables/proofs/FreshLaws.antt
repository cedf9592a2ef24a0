-- Fresh tables meet the table rules, and no frame of theirs is used.
use Rattle.std.specs.Prelude.{MatchResult, Result, Ok, Err}
use Rattle.tables.specs.declared.Tables.{Tables}
use Rattle.tables.specs.declared.TooManyFrames.{TooManyFrames}
use Prim.Native.Nat.{ℕ, zero, suc, ◌+◌, ◌≤◌}
use mathlib.Core.Bool.{true}
use mathlib.Core.Path.{◌≡◌, refl}
use native.Mathlib.Omega.{arith}
use lib.ListN.{replicate, length-replicate, get_or-replicate}
use Rattle.tables.specs.Lists.{count}
use Rattle.tables.specs.Model.{free_entry, copies_in_use, fresh_page, fresh_tables, zero_page, on_frame, made_by}
use Rattle.tables.specs.Rules.{uses, holders, sound}
use Rattle.tables.proofs.HolderLaws.{nobody}
use Rattle.tables.proofs.RuleLaws.{fresh_page_ok, of_sound}

-- an absent page has no copy
pub fresh_on : (f : ℕ) → count (on_frame f) (copies_in_use fresh_page) ≡ 0
unfolding fresh_page count
fresh_on f = refl

-- absent pages use no frame
pub uses_fresh : (f n : ℕ) → uses f (replicate n fresh_page) ≡ 0
unfolding uses
uses_fresh f zero = refl
uses_fresh f (suc n) = let k = uses_fresh f n in let g = fresh_on f in omega arith

-- fresh tables are sound
pub fresh_sound : (p s : ℕ) → p ≤ 127 → s ≤ 127 → sound (fresh_tables p s) ≡ true
unfolding fresh_tables holders
fresh_sound p s hp hs =
    of_sound (fresh_tables p s)
    (record {
      sizes = record { fast_ok = hp; slow_ok = hs };
      paged =
          record {
            pages_long = length-replicate 64 fresh_page;
            page_ok = λ k h. rw (get_or-replicate 64 k fresh_page zero_page h) (fresh_page_ok (p + s));
          };
      once = λ f h. let k = uses_fresh f 64 in omega arith;
      right =
          record {
            register_long = length-replicate 254 free_entry;
            entry_ok = λ f h. rw (get_or-replicate 254 f free_entry free_entry h, nobody f 0 (replicate 64 fresh_page) (uses_fresh f 64));
          };
    })

-- what `unwrap_or_else` takes of the answer, where the closure gives the tables that stand in place of those refused
pub taken : {X : TooManyFrames → Type 0} (r : Result Tables TooManyFrames) (t : Tables) → MatchResult r (λ (made : Tables). t ≡ made) X
    → ((e : TooManyFrames) → X e → t ≡ e.instead) → t ≡ (made_by r).tables
taken (Ok made) t h by = h
taken (Err e) t h by = by e h
