-- Cards leave the mill clean. In order: one message; the messages of a file; a card, whose bytes are those of its
-- frames.
use Prim.Native.Nat.{ℕ, zero, suc, ◌+◌, ◌-◌, ◌*◌, ◌≤◌, ◌<◌}
use mathlib.Core.Path.{◌≡◌, refl, sym, ap, ap₂, ◌∙◌}
use mathlib.Core.Bool.{Bool, true, false, not, ◌||◌, cond, or-true, or-false}
use mathlib.Core.List.{List, [], ◌∷◌, ◌++◌}
use native.Mathlib.Omega.{arith}
use lib.ListN.{length, take, drop, replicate, length-drop, length-replicate, replicate-append-replicate, take-append-drop}
use lib.Seq.{take_at, drop_at, drop-drop}
use lib.Dec.{eqb}
use borrow.Author.Tests.{eqb-true, not-false}
use Rattle.tables.specs.declared.Shared.{Shared}
use Rattle.tables.specs.Model.{frames, fresh_tables, page_at}
use Rattle.tables.specs.Rules.{holders, is_held}
use Rattle.tables.specs.Changes.{changed, edited, after}
use Rattle.tables.proofs.ListLaws.{or_left}
use Rattle.tables.proofs.RuleLaws.{sound_of}
use Rattle.tables.proofs.UsesLaws.{holders_at, holders_after}
use Rattle.steps.specs.declared.Call.{Call}
use Rattle.steps.specs.Stores.{part, block, zeros}
use Rattle.steps.specs.declared.Plan.{Plan}
use Rattle.steps.specs.Steps.{Outcome, refuse, accept, mapped, page_for}
use Rattle.steps.specs.Effects.{State, joined, carried_out, step, left}
use Rattle.steps.proofs.StoreLaws.{part_right}
use Rattle.steps.proofs.ClearLaws.{on, frees_clears}
use Rattle.steps.proofs.DecideLaws.{IfAccepted, if_accepted}
use Rattle.steps.proofs.DecisionLaws.{page_near}
use Rattle.steps.proofs.StepLaws.{joined_long, Sure, sure}
use Rattle.messages.specs.Run.{Sent, left_by, turns_of, end_of, messages_of}
use Rattle.theorems.specs.Clean.{ever_held, Blank, NoneHeld, Clean}
use Rattle.theorems.proofs.Frames.{by_message, left_frames, end_frames, end_long}

-- ---- one message

module _ (s : State) (f : ℕ) (low : f < frames s.tables) where
  -- frame f in a state that s leads to
  abbrev Cleared : State → Type 0
  Cleared s' = is_held s'.tables f ≡ false → block (joined s') f ≡ cond (is_held s.tables f) zeros (block (joined s) f)

  same : Cleared s
  same none = rw none refl

  by_call : (c : Call) (bs : List ℕ) → Cleared (left s (step s c bs))
  unfolding step
  by_call c bs = go _ (sure s c bs)
    where
      go : (o : Outcome Plan) → IfAccepted (Sure s c bs) o → Cleared (left s (mapped (carried_out s c bs) o))
      go (refuse n) k = same
      go (accept plan) (if_accepted u) = λ none.
          let t = s.tables in
          let g = page_at t (page_for c) in
          let ok = u.plan_ok in
          let gone : holders (after t (edited t (page_for c) plan.edit plan.retires)) f ≡ 0 = eqb-true _ 0 (not-false _ none) in
          let pages : page_for c < length t.pages = rw (sound_of t u.good.tables_sound).paged.pages_long (page_near c) in
          let moved = holders_after t f (page_for c) (changed g plan.edit) plan.retires pages in
          let own = holders_at t f (page_for c) in
          let z : on f (changed g plan.edit) ≡ 0 = omega arith in
          let mine : holders t f ≡ on f g = omega arith in
          ap (λ (st : List ℕ). block st f) (take-append-drop (length s.fast) _)
          ∙ frees_clears (frames t) plan.len (length bs) g (changed g plan.edit) plan.work ok.inside ok.frees bs (joined s) refl
          (joined_long u.good) f low z
          ∙ ap (λ (n : ℕ). cond (not (eqb n 0)) zeros (block (joined s) f)) (sym mine)

  message_clean : (room : ℕ) (x : Sent) → Cleared (left_by room s x)
  message_clean = by_message s Cleared same by_call

-- ---- the messages of a file

module _ (room f : ℕ) where
  -- a frame that none of the turns found held, and that is not held at the end, is not held at their start
  never : (xs : List Sent) (s : State) → is_held (end_of room s xs).tables f ≡ false → ever_held (turns_of room s xs) f ≡ false
      → is_held s.tables f ≡ false
  unfolding turns_of end_of
  never [] s end none = end
  never (x ∷ xs) s end none = or_left (is_held s.tables f) _ none

  pub messages_clean : (xs : List Sent) (s : State) → f < frames s.tables → is_held (end_of room s xs).tables f ≡ false
      → block (joined (end_of room s xs)) f ≡ cond (ever_held (turns_of room s xs) f) zeros (block (joined s) f)
  unfolding turns_of end_of
  messages_clean [] s low end = refl
  messages_clean (x ∷ xs) s low end =
      let s' : State = left_by room s x in
      let kept : s'.tables.shared ≡ s.tables.shared = left_frames room s x in
      let low' : f < frames s'.tables = rw (ap (λ (a : Shared). a.p + a.s) kept) low in
      messages_clean xs s' low' end ∙ go (ever_held (turns_of room s' xs) f) (never xs s' end) (message_clean s f low room x)
    where
      go : (v : Bool) → (v ≡ false → is_held (left_by room s x).tables f ≡ false)
          → (is_held (left_by room s x).tables f ≡ false → block (joined (left_by room s x)) f ≡ cond (is_held s.tables f) zeros (block (joined s) f))
          → cond v zeros (block (joined (left_by room s x)) f) ≡ cond (is_held s.tables f || v) zeros (block (joined s) f)
      go true h k = rw (or-true (is_held s.tables f)) refl
      go false h k = rw (or-false (is_held s.tables f)) (k (h refl))

-- ---- a card

-- bytes of which every 64 are zeros are zeros
all_zeros : (n : ℕ) (l : List ℕ) → length l ≡ 64 * n → ((j : ℕ) → j < n → block l j ≡ zeros) → l ≡ replicate (64 * n) 0
unfolding part
all_zeros zero [] long each = refl
all_zeros zero (a ∷ l) long each = absurd (omega arith)
all_zeros (suc n) l long each =
    let rest = length-drop 64 l in
    sym (take-append-drop 64 l)
    ∙ ap₂ (λ (x y : List ℕ). x ++ y) (each 0 (omega arith))
    (all_zeros n (drop 64 l) (omega arith) (λ j h. ap (take 64) (shift j) ∙ each (suc j) (omega arith)))
    ∙ replicate-append-replicate {A = ℕ} 64 (64 * n) 0
    ∙ ap (λ (k : ℕ). replicate {A = ℕ} k 0) more
  where
    shift : (j : ℕ) → drop (64 * j) (drop 64 l) ≡ drop (64 * suc j) l
    shift j = let e : 64 + 64 * j ≡ 64 * suc j = omega arith in drop-drop (64 * j) 64 l ∙ ap (λ (k : ℕ). drop k l) e

    more : 64 + 64 * n ≡ 64 * suc n
    more = omega arith

-- and so is every frame of a store of zeros
zeros_at : (n j : ℕ) → j < n → block (replicate (64 * n) 0) j ≡ zeros
unfolding part
zeros_at n j h =
    let split : 64 * n ≡ 64 * j + (64 + (64 * n - (64 * j + 64))) = omega arith in
    ap (λ (k : ℕ). take 64 (drop (64 * j) (replicate k 0))) split ∙ go (64 * n - (64 * j + 64))
  where
    go : (m : ℕ) → take 64 (drop (64 * j) (replicate (64 * j + (64 + m)) 0)) ≡ zeros
    go m =
        rw (← replicate-append-replicate {A = ℕ} (64 * j) (64 + m) 0, ← replicate-append-replicate {A = ℕ} 64 m 0)
        (ap (take 64) (drop_at (replicate (64 * j) 0) (zeros ++ replicate m 0) (64 * j) (length-replicate (64 * j) 0)) ∙ take_at zeros (replicate m 0) 64 refl)

-- a slow frame is a part of the slow store
slow_block : (p : ℕ) (x y : List ℕ) → length x ≡ 64 * p → (j : ℕ) → block (x ++ y) (p + j) ≡ block y j
slow_block p x y long j =
    let e : 64 * (p + j) ≡ length x + 64 * j = omega arith in
    ap (λ (k : ℕ). part (x ++ y) k 64) e ∙ part_right x y (64 * j) 64

-- a frame that was held at any time has zeros, and else those of a blank card
pub stays_blank : (room : ℕ) (xs : List Sent) (s : State) → Blank s → Blank (end_of room s xs)
stays_blank room xs s blank f slow low end =
    let same = end_frames room xs s in
    let low' : f < frames s.tables = rw (ap (λ (a : Shared). a.p + a.s) same) at low in
    let slow' : s.tables.shared.p ≤ f = rw (ap (λ (a : Shared). a.p) same) at slow in
    messages_clean room f xs s low' end
    ∙ go (ever_held (turns_of room s xs) f) (λ none. blank f slow' low' (never room f xs s end none))
  where
    go : (v : Bool) → (v ≡ false → block (joined s) f ≡ zeros) → cond v zeros (block (joined s) f) ≡ zeros
    go true h = refl
    go false h = h refl

pub fresh_blank : (p s : ℕ) (fast : List ℕ) → length fast ≡ 64 * p → Blank (record { tables = fresh_tables p s; fast = fast; slow = replicate (64 * s) 0 })
unfolding fresh_tables
fresh_blank p s fast long f slow low none =
    let e : f ≡ p + (f - p) = omega arith in
    ap (block (fast ++ replicate (64 * s) 0)) e ∙ slow_block p fast (replicate (64 * s) 0) long (f - p) ∙ zeros_at s (f - p) (omega arith)

pub card_cleared : (room : ℕ) (xs : List Sent) (s : State) → length s.fast ≡ 64 * s.tables.shared.p
    → length s.slow ≡ 64 * s.tables.shared.s → Blank s → NoneHeld (end_of room s xs).tables
    → (end_of room s xs).slow ≡ replicate (64 * s.tables.shared.s) 0
card_cleared room xs s fits_fast fits_slow blank none =
    let p = s.tables.shared.p in
    let t : State = end_of room s xs in
    let same = end_frames room xs s in
    let slow : t.tables.shared.p ≡ p = ap (λ (a : Shared). a.p) same in
    let all : t.tables.shared.s ≡ s.tables.shared.s = ap (λ (a : Shared). a.s) same in
    let l = end_long room xs s in
    all_zeros s.tables.shared.s t.slow (l.1 ∙ fits_slow) (λ j h.
    sym (slow_block p t.fast t.slow (l.0 ∙ fits_fast) j)
    ∙ stays_blank room xs s blank (p + j) (omega arith) (omega arith) (none (p + j) (omega arith) (omega arith)))

pub clean : Clean
clean =
    record {
      runs = λ room file s.
          record {
            frames_cleared = λ f low end. messages_clean room f (messages_of file) s low end;
            stays_blank = stays_blank room (messages_of file) s;
            card_cleared = card_cleared room (messages_of file) s;
          };
      fresh_blank = fresh_blank;
    }
