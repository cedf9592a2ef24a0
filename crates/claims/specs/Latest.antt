-- No old copy ever becomes current. Source document 001: "A COPY is MOST_RECENT if no other COPY of the same PAGE has
-- been modified more recently than this COPY." The kernel's copies beside the history of their page, in every state of
-- a run.
use Rattle.std.specs.Prelude.{ℕ, suc, ◌*◌, ◌≤◌, ◌<◌, ◌≡◌, Bool, true, false, not, ◌||◌, List, [], ◌∷◌, map, length, eqb}
use Rattle.tables.specs.declared.Copy.{Copy}
use Rattle.tables.specs.declared.Page.{Page}
use Rattle.tables.specs.Lists.{all, count, Each}
use Rattle.tables.specs.Model.{copies_in_use, absent, page_at, fresh_tables}
use Rattle.steps.specs.declared.Call.{Call}
use Rattle.steps.specs.Kinds.{is_read}
use Rattle.steps.specs.Stores.{part, contents}
use Rattle.steps.specs.Effects.{State, joined, data_of}
use Rattle.steps.specs.Promises.{state_of}
use Rattle.steps.specs.Steps.{accept}
use Rattle.messages.specs.Replies.{is_refusal}
use Rattle.messages.specs.Run.{Sent, asked, Turn, Run}
use Rattle.theorems.specs.Hidden.{run_over}
use Rattle.claims.specs.History.{CopyHistory, PageHistory, absent_history, copy_of, history_after}

-- ---- the history beside a run

abbrev pub next_history : ℕ → ℕ → Turn → PageHistory → PageHistory
next_history q n t h = history_after q n t.sent (is_refusal t.outcome) h

-- What is so of every state of a run, and of every turn, beside the history of page q at that point; the next message
-- is number n.
abbrev pub Along : ℕ → (PageHistory → State → Type 0) → (PageHistory → Turn → Type 0) → ℕ → PageHistory → List Turn
    → State → Type 0
Along q X Y n h [] end = X h end
Along q X Y n h (t ∷ ts) end = X h t.found × (Y h t × Along q X Y (suc n) (next_history q n t h) ts end)

-- ---- of a state

abbrev pub carries_last : PageHistory → CopyHistory → Bool
carries_last h c = eqb c.carries.message h.last.message

-- a copy as the tables should have it: MOST RECENT exactly if it carries the last accepted write to its page
abbrev pub as_copy : PageHistory → CopyHistory → Copy
as_copy h c = record { frame = c.frame; current = c.current; recent = carries_last h c }

-- of a page with the record g, where the joined stores are st
pub record Latest (h : PageHistory) (st : List ℕ) (g : Page) : Type 0 where
  pub standing : absent g ≡ not h.stands
  -- the tables have these copies, in this order, with these marks
  pub copies : copies_in_use g ≡ map (as_copy h) h.copies
  -- every CURRENT copy carries the last accepted write
  pub current_last : all (λ (c : CopyHistory). not c.current || carries_last h c) h.copies ≡ true
  -- and on a page that stands one copy does
  pub some_last : h.stands ≡ true → 1 ≤ count (carries_last h) h.copies
  -- each copy, a stale one too, holds the page's bytes as they were after the write that it carries: "Each COPY
  -- contains the data that was associated with the PAGE at some point in time"
  pub bytes : Each (λ (c : CopyHistory). contents st (as_copy h c) ≡ c.carries.bytes) h.copies

-- ---- of an accepted read c

pub record ReadLast (h : PageHistory) (t : Turn) (c : Call) : Type 0 where
  -- it shows bytes of a copy that is CURRENT
  pub from : ℕ
  pub one_of : from < length h.copies
  pub is_current : (copy_of h from).current ≡ true
  pub shown : data_of t.outcome
      ≡ part (contents (joined t.found) (as_copy h (copy_of h from))) c.offset c.count
  -- and carries the last accepted write
  pub carries_last_write : (copy_of h from).carries ≡ h.last
  -- so that they are the page's bytes after that write
  pub latest : data_of t.outcome ≡ part h.last.bytes c.offset c.count

abbrev pub ReadsLast : ℕ → PageHistory → Turn → Type 0
ReadsLast q h t =
    (c : Call) → asked t.sent ≡ accept c → is_read c.kind ≡ true → c.page ≡ q → is_refusal t.outcome ≡ false
    → ReadLast h t c

-- ---- the theorem

-- of page q, in every state and every turn of a run from fresh tables on
abbrev pub AllLatest : ℕ → Run → Type 0
AllLatest q r =
    Along q (λ h s. Latest h (joined s) (page_at s.tables q)) (ReadsLast q) 1 absent_history r.turns r.final

-- The run over any messages, those of a file or of several one after the other, whoever sent them, from fresh tables of
-- any size in range, with stores of any contents and a reply buffer of any length.
abbrev pub NoOldCopy : Type 0
NoOldCopy =
    (p s room q : ℕ) (fast slow : List ℕ) (xs : List Sent) → p ≤ 127 → s ≤ 127 → length fast ≡ 64 * p
    → length slow ≡ 64 * s → q < 64 → AllLatest q (run_over room xs (state_of (fresh_tables p s) fast slow))
