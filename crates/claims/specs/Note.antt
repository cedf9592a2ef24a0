-- Source document 001: what its author argues of the model, each claim with its sentence, of every state and every turn
-- of a run. "At this writing, no formal proof of security has been obtained". That a message changes no more of a page
-- than document 01 says is demand 3; here it is who may change and who may see a page.
use Rattle.std.specs.Prelude.{ℕ, ◌*◌, ◌≤◌, ◌<◌, ◌≡◌, Bool, true, false, not, ◌&&◌, ◌||◌, cond, List, [], ◌∷◌, ◌++◌, length, leb, eqb}
use Rattle.tables.specs.declared.Copy.{Copy}
use Rattle.tables.specs.declared.Page.{Page}
use Rattle.tables.specs.Lists.{count, Each}
use Rattle.tables.specs.Model.{is_null, copies_in_use, absent, fresh_copy, page_at, fresh_tables}
use Rattle.tables.specs.Rules.{is_recent}
use Rattle.steps.specs.declared.Kind.{Kind}
use Rattle.steps.specs.declared.Kind.TheVariants.{Create, DeletePage, Grant, Write}
use Rattle.steps.specs.declared.Call.{Call}
use Rattle.steps.specs.Kinds.{kind_number, is_read}
use Rattle.steps.specs.Stores.{contents}
use Rattle.steps.specs.Steps.{Outcome, refuse, accept, right_of, owns, copy_at}
use Rattle.steps.specs.Effects.{State, joined, Result, left}
use Rattle.steps.specs.Promises.{state_of}
use Rattle.messages.specs.Replies.{reply_in, is_refusal}
use Rattle.messages.specs.Run.{Sent, asked, answer, Turn, Run}
use Rattle.theorems.specs.Flat.{Slot, gone, here}
use Rattle.theorems.specs.Sound.{EveryState}
use Rattle.theorems.specs.Hidden.{run_over, Hidden}
use Rattle.claims.specs.History.{is_of}

-- ---- the data of a page

-- the first of some copies of which f holds
unfoldable pub first_of : (Copy → Bool) → List Copy → Copy
first_of f [] = fresh_copy
first_of f (c ∷ cs) = cond (f c) c (first_of f cs)

-- page q as stations know it: absent, or its owner, its rights and its data, which are those of its first MOST RECENT
-- copy; a page that stands has one, though it may have none that is CURRENT
abbrev pub seen : State → ℕ → Slot
seen s q =
    let g = page_at s.tables q in
    cond (absent g) gone
    (here (record {
      owner = g.owner;
      rights = g.rights;
      bytes = contents (joined s) (first_of is_recent (copies_in_use g));
    }))

-- the data alone; an absent page has none
abbrev pub data_in : Slot → List ℕ
data_in gone = []
data_in (here b) = b.bytes

-- owner and rights alone
abbrev pub access_in : Slot → List (ℕ × List ℕ)
access_in gone = []
access_in (here b) = (b.owner, b.rights) ∷ []

-- ---- of every state

-- the copies of a page with the record g, where the joined stores are st
pub record CopiesAgree (st : List ℕ) (g : Page) : Type 0 where
  -- "all MOST_RECENT COPYs must have identical DATA"; a null copy counts as 64 zeros
  pub recent_same : (i j : ℕ) → i < g.n → j < g.n → (copy_at g i).recent ≡ true → (copy_at g j).recent ≡ true
      → contents st (copy_at g i) ≡ contents st (copy_at g j)
  -- "all CURRENT COPYs of a PAGE must have identical DATA"
  pub current_same : (i j : ℕ) → i < g.n → j < g.n → (copy_at g i).current ≡ true → (copy_at g j).current ≡ true
      → contents st (copy_at g i) ≡ contents st (copy_at g j)
  -- "The set of CURRENT COPYs is a subset of the set of MOST_RECENT COPYs"
  pub current_recent : (i : ℕ) → i < g.n → (copy_at g i).current ≡ true → (copy_at g i).recent ≡ true
  -- "There is always at least one COPY that has the data associated with the PAGE for the current time"
  pub some_recent : absent g ≡ false → 1 ≤ count is_recent (copies_in_use g)
  -- a null copy, which has no frame: "The COPY is MOST_RECENT, but is not CURRENT and cannot be made CURRENT"
  pub null_recent : (i : ℕ) → i < g.n → is_null (copy_at g i) ≡ true
      → ((copy_at g i).recent ≡ true) × ((copy_at g i).current ≡ false)

-- ---- of every turn

-- whether a message is a call of page q that f lets pass
abbrev pub asks_for : ℕ → (Call → Bool) → Outcome Call → Bool
asks_for q f (refuse n) = false
asks_for q f (accept c) = is_of q c && f c

-- whether a turn is an accepted call of page q that is entitled to what it does, by the page's record as the turn found
-- that
abbrev pub is_entitled : (Page → Call → Bool) → Turn → ℕ → Bool
is_entitled entitled t q =
    not (is_refusal t.outcome) && asks_for q (entitled (page_at t.found.tables q)) (asked t.sent)

abbrev pub is_kind : Kind → Call → Bool
is_kind k c = eqb (kind_number c.kind) (kind_number k)

abbrev pub by_owner : Page → Call → Bool
by_owner g c = not (absent g) && owns g c.station

-- to modify the data: the page's creation, a write with right 2, and its owner's delete
abbrev pub to_modify : Page → Call → Bool
to_modify g c =
    (is_kind Create c && absent g)
    || ((is_kind Write c && (not (absent g) && eqb (right_of g c.station) 2)) || (is_kind DeletePage c && by_owner g c))

-- to change owner or rights: the page's creation, its owner's grant, and its owner's delete
abbrev pub to_rule : Page → Call → Bool
to_rule g c = (is_kind Create c && absent g) || ((is_kind Grant c || is_kind DeletePage c) && by_owner g c)

-- to have the data: a read with right 1 or 2
abbrev pub to_read : Page → Call → Bool
to_read g c = is_read c.kind && (not (absent g) && leb 1 (right_of g c.station))

-- the CURRENT copies of a page with the record g hold the same in the joined stores st and st'
abbrev pub SameContents : List ℕ → List ℕ → Page → Type 0
SameContents st st' g =
    (k : ℕ) → k < g.n → (copy_at g k).current ≡ true → contents st (copy_at g k) ≡ contents st' (copy_at g k)

-- of a turn, with a reply buffer of `room` bytes, of a kernel that answers messages so
pub record Secure (kernel : State → Sent → Outcome Result) (room : ℕ) (t : Turn) : Type 0 where
  -- "no unauthorized modification of information"
  pub data_kept : (q : ℕ) → q < 64 → is_entitled to_modify t q ≡ false
      → data_in (seen (left t.found t.outcome) q) ≡ data_in (seen t.found q)
  -- and of owner and rights, by which modification and access are authorised
  pub access_kept : (q : ℕ) → q < 64 → is_entitled to_rule t q ≡ false
      → access_in (seen (left t.found t.outcome) q) ≡ access_in (seen t.found q)
  -- "no unauthorized direct access to information": unless the turn is entitled to read a page, its reply is
  -- the same whatever the stores hold
  pub reply_blind : ((q : ℕ) → q < 64 → is_entitled to_read t q ≡ false) → (fast slow : List ℕ)
      → length t.found.fast ≡ length fast → length t.found.slow ≡ length slow
      → reply_in room t.outcome ≡ reply_in room (kernel (state_of t.found.tables fast slow) t.sent)
  -- and where it is, the reply is the same whatever they hold but for that page's CURRENT copies
  pub read_own : (q : ℕ) → q < 64 → is_entitled to_read t q ≡ true → (fast slow : List ℕ)
      → length t.found.fast ≡ length fast → length t.found.slow ≡ length slow
      → SameContents (joined t.found) (fast ++ slow) (page_at t.found.tables q)
      → reply_in room t.outcome ≡ reply_in room (kernel (state_of t.found.tables fast slow) t.sent)

-- ---- the theorem

pub record Claims (room : ℕ) (r : Run) : Type 0 where
  pub every_state : EveryState (λ s. (q : ℕ) → q < 64 → CopiesAgree (joined s) (page_at s.tables q)) r.turns
      r.final
  pub every_turn : Each (Secure (answer room) room) r.turns

pub record NoteClaims : Type 0 where
  -- the run over any messages, those of a file or of several one after the other, whoever sent them, from fresh tables
  -- of any size in range, with stores of any contents and a reply buffer of any length
  pub of_runs : (p s room : ℕ) (fast slow : List ℕ) (xs : List Sent) → p ≤ 127 → s ≤ 127 → length fast ≡ 64 * p
      → length slow ≡ 64 * s → Claims room (run_over room xs (state_of (fresh_tables p s) fast slow))
  -- nor do the tables tell, message after message, what the pages hold: request [7]
  pub over_turns : Hidden
