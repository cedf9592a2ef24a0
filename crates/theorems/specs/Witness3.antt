-- Demand 3: for each field of `Agrees` and of `SamePage` a wrong run that this field rules out and no other does,
-- computed.
use Rattle.std.specs.Prelude.{ℕ, ◌*◌, ◌≤◌, ◌<◌, ◌≡◌, refl, Bool, true, false, List, [], ◌∷◌, map, length, take, get_or, set, replicate, eqb}
use Rattle.std.proofs.Common.{sym, ap, subst, true≢false, arith, get_or-set_other}
use Rattle.std.proofs.lemmas.Bool.{false≢true}
use Rattle.std.proofs.Math.Decide.{ℕ_discrete}
use Rattle.std.proofs.lemmas.List.{get_or-replicate}
use Rattle.tables.specs.declared.Page.{Page}
use Rattle.tables.specs.Lists.{count}
use Rattle.tables.specs.Model.{copies_in_use, absent, fresh_copy, fresh_page, fresh_tables, zero_page, page_at}
use Rattle.tables.specs.Rules.{is_recent}
use Rattle.tables.specs.Changes.{created, with_copies, new_copy, change_to, after}
use Rattle.steps.specs.Kinds.{names, kinds, code, among, argument, call_of}
use Rattle.steps.specs.Stores.{part}
use Rattle.steps.specs.Steps.{refuse, accept}
use Rattle.steps.specs.Effects.{State, joined}
use Rattle.messages.specs.Messages.{parse}
use Rattle.messages.specs.Replies.{reply}
use Rattle.messages.specs.Run.{Sent, whole, split, messages_of, Turn, Run}
use Rattle.theorems.specs.Flat.{FlatPage, Slot, gone, here, slot_at, none, react_as, react_to, Answer}
use Rattle.theorems.specs.Demand3.{sent_in, elevens, flat_after, flat_end, flat_answers, run_answers, dues, Holds, SameSlot, Agrees}
use Rattle.theorems.specs.Cases.{run_on}

-- ruled out where the test holds, and else fulfilled
abbrev pub But : Bool → Type 0 → Type 0
But true A = A → ⊥
But false A = A

-- the fields of `Agrees`, where `pages` is taken apart: which pages stand, and the fields of `SamePage`
pub data Field : Type 0 where
  messages : Field
  answers : Field
  elevens_due : Field
  fast_kept : Field
  slow_kept : Field
  fast_long : Field
  slow_long : Field
  standing : Field
  owners : Field
  rights : Field
  some_recent : Field
  holds : Field

abbrev pub place : Field → ℕ
place messages = 0
place answers = 1
place elevens_due = 2
place fast_kept = 3
place slow_kept = 4
place fast_long = 5
place slow_long = 6
place standing = 7
place owners = 8
place rights = 9
place some_recent = 10
place holds = 11

-- of a page, where the flat memory has one
abbrev pub Beside : (Page → FlatPage → Type 0) → Page → Slot → Type 0
Beside X g gone = Unit {0}
Beside X g (here b) = X g b

abbrev pub Standing : Page → Slot → Type 0
Standing g gone = absent g ≡ true
Standing g (here b) = absent g ≡ false

abbrev pub Owners : Page → Slot → Type 0
Owners = Beside (λ g b. g.owner ≡ b.owner)

abbrev pub Rights : Page → Slot → Type 0
Rights = Beside (λ g b. g.rights ≡ b.rights)

abbrev pub Recent : Page → Slot → Type 0
Recent = Beside (λ g b. 1 ≤ count is_recent (copies_in_use g))

abbrev pub Holding : List ℕ → Page → Slot → Type 0
Holding st = Beside (λ g b. Holds st (copies_in_use g) b.bytes)

module _ (p s room : ℕ) (file : List ℕ) (r : Run) where
  abbrev pub page : ℕ → Page
  page q = page_at r.final.tables q

  abbrev pub slot : ℕ → Slot
  slot q = slot_at (flat_end none (messages_of file) (elevens room r.turns)) q

  abbrev pub OnPages : (Page → Slot → Type 0) → Type 0
  OnPages X = (q : ℕ) → q < 64 → X (page q) (slot q)

  abbrev pub Says : Field → Type 0
  Says messages = map sent_in r.turns ≡ messages_of file
  Says answers = flat_answers none (messages_of file) (elevens room r.turns) ≡ run_answers room r.turns
  Says elevens_due = elevens room r.turns ≡ dues room none r.turns
  Says fast_kept = r.final.tables.shared.p ≡ p
  Says slow_kept = r.final.tables.shared.s ≡ s
  Says fast_long = length r.final.fast ≡ 64 * p
  Says slow_long = length r.final.slow ≡ 64 * s
  Says standing = OnPages Standing
  Says owners = OnPages Owners
  Says rights = OnPages Rights
  Says some_recent = OnPages Recent
  Says holds = OnPages (Holding (joined r.final))

  -- together they are what `Agrees` says
  abbrev pub AllSame : Page → Slot → Type 0
  AllSame = SameSlot (joined r.final)

  by : (X : Page → Slot → Type 0) → ((g : Page) → absent g ≡ true → X g gone)
      → ((g : Page) (b : FlatPage) → AllSame g (here b) → X g (here b)) → OnPages AllSame → OnPages X
  by X away stands k q h = go (slot q) (k q h)
    where
      go : (x : Slot) → AllSame (page q) x → X (page q) x
      go gone e = away (page q) e
      go (here b) e = stands (page q) b e

  pub field_of : Agrees p s room file r → (i : Field) → Says i
  field_of a messages = a.messages
  field_of a answers = a.answers
  field_of a elevens_due = a.elevens_due
  field_of a fast_kept = a.fast_kept
  field_of a slow_kept = a.slow_kept
  field_of a fast_long = a.fast_long
  field_of a slow_long = a.slow_long
  field_of a standing = by Standing (λ g e. e) (λ g b e. e.0) a.pages
  field_of a owners = by Owners (λ g e. tt) (λ g b e. e.1.owners) a.pages
  field_of a rights = by Rights (λ g e. tt) (λ g b e. e.1.rights) a.pages
  field_of a some_recent = by Recent (λ g e. tt) (λ g b e. e.1.some_recent) a.pages
  field_of a holds = by (Holding (joined r.final)) (λ g e. tt) (λ g b e. e.1.holds) a.pages

  pub of_fields : ((i : Field) → Says i) → Agrees p s room file r
  of_fields k =
      record {
        messages = k messages;
        answers = k answers;
        elevens_due = k elevens_due;
        fast_kept = k fast_kept;
        slow_kept = k slow_kept;
        fast_long = k fast_long;
        slow_long = k slow_long;
        pages = λ q h. go (page q) (slot q) (k standing q h) (k owners q h) (k rights q h) (k some_recent q h)
            (k holds q h);
      }
    where
      go : (g : Page) (x : Slot) → Standing g x → Owners g x → Rights g x → Recent g x → Holding (joined r.final) g x
          → AllSame g x
      go g gone e o i c h = e
      go g (here b) e o i c h = (e, record { owners = o; rights = i; some_recent = c; holds = h })

-- every field in turn
pub each : (X : Field → Type 0) → X messages → X answers → X elevens_due → X fast_kept → X slow_kept → X fast_long
    → X slow_long → X standing
    → X owners → X rights → X some_recent → X holds → (i : Field) → X i
each X a b c d e f g h i j k l messages = a
each X a b c d e f g h i j k l answers = b
each X a b c d e f g h i j k l elevens_due = c
each X a b c d e f g h i j k l fast_kept = d
each X a b c d e f g h i j k l slow_kept = e
each X a b c d e f g h i j k l fast_long = f
each X a b c d e f g h i j k l slow_long = g
each X a b c d e f g h i j k l standing = h
each X a b c d e f g h i j k l owners = i
each X a b c d e f g h i j k l rights = j
each X a b c d e f g h i j k l some_recent = k
each X a b c d e f g h i j k l holds = l

-- With P = S = 1, station 3 creates page 5, and station 4 writes a byte of it: 0 and 10.
abbrev pub file₃ : List ℕ
file₃ = 0 ∷ 4 ∷ 1 ∷ 1 ∷ 3 ∷ 5 ∷ 0 ∷ 6 ∷ 1 ∷ 5 ∷ 4 ∷ 5 ∷ 0 ∷ 1 ∷ []

abbrev pub fast_bytes : List ℕ
fast_bytes = replicate 64 0xEE

abbrev pub slow_bytes : List ℕ
slow_bytes = replicate 64 0xDD

abbrev pub start : State
start = record { tables = fresh_tables 1 1; fast = fast_bytes; slow = slow_bytes }

-- P is above 127, and no store fits: no call is accepted
abbrev pub broken : State
broken = record { tables = fresh_tables 128 0; fast = fast_bytes; slow = slow_bytes }

-- a state with P, S and pages 5 and 6 as given
abbrev pub with56 : ℕ → ℕ → Page → Page → List ℕ → List ℕ → State
with56 p s g g' fast slow =
    record {
      tables = after (after (fresh_tables p s) (change_to 5 g 255)) (change_to 6 g' 255);
      fast = fast;
      slow = slow;
    }

-- as the create leaves it
abbrev pub made : State
made = with56 1 1 (created 3) fresh_page fast_bytes slow_bytes

abbrev pub first : Turn
first =
    record {
      found = start;
      sent = whole (1 ∷ 1 ∷ 3 ∷ 5 ∷ []);
      outcome = accept (record { state = made; moved = true; laid = 0; data_out = [] });
    }

-- the write, answered with n
abbrev pub second : ℕ → Turn
second n = record { found = made; sent = whole (1 ∷ 5 ∷ 4 ∷ 5 ∷ 0 ∷ 1 ∷ []); outcome = refuse n }

abbrev pub answering : ℕ → Run
answering n = record { turns = first ∷ second n ∷ []; final = made }

abbrev pub ending : State → Run
ending s = record { turns = first ∷ second 10 ∷ []; final = s }

pub right_run : run_on start file₃ ≡ answering 10
unfolding run_on
right_run = refl

-- page 5 with another owner; with right 0 for the others, as before request [6]; with no MOST RECENT copy; with a MOST
-- RECENT copy on frame 0, whose bytes are 0xEE
abbrev pub foreign : Page
foreign = record { rights = (created 3).rights; copies = (created 3).copies; owner = 4; n = 1 }

abbrev pub closed : Page
closed = record { rights = set (replicate 16 0) 3 2; copies = (created 3).copies; owner = 3; n = 1 }

abbrev pub outdated : Page
outdated = with_copies (created 3) 1 (replicate 8 fresh_copy)

abbrev pub uncleared : Page
uncleared = with_copies (created 3) 1 (set (replicate 8 fresh_copy) 0 (new_copy 0 true))

abbrev pub wrong : Field → Run
-- the end reported before the last message
wrong messages = record { turns = first ∷ []; final = made }
-- another number
wrong answers = answering 9
-- 11 where it is not due
wrong elevens_due = answering 11
-- P or S moved; a store with one byte more
wrong fast_kept = ending (with56 2 1 (created 3) fresh_page fast_bytes slow_bytes)
wrong slow_kept = ending (with56 1 2 (created 3) fresh_page fast_bytes slow_bytes)
wrong fast_long = ending (with56 1 1 (created 3) fresh_page (0 ∷ fast_bytes) slow_bytes)
wrong slow_long = ending (with56 1 1 (created 3) fresh_page fast_bytes (0 ∷ slow_bytes))
-- a page that nobody created
wrong standing = ending (with56 1 1 (created 3) (created 3) fast_bytes slow_bytes)
-- page 5 not as created
wrong owners = ending (with56 1 1 foreign fresh_page fast_bytes slow_bytes)
wrong rights = ending (with56 1 1 closed fresh_page fast_bytes slow_bytes)
wrong some_recent = ending (with56 1 1 outdated fresh_page fast_bytes slow_bytes)
wrong holds = ending (with56 1 1 uncleared fresh_page fast_bytes slow_bytes)

-- the first is the right kernel's run behind a reader that does so: over the file without that message
pub early_run : run_on start (take 6 file₃) ≡ wrong messages
unfolding run_on
early_run = refl

-- as the flat memory has page 5
abbrev pub flat₅ : Slot
flat₅ = here (record { owner = 3; rights = set (replicate 16 1) 3 2; bytes = replicate 64 0 })

-- what holds of pages 5 and 6 and of an absent page holds of every page
module _ (X : Page → Slot → Type 0) (g g' : Page) where
  abbrev Here : ℕ → Type 0
  Here q = X (get_or (set (set (replicate 64 fresh_page) 5 g) 6 g') q zero_page) (slot_at (set none 5 flat₅) q)

  on : X g flat₅ → X g' gone → X fresh_page gone → (q : ℕ) → q < 64 → Here q
  on h₅ h₆ h q near = go (ℕ_discrete q 6) (ℕ_discrete q 5)
    where
      go : Dec (q ≡ 6) → Dec (q ≡ 5) → Here q
      go (yes e) d = subst Here (sym e) h₆
      go (no ne) (yes e) = subst Here (sym e) h₅
      go (no ne) (no ne') =
          rw (
            get_or-set_other (set (replicate 64 fresh_page) 5 g) 6 q g' zero_page ne,
            get_or-set_other (replicate 64 fresh_page) 5 q g zero_page ne',
            get_or-set_other none 5 q flat₅ gone ne',
            get_or-replicate 64 q fresh_page zero_page near,
            get_or-replicate 64 q gone gone near,
          ) h

-- of page 5 as created
stands₃ : (q : ℕ) → q < 64 → Here Standing (created 3) fresh_page q
unfolding created fresh_page
stands₃ = on Standing (created 3) fresh_page refl refl refl

owners₃ : (q : ℕ) → q < 64 → Here Owners (created 3) fresh_page q
unfolding created
owners₃ = on Owners (created 3) fresh_page refl tt tt

rights₃ : (q : ℕ) → q < 64 → Here Rights (created 3) fresh_page q
unfolding created
rights₃ = on Rights (created 3) fresh_page refl tt tt

recent₃ : (q : ℕ) → q < 64 → Here Recent (created 3) fresh_page q
unfolding created count
recent₃ = on Recent (created 3) fresh_page (omega arith) tt tt

holds₃ : (st : List ℕ) (q : ℕ) → q < 64 → Here (Holding st) (created 3) fresh_page q
unfolding created
holds₃ st = on (Holding st) (created 3) fresh_page (λ _. refl, tt) tt tt

-- field j of the run that is wrong in field i: ruled out by its own field, and by no other
abbrev pub Row : Field → Field → Type 0
Row i j = But (eqb (place i) (place j)) (Says 1 1 70 file₃ (wrong i) j)

pub alone : (i j : Field) → Row i j
unfolding messages_of split flat_answers flat_after flat_end run_answers dues react_as react_to parse names kinds code
    among argument call_of reply count created fresh_page fresh_tables after part
alone messages =
    each (Row messages) (λ e. false≢true (ap (λ (l : List Sent). eqb (length l) 2) e)) refl refl refl refl refl refl
    stands₃ owners₃ rights₃ recent₃ (holds₃ _)
alone answers =
    each (Row answers) refl (λ e. false≢true (ap
    (λ (l : List Answer). eqb (get_or (map (λ (x : Answer). x.number) l) 1 0) 9) e)) refl
    refl refl refl refl stands₃ owners₃ rights₃ recent₃ (holds₃ _)
alone elevens_due =
    each (Row elevens_due) refl refl (λ e. true≢false (ap (λ (l : List Bool). get_or l 1 false) e)) refl refl refl refl
    stands₃ owners₃ rights₃ recent₃ (holds₃ _)
alone fast_kept = each (Row fast_kept) refl refl refl (λ e. omega arith) refl refl refl stands₃ owners₃ rights₃ recent₃
    (holds₃ _)
alone slow_kept = each (Row slow_kept) refl refl refl refl (λ e. omega arith) refl refl stands₃ owners₃ rights₃ recent₃
    (holds₃ _)
alone fast_long = each (Row fast_long) refl refl refl refl refl (λ e. omega arith) refl stands₃ owners₃ rights₃ recent₃
    (holds₃ _)
alone slow_long = each (Row slow_long) refl refl refl refl refl refl (λ e. omega arith) stands₃ owners₃ rights₃ recent₃
    (holds₃ _)
alone standing =
    each (Row standing) refl refl refl refl refl refl refl (λ h. false≢true (h 6 (omega arith)))
    (on Owners (created 3) (created 3) refl tt tt) (on Rights (created 3) (created 3) refl tt tt)
    (on Recent (created 3) (created 3) (omega arith) tt tt)
    (on (Holding _) (created 3) (created 3) (λ _. refl, tt) tt tt)
alone owners =
    each (Row owners) refl refl refl refl refl refl refl (on Standing foreign fresh_page refl refl refl)
    (λ h. false≢true (ap (λ (n : ℕ). eqb n 3) (h 5 (omega arith)))) (on Rights foreign fresh_page refl tt tt)
    (on Recent foreign fresh_page (omega arith) tt tt) (on (Holding _) foreign fresh_page (λ _. refl, tt) tt tt)
alone rights =
    each (Row rights) refl refl refl refl refl refl refl (on Standing closed fresh_page refl refl refl)
    (on Owners closed fresh_page refl tt tt)
    (λ h. false≢true (ap (λ (l : List ℕ). eqb (get_or l 15 0) 1) (h 5 (omega arith))))
    (on Recent closed fresh_page (omega arith) tt tt)
    (on (Holding _) closed fresh_page (λ _. refl, tt) tt tt)
alone some_recent =
    each (Row some_recent) refl refl refl refl refl refl refl (on Standing outdated fresh_page refl refl refl)
    (on Owners outdated fresh_page refl tt tt) (on Rights outdated fresh_page refl tt tt)
    (λ h. omega (arith, h 5 (omega arith)))
    (on (Holding _) outdated fresh_page (λ e. absurd (false≢true e), tt) tt tt)
alone holds =
    each (Row holds) refl refl refl refl refl refl refl (on Standing uncleared fresh_page refl refl refl)
    (on Owners uncleared fresh_page refl tt tt) (on Rights uncleared fresh_page refl tt tt)
    (on Recent uncleared fresh_page (omega arith) tt tt)
    (λ h. false≢true (ap (λ (l : List ℕ). eqb (get_or l 0 1) 0) ((h 5 (omega arith)).0 refl)))
