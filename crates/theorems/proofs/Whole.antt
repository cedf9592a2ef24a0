-- Demand 3: beside a run over any call file the flat memory gives the same answers, 11 comes exactly where due, and
-- both end with the same pages. One turn keeps the agreement of state and flat memory (kind by kind in Owners, Access
-- and Moves); Induction goes through the file.
use Prim.Native.Nat.{ℕ, ◌*◌, ◌≤◌, ◌<◌}
use mathlib.Core.Path.{◌≡◌, refl, sym, ap, ◌∙◌}
use mathlib.Core.Bool.{Bool, false, not, ◌&&◌}
use mathlib.Core.List.{List}
use lib.ListN.{length, get_or-replicate}
use lib.Dec.{ltb, eqb}
use borrow.Author.Tests.{le-ltb, eq-eqb, not-true}
use Rattle.tables.specs.declared.Shared.{Shared}
use Rattle.tables.specs.Lists.{all}
use Rattle.tables.specs.Numbers.{nothing_current}
use Rattle.tables.specs.Model.{fresh_page, fresh_tables, zero_page, page_at}
use Rattle.tables.proofs.ListLaws.{and_intro, all_listed}
use Rattle.tables.proofs.FreshLaws.{fresh_sound}
use Rattle.steps.specs.declared.Kind.{Kind}
use Rattle.steps.specs.declared.Kind.TheVariants.{Create, DeletePage, Grant, Read, Write, MakeCopy, DeleteCopy, SetCurrent, RemoveCurrent, LookPage, LookFrame, Retire}
use Rattle.steps.specs.declared.Call.{Call}
use Rattle.steps.specs.Stores.{fits}
use Rattle.steps.specs.Effects.{State, joined, step, left}
use Rattle.steps.proofs.StepLaws.{Good, fit_lengths, page_stands_lem, step_good}
use Rattle.steps.specs.Steps.{Outcome, refuse, accept}
use Rattle.messages.specs.Run.{Sent, asked, bytes_of, respond, answer, messages_of, turns_of, end_of}
use Rattle.theorems.specs.Flat.{Flat, Slot, gone, here, slot_at, none, flat_kind, react, react_to, accepts}
use Rattle.theorems.specs.Demand3.{flat_after, is_answered, lacks, due, SameSlot, AgreesOn, Demand3}
use Rattle.messages.proofs.ParseLaws.{own_numbers, Known, bad, asked_known}
use Rattle.theorems.proofs.Agreement.{AlikeSlot, turned_back, ResultAgrees, says, eleven, leaves, of_kind, CallAgrees, carried_agrees, Inv}
use Rattle.theorems.proofs.Owners.{create_agrees, delete_agrees, grant_agrees}
use Rattle.theorems.proofs.Access.{read_agrees, write_agrees}
use Rattle.theorems.proofs.Moves.{make_copy_agrees, delete_copy_agrees, set_current_agrees, remove_current_agrees, look_page_agrees, look_frame_agrees, retire_agrees}
use Rattle.theorems.proofs.Frames.{end_frames}
use Rattle.theorems.proofs.Induction.{TurnAgrees, run_agrees}

-- ---- one turn

module _ (s : State) (f : Flat) (i : Inv s f) where
  kind_agrees : (k : Kind) (c : Call) (bs : List ℕ) → CallAgrees s f (of_kind k c) bs
  kind_agrees Create = create_agrees s f i
  kind_agrees DeletePage = delete_agrees s f i
  kind_agrees Grant = grant_agrees s f i
  kind_agrees Read = read_agrees s f i
  kind_agrees Write = write_agrees s f i
  kind_agrees MakeCopy = make_copy_agrees s f i
  kind_agrees DeleteCopy = delete_copy_agrees s f i
  kind_agrees SetCurrent = set_current_agrees s f i
  kind_agrees RemoveCurrent = remove_current_agrees s f i
  kind_agrees LookPage = look_page_agrees s f i
  kind_agrees LookFrame = look_frame_agrees s f i
  kind_agrees Retire = retire_agrees s f i

  -- 5 and 6 do not come up
  step_agrees : (c : Call) (bs : List ℕ) → ResultAgrees f (flat_kind c) (lacks s.tables c) (step s c bs) (react f c bs)
  unfolding step
  step_agrees c bs =
      rw (i.good.tables_sound, i.good.stores_fit) (carried_agrees s c bs (kind_agrees c.kind c bs))

  abbrev lacks_in : Outcome Call → Bool
  lacks_in (refuse n) = false
  lacks_in (accept c) = lacks s.tables c

  parsed_agrees : (a : Outcome Call) (bs : List ℕ) → Known a → ResultAgrees f (is_answered a) (lacks_in a) (respond s a bs) (react_to f a bs)
  unfolding react_to all
  parsed_agrees (refuse n) bs (bad some own) = turned_back (not-true _ (all_listed (λ m. not (eqb m nothing_current)) own_numbers n refl own))
  parsed_agrees (accept c) bs k = step_agrees c bs

  parsed_keeps : (a : Outcome Call) (bs : List ℕ) → Good (left s (respond s a bs))
  parsed_keeps (refuse n) bs = i.good
  parsed_keeps (accept c) bs = step_good s c bs i.good

  due_is : (a : Outcome Call) (bs : List ℕ) → due f s a bs ≡ (accepts (react_to f a bs) && lacks_in a)
  unfolding react_to
  due_is (refuse n) bs = refl
  due_is (accept c) bs = refl

  pub turn_agrees : (room : ℕ) → 70 ≤ room → (x : Sent) → TurnAgrees Inv room f s x
  unfolding answer flat_after
  turn_agrees room h x =
      let short : ltb room 70 ≡ false = le-ltb room 70 h in
      let k = parsed_agrees (asked x) (bytes_of x) (asked_known x) in
      record {
        says = rw short (says k);
        eleven_due = rw short (eleven k ∙ sym (due_is (asked x) (bytes_of x)));
        inv = rw short (record { good = parsed_keeps (asked x) (bytes_of x); same = leaves s i.same k });
      }

-- ---- the start and the end

pub start_inv : (p s : ℕ) (fast slow : List ℕ) → p ≤ 127 → s ≤ 127 → length fast ≡ 64 * p → length slow ≡ 64 * s
    → Inv (record { tables = fresh_tables p s; fast = fast; slow = slow }) none
unfolding fresh_tables fresh_page fits
start_inv p s fast slow hp hs lp ls =
    record {
      good = record { tables_sound = fresh_sound p s hp hs; stores_fit = and_intro (eq-eqb _ _ lp) (eq-eqb _ _ ls) };
      same = record {
        long = refl;
        alike = λ q h. rw (get_or-replicate 64 q fresh_page zero_page h, get_or-replicate 64 q gone gone h) refl;
      };
    }

end_same : (s : State) (f : Flat) → Inv s f → (p : ℕ) → p < 64 → SameSlot (joined s) (page_at s.tables p) (slot_at f p)
end_same s f i p h = go (slot_at f p) (i.same.alike p h)
  where
    go : (x : Slot) → AlikeSlot (joined s) (page_at s.tables p) x → SameSlot (joined s) (page_at s.tables p) x
    go gone e = e
    go (here b) e = (
      e.0,
      record {
        owners = e.1.owners;
        rights = e.1.rights;
        some_recent = (page_stands_lem i.good p h e.0).recent_ok;
        holds = e.1.holds;
      },
    )

-- of any messages, whatever file they stand in
pub demand3_on : (room p s : ℕ) (fast slow : List ℕ) (xs : List Sent) → p ≤ 127 → s ≤ 127
    → length fast ≡ 64 * p → length slow ≡ 64 * s → 70 ≤ room
    → let s₀ : State = record { tables = fresh_tables p s; fast = fast; slow = slow } in
    AgreesOn p s room xs (record { turns = turns_of room s₀ xs; final = end_of room s₀ xs })
unfolding fresh_tables
demand3_on room p s fast slow xs hp hs lp ls h =
    let s₀ : State = record { tables = fresh_tables p s; fast = fast; slow = slow } in
    let k = run_agrees Inv room (λ f s' x i. turn_agrees s' f i room h x) xs none s₀
    (start_inv p s fast slow hp hs lp ls) in
    let same = end_frames room xs s₀ in
    let long = fit_lengths _ _ _ k.inv.good.stores_fit in
    record {
      messages = k.messages;
      answers = k.answers;
      elevens_due = k.elevens_due;
      fast_kept = ap (λ (a : Shared). a.p) same;
      slow_kept = ap (λ (a : Shared). a.s) same;
      fast_long = long.0 ∙ ap (λ (a : Shared). 64 * a.p) same;
      slow_long = long.1 ∙ ap (λ (a : Shared). 64 * a.s) same;
      pages = end_same _ _ k.inv;
    }

pub demand3 : Demand3
demand3 p s fast slow out file hp hs lp ls h = demand3_on (length out) p s fast slow (messages_of file) hp hs lp ls h
