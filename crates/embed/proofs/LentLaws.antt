-- Tables in lent bytes: those that are put back are found by the next call, and bytes that hold none are broken tables.
use Prim.Native.Nat.{ℕ, ◌+◌}
use mathlib.Core.Bool.{Bool, true, false, cond, false≢true}
use mathlib.Core.List.{List, [], ◌∷◌}
use mathlib.Core.Path.{◌≡◌, refl, sym, ap, ◌∙◌}
use native.Mathlib.Omega.{arith}
use lib.ListN.{length, drop}
use borrow.Author.Tests.{eq-eqb}
use Rattle.tables.specs.declared.Tables.{Tables}
use Rattle.tables.specs.Lists.{all}
use Rattle.tables.specs.Model.{fresh_tables}
use Rattle.tables.specs.Rules.{sound}
use Rattle.tables.proofs.ListLaws.{and_left, and_right, and_intro}
use Rattle.tables.proofs.RuleLaws.{sound_of, few_frames}
use Rattle.steps.specs.Steps.{Outcome, refuse, accept}
use Rattle.steps.specs.Effects.{State, Result, left, moved_by}
use Rattle.messages.specs.Replies.{reply_in, is_refusal}
use Rattle.messages.specs.Run.{Sent, Turn, answer, turn_of, left_by, turns_of, end_of}
use Rattle.messages.specs.Run.{messages_of, run, moved_in, full, served, state_after, part_from}
use Rattle.messages.proofs.PartLaws.{moved_sound, turns_sound, served_sound}
use Rattle.embed.specs.Bytes.{tables_size, tables_bytes, tables_from}
use Rattle.embed.specs.Exports.{tables_in, no_tables, tables_of, with_tables, lent_state, left_in, all_refused}
use Rattle.embed.proofs.Forms.{AreBytes}
use Rattle.embed.proofs.ImageLaws.{tables_form, sound_formed, from_bytes, bytes_marked, tables_same}

-- the bytes of sound tables hold tables
pub laid_in : (t : Tables) → sound t ≡ true → tables_in (tables_bytes t) ≡ true
laid_in t e = and_intro (eq-eqb _ tables_size (tables_form.long t (sound_formed t e))) (bytes_marked t e)

-- the next call finds the tables that this one left
pub found_again : (b : List ℕ) (t : Tables) → tables_in b ≡ true → sound t ≡ true → tables_of (with_tables b t) ≡ t
found_again b t z e = rw z (rw (laid_in t e) (from_bytes t e))

-- the tables that were there, put back, leave every byte, whatever the bytes are
pub put_back_same : (b : List ℕ) → AreBytes b → with_tables b (tables_of b) ≡ b
put_back_same b low = at_most (tables_in b) refl
  where
    at_most : (h : Bool) → tables_in b ≡ h → cond h (tables_bytes (cond h (tables_from b) no_tables)) b ≡ b
    at_most true e = tables_same b low e
    at_most false e = refl

-- what a message leaves of the tables, put back: a refusal leaves every byte
pub left_in_lem : (b fast slow : List ℕ) (o : Outcome Result) → AreBytes b
    → with_tables b (left (lent_state b fast slow) o).tables ≡ left_in b o
left_in_lem b fast slow (refuse n) low = put_back_same b low
left_in_lem b fast slow (accept r) low = refl

-- ---- tables that moved

-- bytes whose tables break no rule hold them
sound_held : (b : List ℕ) → sound (tables_of b) ≡ true → tables_in b ≡ true
unfolding fresh_tables
sound_held b = go (tables_in b)
  where
    go : (h : Bool) → sound (cond h (tables_from b) no_tables) ≡ true → h ≡ true
    go true e = refl
    go false e = absurd (omega (arith, few_frames (sound_of no_tables e)))

-- so bytes hold the tables that a message, a run or a part of one moves
pub held_answer : (room : ℕ) (b fast slow : List ℕ) (x : Sent) → moved_by (answer room (lent_state b fast slow) x) ≡ true
    → tables_in b ≡ true
held_answer room b fast slow x e = sound_held b (moved_sound room (lent_state b fast slow) x e)

pub held_run : (room : ℕ) (b fast slow : List ℕ) (xs : List Sent)
    → moved_in (turns_of room (lent_state b fast slow) xs) ≡ true → tables_in b ≡ true
held_run room b fast slow xs e = sound_held b (turns_sound room (lent_state b fast slow) xs e)

pub held_part : (room : ℕ) (b fast slow : List ℕ) (xs : List Sent)
    → moved_in (served room 0 (turns_of room (lent_state b fast slow) xs)) ≡ true → tables_in b ≡ true
held_part room b fast slow xs e = sound_held b (served_sound room 0 (lent_state b fast slow) xs e)

-- and tables that are put back where they moved are put into what holds tables
pub put_moved : (b : List ℕ) (t : Tables) (moved : Bool) → AreBytes b → (moved ≡ true → tables_in b ≡ true)
    → (moved ≡ false → t ≡ tables_of b) → cond moved (tables_bytes t) b ≡ with_tables b t
put_moved b t true low held same = rw (held refl)
put_moved b t false low held same = rw (same refl) (sym (put_back_same b low))

-- ---- refused runs

left_refused : (s : State) (o : Outcome Result) → is_refusal o ≡ true → left s o ≡ s
left_refused s (refuse n) e = refl
left_refused s (accept r) e = absurd (false≢true e)

refused_end : (room : ℕ) (s : State) (xs : List Sent) → all_refused (turns_of room s xs) ≡ true → end_of room s xs ≡ s
unfolding all turns_of end_of
refused_end room s [] e = refl
refused_end room s (x ∷ xs) e =
    let o = answer room s x in
    let l = left_refused s o (and_left (is_refusal o) _ e) in
    rw l (refused_end room s xs (rw l at (and_right (is_refusal o) _ e)))

-- a run of which every message was refused, or whose file is empty, leaves every byte of the tables, whatever they were
pub refused_run : (room : ℕ) (file b fast slow : List ℕ) → AreBytes b
    → all_refused (run room file (lent_state b fast slow)).turns ≡ true
    → with_tables b (run room file (lent_state b fast slow)).final.tables ≡ b
refused_run room file b fast slow low e =
    rw (refused_end room (lent_state b fast slow) (messages_of file) e) (put_back_same b low)

-- a turn that a full buffer leaves out, and those behind it
refused_one : (is_full : Bool) (room : ℕ) (s : State) (x : Sent) (behind : State → List Turn)
    → (all_refused (behind s) ≡ true → state_after s (behind s) ≡ s)
    → all_refused (cond is_full [] (turn_of room s x ∷ behind (left_by room s x))) ≡ true
    → state_after s (cond is_full [] (turn_of room s x ∷ behind (left_by room s x))) ≡ s
unfolding all state_after
refused_one true room s x behind k e = refl
refused_one false room s x behind k e =
    let o = answer room s x in
    let l = left_refused s o (and_left (is_refusal o) _ e) in
    ap (λ (r : State). state_after r (behind r)) l ∙ k (rw l at (and_right (is_refusal o) _ e))

refused_after : (room used : ℕ) (s : State) (xs : List Sent) → all_refused (served room used (turns_of room s xs)) ≡ true
    → state_after s (served room used (turns_of room s xs)) ≡ s
unfolding turns_of served state_after
refused_after room used s [] e = refl
refused_after room used s (x ∷ xs) e =
    let more = used + length (reply_in room (answer room s x)) in
    let behind : State → List Turn = λ r. served room more (turns_of room r xs) in
    refused_one (full room used) room s x behind (refused_after room more s xs) e

-- nor does such a part of a run
pub refused_part : (room : ℕ) (file : List ℕ) (at : ℕ) (b fast slow : List ℕ) → AreBytes b
    → all_refused (part_from room file at (lent_state b fast slow)).turns ≡ true
    → with_tables b (part_from room file at (lent_state b fast slow)).final.tables ≡ b
refused_part room file at b fast slow low e =
    rw (refused_after room 0 (lent_state b fast slow) (messages_of (drop at file)) e) (put_back_same b low)
