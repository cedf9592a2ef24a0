-- Contents stay hidden from programs in C: what each of two programs keeps holds the state of a run (Calls.antt), and
-- the two runs are alike (Hidden.antt of theorems). In order: two units; what they keep; any calls; a file by
-- `reel_replies`; a file by `reel_answer`; number 5.
use Prim.Native.Nat.{ℕ}
use mathlib.Core.Path.{◌≡◌, refl, sym, ap, ap₂, ◌∙◌, subst}
use mathlib.Core.Bool.{Bool, true}
use mathlib.Core.List.{List, [], ◌∷◌, map}
use lib.ListN.{length}
use Rattle.tables.specs.declared.Tables.{Tables}
use Rattle.tables.specs.Rules.{sound}
use Rattle.steps.specs.Steps.{Outcome, refuse, accept, number_of}
use Rattle.steps.specs.Effects.{State, Result, left, laid_by}
use Rattle.steps.specs.Promises.{state_of}
use Rattle.steps.proofs.StepLaws.{fit_lengths}
use Rattle.messages.specs.declared.Tally.{Tally}
use Rattle.messages.specs.Replies.{reply_in, zero_tally}
use Rattle.messages.specs.Run.{Sent, answer, Turn, messages_of, turns_of, end_of, Run, joined_replies, state_after, part_from}
use Rattle.messages.specs.Promises.{sent_alone}
use Rattle.messages.proofs.JoinLaws.{end_is}
use Rattle.theorems.specs.Hidden.{SameBut, reply_covered, told, Alike, run_over}
use Rattle.theorems.proofs.Sound.{message_sound, messages_sound}
use Rattle.theorems.proofs.HiddenLaws.{Twins, messages_alike, reply_long, taken_alike, never_five_told, never_five_in}
use Rattle.embed.specs.Bytes.{tables_bytes}
use Rattle.embed.specs.Exports.{tables_of, with_tables, tally_of, with_tally, left_in, Kept, state_in}
use Rattle.callers.specs.Calls.{Called, answered, replied, ran, Meets, room}
use Rattle.callers.specs.Calls.{left_of, Calls, kept_after, messages_by, messages_through, turns_through, told_of}
use Rattle.callers.specs.Lent.{file_of}
use Rattle.callers.specs.Hidden.{UnitOf, run_through, HiddenLent, NoneTold, NoneFive, NeverFiveLent}
use Rattle.callers.proofs.Kept.{put, found, Sane, Leaves, leaves}
use Rattle.callers.proofs.Calls.{told_number, part_turns, Through, through, end_reached}
use Rattle.callers.proofs.Lent.{replies_through, messages_are, answers_through}

-- ---- two units

-- the state in the bytes
unit_leaves : (t : Tables) (k : Kept) → sound t ≡ true → UnitOf t k → Leaves k (state_of t k.fast k.slow)
unit_leaves t k ok u =
    leaves k (state_of t k.fast k.slow) (record { tables_sound = ok; stores_fit = u.stores_fit })
    u.tables_in refl refl

module _ (t : Tables) (k k' : Kept) (ok : sound t ≡ true) (u : UnitOf t k) (u' : UnitOf t k') where
  sane : Sane k
  sane = (unit_leaves t k ok u).sane

  sane' : Sane k'
  sane' = (unit_leaves t k' ok u').sane

  twins : Twins (state_in k) (state_in k')
  twins =
      let l = fit_lengths t (length k.fast) (length k.slow) u.stores_fit in
      let l' = fit_lengths t (length k'.fast) (length k'.slow) u'.stores_fit in
      let a = ap (λ (s : State). s.tables) (unit_leaves t k ok u).state_is in
      let a' = ap (λ (s : State). s.tables) (unit_leaves t k' ok u').state_is in
      record { tables = a ∙ sym a'; fast = l.0 ∙ sym l'.0; slow = l.1 ∙ sym l'.1 }

-- ---- what they keep

-- the run that calls come to, where their turns are those of messages xs
pub came_to : (k : Kept) (cs : List Called) → Through k cs → (xs : List Sent)
    → turns_through k cs ≡ turns_of 70 (state_in k) xs
    → run_over 70 xs (state_in k) ≡ run_through k cs
came_to k cs q xs e = rw (e, end_reached k cs q xs e)

module _ {k k' : Kept} {cs cs' : List Called} (w : Twins (state_in k) (state_in k')) (q : Through k cs)
    (q' : Through k' cs')
    (xs xs' : List Sent) (same : SameBut xs xs') (e : turns_through k cs ≡ turns_of 70 (state_in k) xs)
    (e' : turns_through k' cs' ≡ turns_of 70 (state_in k') xs') where
  runs_alike : (n : Tally) → Alike 70 n (run_through k cs) (run_through k' cs')
  runs_alike n =
      subst (λ (r : Run). Alike 70 n r (run_through k' cs')) (came_to k cs q xs e)
      (subst (Alike 70 n _) (came_to k' cs' q' xs' e') (messages_alike 70 n xs xs' same (state_in k) (state_in k') w))

  tables_same : (kept_after k cs).tables ≡ (kept_after k' cs').tables
  tables_same =
      q.sane.bytes
      ∙ ap tables_bytes (runs_alike zero_tally).tables
      ∙ sym q'.sane.bytes

-- ---- the numbers that `reel_answer` tells

told_same : (ts ts' : List Turn) → map told ts ≡ map told ts' → map (reply_covered 70) ts ≡ map (reply_covered 70) ts'
    → map (told_of 70) ts ≡ map (told_of 70) ts'
told_same [] [] e r = refl
told_same [] (t ∷ ts) e r = cc
told_same (t ∷ ts) [] e r = cc
told_same (t ∷ ts) (t' ∷ ts') e r =
    let a : told t ≡ told t' = cc in
    let b : reply_covered 70 t ≡ reply_covered 70 t' = cc in
    let rest : map told ts ≡ map told ts' = cc in
    let others : map (reply_covered 70) ts ≡ map (reply_covered 70) ts' = cc in
    ap₂ (λ (n : ℕ) (l : List ℕ). n ∷ l) (one t t' a b) (told_same ts ts' rest others)
  where
    one : (t t' : Turn) → told t ≡ told t' → reply_covered 70 t ≡ reply_covered 70 t' → told_of 70 t ≡ told_of 70 t'
    one t t' a b =
        let long : length (reply_in 70 t.outcome) ≡ length (reply_in 70 t'.outcome) =
        sym (reply_long 70 t) ∙ ap length b ∙ reply_long 70 t' in
        let number : number_of t.outcome ≡ number_of t'.outcome = ap (λ (x : ℕ × ℕ × Bool). x.0) a in
        let laid : laid_by t.outcome ≡ laid_by t'.outcome = ap (λ (x : ℕ × ℕ × Bool). x.1) a in
        rw (number, long, laid)

-- ---- the request

pub hidden_lent : HiddenLent
hidden_lent =
    record {
      calls = λ t k k' ok u u' cs cs' calls calls' same.
          let w = twins t k k' ok u u' in
          let q = through k cs (sane t k k' ok u u') calls in
          let q' = through k' cs' (sane' t k k' ok u u') calls' in
          record {
            each_had = (q.each, q'.each);
            turns_alike = runs_alike w q q' (messages_through cs) (messages_through cs') same q.turns_are
                q'.turns_are;
            tables_same = tables_same w q q' (messages_through cs) (messages_through cs') same q.turns_are
                q'.turns_are;
          };
      by_replies = λ t k k' ok u u' file file' n cs cs' same calls calls' on on' h h'.
          let w = twins t k k' ok u u' in
          let q = through k (map replied cs) (sane t k k' ok u u') calls in
          let q' = through k' (map replied cs') (sane' t k k' ok u u') calls' in
          let p = replies_through file 0 k n cs (sane t k k' ok u u') calls on in
          let p' = replies_through file' 0 k' n cs' (sane' t k k' ok u u') calls' on' in
          let e = p.turns_are h in
          let e' = p'.turns_are h' in
          let a = runs_alike w q q' (messages_of file) (messages_of file') same e e' (tally_of n) in
          record {
            replies_taken = taken_alike (messages_of file) (messages_of file') same (state_in k) (state_in k') w _ _
                (p.taken_is ∙ ap (λ (ts : List Turn). joined_replies 70 ts) e)
                (p'.taken_is ∙ ap (λ (ts : List Turn). joined_replies 70 ts) e');
            tables_same = tables_same w q q' (messages_of file) (messages_of file') same e e';
            tally_same = p.tally_is ∙ ap (with_tally n) a.tallies ∙ sym p'.tally_is;
          };
      by_answers = λ t k k' ok u u' cs cs' same calls calls' full full'.
          let w = twins t k k' ok u u' in
          let q = through k (map answered cs) (sane t k k' ok u u') calls in
          let q' = through k' (map answered cs') (sane' t k k' ok u u') calls' in
          let p = answers_through k cs q.each full in
          let p' = answers_through k' cs' q'.each full' in
          let e = q.turns_are ∙ ap (turns_of 70 (state_in k)) (messages_are cs full) in
          let e' = q'.turns_are ∙ ap (turns_of 70 (state_in k')) (messages_are cs' full') in
          let a = runs_alike w q q' (messages_of (file_of cs)) (messages_of (file_of cs')) same e e' (tally_of []) in
          record {
            replies_taken = taken_alike (messages_of (file_of cs)) (messages_of (file_of cs')) same (state_in k)
                (state_in k') w _ _
                (p.taken_is ∙ ap (λ (ts : List Turn). joined_replies 70 ts) e)
                (p'.taken_is ∙ ap (λ (ts : List Turn). joined_replies 70 ts) e');
            told_same = p.told_is ∙ told_same (turns_through k (map answered cs)) (turns_through k' (map answered cs'))
                a.told_alike a.replies
                ∙ sym p'.told_is;
            tables_same = tables_same w q q' (messages_of (file_of cs)) (messages_of (file_of cs')) same e e';
          };
    }

-- ---- number 5

-- bytes of sound tables, whatever the stores are
record SoundBytes (b : List ℕ) : Type 0 where
  tables : Tables
  is_sound : sound tables ≡ true
  bytes : b ≡ tables_bytes tables

found_sound : {b : List ℕ} → SoundBytes b → sound (tables_of b) ≡ true
found_sound ok = rw (ok.bytes, found ok.tables ok.is_sound) ok.is_sound

-- with sound tables put into them
put_sound : {b : List ℕ} → SoundBytes b → (t : Tables) → sound t ≡ true → SoundBytes (with_tables b t)
put_sound ok t e =
    record {
      tables = t;
      is_sound = e;
      bytes = ap (λ (l : List ℕ). with_tables l t) ok.bytes ∙ put ok.tables t ok.is_sound;
    }

-- what a call leaves of them
left_sound : (k : Kept) (c : Called) → SoundBytes k.tables → Meets k c → SoundBytes (left_of c).tables
left_sound k (answered c) ok p =
    let size : ℕ = length c.out in
    let x : Sent = sent_alone c.message in
    subst SoundBytes (sym p.tables_out) (go (answer size (state_in k) x)
    (message_sound size (state_in k) x (found_sound ok)))
  where
    go : (o : Outcome Result) → sound (left (state_in k) o).tables ≡ true → SoundBytes (left_in k.tables o)
    go (refuse n) e = ok
    go (accept r) e = put_sound ok r.state.tables e
left_sound k (replied c) ok p =
    let xs : List Sent = messages_by (replied c) in
    let end : end_of (length c.out) (state_in k) xs ≡ (part_from (length c.out) c.file c.at (state_in k)).final =
    sym (end_is (length c.out) (state_in k) xs) ∙ ap (state_after (state_in k)) (part_turns k c p) in
    subst SoundBytes (sym p.tables_out)
    (put_sound ok _ (subst (λ (s : State). sound s.tables ≡ true) end
    (messages_sound (length c.out) xs (state_in k) (found_sound ok))))
left_sound k (ran c) ok p =
    subst SoundBytes (sym p.tables_out)
    (put_sound ok _ (messages_sound (length c.out) (messages_of c.file) (state_in k) (found_sound ok)))

none_told : (k : Kept) (cs : List Called) → SoundBytes k.tables → Calls k cs → NoneTold cs
none_told k [] ok calls = tt
none_told k (answered c ∷ cs) ok calls =
    let x : Sent = sent_alone c.message in
    let is = told_number (length c.out) (state_in k) x c.told calls.0.told in (
      λ e. never_five_told (state_in k) (found_sound ok) (length c.out) x (sym is ∙ e),
      none_told c.left cs (left_sound k (answered c) ok calls.0) calls.1,
    )
none_told k (replied c ∷ cs) ok calls = none_told c.left cs (left_sound k (replied c) ok calls.0) calls.1
none_told k (ran c ∷ cs) ok calls = none_told c.left cs (left_sound k (ran c) ok calls.0) calls.1

none_five : (k : Kept) (cs : List Called) → SoundBytes k.tables → Calls k cs → NoneFive k cs
none_five k [] ok calls = tt
none_five k (c ∷ cs) ok calls = (
  never_five_in (room c) (messages_by c) (state_in k) (found_sound ok),
  none_five (left_of c) cs (left_sound k c ok calls.0) calls.1,
)

pub never_five_lent : NeverFiveLent
never_five_lent t k cs e is calls =
    let ok : SoundBytes k.tables = record { tables = t; is_sound = e; bytes = is } in
    (none_told k cs ok calls, none_five k cs ok calls)
