-- The demands over lent bytes. What the caller keeps holds the state at the end of the run (Calls.antt), so what is
-- proved of runs holds of its bytes. In order: the demands of bytes that hold that state; any calls; a file by
-- `reel_replies`; a file by `reel_answer`; one message on any bytes.
use Prim.Native.Nat.{ℕ, zero, suc, ◌+◌, ◌*◌, ◌≤◌}
use mathlib.Core.Path.{◌≡◌, refl, sym, ap, ap₂, ◌∙◌, subst}
use mathlib.Core.Bool.{Bool, true, false, ◌||◌, cond}
use mathlib.Core.List.{List, [], ◌∷◌, ◌++◌, map, map-append, flatten}
use mathlib.Core.Logic.{◌≢◌}
use native.Mathlib.Omega.{arith}
use lib.ListN.{length, take, drop, replicate, get_or, length-append}
use lib.Seq.{length-take-le, take_at, drop_at}
use lib.Dec.{leb, eqb}
use borrow.Author.Tests.{leb-true, leb-false, lt-ltb, lt-leb, le-ltb}
use Rattle.tables.specs.Numbers.{accepted}
use Rattle.tables.specs.Model.{retired_entry, free_entry, fresh_tables, retired_at}
use Rattle.tables.proofs.FreshLaws.{fresh_sound}
use Rattle.steps.specs.Stores.{part, over}
use Rattle.steps.specs.Steps.{Outcome, refuse, accept, number_of}
use Rattle.steps.specs.Effects.{State, Result, left, laid_by}
use Rattle.steps.specs.Promises.{state_of, Lent}
use Rattle.steps.proofs.StepLaws.{good_rules}
use Rattle.messages.specs.Messages.{length_at, next_at}
use Rattle.messages.specs.Replies.{reply, reply_in}
use Rattle.messages.specs.Run.{Sent, answer, Turn, messages_of, split, turns_of, end_of, Run, tally, joined_replies}
use Rattle.messages.specs.Run.{state_after, Part, part_from}
use Rattle.messages.specs.Promises.{sent_alone}
use Rattle.messages.proofs.ReaderLaws.{next_message, at_end}
use Rattle.messages.proofs.JoinLaws.{same_joined, joined_both, tally_both, end_is, part_rest, place_grows, goes_further}
use Rattle.theorems.specs.Flat.{none}
use Rattle.theorems.specs.Demand1.{refusal_in}
use Rattle.theorems.specs.Demand3.{flat_answers}
use Rattle.theorems.specs.Caller.{eleven_taken, answers_taken}
use Rattle.theorems.specs.Clean.{Blank, NoneHeld}
use Rattle.theorems.specs.Retired.{three_numbers, ever_retired}
use Rattle.theorems.proofs.Whole.{demand3_on}
use Rattle.theorems.proofs.Caller.{held_answers}
use Rattle.theorems.proofs.Refusals.{next_found, turns_obey, answer_allowed}
use Rattle.theorems.proofs.Clean.{messages_clean, stays_blank, fresh_blank, card_cleared}
use Rattle.theorems.proofs.Retired.{messages_retired, never_again, adds_up}
use Rattle.embed.specs.Bytes.{tables_bytes}
use Rattle.embed.specs.Exports.{fresh_into, tally_of, with_tally, packed, left_in, Kept, kept, state_in}
use Rattle.callers.specs.Calls.{AnswerCall, RepliesCall, Called, answered, replied, Meets, room, left_of, Calls}
use Rattle.callers.specs.Calls.{kept_after, messages_by, turns_by, messages_through, turns_through, told_of, taken}
use Rattle.callers.specs.Calls.{counted_on, EachHad}
use Rattle.callers.specs.Lent.{run_fresh, Upheld, AllHold, KeptIs, DemandsLent, taken_through, FileTaken, OnFile}
use Rattle.callers.specs.Lent.{place_reached, tally_reached, FileReplied, RepliesEnough, InFull, front, file_of}
use Rattle.callers.specs.Lent.{FileAnswered, number_told, MessageLent}
use Rattle.callers.proofs.Kept.{Sane, Leaves, Freshly, freshly, fresh_leaves, put_own, put_twice}
use Rattle.callers.proofs.Calls.{told_number, part_turns, Does, does, Through, through, end_reached}

-- ---- the demands of bytes that hold the state at the end of the run

-- no frame of fresh tables is retired
pub same_at : (n i a : ℕ) → get_or (replicate n a) i a ≡ a
same_at zero i a = refl
same_at (suc n) zero a = refl
same_at (suc n) (suc i) a = same_at n i a

pub none_retired : (p s f : ℕ) → retired_at (fresh_tables p s) f ≡ false
unfolding fresh_tables
none_retired p s f = ap (λ (e : ℕ). eqb e retired_entry) (same_at 254 f free_entry)

module _ (p s : ℕ) (fast slow : List ℕ) (hp : p ≤ 127) (hs : s ≤ 127) (lp : length fast ≡ 64 * p)
    (ls : length slow ≡ 64 * s) where
  abbrev s₀ : State
  s₀ = state_of (fresh_tables p s) fast slow

  blank : slow ≡ replicate (64 * s) 0 → Blank s₀
  blank e = subst (λ (l : List ℕ). Blank (state_of (fresh_tables p s) fast l)) (sym e) (fresh_blank p s fast lp)

  -- of the run
  pub upheld : (xs : List Sent) → Upheld p s fast slow xs (run_fresh p s fast slow xs)
  upheld xs =
      record {
        obeys = record { starts = next_found 70 xs s₀; turns = turns_obey 70 xs s₀ };
        agrees = demand3_on 70 p s fast slow xs hp hs lp ls (omega arith);
        cleared = λ f low end. messages_clean 70 f xs s₀ low end;
        retired_exactly = λ f.
            messages_retired 70 f xs s₀ ∙ ap (λ (b : Bool). b || ever_retired (turns_of 70 s₀ xs) f) (none_retired p s f);
        never_again = λ f. never_again 70 f xs s₀ (fresh_sound p s hp hs);
      }

  -- and of the bytes
  all_hold : (xs : List Sent) (k : Kept) → Sane k → state_in k ≡ end_of 70 s₀ xs
      → AllHold p s fast slow xs (turns_of 70 s₀ xs) k
  unfolding fresh_tables
  all_hold xs k sane e = (
    here (λ (x : State). Upheld p s fast slow xs (record { turns = turns_of 70 s₀ xs; final = x })) (upheld xs),
    record {
      ruled = good_rules sane.good;
      add_up = here (λ (x : State). three_numbers x.tables ≡ p + s) (adds_up 70 xs s₀ (fresh_sound p s hp hs));
      card_blank = λ z. here Blank (stays_blank 70 xs s₀ (blank z));
      card_clean = λ z. here (λ (x : State). NoneHeld x.tables → x.slow ≡ replicate (64 * s) 0)
          (card_cleared 70 xs s₀ lp ls (blank z));
    },
  )
    where
      here : (P : State → Type 0) → P (end_of 70 s₀ xs) → P (state_in k)
      here P h = subst P (sym e) h

kept_is : (k : Kept) (r : Run) → Sane k → state_in k ≡ r.final → KeptIs k r
kept_is k r sane e =
    record {
      tables_are = sane.bytes ∙ ap (λ (s : State). tables_bytes s.tables) e;
      fast_is = ap (λ (s : State). s.fast) e;
      slow_is = ap (λ (s : State). s.slow) e;
    }

-- ---- any calls

-- from fresh tables on
module _ (p s : ℕ) (b fast slow : List ℕ) (answered_0 : (fresh_into p s b).number ≡ accepted) (lp : length fast ≡ 64 * p)
    (ls : length slow ≡ 64 * s) where
  abbrev pub k₀ : Kept
  k₀ = kept (fresh_into p s b).bytes fast slow

  abbrev f₀ : State
  f₀ = state_of (fresh_tables p s) fast slow

  pub fresh : Freshly p s b
  fresh = freshly p s b answered_0

  pub start : Leaves k₀ f₀
  start = fresh_leaves p s b fast slow answered_0 lp ls

  -- where the turns of the calls are those of messages xs
  record Came (cs : List Called) (xs : List Sent) : Type 0 where
    each : EachHad k₀ cs
    turns_are : turns_through k₀ cs ≡ turns_of 70 f₀ xs
    keeps : KeptIs (kept_after k₀ cs) (run_fresh p s fast slow xs)
    holds : AllHold p s fast slow xs (turns_of 70 f₀ xs) (kept_after k₀ cs)

  came : (cs : List Called) → Through k₀ cs → (xs : List Sent) → turns_through k₀ cs ≡ turns_of 70 (state_in k₀) xs
      → Came cs xs
  came cs q xs same =
      let e : state_in (kept_after k₀ cs) ≡ end_of 70 f₀ xs =
      end_reached k₀ cs q xs same ∙ ap (λ (x : State). end_of 70 x xs) start.state_is in
      record {
        each = q.each;
        turns_are = same ∙ ap (λ (x : State). turns_of 70 x xs) start.state_is;
        keeps = kept_is (kept_after k₀ cs) (run_fresh p s fast slow xs) q.sane e;
        holds = all_hold p s fast slow fresh.fast_low fresh.slow_low lp ls xs (kept_after k₀ cs) q.sane e;
      }

  -- all replies taken
  file_taken : (cs : List Called) (file : List ℕ) → Came cs (messages_of file)
      → taken_through cs ≡ joined_replies 70 (turns_through k₀ cs)
      → FileTaken file (taken_through cs) (kept_after k₀ cs) (run_fresh p s fast slow (messages_of file))
  file_taken cs file c took =
      let xs : List Sent = messages_of file in
      let e : taken_through cs ≡ joined_replies 70 (turns_of 70 f₀ xs) = took ∙ ap (joined_replies 70) c.turns_are in
      record {
        replies_taken = e;
        answers_as_taken =
            subst (λ (l : List ℕ). flat_answers none xs (map eleven_taken (messages_of l)) ≡ answers_taken xs (messages_of l))
            (sym e) (held_answers p s f₀ (state_in (kept_after k₀ cs)) xs c.holds.0.agrees);
        kept_is = c.keeps;
      }

pub demands_lent : DemandsLent
demands_lent p s b fast slow e lp ls cs calls =
    let q = through (k₀ p s b fast slow e lp ls) cs (start p s b fast slow e lp ls).sane calls in
    let c = came p s b fast slow e lp ls cs q (messages_through cs) q.turns_are in
    (record { each_had = c.each; turns_joined = c.turns_are; kept_is = c.keeps }, c.holds)

-- ---- all replies taken

-- the turns of a call with 70 bytes or more, and of those behind it
wide_through : (k : Kept) (c : Called) (cs : List Called) → 70 ≤ room c
    → turns_through k (c ∷ cs) ≡ turns_by k c ++ turns_through (left_of c) cs
wide_through k c cs h =
    ap (λ (w : Bool). cond w [] (turns_by k c) ++ turns_through (left_of c) cs) (le-ltb (room c) 70 h)

-- its replies, and theirs
take_more : (k : Kept) (c : Called) (cs : List Called) → 70 ≤ room c → taken c ≡ joined_replies (room c) (turns_by k c)
    → taken_through cs ≡ joined_replies 70 (turns_through (left_of c) cs)
    → taken_through (c ∷ cs) ≡ joined_replies 70 (turns_through k (c ∷ cs))
take_more k c cs h here later =
    ap₂ (λ (l m : List ℕ). l ++ m) (here ∙ same_joined (room c) (turns_by k c) h) later
    ∙ sym (joined_both 70 (turns_by k c) (turns_through (left_of c) cs))
    ∙ ap (joined_replies 70) (sym (wide_through k c cs h))

-- ---- a file by `reel_replies`

module _ (file : List ℕ) where
  -- of calls from a place and a tally on
  pub record Replies (at : ℕ) (k : Kept) (n : List ℕ) (cs : List RepliesCall) : Type 0 where
    pub taken_is : taken_through (map replied cs) ≡ joined_replies 70 (turns_through k (map replied cs))
    pub tally_is : tally_reached n cs ≡ counted_on (turns_through k (map replied cs)) n
    pub turns_are : length file ≤ place_reached at cs
        → turns_through k (map replied cs) ≡ turns_of 70 (state_in k) (messages_of (drop at file))
    pub far : length file ≤ at + length cs → length file ≤ place_reached at cs

  pub replies_through : (at : ℕ) (k : Kept) (n : List ℕ) (cs : List RepliesCall) → Sane k → Calls k (map replied cs)
      → OnFile file at n cs → Replies at k n cs
  unfolding flatten tally turns_of
  replies_through at k n [] sane calls on =
      record {
        taken_is = refl;
        tally_is = put_own n;
        turns_are = λ h. sym (ap (turns_of 70 (state_in k)) (at_end file at h));
        far = λ h. omega arith;
      }
  replies_through at k n (c ∷ cs) sane calls on =
      let d = does k (replied c) sane calls.0 in
      let q = replies_through c.place c.left c.tally' cs d.sane calls.1 on.4 in
      let later : List Turn = turns_through c.left (map replied cs) in
      let ts : List Turn = turns_by k (replied c) in
      let both = wide_through k (replied c) (map replied cs) on.3 in
      let counts : c.tally' ≡ counted_on ts n = d.had.tally_had ∙ ap (counted_on ts) on.2 in
      record {
        taken_is = take_more k (replied c) (map replied cs) on.3 d.had.replies_had q.taken_is;
        tally_is =
            q.tally_is
            ∙ ap (counted_on later) counts
            ∙ put_twice n (tally ts (tally_of n)) (tally later)
            ∙ ap (with_tally n) (sym (tally_both ts later (tally_of n)))
            ∙ ap (λ (us : List Turn). counted_on us n) (sym both);
        turns_are = λ h.
            both
            ∙ ap₂ (λ (us vs : List Turn). us ++ vs) turns (q.turns_are h ∙ ap₂ (λ (l : List ℕ) (x : State).
            turns_of 70 x (messages_of (drop c.place l))) (sym on.0) (ends d) ∙ ap (λ (a : ℕ).
            turns_of 70 w.final (messages_of (drop a c.file))) p.place_told)
            ∙ sym (part_rest (length c.out) c.file c.at (state_in k) on.3)
            ∙ ap₂ (λ (l : List ℕ) (a : ℕ). turns_of 70 (state_in k) (messages_of (drop a l))) on.0 on.1;
        far = λ h. q.far (further (leb (length file) at) refl h);
      }
    where
      p : Meets k (replied c)
      p = calls.0

      w : Part
      w = part_from (length c.out) c.file c.at (state_in k)

      turns : turns_by k (replied c) ≡ w.turns
      turns = part_turns k c p

      ends : Does k (replied c) → state_in c.left ≡ w.final
      ends d =
          d.state_is
          ∙ sym (end_is (length c.out) (state_in k) (messages_by (replied c)))
          ∙ ap (state_after (state_in k)) turns

      long : length c.file ≡ length file
      long = ap length on.0

      further : (b : Bool) → leb (length file) at ≡ b → length file ≤ at + suc (length cs)
          → length file ≤ c.place + length cs
      further true e h =
          let low = leb-true (length file) at e in
          let grows = place_grows (length c.file) c.at (length c.file) w.turns (omega (arith, long, on.1))
          (omega arith) in
          omega (arith, grows, p.place_told, long)
      further false e h =
          let low = leb-false (length file) at e in
          let more = goes_further (length c.out) c.file c.at (state_in k) (omega (arith, long, on.1)) in
          omega (arith, more, p.place_told, on.1)

pub file_replied : FileReplied
file_replied p s b fast slow e lp ls file n cs calls on h =
    let k : Kept = k₀ p s b fast slow e lp ls in
    let ok = (start p s b fast slow e lp ls).sane in
    let q = replies_through file 0 k n cs ok calls on in
    let t = through k (map replied cs) ok calls in
    let c = came p s b fast slow e lp ls (map replied cs) t (messages_of file) (q.turns_are h) in (
      file_taken p s b fast slow e lp ls (map replied cs) file c q.taken_is,
      q.tally_is ∙ ap (λ (ts : List Turn). counted_on ts n) c.turns_are,
      c.holds,
    )

pub replies_enough : RepliesEnough
replies_enough p s b fast slow e lp ls file n cs calls on h =
    let ok = (start p s b fast slow e lp ls).sane in
    (replies_through file 0 (k₀ p s b fast slow e lp ls) n cs ok calls on).far (omega arith)

-- ---- a file by `reel_answer`

-- a message that is not cut short is the first of a file that begins with it
first_of : (m rest : List ℕ) → 2 + length_at m 0 ≤ length m
    → messages_of (front m ++ rest) ≡ sent_alone m ∷ messages_of rest
unfolding next_at part
first_of [] rest h = absurd (omega arith)
first_of (a ∷ []) rest h = absurd (omega arith)
first_of (a ∷ b ∷ l) rest h =
    let n : ℕ = a * 256 + b in
    let few : n ≤ length l = omega arith in
    let long : length (take n l) ≡ n = length-take-le n l few in
    let more : n ≤ length (take n l ++ rest) = omega (arith, long, length-append (take n l) rest) in
    next_message a b (take n l ++ rest)
    ∙ rw (
      le-ltb (length (take n l ++ rest)) n more,
      take_at (take n l) rest n long,
      drop_at (take n l) rest n long,
      lt-leb (length (a ∷ b ∷ l)) 0 (omega arith),
      le-ltb (length (a ∷ b ∷ l)) 2 (omega arith),
      le-ltb (length (a ∷ b ∷ l)) (2 + n) (omega arith),
    ) refl

pub messages_are : (cs : List AnswerCall) → InFull cs → messages_through (map answered cs) ≡ messages_of (file_of cs)
unfolding messages_of split
messages_are [] full = refl
messages_are (c ∷ cs) full =
    ap₂ (λ (w : Bool) (xs : List Sent). cond w [] (sent_alone c.message ∷ []) ++ xs)
    (le-ltb (length c.out) 70 full.0) (messages_are cs full.2)
    ∙ sym (first_of c.message (file_of cs) full.1)

-- the numbers that are told are the same with every buffer of 70 bytes or more
same_told : (size : ℕ) (ts : List Turn) → 70 ≤ size → map (told_of size) ts ≡ map (told_of 70) ts
same_told size ts h =
    ap (λ (w : Bool). map (λ (t : Turn).
    packed (number_of t.outcome) (length (cond w [] (reply t.outcome))) (laid_by t.outcome)) ts)
    (le-ltb size 70 h)

pub record Answers (k : Kept) (cs : List AnswerCall) : Type 0 where
  pub taken_is : taken_through (map answered cs) ≡ joined_replies 70 (turns_through k (map answered cs))
  pub told_is : map (λ (c : AnswerCall). c.told) cs ≡ map (told_of 70) (turns_through k (map answered cs))

pub answers_through : (k : Kept) (cs : List AnswerCall) → EachHad k (map answered cs) → InFull cs → Answers k cs
unfolding flatten
answers_through k [] each full = record { taken_is = refl; told_is = refl }
answers_through k (c ∷ cs) each full =
    let q = answers_through c.left cs each.2 full.2 in
    let later : List Turn = turns_through c.left (map answered cs) in
    let ts : List Turn = turns_by k (answered c) in
    record {
      taken_is = take_more k (answered c) (map answered cs) full.0 each.0.replies_had q.taken_is;
      told_is =
          ap₂ (λ (l m : List ℕ). l ++ m) (each.0.told_had ∙ same_told (length c.out) ts full.0) q.told_is
          ∙ sym (map-append (told_of 70) ts later)
          ∙ ap (map (told_of 70)) (sym (wide_through k (answered c) (map answered cs) full.0));
    }

pub file_answered : FileAnswered
file_answered p s b fast slow e lp ls cs calls full =
    let k : Kept = k₀ p s b fast slow e lp ls in
    let t = through k (map answered cs) (start p s b fast slow e lp ls).sane calls in
    let q = answers_through k cs t.each full in
    let c = came p s b fast slow e lp ls (map answered cs) t (messages_of (file_of cs))
    (t.turns_are ∙ ap (turns_of 70 (state_in k)) (messages_are cs full)) in (
      file_taken p s b fast slow e lp ls (map answered cs) (file_of cs) c q.taken_is,
      q.told_is ∙ ap (map (told_of 70)) c.turns_are,
      c.holds,
    )

-- ---- one message on any bytes

-- what a refusal leaves, and tells
record Refused (size : ℕ) (s : State) (b : List ℕ) (o : Outcome Result) : Type 0 where
  state_is : left s o ≡ s
  bytes_are : left_in b o ≡ b
  number_is : packed (number_of o) (length (reply_in size o)) (laid_by o)
      ≡ packed (number_of o) (length (refusal_in size (number_of o))) 0
  reply_is : reply_in size o ≡ refusal_in size (number_of o)

refused : (size : ℕ) (s : State) (b : List ℕ) (o : Outcome Result) → number_of o ≢ accepted → Refused size s b o
unfolding reply
refused size s b (refuse n) h = record { state_is = refl; bytes_are = refl; number_is = refl; reply_is = refl }
refused size s b (accept r) h = absurd (h refl)

pub message_lent : MessageLent
unfolding answer
message_lent k message out k' out' r p =
    record {
      in_table = rw told (answer_allowed size (state_in k) x);
      short = λ h. p.told ∙ rw (lt-ltb size 70 h);
      unchanged = λ h i.
          record {
            tables = (p.tables_out ∙ (off h).bytes_are) i;
            fast = (ap (λ (l : Lent). l.fast) p.lent_out ∙ ap (λ (y : State). y.fast) (off h).state_is) i;
            slow = (ap (λ (l : Lent). l.slow) p.lent_out ∙ ap (λ (y : State). y.slow) (off h).state_is) i;
          };
      told_fixed = λ h. rw told (p.told ∙ (off h).number_is);
      fixed = λ h.
          rw told (ap (λ (l : Lent). l.out) p.lent_out ∙ ap (λ (l : List ℕ). over l out) (off h).reply_is);
    }
  where
    size : ℕ
    size = length out

    x : Sent
    x = sent_alone message

    o : Outcome Result
    o = answer size (state_in k) x

    told : number_told r ≡ number_of o
    told = told_number size (state_in k) x r p.told

    off : number_told r ≢ accepted → Refused size (state_in k) k.tables o
    off h = refused size (state_in k) k.tables o (λ e. h (told ∙ e))
