-- The parts of a run, joined, are its replies. In order: how many bytes of replies a file brings, so that a buffer of
-- that size takes them all; what a part leaves of the file; the parts that a caller has, one after the other; that they
-- come to the file's end.
use Prim.Native.Nat.{ℕ, zero, suc, ◌+◌, ◌-◌, ◌*◌, ◌/◌, ◌%◌, ◌≤◌, ◌<◌}
use mathlib.Core.Path.{◌≡◌, refl, sym, ap, ◌∙◌}
use mathlib.Core.Bool.{Bool, true, false, cond}
use mathlib.Core.List.{List, [], ◌∷◌, ◌++◌, map, flatten, append_assoc}
use mathlib.Core.Logic.{◌⊎◌, inl, inr}
use native.Mathlib.Omega.{arith}
use lib.ListN.{length, take, drop, length-append, length-drop}
use lib.Seq.{length-take-le, take_at, drop_at}
use lib.Dec.{leb, ltb}
use borrow.Author.Tests.{ltb-false, leb-true, leb-false, lt-ltb, le-ltb}
use Rattle.tables.specs.Numbers.{accepted, cut_short, short_buffer}
use Rattle.steps.specs.Steps.{Outcome, refuse, accept, test}
use Rattle.steps.specs.Effects.{State, Result, left, laid_by, data_of}
use Rattle.steps.proofs.StepLaws.{data_paid}
use Rattle.steps.specs.declared.Call.{Call}
use Rattle.messages.specs.declared.Next.TheVariants.{Message, Cut, End}
use Rattle.messages.specs.declared.Tally.{Tally}
use Rattle.messages.specs.Messages.{parse, write_bytes, length_at, next_at}
use Rattle.messages.specs.Replies.{be16, reply, reply_in, counted, is_refusal}
use Rattle.messages.specs.Run.{Sent, cut, whole, respond, answer, Turn, turn_of, left_by, split, messages_of, turns_of, end_of, run, tally, replies, joined_replies, full, served, passed, place_after, state_after, part_from}
use Rattle.messages.specs.Promises.{sent_by, FillCall, state_at, FillCalls, emptied, reached, state_left, tally_left}
use Rattle.messages.specs.Private.{is_end, past_of}
use Rattle.messages.proofs.ParseLaws.{asked_long}
use Rattle.messages.proofs.ReaderLaws.{next_message, at_end, reader_yields}
use Rattle.messages.proofs.ReplyLaws.{reply_length}
use Rattle.messages.proofs.TurnLaws.{reply_short}
use Rattle.messages.proofs.RunLaws.{none_left, follows, same_answer}
use Rattle.messages.proofs.PartLaws.{never_full}

-- ---- how many bytes of replies a file brings

-- at most 35 for each 4 of a message
reply_paid : (room : ℕ) (s : State) (m : List ℕ) → 4 * length (reply_in room (answer room s (whole m))) ≤ 35 * (2 + length m)
unfolding answer
reply_paid room s m =
    rw (← reply_length room (answer room s (whole m))) (under (ltb room 70) _ (by (ltb room 70) (parse m) refl))
  where
    by : (b : Bool) (p : Outcome Call) → parse m ≡ p → 4 * (6 + length (data_of (test b short_buffer (respond s p (write_bytes m))))) ≤ 35 * (2 + length m)
    by true p e = omega arith
    by false (refuse n) e = omega arith
    by false (accept c) e = omega (arith, data_paid s c (write_bytes m), asked_long m c e)

    under : (b : Bool) (n : ℕ) → 4 * (6 + n) ≤ 35 * (2 + length m) → 4 * cond b 0 (6 + n) ≤ 35 * (2 + length m)
    under true n h = omega arith
    under false n h = h

cut_paid : (room : ℕ) (s : State) → 4 * length (reply_in room (answer room s cut)) ≤ 35
unfolding answer reply
cut_paid room s = by (ltb room 70)
  where
    by : (b : Bool) → 4 * length (cond b [] (reply (test {A = Result} b short_buffer (refuse cut_short)))) ≤ 35
    by true = omega arith
    by false = omega arith

file_paid : (room k : ℕ) (s : State) (l : List ℕ) → 4 * length (joined_replies room (turns_of room s (split k l))) ≤ 35 * length l
unfolding split turns_of flatten
file_paid room zero s l = omega arith
file_paid room (suc k) s [] = omega arith
file_paid room (suc k) s (a ∷ []) =
    omega (arith, cut_paid room s, length-append (reply_in room (answer room s cut)) [])
file_paid room (suc k) s (a ∷ b ∷ l) =
    by (ltb (length l) (a * 256 + b)) refl (file_paid room k (left_by room s (whole (take (a * 256 + b) l))) (drop (a * 256 + b) l))
  where
    by : (w : Bool) → ltb (length l) (a * 256 + b) ≡ w
        → let x = whole (take (a * 256 + b) l) in
        4 * length (joined_replies room (turns_of room (left_by room s x) (split k (drop (a * 256 + b) l)))) ≤ 35 * length (drop (a * 256 + b) l)
        → 4 * length (joined_replies room (turns_of room s (cond w (cut ∷ []) (x ∷ split k (drop (a * 256 + b) l))))) ≤ 35 * length (a ∷ b ∷ l)
    by true e h = omega (arith, cut_paid room s, length-append (reply_in room (answer room s cut)) [])
    by false e h =
        let n : ℕ = a * 256 + b in
        let x = whole (take n l) in
        let few = ltb-false (length l) n e in
        omega (
          arith,
          h,
          few,
          reply_paid room s (take n l),
          length-take-le n l few,
          length-drop n l,
          length-append (reply_in room (answer room s x)) (joined_replies room (turns_of room (left_by room s x) (split k (drop n l)))),
        )

all_served : (room used : ℕ) (ts : List Turn) → used + length (joined_replies room ts) + 70 ≤ room → served room used ts ≡ ts
unfolding served flatten
all_served room used [] h = refl
all_served room used (t ∷ ts) h =
    let r : List ℕ = reply_in room t.outcome in
    let roomy : full room used ≡ false = le-ltb (room - 70) used (omega arith) in
    rw roomy (ap (λ (us : List Turn). t ∷ us) (all_served room (used + length r) ts (omega (arith, h, length-append r (joined_replies room ts)))))

-- so one buffer takes all replies of a run that has 35 bytes for each 4 of the file, and 70 more
whole_part : (room : ℕ) (file : List ℕ) (s : State) → 35 * length file + 4 * 70 ≤ 4 * room
    → (part_from room file 0 s).turns ≡ (run room file s).turns
unfolding messages_of
whole_part room file s h =
    all_served room 0 (turns_of room s (messages_of file)) (omega (arith, h, file_paid room (length file) s file))

-- ---- with 70 bytes or more all buffers are alike

pub same_turns : (room : ℕ) (s : State) (xs : List Sent) → 70 ≤ room → turns_of room s xs ≡ turns_of 70 s xs
unfolding turns_of
same_turns room s [] h = refl
same_turns room s (x ∷ xs) h =
    rw (same_answer room 70 s x (le-ltb room 70 h)) (ap (λ (ts : List Turn). turn_of 70 s x ∷ ts) (same_turns room (left_by 70 s x) xs h))

pub same_joined : (room : ℕ) (ts : List Turn) → 70 ≤ room → joined_replies room ts ≡ joined_replies 70 ts
same_joined room ts h = ap (λ (b : Bool). flatten (map (λ (t : Turn). cond b [] (reply t.outcome)) ts)) (le-ltb room 70 h)

-- what one large buffer takes are the replies of the run
pub whole_replies : (room : ℕ) (file : List ℕ) (s : State) → 35 * length file + 4 * 70 ≤ 4 * room
    → joined_replies room (part_from room file 0 s).turns ≡ joined_replies 70 (run 70 file s).turns
whole_replies room file s h =
    let wide : 70 ≤ room = omega arith in
    ap (joined_replies room) (whole_part room file s h ∙ same_turns room s (messages_of file) wide)
    ∙ same_joined room (run 70 file s).turns wide

-- ---- how far a part goes

-- below 70 bytes it serves every message, and lays nothing
pub short_served : (room : ℕ) (ts : List Turn) → room < 70 → served room 0 ts ≡ ts
unfolding served
short_served room [] h = refl
short_served room (t ∷ ts) h =
    let none : length (reply_in room t.outcome) ≡ 0 = ap (λ (b : Bool). length (cond b [] (reply t.outcome))) (lt-ltb room 70 h) in
    rw (never_full room, none) (ap (λ (us : List Turn). t ∷ us) (short_served room ts h))

pub short_joined : (room : ℕ) (ts : List Turn) → room < 70 → joined_replies room ts ≡ []
unfolding flatten
short_joined room ts h =
    ap (λ (b : Bool). flatten (map (λ (t : Turn). cond b [] (reply t.outcome)) ts)) (lt-ltb room 70 h) ∙ none ts
  where
    none : (us : List Turn) → flatten (map (λ (t : Turn). cond true [] (reply t.outcome)) us) ≡ []
    none [] = refl
    none (t ∷ us) = none us

-- it serves every message, or goes on until the buffer is full
pub all_or_full : (room used : ℕ) (ts : List Turn)
    → (served room used ts ≡ ts) ⊎ (full room (used + length (joined_replies room (served room used ts))) ≡ true)
unfolding served flatten
all_or_full room used [] = inl refl
all_or_full room used (t ∷ ts) = by (full room used) refl (all_or_full room (used + length (reply_in room t.outcome)) ts)
  where
    by : (b : Bool) → full room used ≡ b
        → (served room (used + length (reply_in room t.outcome)) ts ≡ ts)
        ⊎ (full room (used + length (reply_in room t.outcome) + length (joined_replies room (served room (used + length (reply_in room t.outcome)) ts))) ≡ true)
        → let us = cond b [] (t ∷ served room (used + length (reply_in room t.outcome)) ts) in
        (us ≡ t ∷ ts) ⊎ (full room (used + length (joined_replies room us)) ≡ true)
    by true f k = let e : used + 0 ≡ used = omega arith in inr (ap (full room) e ∙ f)
    by false f (inl e) = inl (ap (λ (us : List Turn). t ∷ us) e)
    by false f (inr g) =
        let us = served room (used + length (reply_in room t.outcome)) ts in
        let e : used + length (reply_in room t.outcome ++ joined_replies room us)
        ≡ used + length (reply_in room t.outcome) + length (joined_replies room us) =
        omega (arith, length-append (reply_in room t.outcome) (joined_replies room us)) in
        inr (ap (full room) e ∙ g)

-- ---- what a part leaves of the file

passes : (file : List ℕ) (at : ℕ) (x : Sent) (xs : List Sent) → messages_of (drop at file) ≡ x ∷ xs
    → messages_of (drop (passed (length file) at x) file) ≡ xs
passes file at x xs e = by (is_end (next_at file at)) refl
  where
    by : (b : Bool) → is_end (next_at file at) ≡ b → messages_of (drop (passed (length file) at x) file) ≡ xs
    by true f =
        let none : [] ≡ x ∷ xs = sym (none_left file (next_at file at) f) ∙ sym (reader_yields file at) ∙ e in
        cc
    by false f =
        let g = follows file at (next_at file at) refl f in
        let both : sent_by file (next_at file at) ∷ messages_of (drop (passed (length file) at (sent_by file (next_at file at))) file) ≡ x ∷ xs =
        ap (λ (k : ℕ). sent_by file (next_at file at) ∷ messages_of (drop k file)) (sym g.past) ∙ sym g.messages ∙ e in
        let first : sent_by file (next_at file at) ≡ x = cc in
        let rest : messages_of (drop (passed (length file) at (sent_by file (next_at file at))) file) ≡ xs = cc in
        ap (λ (y : Sent). messages_of (drop (passed (length file) at y) file)) (sym first) ∙ rest

rest_after : (file : List ℕ) (room used : ℕ) (xs : List Sent) (at : ℕ) (s : State) → messages_of (drop at file) ≡ xs
    → let us = served room used (turns_of room s xs) in
    turns_of room s xs ≡ us ++ turns_of room (state_after s us) (messages_of (drop (place_after (length file) at us) file))
unfolding served turns_of place_after state_after
rest_after file room used [] at s e = sym (ap (turns_of room s) e)
rest_after file room used (x ∷ xs) at s e =
    by (full room used)
    (rest_after file room (used + length (reply_in room (answer room s x))) xs (passed (length file) at x) (left_by room s x) (passes file at x xs e))
  where
    by : (b : Bool)
        → (let us = served room (used + length (reply_in room (answer room s x))) (turns_of room (left_by room s x) xs) in
        turns_of room (left_by room s x) xs
        ≡ us ++ turns_of room (state_after (left_by room s x) us) (messages_of (drop (place_after (length file) (passed (length file) at x) us) file)))
        → let us = cond b [] (turn_of room s x ∷ served room (used + length (reply_in room (answer room s x))) (turns_of room (left_by room s x) xs)) in
        turn_of room s x ∷ turns_of room (left_by room s x) xs
        ≡ us ++ turns_of room (state_after s us) (messages_of (drop (place_after (length file) at us) file))
    by true k = sym (ap (turns_of room s) e)
    by false k = ap (λ (ts : List Turn). turn_of room s x ∷ ts) k

-- ---- turns, one list of them behind another

pub joined_both : (room : ℕ) (us vs : List Turn) → joined_replies room (us ++ vs) ≡ joined_replies room us ++ joined_replies room vs
unfolding flatten
joined_both room [] vs = refl
joined_both room (t ∷ us) vs =
    ap (λ (l : List ℕ). reply_in room t.outcome ++ l) (joined_both room us vs)
    ∙ sym (append_assoc (reply_in room t.outcome) (joined_replies room us) (joined_replies room vs))

state_both : (s : State) (us vs : List Turn) → state_after s (us ++ vs) ≡ state_after (state_after s us) vs
unfolding state_after
state_both s [] vs = refl
state_both s (t ∷ us) vs = state_both (left t.found t.outcome) us vs

pub tally_both : (us vs : List Turn) (n : Tally) → tally (us ++ vs) n ≡ tally vs (tally us n)
unfolding tally
tally_both [] vs n = refl
tally_both (t ∷ us) vs n = tally_both us vs (counted n (is_refusal t.outcome) (laid_by t.outcome))

pub end_is : (room : ℕ) (s : State) (xs : List Sent) → state_after s (turns_of room s xs) ≡ end_of room s xs
unfolding state_after turns_of end_of
end_is room s [] = refl
end_is room s (x ∷ xs) = end_is room (left_by room s x) xs

-- ---- the parts that a caller has

-- the turns of a run from a place on, with any buffer of 70 bytes or more
abbrev turns_at : List ℕ → ℕ → State → List Turn
turns_at file at s = turns_of 70 s (messages_of (drop at file))

-- they are those of one part, and those from where it left off
pub part_rest : (room : ℕ) (file : List ℕ) (at : ℕ) (s : State) → 70 ≤ room
    → let w = part_from room file at s in turns_at file at s ≡ w.turns ++ turns_at file w.place w.final
part_rest room file at s h =
    let w = part_from room file at s in
    sym (same_turns room s (messages_of (drop at file)) h)
    ∙ rest_after file room 0 (messages_of (drop at file)) at s refl
    ∙ ap (λ (ts : List Turn). w.turns ++ ts) (same_turns room w.final (messages_of (drop w.place file)) h)

-- what calls from a place, a state and a tally on come to, at the end of the file
pub record Joined (file : List ℕ) (at : ℕ) (s : State) (n : Tally) (ks : List FillCall) : Type 0 where
  pub bytes_are : emptied ks ≡ joined_replies 70 (turns_at file at s)
  pub state_is : state_left s ks ≡ state_after s (turns_at file at s)
  pub tally_is : tally_left n ks ≡ tally (turns_at file at s) n

pub parts_joined : (file : List ℕ) (at : ℕ) (s : State) (n : Tally) (ks : List FillCall) → FillCalls file at s n ks
    → length file ≤ reached at ks → Joined file at s n ks
unfolding flatten state_after tally turns_of
parts_joined file at s n [] calls h =
    let none : turns_at file at s ≡ [] = ap (turns_of 70 s) (at_end file at h) in
    record {
      bytes_are = sym (ap (joined_replies 70) none);
      state_is = sym (ap (state_after s) none);
      tally_is = sym (ap (λ (ts : List Turn). tally ts n) none);
    }
parts_joined file at s n (k ∷ ks) calls h =
    let room : ℕ = length k.out in
    let w = part_from room file at s in
    let p = calls.1 in
    let e = part_rest room file at s calls.0 in
    let q = parts_joined file k.result.at (state_at k) k.result.tally ks calls.2 h in
    let rest : turns_at file k.result.at (state_at k) ≡ turns_at file w.place w.final =
    ap (λ (a : ℕ). turns_at file a (state_at k)) p.place_told ∙ ap (turns_at file w.place) p.state_out in
    let took : take k.result.used k.out' ≡ joined_replies 70 w.turns =
    ap (take k.result.used) p.buffer_out
    ∙ take_at (joined_replies room w.turns) _ k.result.used (sym p.used_told)
    ∙ same_joined room w.turns calls.0 in
    record {
      bytes_are =
          ap (λ (l : List ℕ). l ++ emptied ks) took
          ∙ ap (λ (l : List ℕ). joined_replies 70 w.turns ++ l) (q.bytes_are ∙ ap (joined_replies 70) rest)
          ∙ sym (joined_both 70 w.turns (turns_at file w.place w.final))
          ∙ ap (joined_replies 70) (sym e);
      state_is =
          q.state_is
          ∙ ap (state_after (state_at k)) rest
          ∙ ap (λ (x : State). state_after x (turns_at file w.place w.final)) p.state_out
          ∙ sym (state_both s w.turns (turns_at file w.place w.final))
          ∙ ap (state_after s) (sym e);
      tally_is =
          q.tally_is
          ∙ ap (λ (ts : List Turn). tally ts k.result.tally) rest
          ∙ ap (tally (turns_at file w.place w.final)) p.tally_out
          ∙ sym (tally_both w.turns (turns_at file w.place w.final) n)
          ∙ ap (λ (ts : List Turn). tally ts n) (sym e);
    }

-- the parts of a whole run
pub parts_run : (file : List ℕ) (s : State) (n : Tally) (ks : List FillCall) → FillCalls file 0 s n ks → length file ≤ reached 0 ks
    → let w = run 70 file s in
    (emptied ks ≡ joined_replies 70 w.turns) × (state_left s ks ≡ w.final) × (tally_left n ks ≡ tally w.turns n)
parts_run file s n ks calls h =
    let q = parts_joined file 0 s n ks calls h in
    (q.bytes_are, q.state_is ∙ end_is 70 s (messages_of file), q.tally_is)

-- ---- they come to the file's end

pub place_grows : (end at low : ℕ) (ts : List Turn) → low ≤ at → low ≤ end → low ≤ place_after end at ts
unfolding place_after
place_grows end at low [] h g = h
place_grows end at low (t ∷ ts) h g = place_grows end (passed end at t.sent) low ts (go t.sent) g
  where
    go : (x : Sent) → low ≤ passed end at x
    go cut = g
    go (whole m) = omega arith

end_at : (file : List ℕ) (at : ℕ) → is_end (next_at file at) ≡ true → length file ≤ at
unfolding next_at
end_at file at = go (leb (length file) at) refl (ltb (length file) (at + 2)) (ltb (length file) (at + 2 + length_at file at))
  where
    go : (a : Bool) → leb (length file) at ≡ a → (b c : Bool)
        → is_end (cond a End (cond b Cut (cond c Cut (Message (at + 2) (length_at file at) (at + 2 + length_at file at))))) ≡ true
        → length file ≤ at
    go true e b c p = leb-true (length file) at e
    go false e true c p = cc
    go false e false true p = cc
    go false e false false p = cc

first_place : (room end at : ℕ) (s : State) (x : Sent) (xs : List Sent)
    → place_after end at (served room 0 (turns_of room s (x ∷ xs)))
    ≡ place_after end (passed end at x) (served room (0 + length (reply_in room (answer room s x))) (turns_of room (left_by room s x) xs))
unfolding served turns_of place_after
first_place room end at s x xs = rw (never_full room)

-- a part goes past one message at the least
pub goes_further : (room : ℕ) (file : List ℕ) (at : ℕ) (s : State) → at < length file → at < (part_from room file at s).place
goes_further room file at s h = by (is_end (next_at file at)) refl
  where
    by : (b : Bool) → is_end (next_at file at) ≡ b → at < (part_from room file at s).place
    by true f = let k = end_at file at f in absurd (omega arith)
    by false f =
        let g = follows file at (next_at file at) refl f in
        let x = sent_by file (next_at file at) in
        let xs = messages_of (drop (past_of (length file) (next_at file at)) file) in
        let first : (part_from room file at s).place ≡ place_after (length file) at (served room 0 (turns_of room s (x ∷ xs))) =
        ap (λ (ys : List Sent). place_after (length file) at (served room 0 (turns_of room s ys))) g.messages in
        let far = place_grows (length file) (passed (length file) at x) (passed (length file) at x)
        (served room (0 + length (reply_in room (answer room s x))) (turns_of room (left_by room s x) xs)) (omega arith) (omega (arith, g.past, g.inside)) in
        omega (arith, first ∙ first_place room (length file) at s x xs, far, g.past, g.further)

-- each call passes one, so as many calls as bytes are enough
pub parts_reach : (file : List ℕ) (at : ℕ) (s : State) (n : Tally) (ks : List FillCall) → FillCalls file at s n ks
    → length file ≤ at + length ks → length file ≤ reached at ks
parts_reach file at s n [] calls h = omega arith
parts_reach file at s n (k ∷ ks) calls h =
    parts_reach file k.result.at (state_at k) k.result.tally ks calls.2 (by (leb (length file) at) refl)
  where
    room : ℕ
    room = length k.out

    by : (b : Bool) → leb (length file) at ≡ b → length file ≤ k.result.at + length ks
    by true f =
        let far = place_grows (length file) at (length file) (part_from room file at s).turns (leb-true (length file) at f) (omega arith) in
        omega (arith, far, calls.1.place_told)
    by false f =
        let more = goes_further room file at s (leb-false (length file) at f) in
        omega (arith, more, h, calls.1.place_told)

-- ---- joined replies are told apart by their own lengths

-- a reply is the two bytes of a length, and as many bytes
record Framed (r : List ℕ) : Type 0 where
  high : ℕ
  low : ℕ
  rest : List ℕ
  is : r ≡ high ∷ low ∷ rest
  tells : high * 256 + low ≡ length rest

reply_framed : (o : Outcome Result) → length (data_of o) ≤ 64 → Framed (reply o)
unfolding reply
reply_framed (refuse n) few = record { high = 0; low = 4; rest = 1 ∷ n ∷ 0 ∷ 0 ∷ []; is = refl; tells = refl }
reply_framed (accept r) few =
    record {
      high = (4 + length r.data_out) / 256 % 256;
      low = (4 + length r.data_out) % 256;
      rest = 1 ∷ accepted ∷ (be16 r.laid ++ r.data_out);
      is = refl;
      tells = omega (arith, few);
    }

answer_framed : (s : State) (x : Sent) → Framed (reply_in 70 (answer 70 s x))
answer_framed s x = reply_framed (answer 70 s x) (omega (arith, reply_short 70 s x, reply_length 70 (answer 70 s x)))

-- its own L tells how long it is, whatever follows
pub reply_tells : (s : State) (x : Sent) (more : List ℕ)
    → 2 + length_at (reply_in 70 (answer 70 s x) ++ more) 0 ≡ length (reply_in 70 (answer 70 s x))
reply_tells s x more = let f = answer_framed s x in rw f.is (omega (arith, f.tells))

one_apart : (r more : List ℕ) → Framed r → messages_of (r ++ more) ≡ whole (drop 2 r) ∷ messages_of more
one_apart r more f =
    let long : length f.rest ≤ length (f.rest ++ more) = omega (arith, length-append f.rest more) in
    rw f.is
    (next_message f.high f.low (f.rest ++ more)
    ∙ rw (
      f.tells,
      le-ltb (length (f.rest ++ more)) (length f.rest) long,
      take_at f.rest more (length f.rest) refl,
      drop_at f.rest more (length f.rest) refl,
    ))

pub replies_apart : (s : State) (xs : List Sent)
    → messages_of (joined_replies 70 (turns_of 70 s xs)) ≡ map (λ (r : List ℕ). whole (drop 2 r)) (replies 70 (turns_of 70 s xs))
unfolding turns_of flatten messages_of split
replies_apart s [] = refl
replies_apart s (x ∷ xs) =
    let r : List ℕ = reply_in 70 (answer 70 s x) in
    one_apart r (joined_replies 70 (turns_of 70 (left_by 70 s x) xs)) (answer_framed s x)
    ∙ ap (λ (ys : List Sent). whole (drop 2 r) ∷ ys) (replies_apart (left_by 70 s x) xs)
