-- The replies of request [4]. In order: the number of a refusal; a refusal and an accepted reply at the front of bytes;
-- the reply to a message; what a kind byte says; the request.
use Prim.Native.Nat.{ℕ, ◌+◌, ◌*◌, ◌/◌, ◌%◌, ◌≤◌}
use mathlib.Core.Path.{◌≡◌, refl, sym, ap, subst, ◌∙◌}
use mathlib.Core.Bool.{true, false, not}
use mathlib.Core.List.{List, [], ◌∷◌, ◌++◌}
use native.Mathlib.Omega.{arith}
use lib.ListN.{length, take, get_or}
use lib.Seq.{take_at}
use lib.Dec.{eqb}
use borrow.Author.Tests.{le-leb, le-ltb, ne_eqb, not-true}
use Rattle.tables.specs.Lists.{all, listed}
use Rattle.tables.specs.Numbers.{message_numbers, all_numbers}
use Rattle.tables.proofs.ListLaws.{all_listed}
use Rattle.steps.specs.declared.Kind.{Kind}
use Rattle.steps.specs.declared.Call.{Call}
use Rattle.steps.specs.Kinds.{tells, is_unknown, kind_of, call_of}
use Rattle.steps.specs.Data.{formed}
use Rattle.steps.specs.Stores.{part}
use Rattle.steps.specs.Steps.{Outcome, refuse, accept}
use Rattle.steps.specs.Effects.{State, Result, step}
use Rattle.steps.proofs.DecideLaws.{IfAccepted, if_refused, if_accepted}
use Rattle.steps.proofs.StepLaws.{step_formed}
use Rattle.messages.specs.Replies.{reply}
use Rattle.messages.specs.Run.{Sent, cut, whole, asked, bytes_of, respond, answer}
use Rattle.messages.proofs.ParseLaws.{own_numbers, Known, bad, good, asked_known, asked_by}
use Rattle.stations.specs.Reader.{is_reply, read_reply}
use Rattle.stations.proofs.ReaderLaws.{formed_short, read_front, read_past, ReadEnds, read_ends, read_long, read_whole}
use Rattle.theorems.specs.Stations.{OfKind, ReplyTold, RepliesTold, reply_of, reply_at, RepliesDiffer, PastUnread}

-- ---- a reply at the front of bytes

-- what a message may come to, of a call of kind `kind`: turned back with a number of the table, or accepted with data
-- of the kind's form
abbrev Tells : ℕ → Outcome Result → Type 0
Tells kind o = IfAccepted (λ (r : Result). (formed (tells (kind_of kind)) r.data_out ≡ true) × (r.laid ≤ 512)) o

-- a number of the table of messages is one of the whole table, and not 0
in_rows : (n : ℕ) → listed n message_numbers ≡ true → listed n all_numbers ≡ true
unfolding all
in_rows n e = all_listed (λ (m : ℕ). listed m all_numbers) message_numbers n refl e

not_accepted : (n : ℕ) → listed n message_numbers ≡ true → eqb n 0 ≡ false
unfolding all
not_accepted n e = not-true (eqb n 0) (all_listed (λ (m : ℕ). not (eqb m 0)) message_numbers n refl e)

told_at : (kind : ℕ) (o : Outcome Result) (rest : List ℕ) → is_unknown kind ≡ false → Tells kind o → ReplyTold read_reply kind (reply o ++ rest) o
unfolding reply is_reply part
told_at kind (refuse n) rest u (if_refused row) =
    record {
      told = read_front kind 0 4 (1 ∷ n ∷ 0 ∷ 0 ∷ []) rest refl ∙ rw (u, not_accepted n row, in_rows n row) refl;
      data_there = refl;
    }
told_at kind (accept r) rest u (if_accepted (form, few)) =
    let d = r.data_out in
    let short = formed_short (tells (kind_of kind)) d form in
    let m : List ℕ = 1 ∷ 0 ∷ r.laid / 256 % 256 ∷ r.laid % 256 ∷ d in
    let size : length m ≡ (4 + length d) / 256 % 256 * 256 + (4 + length d) % 256 = omega arith in
    let some : eqb (length m) 0 ≡ false = ne_eqb (length m) 0 (λ (z : length m ≡ 0). omega arith) in
    let laid : r.laid / 256 % 256 * 256 + r.laid % 256 ≡ r.laid = omega arith in
    record {
      told = read_front kind ((4 + length d) / 256 % 256) ((4 + length d) % 256) m rest size
          ∙ rw (some, u, le-leb 4 (length m) (omega arith), form, laid) refl;
      data_there = take_at d rest (length d) refl;
    }

-- ---- the reply to a message

tells_of : (room : ℕ) (s : State) (x : Sent) (kind : ℕ) → 70 ≤ room → OfKind kind x → Tells kind (answer room s x)
unfolding answer all
tells_of room s x kind h k = rw (le-ltb room 70 h) (go (asked x) (asked_known x) refl)
  where
    go : (p : Outcome Call) → Known p → asked x ≡ p → Tells kind (respond s p (bytes_of x))
    go (refuse n) (bad one row) e = if_refused (all_listed (λ (m : ℕ). listed m message_numbers) own_numbers n refl row)
    go (accept c) good e =
        subst (λ (q : Kind). IfAccepted (λ (r : Result). (formed (tells q) r.data_out ≡ true) × (r.laid ≤ 512)) (step s c (bytes_of x))) (k.same c e)
        (step_formed s c (bytes_of x))

pub replies_told : RepliesTold read_reply
replies_told room s x kind rest h k =
    rw (le-ltb room 70 h) (told_at kind (answer room s x) rest k.known (tells_of room s x kind h k))

-- ---- the kind byte

pub kind_byte : (m : List ℕ) → is_unknown (get_or m 1 0) ≡ false → OfKind (get_or m 1 0) (whole m)
unfolding call_of
kind_byte m e = record { known = e; same = λ c a. ap (λ (d : Call). d.kind) (sym (asked_by m c a).call) }

pub of_cut : (kind : ℕ) → is_unknown kind ≡ false → OfKind kind cut
of_cut kind e = record { known = e; same = λ c a. cc }

-- ---- two replies

pub replies_differ : RepliesDiffer read_reply
replies_differ kind l l' number laid start len start' len' b b' e e' p =
    let long = read_long kind l number laid start len e in
    let long' = read_long kind l' number laid start' len' e' in
    let same : len ≡ len' = sym long ∙ ap length p ∙ long' in
    whole_reply l start len (read_ends kind l number laid start len e) ∙ read_whole kind l number laid start len b e
    ∙ ap (λ (d : List ℕ). 0 ∷ (4 + len) ∷ 1 ∷ number ∷ laid / 256 ∷ laid % 256 ∷ d) p
    ∙ ap (λ (n : ℕ). 0 ∷ (4 + n) ∷ 1 ∷ number ∷ laid / 256 ∷ laid % 256 ∷ part l' start' len') same
    ∙ sym (read_whole kind l' number laid start' len' b' e') ∙ sym (whole_reply l' start' len' (read_ends kind l' number laid start' len' e'))
  where
    whole_reply : (x : List ℕ) (s n : ℕ) → ReadEnds x (s + n) → reply_at x ≡ take (s + n) x
    whole_reply x s n d = ap (reply_of x) d.found

pub past_unread : PastUnread read_reply
past_unread kind l rest start len next e = read_past kind l rest start len next e
