-- Request [4]: for the fields of `ExchangeOf` a wrong writer or reader that the field rules out, and the border of each
-- hypothesis, which asks no more than the request does. A reader that breaks `replies`, `differ` or `past` keeps the
-- other two, a writer that breaks `calls` keeps `by_kind` and `messages`, and one by kind bytes breaks `by_kind` alone.
-- What breaks `messages` breaks `calls` too: a call's message has just one form.
use Rattle.std.specs.Prelude.{ℕ, zero, suc, ◌+◌, ◌<◌, ◌≡◌, refl, Bool, true, false, ◌&&◌, ◌||◌, cond, List, [], ◌∷◌, ◌++◌, length, drop, get_or, replicate, ltb, eqb, Ok, Err}
use Rattle.std.proofs.Common.{sym, ap, subst, ◌∙◌, true≢false, arith, eq-eqb}
use Rattle.tables.specs.declared.refusals.Refusal.TheVariants.{OutOfRange}
use Rattle.steps.specs.declared.Kind.{Kind}
use Rattle.steps.specs.declared.Kind.TheVariants.{Create, MakeCopy}
use Rattle.steps.specs.declared.Call.{Call}
use Rattle.steps.specs.Kinds.{names, tells, kinds, kind_number, code, among, is_unknown, kind_of, least_length, most_length, argument, call_of, value, values}
use Rattle.steps.specs.Data.{each_is, formed}
use Rattle.steps.specs.Stores.{part, over}
use Rattle.steps.specs.Steps.{Outcome, refuse, accept, number_of}
use Rattle.messages.specs.Messages.{is_foreign, parse, write_bytes, next_at}
use Rattle.messages.specs.Replies.{reply_in}
use Rattle.messages.specs.Run.{cut, whole, answer}
use Rattle.stations.specs.Writer.{message_of, canonical, written, written_as}
use Rattle.stations.specs.Reader.{is_reply, read_reply, Reading}
use Rattle.stations.specs.Promises.{Wrote}
use Rattle.theorems.specs.Stations.{CallKept, CallsKept, KindsWritten, MessageKept, MessagesKept, OfKind, ReplyTold, RepliesTold, reply_at, RepliesDiffer, PastUnread, Exchange}
use Rattle.theorems.specs.Witness3.{start}

-- ---- readers

-- the number of the reader's own refusal, and 0 where it accepts
abbrev pub own_number : Reading → ℕ
own_number (Reading.Refused n) = n
own_number (Reading.Reply number laid at len) = 0

-- one that refuses all
abbrev pub refusing : ℕ → List ℕ → Reading
refusing kind l = Reading.Refused 4

pub replies_alone : Exchange → (RepliesTold refusing → ⊥) × RepliesDiffer refusing × PastUnread refusing
unfolding kinds
replies_alone x = (
  λ k. omega (arith, ap own_number (k 70 start cut 1 [] (omega arith) (x.of_cut 1 refl)).told),
  λ kind l l' number laid at len at' len' low low' e e' same. absurd (omega (arith, ap own_number e)),
  λ kind l rest at len next e. refl,
)

-- one that takes what should be refused for a reply numbered 255
abbrev pub accepting : Reading → Reading
accepting (Reading.Refused n) = Reading.Reply 255 0 0 0
accepting (Reading.Reply number laid at len) = Reading.Reply number laid at len

abbrev pub trusting : ℕ → List ℕ → Reading
trusting kind l = accepting (read_reply kind l)

-- two bytes, and three
low_two : (i : ℕ) → get_or (0 ∷ 0 ∷ []) i 0 < 256
low_two zero = omega arith
low_two (suc zero) = omega arith
low_two (suc (suc i)) = omega arith

low_three : (i : ℕ) → get_or (0 ∷ 1 ∷ 2 ∷ []) i 0 < 256
low_three zero = omega arith
low_three (suc zero) = omega arith
low_three (suc (suc zero)) = omega arith
low_three (suc (suc (suc i))) = omega arith

pub differ_alone : Exchange → RepliesTold trusting × (RepliesDiffer trusting → ⊥) × PastUnread trusting
unfolding read_reply next_at part
differ_alone x = (
  λ room s y kind rest roomy of.
      let k = x.replies room s y kind rest roomy of in
      record { told = ap accepting k.told; data_there = k.data_there },
  λ k.
      let e : ◌≡◌ {A = ℕ} 2 3 =
      ap (λ (l : List ℕ). length l)
      (k 1 (0 ∷ 0 ∷ []) (0 ∷ 1 ∷ 2 ∷ []) 255 0 0 0 0 0 low_two low_three refl refl refl) in
      omega arith,
  λ kind l rest at len next e. ap accepting (x.past kind l rest at len next e),
)

-- one that tells by its refusal how many bytes there are
abbrev pub peek : ℕ → Reading → Reading
peek n (Reading.Refused m) = Reading.Refused (m + n)
peek n (Reading.Reply number laid at len) = Reading.Reply number laid at len

abbrev pub peeking : ℕ → List ℕ → Reading
peeking kind l = peek (length l) (read_reply kind l)

unpeeked : (n : ℕ) (r : Reading) (number laid at len : ℕ) → peek n r ≡ Reading.Reply number laid at len
    → r ≡ Reading.Reply number laid at len
unpeeked n (Reading.Refused m) number laid at len e = cc
unpeeked n (Reading.Reply a b c d) number laid at len e = e

pub past_alone : Exchange → RepliesTold peeking × RepliesDiffer peeking × (PastUnread peeking → ⊥)
unfolding read_reply next_at part
past_alone x = (
  λ room s y kind rest roomy of.
      let k = x.replies room s y kind rest roomy of in
      let l = reply_in room (answer room s y) ++ rest in
      record { told = ap (peek (length l)) k.told; data_there = k.data_there },
  λ kind l l' number laid at len at' len' low low' e e' same.
      x.differ kind l l' number laid at len at' len' low low'
      (unpeeked (length l) (read_reply kind l) number laid at len e)
      (unpeeked (length l') (read_reply kind l') number laid at' len' e') same,
  λ k. omega (arith, ap own_number (k 1 (0 ∷ 0 ∷ []) (9 ∷ []) 2 0 2 refl)),
)

-- ---- writers

-- the call of create, with a frame that its kind does not name
abbrev pub idle : Call
idle = record { kind = Create; station = 3; page = 5; other = 0; right = 0; offset = 0; count = 0; copy = 0; frame = 1 }

abbrev pub lent71 : List ℕ
lent71 = replicate 71 0xAA

-- a writer that refuses calls with arguments that their kind does not name
abbrev pub same_call : Call → Call → Bool
same_call c d =
    eqb c.station d.station && (eqb c.page d.page && (eqb c.other d.other
    && (eqb c.right d.right && (eqb c.offset d.offset && (eqb c.count d.count
    && (eqb c.copy d.copy && eqb c.frame d.frame))))))

abbrev pub strict : ℕ → Call → List ℕ → Outcome (List ℕ)
strict room c bs = cond (same_call c (canonical c)) (written room c bs) (refuse 7)

self_same : (c : Call) → same_call c c ≡ true
self_same c =
    rw (
      eq-eqb c.station c.station refl,
      eq-eqb c.page c.page refl,
      eq-eqb c.other c.other refl,
      eq-eqb c.right c.right refl,
      eq-eqb c.offset c.offset refl,
      eq-eqb c.count c.count refl,
      eq-eqb c.copy c.copy refl,
      eq-eqb c.frame c.frame refl,
    ) refl

-- what a message asks for is made of its arguments
record Made (c : Call) : Type 0 where
  kind : Kind
  arguments : List ℕ
  is : c ≡ call_of kind arguments

asked_made : (m : List ℕ) (c : Call) → parse m ≡ accept c → Made c
unfolding parse
asked_made m c =
    let k = kind_of (get_or m 1 0) in
    go (is_foreign m) (eqb (length m) 1 || is_unknown (get_or m 1 0))
    (ltb (length m) (least_length k) || ltb (most_length k) (length m))
  where
    go : (a b d : Bool)
        → cond a (refuse 2) (cond b (refuse 3)
        (cond d (refuse 4) (accept (call_of (kind_of (get_or m 1 0)) (drop 2 m)))))
        ≡ accept c → Made c
    go true b d e = cc
    go false true d e = cc
    go false false true e = cc
    go false false false e = record { kind = kind_of (get_or m 1 0); arguments = drop 2 m; is = cc }

-- of such a call it makes what the writer makes
strict_made : Exchange → (room : ℕ) (c : Call) (bs : List ℕ) → Made c → strict room c bs ≡ written room c bs
strict_made x room c bs m =
    let q : canonical c ≡ c = ap canonical m.is ∙ x.plain m.kind m.arguments ∙ sym m.is in
    ap (λ (b : Bool). cond b (written room c bs) (refuse 7)) (ap (same_call c) q ∙ self_same c)

pub calls_alone : Exchange → (CallsKept strict → ⊥) × KindsWritten strict written_as × MessagesKept strict
unfolding written names code among argument call_of value values
calls_alone x = (
  λ k.
      omega (
        arith,
        (k idle [] lent71 lent71 (Err OutOfRange) refl (omega arith)
            (record { number_told = refl; len_told = refl; buffer_out = refl })).number_told,
      ),
  λ room kind arguments bs known.
      x.by_kind room kind arguments bs known
      ∙ sym (strict_made x room (call_of (kind_of kind) arguments) bs
      (record { kind = kind_of kind; arguments = arguments; is = refl })),
  λ m l c out out' r sent asks inside roomy wrote.
      x.messages m l c out out' r sent asks inside roomy
      (subst (λ (o : Outcome (List ℕ)). Wrote o out out' r)
      (strict_made x (length out) c (write_bytes m) (asked_made m c asks)) wrote),
)

-- writers that refuse all: one by kind bytes, which no other field speaks of, and one by calls
pub by_kind_alone : KindsWritten written (λ room kind arguments bs. refuse 3) → ⊥
unfolding written kinds names code among argument call_of value values
by_kind_alone k = omega (arith, ap number_of (k 71 1 (3 ∷ 5 ∷ []) [] refl))

pub messages_ruled : MessagesKept (λ room c bs. refuse 7) → ⊥
unfolding parse next_at part kinds names code among argument call_of value values
messages_ruled k =
    omega (
      arith,
      (k (1 ∷ 10 ∷ 5 ∷ []) (0 ∷ 3 ∷ 1 ∷ 10 ∷ 5 ∷ []) (call_of (kind_of 10) (5 ∷ [])) lent71 lent71
          (Err OutOfRange) refl
          refl refl (omega arith) (record { number_told = refl; len_told = refl; buffer_out = refl })).number_told,
    )

-- ---- borders

-- a buffer of just 71 bytes, for a call with every argument as large as it may be, and for the longest message, with a
-- byte past it
abbrev pub largest : Call
largest = call_of MakeCopy (63 ∷ 255 ∷ 253 ∷ [])

pub calls_at_71 : Exchange → CallKept largest [] (over (message_of largest []) lent71) (Ok 7)
unfolding written kinds names code among argument call_of value values
calls_at_71 x =
    x.calls largest [] lent71 (over (message_of largest []) lent71) (Ok 7) refl (omega arith)
    (record { number_told = refl; len_told = refl; buffer_out = refl })

abbrev pub longest : List ℕ
longest = 1 ∷ 5 ∷ 15 ∷ 63 ∷ 0 ∷ replicate 64 7

pub messages_at_71 : Exchange
    → MessageKept longest (0 ∷ 69 ∷ (longest ++ (9 ∷ []))) (0 ∷ 69 ∷ longest) (Ok 71)
unfolding written parse next_at part kinds names code among argument call_of value values
messages_at_71 x =
    x.messages longest (0 ∷ 69 ∷ (longest ++ (9 ∷ []))) (call_of (kind_of 5) (15 ∷ 63 ∷ 0 ∷ replicate 64 7)) lent71
    (0 ∷ 69 ∷ longest)
    (Ok 71) refl refl refl (omega arith)
    (record { number_told = refl; len_told = refl; buffer_out = refl })

-- kind 12, the last one
pub by_kind_at_12 : Exchange → written_as 71 12 (253 ∷ []) [] ≡ written 71 (call_of (kind_of 12) (253 ∷ [])) []
unfolding kinds
by_kind_at_12 x = x.by_kind 71 12 (253 ∷ []) [] refl

pub kind_byte_at_12 : Exchange → OfKind 12 (whole (1 ∷ 12 ∷ 253 ∷ []))
unfolding kinds
kind_byte_at_12 x = x.kind_byte (1 ∷ 12 ∷ 253 ∷ []) refl

pub of_cut_at_12 : Exchange → OfKind 12 cut
unfolding kinds
of_cut_at_12 x = x.of_cut 12 refl

-- a kind that is none, and another than the message's
pub kind_13_ruled : OfKind 13 cut → ⊥
unfolding kinds
kind_13_ruled k = true≢false k.known

pub other_kind_ruled : OfKind 2 (whole (1 ∷ 1 ∷ 3 ∷ 5 ∷ [])) → ⊥
unfolding parse kinds names code among argument call_of
other_kind_ruled k = omega (arith, ap kind_number (k.same (call_of Create (3 ∷ 5 ∷ [])) refl))

-- a reply buffer of just 70 bytes
pub replies_at_70 : Exchange → ReplyTold read_reply 12 (reply_in 70 (answer 70 start cut) ++ []) (answer 70 start cut)
replies_at_70 x = x.replies 70 start cut 12 [] (omega arith) (of_cut_at_12 x)

-- bytes of 255
abbrev pub most_laid : List ℕ
most_laid = 0 ∷ 4 ∷ 1 ∷ 0 ∷ 255 ∷ 255 ∷ []

low_laid : (i : ℕ) → get_or most_laid i 0 < 256
low_laid zero = omega arith
low_laid (suc zero) = omega arith
low_laid (suc (suc zero)) = omega arith
low_laid (suc (suc (suc zero))) = omega arith
low_laid (suc (suc (suc (suc zero)))) = omega arith
low_laid (suc (suc (suc (suc (suc zero))))) = omega arith
low_laid (suc (suc (suc (suc (suc (suc i)))))) = omega arith

pub differ_at_255 : Exchange → reply_at most_laid ≡ reply_at most_laid
unfolding read_reply next_at part is_reply formed each_is kinds tells
differ_at_255 x = x.differ 1 most_laid most_laid 0 65535 6 0 6 0 low_laid low_laid refl refl refl

-- an argument that the kind does not name is no part of the call that is read: `plain` says where there is none
pub idle_dropped : canonical idle ≡ idle → ⊥
unfolding names code among argument call_of value values
idle_dropped e = omega (arith, ap (λ (c : Call). c.frame) e)
