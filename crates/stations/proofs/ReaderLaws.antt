-- The reader. In order: the data of a look at a page; what is known of a reply, and where the
-- reader accepts one; a reply at the front of bytes; what is read of it, case by case.
use Prim.Native.Nat.{ℕ, ◌+◌, ◌*◌, ◌/◌, ◌%◌, ◌≤◌, ◌<◌}
use mathlib.Core.Path.{◌≡◌, refl, sym, ap, subst, ◌∙◌}
use mathlib.Core.Bool.{Bool, true, false, not, ◌&&◌, ◌||◌, cond}
use mathlib.Core.List.{List, [], ◌∷◌, ◌++◌}
use Rattle.std.specs.Prelude.{Option, Some, None, Result, Err}
use native.Mathlib.Omega.{arith}
use lib.ListN.{length, take, drop, get_or, length-append, length-drop}
use lib.Seq.{get_or-drop, get_or-take, take-length}
use lib.Dec.{leb, eqb}
use borrow.Author.Tests.{leb-true, eqb-true, lt-leb, le-leb, not-false, eq-eqb, ne_eqb}
use Rattle.tables.specs.declared.refusals.Refusal.{Refusal}
use Rattle.tables.specs.declared.refusals.Refusal.TheVariants.{CutShort}
use Rattle.tables.specs.Lists.{listed}
use Rattle.tables.specs.Numbers.{accepted, cut_short, foreign_version, unknown_kind, wrong_length, all_numbers, refusal_number}
use Rattle.tables.proofs.ListLaws.{and_left, and_right, or_right, iff_eq}
use Rattle.steps.specs.declared.Kind.{Kind}
use Rattle.steps.specs.declared.Data.{Data}
use Rattle.steps.specs.declared.Data.TheVariants.{Empty, Bytes, Copies, Holder}
use Rattle.steps.specs.Kinds.{tells, is_unknown, kind_of}
use Rattle.steps.specs.Data.{is_mark, copy_marks_valid, many, formed}
use Rattle.steps.specs.Stores.{part}
use Rattle.steps.specs.Steps.{refuse, accept, test}
use Rattle.steps.specs.Promises.{kind_known}
use Rattle.steps.proofs.KindLaws.{known_kind, number_of_kind}
use Rattle.steps.proofs.GuardLaws.{refusal_some}
use Rattle.steps.proofs.StoreLaws.{part_part}
use Rattle.messages.specs.declared.Next.{Next}
use Rattle.messages.specs.declared.Next.TheVariants.{Message, Cut, End}
use Rattle.messages.specs.Messages.{is_foreign, next_at}
use Rattle.messages.specs.Run.{whole}
use Rattle.messages.specs.Promises.{sent_by, sent_alone}
use Rattle.stations.specs.declared.Reply.{Reply as Told}
use Rattle.stations.specs.Reader.{number_in, laid_stated, data_in, is_refusal_reply, is_reply, Refused, Reply, carried, reading, read_body, read_next, read_reply, content_of, reading_of, reply_content}
use Rattle.stations.specs.Private.{number_read, may_carry}
use Rattle.stations.specs.Promises.{ReadOf}
use Rattle.stations.proofs.FrontLaws.{next_front, part_front, Front, front_of, front_taken}

-- ---- the data of a look at a page

-- the marks of the copy at i
pub marks_at : (l : List ℕ) (i : ℕ)
    → (is_mark (get_or l (3 * i + 1) 0) && is_mark (get_or l (3 * i + 2) 0)) ≡ copy_marks_valid (drop (3 * i) l)
marks_at l i = rw (get_or-drop (3 * i) l 1 0, get_or-drop (3 * i) l 2 0)

-- ---- a reply

pub reply_long : (k : Kind) (m : List ℕ) → is_reply k m ≡ true → 4 ≤ length m
unfolding is_reply
reply_long k m e = leb-true 4 (length m) (and_left (leb 4 (length m)) _ e)

-- one with a number, bytes laid and data, by what they are
reply_is : (k : Kind) (m : List ℕ) → 4 ≤ length m
    → is_reply k m ≡ ((eqb (number_in m) accepted || listed (number_in m) all_numbers)
    && cond (eqb (number_in m) accepted) (formed (tells k) (drop 4 m)) (eqb (length (drop 4 m)) 0 && eqb (laid_stated m) 0))
unfolding is_reply
reply_is k m h =
    rw (le-leb 4 (length m) h) (go (eqb (number_in m) accepted) (listed (number_in m) all_numbers))
  where
    bare : eqb (length m) 4 ≡ eqb (length (drop 4 m)) 0
    bare =
        iff_eq _ _ (λ e. eq-eqb (length (drop 4 m)) 0 (omega (arith, length-drop 4 m, eqb-true (length m) 4 e)))
        (λ e. eq-eqb (length m) 4 (omega (arith, length-drop 4 m, eqb-true (length (drop 4 m)) 0 e)))

    go : (a b : Bool) → cond a (formed (tells k) (drop 4 m)) (b && (eqb (length m) 4 && eqb (laid_stated m) 0))
        ≡ ((a || b) && cond a (formed (tells k) (drop 4 m)) (eqb (length (drop 4 m)) 0 && eqb (laid_stated m) 0))
    go true b = refl
    go false true = ap (λ (x : Bool). x && eqb (laid_stated m) 0) bare
    go false false = refl

carry_is : (k : Kind) (o : Option Refusal) (laid : ℕ) (d : List ℕ)
    → may_carry k o laid d ≡ cond (eqb (carried o) accepted) (formed (tells k) d) (eqb (length d) 0 && eqb laid 0)
carry_is k None laid d = refl
carry_is k (Some refusal) laid d = rw (ne_eqb (refusal_number refusal) accepted (refusal_some refusal)) refl

-- what is read of bytes m, with version 1, where the kind byte that is told is that of k
module _ (kind : ℕ) (m : List ℕ) (k : Kind) (some : 1 ≤ length m) (version : get_or m 0 0 ≡ 1) (e : accept k ≡ kind_known kind) where
  body_is : read_body kind m ≡ cond (is_reply k m) (Reply (number_in m) (laid_stated m) 6 (length (drop 4 m))) (Refused wrong_length)
  body_is = rw (ne_eqb (length m) 0 (λ (z : length m ≡ 0). omega arith), eq-eqb (get_or m 0 0) 1 version, number_of_kind kind e, known_kind kind e) refl

  pub body_cut : length m < 4 → Refused wrong_length ≡ read_body kind m
  unfolding is_reply
  body_cut h = sym (body_is ∙ rw (lt-leb 4 (length m) h) refl)

  pub body_unlisted : (refusal : Refusal) → 4 ≤ length m → refuse (refusal_number refusal) ≡ number_read (get_or m 1 0)
      → Refused (refusal_number refusal) ≡ read_body kind m
  body_unlisted refusal h n =
      sym (body_is ∙ rw (reply_is k m h) (go (eqb (number_in m) accepted || listed (number_in m) all_numbers) _ n))
    where
      go : (b c : Bool) → refuse (refusal_number refusal) ≡ cond b (accept (number_in m)) (refuse wrong_length)
          → cond (b && c) (Reply (number_in m) (laid_stated m) 6 (length (drop 4 m))) (Refused wrong_length)
          ≡ Refused (refusal_number refusal)
      go true c n = cc
      go false c n = ap Refused cc

  -- of a number that is read as o
  module _ (o : Option Refusal) (h : 4 ≤ length m) (n : accept (carried o) ≡ number_read (get_or m 1 0)) where
    listed_in : (number_in m ≡ carried o) × ((eqb (number_in m) accepted || listed (number_in m) all_numbers) ≡ true)
    listed_in = go (eqb (number_in m) accepted || listed (number_in m) all_numbers) n
      where
        go : (b : Bool) → accept (carried o) ≡ cond b (accept (number_in m)) (refuse wrong_length)
            → (number_in m ≡ carried o) × (b ≡ true)
        go true n = (cc, refl)
        go false n = (cc, cc)

    carries : (laid : ℕ) (d : List ℕ) → laid ≡ laid_stated m → d ≡ drop 4 m → (b : Bool) → b ≡ may_carry k o laid d
        → is_reply k m ≡ b
    carries laid d l q b c = rw (reply_is k m h, listed_in.1, listed_in.0, ← l, ← q) (sym (c ∙ carry_is k o laid d))

    pub body_misfit : (laid : ℕ) (d : List ℕ) → laid ≡ laid_stated m → d ≡ drop 4 m → false ≡ may_carry k o laid d
        → Refused wrong_length ≡ read_body kind m
    body_misfit laid d l q c = sym (body_is ∙ rw (carries laid d l q false c) refl)

    pub body_told : (laid : ℕ) (d : List ℕ) → laid ≡ laid_stated m → d ≡ drop 4 m → true ≡ may_carry k o laid d
        → Reply (carried o) laid 6 (length d) ≡ read_body kind m
    body_told laid d l q c = sym (body_is ∙ rw (carries laid d l q true c, listed_in.0, ← l, ← q) refl)

-- no data are longer than 64 bytes
pub formed_short : (t : Data) (d : List ℕ) → formed t d ≡ true → length d ≤ 64
unfolding formed
formed_short Empty d e = omega (arith, eqb-true (length d) 0 e)
formed_short Bytes d e = leb-true (length d) 64 (and_right (leb 1 (length d)) _ e)
formed_short Copies d e =
    let n = get_or d 0 0 in
    let most = leb-true n 8 (and_right (leb 1 n) _ (and_left (many 1 8 n) _ e)) in
    let long = eqb-true (length d) (1 + 3 * n) (and_left (eqb (length d) (1 + 3 * n)) _ (and_right (many 1 8 n) _ e)) in
    omega arith
formed_short Holder d e = omega (arith, eqb-true (length d) 3 e)

-- so no reply is longer than 70, with its length
pub reply_short : (k : Kind) (m : List ℕ) → is_reply k m ≡ true → length m ≤ 68
unfolding is_reply
reply_short k m e = go (eqb (number_in m) accepted) (and_right (leb 4 (length m)) _ e)
  where
    go : (b : Bool) → cond b (formed (tells k) (data_in m)) (is_refusal_reply m) ≡ true → length m ≤ 68
    go true h = omega (arith, length-drop 4 m, formed_short (tells k) (drop 4 m) h)
    go false h =
        omega (arith, eqb-true (length m) 4 (and_left (eqb (length m) 4) _ (and_right (listed (number_in m) all_numbers) _ h)))

-- what is known where the reader accepts: the reply at the front, and that it told of it
pub record Accepted (kind : ℕ) (l : List ℕ) (number laid start len : ℕ) : Type 0 where
  pub at : ℕ
  pub size : ℕ
  pub end : ℕ
  pub found : next_at l 0 ≡ Message at size end
  pub front : Front l at size end
  pub version : is_foreign (part l 2 size) ≡ false
  pub is_reply_lem : is_reply (kind_of kind) (part l 2 size) ≡ true
  pub number_is : number ≡ number_in (part l 2 size)
  pub laid_is : laid ≡ laid_stated (part l 2 size)
  pub start_is : start ≡ 6
  pub len_is : len ≡ length (data_in (part l 2 size))

pub accepted_of : (kind : ℕ) (l : List ℕ) (number laid start len : ℕ) → read_reply kind l ≡ Reply number laid start len
    → Accepted kind l number laid start len
unfolding read_reply
accepted_of kind l number laid start len = next (next_at l 0) refl
  where
    body : (at size end : ℕ) → next_at l 0 ≡ Message at size end → Front l at size end → (a : Bool) → is_foreign (part l 2 size) ≡ a → (b c : Bool)
        → is_reply (kind_of kind) (part l 2 size) ≡ c
        → cond a (Refused foreign_version)
        (cond b (Refused unknown_kind)
        (cond c (Reply (number_in (part l 2 size)) (laid_stated (part l 2 size)) 6 (length (data_in (part l 2 size)))) (Refused wrong_length)))
        ≡ Reply number laid start len
        → Accepted kind l number laid start len
    body at size end n f true v b c e p = let z : ◌≡◌ {A = ℕ} 0 1 = cc in absurd (omega arith)
    body at size end n f false v true c e p = let z : ◌≡◌ {A = ℕ} 0 1 = cc in absurd (omega arith)
    body at size end n f false v false false e p = let z : ◌≡◌ {A = ℕ} 0 1 = cc in absurd (omega arith)
    body at size end n f false v false true e p =
        record {
          at = at;
          size = size;
          end = end;
          found = n;
          front = f;
          version = v;
          is_reply_lem = e;
          number_is = cc;
          laid_is = cc;
          start_is = cc;
          len_is = cc;
        }

    next : (n : Next) → next_at l 0 ≡ n → read_next kind l n ≡ Reply number laid start len → Accepted kind l number laid start len
    next (Message at size end) e p =
        let f = front_of l at size end e in
        body at size end e f (is_foreign (part l 2 size)) refl (is_unknown kind) (is_reply (kind_of kind) (part l 2 size)) refl
        (subst (λ (x : ℕ). read_body kind (part l x size) ≡ Reply number laid start len) f.starts p)
    next Cut e p = let z : ◌≡◌ {A = ℕ} 0 1 = cc in absurd (omega arith)
    next End e p = let z : ◌≡◌ {A = ℕ} 0 1 = cc in absurd (omega arith)

-- its data stand within the first 70 bytes
pub read_within : (kind : ℕ) (l : List ℕ) (number laid start len : ℕ) → read_reply kind l ≡ Reply number laid start len → (start ≡ 6) × (len ≤ 64)
read_within kind l number laid start len e =
    let a = accepted_of kind l number laid start len e in
    let short = reply_short (kind_of kind) (part l 2 a.size) a.is_reply_lem in
    (a.start_is, omega (arith, a.len_is, length-drop 4 (part l 2 a.size)))

-- ---- a reply at the front of bytes

-- it alone is read
pub read_front : (kind high low : ℕ) (m rest : List ℕ) → length m ≡ high * 256 + low → read_reply kind (high ∷ low ∷ (m ++ rest)) ≡ read_body kind m
unfolding read_reply
read_front kind high low m rest e =
    rw (next_front high low m rest e) (ap (λ (x : List ℕ). read_body kind x) (part_front high low m rest))

-- whatever stands past it
pub read_past : (kind : ℕ) (l rest : List ℕ) (start len next : ℕ) → next_at l 0 ≡ Message start len next
    → read_reply kind (take next l ++ rest) ≡ read_reply kind l
read_past kind l rest start len next e =
    let f = front_of l start len next e in
    let m = part l 2 len in
    let size = f.long ∙ f.size in
    ap (λ (x : List ℕ). read_reply kind (x ++ rest)) (front_taken l start len next f) ∙ read_front kind f.high f.low m rest size
    ∙ sym (ap (read_reply kind) f.is ∙ read_front kind f.high f.low m f.rest size)

-- a reply that is accepted ends where its data do
pub record ReadEnds (l : List ℕ) (end : ℕ) : Type 0 where
  pub start : ℕ
  pub len : ℕ
  pub found : next_at l 0 ≡ Message start len end

pub read_ends : (kind : ℕ) (l : List ℕ) (number laid start len : ℕ) → read_reply kind l ≡ Reply number laid start len → ReadEnds l (start + len)
read_ends kind l number laid start len e = ends_of (accepted_of kind l number laid start len e)
  where
    ends_of : Accepted kind l number laid start len → ReadEnds l (start + len)
    ends_of a =
        let m = part l 2 a.size in
        let least = reply_long (kind_of kind) m a.is_reply_lem in
        let end : a.end ≡ start + len = omega (arith, a.front.ends, a.front.long, a.start_is, a.len_is, length-drop 4 m) in
        record { start = a.at; len = a.size; found = subst (λ (n : ℕ). next_at l 0 ≡ Message a.at a.size n) end a.found }

-- where the data of a reply stand
data_front : (k : Kind) (l : List ℕ) (at size end : ℕ) → Front l at size end → is_reply k (part l 2 size) ≡ true
    → drop 4 (part l 2 size) ≡ part l 6 (length (drop 4 (part l 2 size)))
unfolding part
data_front k l at size end f is =
    let m = part l 2 size in
    let long = f.long in
    let least = reply_long k m is in
    let inside : 2 + size ≤ length l = omega (arith, ap length f.is, length-append m f.rest) in
    sym (take-length (drop 4 m)) ∙ part_part l 2 size 4 (length (drop 4 m)) inside (omega (arith, length-drop 4 m))

data_at : (kind : ℕ) (l : List ℕ) (number laid start len : ℕ) (a : Accepted kind l number laid start len)
    → drop 4 (part l 2 a.size) ≡ part l start len
data_at kind l number laid start len a =
    data_front (kind_of kind) l a.at a.size a.end a.front a.is_reply_lem ∙ rw (a.start_is, a.len_is) refl

-- and they all stand there
pub read_long : (kind : ℕ) (l : List ℕ) (number laid start len : ℕ) → read_reply kind l ≡ Reply number laid start len → length (part l start len) ≡ len
read_long kind l number laid start len e =
    let a = accepted_of kind l number laid start len e in
    sym (ap length (data_at kind l number laid start len a)) ∙ sym a.len_is

four_first : (m : List ℕ) → 4 ≤ length m → m ≡ get_or m 0 0 ∷ get_or m 1 0 ∷ get_or m 2 0 ∷ get_or m 3 0 ∷ drop 4 m
four_first [] h = absurd (omega arith)
four_first (_ ∷ []) h = absurd (omega arith)
four_first (_ ∷ _ ∷ []) h = absurd (omega arith)
four_first (_ ∷ _ ∷ _ ∷ []) h = absurd (omega arith)
four_first (_ ∷ _ ∷ _ ∷ _ ∷ m) h = refl

-- a reply that is accepted is made of what is read of it
pub read_whole : (kind : ℕ) (l : List ℕ) (number laid start len : ℕ) → ((i : ℕ) → get_or l i 0 < 256)
    → read_reply kind l ≡ Reply number laid start len
    → take (start + len) l ≡ 0 ∷ (4 + len) ∷ 1 ∷ number ∷ laid / 256 ∷ laid % 256 ∷ part l start len
unfolding part
read_whole kind l number laid start len bytes e = whole_of (accepted_of kind l number laid start len e)
  where
    byte_at : (size i : ℕ) → i < size → get_or (part l 2 size) i 0 ≡ get_or l (2 + i) 0
    byte_at size i h = get_or-take size (drop 2 l) i 0 h ∙ get_or-drop 2 l i 0

    whole_of : Accepted kind l number laid start len
        → take (start + len) l ≡ 0 ∷ (4 + len) ∷ 1 ∷ number ∷ laid / 256 ∷ laid % 256 ∷ part l start len
    whole_of a =
        let f = a.front in
        let m = part l 2 a.size in
        let long = f.long in
        let least = reply_long (kind_of kind) m a.is_reply_lem in
        let most = reply_short (kind_of kind) m a.is_reply_lem in
        let size = f.size in
        let left = length-drop 4 m in
        let end : start + len ≡ a.end = omega (arith, f.ends, a.start_is, a.len_is) in
        let high : f.high ≡ 0 = omega arith in
        let low : f.low ≡ 4 + len = omega (arith, a.len_is) in
        let version : get_or m 0 0 ≡ 1 = eqb-true (get_or m 0 0) 1 (not-false (eqb (get_or m 0 0) 1) (or_right (eqb (length m) 0) _ a.version)) in
        let at_three = byte_at a.size 3 (omega arith) in
        let three = bytes 5 in
        let first : get_or m 2 0 ≡ laid / 256 = omega (arith, a.laid_is) in
        let second : get_or m 3 0 ≡ laid % 256 = omega (arith, a.laid_is) in
        ap (λ (n : ℕ). take n l) end ∙ front_taken l a.at a.size a.end f
        ∙ ap (λ (x : List ℕ). f.high ∷ f.low ∷ x) (four_first m least)
        ∙ rw (high, low, version, first, second, ← a.number_is) (ap (λ (x : List ℕ). 0 ∷ (4 + len) ∷ 1 ∷ number ∷ laid / 256 ∷ laid % 256 ∷ x) (data_at kind l number laid start len a))

-- ---- what is read, case by case

reading_meant : (kind : ℕ) (l : List ℕ) → reading_of l (read_reply kind l) ≡ reply_content kind (sent_alone l)
unfolding read_reply
reading_meant kind l = next (next_at l 0) refl
  where
    body : (m : List ℕ) (a b c : Bool) → (c ≡ true → data_in m ≡ part l 6 (length (data_in m)))
        → reading_of l (cond a (Refused foreign_version)
        (cond b (Refused unknown_kind) (cond c (Reply (number_in m) (laid_stated m) 6 (length (data_in m))) (Refused wrong_length))))
        ≡ test a foreign_version (test b unknown_kind (test (not c) wrong_length (accept (content_of (number_in m) (laid_stated m) (data_in m)))))
    body m true b c k = refl
    body m false true c k = refl
    body m false false false k = refl
    body m false false true k = ap (λ (d : List ℕ). accept (content_of (number_in m) (laid_stated m) d)) (sym (k refl))

    next : (n : Next) → next_at l 0 ≡ n → reading_of l (read_next kind l n) ≡ reply_content kind (sent_by l n)
    next (Message at size end) e =
        let f = front_of l at size end e in
        let m = part l 2 size in
        subst (λ (x : ℕ). reading_of l (read_body kind (part l x size)) ≡ reply_content kind (whole (part l x size))) (sym f.starts)
        (body m (is_foreign m) (is_unknown kind) (is_reply (kind_of kind) m) (data_front (kind_of kind) l at size end f))
    next Cut e = refl
    next End e = refl

-- so the answer has what `read_reply` promises
pub read_of : (kind : ℕ) (l : List ℕ) {r : Result Told Refusal} → reading r ≡ read_reply kind l → ReadOf kind l r
read_of kind l e = record { told = e; meant = ap (reading_of l) e ∙ reading_meant kind l }

-- also where no whole message stands at the front
pub read_none : (kind : ℕ) (l : List ℕ) (n : Next) → n ≡ next_at l 0 → ((start len next : ℕ) → n ≡ Message start len next → ⊥)
    → ReadOf kind l (Err CutShort)
unfolding read_reply
read_none kind l n e none = read_of kind l (go n e none)
  where
    go : (n : Next) → n ≡ next_at l 0 → ((start len next : ℕ) → n ≡ Message start len next → ⊥) → Refused cut_short ≡ read_next kind l (next_at l 0)
    go (Message start len next) e none = absurd (none start len next refl)
    go Cut e none = rw (← e) refl
    go End e none = rw (← e) refl
