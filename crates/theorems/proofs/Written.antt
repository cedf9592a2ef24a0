-- The calls of request [4]. In order: a message at the front of bytes; a call written and parsed; a message parsed and
-- written again.
use Prim.Native.Nat.{ℕ, ◌+◌, ◌*◌, ◌/◌, ◌%◌, ◌≤◌}
use mathlib.Core.Path.{◌≡◌, refl, sym, ap, subst, ◌∙◌}
use mathlib.Core.Bool.{Bool, true, false, cond}
use mathlib.Core.List.{List, [], ◌∷◌, ◌++◌, append-nil}
use native.Mathlib.Omega.{arith}
use lib.ListN.{length, take, drop, get_or, length-drop, take-append-drop}
use lib.Seq.{take_all, take_at, drop_at, drop-drop, length-take-le}
use lib.Dec.{eqb}
use borrow.Author.Tests.{ne_eqb, eqb-true, eqb-false, le-ltb, not-false}
use Rattle.tables.proofs.ListLaws.{or_left, or_right}
use Rattle.tables.specs.Numbers.{accepted}
use Rattle.steps.specs.declared.Kind.{Kind}
use Rattle.steps.specs.declared.Call.{Call}
use Rattle.steps.specs.Kinds.{bytes, names, kind_number, kind_of, has, least_length, most_length, call_of, values}
use Rattle.steps.specs.Calls.{outside}
use Rattle.steps.specs.Stores.{part}
use Rattle.steps.specs.Steps.{accept}
use Rattle.steps.proofs.KindLaws.{kind_numbered, number_known, number_kind}
use Rattle.messages.specs.declared.Next.{Next}
use Rattle.messages.specs.declared.Next.TheVariants.{Message, Cut, End}
use Rattle.messages.specs.Messages.{parse, write_bytes, next_at}
use Rattle.messages.specs.Replies.{be16}
use Rattle.messages.specs.Run.{whole}
use Rattle.messages.specs.Promises.{sent_by, sent_alone}
use Rattle.messages.proofs.ParseLaws.{AskedBy, asked_by}
use Rattle.stations.specs.Writer.{body, message_of, canonical, written, Written, written_length}
use Rattle.stations.specs.Promises.{Wrote}
use Rattle.stations.specs.Private.{arguments}
use Rattle.stations.proofs.WriterLaws.{count, ending, ending_is, count_least, three_singles, short_message, length_fits, kind_laws, named_made, four_long, values_of, values_are, values_count, written_inside, wrote_same}
use Rattle.stations.proofs.FrontLaws.{next_front, part_front, front_of, front_taken}
use Rattle.theorems.specs.Stations.{InRange, CallRead, CallsKept, MessagesKept}

-- ---- a message at the front of bytes

sent_front : (high low : ℕ) (m rest : List ℕ) → length m ≡ high * 256 + low → sent_alone (high ∷ low ∷ (m ++ rest)) ≡ whole m
sent_front high low m rest e =
    ap (sent_by (high ∷ low ∷ (m ++ rest))) (next_front high low m rest e) ∙ ap whole (part_front high low m rest)

-- ---- a call written and parsed

module _ (c : Call) (bs : List ℕ) (i : InRange c bs) where
  abbrev k : Kind
  k = c.kind

  -- the bytes after the length
  body_long : length (body c bs) ≡ 2 + (count k + length (ending k bs))
  body_long = let n = values_count c bs in omega arith

  pub parsed : parse (body c bs) ≡ accept (canonical c)
  unfolding parse call_of
  parsed =
      let m : List ℕ = body c bs in
      let long = body_long in
      let fits = length_fits (canonical c) bs i in
      let none : eqb (length m) 0 ≡ false = ne_eqb (length m) 0 (λ (z : length m ≡ 0). omega arith) in
      let one : eqb (length m) 1 ≡ false = ne_eqb (length m) 1 (λ (z : length m ≡ 1). omega arith) in
      rw (none, one, number_known k, kind_numbered k, le-ltb (length m) (least_length k) (omega (arith, fits.0)), le-ltb (most_length k) (length m) (omega (arith, fits.1)))
      (ap accept (kind_laws k c [] bs).asked_again)

  -- a write's bytes
  bytes_kept : has bytes k ≡ true → write_bytes (body c bs) ≡ bs
  bytes_kept q =
      ap (drop 3) (values_are c bs ∙ ap (λ (x : List ℕ). take (count k) (arguments k c) ++ x) (ending_is k bs true q))
      ∙ drop_at (take (count k) (arguments k c)) bs 3 (length-take-le (count k) (arguments k c) (omega (arith, four_long c, three_singles k q)) ∙ three_singles k q)

  -- it is short
  pub body_short : length (body c bs) ≤ 69
  unfolding call_of
  body_short = let short = short_message (canonical c) bs i in omega (arith, body_long)

  -- what the writer leaves
  pub left_by : (out out' : List ℕ) (r : Written) → 71 ≤ length out → Wrote (written (length out) c bs) out out' r → Wrote (accept (message_of c bs)) out out' r
  left_by out out' r h w = wrote_same (written_inside (length out) c bs h i) w

  pub taken_by : (out out' : List ℕ) (r : Written) → Wrote (accept (message_of c bs)) out out' r → take (written_length r) out' ≡ message_of c bs
  taken_by out out' r a =
      ap (take (written_length r)) a.buffer_out ∙ take_at (message_of c bs) (drop (length (message_of c bs)) out) (written_length r) (sym a.len_told)

  read_by : (rest : List ℕ) → CallRead c bs (message_of c bs ++ rest)
  read_by rest =
      let m = body c bs in
      let n = length m in
      let short = body_short in
      let size : n ≡ n / 256 % 256 * 256 + n % 256 = omega arith in
      record { message = m; sent = sent_front (n / 256 % 256) (n % 256) m rest size; same_call = parsed; same_bytes = bytes_kept }

pub calls_kept : CallsKept written
calls_kept c bs out out' r i h w =
    let a = left_by c bs i out out' r h w in
    record {
      number_told = a.number_told;
      read = λ rest. subst (λ (l : List ℕ). CallRead c bs (l ++ rest)) (sym (taken_by c bs i out out' r a)) (read_by c bs i rest);
    }

-- ---- a message parsed and written again

two_first : (m : List ℕ) → 2 ≤ length m → m ≡ get_or m 0 0 ∷ get_or m 1 0 ∷ drop 2 m
two_first [] h = absurd (omega arith)
two_first (_ ∷ []) h = absurd (omega arith)
two_first (_ ∷ _ ∷ m) h = refl

module _ (m : List ℕ) (c : Call) (a : AskedBy m c) where
  abbrev kind : Kind
  kind = kind_of (get_or m 1 0)

  -- its arguments, asked for again
  back : values (names kind) (call_of kind (drop 2 m)) (write_bytes m) ≡ drop 2 m
  back = go (has bytes kind) refl
    where
      go : (b : Bool) → has bytes kind ≡ b → values (names kind) (call_of kind (drop 2 m)) (write_bytes m) ≡ drop 2 m
      go true q =
          let r = drop 2 m in
          let long = length-drop 2 m in
          let three = three_singles kind q in
          let by_least = count_least kind true q in
          values_of kind r (write_bytes m) (omega (arith, a.least)) ∙ ap (λ (n : ℕ). take n r ++ ending kind (write_bytes m)) three
          ∙ ap (λ (x : List ℕ). take 3 r ++ x) (ending_is kind (write_bytes m) true q ∙ sym (drop-drop 3 2 m)) ∙ take-append-drop 3 r
      go false q =
          let r = drop 2 m in
          let long = length-drop 2 m in
          let by_least = count_least kind false q in
          let most : most_length kind ≡ least_length kind + 0 = ap (λ (x : Bool). least_length kind + cond x 63 0) q in
          values_of kind r (write_bytes m) (omega (arith, a.least))
          ∙ ap (λ (x : List ℕ). take (count kind) r ++ x) (ending_is kind (write_bytes m) false q)
          ∙ append-nil (take (count kind) r) ∙ take_all (count kind) r (omega (arith, a.least, a.most))

  -- so its bytes are those of the call's message
  again : body c (write_bytes m) ≡ m
  unfolding call_of
  again =
      let none = eqb-false (length m) 0 (or_left (eqb (length m) 0) _ a.version) in
      let one = eqb-false (length m) 1 a.some in
      let version : get_or m 0 0 ≡ 1 = eqb-true (get_or m 0 0) 1 (not-false (eqb (get_or m 0 0) 1) (or_right (eqb (length m) 0) _ a.version)) in
      ap (λ (d : Call). body d (write_bytes m)) (sym a.call)
      ∙ ap (λ (x : List ℕ). 1 ∷ kind_number kind ∷ x) back ∙ ap (λ (n : ℕ). 1 ∷ n ∷ drop 2 m) (number_kind (get_or m 1 0) a.known)
      ∙ ap (λ (n : ℕ). n ∷ get_or m 1 0 ∷ drop 2 m) (sym version) ∙ sym (two_first m (omega arith))

-- a message at the front of bytes is its length and its bytes
sent_taken : (l m : List ℕ) → sent_alone l ≡ whole m → length m ≤ 255 → take (2 + length m) l ≡ be16 (length m) ++ m
sent_taken l m e few = go (next_at l 0) refl e
  where
    go : (n : Next) → next_at l 0 ≡ n → sent_by l n ≡ whole m → take (2 + length m) l ≡ be16 (length m) ++ m
    go (Message start len next) q p =
        let f = front_of l start len next q in
        let there : part l start len ≡ m = cc in
        let is : part l 2 len ≡ m = subst (λ (x : ℕ). part l x len ≡ m) f.starts there in
        let long = ap length is in
        let end : 2 + length m ≡ next = omega (arith, f.long, f.ends) in
        let high : f.high ≡ length m / 256 % 256 = omega (arith, f.long, f.size) in
        let low : f.low ≡ length m % 256 = omega (arith, f.long, f.size) in
        ap (λ (n : ℕ). take n l) end ∙ front_taken l start len next f ∙ rw (high, low, is) refl
    go Cut q p = cc
    go End q p = cc

pub messages_kept : MessagesKept written
messages_kept m l c out out' r sent asked within h w =
    let a = asked_by m c asked in
    let is = again m c a in
    let bs = write_bytes m in
    let plain : canonical c ≡ c =
    subst (λ (d : Call). canonical d ≡ d) a.call (named_made (kind_of (get_or m 1 0)) (drop 2 m) bs) in
    let i : InRange c bs = subst (λ (d : Call). outside 254 (length bs) d ≡ accepted) (sym plain) within in
    let same = ap length is in
    let short = body_short c bs i in
    let x = left_by c bs i out out' r h w in
    let message : message_of c bs ≡ be16 (length m) ++ m = ap (λ (b : List ℕ). be16 (length b) ++ b) is in
    record {
      number_told = x.number_told;
      len_told = x.len_told ∙ omega arith;
      same = taken_by c bs i out out' r x ∙ message ∙ sym (sent_taken l m sent (omega arith));
    }
