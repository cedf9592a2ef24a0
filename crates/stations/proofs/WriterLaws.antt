-- The writer. In order: the lengths of a kind's messages; its arguments; a message as the code
-- lays it; what a call comes to; what the writer leaves.
use Prim.Native.Nat.{ℕ, zero, suc, ◌+◌, ◌-◌, ◌/◌, ◌%◌, ◌≤◌, ◌<◌}
use mathlib.Core.Path.{◌≡◌, refl, sym, ap, subst, ◌∙◌}
use mathlib.Core.Bool.{Bool, true, false, ◌&&◌, cond, false≢true}
use mathlib.Core.List.{List, [], ◌∷◌, ◌++◌, append_assoc, append-nil}
use native.Mathlib.Omega.{arith}
use Rattle.std.specs.Prelude.{Ok, Err}
use lib.ListN.{length, get_or, take, drop, replicate, length-append, length-take}
use native.Mathlib.Numerals.{add-one}
use lib.Seq.{length-take-le, take-append-add, take_all, drop-drop, drop-cons}
use lib.Dec.{leb, ltb, eqb}
use borrow.Author.Tests.{lt-ltb, le-ltb, ltb-true, ltb-false, leb-true, eqb-true, eqb-false}
use Rattle.tables.specs.Lists.{all}
use Rattle.tables.specs.declared.refusals.Refusal.{Refusal}
use Rattle.tables.specs.declared.refusals.Refusal.TheVariants.{ShortBuffer}
use Rattle.tables.specs.Numbers.{accepted, unknown_kind, short_buffer, refusal_number}
use Rattle.tables.proofs.ListLaws.{and_left, and_right, or_left, or_right}
use Rattle.steps.specs.declared.Kind.{Kind}
use Rattle.steps.specs.declared.Kind.TheVariants.{Create, DeletePage, Grant, Read, Write, MakeCopy, DeleteCopy, SetCurrent, RemoveCurrent, LookPage, LookFrame, Retire}
use Rattle.steps.specs.declared.Call.{Call}
use Rattle.steps.specs.Kinds.{Name, offset, bytes, names, kinds, kind_number, is_unknown, kind_of, code, among, has, least_length, most_length, argument, call_of, value, values}
use Rattle.steps.specs.Calls.{bad_span, outside}
use Rattle.steps.specs.Stores.{splice, spliced_within, over}
use Rattle.steps.specs.Steps.{Outcome, refuse, accept, guarded}
use Rattle.steps.specs.Promises.{kind_known}
use Rattle.steps.proofs.KindLaws.{known_kind, number_of_kind, no_kind, no_kind_told, kind_numbered, number_known, each_kind, number_kind}
use Rattle.steps.proofs.StoreLaws.{length_splice, laid_fitting, splice_front, splice_right}
use Rattle.steps.proofs.GuardLaws.{turned_back, passed, refusal_some}
use Rattle.steps.proofs.RangeLaws.{span_within, ranged}
use Rattle.messages.specs.Replies.{be16}
use Rattle.stations.specs.Writer.{message_of, canonical, composed, written, written_as, message_in, Written, written_length}
use Rattle.stations.specs.Promises.{Wrote}
use Rattle.stations.specs.Private.{singles, tail, Lengths, laid_message, MessageRoom, arguments}

-- ---- the lengths of a kind's messages

some_named : (x : Name) (l : List Name) → among x l ≡ true → 1 ≤ length l
unfolding among
some_named x [] e = absurd (false≢true e)
some_named x (y ∷ l) e = omega arith

-- those that end with bytes may be longer
pub longer : (k : Kind) → ltb (least_length k) (most_length k) ≡ has bytes k
longer k = go (has bytes k)
  where
    go : (b : Bool) → ltb (least_length k) (least_length k + cond b 63 0) ≡ b
    go true = lt-ltb (least_length k) (least_length k + 63) (omega arith)
    go false = le-ltb (least_length k) (least_length k + 0) (omega arith)

pub lengths : (k : Kind) → Lengths (least_length k) (most_length k)
lengths k =
    record {
      some = omega arith;
      more = λ h. let one = some_named bytes (names k) (sym (longer k) ∙ lt-ltb _ _ h) in omega arith;
    }

-- how many arguments of one byte a kind has, and the bytes that end its messages
abbrev pub count : Kind → ℕ
count k = singles (least_length k) (most_length k)

abbrev pub ending : Kind → List ℕ → List ℕ
ending k bs = tail (least_length k) (most_length k) bs

-- a kind has four arguments of one byte at the most, and one that has bytes as well has an offset for them and three
-- such arguments
roomy : (k : Kind) → (leb (count k) 4 && cond (has bytes k) (has offset k && eqb (count k) 3) true) ≡ true
unfolding all kinds names among code
roomy k = each_kind (λ (x : Kind). leb (count x) 4 && cond (has bytes x) (has offset x && eqb (count x) 3) true) refl k

pub few_singles : (k : Kind) → count k ≤ 4
few_singles k = leb-true (count k) 4 (and_left (leb (count k) 4) _ (roomy k))

with_bytes : (k : Kind) → has bytes k ≡ true → (has offset k && eqb (count k) 3) ≡ true
with_bytes k q = where_so (has bytes k) q (and_right (leb (count k) 4) _ (roomy k))
  where
    where_so : (b : Bool) {x : Bool} → b ≡ true → cond b x true ≡ true → x ≡ true
    where_so true e h = h
    where_so false e h = absurd (false≢true e)

pub three_singles : (k : Kind) → has bytes k ≡ true → count k ≡ 3
three_singles k q = eqb-true (count k) 3 (and_right (has offset k) _ (with_bytes k q))

pub ending_is : (k : Kind) (bs : List ℕ) (b : Bool) → has bytes k ≡ b → ending k bs ≡ cond b bs []
ending_is k bs b q = ap (λ (x : Bool). cond x bs []) (longer k ∙ q)

pub count_least : (k : Kind) (b : Bool) → has bytes k ≡ b → count k ≡ cond b (least_length k - 3) (least_length k - 2)
count_least k b q = ap (λ (x : Bool). cond x (least_length k - 3) (least_length k - 2)) (longer k ∙ q)

-- the bytes of a call in range are 1 to 64
pub span_short : (c : Call) (size : ℕ) → outside 254 size c ≡ accepted → has bytes c.kind ≡ true → (1 ≤ size) × (size ≤ 64)
span_short c size e q =
    let span = (ranged 254 size c e).span_in in
    let bad : bad_span c.offset size ≡ false = rw (and_left (has offset c.kind) _ (with_bytes c.kind q), q) at span in
    let w = span_within c.offset size bad in
    let some = eqb-false size 0 (or_left (eqb size 0) _ (or_right (ltb 63 c.offset) _ bad)) in
    (omega arith, omega arith)

-- so a message in range has 71 bytes at the most, and as many as its kind's have
pub short_message : (c : Call) (bs : List ℕ) → outside 254 (length bs) c ≡ accepted → count c.kind + length (ending c.kind bs) ≤ 67
short_message c bs e = go (has bytes c.kind) refl
  where
    go : (b : Bool) → has bytes c.kind ≡ b → count c.kind + length (ending c.kind bs) ≤ 67
    go true q =
        let few = (span_short c (length bs) e q).1 in
        let three = three_singles c.kind q in
        rw (ending_is c.kind bs true q) (omega arith)
    go false q = rw (ending_is c.kind bs false q) (omega (arith, few_singles c.kind))

pub length_fits : (c : Call) (bs : List ℕ) → outside 254 (length bs) c ≡ accepted
    → (least_length c.kind ≤ 2 + (count c.kind + length (ending c.kind bs)))
    × (2 + (count c.kind + length (ending c.kind bs)) ≤ most_length c.kind)
length_fits c bs e = go (has bytes c.kind) refl
  where
    go : (b : Bool) → has bytes c.kind ≡ b
        → (least_length c.kind ≤ 2 + (count c.kind + length (ending c.kind bs)))
        × (2 + (count c.kind + length (ending c.kind bs)) ≤ most_length c.kind)
    go true q =
        let k = c.kind in
        let size = span_short c (length bs) e q in
        let three = three_singles k q in
        let by_least = count_least k true q in
        let most : most_length k ≡ least_length k + 63 = ap (λ (x : Bool). least_length k + cond x 63 0) q in
        let end = ap length (ending_is k bs true q) in
        (omega (arith, size.0), omega (arith, size.1))
    go false q =
        let k = c.kind in
        let by_least = count_least k false q in
        let most : most_length k ≡ least_length k + 0 = ap (λ (x : Bool). least_length k + cond x 63 0) q in
        let end = ap length (ending_is k bs false q) in
        (omega arith, omega arith)

-- ---- the arguments of a kind

-- n bytes of r from index i on
unfoldable pub gets : ℕ → ℕ → List ℕ → List ℕ
gets i zero r = []
gets i (suc n) r = get_or r i 0 ∷ gets (i + 1) n r

pub gets_part : (i n : ℕ) (r : List ℕ) → i + n ≤ length r → gets i n r ≡ take n (drop i r)
unfolding gets
gets_part i zero r h = refl
gets_part i (suc n) r h =
    ap (λ (l : List ℕ). get_or r i 0 ∷ l) (gets_part (i + 1) n r (omega arith) ∙ ap (λ (j : ℕ). take n (drop j r)) (add-one i))
    ∙ ap (take (suc n)) (sym (drop-cons r i 0 (omega arith)))

-- what is known of each kind k, of its calls c and of arguments r: the arguments of a call, asked for again, make the
-- same call, also with 0 past the last one; the arguments of a call that was asked for are those that it was
-- made of
pub record KindLaws (k : Kind) (c : Call) (r bs : List ℕ) : Type 0 where
  pub asked_again : call_of k (values (names k) c bs) ≡ call_of k (values (names k) c [])
  pub placed_again : call_of k (arguments k c) ≡ call_of k (values (names k) c [])
  pub same_values : values (names k) (call_of k (values (names k) c [])) bs ≡ values (names k) c bs
  pub made_again : call_of k (values (names k) (call_of k r) []) ≡ call_of k r
  pub values_again : values (names k) (call_of k r) bs ≡ gets 0 (count k) r ++ ending k bs

pub kind_laws : (k : Kind) (c : Call) (r bs : List ℕ) → KindLaws k c r bs
unfolding names among code argument call_of value values gets
kind_laws Create c r bs =
    record { asked_again = refl; placed_again = refl; same_values = refl; made_again = refl; values_again = refl }
kind_laws DeletePage c r bs =
    record { asked_again = refl; placed_again = refl; same_values = refl; made_again = refl; values_again = refl }
kind_laws Grant c r bs =
    record { asked_again = refl; placed_again = refl; same_values = refl; made_again = refl; values_again = refl }
kind_laws Read c r bs =
    record { asked_again = refl; placed_again = refl; same_values = refl; made_again = refl; values_again = refl }
kind_laws Write c r bs =
    record { asked_again = refl; placed_again = refl; same_values = refl; made_again = refl; values_again = ap (λ (l : List ℕ). get_or r 0 0 ∷ get_or r 1 0 ∷ get_or r 2 0 ∷ l) (append-nil bs) }
kind_laws MakeCopy c r bs =
    record { asked_again = refl; placed_again = refl; same_values = refl; made_again = refl; values_again = refl }
kind_laws DeleteCopy c r bs =
    record { asked_again = refl; placed_again = refl; same_values = refl; made_again = refl; values_again = refl }
kind_laws SetCurrent c r bs =
    record { asked_again = refl; placed_again = refl; same_values = refl; made_again = refl; values_again = refl }
kind_laws RemoveCurrent c r bs =
    record { asked_again = refl; placed_again = refl; same_values = refl; made_again = refl; values_again = refl }
kind_laws LookPage c r bs =
    record { asked_again = refl; placed_again = refl; same_values = refl; made_again = refl; values_again = refl }
kind_laws LookFrame c r bs =
    record { asked_again = refl; placed_again = refl; same_values = refl; made_again = refl; values_again = refl }
kind_laws Retire c r bs =
    record { asked_again = refl; placed_again = refl; same_values = refl; made_again = refl; values_again = refl }

-- ---- a message as the code lays it

-- its first bytes, and then those that end it
pub parts_laid : (h t out mid last : List ℕ) (n : ℕ) → mid ≡ spliced_within out 0 h → last ≡ spliced_within mid n t
    → length h ≡ n → n + length t ≤ length out → last ≡ over (h ++ t) out
parts_laid h t out mid last n first second e room =
    let one : mid ≡ splice out 0 h = first ∙ laid_fitting out 0 h (omega arith) in
    let kept : length mid ≡ length out = ap length one ∙ length_splice out 0 h (omega arith) in
    second ∙ laid_fitting mid n t (omega arith) ∙ ap (λ (l : List ℕ). splice l n t) (one ∙ splice_front out h)
    ∙ ap (λ (k : ℕ). splice (over h out) k t) (let k : n ≡ length h + 0 = omega arith in k) ∙ splice_right h (drop (length h) out) 0 t
    ∙ ap (λ (l : List ℕ). h ++ l) (splice_front (drop (length h) out) t ∙ ap (λ (l : List ℕ). t ++ l) (drop-drop (length t) (length h) out))
    ∙ sym (append_assoc h t (drop (length h + length t) out)) ∙ ap (λ (k : ℕ). (h ++ t) ++ drop k out) (sym (length-append h t))

-- with the four arguments one by one
four_are : (r : List ℕ) → length r ≡ 4 → gets 0 4 r ≡ r
four_are r e = gets_part 0 4 r (omega arith) ∙ take_all 4 r (omega arith)

pub message_laid : (kind least most : ℕ) (r bs t out mid last : List ℕ) (n : ℕ) → length r ≡ 4 → MessageRoom least most bs out
    → n ≡ singles least most → t ≡ tail least most bs
    → mid ≡ spliced_within out 0 (take (4 + n) (0 ∷ (2 + n + length t) ∷ 1 ∷ kind ∷ gets 0 4 r)) → last ≡ spliced_within mid (4 + n) t
    → last ≡ over (laid_message kind least most r bs) out
message_laid kind least most r bs t out mid last n four room count end first second =
    let few : n ≤ 4 = rw count room.few in
    let short : n + length t ≤ 67 = rw (count, end) room.short in
    let h : List ℕ = 0 ∷ (2 + n + length t) ∷ 1 ∷ kind ∷ r in
    rw (← count, ← end)
    (parts_laid (take (4 + n) h) t out mid last (4 + n) (first ∙ rw (four_are r four) refl) second (simp length-take (omega arith))
    (omega (arith, room.room)))

-- ---- what a call comes to

module _ (k : Kind) (r bs : List ℕ) where
  -- the arguments of a call that is asked for with r
  pub values_of : count k ≤ length r → values (names k) (call_of k r) bs ≡ take (count k) r ++ ending k bs
  values_of h = (kind_laws k (call_of k r) r bs).values_again ∙ ap (λ (l : List ℕ). l ++ ending k bs) (gets_part 0 (count k) r (omega arith))

  pub values_long : count k ≤ length r → length (values (names k) (call_of k r) bs) ≡ count k + length (ending k bs)
  values_long h =
      ap length (values_of h) ∙ length-append (take (count k) r) (ending k bs)
      ∙ ap (λ (n : ℕ). n + length (ending k bs)) (simp length-take (omega arith))

  -- its message
  pub message_of_lem : outside 254 (length bs) (call_of k r) ≡ accepted → count k ≤ length r
      → message_of (call_of k r) bs ≡ laid_message (kind_number k) (least_length k) (most_length k) r bs
  unfolding call_of
  message_of_lem e h =
      let v = length (values (names k) (call_of k r) bs) in
      let few = few_singles k in
      let short = short_message (call_of k r) bs e in
      let long = values_long h in
      let high : suc (suc v) / 256 % 256 ≡ 0 = omega arith in
      let low : suc (suc v) % 256 ≡ 2 + count k + length (ending k bs) = omega arith in
      rw (high, low)
      (ap (λ (l : List ℕ). 0 ∷ (2 + count k + length (ending k bs)) ∷ 1 ∷ kind_number k ∷ l) (values_of h)
      ∙ sym (ap (λ (l : List ℕ). l ++ ending k bs)
      (take-append-add (0 ∷ (2 + count k + length (ending k bs)) ∷ 1 ∷ kind_number k ∷ []) r (count k))))

  -- there is room for it
  pub room_for : (out : List ℕ) → outside 254 (length bs) (call_of k r) ≡ accepted → 71 ≤ length out → MessageRoom (least_length k) (most_length k) bs out
  unfolding call_of
  room_for out e h = record { lengths = lengths k; few = few_singles k; short = short_message (call_of k r) bs e; room = h }

  pub named_made : canonical (call_of k r) ≡ call_of k r
  unfolding call_of
  named_made = (kind_laws k (call_of k r) r bs).made_again

pub written_inside : (room : ℕ) (c : Call) (bs : List ℕ) → 71 ≤ room → outside 254 (length bs) (canonical c) ≡ accepted
    → written room c bs ≡ accept (message_of c bs)
unfolding written
written_inside room c bs h e = rw (le-ltb room 71 h) (passed _ (accept (message_of c bs)) e)

-- of a kind byte, with arguments r
module _ (room kind : ℕ) (r bs : List ℕ) where
  abbrev k : Kind
  k = kind_of kind

  pub as_short : room < 71 → written_as room kind r bs ≡ refuse short_buffer
  unfolding written_as
  as_short h = rw (lt-ltb room 71 h)

  pub as_unknown : 71 ≤ room → is_unknown kind ≡ true → written_as room kind r bs ≡ refuse unknown_kind
  unfolding written_as
  as_unknown h e = rw (le-ltb room 71 h, e)

  as_known : 71 ≤ room → is_unknown kind ≡ false
      → written_as room kind r bs ≡ guarded (outside 254 (length bs) (call_of k r)) (accept (message_of (call_of k r) bs))
  unfolding written_as
  as_known h e =
      rw (le-ltb room 71 h, e)
      (ap (λ (d : Call). guarded (outside 254 (length bs) d) (accept (message_of (call_of k r) bs))) (named_made k r bs))

  pub as_outside : 71 ≤ room → is_unknown kind ≡ false → (n : ℕ) → n ≡ outside 254 (length bs) (call_of k r) → (n ≡ accepted → ⊥)
      → written_as room kind r bs ≡ refuse n
  as_outside h e n is o = as_known h e ∙ rw (← is) (turned_back n (accept (message_of (call_of k r) bs)) o)

  pub as_inside : 71 ≤ room → is_unknown kind ≡ false → outside 254 (length bs) (call_of k r) ≡ accepted → count k ≤ length r
      → written_as room kind r bs ≡ accept (laid_message kind (least_length k) (most_length k) r bs)
  as_inside h e o n =
      as_known h e ∙ passed _ (accept (message_of (call_of k r) bs)) o ∙ rw (message_of_lem k r bs o n) (ap (λ (x : ℕ). accept (laid_message x (least_length k) (most_length k) r bs)) (number_kind kind e))

-- a message has 71 bytes at the most
laid_short : (room kind : ℕ) (r bs : List ℕ) → 4 ≤ length r → length (message_in (written_as room kind r bs)) ≤ 71
laid_short room kind r bs h =
    go (ltb room 71) refl (is_unknown kind) refl (eqb (outside 254 (length bs) (call_of (kind_of kind) r)) accepted) refl
  where
    go : (a : Bool) → ltb room 71 ≡ a → (b : Bool) → is_unknown kind ≡ b
        → (c : Bool) → eqb (outside 254 (length bs) (call_of (kind_of kind) r)) accepted ≡ c
        → length (message_in (written_as room kind r bs)) ≤ 71
    go true e b f c g = subst (λ (o : Outcome (List ℕ)). length (message_in o) ≤ 71) (sym (as_short room kind r bs (ltb-true room 71 e))) (omega arith)
    go false e true f c g = subst (λ (o : Outcome (List ℕ)). length (message_in o) ≤ 71) (sym (as_unknown room kind r bs (ltb-false room 71 e) f)) (omega arith)
    go false e false f false g =
        subst (λ (o : Outcome (List ℕ)). length (message_in o) ≤ 71)
        (sym (as_outside room kind r bs (ltb-false room 71 e) f _ refl (eqb-false _ accepted g))) (omega arith)
    go false e false f true g' =
        let g = eqb-true (outside 254 (length bs) (call_of (kind_of kind) r)) accepted g' in
        let few = few_singles (kind_of kind) in
        let short = (room_for (kind_of kind) r bs (replicate 71 0) g (omega arith)).short in
        subst (λ (o : Outcome (List ℕ)). length (message_in o) ≤ 71)
        (sym (as_inside room kind r bs (ltb-false room 71 e) f g (omega arith)))
        (simp (length-append, length-take) (omega arith))

-- the arguments of any call
pub four_long : (c : Call) → length (arguments c.kind c) ≡ 4
four_long c = simp (length-take, length-append) (omega arith)

pub values_are : (c : Call) (bs : List ℕ) → values (names c.kind) c bs ≡ take (count c.kind) (arguments c.kind c) ++ ending c.kind bs
values_are c bs =
    let k = c.kind in
    sym (kind_laws k c [] bs).same_values ∙ ap (λ (d : Call). values (names k) d bs) (sym (kind_laws k c [] bs).placed_again)
    ∙ values_of k (arguments k c) bs (omega (arith, four_long c, few_singles k))

pub values_count : (c : Call) (bs : List ℕ) → length (values (names c.kind) c bs) ≡ count c.kind + length (ending c.kind bs)
values_count c bs =
    let k = c.kind in
    let few = few_singles k in
    ap length (values_are c bs) ∙ length-append (take (count k) (arguments k c)) (ending k bs)
    ∙ ap (λ (n : ℕ). n + length (ending k bs)) (length-take-le (count k) (arguments k c) (omega (arith, four_long c)))

-- a call with the arguments that its kind names is written as the call
pub same_message : (c : Call) (bs : List ℕ) → message_of (canonical c) bs ≡ message_of c bs
unfolding call_of
same_message c bs =
    ap (λ (l : List ℕ). be16 (length (1 ∷ kind_number c.kind ∷ l)) ++ (1 ∷ kind_number c.kind ∷ l)) (kind_laws c.kind c [] bs).same_values

composed_named : (c : Call) (bs : List ℕ) → composed (canonical c) bs ≡ composed c bs
composed_named c bs =
    ap (λ (d : Call). guarded (outside 254 (length bs) d) (accept (message_of (canonical c) bs))) (named_made c.kind (values (names c.kind) c []) bs)
    ∙ ap (λ (m : List ℕ). guarded (outside 254 (length bs) (canonical c)) (accept m)) (same_message c bs)

-- of a known kind byte
pub written_known : (room kind : ℕ) (r bs : List ℕ) → is_unknown kind ≡ false → written_as room kind r bs ≡ written room (call_of (kind_of kind) r) bs
unfolding written written_as
written_known room kind r bs e = rw e

-- of a call by the arguments of its kind
pub written_arguments : (room : ℕ) (c : Call) (bs : List ℕ) → written_as room (kind_number c.kind) (arguments c.kind c) bs ≡ written room c bs
unfolding written written_as
written_arguments room c bs =
    rw (number_known c.kind, kind_numbered c.kind, (kind_laws c.kind c [] bs).placed_again, composed_named c bs) refl

-- ---- what the writer leaves

pub wrote_same : {o o' : Outcome (List ℕ)} {out out' : List ℕ} {w : Written} → o ≡ o' → Wrote o out out' w → Wrote o' out out' w
wrote_same {out = out} {out' = out'} {w = w} e x = subst (λ (o : Outcome (List ℕ)). Wrote o out out' w) e x

wrote_refused : (o : Outcome (List ℕ)) (refusal : Refusal) (out : List ℕ) → o ≡ refuse (refusal_number refusal) → Wrote o out out (Err refusal)
wrote_refused o refusal out e = rw e (record { number_told = refl; len_told = refl; buffer_out = refl })

-- by a kind byte, with arguments r
module _ (kind : ℕ) (r bs out : List ℕ) where
  pub wrote_no_room : length out < 71 → Wrote (written_as (length out) kind r bs) out out (Err ShortBuffer)
  wrote_no_room h = wrote_refused _ ShortBuffer out (as_short (length out) kind r bs h)

  pub wrote_unknown : (refusal : Refusal) → 71 ≤ length out → refuse (refusal_number refusal) ≡ kind_known kind
      → Wrote (written_as (length out) kind r bs) out out (Err refusal)
  wrote_unknown refusal h e =
      wrote_refused _ refusal out (as_unknown (length out) kind r bs h (no_kind kind e) ∙ ap refuse (sym (no_kind_told kind e)))

  -- of a known one, which is that of kind k
  module _ (k : Kind) (h : 71 ≤ length out) (e : accept k ≡ kind_known kind) where
    known : is_unknown kind ≡ false
    known = number_of_kind kind e

    of_kind : kind_of kind ≡ k
    of_kind = known_kind kind e

    byte_of_kind : kind ≡ kind_number k
    byte_of_kind = sym (number_kind kind known) ∙ ap kind_number of_kind

    inside : accepted ≡ outside 254 (length bs) (call_of k r) → outside 254 (length bs) (call_of (kind_of kind) r) ≡ accepted
    inside o = rw (of_kind, ← o) refl

    pub wrote_outside : (refusal : Refusal) → refusal_number refusal ≡ outside 254 (length bs) (call_of k r)
        → Wrote (written_as (length out) kind r bs) out out (Err refusal)
    wrote_outside refusal o =
        wrote_refused _ refusal out
        (as_outside (length out) kind r bs h known (refusal_number refusal) (o ∙ rw of_kind refl) (refusal_some refusal))

    pub room_left : accepted ≡ outside 254 (length bs) (call_of k r) → MessageRoom (least_length k) (most_length k) bs out
    room_left o = room_for k r bs out (sym o) h

    pub wrote_message : (len : ℕ) (out' : List ℕ) → 4 ≤ length r → accepted ≡ outside 254 (length bs) (call_of k r)
        → len ≡ length (laid_message (kind_number k) (least_length k) (most_length k) r bs)
        → out' ≡ over (laid_message (kind_number k) (least_length k) (most_length k) r bs) out
        → Wrote (written_as (length out) kind r bs) out out' (Ok len)
    wrote_message len out' four o l b =
        let is : written_as (length out) kind r bs ≡ accept (laid_message (kind_number k) (least_length k) (most_length k) r bs) =
        as_inside (length out) kind r bs h known (inside o) (omega (arith, few_singles (kind_of kind))) ∙ rw (of_kind, byte_of_kind) refl in
        rw is (record { number_told = refl; len_told = l; buffer_out = b })

-- by a call, with its arguments one by one
pub wrote_call : (c : Call) (bs out out' : List ℕ) (w : Written) (kind : ℕ) (r : List ℕ) → kind ≡ kind_number c.kind → r ≡ arguments c.kind c
    → Wrote (written_as (length out) kind (gets 0 4 r) bs) out out' w → Wrote (written (length out) c bs) out out' w
wrote_call c bs out out' w kind r k a x =
    wrote_same
    (rw (k, a) (ap (λ (l : List ℕ). written_as (length out) (kind_number c.kind) l bs) (four_are (arguments c.kind c) (four_long c))
    ∙ written_arguments (length out) c bs)) x

-- its message has 71 bytes at the most
pub wrote_short : (room kind : ℕ) (r bs : List ℕ) {out out' : List ℕ} {w : Written} → Wrote (written_as room kind r bs) out out' w → 4 ≤ length r
    → written_length w ≤ 71
wrote_short room kind r bs x h = omega (arith, x.len_told, laid_short room kind r bs h)
