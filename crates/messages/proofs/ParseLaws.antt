-- A message that its own bytes turn back gets 1, 2, 3 or 4; one that asks for a call is as long as its kind.
use Prim.Native.Nat.{ℕ, ◌≤◌, ◌<◌}
use mathlib.Core.Path.{◌≡◌, refl, ap, subst}
use mathlib.Core.Bool.{Bool, true, false, ◌||◌, cond}
use mathlib.Core.List.{List, [], ◌∷◌}
use native.Mathlib.Omega.{arith}
use lib.ListN.{length, drop, get_or}
use lib.Dec.{ltb, eqb}
use borrow.Author.Tests.{ltb-false, eq-eqb, ne_eqb}
use Rattle.tables.specs.Lists.{listed}
use Rattle.tables.specs.Numbers.{cut_short, foreign_version, unknown_kind, wrong_length}
use Rattle.steps.specs.declared.Call.{Call}
use Rattle.steps.specs.Kinds.{is_unknown, kind_of, least_length, most_length, call_of}
use Rattle.steps.specs.Steps.{Outcome, refuse, accept, test}
use Rattle.steps.specs.Promises.{kind_known}
use Rattle.steps.specs.declared.Kind.{Kind}
use Rattle.messages.specs.Messages.{is_foreign, parse_as, parse_kind, parse}
use Rattle.messages.specs.Run.{Sent, cut, whole, asked}

abbrev pub own_numbers : List ℕ
own_numbers = cut_short ∷ foreign_version ∷ unknown_kind ∷ wrong_length ∷ []

pub data Known : Outcome Call → Type 0 where
  bad : {n : ℕ} → 1 ≤ n → listed n own_numbers ≡ true → Known (refuse n)
  good : {c : Call} → Known (accept c)

pub asked_known : (x : Sent) → Known (asked x)
unfolding parse
asked_known cut = bad {n = cut_short} (omega arith) refl
asked_known (whole m) =
    ladder (is_foreign m) (eqb (length m) 1 || is_unknown (get_or m 1 0))
    (ltb (length m) (least_length (kind_of (get_or m 1 0))) || ltb (most_length (kind_of (get_or m 1 0))) (length m))
    (call_of (kind_of (get_or m 1 0)) (drop 2 m))
  where
    ladder : (a b c : Bool) (call : Call)
        → Known (cond a (refuse foreign_version) (cond b (refuse unknown_kind) (cond c (refuse wrong_length) (accept call))))
    ladder true b c call = bad {n = foreign_version} (omega arith) refl
    ladder false true c call = bad {n = unknown_kind} (omega arith) refl
    ladder false false true call = bad {n = wrong_length} (omega arith) refl
    ladder false false false call = good

-- what is known of a message that asks for a call
pub record AskedBy (m : List ℕ) (c : Call) : Type 0 where
  pub version : is_foreign m ≡ false
  pub some : eqb (length m) 1 ≡ false
  pub known : is_unknown (get_or m 1 0) ≡ false
  pub least : least_length (kind_of (get_or m 1 0)) ≤ length m
  pub most : length m ≤ most_length (kind_of (get_or m 1 0))
  pub call : call_of (kind_of (get_or m 1 0)) (drop 2 m) ≡ c

pub asked_by : (m : List ℕ) (c : Call) → parse m ≡ accept c → AskedBy m c
unfolding parse
asked_by m c =
    ladder (is_foreign m) refl (eqb (length m) 1) refl (is_unknown (get_or m 1 0)) refl (ltb (length m) (least_length (kind_of (get_or m 1 0)))) refl
    (ltb (most_length (kind_of (get_or m 1 0))) (length m)) refl
  where
    ladder : (a : Bool) → is_foreign m ≡ a → (b : Bool) → eqb (length m) 1 ≡ b → (u : Bool) → is_unknown (get_or m 1 0) ≡ u
        → (less : Bool) → ltb (length m) (least_length (kind_of (get_or m 1 0))) ≡ less
        → (more : Bool) → ltb (most_length (kind_of (get_or m 1 0))) (length m) ≡ more
        → cond a (refuse foreign_version) (cond (b || u) (refuse unknown_kind)
        (cond (less || more) (refuse wrong_length) (accept (call_of (kind_of (get_or m 1 0)) (drop 2 m)))))
        ≡ accept c
        → AskedBy m c
    ladder true e b f u g less h more i p = cc
    ladder false e true f u g less h more i p = cc
    ladder false e false f true g less h more i p = cc
    ladder false e false f false g true h more i p = cc
    ladder false e false f false g false h true i p = cc
    ladder false e false f false g false h false i p =
        record {
          version = e;
          some = f;
          known = g;
          least = ltb-false (length m) (least_length (kind_of (get_or m 1 0))) h;
          most = ltb-false (most_length (kind_of (get_or m 1 0))) (length m) i;
          call = cc;
        }

pub asked_long : (m : List ℕ) (c : Call) → parse m ≡ accept c → least_length c.kind ≤ length m
unfolding call_of
asked_long m c e =
    let a = asked_by m c e in
    subst (λ (d : Call). least_length d.kind ≤ length m) a.call a.least

-- ---- each way out of `parse`

module _ (m : List ℕ) where
  pub is_none : length m < 1 → refuse foreign_version ≡ parse m
  unfolding parse
  is_none h = rw (eq-eqb (length m) 0 (omega arith))

  module _ (some : 1 ≤ length m) where
    not_none : eqb (length m) 0 ≡ false
    not_none = ne_eqb (length m) 0 (λ e. omega arith)

    pub other_version : (get_or m 0 0 ≡ 1 → ⊥) → refuse foreign_version ≡ parse m
    unfolding parse
    other_version ne = rw (not_none, ne_eqb (get_or m 0 0) 1 ne)

    module _ (first : get_or m 0 0 ≡ 1) where
      pub no_kind : length m < 2 → refuse unknown_kind ≡ parse m
      unfolding parse
      no_kind few = rw (not_none, eq-eqb (get_or m 0 0) 1 first, eq-eqb (length m) 1 (omega arith))

      module _ (more : 2 ≤ length m) where
        kind_there : eqb (length m) 1 ≡ false
        kind_there = ne_eqb (length m) 1 (λ e. omega arith)

        pub kind_refused : {n : ℕ} → refuse n ≡ kind_known (get_or m 1 0) → refuse n ≡ parse m
        unfolding parse
        kind_refused {n} e =
            rw (not_none, eq-eqb (get_or m 0 0) 1 first, kind_there) (go (is_unknown (get_or m 1 0)) e)
          where
            go : (b : Bool) → refuse n ≡ test b unknown_kind (accept (kind_of (get_or m 1 0)))
                → refuse n ≡ cond b (refuse unknown_kind) (parse_kind (get_or m 1 0) m)
            go true e = cc
            go false e = cc

        pub kind_parsed : {k : Kind} → accept k ≡ kind_known (get_or m 1 0) → parse_as k m ≡ parse m
        unfolding parse
        kind_parsed {k} e =
            rw (not_none, eq-eqb (get_or m 0 0) 1 first, kind_there) (go (is_unknown (get_or m 1 0)) e)
          where
            go : (b : Bool) → accept k ≡ test b unknown_kind (accept (kind_of (get_or m 1 0)))
                → parse_as k m ≡ cond b (refuse unknown_kind) (parse_kind (get_or m 1 0) m)
            go true e = cc
            go false e = let w : k ≡ kind_of (get_or m 1 0) = cc in ap (λ (x : Kind). parse_as x m) w
