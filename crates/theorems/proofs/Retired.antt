-- Retired frames. In order: a frame of sound tables; one message; the messages of a file; the frames counted.
use Prim.Native.Nat.{ℕ, zero, suc, ◌+◌, ◌<◌}
use mathlib.Core.Path.{◌≡◌, refl, sym, ap, subst, ◌∙◌}
use mathlib.Core.Bool.{Bool, true, false, not, ◌&&◌, ◌||◌, cond, or-false, or_assoc}
use mathlib.Core.List.{List, [], ◌∷◌}
use native.Mathlib.Omega.{arith}
use lib.Dec.{ltb, eqb}
use lib.ListN.{length, take, drop}
use lib.Seq.{take_at, drop_at}
use borrow.Author.Tests.{eqb-true, eqb-false, eq-eqb, ne_eqb, leb-false}
use Rattle.tables.specs.declared.Shared.{Shared}
use Rattle.tables.specs.declared.Tables.{Tables}
use Rattle.tables.specs.Numbers.{short_buffer}
use Rattle.tables.specs.Model.{frames, retired_at}
use Rattle.tables.specs.Rules.{holders, free, is_held, sound}
use Rattle.tables.specs.declared.Edit.TheVariants.{Kept}
use Rattle.tables.specs.Lists.{count_below}
use Rattle.tables.specs.Search.{is_retired}
use Rattle.tables.specs.Register.{registered}
use Rattle.tables.specs.Changes.{changed, edited, with_retired, after}
use Rattle.tables.specs.Keep.{leaves_record}
use Rattle.tables.proofs.KeepLaws.{kept_after}
use Rattle.tables.proofs.Allowed.{MayRetire}
use Rattle.tables.proofs.RuleLaws.{sound_of, few_frames, retired_low, retired_bare}
use Rattle.tables.proofs.RegisterLaws.{registered_retired, retired_none, retired_again, retired_more}
use Rattle.tables.proofs.ChangeSound.{retired_after}
use Rattle.steps.specs.declared.Kind.{Kind}
use Rattle.steps.specs.declared.Kind.TheVariants.{Retire}
use Rattle.steps.specs.declared.Call.{Call}
use Rattle.steps.specs.Kinds.{frame, names, code, among, has, is_retire}
use Rattle.steps.specs.Stores.{block, zeros, lay_frames}
use Rattle.steps.specs.declared.Plan.{Plan}
use Rattle.steps.specs.Steps.{Outcome, refuse, accept, test, mapped, plan_of, no_work, page_for, view_of, rules_number, decide_any}
use Rattle.steps.specs.Effects.{bit, laid_frames, State, joined, Result, carried_out, step, left}
use Rattle.steps.proofs.KindLaws.{kind_is}
use Rattle.steps.proofs.DecisionLaws.{page_near}
use Rattle.steps.proofs.DecideLaws.{IfAccepted, if_accepted, past_number}
use Rattle.steps.proofs.PlanLaws.{retire_plans}
use Rattle.steps.proofs.StepLaws.{rules_listed, Sure, sure}
use Rattle.messages.specs.Run.{Sent, asked, bytes_of, respond, answer, left_by, turns_of, end_of, messages_of}
use Rattle.theorems.specs.Clean.{ever_held}
use Rattle.theorems.specs.Retired.{three_numbers, retires_frame, ever_retired, NeverAgain, only_retired, RetiredFrames}
use Rattle.theorems.proofs.Frames.{left_frames, end_frames}
use Rattle.theorems.proofs.Sound.{message_sound, messages_sound}
use Rattle.theorems.proofs.Clean.{messages_clean}

-- ---- a frame of sound tables

-- one that is retired has no copy
bare : (t : Tables) → sound t ≡ true → (f : ℕ) → retired_at t f ≡ true → holders t f ≡ 0
bare t ok = retired_bare (sound_of t ok)

one : (t : Tables) → sound t ≡ true → (f : ℕ) → f < frames t → bit (free t f) + bit (is_held t f) + bit (retired_at t f) ≡ 1
unfolding free
one t ok f low = go (retired_at t f) (eqb (holders t f) 0) refl refl
  where
    go : (r z : Bool) → retired_at t f ≡ r → eqb (holders t f) 0 ≡ z → bit (not r && z) + bit (not z) + bit r ≡ 1
    go true true e q = refl
    go true false e q = absurd (eqb-false (holders t f) 0 q (bare t ok f e))
    go false true e q = refl
    go false false e q = refl

-- ---- one message

retire_named : (k : Kind) → is_retire k ≡ true → has frame k ≡ true
unfolding names code among
retire_named k e = subst (λ (x : Kind). has frame x ≡ true) (sym (kind_is k Retire e)) refl

-- the frame of a retire that is accepted is below 254
retired_near : (s : State) (c : Call) (bs : List ℕ) (plan : Plan) → Sure s c bs plan → is_retire c.kind ≡ true → c.frame < 254
retired_near s c bs plan u r =
    let l = leb-false (frames s.tables) c.frame (rw (retire_named c.kind r) at u.plan_ok.frame_near) in
    omega (arith, few_frames (sound_of s.tables u.good.tables_sound))

-- the retired frames after a call that retires frame x: nothing where it is already retired
module _ (t : Tables) (x f : ℕ) (long : length t.register ≡ 254) where
  past_register : retired_at (with_retired t 255) f ≡ retired_at t f
  past_register = ap (λ (t' : Tables). retired_at t' f) (retired_none t long)

  marked : (r h : Bool) → (r ≡ true → x < 254) → retired_at t x ≡ h
      → retired_at (with_retired t (cond (r && not h) x 255)) f ≡ (retired_at t f || (r && eqb x f))
  marked false h low e = past_register ∙ sym (or-false (retired_at t f))
  marked true true low e = past_register ∙ by (eqb x f) refl
    where
      by : (b : Bool) → eqb x f ≡ b → retired_at t f ≡ (retired_at t f || b)
      by true q = let is : retired_at t f ≡ true = rw (eqb-true x f q) at e in rw is
      by false q = sym (or-false (retired_at t f))
  marked true false low e = retired_more t x f (rw long (low refl))

call_retired : (s : State) (f : ℕ) (c : Call) (bs : List ℕ)
    → retired_at (left s (step s c bs)).tables f ≡ (retired_at s.tables f || retires_frame (accept c) (step s c bs) f)
unfolding step
call_retired s f c bs = go _ (sure s c bs)
  where
    go : (o : Outcome Plan) → IfAccepted (Sure s c bs) o
        → retired_at (left s (mapped (carried_out s c bs) o)).tables f
        ≡ (retired_at s.tables f || retires_frame (accept c) (mapped (carried_out s c bs) o) f)
    go (refuse n) k = sym (or-false (retired_at s.tables f))
    go (accept plan) (if_accepted u) =
        let t = s.tables in
        let ok = sound_of t u.good.tables_sound in
        retired_after t (page_for c) plan.edit plan.retires (page_near c) u.good.tables_sound u.plan_ok.allowed u.plan_ok.may_retire f
        ∙ rw (u.plan_ok.retires_is, registered_retired t c.frame)
        (marked t c.frame f ok.right.register_long (is_retire c.kind) (retired_at t c.frame) (retired_near s c bs plan u) refl)

message_marks : (room : ℕ) (s : State) (x : Sent) (f : ℕ)
    → retired_at (left_by room s x).tables f ≡ (retired_at s.tables f || retires_frame (asked x) (answer room s x) f)
unfolding answer
message_marks room s x f = behind (ltb room 70) (asked x)
  where
    behind : (b : Bool) (a : Outcome Call) → retired_at (left s (test b short_buffer (respond s a (bytes_of x)))).tables f
        ≡ (retired_at s.tables f || retires_frame a (test b short_buffer (respond s a (bytes_of x))) f)
    behind true (refuse n) = sym (or-false (retired_at s.tables f))
    behind true (accept c) = sym (or-false (retired_at s.tables f))
    behind false (refuse n) = sym (or-false (retired_at s.tables f))
    behind false (accept c) = call_retired s f c (bytes_of x)

-- a retire that is accepted retires its frame and does nothing else: the record of page 0 is put back as it was
call_alone : (s : State) (c : Call) (bs : List ℕ) (r : Result) → is_retire c.kind ≡ true → step s c bs ≡ accept r → r ≡ only_retired s c.frame
unfolding step changed leaves_record laid_frames lay_frames
call_alone s c bs r k e =
    go (decide_any s.tables (length s.fast) (length s.slow) c (length bs)) (sure s c bs)
    (past_number (rules_number s.tables (length s.fast) (length s.slow)) (rules_listed s.tables (length s.fast) (length s.slow)) (λ _.
    retire_plans (view_of s.tables c) c (length bs) (kind_is c.kind Retire k))) e
  where
    t : Tables
    t = s.tables

    stores : (t' : Tables) (m : Bool) → t' ≡ with_retired t c.frame → m ≡ not (retired_at t c.frame)
        → ◌≡◌ {A = Result}
        (record {
          state = record { tables = t'; fast = take (length s.fast) (joined s); slow = drop (length s.fast) (joined s) };
          moved = m;
          laid = 0;
          data_out = [];
        })
        (only_retired s c.frame)
    stores t' m q z = rw (q, z, take_at s.fast s.slow (length s.fast) refl, drop_at s.fast s.slow (length s.fast) refl)

    -- a frame already retired is not retired again, and 255 is none
    more : (b : Bool) → c.frame < 254 → not (eqb (cond b 255 c.frame) 255) ≡ not b
    more true low = refl
    more false low = rw (ne_eqb c.frame 255 (λ z. omega arith))

    again : (b : Bool) → sound t ≡ true → retired_at t c.frame ≡ b → with_retired t (cond b 255 c.frame) ≡ with_retired t c.frame
    again true ok is = retired_none t (sound_of t ok).right.register_long ∙ sym (retired_again t c.frame is)
    again false ok is = refl

    -- what is had of an accepted call
    had : Outcome Result → Result
    had (refuse n) = only_retired s c.frame
    had (accept a) = a

    go : (o : Outcome Plan) → IfAccepted (Sure s c bs) o
        → IfAccepted (λ (plan : Plan). plan ≡ plan_of Kept (cond (is_retired (registered t c.frame)) 255 c.frame) 0 0 no_work) o
        → mapped (carried_out s c bs) o ≡ accept r → r ≡ only_retired s c.frame
    go (refuse n) u q e = sym (ap had e)
    go (accept plan) (if_accepted u) (if_accepted q) e =
        let may = subst (λ (x : Plan). MayRetire t (page_for c) x.edit x.retires) q u.plan_ok.may_retire in
        let x = cond (is_retired (registered t c.frame)) 255 c.frame in
        sym (ap had e) ∙ ap (carried_out s c bs) q
        ∙ stores (after t (edited t (page_for c) Kept x)) (not (eqb x 255))
        (kept_after t (page_for c) x u.good.tables_sound (λ l. (may l).out)
        ∙ ap (λ (b : Bool). with_retired t (cond b 255 c.frame)) (registered_retired t c.frame)
        ∙ again (retired_at t c.frame) u.good.tables_sound refl)
        (more (is_retired (registered t c.frame)) (retired_near s c bs plan u k) ∙ ap not (registered_retired t c.frame))

-- ---- the messages of a file

module _ (room f : ℕ) where
  pub messages_retired : (xs : List Sent) (s : State)
      → retired_at (end_of room s xs).tables f ≡ (retired_at s.tables f || ever_retired (turns_of room s xs) f)
  unfolding turns_of end_of
  messages_retired [] s = sym (or-false (retired_at s.tables f))
  messages_retired (x ∷ xs) s =
      messages_retired xs (left_by room s x)
      ∙ ap (λ (b : Bool). b || ever_retired (turns_of room (left_by room s x) xs) f) (message_marks room s x f)
      ∙ or_assoc (retired_at s.tables f) (retires_frame (asked x) (answer room s x) f) _

  messages_bare : (xs : List Sent) (s : State) → sound s.tables ≡ true → f < frames s.tables → retired_at s.tables f ≡ true
      → (ever_held (turns_of room s xs) f ≡ false) × (is_held (end_of room s xs).tables f ≡ false)
  unfolding turns_of end_of
  messages_bare [] s ok low is = (refl, ap not (eq-eqb _ 0 (bare s.tables ok f is)))
  messages_bare (x ∷ xs) s ok low is =
      let s' : State = left_by room s x in
      let kept : s'.tables.shared ≡ s.tables.shared = left_frames room s x in
      let low' : f < frames s'.tables = rw (ap (λ (a : Shared). a.p + a.s) kept) low in
      let is' : retired_at s'.tables f ≡ true = message_marks room s x f ∙ rw is in
      let rest = messages_bare xs s' (message_sound room s x ok) low' is' in
      (rw (eq-eqb _ 0 (bare s.tables ok f is)) rest.0, rest.1)

  -- from each turn on
  pub never_again : (xs : List Sent) (s : State) → sound s.tables ≡ true → NeverAgain f (turns_of room s xs) (end_of room s xs)
  unfolding turns_of end_of
  never_again [] s ok = λ is. ap not (eq-eqb _ 0 (bare s.tables ok f is))
  never_again (x ∷ xs) s ok = (
    λ is.
        let low = retired_low (sound_of s.tables ok) f is in
        let w = messages_bare (x ∷ xs) s ok low is in
        (w.0, w.1, messages_clean room f (x ∷ xs) s low w.1 ∙ ap (λ (b : Bool). cond b zeros (block (joined s) f)) w.0),
    never_again xs (left_by room s x) (message_sound room s x ok),
  )

-- ---- the frames counted

bit_is : (b : Bool) → bit b ≡ cond b 1 0
bit_is true = refl
bit_is false = refl

three_below : (n : ℕ) (a b c : ℕ → Bool) → ((f : ℕ) → f < n → bit (a f) + bit (b f) + bit (c f) ≡ 1)
    → count_below n a + count_below n b + count_below n c ≡ n
unfolding count_below
three_below zero a b c each = refl
three_below (suc n) a b c each =
    let here = each n (omega arith) in
    let rest = three_below n a b c (λ f l. each f (omega arith)) in
    omega (arith, bit_is (a n), bit_is (b n), bit_is (c n))

pub adds_up : (room : ℕ) (xs : List Sent) (s : State) → sound s.tables ≡ true
    → three_numbers (end_of room s xs).tables ≡ s.tables.shared.p + s.tables.shared.s
adds_up room xs s ok =
    let t : Tables = (end_of room s xs).tables in
    three_below (frames t) (free t) (is_held t) (retired_at t) (one t (messages_sound room xs s ok))
    ∙ ap (λ (a : Shared). a.p + a.s) (end_frames room xs s)

pub retired_frames : RetiredFrames
retired_frames =
    record {
      one_of_three = one;
      runs = λ room file s.
          record {
            add_up = adds_up room (messages_of file) s;
            retired_exactly = λ f. messages_retired room f (messages_of file) s;
            never_again = λ ok f. never_again room f (messages_of file) s ok;
          };
      retire_alone = call_alone;
    }
