-- When the kernel's state agrees with the flat memory, and what a call comes to with the flat memory's reaction to it.
use Prim.Native.Nat.{ℕ, ◌≤◌, ◌<◌}
use mathlib.Core.Path.{◌≡◌, refl, sym, ◌∙◌, subst}
use mathlib.Core.Logic.{◌≢◌}
use mathlib.Core.Bool.{Bool, true, false, not, ◌&&◌, ◌||◌, cond}
use mathlib.Core.List.{List, [], ◌∷◌}
use native.Mathlib.Decide.{ℕ_discrete}
use lib.ListN.{length, take, drop, set, length-set, take-append-drop}
use lib.Seq.{get_or-set_same, get_or-set_other, set-get_or}
use lib.Dec.{eqb}
use Rattle.tables.specs.declared.Page.{Page}
use Rattle.tables.specs.declared.Edit.{Edit}
use Rattle.tables.specs.declared.Edit.TheVariants.{Kept}
use Rattle.tables.specs.Lists.{count}
use Rattle.tables.specs.Numbers.{accepted, no_page, no_right, nothing_current}
use Rattle.tables.specs.Model.{frames, copies_in_use, absent, page_at, on_frame}
use Rattle.tables.specs.Changes.{changed, edited, after}
use Rattle.tables.proofs.RuleLaws.{sound_of}
use Rattle.tables.proofs.ChangeLaws.{after_same, after_other}
use Rattle.steps.specs.declared.Kind.{Kind}
use Rattle.steps.specs.declared.Call.{Call}
use Rattle.steps.specs.Stores.{block}
use Rattle.steps.specs.declared.Plan.{Plan}
use Rattle.steps.specs.Steps.{Outcome, refuse, accept, test, guarded, mapped, decide}
use Rattle.steps.specs.Effects.{State, joined, Result, carried_out, left}
use Rattle.messages.specs.Replies.{reply}
use Rattle.theorems.specs.Flat.{Flat, FlatPage, Slot, gone, here, slot_at, Reaction, silent, no, yes, unless, on_page, flat_kind, react, flat_left, answers_of, accepts}
use Rattle.theorems.specs.Demand3.{Holds, reply_number, answer_in, lacks}
use Rattle.steps.proofs.StepLaws.{Good, page_stands_lem}
use Rattle.theorems.proofs.Holding.{holds_kept}

-- ---- the two states

-- a page that stands, and the flat memory's
pub record Alike (st : List ℕ) (g : Page) (b : FlatPage) : Type 0 where
  pub owners : g.owner ≡ b.owner
  pub rights : g.rights ≡ b.rights
  pub holds : Holds st (copies_in_use g) b.bytes

abbrev pub AlikeSlot : List ℕ → Page → Slot → Type 0
AlikeSlot st g gone = absent g ≡ true
AlikeSlot st g (here b) = (absent g ≡ false) × Alike st g b

pub record Same (s : State) (f : Flat) : Type 0 where
  pub long : length f ≡ 64
  pub alike : (p : ℕ) → p < 64 → AlikeSlot (joined s) (page_at s.tables p) (slot_at f p)

pub record Inv (s : State) (f : Flat) : Type 0 where
  pub good : Good s
  pub same : Same s f

-- ---- an outcome and a reaction

-- P says of what is accepted, and of the flat memory after it, that they agree, and `shows` what data it has. The flat
-- memory is f before the call. The first index: the flat memory answers calls of this kind. The second: the call is a
-- read or write of a page with no CURRENT copy.
pub data Agree {A : Type 0} (P : A → Flat → Type 0) (shows : A → List ℕ) (f : Flat) : Bool → Bool → Outcome A → Reaction → Type 0 where
  passed_over : {a : A} → P a f → Agree P shows f false false (accept a) silent
  turned_back : {n : ℕ} → eqb n nothing_current ≡ false → Agree P shows f false false (refuse n) silent
  both_accept : {a : A} {f' : Flat} {bs : List ℕ} → shows a ≡ bs → P a f' → Agree P shows f true false (accept a) (yes f' bs)
  both_refuse : {n : ℕ} {lack : Bool} → eqb n nothing_current ≡ false → Agree P shows f true lack (refuse n) (no n)
  kept_back : {f' : Flat} {bs : List ℕ} → Agree P shows f true true (refuse nothing_current) (yes f' bs)

module _ {A : Type 0} {P : A → Flat → Type 0} {shows : A → List ℕ} {f : Flat} where
  -- a test that both make
  pub both : {lack : Bool} {o : Outcome A} {w : Reaction} (b : Bool) (n : ℕ) → eqb n nothing_current ≡ false
      → (b ≡ false → Agree P shows f true lack o w) → Agree P shows f true lack (test b n o) (unless b n w)
  both true n e k = both_refuse e
  both false n e k = k refl

  -- a test in a call that the flat memory passes over
  pub alone : {o : Outcome A} (b : Bool) (n : ℕ) → eqb n nothing_current ≡ false
      → (b ≡ false → Agree P shows f false false o silent) → Agree P shows f false false (test b n o) silent
  alone true n e k = turned_back e
  alone false n e k = k refl

  -- a number n where both test the same
  pub both_number : {lack : Bool} (o : Outcome A) {w : Reaction} (b' b : Bool) (n m : ℕ) → b' ≡ b → eqb n nothing_current ≡ false → eqb n accepted ≡ false
      → (b ≡ false → Agree P shows f true lack (guarded m o) w) → Agree P shows f true lack (guarded (cond b' n m) o) (unless b n w)
  both_number o b' true n m q e z k = rw (q, z) (both_refuse e)
  both_number o b' false n m q e z k = rw q (k refl)

  -- two tests with one number, which the kernel makes at once
  pub both_either : {lack : Bool} (o : Outcome A) {w : Reaction} (a b : Bool) (n m : ℕ) → eqb n nothing_current ≡ false → eqb n accepted ≡ false
      → (a ≡ false → Agree P shows f true lack (guarded m o) w)
      → Agree P shows f true lack (guarded (cond (a || b) n m) o) (unless a n (unless b n w))
  both_either o true b n m e z k = rw z (both_refuse e)
  both_either o false true n m e z k = rw z (both_refuse e)
  both_either o false false n m e z k = k refl

  -- one in a call that the flat memory passes over
  pub alone_number : (o : Outcome A) (b : Bool) (n m : ℕ) → eqb n nothing_current ≡ false → eqb n accepted ≡ false
      → (b ≡ false → Agree P shows f false false (guarded m o) silent) → Agree P shows f false false (guarded (cond b n m) o) silent
  alone_number o true n m e z k = rw z (turned_back e)
  alone_number o false n m e z k = k refl

  -- 10, where the kernel asks what is allowed and the flat memory what is lacking
  pub both_lack : {lack : Bool} (o : Outcome A) {w : Reaction} (may b : Bool) → not may ≡ b → (b ≡ false → Agree P shows f true lack o w)
      → Agree P shows f true lack (guarded (cond may accepted no_right) o) (unless b no_right w)
  both_lack o true b q k = rw (← q) (k (sym q))
  both_lack o false b q k = rw (← q) (both_refuse refl)

  -- 11, where nothing is CURRENT
  pub lacking : {o : Outcome A} {f' : Flat} {bs : List ℕ} (b : Bool) → (b ≡ false → Agree P shows f true false o (yes f' bs))
      → Agree P shows f true b (test b nothing_current o) (yes f' bs)
  lacking true k = kept_back
  lacking false k = k refl

  -- 9
  pub on_page_lem : {lack : Bool} (o : Outcome A) {k : FlatPage → Reaction} (st : List ℕ) (g : Page) (x : Slot) → AlikeSlot st g x
      → (m : ℕ) → ((b : FlatPage) → absent g ≡ false → Alike st g b → Agree P shows f true lack (guarded m o) (k b))
      → Agree P shows f true lack (guarded (cond (absent g) no_page m) o) (on_page x k)
  on_page_lem o st g gone e m h = rw e (both_refuse refl)
  on_page_lem o st g (here b) e m h = rw e.0 (h b e.0 e.1)

-- ---- what demand 3 asks of a turn

abbrev pub data_in : Result → List ℕ
data_in r = r.data_out

abbrev pub ResultAgrees : Flat → Bool → Bool → Outcome Result → Reaction → Type 0
ResultAgrees f = Agree (λ (r : Result). Same r.state) data_in f

module _ {f : Flat} where
  pub says : {kind lack : Bool} {o : Outcome Result} {w : Reaction} → ResultAgrees f kind lack o w
      → cond (eqb (reply_number (reply o)) nothing_current) [] (answers_of w)
      ≡ cond (not (eqb (reply_number (reply o)) nothing_current) && kind) (answer_in (reply o) ∷ []) []
  unfolding reply
  says (passed_over i) = refl
  says (turned_back e) = rw e
  says (both_accept d i) = rw d
  says (both_refuse e) = rw e
  says kept_back = refl

  pub eleven : {kind lack : Bool} {o : Outcome Result} {w : Reaction} → ResultAgrees f kind lack o w
      → eqb (reply_number (reply o)) nothing_current ≡ (accepts w && lack)
  unfolding reply
  eleven (passed_over i) = refl
  eleven (turned_back e) = e
  eleven (both_accept d i) = refl
  eleven (both_refuse e) = e
  eleven kept_back = refl

  pub leaves : {kind lack : Bool} {o : Outcome Result} {w : Reaction} (s : State) → Same s f → ResultAgrees f kind lack o w
      → Same (left s o) (cond (eqb (reply_number (reply o)) nothing_current) f (flat_left f w))
  unfolding reply
  leaves s i (passed_over k) = k
  leaves s i (turned_back e) = rw e i
  leaves s i (both_accept d k) = k
  leaves s i (both_refuse e) = rw e i
  leaves s i kept_back = i

-- ---- one page's record and the stores change

-- the frames of the pages other than p are in the stores st' as they were
abbrev pub OthersKept : State → ℕ → List ℕ → Type 0
OthersKept s p st' =
    (q : ℕ) → q ≢ p → (y : ℕ) → y < frames s.tables → 1 ≤ count (on_frame y) (copies_in_use (page_at s.tables q))
    → block st' y ≡ block (joined s) y

pub stores_kept : (s : State) (p : ℕ) → OthersKept s p (joined s)
stores_kept s p q d y l used = refl

-- the state with the record of page p edited, no frame retired, and the joined stores st' taken apart again
abbrev pub applied : State → ℕ → Edit → List ℕ → State
applied s p e st' =
    record {
      tables = after s.tables (edited s.tables p e 255);
      fast = take (length s.fast) st';
      slow = drop (length s.fast) st';
    }

module _ (s : State) (f : Flat) (i : Inv s f) where
  -- a page whose frames are as they were
  kept_alike : (st' : List ℕ) (q : ℕ) → q < 64 → (x : Slot)
      → ((y : ℕ) → y < frames s.tables → 1 ≤ count (on_frame y) (copies_in_use (page_at s.tables q)) → block st' y ≡ block (joined s) y)
      → AlikeSlot (joined s) (page_at s.tables q) x → AlikeSlot st' (page_at s.tables q) x
  kept_alike st' q h gone keep e = e
  kept_alike st' q h (here b) keep e = (
    e.0,
    record {
      owners = e.1.owners;
      rights = e.1.rights;
      holds = holds_kept (frames s.tables) (page_at s.tables q).n (joined s) st' b.bytes (copies_in_use (page_at s.tables q))
          (page_stands_lem i.good q h e.0).copies_ok keep e.1.holds;
    },
  )

  module _ (p : ℕ) (near : p < 64) (e : Edit) (st' : List ℕ) where
    pub page_changed : (x : Slot) → AlikeSlot st' (changed (page_at s.tables p) e) x → OthersKept s p st'
        → Same (applied s p e st') (set f p x)
    page_changed x own keep =
        record {
          long = length-set f p x ∙ i.same.long;
          alike = λ q h. subst (λ (l : List ℕ). AlikeSlot l (page_at (after s.tables (edited s.tables p e 255)) q) (slot_at (set f p x) q))
              (sym (take-append-drop (length s.fast) st')) (at q h (ℕ_discrete q p));
        }
      where
        at : (q : ℕ) → q < 64 → Dec (q ≡ p) → AlikeSlot st' (page_at (after s.tables (edited s.tables p e 255)) q) (slot_at (set f p x) q)
        at q h (Dec.yes same) =
            let pages : p < length s.tables.pages = rw (sound_of s.tables i.good.tables_sound).paged.pages_long near in
            let slots : p < length f = rw i.same.long near in
            rw (same, after_same s.tables p e 255 pages, get_or-set_same f p x gone slots) own
        at q h (Dec.no d) =
            rw (after_other s.tables p e 255 q d, get_or-set_other f p q x gone d)
            (kept_alike st' q h (slot_at f q) (keep q d) (i.same.alike q h))

    -- the flat memory as it was
    pub page_moved : AlikeSlot st' (changed (page_at s.tables p) e) (slot_at f p) → OthersKept s p st'
        → Same (applied s p e st') f
    page_moved own keep =
        subst (λ (f' : Flat). Same (applied s p e st') f') (set-get_or f p gone) (page_changed (slot_at f p) own keep)

  -- all as it was
  pub page_kept : (p : ℕ) → p < 64 → Same (applied s p Kept (joined s)) f
  unfolding changed
  page_kept p near = page_moved p near Kept (joined s) (i.same.alike p near) (stores_kept s p)

  -- also where a frame is retired: the register is not looked at
  pub page_retired : (p : ℕ) → p < 64 → (x : ℕ)
      → Same (record {
        tables = after s.tables (edited s.tables p Kept x);
        fast = take (length s.fast) (joined s);
        slow = drop (length s.fast) (joined s);
      }) f
  unfolding after changed
  page_retired p near x = let k = page_kept p near in record { long = k.long; alike = k.alike }

-- ---- a call, from number 7 on

-- the call with this kind: to go through the kinds is to go through these
abbrev pub of_kind : Kind → Call → Call
of_kind k c =
    record {
      kind = k;
      station = c.station;
      page = c.page;
      other = c.other;
      right = c.right;
      offset = c.offset;
      count = c.count;
      copy = c.copy;
      frame = c.frame;
    }

abbrev pub CallAgrees : State → Flat → Call → List ℕ → Type 0
CallAgrees s f c bs =
    Agree (λ (plan : Plan). Same (carried_out s c bs plan).state) (λ (plan : Plan). (carried_out s c bs plan).data_out) f (flat_kind c)
    (lacks s.tables c) (decide s.tables c (length bs)) (react f c bs)

-- and so does its result
pub carried_agrees : (s : State) {f : Flat} (c : Call) (bs : List ℕ) {kind lack : Bool} {o : Outcome Plan} {w : Reaction}
    → Agree (λ (plan : Plan). Same (carried_out s c bs plan).state) (λ (plan : Plan). (carried_out s c bs plan).data_out) f kind lack o w
    → ResultAgrees f kind lack (mapped (carried_out s c bs) o) w
carried_agrees s c bs (passed_over i) = passed_over i
carried_agrees s c bs (turned_back e) = turned_back e
carried_agrees s c bs (both_accept d i) = both_accept d i
carried_agrees s c bs (both_refuse e) = both_refuse e
carried_agrees s c bs kept_back = kept_back
