-- The register changes no answer: a step on any tables and stores is what it is with the search in place of the
-- register.
use Prim.Native.Nat.{ℕ}
use mathlib.Core.Bool.{Bool, true, false, ◌&&◌, cond, true≢false}
use mathlib.Core.List.{List}
use mathlib.Core.Path.{◌≡◌, refl, ap}
use lib.ListN.{length}
use lib.Dec.{leb}
use borrow.Author.Tests.{leb-false}
use Rattle.tables.specs.declared.Page.{Page}
use Rattle.tables.specs.declared.Shared.{Shared}
use Rattle.tables.specs.declared.Tables.{Tables}
use Rattle.tables.specs.declared.Holder.{Holder}
use Rattle.tables.specs.Numbers.{accepted, broken_tables, misfit_store, out_of_range}
use Rattle.tables.specs.Model.{frames, page_at}
use Rattle.tables.specs.Rules.{sound}
use Rattle.tables.specs.Search.{holder_of}
use Rattle.tables.specs.Register.{registered}
use Rattle.tables.proofs.RegisterLaws.{registered_is}
use Rattle.steps.specs.declared.Kind.{Kind}
use Rattle.steps.specs.declared.Kind.TheVariants.{Create, DeletePage, Grant, Read, Write, MakeCopy, DeleteCopy, SetCurrent, RemoveCurrent, LookPage, LookFrame, Retire}
use Rattle.steps.specs.declared.Call.{Call}
use Rattle.steps.specs.Kinds.{frame, names, code, among, has}
use Rattle.steps.specs.Calls.{name_outside, span_outside}
use Rattle.steps.specs.Stores.{fits}
use Rattle.steps.specs.declared.Plan.{Plan}
use Rattle.steps.specs.Steps.{Outcome, guarded, mapped, perform, decide_on, page_for, viewing, view_by, decide}
use Rattle.steps.specs.Effects.{State, carried_out, step}
use Rattle.theorems.specs.Searched.{step_searched, AsSearched}

-- a call that names no frame does not look at the holder
no_frame : (a : Shared) (g : Page) (c : Call) (size : ℕ) (h h' : Holder) (k : Kind) → has frame k ≡ false
    → perform (viewing a g h) c size k ≡ perform (viewing a g h') c size k
unfolding perform names code among
no_frame a g c size h h' Create e = refl
no_frame a g c size h h' DeletePage e = refl
no_frame a g c size h h' Grant e = refl
no_frame a g c size h h' Read e = refl
no_frame a g c size h h' Write e = refl
no_frame a g c size h h' MakeCopy e = absurd (true≢false e)
no_frame a g c size h h' DeleteCopy e = refl
no_frame a g c size h h' SetCurrent e = refl
no_frame a g c size h h' RemoveCurrent e = refl
no_frame a g c size h h' LookPage e = refl
no_frame a g c size h h' LookFrame e = absurd (true≢false e)
no_frame a g c size h h' Retire e = absurd (true≢false e)

-- nor does one whose frame is out of range, which is turned back with 7
unless_far : (n names far span : Bool) (o o' : Outcome Plan) → (names ≡ false → o ≡ o') → (far ≡ false → o ≡ o')
    → guarded (cond n out_of_range (cond (names && far) out_of_range (cond span out_of_range accepted))) o
    ≡ guarded (cond n out_of_range (cond (names && far) out_of_range (cond span out_of_range accepted))) o'
unless_far true names far span o o' j k = refl
unless_far false false far span o o' j k = ap (guarded (cond span out_of_range accepted)) (j refl)
unless_far false true true span o o' j k = refl
unless_far false true false span o o' j k = ap (guarded (cond span out_of_range accepted)) (k refl)

-- on sound tables
decide_searched : (t : Tables) (c : Call) (size : ℕ) → sound t ≡ true → decide t c size ≡ decide_on (view_by holder_of t c) c size
unfolding decide_on
decide_searched t c size ok =
    unless_far (name_outside c) (has frame c.kind) (leb (frames t) c.frame) (span_outside size c) _ _
    (no_frame t.shared (page_at t (page_for c)) c size (registered t c.frame) (holder_of t c.frame) c.kind)
    (λ e. ap (λ (h : Holder). perform (viewing t.shared (page_at t (page_for c)) h) c size c.kind)
    (registered_is t c.frame ok (leb-false (frames t) c.frame e)))

-- and on any tables, since broken ones are refused before
step_searched_lem : (s : State) (c : Call) (bs : List ℕ) → step s c bs ≡ step_searched s c bs
unfolding step
step_searched_lem s c bs = ap (mapped (carried_out s c bs)) (go (sound s.tables) refl)
  where
    go : (b : Bool) → sound s.tables ≡ b
        → guarded (cond b (cond (fits s.tables (length s.fast) (length s.slow)) accepted misfit_store) broken_tables)
        (decide s.tables c (length bs))
        ≡ guarded (cond b (cond (fits s.tables (length s.fast) (length s.slow)) accepted misfit_store) broken_tables)
        (decide_on (view_by holder_of s.tables c) c (length bs))
    go true e =
        ap (guarded (cond (fits s.tables (length s.fast) (length s.slow)) accepted misfit_store)) (decide_searched s.tables c (length bs) e)
    go false e = refl

pub as_searched : AsSearched
as_searched = record { every_frame = λ t ok f low. registered_is t f ok low; every_step = step_searched_lem }
