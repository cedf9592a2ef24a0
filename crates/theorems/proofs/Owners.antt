-- Create, delete and grant agree with the flat memory's reaction to them.
use Prim.Native.Nat.{ℕ, ◌<◌}
use mathlib.Core.Path.{◌≡◌, refl, sym, ap}
use mathlib.Core.Bool.{true, false, not, ◌||◌}
use mathlib.Core.List.{List}
use native.Mathlib.Omega.{arith}
use lib.ListN.{set, replicate}
use lib.Dec.{ltb, eqb}
use borrow.Author.Tests.{ltb-false, lt-ltb}
use Rattle.tables.specs.declared.Page.{Page}
use Rattle.tables.specs.declared.Edit.TheVariants.{Created, Deleted, Granted}
use Rattle.tables.specs.Numbers.{out_of_range, page_stands}
use Rattle.tables.specs.Model.{frames, copies_in_use, absent, page_at, fresh_page}
use Rattle.tables.specs.Changes.{created, changed}
use Rattle.tables.proofs.ListLaws.{or_right}
use Rattle.tables.proofs.RuleLaws.{sound_of}
use Rattle.tables.proofs.UsesLaws.{holders_two}
use Rattle.steps.specs.declared.Kind.TheVariants.{Create, DeletePage, Grant}
use Rattle.steps.specs.declared.Call.{Call}
use Rattle.steps.specs.Kinds.{names, code, among}
use Rattle.steps.specs.Stores.{zeros, frames_of, lay_frames}
use Rattle.steps.specs.declared.Plan.{Plan}
use Rattle.steps.specs.Steps.{test, editing, owns, is_placed, perform, decide_on, page_for}
use Rattle.steps.specs.Effects.{laid_frames, State, joined, carried_out}
use Rattle.steps.proofs.Blocks.{each_other}
use Rattle.steps.proofs.RangeLaws.{or_one}
use Rattle.steps.proofs.DecideLaws.{placed_within}
use Rattle.steps.proofs.StepLaws.{joined_long, page_stands_lem}
use Rattle.theorems.specs.Flat.{Flat, Slot, gone, here, slot_at, creating, react_as}
use Rattle.theorems.proofs.Agreement.{AlikeSlot, Same, Inv, Agree, both_accept, both_refuse, both_number, both_either, both_lack, on_page_lem, page_changed, of_kind, CallAgrees, stores_kept}

module _ (s : State) (f : Flat) (i : Inv s f) (c : Call) (bs : List ℕ) where
  abbrev page : Page
  page = page_at s.tables c.page

  near_by : (ltb 15 c.station || ltb 63 c.page) ≡ false → c.page < 64
  near_by e = let k = ltb-false 63 c.page (or_right (ltb 15 c.station) _ e) in omega arith

  pub create_agrees : CallAgrees s f (of_kind Create c) bs
  unfolding decide_on perform react_as names code among changed created laid_frames lay_frames
  create_agrees =
      both_number _ _ (ltb 15 c.station || ltb 63 c.page) out_of_range _ (sym (or_one _)) refl refl (λ e.
      let near = near_by e in
      go near (slot_at f c.page) (i.same.alike c.page near))
    where
      go : c.page < 64 → (x : Slot) → AlikeSlot (joined s) page x
          → Agree (λ (plan : Plan). Same (carried_out s (of_kind Create c) bs plan).state)
          (λ (plan : Plan). (carried_out s (of_kind Create c) bs plan).data_out) f true false
          (test (not (absent (page_at s.tables (page_for c)))) page_stands (editing (Created c.station))) (creating f (of_kind Create c) x)
      go near gone e =
          rw (lt-ltb c.page 64 near, e) (both_accept refl (page_changed s f i c.page near (Created c.station) (joined s)
          (here (record { owner = c.station; rights = set (replicate 16 1) c.station 2; bytes = replicate 64 0 }))
          (refl, record { owners = refl; rights = refl; holds = (λ _. refl, tt) }) (stores_kept s c.page)))
      go near (here b) e = rw (lt-ltb c.page 64 near, e.0) (both_refuse refl)

  pub delete_agrees : CallAgrees s f (of_kind DeletePage c) bs
  unfolding decide_on perform react_as names code among changed fresh_page laid_frames lay_frames
  delete_agrees =
      both_number _ _ (ltb 15 c.station || ltb 63 c.page) out_of_range _ (sym (or_one _)) refl refl (λ e.
      let near = near_by e in
      rw (lt-ltb c.page 64 near)
      (on_page_lem _ (joined s) page (slot_at f c.page) (i.same.alike c.page near) _ (λ b some own.
      both_lack _ (owns page c.station) _ (ap (λ (o : ℕ). not (eqb o c.station)) own.owners) (λ _.
      both_accept refl (page_changed s f i c.page near Deleted (lay_frames (frames_of is_placed (copies_in_use page)) 0 zeros (joined s)) gone refl
      (λ q d y l used.
      let once = (sound_of s.tables i.good.tables_sound).once y l in
      let two = holders_two s.tables y c.page q (λ e. d (sym e)) in
      each_other is_placed (frames s.tables) 0 zeros (omega arith) (copies_in_use page) (joined s) (joined_long i.good)
      (placed_within (page_stands_lem i.good c.page near some)) y (omega arith)))))))

  pub grant_agrees : CallAgrees s f (of_kind Grant c) bs
  unfolding decide_on perform react_as names code among changed laid_frames lay_frames
  grant_agrees =
      both_either _ (ltb 15 c.station || ltb 63 c.page) (ltb 15 c.other || ltb 2 c.right) out_of_range _ refl refl (λ e.
      let near = near_by e in
      rw (lt-ltb c.page 64 near)
      (on_page_lem _ (joined s) page (slot_at f c.page) (i.same.alike c.page near) _ (λ b some own.
      both_lack _ (owns page c.station) _ (ap (λ (o : ℕ). not (eqb o c.station)) own.owners) (λ _.
      both_accept refl (page_changed s f i c.page near (Granted c.other c.right) (joined s)
      (here (record { owner = b.owner; rights = set b.rights c.other c.right; bytes = b.bytes })) (
        some,
        record {
          owners = own.owners;
          rights = ap (λ (l : List ℕ). set l c.other c.right) own.rights;
          holds = own.holds;
        },
      ) (stores_kept s c.page))))))
