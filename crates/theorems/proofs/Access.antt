-- Read and write agree with the flat memory's reaction to them.
use Prim.Native.Nat.{ℕ, ◌+◌, ◌*◌, ◌≤◌, ◌<◌}
use mathlib.Core.Path.{◌≡◌, refl, sym, ap, ◌∙◌}
use mathlib.Core.Bool.{true, false, ◌||◌}
use mathlib.Core.List.{List}
use native.Mathlib.Omega.{arith}
use lib.ListN.{length, get_or, set}
use lib.Dec.{ltb, eqb}
use borrow.Author.Tests.{eqb-false, ltb-false, lt-ltb}
use Rattle.tables.specs.declared.Page.{Page}
use Rattle.tables.specs.declared.Edit.TheVariants.{Staled}
use Rattle.tables.specs.Lists.{all}
use Rattle.tables.specs.Numbers.{out_of_range}
use Rattle.tables.specs.Model.{frames, copies_in_use, absent, page_at}
use Rattle.tables.specs.Rules.{holders, is_current, copy_rule}
use Rattle.tables.specs.Changes.{changed}
use Rattle.tables.proofs.ListLaws.{or_right}
use Rattle.tables.proofs.RuleLaws.{sound_of}
use Rattle.tables.proofs.UsesLaws.{holders_at, holders_two}
use Rattle.tables.proofs.ChangeLaws.{in_use_staled}
use Rattle.steps.specs.declared.Kind.TheVariants.{Read, Write}
use Rattle.steps.specs.declared.Act.TheVariants as Act
use Rattle.steps.specs.declared.Call.{Call}
use Rattle.steps.specs.Kinds.{names, code, among}
use Rattle.steps.specs.Calls.{bad_span}
use Rattle.steps.specs.Stores.{part, splice, frames_of, lay_frames}
use Rattle.steps.specs.Steps.{may, currents, perform, decide_on}
use Rattle.steps.specs.Effects.{laid_frames, shown_of, State, joined}
use Rattle.steps.proofs.Blocks.{each_other, each_own}
use Rattle.steps.specs.Promises.{frame_within}
use Rattle.steps.proofs.RightLaws.{lacks_read, lacks_write}
use Rattle.steps.proofs.RangeLaws.{span_within, or_one}
use Rattle.steps.proofs.DecideLaws.{currents_within}
use Rattle.steps.proofs.StepLaws.{joined_long, page_stands_lem}
use Rattle.theorems.specs.Flat.{Flat, FlatPage, here, slot_at, react_as}
use Rattle.theorems.proofs.Holding.{holds_written, first_current_lem}
use Rattle.theorems.proofs.Agreement.{Alike, Same, Inv, both_accept, both_number, both_lack, lacking, on_page_lem, applied, page_changed, page_kept, of_kind, CallAgrees}

module _ (s : State) (f : Flat) (i : Inv s f) where
  -- page p, which stands as b, written
  written : (p : ℕ) → p < 64 → absent (page_at s.tables p) ≡ false → (b : FlatPage) → Alike (joined s) (page_at s.tables p) b
      → (o : ℕ) (bs : List ℕ) → o + length bs ≤ 64
      → Same (applied s p Staled (lay_frames (frames_of is_current (copies_in_use (page_at s.tables p))) o bs (joined s)))
      (set f p (here (record { owner = b.owner; rights = b.rights; bytes = splice b.bytes o bs })))
  unfolding changed
  written p near some b own o bs span =
      page_changed s f i p near Staled _ _ (
        some,
        record {
          owners = own.owners;
          rights = own.rights;
          holds = rw (in_use_staled g) (holds_written limit g.n (joined s) _ b.bytes o bs (copies_in_use g) rules (λ x l current.
              each_own is_current limit o bs span (copies_in_use g) (joined s) long within x (omega (arith, once x l, holders_at s.tables x p)) current)
              own.holds);
        },
      )
      (λ q d y l used. each_other is_current limit o bs span (copies_in_use g) (joined s) long within y
      (omega (arith, once y l, holders_two s.tables y p q (λ e. d (sym e)))))
    where
      g : Page
      g = page_at s.tables p

      limit : ℕ
      limit = frames s.tables

      long : length (joined s) ≡ 64 * limit
      long = joined_long i.good

      rules : all (copy_rule limit g.n) (copies_in_use g) ≡ true
      rules = (page_stands_lem i.good p near some).copies_ok

      within : all (frame_within is_current limit) (copies_in_use g) ≡ true
      within = currents_within (page_stands_lem i.good p near some)

      once : (x : ℕ) → x < limit → holders s.tables x ≤ 1
      once = (sound_of s.tables i.good.tables_sound).once

  module _ (c : Call) (bs : List ℕ) where
    low : c.page ≤ 63 → c.page < 64
    low h = omega arith

    abbrev page : Page
    page = page_at s.tables c.page

    pub read_agrees : CallAgrees s f (of_kind Read c) bs
    unfolding decide_on perform react_as names code among shown_of part
    read_agrees =
        both_number _ _ (ltb 15 c.station || ltb 63 c.page) out_of_range _ (sym (or_one _)) refl refl (λ e.
        both_number _ _ (bad_span c.offset c.count) out_of_range _ refl refl refl (λ _.
        let near = ltb-false 63 c.page (or_right (ltb 15 c.station) _ e) in
        rw (lt-ltb c.page 64 (low near))
        (on_page_lem _ (joined s) page (slot_at f c.page) (i.same.alike c.page (low near)) _ (λ b some own.
        both_lack _ (may page c.station Act.Read) (eqb (get_or b.rights c.station 0) 0)
        (lacks_read page c.station ∙ ap (λ (l : List ℕ). eqb (get_or l c.station 0) 0) own.rights) (λ _.
        lacking (eqb (currents page) 0) (λ current.
        let ne = eqb-false (currents page) 0 current in
        let rules = (page_stands_lem i.good c.page (low near) some).copies_ok in
        both_accept (ap (λ (l : List ℕ). part l c.offset c.count)
        (first_current_lem (frames s.tables) page.n (joined s) b.bytes (copies_in_use page) rules (omega arith) own.holds))
        (page_kept s f i c.page (low near))))))))

    pub write_agrees : CallAgrees s f (of_kind Write c) bs
    unfolding decide_on perform react_as names code among laid_frames lay_frames splice
    write_agrees =
        both_number _ _ (ltb 15 c.station || ltb 63 c.page) out_of_range _ (sym (or_one _)) refl refl (λ e.
        both_number _ _ (bad_span c.offset (length bs)) out_of_range _ refl refl refl (λ e'.
        let near = ltb-false 63 c.page (or_right (ltb 15 c.station) _ e) in
        rw (lt-ltb c.page 64 (low near))
        (on_page_lem _ (joined s) page (slot_at f c.page) (i.same.alike c.page (low near)) _ (λ b some own.
        both_lack _ (may page c.station Act.Write) (ltb (get_or b.rights c.station 0) 2)
        (lacks_write page c.station ∙ ap (λ (l : List ℕ). ltb (get_or l c.station 0) 2) own.rights) (λ _.
        lacking (eqb (currents page) 0) (λ _.
        both_accept refl (written c.page (low near) some b own c.offset bs (span_within c.offset (length bs) e'))))))))
