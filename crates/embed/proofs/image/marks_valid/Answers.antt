-- `marks_valid` tests each page.
use Prim.Native.Nat.{◌*◌, ◌-◌}
use mathlib.Core.Bool.{true, false}
use mathlib.Core.Path.{◌≡◌, refl, ap, ◌∙◌}
use borrow.Author.Rules.{rules}
use lib.ListN.{drop, take, length}
use Rattle.std.proofs.lemmas.List.{take_rest}
use Rattle.std.proofs.lemmas.Iterator.{cases_from_all, YieldsList-from_range}
use Rattle.embed.specs.Bytes.{page_size, page_marks_valid, marks_valid}
use Rattle.embed.proofs.Rows.{each_tested}
use Rattle.embed.proofs.image.marks_valid.Goals as goal

pub returns : goal.returns
unfolding marks_valid
returns c =
    let bytes = c.args.bytes.now in
    let pages = take (length bytes - 2) (drop 2 bytes) in
    each_tested page_size page_marks_valid 64 pages c.all.result
    (cases_from_all _ _ _ (λ i. page_marks_valid (drop (page_size * i) pages) ≡ true)
    (λ i. page_marks_valid (drop (page_size * i) pages) ≡ false) c.all.ensures.ran (YieldsList-from_range 0 64 64 refl refl)
    (λ i q called. (ap (λ s. record { 0 = s }) called.met.1, search rules)) (λ i q called. search rules))
    ∙ rw take_rest
