-- `put_tables` lays the tables.
use borrow.Author.Rules.{rules}
use mathlib.Core.List.{append_assoc}
use mathlib.Core.Path.{refl, ◌∙◌}
use Rattle.embed.specs.Bytes.{page_bytes, le16, tables_bytes}
use Rattle.embed.proofs.Rows.{Front, front_next, front_all}
use Rattle.embed.proofs.image.put_tables.Goals as goal

pub returns : goal.returns
unfolding tables_bytes
returns c =
    let shared : Front c.copy_from_slice.new.self 2 c.args.bytes.now _ = record { is = refl; far = search rules } in
    let pages = front_next c.put_each.new.bytes {k = 2688} shared (search rules) in
    let pages_laid = c.put_each.ensures page_bytes (λ x b b' long called. called) in
    let entries_laid = c.put_each-2.ensures le16 (λ x b b' long called. search rules) in
    front_all (front_next c.put_each-2.new.bytes pages (search rules)) (search rules)
    ∙ rw (append_assoc, c.copy_from_slice.ensures.after, pages_laid, entries_laid) refl
