-- `put_page` lays a page.
use borrow.Author.Rules.{rules}
use mathlib.Core.List.{append_assoc}
use mathlib.Core.Path.{refl, ◌∙◌}
use Rattle.embed.specs.Bytes.{copy_bytes, page_bytes}
use Rattle.embed.proofs.Rows.{Front, front_next, front_all}
use Rattle.embed.proofs.image.put_page.Goals as goal

pub returns : goal.returns
unfolding page_bytes
returns c =
    let rights : Front c.copy_from_slice.new.self 16 c.args.bytes.now _ = record { is = refl; far = search rules } in
    let copies = front_next c.put_each.new.bytes {k = 24} rights (search rules) in
    let laid = c.put_each.ensures copy_bytes (λ x b b' long called. called) in
    front_all (front_next c.copy_from_slice-2.new.self copies (search rules)) (search rules)
    ∙ rw (append_assoc, c.copy_from_slice.ensures.after, laid, c.copy_from_slice-2.ensures.after) refl
