use Rattle.std.proofs.Common.{◌++◌, ◌∙◌, ap}
use Rattle.std.specs.Prelude.{codes}
use Rattle.iv_pages.specs.Answer.{field_line}
use Rattle.iv_pages.proofs.AppendedTexts.{append-two, append-five}
use Rattle.iv_pages.proofs.answers.push_ok.Goals as goal

pub returns : goal.returns
returns c =
    append-two c.args.out.now.items _ _ c.extend_from_slice.new.self.items c.push_closing.new.out.items c.in_ok-extend_from_slice.ensures.items
    (append-five c.extend_from_slice.new.self.items _ _ _ _ _ c.push_field.new.out.items c.push_length.new.out.items c.push_tag.new.out.items c.push_field-2.new.out.items c.push_closing.new.out.items
    (c.in_ok-push_field.ensures ∙ ap (λ z. c.extend_from_slice.new.self.items ++ field_line (codes "content-type") z) c.as_bytes.ensures.value) c.in_ok-push_length.ensures
    c.in_ok-push_tag.ensures
    (c.in_ok-push_field-2.ensures ∙ ap (λ z. c.push_tag.new.out.items ++ field_line (codes "content-security-policy") z) c.as_bytes-2.ensures.value) c.in_ok-push_closing.ensures)
