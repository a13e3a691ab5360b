use Rattle.std.proofs.Common.{◌++◌, ◌∙◌, ap}
use Rattle.std.specs.Prelude.{flat_map}
use Rattle.iv_pages.specs.Figures.{help_byte}
use Rattle.iv_pages.proofs.AppendedTexts.{append-nine}
use Rattle.iv_pages.proofs.figures.push_heading.Goals as goal

pub returns : goal.returns
returns c =
    append-nine c.args.out.now.items _ _ _ _ _ _ _ _ _ c.extend_from_slice.new.self.items c.extend_from_slice-2.new.self.items c.push.new.self.items c.push_help.new.out.items
    c.extend_from_slice-3.new.self.items c.extend_from_slice-4.new.self.items c.push-2.new.self.items c.extend_from_slice-5.new.self.items c.push-3.new.self.items
    c.in_ok-extend_from_slice.ensures.items (c.in_ok-extend_from_slice-2.ensures.items ∙ ap (λ z. c.extend_from_slice.new.self.items ++ z) c.as_bytes.ensures.value)
    c.in_ok-push.ensures.items (c.in_ok-push_help.ensures ∙ ap (λ z. c.push.new.self.items ++ flat_map help_byte z) c.as_bytes-2.ensures.value) c.in_ok-extend_from_slice-3.ensures.items
    (c.in_ok-extend_from_slice-4.ensures.items ∙ ap (λ z. c.extend_from_slice-3.new.self.items ++ z) c.as_bytes-3.ensures.value) c.in_ok-push-2.ensures.items
    c.in_ok-extend_from_slice-5.ensures.items c.in_ok-push-3.ensures.items
