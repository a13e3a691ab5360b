use Rattle.std.proofs.Common.{◌++◌, ◌∙◌, ap}
use Rattle.iv_pages.proofs.AppendedTexts.{append-seven}
use Rattle.iv_pages.proofs.figures.push_bound.Goals as goal

pub returns : goal.returns
returns c =
    append-seven c.args.out.now.items _ _ _ _ _ _ _ c.extend_from_slice.new.self.items c.extend_from_slice-2.new.self.items c.extend_from_slice-3.new.self.items c.push.new.self.items
    c.push_further.new.out.items c.push-2.new.self.items c.push_number.new.out.items
    (c.in_ok-extend_from_slice.ensures.items ∙ ap (λ z. c.args.out.now.items ++ z) c.as_bytes.ensures.value) c.in_ok-extend_from_slice-2.ensures.items c.in_ok-extend_from_slice-3.ensures.items
    c.in_ok-push.ensures.items c.in_ok-push_further.ensures c.in_ok-push-2.ensures.items c.in_ok-push_number.ensures
