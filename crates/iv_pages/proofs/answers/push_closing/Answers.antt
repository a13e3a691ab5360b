use Rattle.std.proofs.Common.{append_assoc}
use Rattle.iv_pages.proofs.answers.push_closing.Goals as goal

pub returns : goal.returns
returns c = rw (c.in_ok-extend_from_slice.ensures.items, c.in_ok-push_field-3.ensures, c.in_ok-push_field-2.ensures, c.in_ok-push_field.ensures) (simp append_assoc)
