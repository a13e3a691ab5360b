use Rattle.std.proofs.Common.{append_assoc}
use Rattle.iv_pages.proofs.answers.push_not_modified.Goals as goal

pub returns : goal.returns
returns c = rw (c.in_ok-push_closing.ensures, c.in_ok-push_tag.ensures, c.in_ok-extend_from_slice.ensures.items) (simp append_assoc)
