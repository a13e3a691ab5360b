use Rattle.std.proofs.Common.{append_assoc}
use Rattle.iv_pages.proofs.answers.push_refusal_head.Goals as goal

pub returns : goal.returns
returns c =
    rw (
      c.in_ok-push_closing.ensures,
      c.in_ok-push_length.ensures,
      c.in_ok-push_field.ensures,
      c.in_ok-extend_from_slice-4.ensures.items,
      c.allow_line.ensures,
      c.in_ok-extend_from_slice-3.ensures.items,
      c.in_ok-extend_from_slice-2.ensures.items,
      c.in_ok-extend_from_slice.ensures.items,
      c.requires,
    )
    (simp append_assoc)
