use Rattle.iv_desk.proofs.FreeNumbers.{held_freed}
use Rattle.iv_desk.proofs.laws.held_numbers_are_freed.Goals as goal

pub returns : goal.returns
returns c = held_freed (record {
  always = c.gateways_hold_always.ensures;
  carries = c.sockets_carry_what_is_told.ensures.carries;
  lines =
      c.told_texts_are_lines.ensures;
}) c.events_leave_their_marks.ensures.marks
