use Rattle.iv_desk.proofs.SocketEnds.{IsOverFor-Happens}
use Rattle.iv_desk.proofs.laws.sockets_are_closed_for_cause.Goals as goal

pub returns : goal.returns
returns c = IsOverFor-Happens (record {
  always = c.gateways_hold_always.ensures;
  carries = c.sockets_carry_what_is_told.ensures.carries;
  lines =
      c.told_texts_are_lines.ensures;
})
