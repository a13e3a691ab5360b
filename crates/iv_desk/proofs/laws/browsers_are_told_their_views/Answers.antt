use Rattle.iv_desk.proofs.NumberTraffic.{browsers_told}
use Rattle.iv_desk.proofs.laws.browsers_are_told_their_views.Goals as goal

pub returns : goal.returns
returns c = browsers_told (record {
  always = c.gateways_hold_always.ensures;
  carries = c.sockets_carry_what_is_told.ensures.carries;
  lines =
      c.told_texts_are_lines.ensures;
})
