use Rattle.std.proofs.Common.{◌∙◌, ap, subst}
use Rattle.iv_command.specs.Views.{line_of}
use Rattle.iv_clients.specs.Clients.{at_all}
use Rattle.iv_hall.specs.Hearing.{hearing_for}
use Rattle.iv_hall.specs.Readers.{readers_of}
use Rattle.iv_hall.proofs.Calls.{IsHall-fail, walked-hearing_for, IsHall-hearing_for}
use Rattle.iv_hall.specs.Numbers.{AreSet}
use Rattle.iv_hall.specs.Hall.{is_told_at}
use Rattle.std.specs.List.{Contains}
use Rattle.iv_hall.proofs.WaitingBytes.{AreCounted-none, AreCounted-CountsOn}
use Rattle.iv_hall.proofs.hall.Hall.hear_feed.Goals as goal

pub invariant_of-self : goal.invariant_of-self
invariant_of-self c = (
  IsHall-hearing_for c.self.inside.most c.self.inside.slots.items _ c.self.inside.owed c.insert_all.new.self c.self.inside.told c.list_some.new.told
      c.self.inside.readers.items c.readers_of-numbers.result.now c.args.feed c.args.rel.now (line_of c.args.line.now) c.self.invariant.0
      (c.readers_of-numbers.ensures.numbers ∙ ap (λ z. readers_of z c.args.feed) c.deref.ensures.value) c.requires c.insert_all.ensures
      (subst (λ z. AreSet (Contains c.readers_of-numbers.result.now) (is_told_at z) c.self.inside.told c.list_some.new.told) c.deref-in-Ok.ensures.value
      c.list_some.ensures) (c.in-Ok.ensures.told ∙ walked-hearing_for c.self.inside.slots.items c.self.inside.most c.self.inside.owed c.self.inside.told
      c.self.inside.readers.items c.readers_of-numbers.result.now c.args.feed c.args.rel.now (line_of c.args.line.now) c.self.invariant.0
      (c.readers_of-numbers.ensures.numbers ∙ ap (λ z. readers_of z c.args.feed) c.deref.ensures.value) c.readers_of-numbers.ensures.once),
  AreCounted-CountsOn c.self.inside.waiting _ c.self.inside.slots.items _ c.in-Ok.ensures.counted c.self.invariant.1,
)

pub invariant_of-self-in-Err : goal.invariant_of-self-in-Err
invariant_of-self-in-Err c = (
  IsHall-fail c.self.inside.most c.self.inside.slots.items _ c.self.inside.owed c.insert_all.new.self _ c.self.inside.told _ c.self.inside.readers.items _
      c.self.invariant.0 c.insert_all.ensures.size c.lose.ensures.owed c.lose.ensures.told c.lose.ensures.readers c.lose.ensures.clients,
  AreCounted-none _ c.self.inside.waiting c.lose.ensures.clients,
)

pub returns-in-Ok : goal.returns-in-Ok
returns-in-Ok c = c.in-Ok.ensures.told ∙ (walked-hearing_for c.self.inside.slots.items c.self.inside.most c.self.inside.owed c.self.inside.told
    c.self.inside.readers.items c.readers_of-numbers.result.now c.args.feed c.args.rel.now (line_of c.args.line.now) c.self.invariant.0
    (c.readers_of-numbers.ensures.numbers ∙ ap (λ z. readers_of z c.args.feed) c.deref.ensures.value) c.readers_of-numbers.ensures.once
    ∙ ap (at_all (hearing_for c.args.feed c.args.rel.now (line_of c.args.line.now))) c.self.view_is)
