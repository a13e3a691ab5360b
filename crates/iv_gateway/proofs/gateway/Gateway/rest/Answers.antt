use Rattle.std.proofs.Common.{◌≡◌, ◌∙◌, ap, cond, map, sym, rules, refl, subst}
use Rattle.iv_command.specs.Views.{line_of}
use Rattle.iv_machine.specs.Act.{finish}
use Rattle.iv_clients.specs.Feeds.{without_seat}
use Rattle.iv_gate.specs.Gate.{in_session, ran}
use Rattle.iv_gateway.specs.Views.{IsAlive}
use Rattle.iv_gateway.proofs.gateway.Gateway.rest.Goals as goal

pub returns : goal.returns
returns c = λ g b.
    let n = c.seat.inside.session in
    let same : c.seat.inside.session ≡ c.args.seat.now.session = search rules in
    let run = c.in_ok-lines.ensures (record g { seats = without_seat c.seat.inside.session g.seats })
    (record {
      tokens = b.tokens;
      machine = b.machine;
      feeds = b.feeds;
      clients = b.clients;
      names = b.names;
      log = b.log;
      leads = b.leads;
      position = b.position;
      settled = b.settled;
      forgiven = b.forgiven;
      pending = b.pending;
      shape = b.shape;
      seats =
          c.drop_seat.ensures ∙ ap (without_seat c.seat.inside.session) b.seats;
    }) in
    let done : IsAlive (ran (record g { seats = without_seat c.seat.inside.session g.seats }) (in_session c.seat.inside.session finish)) c.hear_plain.new.self =
    c.in_ok-hear_plain.ensures (record g { seats = without_seat c.seat.inside.session g.seats }) (in_session c.seat.inside.session finish)
    (record { lines = ap (map line_of) c.deref.ensures.value ∙ run.lines; gate = run.gate }) (λ f r. refl) in
    subst (λ z. IsAlive (cond z g (ran (record g { seats = without_seat c.args.seat.now.session g.seats }) (in_session c.args.seat.now.session finish)))
    c.hear_plain.new.self)
    (sym c.if-is_needed.false ∙ c.is_needed.ensures g b)
    (subst (λ k. IsAlive (ran (record g { seats = without_seat k g.seats }) (in_session k finish)) c.hear_plain.new.self) same done)
