use Rattle.std.proofs.Common.{◌∙◌, ap, map, sym, refl, subst}
use Rattle.iv_command.specs.Views.{line_of}
use Rattle.iv_machine.specs.Act.{unsubscribe}
use Rattle.iv_clients.specs.Feeds.{without_feed}
use Rattle.iv_gate.specs.Gate.{Gate, in_session, ran}
use Rattle.iv_gateway.specs.Views.{IsAlive}
use Rattle.iv_gateway.proofs.gateway.Gateway.shut.Goals as goal

pub returns : goal.returns
returns c = λ g f b s k.
    let h : Gate = record g { feeds = without_feed c.args.number g.feeds } in
    let run = c.in_ok-lines.ensures (record g { feeds = without_feed c.args.number g.feeds })
    (record {
      tokens = b.tokens;
      machine = b.machine;
      seats = b.seats;
      clients = b.clients;
      names = b.names;
      log = b.log;
      leads = b.leads;
      position = b.position;
      settled = b.settled;
      forgiven = b.forgiven;
      pending = b.pending;
      shape = b.shape;
      feeds =
          c.drop_feed.ensures ∙ ap (without_feed c.args.number) b.feeds;
    }) in
    let done : IsAlive (ran (record g { feeds = without_feed c.args.number g.feeds }) (in_session c.args.session (unsubscribe c.args.number)))
    c.hear_plain.new.self =
    c.in_ok-hear_plain.ensures (record g { feeds = without_feed c.args.number g.feeds }) (in_session c.args.session (unsubscribe c.args.number))
    (record { lines = ap (map line_of) c.deref.ensures.value ∙ run.lines; gate = run.gate }) (λ x r. refl) in
    subst (λ n. IsAlive (ran (record g { feeds = without_feed f.number g.feeds }) (in_session n (unsubscribe f.number))) c.hear_plain.new.self) (sym s)
    (subst (λ j. IsAlive (ran (record g { feeds = without_feed j g.feeds }) (in_session c.args.session (unsubscribe j))) c.hear_plain.new.self) (sym k) done)
