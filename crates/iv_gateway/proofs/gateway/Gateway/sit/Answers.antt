use Rattle.std.proofs.Common.{◌≡◌, ◌∙◌, ◌++◌, ◌∷◌, [], ap, map, sym, rules, refl, subst, true, false}
use Rattle.std.specs.Prelude.{string_bytes}
use Rattle.iv_command.specs.Views.{line_of}
use Rattle.iv_machine.specs.Act.{begin}
use Rattle.iv_store.specs.Engine.{IsBehind}
use Rattle.iv_clients.specs.Feeds.{next_seat}
use Rattle.iv_gate.specs.Gate.{Gate, in_session, is_accepted, reply_in, reply_to}
use Rattle.iv_gateway.specs.Views.{IsRun}
use Rattle.iv_gateway.proofs.RefusedCommands.{state-refused}
use Rattle.iv_gateway.proofs.RoleSessions.{begun_for-next_seat}
use Rattle.iv_gateway.proofs.gateway.Gateway.sit.Goals as goal

pub returns : goal.returns
returns c = λ g b.
    let role = string_bytes c.args.role in
    let n = c.in-Some.session in
    let same : string_bytes c.in_ok-name.name ≡ string_bytes c.args.role = search rules in
    let run : IsRun g (in_session c.in-Some.session (begin (string_bytes c.args.role))) (map line_of c.in_ok-lines.lines.items) c.run.new.self =
    subst (λ z. IsRun g (in_session c.in-Some.session (begin z)) (map line_of c.in_ok-lines.lines.items) c.run.new.self) same (c.in_ok-lines.ensures g b) in
    let passes : is_accepted (reply_in (map line_of c.in_ok-lines.lines.items)) ≡ true =
    sym (c.is_accepted.ensures ∙ ap (λ ls. is_accepted (reply_in (map line_of ls))) c.deref-2.ensures.value) ∙ c.if-not-is_accepted.false in
    let h : Gate = record g { seats = g.seats ++ record { session = c.in-Some.session; role = string_bytes c.args.role } ∷ [] } in (
      begun_for-next_seat g role n true (sym (ap next_seat (c.deref.ensures.value ∙ b.seats)) ∙ (sym c.next_seat.ensures ∙ c.in-Some.is))
          (ap (λ ls. is_accepted (reply_in ls)) (sym run.lines) ∙ passes),
      c.in_ok-hear_plain.ensures (record g { seats = g.seats ++ record { session = c.in-Some.session; role = string_bytes c.args.role } ∷ [] })
          (in_session c.in-Some.session (begin (string_bytes c.args.role)))
          (record {
            lines = ap (map line_of) c.deref-3.ensures.value ∙ run.lines;
            gate = record {
              tokens = run.gate.tokens;
              machine = run.gate.machine;
              feeds = run.gate.feeds;
              clients = run.gate.clients;
              names = run.gate.names;
              log = run.gate.log;
              leads = run.gate.leads;
              position = run.gate.position;
              settled = run.gate.settled;
              forgiven = run.gate.forgiven;
              pending = run.gate.pending;
              shape = run.gate.shape;
              seats = c.in_ok-push.ensures.items ∙ ap (λ z. z ++ record { session = c.in-Some.session; role = string_bytes c.args.role } ∷ []) run.gate.seats;
            };
          }) (λ f r. refl),
    )

pub returns-then-not-is_accepted : goal.returns-then-not-is_accepted
returns-then-not-is_accepted c = λ g b.
    let role = string_bytes c.args.role in
    let n = c.in-Some.session in
    let same : string_bytes c.in_ok-name.name ≡ string_bytes c.args.role = search rules in
    let run : IsRun g (in_session c.in-Some.session (begin (string_bytes c.args.role))) (map line_of c.in_ok-lines.lines.items) c.run.new.self =
    subst (λ z. IsRun g (in_session c.in-Some.session (begin z)) (map line_of c.in_ok-lines.lines.items) c.run.new.self) same (c.in_ok-lines.ensures g b) in
    let refuses : is_accepted (reply_in (map line_of c.in_ok-lines.lines.items)) ≡ false =
    sym (c.is_accepted.ensures ∙ ap (λ ls. is_accepted (reply_in (map line_of ls))) c.deref-2.ensures.value) ∙ c.if-not-is_accepted.true in
    let rejected : is_accepted (reply_to g (in_session c.in-Some.session (begin (string_bytes c.args.role)))) ≡ false =
    ap (λ ls. is_accepted (reply_in ls)) (sym run.lines) ∙ refuses in (
      begun_for-next_seat g role n false (sym (ap next_seat (c.deref.ensures.value ∙ b.seats)) ∙ (sym c.next_seat.ensures ∙ c.in-Some.is)) rejected,
      record {
        tokens = run.gate.tokens;
        seats = run.gate.seats;
        feeds = run.gate.feeds;
        clients = run.gate.clients;
        names = run.gate.names;
        log = run.gate.log;
        leads = run.gate.leads;
        position = run.gate.position;
        settled = run.gate.settled;
        forgiven = run.gate.forgiven;
        pending = run.gate.pending;
        shape = run.gate.shape;
        machine = subst (λ z. IsBehind z c.run.new.self.engine) (state-refused g.machine (in_session c.in-Some.session (begin (string_bytes c.args.role)))
            rejected) run.gate.machine;
      },
    )
