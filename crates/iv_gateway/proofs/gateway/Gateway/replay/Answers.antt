use Rattle.std.proofs.Common.{◌≡◌, ◌≤◌, List, Some, None, arith, drop, length, length-drop, subst}
use Rattle.std.proofs.lemmas.List.{take_rest}
use Rattle.iv_journal.specs.Journal.{Line}
use Rattle.iv_once.specs.Views.{names_of}
use Rattle.iv_gate.specs.Restoring.{IsDamagedAt}
use Rattle.iv_gate.proofs.JournalDamage.{led_to}
use Rattle.iv_gateway.specs.Replays.{IsRecordReplayed, behind}
use Rattle.iv_gateway.proofs.JournalReplays.{names_of-forgiven, HasRead-start, Restores-HasRead, HasRead-next, IsDamagedAt-IsRecordReplayed}
use Rattle.iv_gateway.proofs.gateway.Gateway.replay.Goals as goal

pub lines-init : goal.lines-init
lines-init c = record { within = omega arith; leads = λ g n b. HasRead-start g c.args.journal.now c.args.self.now n b }

pub lines-preserved : goal.lines-preserved
lines-preserved c =
    let rest = take_rest c.args.journal.now c.lines.at in
    let count : c.in-Ok-Some.count ≤ length (drop c.lines.at c.args.journal.now) =
    subst (λ (ls : List Line). c.in-Ok-Some.count ≤ length ls) rest (rw c.in-Ok-Some.field-0-is at c.in-Ok-Some.ensures.within) in
    let more = length-drop c.lines.at c.args.journal.now in
    let within : c.lines.at ≤ length c.args.journal.now = c.lines.invariant.within in
    record {
      within = omega (arith, count, more, within);
      leads = λ g n b.
          let w = c.lines.invariant.leads g n b in
          HasRead-next g c.args.journal.now c.lines.at c.in-Ok-Some.count c.lines.self c.replay_record.new.self w
          (subst (λ (ls : List Line). IsRecordReplayed g w.entries ls (Some c.in-Ok-Some.count) c.replay_record.new.self) rest
          (rw c.in-Ok-Some.field-0-is at (c.in-Ok-Some.ensures.replayed g w.entries w.gate)));
    }

pub returns-clause-replayed : goal.returns-clause-replayed
returns-clause-replayed c = λ g n b.
    let w = c.lines.invariant.leads g n b in
    let a = w.gate.gate in record {
      now = led_to g w.entries w.gate.state;
      restores = Restores-HasRead g c.args.journal.now c.lines.at c.lines.self w (omega arith);
      gate = record {
        tokens = a.tokens;
        machine = a.machine;
        seats = a.seats;
        feeds = a.feeds;
        clients = a.clients;
        names = names_of-forgiven (behind g w.gate.state w.entries) _ (names_of c.lines.self.names) a.names c.forgive.ensures;
        log = a.log;
        leads = a.leads;
        position = a.position;
        settled = a.settled;
        forgiven = omega arith;
        pending = a.pending;
        shape = a.shape;
      };
    }

pub returns-in-Ok-None-clause-damaged : goal.returns-in-Ok-None-clause-damaged
returns-in-Ok-None-clause-damaged c = λ place e g n b.
    let w = c.lines.invariant.leads g n b in
    let same : c.lines.at ≡ place = cc e in
    subst (IsDamagedAt g c.args.journal.now) same
    (IsDamagedAt-IsRecordReplayed g c.args.journal.now c.lines.at c.lines.self c.replay_record.new.self w (omega arith)
    (subst (λ (ls : List Line). IsRecordReplayed g w.entries ls None c.replay_record.new.self) (take_rest c.args.journal.now c.lines.at)
    (rw c.in-Ok-None.field-0-is at (c.in-Ok-None.ensures.replayed g w.entries w.gate))))
