use Rattle.std.proofs.Common.{◌∙◌, ap, sym}
use Rattle.std.specs.Prelude.{unwrap_or}
use Rattle.std.proofs.lemmas.Bool.{false≢true}
use Rattle.iv_records.specs.Journal.{position_of}
use Rattle.iv_gateway.specs.Replays.{is_later}
use Rattle.iv_gateway.proofs.JournalReplays.{nat_lt-later, nat_lt-not_later, AreKept-position, settled-IsAlive}
use Rattle.iv_gateway.proofs.gateway.Gateway.replay_position.Goals as goal

pub returns-in-None : goal.returns-in-None
returns-in-None c = λ g s es b.
    let k = AreKept-position g s es c.args.position c.args.self.now.position c.args.self.now b (sym (ap (λ o. unwrap_or o c.args.self.now.position) c.in-None.is)) in (
      sym (ap (is_later (position_of g.head.position es)) c.in-None.is),
      λ t. record {
        tokens = b.tokens;
        machine = b.machine;
        seats = b.seats;
        feeds = b.feeds;
        clients = b.clients;
        names = k.names;
        log = b.log;
        leads = b.leads;
        position = k.position;
        settled = settled-IsAlive g s es c.args.self.now b ∙ k.settled;
        forgiven = k.forgiven;
        pending = k.pending;
        shape = k.shape;
      },
    )

pub returns-then-place-self : goal.returns-then-place-self
returns-then-place-self c = λ g s es b. (
  nat_lt-not_later (position_of g.head.position es) c.in-Some.place c.args.self.now.position c.if-place-self.true b.position
      ∙ sym (ap (is_later (position_of g.head.position es)) c.in-Some.is),
  λ t. absurd (false≢true t),
)

pub returns-else-place-self : goal.returns-else-place-self
returns-else-place-self c = λ g s es b.
    let k = AreKept-position g s es c.args.position c.in-Some.place c.args.self.now b (sym (ap (λ o. unwrap_or o c.args.self.now.position) c.in-Some.is)) in (
      nat_lt-later (position_of g.head.position es) c.in-Some.place c.args.self.now.position c.if-place-self.false b.position
          ∙ sym (ap (is_later (position_of g.head.position es)) c.in-Some.is),
      λ t. record {
        tokens = b.tokens;
        machine = b.machine;
        seats = b.seats;
        feeds = b.feeds;
        clients = b.clients;
        names = k.names;
        log = b.log;
        leads = b.leads;
        position = k.position;
        settled = k.settled;
        forgiven = k.forgiven;
        pending = k.pending;
        shape = k.shape;
      },
    )
