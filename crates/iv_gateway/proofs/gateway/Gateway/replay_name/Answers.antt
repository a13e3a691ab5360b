use Rattle.std.proofs.Common.{◌≡◌, ◌∙◌, ap, rules, sym}
use Rattle.std.proofs.lemmas.Bool.{false≢true}
use Rattle.iv_once.specs.Names.{is_new}
use Rattle.iv_once.specs.Views.{names_of}
use Rattle.iv_gateway.proofs.JournalReplays.{AreKept-with_name, is_new-IsAlive, settled-IsAlive}
use Rattle.iv_gateway.proofs.gateway.Gateway.replay_name.Goals as goal

pub returns-then-not-is_new : goal.returns-then-not-is_new
returns-then-not-is_new c = λ g s es e b.
    let ask : c.name.inside.ask ≡ c.args.name.ask = search rules in
    let new = c.is_new.ensures ∙ ap (is_new (names_of c.args.self.now.names).limits (names_of c.args.self.now.names).known) ask in
    (sym c.if-not-is_new.true ∙ is_new-IsAlive g s _ c.args.self.now c.args.name.ask c.is_new.result b new, λ t. absurd (false≢true t))

pub returns : goal.returns
returns c = λ g s es e b.
    let ask : c.name.inside.ask ≡ c.args.name.ask = search rules in
    let new = c.is_new.ensures ∙ ap (is_new (names_of c.args.self.now.names).limits (names_of c.args.self.now.names).known) ask in
    let k = AreKept-with_name g s es e c.args.name (names_of c.push.new.self) c.args.self.now b c.in_ok-push.ensures in (
      sym c.if-not-is_new.false ∙ is_new-IsAlive g s _ c.args.self.now c.args.name.ask c.is_new.result b new,
      λ t. record {
        tokens = b.tokens;
        machine = b.machine;
        seats = b.seats;
        feeds = b.feeds;
        clients = b.clients;
        names = k.names;
        log = b.log;
        leads = b.leads;
        position = k.position;
        settled = settled-IsAlive g s _ c.args.self.now b ∙ k.settled;
        forgiven = k.forgiven;
        pending = k.pending;
        shape = k.shape;
      },
    )
