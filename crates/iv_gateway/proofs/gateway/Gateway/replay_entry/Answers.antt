use Rattle.std.proofs.Common.{◌∙◌, false, subst, sym}
use Rattle.iv_records.specs.Journal.{Entry, IsEntry}
use Rattle.iv_gateway.specs.Replays.{IsReplayed, behind}
use Rattle.iv_gateway.proofs.JournalReplays.{IsReplayed-AreNamesReplayed, PassesTo-IsPassed, IsReplayed-not_later, IsReplayed-not_carried}
use Rattle.iv_gateway.proofs.gateway.Gateway.replay_entry.Goals as goal

pub returns-then-not-replay_position : goal.returns-then-not-replay_position
returns-then-not-replay_position c = λ g es w.
    let e : Entry = record { requests = c.entry.inside.requests.items; names = c.entry.inside.names.items; position = c.entry.inside.position } in
    let p = c.replay_position.ensures g w.state es w.gate in
    subst (λ (x : Entry). IsReplayed g es x false c.replay_position.new.self) c.entry.view_is
    (IsReplayed-not_later g es e c.args.self.now c.replay_position.new.self w (sym c.if-not-replay_position.true ∙ p.0))

pub returns-then-not-branch : goal.returns-then-not-branch
returns-then-not-branch c = λ g es w.
    let e : Entry = record { requests = c.entry.inside.requests.items; names = c.entry.inside.names.items; position = c.entry.inside.position } in
    let p = c.replay_position.ensures g w.state es w.gate in
    subst (λ (x : Entry). IsReplayed g es x false c.replay_requests.new.self) c.entry.view_is
    (IsReplayed-not_carried g es e c.args.self.now c.replay_requests.new.self c.replay_requests.new.self c.in_ok-replay_requests.field-0 w
    (c.in_ok-replay_requests.ensures g w.state es e.position (p.1 c.if-not-replay_position.false)) c.if-not-branch.true)

pub returns : goal.returns
returns c = λ g es w.
    let e : Entry = record { requests = c.entry.inside.requests.items; names = c.entry.inside.names.items; position = c.entry.inside.position } in
    let p = c.replay_position.ensures g w.state es w.gate in
    let q = PassesTo-IsPassed (behind g w.state _) _ c.in_ok-replay_requests.field-0 c.replay_requests.new.self
    (c.in_ok-replay_requests.ensures g w.state es e.position (p.1 c.if-not-replay_position.false)) c.if-not-branch.false in
    subst (λ (x : Entry). IsReplayed g es x c.in_ok-are_new.are_new c.replay_names.new.self) c.entry.view_is
    (IsReplayed-AreNamesReplayed g es e c.args.self.now c.replay_requests.new.self c.replay_names.new.self c.replay_position.result c.in_ok-are_new.are_new
    (subst IsEntry (sym c.entry.view_is) c.requires) w (sym p.0 ∙ c.if-not-replay_position.false) q
    (c.in_ok-are_new.ensures g q.state es e.requests e.position q.gate))
