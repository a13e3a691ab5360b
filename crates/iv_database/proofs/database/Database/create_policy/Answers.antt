use Rattle.std.proofs.Common.{◌≡◌, ◌∙◌, ap, false, refl, rules, true}
use Rattle.iv_access.specs.Changing.{with_policy}
use Rattle.iv_access.specs.NewPolicies.{policy_from}
use Rattle.iv_database.specs.Database.{Database}
use Rattle.iv_database.specs.Owned.{asked, has_room, with_asked}
use Rattle.iv_database.proofs.PolicyTests.{asked_after, has_passed, is_full}
use Rattle.iv_database.proofs.database.Database.create_policy.Goals as goal

pub returns-then-policies-ge-MOST_POLICIES-clause-guarded : goal.returns-then-policies-ge-MOST_POLICIES-clause-guarded
returns-then-policies-ge-MOST_POLICIES-clause-guarded c =
    let d = c.args.self.now in
    let t = c.in_ok-table.table in
    let full : has_room d.known.rights t.0 ≡ false = search rules in
    (is_full d c.args.session c.args.policy t c.in_ok-table.predicates c.in_ok-table.ensures full, refl)

pub returns-clause-guarded : goal.returns-clause-guarded
returns-clause-guarded c =
    let d = c.args.self.now in
    let n = c.args.session in
    let p = c.args.policy in
    let t = c.in_ok-table.table in
    let preds = c.in_ok-table.predicates in
    let room : has_room d.known.rights t.0 ≡ true = search rules in
    let relations = c.in_ok-create_policy.ensures.relations ∙ ap (λ (v : Database). v.known.relations) c.self.view_is in
    let rights : c.create_policy.new.self.rights ≡ with_policy t.0 (policy_from d.known.rights (asked p preds)) d.known.rights =
    c.in_ok-create_policy.ensures.ok ∙ (λ i. with_policy t.0 (policy_from (c.self.view_is i).known.rights (c.asked.ensures i)) (c.self.view_is i).known.rights) in
    let added : record {
      cap = c.self.inside.cap;
      known = c.create_policy.new.self;
      catalog = c.self.inside.catalog;
      sessions = c.self.inside.sessions.items;
      tables = c.self.inside.tables;
    } ≡ with_asked t.0 (asked p preds) d = λ i. record {
      cap = (c.self.view_is i).cap;
      known = record { relations = relations i; rights = rights i };
      catalog = (c.self.view_is i).catalog;
      sessions = (c.self.view_is i).sessions;
      tables = (c.self.view_is i).tables;
    } in (
      has_passed d n p t preds c.in_ok-table.ensures room,
      c.in_ok-table.ensures.owner.number,
      added ∙ asked_after d n p t preds c.in_ok-table.ensures,
    )
