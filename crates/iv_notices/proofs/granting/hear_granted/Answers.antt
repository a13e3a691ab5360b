use Rattle.std.proofs.Common.{◌≡◌, ◌∙◌, ap, length, rules, sym, true, false}
use Rattle.std.specs.Prelude.{◌==◌}
use Rattle.iv_clients.specs.Clients.{at_all}
use Rattle.iv_notices.specs.Granting.{holding_for, is_granted, names_granted}
use Rattle.iv_notices.proofs.GrantTexts.{at_all-told_names_none, at_all-told_names}
use Rattle.iv_notices.proofs.granting.hear_granted.Goals as goal

pub returns-then-is_empty : goal.returns-then-is_empty
returns-then-is_empty c =
    let p = is_granted c.args.engine.now.frame c.args.grants.now in
    let names = names_granted c.args.engine.now.frame c.args.grants.now in
    let empty : (length c.in_ok-text.text.items == 0) ≡ true = search rules in
    at_all-told_names_none c.told_texts_are_lines.ensures p names c.args.clients.now (ap (λ z. length z == 0) (sym c.in_ok-text.ensures) ∙ empty)

pub returns : goal.returns
returns c =
    let p = is_granted c.args.engine.now.frame c.args.grants.now in
    let names = names_granted c.args.engine.now.frame c.args.grants.now in
    let some : (length c.in_ok-text.text.items == 0) ≡ false = search rules in
    c.in_ok-grant_all.ensures
    ∙ (ap (λ z. at_all (holding_for p z) c.args.clients.now) (c.deref.ensures.value ∙ c.in_ok-text.ensures)
    ∙ at_all-told_names p names c.args.clients.now (ap (λ z. length z == 0) (sym c.in_ok-text.ensures) ∙ some))
