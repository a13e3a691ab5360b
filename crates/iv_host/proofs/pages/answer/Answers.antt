use Rattle.std.specs.Prelude.{option_map}
use Rattle.iv_pages.specs.Seen.{asked_by}
use Rattle.iv_host.proofs.PageAnswers.{answer_of-page_with}
use Rattle.iv_host.proofs.pages.answer.Goals as goal

pub returns : goal.returns
returns c =
    answer_of-page_with c.args.kind.now (option_map (λ t. t.now) c.args.tag) c.args.contents.now c.policy.result.now (asked_by c.args.ask.now) c.new-out.result.items c.push_page.new.out.items
    c.push_where.new.out.items c.in_ok-follows.follows c.new-out.ensures.items c.policy.ensures c.in_ok-follows.ensures.head c.in_ok-follows.ensures.body c.in_ok-push_where.ensures
