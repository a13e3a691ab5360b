use Rattle.std.proofs.Common.{ap, subst, sym}
use Rattle.std.specs.Prelude.{option_map}
use Rattle.iv_door.specs.Answers.{no_line, too_long}
use Rattle.iv_door.specs.Talk.{HearsLine, IsSaidBy, fails, is_long, is_none}
use Rattle.iv_door.specs.Views.{said_of}
use Rattle.iv_door.proofs.talk.Talk.hear_line.Goals as goal

pub returns-then-line-gt-MOST_LINE-clause-fault : goal.returns-then-line-gt-MOST_LINE-clause-fault
returns-then-line-gt-MOST_LINE-clause-fault c = (
  c.args.self.now,
  subst (λ n. HearsLine c.args.self.now c.args.line.now (fails (too_long n), c.args.self.now)) (sym (ap (λ t. t.lines) c.self.view_is))
      (is_long c.if-line-gt-MOST_LINE.true),
)

pub returns-in-None-clause-fault : goal.returns-in-None-clause-fault
returns-in-None-clause-fault c = (
  c.args.self.now,
  subst (λ n. HearsLine c.args.self.now c.args.line.now (fails (no_line n), c.args.self.now)) (sym (ap (λ t. t.lines) c.self.view_is))
      (is_none c.if-line-gt-MOST_LINE.false (subst (λ o. IsSaidBy c.args.line.now (option_map said_of o)) c.in-None.is c.in_ok-read_said.ensures)),
)

pub hear_said-requires-clause-said : goal.hear_said-requires-clause-said
hear_said-requires-clause-said c = subst (λ o. IsSaidBy c.args.line.now (option_map said_of o)) c.in-Some.is c.in_ok-read_said.ensures
