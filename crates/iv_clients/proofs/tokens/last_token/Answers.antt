use Rattle.iv_clients.proofs.Lines.{behind_tokens-last, behind_tokens-last_wrong}
use Rattle.iv_clients.proofs.tokens.last_token.Goals as goal

pub returns-then-branch : goal.returns-then-branch
returns-then-branch c = behind_tokens-last c.in_ok-push_token.field-0 c.args.tokens.items c.push_token.new.tokens.items c.args.line.now c.in_ok-push_token.ensures c.if-branch.true

pub returns-else-branch : goal.returns-else-branch
returns-else-branch c = behind_tokens-last_wrong c.in_ok-push_token.field-0 c.args.tokens.items c.push_token.new.tokens.items c.args.line.now c.in_ok-push_token.ensures c.if-branch.false
