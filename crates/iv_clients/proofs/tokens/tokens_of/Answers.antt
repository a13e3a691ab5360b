use Rattle.std.proofs.Common.{rules, ◌∙◌}
use Rattle.iv_clients.specs.Tokens.{lines_of, tokens_of}
use Rattle.iv_clients.proofs.Lines.{behind_tokens-end, behind_tokens-next, behind_tokens-wrong}
use Rattle.iv_clients.proofs.tokens.tokens_of.Goals as goal

pub returns-in-None : goal.returns-in-None
returns-in-None c = c.in_ok-read-in-None.ensures ∙ behind_tokens-end c.loop-number.tokens.items c.loop-number.rest.now (tokens_of (lines_of c.args.file.now)) (search rules) c.loop-number.invariant

pub returns-then-not-branch : goal.returns-then-not-branch
returns-then-not-branch c = behind_tokens-wrong c.in_ok-push_token-in-Some.field-0 c.loop-number.tokens.items c.push_token.new.tokens.items c.loop-number.rest.now c.in-Some.line.now c.in-Some.later.now (tokens_of (lines_of c.args.file.now)) (search rules) c.in_ok-push_token-in-Some.ensures c.if-not-branch.true c.loop-number.invariant

pub loop-number-preserved : goal.loop-number-preserved
loop-number-preserved c = behind_tokens-next c.in_ok-push_token-in-Some.field-0 c.loop-number.tokens.items c.push_token.new.tokens.items c.loop-number.rest.now c.in-Some.line.now c.in-Some.later.now (tokens_of (lines_of c.args.file.now)) (search rules) c.in_ok-push_token-in-Some.ensures c.if-not-branch.false c.loop-number.invariant

pub returns-in_ok-read-in-None-cut_at : goal.returns-in_ok-read-in-None-cut_at
returns-in_ok-read-in-None-cut_at c = c.in_ok-read-in-None-cut_at.ensures ∙ behind_tokens-end c.loop-number.tokens.items c.loop-number.rest.now (tokens_of (lines_of c.args.file.now)) (search rules) c.loop-number.invariant
