use Rattle.iv_tokens.proofs.FileLines.{behind_entries-last, behind_entries-last_wrong}
use Rattle.iv_tokens.proofs.entries.last_entry.Goals as goal

pub returns-then-branch : goal.returns-then-branch
returns-then-branch c = behind_entries-last c.in_ok-push_entry.field-0 c.args.entries.items c.push_entry.new.entries.items c.args.line.now c.in_ok-push_entry.ensures c.if-branch.true

pub returns-else-branch : goal.returns-else-branch
returns-else-branch c = behind_entries-last_wrong c.in_ok-push_entry.field-0 c.args.entries.items c.push_entry.new.entries.items c.args.line.now c.in_ok-push_entry.ensures c.if-branch.false
