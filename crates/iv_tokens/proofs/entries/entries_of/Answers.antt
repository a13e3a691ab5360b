use Rattle.std.proofs.Common.{rules, ◌∙◌}
use Rattle.iv_clients.specs.Tokens.{lines_of}
use Rattle.iv_tokens.specs.Entries.{entries_of}
use Rattle.iv_tokens.proofs.FileLines.{behind_entries-end, behind_entries-next, behind_entries-wrong}
use Rattle.iv_tokens.proofs.entries.entries_of.Goals as goal

pub returns-in-None : goal.returns-in-None
returns-in-None c = c.in_ok-read-in-None.ensures ∙ behind_entries-end c.loop-number.entries.items c.loop-number.rest.now (entries_of (lines_of c.args.file.now)) (search rules) c.loop-number.invariant

pub returns-then-not-branch : goal.returns-then-not-branch
returns-then-not-branch c = behind_entries-wrong c.in_ok-push_entry-in-Some.field-0 c.loop-number.entries.items c.push_entry.new.entries.items c.loop-number.rest.now c.in-Some.line.now c.in-Some.later.now (entries_of (lines_of c.args.file.now)) (search rules) c.in_ok-push_entry-in-Some.ensures c.if-not-branch.true c.loop-number.invariant

pub loop-number-preserved : goal.loop-number-preserved
loop-number-preserved c = behind_entries-next c.in_ok-push_entry-in-Some.field-0 c.loop-number.entries.items c.push_entry.new.entries.items c.loop-number.rest.now c.in-Some.line.now c.in-Some.later.now (entries_of (lines_of c.args.file.now)) (search rules) c.in_ok-push_entry-in-Some.ensures c.if-not-branch.false c.loop-number.invariant

pub returns-in_ok-read-in-None-cut_at : goal.returns-in_ok-read-in-None-cut_at
returns-in_ok-read-in-None-cut_at c = c.in_ok-read-in-None-cut_at.ensures ∙ behind_entries-end c.loop-number.entries.items c.loop-number.rest.now (entries_of (lines_of c.args.file.now)) (search rules) c.loop-number.invariant
