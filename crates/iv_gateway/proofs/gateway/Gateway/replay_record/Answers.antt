use Rattle.std.proofs.Common.{◌∙◌, List, drop, option_map, ap, refl, subst, sym}
use Rattle.iv_records.specs.Journal.{Entry}
use Rattle.iv_journal.specs.Journal.{Line}
use Rattle.iv_gateway.specs.Replays.{IsReplayed}
use Rattle.iv_gateway.proofs.JournalReplays.{IsEntry-record_in, IsReplaying-scratch, IsRecordReplayed-false, IsRecordReplayed-IsReplayed, IsRecordReplayed-None}
use Rattle.iv_gateway.proofs.gateway.Gateway.replay_record.Goals as goal

pub replay_entry-requires : goal.replay_entry-requires
replay_entry-requires c =
    IsEntry-record_in c.records_are_read_back.ensures c.args.lines.now (drop c.in-Some.count c.args.lines.now) c.in-Some.entry
    (sym (ap (option_map {U = Entry × List Line} (λ p. (p.0, drop p.1 c.args.lines.now))) c.in-Some.is) ∙ c.in_ok-read_record.ensures.read)

pub returns-in-None-clause-replayed : goal.returns-in-None-clause-replayed
returns-in-None-clause-replayed c = λ g es w.
    IsRecordReplayed-None c.records_are_read_back.ensures g es c.args.lines.now c.args.self.now
    (sym (ap (option_map {U = Entry × List Line} (λ p. (p.0, drop p.1 c.args.lines.now))) c.in-None.is) ∙ c.in_ok-read_record.ensures.read)

pub returns-then-branch-clause-replayed : goal.returns-then-branch-clause-replayed
returns-then-branch-clause-replayed c = λ g es w.
    let r = c.in_ok-replay_entry-in-Some.ensures g es (IsReplaying-scratch g es c.args.self.now _ refl w) in
    IsRecordReplayed-IsReplayed c.records_are_read_back.ensures g es c.args.lines.now c.in-Some.entry c.in-Some.count c.replay_entry.new.self
    (sym (ap (option_map {U = Entry × List Line} (λ p. (p.0, drop p.1 c.args.lines.now))) c.in-Some.is) ∙ c.in_ok-read_record.ensures.read)
    (rw c.in-Some.is at c.in_ok-read_record.ensures.within)
    (subst (λ b. IsReplayed g es c.in-Some.entry b c.replay_entry.new.self) c.if-branch.true r)

pub returns-else-branch-clause-replayed : goal.returns-else-branch-clause-replayed
returns-else-branch-clause-replayed c = λ g es w.
    let r = c.in_ok-replay_entry-in-Some.ensures g es (IsReplaying-scratch g es c.args.self.now _ refl w) in
    IsRecordReplayed-false c.records_are_read_back.ensures g es c.args.lines.now (drop c.in-Some.count c.args.lines.now) c.in-Some.entry c.replay_entry.new.self c.args.self.now
    (sym (ap (option_map {U = Entry × List Line} (λ p. (p.0, drop p.1 c.args.lines.now))) c.in-Some.is) ∙ c.in_ok-read_record.ensures.read)
    (subst (λ b. IsReplayed g es c.in-Some.entry b c.replay_entry.new.self) c.if-branch.false r)
