use Rattle.iv_gate.proofs.LedEntries.{DecidesNext-after}
use Rattle.iv_gate.proofs.NextEntries.{AddsNext-message}
use Rattle.iv_gate.proofs.laws.journal.messages_are_next_steps.Goals as goal

pub returns-clause-one : goal.returns-clause-one
returns-clause-one c = AddsNext-message

pub returns-clause-led : goal.returns-clause-led
returns-clause-led c = DecidesNext-after
