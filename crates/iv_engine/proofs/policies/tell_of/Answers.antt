use Rattle.std.proofs.Common.{rules}
use Rattle.iv_engine.proofs.policies.tell_of.Goals as goal

pub tell_readers-requires-clause-waiting : goal.tell_readers-requires-clause-waiting
tell_readers-requires-clause-waiting c = search rules

pub tell_readers-requires-clause-within : goal.tell_readers-requires-clause-within
tell_readers-requires-clause-within c = search rules

pub returns : goal.returns
returns c = search rules
