use Rattle.iv_journal.proofs.Digests.{DigestsTell-digest_of}
use Rattle.iv_journal.proofs.laws.digests_tell_all_lines.Goals as goal

pub returns : goal.returns
returns c = DigestsTell-digest_of
