use Rattle.std.proofs.Common.{refl}
use Rattle.hex.specs.Hex.{encode_with}
use Rattle.sha2.specs.Sha256.{compress, digest_bytes, first_words, hash_after, rounds, schedule, sha256}
use Rattle.iv_journal.proofs.laws.two_lines_are_written.Goals as goal

pub returns : goal.returns
unfolding encode_with first_words schedule rounds compress hash_after digest_bytes sha256
returns c = refl
