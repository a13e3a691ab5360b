use Rattle.std.proofs.Common.{refl}
use Rattle.base64.specs.Rfc4648.{encode_symbols}
use Rattle.sha2.specs.Sha256.{compress, digest_bytes, first_words, hash_after, rounds, schedule, sha256}
use Rattle.iv_jwt.specs.Tokens.{base64url}
use Rattle.iv_jwt.proofs.laws.examples_are_signed.Goals as goal

pub returns-clause-short : goal.returns-clause-short
unfolding first_words schedule rounds compress hash_after digest_bytes sha256
returns-clause-short c = refl

pub returns-clause-token : goal.returns-clause-token
unfolding first_words schedule rounds compress hash_after digest_bytes sha256 base64url encode_symbols
returns-clause-token c = refl
