use Rattle.std.proofs.Common.{refl}
use Rattle.hex.specs.Hex.{decode_sized}
use Rattle.iv_records.proofs.Spelling.{digest_of_32-decode_sized}
use Rattle.iv_records.proofs.naming.digest_in.Goals as goal

pub returns-in-Ok : goal.returns-in-Ok
returns-in-Ok c =
    digest_of_32-decode_sized c.args.digits.now c.decode_to_slice.new.out c.in-Ok.field-0 (decode_sized c.args.digits.now 32) refl c.in-Ok.ensures.value
