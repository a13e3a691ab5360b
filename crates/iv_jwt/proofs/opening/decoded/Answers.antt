use Rattle.std.proofs.Common.{sym}
use Rattle.base64.specs.Engines.{url_safe_no_pad}
use Rattle.base64.proofs.Streams.{decoded_of-ok}
use Rattle.iv_jwt.proofs.Values.{decoded-Err}
use Rattle.iv_jwt.proofs.opening.decoded.Goals as goal

pub returns-in-Ok : goal.returns-in-Ok
returns-in-Ok c = sym (decoded_of-ok url_safe_no_pad c.args.text.now c.in-Ok.bytes.items c.in-Ok.ensures.ok)

pub returns-in-Err-DecodeError : goal.returns-in-Err-DecodeError
returns-in-Err-DecodeError c =
    decoded-Err c.args.text.now c.in-Err-DecodeError.field-0-0 (rw c.in-Err-DecodeError.field-0-is at c.in-Err-DecodeError.ensures.err)
