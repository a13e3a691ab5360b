use Rattle.std.proofs.Common.{string_bytes}
use Rattle.std.proofs.lemmas.Str.{is_utf8-from_IsUtf8}
use Rattle.iv_records.proofs.PartsAsText.{holder_of-append}
use Rattle.iv_records.proofs.names.holder_of.Goals as goal

pub returns : goal.returns
returns c =
    holder_of-append c.args.role.now c.args.user.now (string_bytes c.in_ok-holder.holder) (string_bytes c.push_str.new.self)
    (string_bytes c.push_str-2.new.self)
    (is_utf8-from_IsUtf8 c.args.user.now c.utf8.user) c.in_ok-holder.ensures.ok c.in_ok-push_str.ensures.bytes c.in_ok-push_str-2.ensures.bytes
