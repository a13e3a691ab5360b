use Rattle.std.proofs.Common.{◌≡◌}
use Rattle.serde_json.specs.View.{members_view}
use Rattle.iv_request.specs.Forms.{is_among}
use Rattle.iv_request.specs.Names.{form_seen}
use Rattle.iv_message.specs.Message.{first_failing, keys_of}
use Rattle.iv_message.proofs.reasons.first_unknown.Given as goal

abbrev pub invariant-loop-key : goal.invariant-loop-key
invariant-loop-key l =
    first_failing (is_among (keys_of (form_seen l.form))) (members_view l.members.entries)
    ≡ first_failing (is_among (keys_of (form_seen l.form))) (members_view l.key-iterator)
