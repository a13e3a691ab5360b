use Rattle.std.proofs.Common.{◌≡◌, drop}
use Rattle.std.specs.Prelude.{find, not}
use Rattle.iv_request.specs.Documents.{value_data}
use Rattle.iv_request.specs.Names.{keys_seen}
use Rattle.iv_message.specs.Message.{passes}
use Rattle.iv_message.proofs.values.first_wrong_key.Given as goal

abbrev pub invariant-loop-key : goal.invariant-loop-key
invariant-loop-key l =
    find (λ key. not (passes l.word key (value_data l.value))) (keys_seen l.keys)
    ≡ find (λ key. not (passes l.word key (value_data l.value))) (keys_seen (drop l.key-index l.keys))
