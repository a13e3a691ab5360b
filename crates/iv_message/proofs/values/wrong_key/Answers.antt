use Rattle.std.proofs.Common.{rules, not}
use Rattle.std.specs.Prelude.{codes}
use Rattle.iv_request.specs.Documents.{value_data}
use Rattle.iv_request.specs.Names.{keys_seen}
use Rattle.iv_message.specs.Message.{passes}
use Rattle.iv_message.proofs.FirstKey.{unwrap_or-find_first, unwrap_or-find_second, unwrap_or-find_neither}
use Rattle.iv_message.proofs.values.wrong_key.Goals as goal

pub returns-in-Some : goal.returns-in-Some
returns-in-Some c =
    let f = c.args.form.now in
    unwrap_or-find_first (λ key. not (passes f.word key (value_data c.args.value.now))) (keys_seen f.required.now) (keys_seen f.optional.now) c.in-Some.key.now (codes "do") (search rules)

pub returns-in-Some-2 : goal.returns-in-Some-2
returns-in-Some-2 c =
    let f = c.args.form.now in
    unwrap_or-find_second (λ key. not (passes f.word key (value_data c.args.value.now))) (keys_seen f.required.now) (keys_seen f.optional.now) c.in-Some-2.key.now (codes "do") (search rules) (search rules)

pub returns-in-None : goal.returns-in-None
returns-in-None c =
    let f = c.args.form.now in
    unwrap_or-find_neither (λ key. not (passes f.word key (value_data c.args.value.now))) (keys_seen f.required.now) (keys_seen f.optional.now) (codes "do") (search rules) (search rules)
