use Rattle.std.proofs.Common.{◌∙◌, ◌++◌, sym, ap}
use Rattle.json.specs.Value.{value_view}
use Rattle.json.proofs.Trees.{view-Object}
use Rattle.iv_request.specs.Documents.{data_of}
use Rattle.iv_request.specs.Forms.{is_among, has_only}
use Rattle.iv_request.specs.Names.{keys_seen}
use Rattle.iv_request.proofs.Keys.{list_all-keys_pass}
use Rattle.iv_request.proofs.forms.has_only.Goals as goal

pub returns-in-Object : goal.returns-in-Object
returns-in-Object c =
    let keys = keys_seen c.args.first.now ++ (keys_seen c.args.second.now ++ keys_seen c.args.third.now) in
    c.are_in.ensures ∙ list_all-keys_pass (is_among keys) c.in-Object.members.items
    ∙ ap (λ j. has_only keys (data_of j)) (sym (ap value_view c.in-Object.is ∙ view-Object c.in-Object.members))
