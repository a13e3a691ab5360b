use Rattle.std.proofs.Common.{string_bytes}
use Rattle.std.proofs.lemmas.Map.Text.{btree_map_updates_text}
use Rattle.iv_once.proofs.owns.own_put.Goals as goal

pub returns-clause-others : goal.returns-clause-others
returns-clause-others c = λ h. btree_map_updates_text (string_bytes c.args.holder) c.args.owns.now c.insert.new.self _ c.in_ok-insert.ensures.updates h
