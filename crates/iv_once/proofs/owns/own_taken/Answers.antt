use Rattle.std.proofs.lemmas.Map.Text.{btree_map_updates_text}
use Rattle.iv_once.proofs.owns.own_taken.Goals as goal

pub returns-in-Some-clause-others : goal.returns-in-Some-clause-others
returns-in-Some-clause-others c = λ h. btree_map_updates_text c.args.holder.now c.args.owns.now c.remove.new.self _ c.remove.ensures.updates h
