use Rattle.std.proofs.Common.{ap, ◌∙◌}
use Rattle.iv_access.specs.Faults.{count_like}
use Rattle.iv_access.proofs.RelationCounts.{count_like-stored}
use Rattle.iv_access.proofs.relations.Relations.count_like.Goals as goal

pub returns : goal.returns
returns c = c.count_like.ensures ∙ count_like-stored c.args.table c.self.inside.kinds.entries ∙ ap (count_like c.args.table) c.self.view_is
