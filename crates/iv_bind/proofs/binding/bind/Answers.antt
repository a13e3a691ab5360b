use Rattle.iv_query.specs.Trees.{query_tree}
use Rattle.iv_bind.specs.Parts.{part_of}
use Rattle.iv_bind.proofs.Whole.{IsSoundView-query_bound, IsSoundView-finished, IsTyped-IsSoundView, AreAmong-IsSoundView}
use Rattle.iv_bind.proofs.binding.bind.Goals as goal

pub finished-requires : goal.finished-requires
finished-requires c = (IsSoundView-query_bound c.args.catalog.now (query_tree c.args.tree.now) (part_of c.in_ok-part.part) c.keeps.ensures c.requires c.in_ok-part.ensures).schema

pub returns-clause-typed : goal.returns-clause-typed
returns-clause-typed c =
    let k = IsSoundView-query_bound c.args.catalog.now (query_tree c.args.tree.now) (part_of c.in_ok-part.part) c.keeps.ensures c.requires c.in_ok-part.ensures in
    IsTyped-IsSoundView c.args.catalog.now c.finished.result (IsSoundView-finished c.args.catalog.now (part_of c.in_ok-part.part) c.finished.result k c.finished.ensures)

pub returns-clause-scanned : goal.returns-clause-scanned
returns-clause-scanned c =
    let k = IsSoundView-query_bound c.args.catalog.now (query_tree c.args.tree.now) (part_of c.in_ok-part.part) c.keeps.ensures c.requires c.in_ok-part.ensures in
    AreAmong-IsSoundView c.args.catalog.now c.finished.result (IsSoundView-finished c.args.catalog.now (part_of c.in_ok-part.part) c.finished.result k c.finished.ensures)
