use Rattle.std.proofs.Common.{ap}
use Rattle.std.specs.List.{list_any}
use Rattle.std.specs.BTreeMap.{is_at}
use Rattle.iv_readers.specs.Index.{pair_cmp}
use Rattle.iv_store.proofs.reading.Read.new.Goals as goal

pub returns : goal.returns
returns c = λ role rel. ap (λ ks. list_any (is_at (pair_cmp (role, rel))) ks) c.new-pairs.ensures.empty
