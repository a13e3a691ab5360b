-- Which roles read which relations, as one look at all subscriptions finds it.
use Rattle.std.specs.Prelude.{ℕ, Bool}
use Rattle.std.specs.BTreeSet.{contains}
use Rattle.iv_readers.specs.Index.{pair_cmp}
use Rattle.iv_store.specs.declared.reading.Read.{Read}

-- the role reads the relation
abbrev pub reads : Read → (role rel : ℕ) → Bool
reads r role rel = contains pair_cmp r.pairs (role, rel)
