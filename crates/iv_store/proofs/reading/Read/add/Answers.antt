use Rattle.std.proofs.Common.{◌∙◌, ap, cond, true}
use Rattle.iv_readers.proofs.ReaderIndexes.{is_eq-pair_cmp}
use Rattle.iv_store.specs.Reading.{reads}
use Rattle.iv_store.proofs.ReadersFound.{reads-more}
use Rattle.iv_store.proofs.reading.Read.add.Goals as goal

pub returns : goal.returns
returns c = λ a b.
    let old = reads c.args.self.now a b in
    c.in_ok-insert.ensures.updates.0 (a, b) ∙ ap (λ t. cond t true old) (is_eq-pair_cmp c.args.role.0 c.args.rel.0 a b) ∙ reads-more _ old
