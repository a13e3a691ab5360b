use Rattle.std.proofs.Common.{◌≡◌, ◌∙◌, None, ap, false, sym, true}
use Rattle.iv_readers.specs.Index.{found_in}
use Rattle.iv_store.proofs.ReadersFound.{is_found}
use Rattle.iv_store.proofs.store.Store.reader_in.Goals as goal

pub returns : goal.returns
returns c =
    let rel = ap (λ s. s.rel) c.subscription.view_is in
    sym (c.in-Some.ensures ∙ (λ j. found_in c.args.index.now (c.role_of-role.ensures j) (rel j)) ∙ c.requires.found)

pub unreachable-requires : goal.unreachable-requires
unreachable-requires c =
    let rel = ap (λ s. s.rel) c.subscription.view_is in
    let clash : false ≡ true = is_found None _ (c.in-None.ensures ∙ (λ j. found_in c.args.index.now (c.role_of-role.ensures j) (rel j)) ∙ c.requires.found) c.requires.there in
    cc
