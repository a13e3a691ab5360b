use Rattle.std.proofs.Common.{subst}
use Rattle.std.proofs.lemmas.Result.{IfOk-weaker}
use Rattle.iv_readers.specs.Index.{IsIndexOf}
use Rattle.iv_store.specs.Store.{Store}
use Rattle.iv_store.proofs.ReadersFound.{all_found}
use Rattle.iv_store.proofs.store.Store.index.Goals as goal

pub returns : goal.returns
returns c =
    let e = c.args.self.now in
    IfOk-weaker c.index.result _ _ (λ x is. all_found e x (subst (λ (v : Store). IsIndexOf v.circuits x) c.self.view_is is) e.subscriptions c.requires.open c.requires.there) c.index.ensures
