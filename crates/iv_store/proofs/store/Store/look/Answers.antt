use Rattle.std.proofs.Common.{◌≡◌, ◌∙◌, Bool, List, false, subst, sym, true}
use Rattle.iv_readers.specs.Each.{Each}
use Rattle.iv_store.specs.Turned.{IsOther}
use Rattle.iv_store.proofs.ListPairs.{Each-map}
use Rattle.iv_store.proofs.store.Store.look.Goals as goal

pub tell-requires-clause-waiting : goal.tell-requires-clause-waiting
tell-requires-clause-waiting c =
    let e = c.args.self.now in
    let clash : true ≡ false → ⊥ = λ q. cc in
    record {
      stored = c.requires.stored;
      shown = c.requires.shown;
      were = λ still. absurd (clash still);
      others = subst (Each (IsOther e) e.circuits) (sym (c.deref.ensures.value ∙ c.in_ok-concerned.ensures)) (Each-map (IsOther e) (λ k. true) e.circuits (λ k off. absurd (clash off)));
      there = c.requires.there;
    }
