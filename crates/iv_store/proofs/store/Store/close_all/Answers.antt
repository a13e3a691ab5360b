use Rattle.std.proofs.Common.{◌∙◌, ap, subst, sym}
use Rattle.iv_store.specs.Store.{store_of, IsSoundStore}
use Rattle.iv_store.proofs.HangUps.{IsSoundStore-without_sessions, without_sessions}
use Rattle.iv_store.proofs.store.Store.close_all.Goals as goal

pub returns-clause-sound : goal.returns-clause-sound
returns-clause-sound c = λ h. let x = c.self.inside in subst IsSoundStore (sym (
    (λ i. store_of (c.end_sessions.ensures i) (c.clear.ensures.items i) (c.new.ensures i) x.last)
    ∙ ap without_sessions c.self.view_is)) (IsSoundStore-without_sessions c.args.self.now h)
