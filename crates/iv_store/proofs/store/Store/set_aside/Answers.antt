use Rattle.std.proofs.Common.{◌≡◌, ◌∙◌, [], ap, subst, sym}
use Rattle.std.specs.Global.{Vec}
use Rattle.iv_machine.specs.State.{Subscription}
use Rattle.iv_store.specs.Aside.{nobody_in}
use Rattle.iv_store.specs.Store.{IsSoundStore, store_of}
use Rattle.iv_store.proofs.HangUps.{IsSoundStore-nobody_in}
use Rattle.iv_store.proofs.store.Store.set_aside.Goals as goal

pub returns-clause-left : goal.returns-clause-left
returns-clause-left c =
    let subscriptions : c.replace-subscriptions.new.dest.items ≡ [] = ap (λ (v : Vec Subscription). v.items) c.replace-subscriptions.ensures.after ∙ c.new.ensures.items in
    let circuits : c.replace-circuits.new.dest ≡ [] = c.replace-circuits.ensures.after ∙ c.new-2.ensures in
    (λ i. store_of (c.take_sessions-sessions.ensures.left i) (subscriptions i) (circuits i) (c.replace-last.ensures.after i)) ∙ ap nobody_in c.self.view_is

pub returns-clause-sound : goal.returns-clause-sound
returns-clause-sound c = λ h. subst IsSoundStore (sym (returns-clause-left c)) (IsSoundStore-nobody_in c.args.self.now h)
