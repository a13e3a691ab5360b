use Rattle.iv_engine.proofs.SoundStates.{IsSoundEngine-hung}
use Rattle.std.proofs.Common.{◌∙◌, ap, rules, subst, sym}
use Rattle.iv_store.specs.Engine.{Engine, IsBehind, hung_up}
use Rattle.iv_store.proofs.HangUps.{IsBehind-hung_up, shown_by-without_sessions}
use Rattle.iv_engine.proofs.engine.Engine.hang_up.Goals as goal

pub returns-then-not-self-clause-hung : goal.returns-then-not-self-clause-hung
returns-then-not-self-clause-hung c = λ _ s b. IsBehind-hung_up s _ _
    (shown_by-without_sessions c.self.inside.store c.close_all.new.self c.self.inside.failed c.close_all.ensures.closed)
    (subst (λ (e : Engine). IsBehind s e) (sym c.self.view_is) b)

pub returns-then-not-self-clause-closed : goal.returns-then-not-self-clause-closed
returns-then-not-self-clause-closed c = λ _. shown_by-without_sessions c.self.inside.store c.close_all.new.self c.self.inside.failed c.close_all.ensures.closed ∙ ap hung_up c.self.view_is

pub returns-else-not-self-clause-failed_unchanged : goal.returns-else-not-self-clause-failed_unchanged
returns-else-not-self-clause-failed_unchanged c = search rules

pub returns-then-not-self-clause-sound : goal.returns-then-not-self-clause-sound
returns-then-not-self-clause-sound c = λ h. IsSoundEngine-hung c.args.self.now _ (λ s b. IsBehind-hung_up s _ _
    (shown_by-without_sessions c.self.inside.store c.close_all.new.self c.self.inside.failed c.close_all.ensures.closed)
    (subst (λ (e : Engine). IsBehind s e) (sym c.self.view_is) b)) h
