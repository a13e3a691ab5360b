use Rattle.std.proofs.Common.{◌≡◌, ◌∙◌, true, false, ap, subst, sym}
use Rattle.iv_database.specs.Stands.{Stands}
use Rattle.iv_store.specs.Answering.{seen}
use Rattle.iv_store.specs.Engine.{Engine}
use Rattle.iv_engine.specs.Stepped.{AreCountedOnce}
use Rattle.iv_store.specs.Store.{frame_of}
use Rattle.iv_engine.proofs.Given.{IsSoundEngine-TakesStep}
use Rattle.iv_engine.specs.declared.facts.StepFault.TheVariants.{Failed}
use Rattle.iv_engine.proofs.Looking.{not_Failed-IsTakenIn, RefusesStep-IsTakenIn}
use Rattle.iv_engine.proofs.engine.Engine.step.Goals as goal

pub returns-in-Ok-clause-taken : goal.returns-in-Ok-clause-taken
returns-in-Ok-clause-taken c = λ s b.
    let frame : s.frame ≡ frame_of c.self.inside.store = b.frame ∙ ap (λ (v : Engine). v.frame) (sym c.self.view_is) in
    let rows = subst (λ (v : Engine). Stands s.rows v.tables) (sym c.self.view_is) b.rows in
    let k = c.in-Ok.ensures.taken.1 s (record { frame = frame; rows = rows }) in
    record { outcome = k.outcome; is = k.is; told = k.told; left = record { frame = k.left.frame; rows = k.left.rows } }

pub returns-in-Ok-clause-sound : goal.returns-in-Ok-clause-sound
returns-in-Ok-clause-sound c = λ g h. IsSoundEngine-TakesStep c.args.self.now _ c.args.facts.items _ g (returns-in-Ok-clause-taken c) h

pub returns-in-Err-clause-refused : goal.returns-in-Err-clause-refused
returns-in-Err-clause-refused c =
    RefusesStep-IsTakenIn c.self.inside.store c.args.self.now _ c.args.facts.items
    (λ s b. record { frame = b.frame ∙ ap (λ (v : Engine). v.frame) (sym c.self.view_is); rows = subst (λ (v : Engine). Stands s.rows v.tables) (sym c.self.view_is) b.rows })
    c.in-Err.fault c.in-Err.ensures.taken

pub returns-in-Err-clause-failed : goal.returns-in-Err-clause-failed
returns-in-Err-clause-failed c =
    let on : c.args.self.now.failed ≡ false = sym c.is_failed.ensures.failed ∙ c.if-is_failed.false in (
      (λ is. absurd (not_Failed-IsTakenIn c.self.inside.store _ c.args.facts.items c.in-Err.fault c.in-Err.ensures.taken (let e : c.in-Err.fault ≡ Failed = cc in e))),
      (λ off. let no : true ≡ false = sym off ∙ on in cc),
    )

pub returns-in-Ok-clause-rounds : goal.returns-in-Ok-clause-rounds
returns-in-Ok-clause-rounds c = λ writes same.
    let e = seen c.self.inside.store in
    let new = seen c.take.new.store in
    let on : c.self.inside.failed ≡ false = ap (λ (v : Engine). v.failed) c.self.view_is ∙ sym c.is_failed.ensures.failed ∙ c.if-is_failed.false in
    subst (λ (v : Engine). AreCountedOnce v (record new { failed = c.self.inside.failed })) c.self.view_is
    (subst (λ b. AreCountedOnce (record e { failed = b }) (record new { failed = b })) (sym on) (c.in-Ok.ensures.rounds writes (same ∙ ap (λ (v : Engine). v.frame.subscriptions) (sym c.self.view_is))))
