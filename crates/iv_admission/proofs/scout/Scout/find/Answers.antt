use Rattle.std.proofs.Common.{refl, ap, ◌∙◌, sym, subst}
use Rattle.iv_peer.specs.Socket.{Socket}
use Rattle.iv_peer.specs.Hearing.{Hears, IsHeard, IsServer, IsWaiting}
use Rattle.iv_admission.specs.Scouting.{PassesBy, nothing, no_text}
use Rattle.iv_admission.proofs.ScoutedEnds.{IsServer-PassesBy}
use Rattle.iv_admission.proofs.scout.Scout.find.Goals as goal

pub loop-init : goal.loop-init
loop-init c = (λ v. nothing, refl)

pub returns-in-Text-clause-found : goal.returns-in-Text-clause-found
returns-in-Text-clause-found c = λ v.
    let passes = c.loop.invariant.0 v in
    let serves = IsServer-PassesBy c.args.self.now.peer c.loop.self.peer v passes in
    let heard = subst (λ h. IsHeard h c.loop.self.peer c.hear.new.self) c.in-Text.is (c.in_ok-text.ensures serves) in
    (c.loop.self.peer, heard.1, passes, subst (λ o. Hears c.loop.self.peer o heard.1) heard.2 heard.3)

pub returns-in-Nothing-clause-found : goal.returns-in-Nothing-clause-found
returns-in-Nothing-clause-found c = λ v.
    let passes = c.loop.invariant.0 v in
    let serves = IsServer-PassesBy c.args.self.now.peer c.loop.self.peer v passes in
    let heard = subst (λ h. IsHeard h c.loop.self.peer c.hear.new.self) c.in-Nothing.is (c.in_ok-text.ensures serves) in
    (subst (PassesBy c.args.self.now.peer) (sym heard.1) passes, subst IsWaiting (sym heard.1) heard.0, subst IsServer (sym heard.1) serves)

pub returns-in-Over-clause-found : goal.returns-in-Over-clause-found
returns-in-Over-clause-found c = λ v.
    let passes = c.loop.invariant.0 v in
    let serves = IsServer-PassesBy c.args.self.now.peer c.loop.self.peer v passes in
    let heard = subst (λ h. IsHeard h c.loop.self.peer c.hear.new.self) c.in-Over.is (c.in_ok-text.ensures serves) in
    (subst (PassesBy c.args.self.now.peer) (sym heard.1) passes, ap (λ (z : Socket). z.over) heard.1 ∙ heard.0)

pub loop-preserved : goal.loop-preserved
loop-preserved c = (
  λ v.
      let passes = c.loop.invariant.0 v in
      let serves = IsServer-PassesBy c.args.self.now.peer c.loop.self.peer v passes in
      let heard = subst (λ h. IsHeard h c.loop.self.peer c.hear.new.self) c.in-Other.is (c.in_ok-text.ensures serves) in
      subst (PassesBy c.args.self.now.peer) (sym heard.4) (no_text c.loop.self.peer heard.1 passes (subst (λ o. Hears c.loop.self.peer o heard.1) heard.2 heard.3)),
  c.loop.invariant.1,
)
