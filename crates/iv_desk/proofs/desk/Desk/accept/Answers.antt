use Rattle.std.proofs.Common.{◌≡◌, ◌∙◌, ap, sym, subst, true}
use Rattle.iv_clients.specs.Clients.{is_free}
use Rattle.iv_desk.specs.Desks.{IsBehind}
use Rattle.iv_desk.specs.Front.{begun}
use Rattle.iv_desk.proofs.DeskStates.{IsBehind-begun, IsBehind-IsDesk, is_free-IsBehind, IsDesk-IsBehind}
use Rattle.iv_desk.proofs.desk.Desk.accept.Goals as goal

pub returns-clause-begins : goal.returns-clause-begins
returns-clause-begins c = λ d b.
    let a = IsBehind-IsDesk d c.args.self.now b c.if-self.false in
    let free : is_free c.args.at c.args.self.now.places.items ≡ true = sym (c.is_free.ensures ∙ ap (is_free c.args.at) c.deref.ensures.value)
    ∙ c.if-not-is_free.false in
    IsDesk-IsBehind (begun c.args.at d) _
    (subst (IsBehind (begun c.args.at d) c.args.self.now.gateway) (sym c.put_at.ensures)
    (IsBehind-begun d c.args.at c.args.self.now.gateway c.args.self.now.places.items c.new-place.result a free c.new-place.ensures)) c.if-self.false

pub returns-clause-answer : goal.returns-clause-answer
returns-clause-answer c = λ d b alive.
    let a = IsBehind-IsDesk d c.args.self.now b c.if-self.false in
    sym c.if-not-is_free.false ∙ (c.is_free.ensures
    ∙ (ap (is_free c.args.at) c.deref.ensures.value ∙ is_free-IsBehind d c.args.at c.args.self.now.gateway c.args.self.now.places.items a))
