use Rattle.std.proofs.Common.{◌∙◌, ap, subst, sym, ◌≡◌, true}
use Rattle.std.specs.List.{Contains}
use Rattle.iv_clients.specs.Clients.{client_at}
use Rattle.iv_hall.proofs.Calls.{Contains-is_due}
use Rattle.iv_hall.specs.Hall.{is_told_at}
use Rattle.iv_hall.proofs.hall.Hall.told.Goals as goal

pub returns-clause-only : goal.returns-clause-only
returns-clause-only c = λ m i. subst (λ z. is_told_at z m ≡ true) c.self.view_is (c.self.invariant.0.told.only m (subst
    (λ z. Contains z m) c.list.ensures.list i))

pub returns-clause-listed : goal.returns-clause-listed
returns-clause-listed c = λ m k there due. subst (λ z. Contains z m) (sym c.list.ensures.list)
    (Contains-is_due c.self.inside.most c.self.inside.slots.items c.self.inside.owed c.self.inside.told c.self.inside.readers.items c.self.invariant.0 m k
    (ap (λ z. client_at z m) c.self.view_is ∙ there) due)
