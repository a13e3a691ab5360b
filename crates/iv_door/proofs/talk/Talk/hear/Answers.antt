use Rattle.std.proofs.Common.{Some, subst, sym}
use Rattle.std.specs.Prelude.{option_map}
use Rattle.iv_door.specs.Talk.{Hears, Talk}
use Rattle.iv_door.specs.Views.{IsFailingBy, IsPassed, fault_of}
use Rattle.iv_door.proofs.Talks.{err_map}
use Rattle.iv_door.proofs.talk.Talk.hear.Goals as goal

pub returns-in-Some-clause-fault : goal.returns-in-Some-clause-fault
returns-in-Some-clause-fault c =
    let passed = subst (λ o. IsPassed c.args.self.now (option_map (λ l. l.items) o) c.next_line.new.self) c.in-Some.is c.in_ok-next_line.ensures in
    err_map c.hear_passed.result (λ f. (t : Talk) → IsPassed t (Some c.deref.result.now) c.next_line.new.self → IsFailingBy (Hears t) (fault_of f))
    (λ f. IsFailingBy (Hears c.args.self.now) (fault_of f))
    (λ f h. h c.args.self.now (subst (λ z. IsPassed c.args.self.now (Some z) c.next_line.new.self) (sym c.deref.ensures.value) passed))
    c.hear_passed.ensures.fault
