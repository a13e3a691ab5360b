use Rattle.std.proofs.Common.{◌≡◌, ◌∙◌, ap, false, subst, sym}
use Rattle.std.specs.Prelude.{Ok, Err}
use Rattle.iv_circuit.specs.Deltas.{change_in}
use Rattle.iv_store.specs.Aside.{AreBack}
use Rattle.iv_store.specs.Followed.{AreReady}
use Rattle.iv_store.specs.Store.{Store}
use Rattle.iv_engine.specs.Carried.{AreCarried, IsEmpty}
use Rattle.iv_engine.specs.Summed.{AreTold, AreWritten}
use Rattle.iv_engine.proofs.Following.{told_once, told_ready, told_taken}
use Rattle.iv_engine.proofs.Looking.{all_back, with_those_of-IsAsideOf, IsEmpty-nobody_in, IsTakenIn-AreCarried}
use Rattle.iv_engine.proofs.Summing.{AreWritten-none}
use Rattle.iv_engine.proofs.facts.take.Goals as goal

pub carry_all-requires-clause-empty : goal.carry_all-requires-clause-empty
carry_all-requires-clause-empty c = subst IsEmpty (sym c.set_aside-aside.ensures.left) (IsEmpty-nobody_in c.args.store.now)

pub carry_all-requires-clause-sums : goal.carry_all-requires-clause-sums
carry_all-requires-clause-sums c = λ writes.
    let e = c.set_aside-aside.new.self in
    let given = change_in c.new-sums.result.deltas in
    subst (λ ts. AreWritten e given ts e) (sym c.new-sums.ensures.tables) (AreWritten-none e given (λ t. ap (λ ds. change_in ds t) c.new-sums.ensures.deltas))

pub returns-in-Err-clause-taken : goal.returns-in-Err-clause-taken
returns-in-Err-clause-taken c =
    let e = c.args.store.now in
    IsTakenIn-AreCarried e c.carry_all.new.store _ c.args.facts.items c.in-Err.fault
    (subst (λ (v : Store). AreCarried v c.args.facts.items (Err c.in-Err.fault) c.carry_all.new.store) c.set_aside-aside.ensures.left c.in-Err.ensures.carried)

pub told-requires-clause-back : goal.told-requires-clause-back
told-requires-clause-back c =
    let e = c.args.store.now in
    let d = c.carry_all.new.store in
    let carried = subst (λ (v : Store). AreCarried v c.args.facts.items (Ok tt) d) c.set_aside-aside.ensures.left c.in-Ok.ensures.carried in
    subst AreBack (sym (c.bring_back.ensures ∙ with_those_of-IsAsideOf e d c.set_aside-aside.result c.set_aside-aside.ensures.aside)) (all_back e d c.args.facts.items c.requires.sound carried)

pub told-requires-clause-ready : goal.told-requires-clause-ready
told-requires-clause-ready c = λ writes.
    let e = c.args.store.now in
    let d = c.carry_all.new.store in
    let s = c.carry_all.new.sums in
    let carried = subst (λ (v : Store). AreCarried v c.args.facts.items (Ok tt) d) c.set_aside-aside.ensures.left c.in-Ok.ensures.carried in
    let sums = subst (λ (v : Store). s.others ≡ false → AreWritten v (change_in s.deltas) s.tables.items d) c.set_aside-aside.ensures.left c.in-Ok.ensures.sums in
    subst (λ (v : Store). AreReady v (change_in s.deltas)) (sym (c.bring_back.ensures ∙ with_those_of-IsAsideOf e d c.set_aside-aside.result c.set_aside-aside.ensures.aside)) (told_ready e d c.args.facts.items c.requires.sound carried s sums writes)

pub told-requires-clause-tables : goal.told-requires-clause-tables
told-requires-clause-tables c = λ writes t none. (c.in-Ok.ensures.sums writes).others t none

pub returns-clause-taken : goal.returns-clause-taken
returns-clause-taken c =
    let e = c.args.store.now in
    let d = c.carry_all.new.store in
    let s = c.carry_all.new.sums in
    let carried = subst (λ (v : Store). AreCarried v c.args.facts.items (Ok tt) d) c.set_aside-aside.ensures.left c.in-Ok.ensures.carried in
    let sums = subst (λ (v : Store). s.others ≡ false → AreWritten v (change_in s.deltas) s.tables.items d) c.set_aside-aside.ensures.left c.in-Ok.ensures.sums in
    told_taken e d c.args.facts.items c.requires.sound carried s sums c.in_ok-lines.lines c.told.new.store
    (subst (λ (v : Store). AreTold v s c.in_ok-lines.lines.items c.told.new.store) (c.bring_back.ensures ∙ with_those_of-IsAsideOf e d c.set_aside-aside.result c.set_aside-aside.ensures.aside) c.in_ok-lines.ensures)

pub returns-clause-rounds : goal.returns-clause-rounds
returns-clause-rounds c = λ writes same.
    let e = c.args.store.now in
    let d = c.carry_all.new.store in
    let s = c.carry_all.new.sums in
    let carried = subst (λ (v : Store). AreCarried v c.args.facts.items (Ok tt) d) c.set_aside-aside.ensures.left c.in-Ok.ensures.carried in
    let sums = subst (λ (v : Store). s.others ≡ false → AreWritten v (change_in s.deltas) s.tables.items d) c.set_aside-aside.ensures.left c.in-Ok.ensures.sums in
    told_once e d c.args.facts.items c.requires.sound carried s sums c.in_ok-lines.lines.items c.told.new.store
    (subst (λ (v : Store). AreTold v s c.in_ok-lines.lines.items c.told.new.store) (c.bring_back.ensures ∙ with_those_of-IsAsideOf e d c.set_aside-aside.result c.set_aside-aside.ensures.aside) c.in_ok-lines.ensures)
    (c.in-Ok.ensures.others writes ∙ c.new-sums.ensures.others) same
