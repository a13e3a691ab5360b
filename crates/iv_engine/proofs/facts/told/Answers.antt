use Rattle.std.proofs.Common.{◌≡◌, ◌∙◌, Option, false, inl, inr, subst, sym, true}
use Rattle.std.specs.Global.{Vec}
use Rattle.std.proofs.lemmas.Result.{IfOk-weaker}
use Rattle.iv_circuit.specs.Deltas.{change_in}
use Rattle.iv_store.specs.Aside.{AreBack, all_concerned}
use Rattle.iv_store.specs.Followed.{HaveFollowedOr}
use Rattle.iv_store.specs.Store.{Store}
use Rattle.iv_store.specs.Turned.{AreReaders}
use Rattle.iv_command.specs.declared.command.Line.{Line}
use Rattle.iv_command.specs.declared.command.Reply.TheVariants.{Ok}
use Rattle.iv_engine.specs.Summed.{AreTold}
use Rattle.iv_engine.proofs.facts.told.Goals as goal

pub returns-then-sums : goal.returns-then-sums
returns-then-sums c =
    let e = c.args.store.now in
    let clash : true ≡ false → ⊥ = λ q. cc in
    IfOk-weaker c.look.result _ (λ lines. AreTold e c.args.sums lines.items c.look.new.self)
    (λ lines h. inl (record { readers = h; why = λ writes. absurd (clash (sym c.if-sums.true ∙ writes)) })) c.look.ensures

pub follow-requires-clause-open : goal.follow-requires-clause-open
follow-requires-clause-open c = c.requires.back.stored.shows

pub follow-requires-clause-there : goal.follow-requires-clause-there
follow-requires-clause-there c = c.requires.back.there

pub follow-requires-clause-ready : goal.follow-requires-clause-ready
follow-requires-clause-ready c = c.requires.ready c.if-sums.false

pub follow-requires-clause-tables : goal.follow-requires-clause-tables
follow-requires-clause-tables c = c.requires.tables c.if-sums.false

pub look-requires-in-None : goal.look-requires-in-None
look-requires-in-None c =
    let e = c.args.store.now in
    let f = subst (λ (o : Option (Vec Line)). HaveFollowedOr e (change_in c.args.sums.deltas) o c.follow.new.self) c.in-None.is c.in_ok-lines.ensures in
    subst AreBack (sym f.0) c.requires.back

pub returns-in-Some : goal.returns-in-Some
returns-in-Some c =
    let e = c.args.store.now in
    inr (c.if-sums.false, subst (λ (o : Option (Vec Line)). HaveFollowedOr e (change_in c.args.sums.deltas) o c.follow.new.self) c.in-Some.is c.in_ok-lines.ensures)

pub returns : goal.returns
returns c =
    let e = c.args.store.now in
    let f = subst (λ (o : Option (Vec Line)). HaveFollowedOr e (change_in c.args.sums.deltas) o c.follow.new.self) c.in-None.is c.in_ok-lines.ensures in
    IfOk-weaker c.look-in-None.result _ (λ lines. AreTold e c.args.sums lines.items c.look-in-None.new.self)
    (λ lines h. inl (record { readers = subst (λ (v : Store). AreReaders v (all_concerned v) Ok lines.items c.look-in-None.new.self) f.0 h; why = λ writes. f.1 })) c.look-in-None.ensures
