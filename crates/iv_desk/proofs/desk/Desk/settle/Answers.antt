use Rattle.std.proofs.Common.{◌∙◌, ◌++◌, ap, length, option_map, refl, sym, take}
use Rattle.std.proofs.Math.Seq.{take-length}
use Rattle.std.proofs.lemmas.Bool.{false≢true}
use Rattle.iv_gate.specs.Events.{synced}
use Rattle.iv_desk.specs.Front.{by_event, offered}
use Rattle.iv_desk.proofs.DeskStates.{IsCalledOut-IsCalledBehind, IsBehind-IsDesk, IsBehind-by_event}
use Rattle.iv_desk.proofs.desk.Desk.settle.Goals as goal

pub returns-in-Ok-offer_told-clause-front : goal.returns-in-Ok-offer_told-clause-front
returns-in-Ok-offer_told-clause-front g c = λ d b.
    let a = IsBehind-IsDesk d c.args.self.now b c.if-self.false in
    IsCalledOut-IsCalledBehind offered (by_event synced d) _
    (c.in-Ok-offer_told.ensures (by_event synced d)
    (IsBehind-by_event c.events_leave_their_marks.ensures.marks d synced tt c.args.self.now.gateway c.settle.new.self c.args.self.now.places.items a
    (c.in-Ok.ensures.gate d.gate a.gate) refl))
    c.if-self.false

pub returns-then-self-clause-torn : goal.returns-then-self-clause-torn
returns-then-self-clause-torn g c = λ d b alive. absurd (false≢true (sym alive ∙ (sym b.dead ∙ c.if-self.true)))

pub returns-in-Err-clause-torn : goal.returns-in-Err-clause-torn
returns-in-Err-clause-torn g c = λ d b alive.
    let t = c.in-Err.ensures.torn in (
      t.0,
      t.1 ∙ ap (λ z. option_map (λ ls. ls ++ take t.0 z) (g.J.Journal.kept c.args.journal.now))
          ((IsBehind-IsDesk d c.args.self.now b c.if-self.false).gate.alive alive).pending.lines,
    )

pub returns-in-Err-offer_told-clause-torn : goal.returns-in-Err-offer_told-clause-torn
returns-in-Err-offer_told-clause-torn g c = λ d b alive.
    let n = length c.args.self.now.gateway.pending.items in (
      n,
      c.in-Ok.ensures.kept
          ∙ (ap (λ z. option_map (λ ls. ls ++ z) (g.J.Journal.kept c.args.journal.now)) (sym (take-length c.args.self.now.gateway.pending.items))
          ∙ ap (λ z. option_map (λ ls. ls ++ take n z) (g.J.Journal.kept c.args.journal.now))
          ((IsBehind-IsDesk d c.args.self.now b c.if-self.false).gate.alive alive).pending.lines),
    )
