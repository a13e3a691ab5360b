use Rattle.std.proofs.Common.{◌≡◌, rules, subst, true}
use Rattle.iv_command.specs.Views.{act_of}
use Rattle.iv_message.specs.Told.{answered}
use Rattle.iv_records.specs.Names.{place_text}
use Rattle.iv_once.specs.Names.{again, ahead, another, carry, foreign, late, over}
use Rattle.iv_gate.specs.Gate.{place_of, tells}
use Rattle.iv_arrivals.specs.Speaking.{asked_id, request_of}
use Rattle.iv_gateway.specs.Views.{IsAlive}
use Rattle.iv_gateway.proofs.HeardMessages.{IsAlive-by_verdict, IsAlive-left, verdict_of-IsAlive}
use Rattle.iv_gateway.proofs.gateway.Gateway.ask_named.Goals as goal

pub returns-in_ok-decide-in-Carry : goal.returns-in_ok-decide-in-Carry
returns-in_ok-decide-in-Carry c = λ g b.
    IsAlive-by_verdict g c.args.asked.now.client (asked_id c.args.asked.now) (request_of c.args.asked.now (act_of c.args.act)) c.args.ask carry _
    (verdict_of-IsAlive g c.args.ask _ _ c.args.self.now c.in-Carry.is c.in_ok-verdict.ensures b) (c.in_ok-decide-in-Carry.ensures g b)

pub returns-in_ok-tell_answer-in-Again : goal.returns-in_ok-tell_answer-in-Again
returns-in_ok-tell_answer-in-Again c = λ g b.
    IsAlive-by_verdict g c.args.asked.now.client (asked_id c.args.asked.now) (request_of c.args.asked.now (act_of c.args.act)) c.args.ask (again c.in-Again.answer.items) _
    (verdict_of-IsAlive g c.args.ask _ _ c.args.self.now c.in-Again.is c.in_ok-verdict.ensures b)
    (let holder : c.as_str.result.now ≡ c.args.ask.holder = search rules in
    subst (λ z. IsAlive z c.tell_answer.new.self)
    (λ i. tells g c.args.asked.now.client (answered (asked_id c.args.asked.now) true (place_text (place_of g (holder i))) (c.deref.ensures.value i)))
    (c.in_ok-tell_answer-in-Again.ensures g b))

pub returns-in_ok-leave-in-Another : goal.returns-in_ok-leave-in-Another
returns-in_ok-leave-in-Another c = λ g b.
    IsAlive-by_verdict g c.args.asked.now.client (asked_id c.args.asked.now) (request_of c.args.asked.now (act_of c.args.act)) c.args.ask another _
    (verdict_of-IsAlive g c.args.ask _ _ c.args.self.now c.in-Another.is c.in_ok-verdict.ensures b) (c.in_ok-leave-in-Another.ensures g b)

pub returns-in_ok-leave-in-Late : goal.returns-in_ok-leave-in-Late
returns-in_ok-leave-in-Late c = λ g b.
    IsAlive-by_verdict g c.args.asked.now.client (asked_id c.args.asked.now) (request_of c.args.asked.now (act_of c.args.act)) c.args.ask late _
    (verdict_of-IsAlive g c.args.ask _ _ c.args.self.now c.in-Late.is c.in_ok-verdict.ensures b) (c.in_ok-leave-in-Late.ensures g b)

pub returns-in_ok-leave-in-Foreign : goal.returns-in_ok-leave-in-Foreign
returns-in_ok-leave-in-Foreign c = λ g b.
    IsAlive-by_verdict g c.args.asked.now.client (asked_id c.args.asked.now) (request_of c.args.asked.now (act_of c.args.act)) c.args.ask foreign _
    (verdict_of-IsAlive g c.args.ask _ _ c.args.self.now c.in-Foreign.is c.in_ok-verdict.ensures b)
    (IsAlive-left g c.args.asked.now.client (asked_id c.args.asked.now) _ _ _ (c.number_here-number.ensures g b) (c.in_ok-leave-in-Foreign.ensures g b))

pub returns-in_ok-leave-in-Ahead : goal.returns-in_ok-leave-in-Ahead
returns-in_ok-leave-in-Ahead c = λ g b.
    IsAlive-by_verdict g c.args.asked.now.client (asked_id c.args.asked.now) (request_of c.args.asked.now (act_of c.args.act)) c.args.ask ahead _
    (verdict_of-IsAlive g c.args.ask _ _ c.args.self.now c.in-Ahead.is c.in_ok-verdict.ensures b)
    (IsAlive-left g c.args.asked.now.client (asked_id c.args.asked.now) _ _ _ (c.number_here-number-in-Ahead.ensures g b) (c.in_ok-leave-in-Ahead.ensures g b))

pub returns-in_ok-leave-in-Over : goal.returns-in_ok-leave-in-Over
returns-in_ok-leave-in-Over c = λ g b.
    IsAlive-by_verdict g c.args.asked.now.client (asked_id c.args.asked.now) (request_of c.args.asked.now (act_of c.args.act)) c.args.ask over _
    (verdict_of-IsAlive g c.args.ask _ _ c.args.self.now c.in-Over.is c.in_ok-verdict.ensures b)
    (IsAlive-left g c.args.asked.now.client (asked_id c.args.asked.now) _ _ _ (c.number_here-number-in-Over.ensures g b) (c.in_ok-leave-in-Over.ensures g b))
