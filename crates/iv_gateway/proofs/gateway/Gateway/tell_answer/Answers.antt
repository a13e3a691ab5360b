use Rattle.std.proofs.Common.{◌≡◌, ◌∙◌, ◌++◌, option_map, refl, rules, subst, sym, ap}
use Rattle.std.specs.Prelude.{string_bytes}
use Rattle.iv_message.specs.Seen.{id_data}
use Rattle.iv_message.specs.Told.{answered, told_text}
use Rattle.iv_records.specs.Names.{place_text}
use Rattle.iv_gate.specs.Gate.{place_of, tells}
use Rattle.iv_arrivals.specs.Speaking.{asked_id}
use Rattle.iv_gateway.specs.Views.{IsAlive}
use Rattle.iv_gateway.proofs.AddedEntries.{placed_in-place_text}
use Rattle.iv_gateway.proofs.gateway.Gateway.tell_answer.Goals as goal

pub returns : goal.returns
returns c = λ g b.
    let client : c.asked.inside.client ≡ c.args.asked.now.client = search rules in
    let same : c.asked.inside.id.now ≡ c.args.asked.now.id = search rules in
    let id : option_map id_data c.asked.inside.id.now ≡ asked_id c.args.asked.now = ap (option_map id_data) same in
    let at : string_bytes c.in_ok-at.at ≡ place_text (place_of g c.args.holder.now) =
    c.in_ok-at.ensures ∙ placed_in-place_text g c.args.self.now c.args.holder.now c.args.holder.now b.names refl in
    let told = answered (asked_id c.args.asked.now) c.args.again (place_text (place_of g c.args.holder.now)) c.args.answer.now in
    subst (λ m. IsAlive (tells g m (answered (asked_id c.args.asked.now) c.args.again (place_text (place_of g c.args.holder.now)) c.args.answer.now)) c.tell.new.self) client
    (c.in_ok-tell.ensures g (answered (asked_id c.args.asked.now) c.args.again (place_text (place_of g c.args.holder.now)) c.args.answer.now) b
    (sym (c.deref.ensures.value ∙ (c.in_ok-push_answered.ensures
    ∙ (λ i. c.new-text.ensures.items i ++ told_text (answered (id i) c.args.again ((c.as_str.ensures.value ∙ at) i) c.args.answer.now))))))
