use Rattle.std.proofs.Common.{◌≡◌, ◌++◌, ◌∙◌, ℕ, List, ap, append_assoc}
use Rattle.std.specs.Prelude.{codes}
use Rattle.hex.specs.Hex.{encode_lower}
use Rattle.serde_json.specs.Data.{string}
use Rattle.serde_json.specs.Written.{compact_text}
use Rattle.iv_message.proofs.LineParts.{append-six}
use Rattle.iv_once.specs.Names.{Named}
use Rattle.iv_records.specs.Names.{place_text}
use Rattle.iv_records.specs.Journal.{answer_key, name_text}
use Rattle.iv_records.proofs.naming.push_name.Goals as goal

all_spelled : (o n a p b h d g r : List ℕ) → (o ++ (n ++ (a ++ p))) ++ ((b ++ h) ++ ((d ++ g) ++ r)) ≡ o ++ (n ++ (a ++ (p ++ (b ++ (h ++ (d ++ (g ++ r)))))))
all_spelled o n a p b h d g r = simp append_assoc

pub returns : goal.returns
returns c =
    let t = c.args.text.now.items in
    let ask = c.name.inside.ask in
    let place = place_text ask.at in
    let holder = compact_text (string ask.holder) in
    let digest = encode_lower ask.digest in
    let first = codes "\"once\":\"" ++ (ask.name ++ (codes "\",\"at\":\"" ++ place)) in
    let second = codes "\",\"by\":" ++ holder in
    let third = codes ",\"digest\":\"" ++ digest in
    append-six t first second third c.answer_key.result.now c.deref.result.now (codes "}")
    c.push_spelled.new.text.items c.push_holder.new.text.items c.push_digest.new.text.items
    c.extend_from_slice.new.self.items c.extend_from_slice-2.new.self.items c.extend_from_slice-3.new.self.items
    c.in_ok-push_spelled.ensures c.in_ok-push_holder.ensures c.in_ok-push_digest.ensures
    c.in_ok-extend_from_slice.ensures.items c.in_ok-extend_from_slice-2.ensures.items c.in_ok-extend_from_slice-3.ensures.items
    ∙ ((λ i. t ++ (first ++ (second ++ (third ++ (c.answer_key.ensures i ++ (c.deref.ensures.value i ++ codes "}"))))))
    ∙ (ap (λ v. t ++ v) (all_spelled (codes "\"once\":\"") ask.name (codes "\",\"at\":\"") place (codes "\",\"by\":") holder (codes ",\"digest\":\"") digest
    (answer_key c.name.inside.refused ++ (c.name.inside.answer.items ++ codes "}")))
    ∙ ap (λ (z : Named). t ++ name_text z) c.name.view_is))
