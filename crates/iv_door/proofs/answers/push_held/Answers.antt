use Rattle.std.proofs.Common.{◌∙◌, ap}
use Rattle.std.specs.Prelude.{◌++◌, codes, decimal}
use Rattle.iv_door.specs.Said.{Log}
use Rattle.iv_door.proofs.Texts.{joined_4}
use Rattle.iv_door.proofs.answers.push_held.Goals as goal

pub returns : goal.returns
returns c =
    let last = codes "\",\"position\":" ++ decimal c.args.position in
    let name = c.deref.ensures.value ∙ ap (λ (l : Log). l.name) c.log.view_is in
    let epoch = c.deref-2.ensures.value ∙ ap (λ (l : Log). l.epoch) c.log.view_is in
    c.in_ok-push_after.ensures
    ∙ (ap (λ z. z ++ last) c.in_ok-push_log.ensures
    ∙ ((λ i. (c.args.out.now.items ++ (codes ",\"log\":\"" ++ (name i ++ (codes "\",\"epoch\":\"" ++ epoch i)))) ++ last)
    ∙ joined_4 c.args.out.now.items (codes ",\"log\":\"") c.args.log.now.name (codes "\",\"epoch\":\"") c.args.log.now.epoch last))
