use Rattle.std.proofs.Common.{◌≡◌, ◌∙◌, ◌++◌, ◌-◌, None, ap, length, take}
use Rattle.iv_command.specs.Views.{reply_of}
use Rattle.iv_message.specs.Told.{replied, told_text}
use Rattle.iv_gate.specs.Gate.{answer_text}
use Rattle.iv_arrivals.proofs.AnswerTexts.{take-but_last}
use Rattle.iv_arrivals.proofs.asking.answer_text.Goals as goal

pub returns : goal.returns
returns c =
    let text : c.push_replied.new.text.items ≡ told_text (replied None (reply_of c.args.reply.now)) =
    c.in_ok-push_replied.ensures ∙ ap (λ z. z ++ told_text (replied None (reply_of c.args.reply.now))) c.new-text.ensures.items in
    c.pop.ensures.rest ∙ (ap (take (c.push_replied.new.text.len - 1)) text
    ∙ take-but_last (answer_text (reply_of c.args.reply.now)) 10 c.push_replied.new.text.len (c.push_replied.new.text.ok.0 ∙ ap length text))
