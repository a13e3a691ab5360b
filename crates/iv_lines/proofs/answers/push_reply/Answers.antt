use Rattle.std.proofs.Common.{◌∙◌, sym, ap}
use Rattle.iv_machine.specs.Act.{reply}
use Rattle.iv_command.specs.Views.{reply_of}
use Rattle.iv_command.specs.declared.command.Reply.{Reply}
use Rattle.iv_lines.specs.Parts.{done_text, subscribed_text}
use Rattle.iv_lines.specs.Texts.{line_text}
use Rattle.iv_lines.proofs.LineParts.{OnOk-append_same, done_text-line_text, subscribed_text-line_text}
use Rattle.iv_lines.proofs.answers.push_reply.Goals as goal

pub returns-in-Ok : goal.returns-in-Ok
returns-in-Ok c = OnOk-append_same c.push_done.result c.args.text.now.items (done_text c.args.session) _ c.push_done.new.text.items c.push_done.ensures (done_text-line_text c.args.session ∙ ap (λ (r : Reply). line_text (reply c.args.session (reply_of r))) (sym c.in-Ok.is))

pub returns-in-Subscribed : goal.returns-in-Subscribed
returns-in-Subscribed c = OnOk-append_same c.push_subscribed.result c.args.text.now.items (subscribed_text c.args.session c.in-Subscribed.sub) _ c.push_subscribed.new.text.items c.push_subscribed.ensures (subscribed_text-line_text c.args.session c.in-Subscribed.sub ∙ ap (λ (r : Reply). line_text (reply c.args.session (reply_of r))) (sym c.in-Subscribed.is))
