use Rattle.std.proofs.Common.{◌∙◌, arith, refl}
use Rattle.iv_command.specs.Views.{line_of}
use Rattle.iv_command.proofs.TokenTexts.{flat_map-take_next}
use Rattle.iv_lines.specs.Texts.{line_text}
use Rattle.iv_lines.proofs.LineTexts.{flat_map-map_whole}
use Rattle.iv_lines.proofs.answers.write_lines.Goals as goal

pub loop-line-preserved : goal.loop-line-preserved
loop-line-preserved c = record {
  text = c.in_ok-push_line.ensures.text ∙ flat_map-take_next (λ x. line_text (line_of x)) c.args.lines.now c.loop-line.text.items _ c.loop-line.line-index c.line-item.result c.loop-line.invariant.text (omega arith) c.line-item.is refl;
  part = c.in_ok-push_line.ensures.part;
}

pub returns : goal.returns
returns c = flat_map-map_whole line_text line_of c.args.lines.now c.loop-line.text.items c.loop-line.line-index (omega arith) c.loop-line.invariant.text
