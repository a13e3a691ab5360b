use Rattle.std.proofs.Common.{◌≡◌, take}
use Rattle.std.specs.Prelude.{flat_map}
use Rattle.iv_command.specs.Views.{line_of}
use Rattle.iv_lines.specs.Parts.{IsPart}
use Rattle.iv_lines.specs.Texts.{line_text}
use Rattle.iv_lines.proofs.answers.write_lines.Given as goal

abbrev pub invariant-loop-line : goal.invariant-loop-line
invariant-loop-line l = record {
  text : l.text.items ≡ flat_map (λ x. line_text (line_of x)) (take l.line-index l.lines);
  part : IsPart l.part;
}
