use Rattle.std.proofs.Common.{◌∙◌, ap, map, sym}
use Rattle.iv_command.specs.Views.{line_of}
use Rattle.iv_store.proofs.PreparedForReaders.{flat_map-has_no_rows}
use Rattle.iv_store.proofs.lines.lines_of.Goals as goal

pub returns-then-shows_nothing : goal.returns-then-shows_nothing
returns-then-shows_nothing c = ap (map line_of) c.new-lines.ensures.items ∙ sym (flat_map-has_no_rows c.args.prepared.now (sym c.shows_nothing.ensures ∙ c.if-shows_nothing.true) c.args.readers.now)
