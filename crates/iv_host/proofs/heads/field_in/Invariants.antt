use Rattle.std.proofs.Common.{◌≡◌, drop}
use Rattle.iv_pages.specs.Asking.{field_in}
use Rattle.iv_pages.specs.Seen.{fields_of}
use Rattle.iv_host.proofs.heads.field_in.Given as goal

abbrev pub invariant-loop-field : goal.invariant-loop-field
invariant-loop-field l = field_in l.name (fields_of l.bytes l.spans) ≡ field_in l.name (fields_of l.bytes (drop l.field-index l.spans))
