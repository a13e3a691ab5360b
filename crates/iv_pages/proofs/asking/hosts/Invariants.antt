use Rattle.std.proofs.Common.{◌≡◌, drop}
use Rattle.iv_pages.specs.Asking.{hosts}
use Rattle.iv_pages.specs.Seen.{fields_of}
use Rattle.iv_pages.proofs.asking.hosts.Given as goal

abbrev pub invariant-loop-field : goal.invariant-loop-field
invariant-loop-field l = hosts l.count (fields_of l.bytes (drop l.field-index l.spans)) ≡ hosts 0 (fields_of l.bytes l.spans)
