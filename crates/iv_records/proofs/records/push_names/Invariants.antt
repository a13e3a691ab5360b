use Rattle.std.proofs.Common.{◌≡◌, ◌++◌, map, take}
use Rattle.iv_records.specs.Journal.{name_text}
use Rattle.iv_records.specs.Parsed.{part}
use Rattle.iv_records.proofs.records.push_names.Given as goal

abbrev pub invariant-loop-name : goal.invariant-loop-name
invariant-loop-name l = l.lines.items ≡ l.fn.lines.items ++ map (λ n. part (name_text n)) (take l.name-index l.names)
