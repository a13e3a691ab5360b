use Rattle.std.proofs.Common.{◌≡◌, ◌++◌, map, take}
use Rattle.iv_records.specs.Journal.{request_text}
use Rattle.iv_records.specs.Parsed.{part}
use Rattle.iv_records.proofs.records.push_requests.Given as goal

abbrev pub invariant-loop-request : goal.invariant-loop-request
invariant-loop-request l = l.lines.items ≡ l.fn.lines.items ++ map (λ q. part (request_text q)) (take l.request-index l.requests)
