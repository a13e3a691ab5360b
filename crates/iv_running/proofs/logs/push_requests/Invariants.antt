use Rattle.std.proofs.Common.{◌≡◌, ◌++◌, take}
use Rattle.iv_running.specs.Logs.{recalled_in}
use Rattle.iv_running.proofs.logs.push_requests.Given as goal

abbrev pub invariant-loop-line : goal.invariant-loop-line
invariant-loop-line l = l.out.items ≡ l.fn.out.items ++ recalled_in (take l.line-index l.lines)
