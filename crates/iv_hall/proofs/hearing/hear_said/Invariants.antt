use Rattle.std.proofs.Common.{◌≡◌, take}
use Rattle.iv_command.specs.Views.{line_of}
use Rattle.iv_hall.specs.Hearing.{hearing_for}
use Rattle.iv_hall.specs.Listing.{walked}
use Rattle.iv_hall.specs.Saying.{IsSaying}
use Rattle.iv_hall.specs.Waiting.{CountsOn, bytes_waiting}
use Rattle.iv_hall.proofs.hearing.hear_said.Given as goal

abbrev pub invariant-loop-number : goal.invariant-loop-number
invariant-loop-number l = record {
  saying : IsSaying l.rel (line_of l.line) l.said;
  slots : l.clients.items ≡ walked (hearing_for l.feed l.rel (line_of l.line)) (take l.number-index l.numbers) l.fn.clients.items;
  counted : CountsOn (bytes_waiting l.fn.clients.items) l.fn.said.waiting (bytes_waiting l.clients.items) l.said.waiting;
}
