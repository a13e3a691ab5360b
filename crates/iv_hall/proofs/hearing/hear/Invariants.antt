use Rattle.std.proofs.Common.{◌≡◌, length, take}
use Rattle.std.specs.Prelude.{flat_map}
use Rattle.iv_command.specs.Views.{line_of}
use Rattle.iv_clients.specs.Kept.{holding_all}
use Rattle.iv_hall.specs.Hearing.{told_for}
use Rattle.iv_hall.specs.Saying.{IsSaying}
use Rattle.iv_hall.specs.Waiting.{CountsOn}
use Rattle.iv_hall.proofs.hearing.hear.Given as goal

abbrev pub invariant-loop-at : goal.invariant-loop-at
invariant-loop-at l = record {
  told : l.client ≡ holding_all (flat_map (told_for l.feed l.rel (line_of l.line)) (take l.at l.fn.client.subs)) l.fn.client;
  saying : IsSaying l.rel (line_of l.line) l.said;
  counted : CountsOn (length l.fn.client.unsynced) l.fn.said.waiting (length l.client.unsynced) l.said.waiting;
}
