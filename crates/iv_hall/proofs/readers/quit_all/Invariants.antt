use Rattle.std.proofs.Common.{take}
use Rattle.std.specs.Prelude.{◌==◌}
use Rattle.std.specs.List.{list_any}
use Rattle.iv_clients.specs.Clients.{Sub}
use Rattle.iv_hall.specs.Readers.{HasLeft}
use Rattle.iv_hall.proofs.readers.quit_all.Given as goal

abbrev pub invariant-loop-sub : goal.invariant-loop-sub
invariant-loop-sub l = HasLeft l.number (λ k. list_any (λ (s : Sub). k == s.feed) (take l.sub-index l.subs)) l.fn.readers.items l.readers.items
