use Rattle.std.proofs.Common.{◌≡◌, drop, map}
use Rattle.iv_machine.specs.Refusing.{entry_check, first}
use Rattle.iv_database.specs.Database.{frame_of}
use Rattle.iv_database.proofs.database.Database.check_rows.Given as goal

abbrev pub invariant-loop-test : goal.invariant-loop-test
invariant-loop-test l = first (map (λ t. entry_check (frame_of l.self) l.acting.0 l.number l.entry.name (t.0, t.1.now)) l.tests) ≡ first (map (λ t. entry_check (frame_of l.self) l.acting.0 l.number l.entry.name (t.0, t.1.now)) (drop l.test-index l.tests))
