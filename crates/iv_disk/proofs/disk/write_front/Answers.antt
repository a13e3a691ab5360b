use Rattle.std.proofs.Common.{◌≡◌, rules}
use Rattle.std.proofs.KnownBytes.{Appends-kept, Appends-nil}
use Rattle.iv_disk.proofs.Known.{Keeps-Appends_none}
use Rattle.iv_disk.proofs.disk.write_front.Goals as goal

pub returns-in-Ok-eq0-clause-bytes : goal.returns-in-Ok-eq0-clause-bytes
returns-in-Ok-eq0-clause-bytes g c =
    let none : c.in-Ok-eq0.field-0 ≡ 0 = search rules in
    Keeps-Appends_none _ _ c.in-Ok-eq0.field-0 _ none c.in-Ok-eq0.ensures.bytes

pub returns-then-eq-clause-bytes : goal.returns-then-eq-clause-bytes
returns-then-eq-clause-bytes g c = Appends-kept _ _ _ _ (Appends-nil _) c.in-Err.ensures.bytes
