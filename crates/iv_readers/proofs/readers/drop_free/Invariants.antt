use Rattle.std.proofs.Common.{◌≡◌, ℕ, List, false, get_or}
use Rattle.iv_readers.specs.Held.{Reading, is_read_at}
use Rattle.iv_readers.proofs.Left.{AreLeftBelow}
use Rattle.iv_readers.proofs.readers.drop_free.Given as goal

-- of the places so far those are held that some role reads
abbrev pub invariant-loop-at : goal.invariant-loop-at
invariant-loop-at l = (rs : List Reading) → ((i : ℕ) → get_or l.flags i false ≡ is_read_at rs i) → AreLeftBelow l.at rs l.fn.held l.held
