-- What a reader's filter lets through.
use Rattle.std.specs.Prelude.{Bool, not, ◌&&◌, ◌||◌, List}
use Rattle.std.specs.List.{list_any}
use Rattle.iv_algebra.specs.Rows.{Cells}
use Rattle.iv_algebra.specs.Shapes.{Condition}
use Rattle.iv_algebra.specs.Evaluation.{holds}
use Rattle.iv_access.specs.Rights.{Name}

-- of the policies on rows that are read, what the reader's rows have to meet
pub record Filter : Type 0 where
  pub exempt : Bool
  pub user : Name
  pub permissive : List Condition
  pub restrictive : List Condition

-- the reader is exempt, or some permissive condition holds and no restrictive one fails
abbrev pub lets_through : Filter → Cells → Bool
lets_through f row = f.exempt || (list_any (λ c. holds c f.user row) f.permissive && not (list_any (λ c. not (holds c f.user row)) f.restrictive))
