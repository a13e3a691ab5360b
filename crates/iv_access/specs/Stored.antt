-- What Access stores, without where it lies.
use Rattle.std.specs.Prelude.{◌≡◌, ℕ, Bool, not, List, Option, String, option_map, string_bytes}
use Rattle.std.specs.Ordering.{nat_cmp, is_lt}
use Rattle.std.specs.Cmp.Lexicographic.{slice_cmp}
use Rattle.std.specs.Global.{Global, Vec}
use Rattle.std.specs.List.{list_any}
use Rattle.iv_algebra.specs.Evaluation.{holds}
use Rattle.iv_algebra.specs.Rows.{Cells}
use Rattle.iv_algebra.specs.Shapes.{condition_of}
use Rattle.iv_algebra.specs.declared.pred.Pred.{Pred}
use Rattle.iv_rows.specs.declared.value.Kind.{Kind}
use Rattle.iv_access.specs.Access.{Relation}
use Rattle.iv_access.specs.Rights.{Name, Policy, Rights}
use Rattle.iv_access.specs.Privileges.{role_name}
use Rattle.iv_access.specs.declared.policy.Check.TheVariants.{Select}
use Rattle.iv_access.specs.Policies.{permits, forbids}

abbrev pub relation_at : String Global × Option (Vec Kind) → Relation
relation_at e = record { name = string_bytes e.0; kinds = option_map (λ ks. ks.items) e.1 }

-- the name comes before the policy's
abbrev pub is_before : Name → Policy → Bool
is_before name p = is_lt (slice_cmp nat_cmp name p.name)

-- of each row some predicate holds if some permissive policy passes it
abbrev pub ArePermissive : Rights → ℕ → List Policy → List Pred → Type 0
ArePermissive r role policies preds =
    (row : Cells) → list_any (λ p. holds (condition_of p) (role_name r role) row) preds ≡ list_any (permits r role Select row) policies

-- of each row some predicate fails if some restrictive policy fails it
abbrev pub AreRestrictive : Rights → ℕ → List Policy → List Pred → Type 0
AreRestrictive r role policies preds =
    (row : Cells) → list_any (λ p. not (holds (condition_of p) (role_name r role) row)) preds ≡ list_any (forbids r role Select row) policies
