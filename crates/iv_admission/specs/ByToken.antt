-- How many clients are there by a token.
use Rattle.std.specs.Prelude.{ℕ, List, bytes_eq, if◌then◌else◌, unwrap_or}
use Rattle.std.specs.Global.{Vec}
use Rattle.std.specs.BTreeMap.{BTreeMap, get, get_by}
use Rattle.std.specs.Ordering.{nat_cmp}
use Rattle.std.specs.Cmp.Lexicographic.{slice_cmp}

-- how many by the token of a digest: none if it has no count
abbrev pub are_by : BTreeMap (Vec ℕ) ℕ → (digest : List ℕ) → ℕ
are_by counts digest = unwrap_or (get_by (λ k. slice_cmp nat_cmp digest k.items) counts) 0

abbrev pub are_of : BTreeMap (Vec ℕ) ℕ → Vec ℕ → ℕ
are_of counts q = unwrap_or (get (λ x y. slice_cmp nat_cmp x.items y.items) counts q) 0

-- as many by this token, and by each other as many as before
abbrev pub with_count : List ℕ → ℕ → BTreeMap (Vec ℕ) ℕ → Vec ℕ → ℕ
with_count digest n counts q = if bytes_eq digest q.items then n else are_of counts q
