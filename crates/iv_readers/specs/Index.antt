-- Which reader is found by its role and relation.
use Rattle.std.specs.Prelude.{◌≡◌, ℕ, ◌==◌, ◌&&◌, cond, List, Option, None, Some, option_map, position}
use Rattle.std.specs.BTreeMap.{get}
use Rattle.std.specs.Ordering.{nat_cmp, ordering_then}
use Rattle.std.specs.declared.cmp.Ordering.{Ordering}
use Rattle.iv_rows.specs.Options.{if_some}
use Rattle.iv_readers.specs.Readers.{RoleCircuit, is_for}
use Rattle.iv_readers.specs.declared.index.ReaderIndex.{ReaderIndex}

-- pairs of numbers are in order by the first, and then by the second
abbrev pub pair_cmp : (a b : ℕ × ℕ) → Ordering
pair_cmp a b = ordering_then (nat_cmp a.0 b.0) (nat_cmp a.1 b.1)

-- the place of the reader that is found
abbrev pub found_in : ReaderIndex → (role rel : ℕ) → Option ℕ
found_in index role rel = option_map (λ r. r.0) (get pair_cmp index.first (role, rel))

-- the same, and one more for the role and the relation, unless there is one
abbrev pub with_reader : (role rel place : ℕ) → ((role rel : ℕ) → Option ℕ) → (role rel : ℕ) → Option ℕ
with_reader role rel place found a b = if_some (found a b) (cond ((role == a) && (rel == b)) (Some place) None) (λ i. Some i)

-- each is the first of these that is for the role and the relation
abbrev pub IsIndexOf : List RoleCircuit → ReaderIndex → Type 0
IsIndexOf ks index = (role rel : ℕ) → found_in index role rel ≡ position (is_for role rel) ks
