-- The columns of a table or a view, and the rows that fit them.
use Rattle.std.specs.Prelude.{ℕ, ◌&&◌, Bool, true, false, not, List, [], ◌∷◌, map, length, nat_le, bytes_eq}
use Rattle.std.specs.List.{list_all, list_any}
use Rattle.iv_rows.specs.Cell.{Cell, num, text, flag}
use Rattle.iv_rows.specs.Names.{is_name}
use Rattle.iv_rows.specs.declared.value.Kind.{Kind}
use Rattle.iv_rows.specs.declared.value.Kind.TheVariants.{Int, Text, Flag}

pub record Column : Type 0 where
  pub name : List ℕ
  pub kind : Kind

abbrev pub is_kind : Kind → Cell → Bool
is_kind Int (num n) = true
is_kind Int (text t) = false
is_kind Int (flag b) = false
is_kind Text (num n) = false
is_kind Text (text t) = true
is_kind Text (flag b) = false
is_kind Flag (num n) = false
is_kind Flag (text t) = false
is_kind Flag (flag b) = true

-- as many values as kinds, each of its kind
abbrev pub accepts : List Kind → List Cell → Bool
accepts [] [] = true
accepts [] (v ∷ vs) = false
accepts (k ∷ ks) [] = false
accepts (k ∷ ks) (v ∷ vs) = is_kind k v && accepts ks vs

abbrev pub kinds_of : List Column → List Kind
kinds_of = map (λ c. c.kind)

-- 1 to 16 columns
abbrev pub is_wide : List Column → Bool
is_wide cs = nat_le 1 (length cs) && nat_le (length cs) 16

-- 1 to 16 columns, each with a name
abbrev pub has_columns : List Column → Bool
has_columns cs = is_wide cs && list_all (λ c. is_name c.name) cs

-- no name comes twice
abbrev pub has_distinct_names : List Column → Bool
has_distinct_names [] = true
has_distinct_names (c ∷ cs) = not (list_any (λ d. bytes_eq c.name d.name) cs) && has_distinct_names cs
