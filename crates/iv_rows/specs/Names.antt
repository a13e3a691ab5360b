-- Names of roles, relations and columns, as bytes.
use Rattle.std.specs.Prelude.{ℕ, ◌==◌, ◌&&◌, ◌||◌, Bool, false, not, List, [], ◌∷◌, length, nat_le, bytes_eq, codes}
use Rattle.std.specs.List.{list_all, list_any}

-- a to z or an underscore
abbrev pub is_first : ℕ → Bool
is_first b = (nat_le 97 b && nat_le b 122) || (b == 95)

-- one of these or a digit
abbrev pub is_further : ℕ → Bool
is_further b = is_first b || (nat_le 48 b && nat_le b 57)

abbrev pub begins_well : List ℕ → Bool
begins_well [] = false
begins_well (b ∷ bs) = is_first b

-- the words of queries that are never names
unfoldable pub reserved : List (List ℕ)
reserved =
    codes "all" ∷ codes "and" ∷ codes "as" ∷ codes "between" ∷ codes "by" ∷ codes "case" ∷ codes "cast" ∷ codes "count"
    ∷ codes "cross" ∷ codes "current_user" ∷ codes "distinct" ∷ codes "except" ∷ codes "exists" ∷ codes "false"
    ∷ codes "fetch" ∷ codes "for" ∷ codes "from" ∷ codes "full" ∷ codes "group" ∷ codes "having" ∷ codes "in"
    ∷ codes "inner" ∷ codes "intersect" ∷ codes "is" ∷ codes "join" ∷ codes "left" ∷ codes "like" ∷ codes "limit"
    ∷ codes "natural" ∷ codes "not" ∷ codes "null" ∷ codes "offset" ∷ codes "on" ∷ codes "or" ∷ codes "order"
    ∷ codes "outer" ∷ codes "public" ∷ codes "right" ∷ codes "select" ∷ codes "sum" ∷ codes "true" ∷ codes "union"
    ∷ codes "using" ∷ codes "where" ∷ codes "window" ∷ codes "with" ∷ []

abbrev pub is_reserved : List ℕ → Bool
is_reserved s = list_any (λ word. bytes_eq word s) reserved

abbrev pub is_name : List ℕ → Bool
is_name s = begins_well s && (list_all is_further s && (nat_le (length s) 63 && not (is_reserved s)))
