-- Worked examples of views.
use Rattle.std.specs.Prelude.{ℕ, ◌^◌, pos, negsuc, true, false, List, [], ◌∷◌, ◌++◌, codes, Some, None}
use Rattle.iv_rows.specs.Cell.{text}
use Rattle.iv_query.specs.declared.fault.Why.TheVariants as reading
use Rattle.iv_bind.specs.declared.fault.BindWhy.TheVariants as binding
use Rattle.iv_bind.specs.BoundTexts.{Reading, Binding}
use Rattle.iv_access.specs.declared.privilege.Privilege.TheVariants.{Select}
use Rattle.iv_access.specs.Rights.{Name}
use Rattle.iv_machine.specs.Act.{begin, create_role, create_table, create_view, create_policy, drop_policy, grant, row_security, write, insert, delete, bad_query, limit, change, ended}
use Rattle.iv_machine.specs.State.{State, start}
use Rattle.tests_machine.specs.Worked.{Steps, Row, admin, many, after_steps, asks, least_cap, fails, opens, one, two, int, entry, put, take, policy, restrictive, column, ann, bob, notes, of_ann}
use Rattle.iv_machine.specs.declared.Cause.TheVariants as cause

-- ---- groups

abbrev pub sums : Name
sums = codes "sums"

abbrev pub sums_text : List ℕ
sums_text = codes "select who, sum(id) as s, count(*) as n from notes where id < 100 group by who"

-- ann's sum and count
abbrev pub group_of : ℕ → ℕ → Row
group_of s n = text ann ∷ int s ∷ int n ∷ []

-- after `first`
abbrev pub grouped_sums : Steps
grouped_sums =
    asks 1 (create_view sums admin sums_text) []
    ∷ asks 1 (grant sums (Select ∷ []) (Some ann)) []
    ∷ opens 2 sums 2 (change 2 2 ((group_of 1 1, pos 1) ∷ []) ∷ [])
    ∷ asks 1 (put notes (of_ann 4)) (change 2 1 ((of_ann 4, pos 1) ∷ []) ∷ change 2 2 ((group_of 1 1, negsuc 0) ∷ (group_of 5 2, pos 1) ∷ []) ∷ [])
    ∷ asks 1 (write (entry notes (delete (of_ann 4)) ∷ entry notes (delete (of_ann 1)) ∷ []))
    (change 2 1 ((of_ann 1, negsuc 0) ∷ (of_ann 4, negsuc 0) ∷ []) ∷ change 2 2 ((group_of 5 2, negsuc 0) ∷ []) ∷ [])
    ∷ asks 1 (put notes (of_ann 100)) (change 2 1 ((of_ann 100, pos 1) ∷ []) ∷ [])
    ∷ []

-- ---- two tables

abbrev pub a : Name
a = codes "a"

abbrev pub b : Name
b = codes "b"

-- `admin` in session 1, ann in session 2, bob in session 3
abbrev pub two_tables : Steps
two_tables =
    asks 1 (begin admin) []
    ∷ asks 1 (create_role ann) []
    ∷ asks 1 (create_role bob) []
    ∷ asks 1 (create_table a admin (column (codes "k") ∷ column (codes "x") ∷ [])) []
    ∷ asks 1 (create_table b admin (column (codes "k") ∷ column (codes "y") ∷ [])) []
    ∷ asks 1 (grant a (Select ∷ []) None) []
    ∷ asks 1 (grant b (Select ∷ []) None) []
    ∷ asks 2 (begin ann) []
    ∷ asks 3 (begin bob) []
    ∷ []

-- if at most so many different rows are in a table and at a node
abbrev pub between : ℕ → State
between cap = after_steps (start cap) two_tables

abbrev pub view : Name → List ℕ → Steps
view name query = asks 1 (create_view name admin query) [] ∷ asks 1 (grant name (Select ∷ []) None) [] ∷ []

abbrev pub pair : ℕ → ℕ → Row
pair k v = two (int k) (int v)

abbrev pub j_text : List ℕ
j_text = codes "select a.x, b.y from a join b on a.k = b.k"

-- if the view j is there
abbrev pub of_j : ℕ → State
of_j cap = after_steps (between cap) (view (codes "j") j_text)

-- if the views u and ua are there
abbrev pub of_unions : State
of_unions = after_steps (between least_cap)
    (view (codes "u") (codes "select x from a union select y from b") ++ view (codes "ua") (codes "select x from a union all select y from b"))

-- if the view e is there
abbrev pub of_except : State
of_except = after_steps (between least_cap) (view (codes "e") (codes "select x from a except select y from b"))

-- after `of_j`
abbrev pub join_both_sides_at_once : Steps
join_both_sides_at_once =
    asks 1 (put b (pair 1 7)) []
    ∷ opens 2 (codes "j") 1 []
    ∷ asks 1 (write (entry a (insert (pair 1 5)) ∷ entry b (delete (pair 1 7)) ∷ [])) []
    ∷ []

-- after `of_unions`
abbrev pub union_and_union_all : Steps
union_and_union_all =
    asks 1 (write (entry a (insert (pair 1 5)) ∷ entry b (insert (pair 1 5)) ∷ [])) []
    ∷ opens 2 (codes "u") 1 (change 2 1 ((one (int 5), pos 1) ∷ []) ∷ [])
    ∷ opens 2 (codes "ua") 2 (change 2 2 ((one (int 5), pos 2) ∷ []) ∷ [])
    ∷ asks 1 (take b (pair 1 5)) (change 2 2 ((one (int 5), negsuc 0) ∷ []) ∷ [])
    ∷ []

-- after `of_except`
abbrev pub except_under_policy : Steps
except_under_policy =
    asks 1 (write (entry a (insert (pair 1 5)) ∷ entry b (insert (pair 1 5)) ∷ [])) []
    ∷ asks 1 (row_security b true false) []
    ∷ asks 1 (create_policy (record (policy b (codes "forbob") (codes "true")) { to = Some bob ∷ [] })) []
    ∷ opens 2 (codes "e") 1 (change 2 1 ((one (int 5), pos 1) ∷ []) ∷ [])
    ∷ opens 3 (codes "e") 2 []
    ∷ []

-- ---- limits

-- with room for 4 rows at a node: two rows of one key on each side, and a third is refused
abbrev pub node_row_limit : Steps
node_row_limit =
    asks 1 (write (entry a (insert (pair 1 1)) ∷ entry a (insert (pair 1 2)) ∷ entry b (insert (pair 1 1))
    ∷ entry b (insert (pair 1 2)) ∷ [])) []
    ∷ opens 2 (codes "j") 1 (change 2 1 ((pair 1 1, pos 1) ∷ (pair 1 2, pos 1) ∷ (pair 2 1, pos 1) ∷ (pair 2 2, pos 1) ∷ []) ∷ [])
    ∷ fails 1 (put a (pair 1 3)) limit
    ∷ []

-- the same with a third row that a restrictive policy hides, until it is dropped
abbrev pub ended_by_limit : Steps
ended_by_limit =
    asks 1 (write (entry a (insert (pair 1 1)) ∷ entry a (insert (pair 1 2)) ∷ entry a (insert (pair 1 3)) ∷ entry b (insert (pair 1 1))
    ∷ entry b (insert (pair 1 2)) ∷ [])) []
    ∷ asks 1 (row_security a true false) []
    ∷ asks 1 (create_policy (policy a (codes "every") (codes "true"))) []
    ∷ asks 1 (restrictive a (codes "most") (codes "x <= 2")) []
    ∷ opens 2 (codes "j") 1 (change 2 1 ((pair 1 1, pos 1) ∷ (pair 1 2, pos 1) ∷ (pair 2 1, pos 1) ∷ (pair 2 2, pos 1) ∷ []) ∷ [])
    ∷ asks 1 (drop_policy a (codes "most"))
    (ended 2 1 cause.Limit ((pair 1 1, negsuc 0) ∷ (pair 1 2, negsuc 0) ∷ (pair 2 1, negsuc 0) ∷ (pair 2 2, negsuc 0) ∷ []) ∷ [])
    ∷ asks 1 (take a (pair 1 3)) []
    ∷ []

-- the greatest power of 2 of which two copies have a sum that is too large
abbrev pub large : Row
large = of_ann (2 ^ 62)

-- after `first`: a sum is tested if a view has it
abbrev pub sum_limits : Steps
sum_limits =
    asks 1 (write (many 2 notes (insert large) ∷ [])) (change 2 1 ((large, pos 2) ∷ []) ∷ [])
    ∷ asks 1 (write (many 2 notes (delete large) ∷ [])) (change 2 1 ((large, negsuc 1) ∷ []) ∷ [])
    ∷ asks 1 (create_view sums admin (codes "select who, sum(id) as s from notes group by who")) []
    ∷ asks 1 (grant sums (Select ∷ []) (Some ann)) []
    ∷ opens 2 sums 2 (change 2 2 ((two (text ann) (int 1), pos 1) ∷ []) ∷ [])
    ∷ fails 1 (write (many 2 notes (insert large) ∷ [])) limit
    ∷ []

-- if one row fits a table
abbrev pub table_limit : Steps
table_limit = fails 1 (put notes (of_ann 2)) limit ∷ asks 1 (put notes (of_ann 1)) (change 2 1 ((of_ann 1, pos 1) ∷ []) ∷ []) ∷ []

-- ---- faults of texts

-- after `first`
abbrev pub query_faults : Steps
query_faults =
    fails 1 (create_view (codes "v") admin (codes "select id, from notes")) (bad_query 11 (Reading reading.Unexpected))
    ∷ fails 1 (create_view (codes "v") admin (codes "select nope from notes")) (bad_query 7 (Binding binding.UnknownColumn))
    ∷ fails 1 (create_view (codes "v") admin (codes "select who, count(*) as n from notes")) (bad_query 12 (Binding binding.NotGrouped))
    ∷ []
