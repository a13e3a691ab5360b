-- Refusals: the first test of a command that fails.
-- Read `refusal` at the end, and from there `tests_by`, which has the tests of each request in their order. A test that passes is `None`. Those that look
-- at rows come last, since a refusal that tells of rows may come only to who sees them. `role` is the role that acts, `n` its session, and in a test of
-- an entry the number of the entry; `rel` is the name of a relation.
use Rattle.std.specs.Prelude.{ℕ, ◌^◌, ◌+◌, ◌==◌, ◌&&◌, Bool, true, not, if◌then◌else◌, List, [], ◌∷◌, map, length, count_by, nat_le, Option, Some, None, option_map, is_some, unwrap_or, slice_get, Result, Ok, Err}
use Rattle.std.specs.List.{list_all, list_any}
use Rattle.iv_rows.specs.Cell.{Cell}
use Rattle.iv_rows.specs.Columns.{Column, accepts, kinds_of}
use Rattle.iv_zset.specs.Limits.{copies, within}
use Rattle.iv_algebra.specs.Plans.{Lists}
use Rattle.iv_bind.specs.BoundTexts.{TextFault, FaultAt, bound_query, bound_policy}
use Rattle.iv_bind.specs.Catalogs.{named, table_in, view_in}
use Rattle.iv_bind.specs.Catalogs as catalogs
use Rattle.iv_access.specs.declared.policy.Check.{Check}
use Rattle.iv_access.specs.declared.policy.Check.TheVariants as check
use Rattle.iv_access.specs.declared.policy.Verdict.{Verdict}
use Rattle.iv_access.specs.declared.policy.Verdict.TheVariants.{Pass, NoPermissive, Restrictive}
use Rattle.iv_access.specs.declared.privilege.Privilege.{Privilege}
use Rattle.iv_access.specs.declared.privilege.Privilege.TheVariants as privilege
use Rattle.iv_access.specs.Policies.{policies_of, policy_name, policy_of, update_tests, verdict}
use Rattle.iv_access.specs.Access.{role_number}
use Rattle.iv_roles.specs.Roles.{is_admin}
use Rattle.iv_access.specs.Privileges.{acts_as, first_missing, owns, role_of}
use Rattle.iv_access.specs.Rights.{Name}
use Rattle.iv_machine.specs.Act.{Act, begin, finish, create_role, create_table, create_view, grant, revoke, grant_role, revoke_role, row_security, create_policy, drop_policy, subscribe, unsubscribe, write, Op, insert, delete, update, Entry, Refusal, no_session, session_in_use, unknown_role, name_taken, unknown_relation, not_a_table, bad_row, bad_query, not_administrator, not_owner, missing_privilege, no_permissive, restrictive_failed, no_such_row, limit, unknown_policy, unknown_subscription, too_many, membership_loop}
use Rattle.iv_machine.specs.State.{State, Frame, rel_of, name_of, table_columns, columns_at, is_open, actor, is_within, is_within_for, missing_for}
use Rattle.iv_machine.specs.Changing.{after_entry, after}

-- ---- tests in their order

abbrev pub test : Bool → Refusal → Option Refusal
test fails r = if fails then Some r else None

abbrev pub or_else : Option Refusal → Option Refusal → Option Refusal
or_else None later = later
or_else (Some r) later = Some r

abbrev pub first : List (Option Refusal) → Option Refusal
first [] = None
first (r ∷ rs) = or_else r (first rs)

-- the first entry that fails, counted from n
abbrev pub each_entry : (ℕ → Entry → Option Refusal) → ℕ → List Entry → Option Refusal
each_entry f n [] = None
each_entry f n (e ∷ es) = or_else (f n e) (each_entry f (n + 1) es)

-- ---- tests that several requests have

abbrev pub administrator : ℕ → Option Refusal
administrator role = test (not (is_admin role)) not_administrator

abbrev pub known_role : Frame → Name → Option Refusal
known_role f name = test (not (is_some (role_of f.rights name))) unknown_role

abbrev pub free_role : Frame → Name → Option Refusal
free_role f name = test (is_some (role_of f.rights name)) name_taken

-- PUBLIC is always known
abbrev pub known_grantee : Frame → Option Name → Option Refusal
known_grantee f None = None
known_grantee f (Some name) = known_role f name

abbrev pub known_relation : Frame → Name → Option Refusal
known_relation f rel = test (not (is_some (named f.catalog rel))) unknown_relation

abbrev pub free_relation : Frame → Name → Option Refusal
free_relation f name = test (is_some (named f.catalog name)) name_taken

abbrev pub table_alone : Frame → Name → Option Refusal
table_alone f rel = test (not (is_some (table_columns f.catalog rel))) not_a_table

abbrev pub owner_alone : Frame → ℕ → Name → Option Refusal
owner_alone f role rel = test (not (owns f.rights role (rel_of f.catalog rel))) (not_owner rel)

abbrev pub missing : Frame → Option (Privilege × ℕ) → Option Refusal
missing f p = option_map (λ x. missing_privilege x.0 (name_of f.catalog x.1)) p

-- there are as many as there may be
abbrev pub full : (most n : ℕ) → Option Refusal
full most n = test (nat_le most n) too_many

abbrev pub bad_text : {A : Type 0} → Result A TextFault → Option Refusal
bad_text (Ok a) = None
bad_text (Err (FaultAt place why)) = Some (bad_query place why)

abbrev pub bad_policy_text : List Column → Option (List ℕ) → Option Refusal
bad_policy_text columns None = None
bad_policy_text columns (Some text) = bad_text (bound_policy columns text)

-- the policies of the table of a name
abbrev pub policies : Frame → Name → ℕ
policies f rel = length (policies_of (slice_get f.rights.guards (rel_of f.catalog rel)))

abbrev pub has_policy : Frame → Name → Name → Bool
has_policy f rel name = is_some (policy_of f.rights (rel_of f.catalog rel) name)

-- ---- the entries of a write

abbrev pub rows_in : Op → List (List Cell)
rows_in (insert new) = new ∷ []
rows_in (delete old) = old ∷ []
rows_in (update old new) = old ∷ new ∷ []

-- PostgreSQL 16, Privileges: what needs an old row also needs select
abbrev pub privileges_for : Op → List Privilege
privileges_for (insert new) = privilege.Insert ∷ []
privileges_for (delete old) = privilege.Delete ∷ privilege.Select ∷ []
privileges_for (update old new) = privilege.Update ∷ privilege.Select ∷ []

-- PostgreSQL 16, CREATE POLICY, Policies Applied by Command Type: the tests in their order, each with its row
abbrev pub checks_for : Op → List (Check × List Cell)
checks_for (insert new) = (check.Insert, new) ∷ []
checks_for (delete old) = (check.Select, old) ∷ (check.Delete, old) ∷ []
checks_for (update old new) = update_tests old new

-- a known table, and rows with the number and the kinds of its columns
abbrev pub entry_shape : Frame → ℕ → Entry → Option Refusal
entry_shape f n e = first (
    known_relation f e.rel
    ∷ table_alone f e.rel
    ∷ test (not (list_all (accepts (kinds_of (columns_at f.catalog e.rel))) (rows_in e.op))) (bad_row n)
    ∷ [])

abbrev pub entry_privileges : Frame → (role n : ℕ) → Entry → Option Refusal
entry_privileges f role n e = missing f (first_missing f.rights role (map (λ p. (p, rel_of f.catalog e.rel)) (privileges_for e.op)))

-- the name of the policy at a place of the table of a name
abbrev pub policy_name_at : Frame → Name → ℕ → Name
policy_name_at f rel place = unwrap_or (policy_name f.rights (rel_of f.catalog rel) place) []

abbrev pub failed_check : Frame → Name → ℕ → Check → Verdict → Option Refusal
failed_check f rel n test Pass = None
failed_check f rel n test NoPermissive = Some (no_permissive rel test n)
failed_check f rel n test (Restrictive place) = Some (restrictive_failed (policy_name_at f rel place) rel test n)

-- one of the tests of entry n
abbrev pub entry_check : Frame → (role n : ℕ) → Name → Check × List Cell → Option Refusal
entry_check f role n rel c = failed_check f rel n c.0 (verdict f.rights role (rel_of f.catalog rel) c.0 c.1)

abbrev pub entry_policies : Frame → (role n : ℕ) → Entry → Option Refusal
entry_policies f role n e = first (map (entry_check f role n e.rel) (checks_for e.op))

-- ---- the rows of a write

-- the rows that an entry removes are there
abbrev pub is_present : Op → ℕ → List (List Cell) → Bool
is_present (insert new) c rows = true
is_present (delete old) c rows = nat_le c (copies old rows)
is_present (update old new) c rows = nat_le c (copies old rows)

-- each entry finds what the earlier ones leave
abbrev pub entries_present : List catalogs.CatalogEntry → ℕ → List Entry → Lists → Option Refusal
entries_present catalog n [] T = None
entries_present catalog n (e ∷ es) T = or_else
    (test (not (is_present e.op e.copies (T (rel_of catalog e.rel)))) (no_such_row n))
    (entries_present catalog (n + 1) es (after_entry catalog e T))

-- each table and each open subscription is within the limits
abbrev pub all_within : State → Bool
all_within s = list_all (λ e. within s.frame.cap (s.rows e.rel)) s.frame.catalog && list_all (is_within s) s.frame.subscriptions

-- ---- counts

abbrev pub tables : Frame → ℕ
tables f = count_by (λ e. is_some (table_in e.held)) f.catalog

abbrev pub views : Frame → ℕ
views f = count_by (λ e. is_some (view_in e.held)) f.catalog

-- ---- requests

-- subscription k is open in session n
abbrev pub has_subscription : Frame → (n k : ℕ) → Bool
has_subscription f n k = list_any (λ e. (n == e.session) && (k == e.number)) f.subscriptions

-- `begin` takes a session that is not open, each other request one that is
abbrev pub session_test : Frame → ℕ → Act → Option Refusal
session_test f n (begin name) = test (is_open f n) session_in_use
session_test f n _ = test (not (is_open f n)) no_session

-- the further tests of each request that look at no row, in their order, if role acts in session n
abbrev pub tests_by : Frame → (n role : ℕ) → Act → List (Option Refusal)
tests_by f n role (begin name) = known_role f name ∷ full 256 (length f.sessions) ∷ []
tests_by f n role finish = []
tests_by f n role (create_role name) = administrator role ∷ free_role f name ∷ full 256 (length f.rights.roles) ∷ []
tests_by f n role (create_table name owner columns) =
    administrator role
    ∷ known_role f owner
    ∷ free_relation f name
    ∷ full 64 (tables f)
    ∷ []
tests_by f n role (create_view name owner query) =
    administrator role
    ∷ known_role f owner
    ∷ free_relation f name
    ∷ bad_text (bound_query f.catalog query)
    ∷ full 64 (views f)
    ∷ []
tests_by f n role (grant rel privileges to) = known_relation f rel ∷ owner_alone f role rel ∷ known_grantee f to ∷ []
tests_by f n role (revoke rel privileges to) = known_relation f rel ∷ owner_alone f role rel ∷ known_grantee f to ∷ []
tests_by f n role (grant_role group to) =
    administrator role
    ∷ known_role f group
    ∷ known_role f to
    ∷ test (acts_as f.rights (role_number f.rights group) (role_number f.rights to)) membership_loop
    ∷ []
tests_by f n role (revoke_role group to) = administrator role ∷ known_role f group ∷ known_role f to ∷ []
tests_by f n role (row_security rel enable force) = known_relation f rel ∷ table_alone f rel ∷ owner_alone f role rel ∷ []
tests_by f n role (create_policy p) =
    known_relation f p.rel
    ∷ table_alone f p.rel
    ∷ owner_alone f role p.rel
    ∷ first (map (known_grantee f) p.to)
    ∷ test (has_policy f p.rel p.name) name_taken
    ∷ bad_policy_text (columns_at f.catalog p.rel) p.using_text
    ∷ bad_policy_text (columns_at f.catalog p.rel) p.check_text
    ∷ full 32 (policies f p.rel)
    ∷ []
tests_by f n role (drop_policy rel name) =
    known_relation f rel
    ∷ table_alone f rel
    ∷ owner_alone f role rel
    ∷ test (not (has_policy f rel name)) unknown_policy
    ∷ []
tests_by f n role (subscribe rel) =
    known_relation f rel
    ∷ missing f (missing_for f role (rel_of f.catalog rel))
    ∷ full 16 (count_by (λ e. n == e.session) f.subscriptions)
    ∷ full (2 ^ 63) (f.last + 1)
    ∷ []
tests_by f n role (unsubscribe k) = test (not (has_subscription f n k)) unknown_subscription ∷ []
tests_by f n role (write entries) =
    each_entry (entry_shape f) 1 entries
    ∷ each_entry (entry_privileges f role) 1 entries
    ∷ each_entry (entry_policies f role) 1 entries
    ∷ []

-- the first test that fails, of those that look at no row
abbrev pub frame_refusal : Frame → ℕ → Act → Option Refusal
frame_refusal f n act = or_else (session_test f n act) (first (tests_by f n (actor f n) act))

-- the first of those that look at rows
abbrev pub rows_refusal : State → ℕ → Act → Option Refusal
rows_refusal s n (subscribe rel) = test (not (is_within_for s (actor s.frame n) (rel_of s.frame.catalog rel))) limit
rows_refusal s n (write entries) = first (
    entries_present s.frame.catalog 1 entries s.rows
    ∷ test (not (all_within (after s n (write entries)))) limit
    ∷ [])
rows_refusal s n _ = None

-- tests that look at rows come last
abbrev pub refusal : State → ℕ → Act → Option Refusal
refusal s n act = or_else (frame_refusal s.frame n act) (rows_refusal s n act)
