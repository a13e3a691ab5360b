-- What an accepted command changes; which subscriptions end by it is told after that.
use Rattle.std.specs.Prelude.{ℕ, zero, suc, ◌+◌, ◌==◌, not, cond, if◌then◌else◌, List, [], ◌∷◌, ◌++◌, map, nat_lt, Option, Some, None, Result, Ok, Err}
use Rattle.std.specs.List.{filter}
use Rattle.iv_rows.specs.Cell.{Cell}
use Rattle.iv_rows.specs.Columns.{Column}
use Rattle.iv_rows.specs.Order.{row_eq}
use Rattle.iv_algebra.specs.Plans.{Lists}
use Rattle.iv_algebra.specs.Shapes.{Condition}
use Rattle.iv_bind.specs.BoundTexts.{TextFault, bound_query, bound_policy}
use Rattle.iv_bind.specs.Catalogs.{BoundQuery, Held, Table, View}
use Rattle.iv_bind.specs.Catalogs as catalogs
use Rattle.iv_access.specs.Access.{role_number, grantee_of}
use Rattle.iv_access.specs.Rights.{Name, Policy, Rights}
use Rattle.iv_access.specs.Changing.{with_role, with_member, without_member, with_relation, with_grants, without_grants, with_security, with_policy, without_policy}
use Rattle.iv_machine.specs.Act.{Act, begin, finish, create_role, create_table, create_view, grant, revoke, grant_role, revoke_role, row_security, create_policy, drop_policy, subscribe, unsubscribe, write, Op, insert, delete, update, Entry, PolicyText}
use Rattle.iv_machine.specs.State.{State, Frame, Session, Subscription, next_rel, rel_of, columns_at}

-- ---- texts

abbrev pub or_none : {A B : Type 0} → Result A B → Option A
or_none (Ok a) = Some a
or_none (Err b) = None

-- the condition of a text that may stand
abbrev pub condition_of_text : List Column → Option (List ℕ) → Option Condition
condition_of_text columns None = None
condition_of_text columns (Some text) = or_none (bound_policy columns text)

-- the policy that its texts are bound to
abbrev pub policy_for : Frame → PolicyText → Policy
policy_for f p = let columns = columns_at f.catalog p.rel in record {
  name = p.name;
  restrictive = p.restrictive;
  command = p.command;
  to = map (grantee_of f.rights) p.to;
  using = condition_of_text columns p.using_text;
  check = condition_of_text columns p.check_text;
}

-- ---- rows

-- c copies of a row
abbrev pub times : ℕ → List Cell → List (List Cell)
times zero row = []
times (suc c) row = row ∷ times c row

-- without the first c occurrences of a row
abbrev pub without : ℕ → List Cell → List (List Cell) → List (List Cell)
without c row [] = []
without zero row (r ∷ rows) = r ∷ rows
without (suc c) row (r ∷ rows) = if row_eq row r then without c row rows else r ∷ without (suc c) row rows

-- an insert appends c copies, a delete removes the first c, and an update does both
abbrev pub changed_by : Op → ℕ → List (List Cell) → List (List Cell)
changed_by (insert new) c rows = rows ++ times c new
changed_by (delete old) c rows = without c old rows
changed_by (update old new) c rows = without c old rows ++ times c new

-- the rows of the tables after an entry
abbrev pub after_entry : List catalogs.CatalogEntry → Entry → Lists → Lists
after_entry catalog e T = λ t. cond (rel_of catalog e.rel == t) (changed_by e.op e.copies (T t)) (T t)

-- the rows of the tables after entries, in their order
abbrev pub written : List catalogs.CatalogEntry → List Entry → Lists → Lists
written catalog [] T = T
written catalog (e ∷ es) T = written catalog es (after_entry catalog e T)

-- ---- subscriptions

-- after each subscription of the same session or one before it
abbrev pub insert_subscription : Subscription → List Subscription → List Subscription
insert_subscription e [] = e ∷ []
insert_subscription e (f ∷ fs) = if nat_lt e.session f.session then e ∷ f ∷ fs else f ∷ insert_subscription e fs

-- the next subscription, of session n
abbrev pub opened_by : Frame → ℕ → Name → Subscription
opened_by f n rel = record { session = n; number = f.last + 1; rel = rel_of f.catalog rel }

-- ---- each part of the frame

abbrev pub after_rights : Frame → Act → Rights
after_rights f (create_role name) = with_role name f.rights
after_rights f (create_table name owner columns) = with_relation (role_number f.rights owner) f.rights
after_rights f (create_view name owner query) = with_relation (role_number f.rights owner) f.rights
after_rights f (grant rel privileges to) = with_grants (rel_of f.catalog rel) privileges (grantee_of f.rights to) f.rights
after_rights f (revoke rel privileges to) = without_grants (rel_of f.catalog rel) privileges (grantee_of f.rights to) f.rights
after_rights f (grant_role role to) = with_member (role_number f.rights role) (role_number f.rights to) f.rights
after_rights f (revoke_role role to) = without_member (role_number f.rights role) (role_number f.rights to) f.rights
after_rights f (row_security rel enable force) = with_security (rel_of f.catalog rel) enable force f.rights
after_rights f (create_policy p) = with_policy (rel_of f.catalog p.rel) (policy_for f p) f.rights
after_rights f (drop_policy rel name) = without_policy (rel_of f.catalog rel) name f.rights
after_rights f _ = f.rights

abbrev pub with_held : Name → Option Held → List catalogs.CatalogEntry → List catalogs.CatalogEntry
with_held name None catalog = catalog
with_held name (Some held) catalog = catalog ++ record { name = name; rel = next_rel catalog; held = held } ∷ []

abbrev pub view_held : Result BoundQuery TextFault → Option Held
view_held (Ok answer) = Some (View answer)
view_held (Err fault) = None

abbrev pub after_catalog : Frame → Act → List catalogs.CatalogEntry
after_catalog f (create_table name owner columns) = with_held name (Some (Table columns)) f.catalog
after_catalog f (create_view name owner query) = with_held name (view_held (bound_query f.catalog query)) f.catalog
after_catalog f _ = f.catalog

abbrev pub after_sessions : Frame → ℕ → Act → List Session
after_sessions f n (begin role) = f.sessions ++ record { number = n; role = role_number f.rights role } ∷ []
after_sessions f n finish = filter (λ e. not (n == e.number)) f.sessions
after_sessions f n _ = f.sessions

abbrev pub after_subscriptions : Frame → ℕ → Act → List Subscription
after_subscriptions f n finish = filter (λ e. not (n == e.session)) f.subscriptions
after_subscriptions f n (subscribe rel) = insert_subscription (opened_by f n rel) f.subscriptions
after_subscriptions f n (unsubscribe k) = filter (λ e. not (k == e.number)) f.subscriptions
after_subscriptions f n _ = f.subscriptions

abbrev pub after_last : Frame → Act → ℕ
after_last f (subscribe rel) = f.last + 1
after_last f _ = f.last

abbrev pub after_frame : Frame → ℕ → Act → Frame
after_frame f n act = record {
  cap = f.cap;
  rights = after_rights f act;
  catalog = after_catalog f act;
  sessions = after_sessions f n act;
  subscriptions = after_subscriptions f n act;
  last = after_last f act;
}

-- ---- the state

abbrev pub after_rows : State → Act → Lists
after_rows s (write entries) = written s.frame.catalog entries s.rows
after_rows s _ = s.rows

abbrev pub after : State → ℕ → Act → State
after s n act = record { frame = after_frame s.frame n act; rows = after_rows s act }
