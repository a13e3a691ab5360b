-- The shape rules: which command a JSON value is. `x_of` is the x that a value is, and `x_at` the one at a key.
use Rattle.std.specs.Prelude.{ℕ, ◌^◌, ◌==◌, ◌&&◌, Bool, false, List, [], ◌∷◌, codes, length, nat_le, nat_lt, bytes_eq, Option, Some, None, option_map, option_and_then, if◌then◌else◌}
use Rattle.iv_rows.specs.Cell.{Cell, num, text, flag}
use Rattle.iv_rows.specs.Columns.{Column, has_columns, has_distinct_names}
use Rattle.iv_rows.specs.Names.{is_name}
use Rattle.iv_rows.specs.Texts.{is_well_cell}
use Rattle.iv_rows.specs.declared.value.Kind.{Kind}
use Rattle.iv_rows.specs.declared.value.Kind.TheVariants.{Int, Text, Flag}
use Rattle.iv_machine.specs.Act as machine
use Rattle.iv_machine.specs.Parts.{is_between, is_group, is_positive, has_texts}
use Rattle.iv_access.specs.declared.privilege.Privilege.{Privilege}
use Rattle.iv_access.specs.declared.privilege.Privilege.TheVariants.{Select, Insert, Update, Delete}
use Rattle.iv_access.specs.declared.policy.PolicyCommand.{PolicyCommand}
use Rattle.iv_access.specs.declared.policy.PolicyCommand.TheVariants as policy_command
use Rattle.serde_json.specs.Data.{Data, null, boolean, number, string, array, object, Items, no_items, item}
use Rattle.serde_json.specs.Events.{items_len}
use Rattle.serde_json.specs.Find.{get, at, as_bool, as_str, as_number, as_u64, as_i64, as_array}
use Rattle.iv_request.specs.Forms.{Form, form_of, has, has_only, has_its_keys}
use Rattle.iv_request.specs.declared.forms.Word.{Word}
use Rattle.iv_request.specs.declared.forms.Word.TheVariants.{Begin, Finish, CreateRole, CreateTable, CreateView, Grant, Revoke, GrantRole, RevokeRole, RowSecurity, CreatePolicy, DropPolicy, Write, Subscribe, Unsubscribe}

-- ---- parts of a value

abbrev pub count_of : Option Items → ℕ
count_of None = 0
count_of (Some ds) = items_len ds

-- how many items a list has
abbrev pub count : Data → ℕ
count d = count_of (as_array d)

-- the value, if it passes
abbrev pub passing : {X : Type 0} → (X → Bool) → X → Option X
passing t x = if t x then Some x else None

-- what each item is, if each is something
abbrev pub each : {X : Type 0} → (Data → Option X) → Items → Option (List X)
each f no_items = Some []
each f (item d ds) = option_and_then (λ x. option_map (λ xs. x ∷ xs) (each f ds)) (f d)

-- what the items of a list are
abbrev pub list_of : {X : Type 0} → (Data → Option X) → Data → Option (List X)
list_of f d = option_and_then (each f) (as_array d)

-- what the items of the list at a key are
abbrev pub list_at : {X : Type 0} → (Data → Option X) → List ℕ → Data → Option (List X)
list_at f key d = option_and_then (each f) (option_and_then as_array (get key d))

abbrev pub text_at : List ℕ → Data → Option (List ℕ)
text_at key d = option_and_then as_str (get key d)

-- the name at a key
abbrev pub name_at : List ℕ → Data → Option (List ℕ)
name_at key d = option_and_then (passing is_name) (text_at key d)

abbrev pub bool_at : List ℕ → Data → Option Bool
bool_at key d = option_and_then as_bool (get key d)

-- 1 to 2^63 - 1
abbrev pub positive_of : Data → Option ℕ
positive_of d = option_and_then (passing is_positive) (option_and_then as_u64 (as_number d))

-- what a value is that need not be there, and x if there is none
abbrev pub given_or : {X : Type 0} → X → (Data → Option X) → Option Data → Option X
given_or x f None = Some x
given_or x f (Some d) = f d

-- what the value at a key is, and x if the key is not there
abbrev pub found_or : {X : Type 0} → X → (Data → Option X) → List ℕ → Data → Option X
found_or x f key d = given_or x f (get key d)

-- ---- the parts of requests

abbrev pub kind_of : List ℕ → Option Kind
kind_of s =
    if bytes_eq s (codes "int") then Some Int
    else if bytes_eq s (codes "text") then Some Text
    else if bytes_eq s (codes "flag") then Some Flag
    else None

abbrev pub column : List ℕ → Kind → Column
column name kind = record { name = name; kind = kind }

-- [name, kind]
abbrev pub column_of : Data → Option Column
column_of d =
    if count d == 2
    then option_and_then
    (λ name. option_map (column name) (option_and_then kind_of (option_and_then as_str (at 1 d))))
    (option_and_then (passing is_name) (option_and_then as_str (at 0 d)))
    else None

-- 1 to 16 columns with distinct names
abbrev pub is_schema : List Column → Bool
is_schema cs = has_columns cs && has_distinct_names cs

abbrev pub columns_at : Data → Option (List Column)
columns_at d = option_and_then (passing is_schema) (list_at column_of (codes "columns") d)

abbrev pub privilege_named : List ℕ → Option Privilege
privilege_named s =
    if bytes_eq s (codes "select") then Some Select
    else if bytes_eq s (codes "insert") then Some Insert
    else if bytes_eq s (codes "update") then Some Update
    else if bytes_eq s (codes "delete") then Some Delete
    else None

abbrev pub privilege_of : Data → Option Privilege
privilege_of d = option_and_then privilege_named (as_str d)

-- 1 to 4 privileges
abbrev pub privileges_at : Data → Option (List Privilege)
privileges_at d = option_and_then (passing (λ ps. is_between 1 4 (length ps))) (list_at privilege_of (codes "privileges") d)

-- a whole number of 64 bits, a text that a table may hold, or a truth value
abbrev pub cell_of : Data → Option Cell
cell_of null = None
cell_of (boolean b) = Some (flag b)
cell_of (number n) = option_map num (as_i64 n)
cell_of (string s) = passing is_well_cell (text s)
cell_of (array ds) = None
cell_of (object ms) = None

abbrev pub row_of : Data → Option (List Cell)
row_of d = list_of cell_of d

-- [old, new]
abbrev pub update_of : Data → Option machine.Op
update_of d =
    if count d == 2
    then option_and_then (λ old. option_map (machine.update old) (option_and_then row_of (at 1 d))) (option_and_then row_of (at 0 d))
    else None

-- what the entry does, by the first of these keys that is there
abbrev pub op_at : Data → Option machine.Op
op_at d =
    if has (codes "insert") d then option_map machine.insert (option_and_then row_of (get (codes "insert") d))
    else if has (codes "delete") d then option_map machine.delete (option_and_then row_of (get (codes "delete") d))
    else option_and_then update_of (get (codes "update") d)

abbrev pub copies_at : Data → Option ℕ
copies_at d = found_or 1 positive_of (codes "copies") d

abbrev pub entry : List ℕ → machine.Op → ℕ → machine.Entry
entry rel op copies = record { rel = rel; op = op; copies = copies }

-- the key of what the entry does: the first of these that is there
abbrev pub does_at : Data → List ℕ
does_at d = if has (codes "insert") d then codes "insert" else if has (codes "delete") d then codes "delete" else codes "update"

-- the keys are `on`, what it does, and `copies` where that is there
abbrev pub entry_of : Data → Option machine.Entry
entry_of d =
    if has_only (codes "on" ∷ does_at d ∷ codes "copies" ∷ []) d
    then option_and_then (λ rel. option_and_then (λ op. option_map (entry rel op) (copies_at d)) (op_at d)) (name_at (codes "on") d)
    else None

-- 1 to 1,000 entries
abbrev pub entries_at : Data → Option (List machine.Entry)
entries_at d = option_and_then (passing (λ es. is_between 1 1000 (length es))) (list_at entry_of (codes "entries") d)

-- ---- requests, once their keys are those of their form

abbrev pub begin_of : Data → Option machine.Act
begin_of d = option_map machine.begin (name_at (codes "role") d)

abbrev pub create_role_of : Data → Option machine.Act
create_role_of d = option_map machine.create_role (name_at (codes "name") d)

abbrev pub create_table_of : Data → Option machine.Act
create_table_of d =
    option_and_then
    (λ name. option_and_then (λ owner. option_map (machine.create_table name owner) (columns_at d))
    (name_at (codes "owner") d)) (name_at (codes "name") d)

-- the query may be any text
abbrev pub create_view_of : Data → Option machine.Act
create_view_of d =
    option_and_then
    (λ name. option_and_then (λ owner. option_map (machine.create_view name owner) (text_at (codes "query") d))
    (name_at (codes "owner") d)) (name_at (codes "name") d)

-- no role if it is `public`; that word is no name
abbrev pub grantee_named : List ℕ → Option (Option (List ℕ))
grantee_named s = if bytes_eq s (codes "public") then Some None else option_map Some (passing is_name s)

abbrev pub grantee_at : Data → Option (Option (List ℕ))
grantee_at d = option_and_then grantee_named (text_at (codes "to") d)

-- what a grant and a revoke name; no role if all are meant
pub record Granting : Type 0 where
  pub rel : List ℕ
  pub privileges : List Privilege
  pub to : Option (List ℕ)

abbrev pub granting : List ℕ → Option (List ℕ) → List Privilege → Granting
granting rel to ps = record { rel = rel; privileges = ps; to = to }

abbrev pub granting_of : Data → Option Granting
granting_of d = option_and_then (λ rel. option_and_then (λ to. option_map (granting rel to) (privileges_at d)) (grantee_at d)) (name_at (codes "on") d)

abbrev pub grant_by : Granting → machine.Act
grant_by g = machine.grant g.rel g.privileges g.to

abbrev pub revoke_by : Granting → machine.Act
revoke_by g = machine.revoke g.rel g.privileges g.to

-- the name at a key of a role that may have members
abbrev pub group_at : List ℕ → Data → Option (List ℕ)
group_at key d = option_and_then (passing is_group) (text_at key d)

-- what a grant and a revoke of a role name
pub record MembershipNames : Type 0 where
  pub role : List ℕ
  pub to : List ℕ

abbrev pub membership : List ℕ → List ℕ → MembershipNames
membership role to = record { role = role; to = to }

abbrev pub membership_of : Data → Option MembershipNames
membership_of d = option_and_then (λ role. option_map (membership role) (name_at (codes "to") d)) (group_at (codes "role") d)

abbrev pub grant_role_by : MembershipNames → machine.Act
grant_role_by m = machine.grant_role m.role m.to

abbrev pub revoke_role_by : MembershipNames → machine.Act
revoke_role_by m = machine.revoke_role m.role m.to

abbrev pub row_security_of : Data → Option machine.Act
row_security_of d =
    option_and_then
    (λ rel. option_and_then (λ enable. option_map (machine.row_security rel enable) (bool_at (codes "force") d)) (bool_at (codes "enable") d))
    (name_at (codes "on") d)

abbrev pub policy_command_named : List ℕ → Option PolicyCommand
policy_command_named s =
    if bytes_eq s (codes "all") then Some policy_command.All
    else if bytes_eq s (codes "select") then Some policy_command.Select
    else if bytes_eq s (codes "insert") then Some policy_command.Insert
    else if bytes_eq s (codes "update") then Some policy_command.Update
    else if bytes_eq s (codes "delete") then Some policy_command.Delete
    else None

abbrev pub policy_command_of : Data → Option PolicyCommand
policy_command_of d = option_and_then policy_command_named (as_str d)

abbrev pub grantee_of : Data → Option (Option (List ℕ))
grantee_of d = option_and_then grantee_named (as_str d)

-- 1 to 16 roles, `public` among them or not
abbrev pub grantees_of : Data → Option (List (Option (List ℕ)))
grantees_of d = option_and_then (passing (λ to. is_between 1 16 (length to))) (list_of grantee_of d)

-- all commands if none is named
abbrev pub policy_command_at : Data → Option PolicyCommand
policy_command_at d = found_or policy_command.All policy_command_of (codes "command") d

-- permissive if nothing is said
abbrev pub restrictive_at : Data → Option Bool
restrictive_at d = found_or false as_bool (codes "restrictive") d

-- PUBLIC alone
abbrev pub everyone : List (Option (List ℕ))
everyone = None ∷ []

-- PUBLIC if nobody is named
abbrev pub grantees_at : Data → Option (List (Option (List ℕ)))
grantees_at d = found_or everyone grantees_of (codes "to") d

abbrev pub some_text : Data → Option (Option (List ℕ))
some_text d = option_map Some (as_str d)

-- the text at a key that need not be there
abbrev pub text_if_at : List ℕ → Data → Option (Option (List ℕ))
text_if_at key d = found_or None some_text key d

-- how a policy is applied: whether it is restrictive, for which command, and to whom
pub record Scope : Type 0 where
  pub restrictive : Bool
  pub command : PolicyCommand
  pub to : List (Option (List ℕ))

abbrev pub scope : Bool → PolicyCommand → List (Option (List ℕ)) → Scope
scope restrictive command to = record { restrictive = restrictive; command = command; to = to }

abbrev pub scope_at : Data → Option Scope
scope_at d =
    option_and_then
    (λ restrictive. option_and_then (λ command. option_map (scope restrictive command) (grantees_at d)) (policy_command_at d))
    (restrictive_at d)

-- a policy of these names, scope and texts
abbrev pub policy : List ℕ → List ℕ → Scope → Option (List ℕ) → Option (List ℕ) → machine.PolicyText
policy rel name s using check = record {
  rel = rel;
  name = name;
  restrictive = s.restrictive;
  command = s.command;
  to = s.to;
  using_text = using;
  check_text = check;
}

-- a policy of the scope, with both texts, or one
abbrev pub policy_at : Scope → Data → Option machine.PolicyText
policy_at s d =
    option_and_then
    (λ rel. option_and_then
    (λ name. option_and_then (λ using. option_map (policy rel name s using) (text_if_at (codes "check") d)) (text_if_at (codes "using") d))
    (name_at (codes "name") d))
    (name_at (codes "on") d)

abbrev pub policy_of : Data → Option machine.PolicyText
policy_of d = option_and_then (λ s. policy_at s d) (scope_at d)

-- it has the texts that its command asks for, and no other
abbrev pub has_its_texts : machine.PolicyText → Bool
has_its_texts p = has_texts p.command p.using_text p.check_text

abbrev pub create_policy_of : Data → Option machine.Act
create_policy_of d = option_map machine.create_policy (option_and_then (passing has_its_texts) (policy_of d))

abbrev pub drop_policy_of : Data → Option machine.Act
drop_policy_of d = option_and_then (λ rel. option_map (machine.drop_policy rel) (name_at (codes "name") d)) (name_at (codes "on") d)

abbrev pub write_of : Data → Option machine.Act
write_of d = option_map machine.write (entries_at d)

abbrev pub subscribe_of : Data → Option machine.Act
subscribe_of d = option_map machine.subscribe (name_at (codes "on") d)

abbrev pub unsubscribe_of : Data → Option machine.Act
unsubscribe_of d = option_map machine.unsubscribe (option_and_then positive_of (get (codes "sub") d))

-- what a request of this word asks
abbrev pub act_for : Word → Data → Option machine.Act
act_for Begin d = begin_of d
act_for Finish d = Some machine.finish
act_for CreateRole d = create_role_of d
act_for CreateTable d = create_table_of d
act_for CreateView d = create_view_of d
act_for Grant d = option_map grant_by (granting_of d)
act_for Revoke d = option_map revoke_by (granting_of d)
act_for GrantRole d = option_map grant_role_by (membership_of d)
act_for RevokeRole d = option_map revoke_role_by (membership_of d)
act_for RowSecurity d = row_security_of d
act_for CreatePolicy d = create_policy_of d
act_for DropPolicy d = drop_policy_of d
act_for Write d = write_of d
act_for Subscribe d = subscribe_of d
act_for Unsubscribe d = unsubscribe_of d

-- 1 to 2^32 - 1
abbrev pub is_session : ℕ → Bool
is_session n = nat_le 1 n && nat_lt n (2 ^ 32)

abbrev pub session_of : Data → Option ℕ
session_of d = option_and_then (passing is_session) (option_and_then as_u64 (option_and_then as_number (get (codes "session") d)))

-- what a request of this form asks, if its keys are those of the form
abbrev pub act_of_form : Data → Form → Option machine.Act
act_of_form d f = if has_its_keys f d then act_for f.word d else None

abbrev pub asked_act : Data → Option machine.Act
asked_act d = option_and_then (act_of_form d) (option_and_then form_of (text_at (codes "do") d))

abbrev pub command : ℕ → machine.Act → machine.Command
command n act = record { session = n; act = act }

-- the command that a value is
abbrev pub request : Data → Option machine.Command
request d = option_and_then (λ n. option_map (command n) (asked_act d)) (session_of d)
