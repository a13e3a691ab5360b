-- The JSON value that asks for a command.
use Rattle.std.specs.Prelude.{ℕ, ◌^◌, pos, negsuc, Bool, true, List, map, codes, nat_lt, Option, Some, None}
use Rattle.std.specs.List.{list_all}
use Rattle.iv_rows.specs.Cell.{Cell, num, text, flag}
use Rattle.iv_rows.specs.Columns.{Column}
use Rattle.iv_rows.specs.declared.value.Kind.{Kind}
use Rattle.iv_rows.specs.declared.value.Kind.TheVariants.{Int, Text, Flag}
use Rattle.iv_machine.specs.Act.{Act, begin, finish, create_role, create_table, create_view, grant, revoke, grant_role, revoke_role, row_security, create_policy, drop_policy, subscribe, unsubscribe, write, Command, PolicyText, Entry, Op, insert, delete, update}
use Rattle.iv_machine.specs.Refusing.{rows_in}
use Rattle.iv_access.specs.declared.policy.PolicyCommand.{PolicyCommand}
use Rattle.iv_access.specs.declared.policy.PolicyCommand.TheVariants as command
use Rattle.iv_access.specs.declared.privilege.Privilege.{Privilege}
use Rattle.serde_json.specs.Data.{Data, boolean, string, array, object, item, no_items, Members, member, no_members}
use Rattle.serde_json.specs.View.{items_of}
use Rattle.iv_command.specs.RowTexts.{row_data}
use Rattle.iv_request.specs.Values.{natural, privilege_text}

abbrev pub kind_text : Kind → List ℕ
kind_text Int = codes "int"
kind_text Text = codes "text"
kind_text Flag = codes "flag"

abbrev pub column_data : Column → Data
column_data c = array (item (string c.name) (item (string (kind_text c.kind)) no_items))

abbrev pub privilege_data : Privilege → Data
privilege_data p = string (privilege_text p)

-- the key of what an entry does
abbrev pub op_member : Op → Members → Members
op_member (insert row) ms = member (codes "insert") (row_data row) ms
op_member (delete row) ms = member (codes "delete") (row_data row) ms
op_member (update old new) ms = member (codes "update") (array (item (row_data old) (item (row_data new) no_items))) ms

abbrev pub entry_data : Entry → Data
entry_data e = object (op_member e.op (member (codes "on") (string e.rel) (member (codes "copies") (natural e.copies) no_members)))

-- `public` where no role is named
abbrev pub grantee_text : Option (List ℕ) → List ℕ
grantee_text None = codes "public"
grantee_text (Some name) = name

abbrev pub asking : List ℕ → ℕ → Members → Data
asking word n ms = object (member (codes "do") (string word) (member (codes "session") (natural n) ms))

abbrev pub granting : List ℕ → ℕ → List ℕ → List Privilege → Option (List ℕ) → Data
granting word n rel privileges to = asking word n
    (member (codes "on") (string rel)
    (member (codes "privileges") (array (items_of (map privilege_data privileges)))
    (member (codes "to") (string (grantee_text to)) no_members)))

abbrev pub table_data : List ℕ → List ℕ → List Column → Members
table_data name owner columns =
    member (codes "name") (string name)
    (member (codes "owner") (string owner)
    (member (codes "columns") (array (items_of (map column_data columns))) no_members))

abbrev pub view_data : List ℕ → List ℕ → List ℕ → Members
view_data name owner query =
    member (codes "name") (string name)
    (member (codes "owner") (string owner)
    (member (codes "query") (string query) no_members))

abbrev pub grantee_data : Option (List ℕ) → Data
grantee_data to = string (grantee_text to)

abbrev pub policy_command_text : PolicyCommand → List ℕ
policy_command_text command.All = codes "all"
policy_command_text command.Select = codes "select"
policy_command_text command.Insert = codes "insert"
policy_command_text command.Update = codes "update"
policy_command_text command.Delete = codes "delete"

-- the key of a text, if there is one
abbrev pub text_member : List ℕ → Option (List ℕ) → Members → Members
text_member key None ms = ms
text_member key (Some t) ms = member key (string t) ms

abbrev pub policy_data : PolicyText → Members
policy_data p =
    member (codes "on") (string p.rel)
    (member (codes "name") (string p.name)
    (member (codes "restrictive") (boolean p.restrictive)
    (member (codes "command") (string (policy_command_text p.command))
    (member (codes "to") (array (items_of (map grantee_data p.to)))
    (text_member (codes "using") p.using_text (text_member (codes "check") p.check_text no_members))))))

abbrev pub membership_data : List ℕ → List ℕ → Members
membership_data role to =
    member (codes "role") (string role)
    (member (codes "to") (string to) no_members)

abbrev pub row_security_data : List ℕ → Bool → Bool → Members
row_security_data rel enable force =
    member (codes "on") (string rel)
    (member (codes "enable") (boolean enable)
    (member (codes "force") (boolean force) no_members))

abbrev pub act_data : ℕ → Act → Data
act_data n (begin role) = asking (codes "begin") n (member (codes "role") (string role) no_members)
act_data n finish = asking (codes "finish") n no_members
act_data n (create_role name) = asking (codes "create_role") n (member (codes "name") (string name) no_members)
act_data n (create_table name owner columns) = asking (codes "create_table") n (table_data name owner columns)
act_data n (create_view name owner query) = asking (codes "create_view") n (view_data name owner query)
act_data n (grant rel privileges to) = granting (codes "grant") n rel privileges to
act_data n (revoke rel privileges to) = granting (codes "revoke") n rel privileges to
act_data n (grant_role role to) = asking (codes "grant_role") n (membership_data role to)
act_data n (revoke_role role to) = asking (codes "revoke_role") n (membership_data role to)
act_data n (row_security rel enable force) = asking (codes "row_security") n (row_security_data rel enable force)
act_data n (create_policy p) = asking (codes "create_policy") n (policy_data p)
act_data n (drop_policy rel name) = asking (codes "drop_policy") n (member (codes "on") (string rel) (member (codes "name") (string name) no_members))
act_data n (write entries) = asking (codes "write") n (member (codes "entries") (array (items_of (map entry_data entries))) no_members)
act_data n (subscribe rel) = asking (codes "subscribe") n (member (codes "on") (string rel) no_members)
act_data n (unsubscribe number) = asking (codes "unsubscribe") n (member (codes "sub") (natural number) no_members)

abbrev pub command_data : Command → Data
command_data c = act_data c.session c.act

-- a whole number of 64 bits
abbrev pub is_small : Cell → Bool
is_small (num (pos n)) = nat_lt n (2 ^ 63)
is_small (num (negsuc n)) = nat_lt n (2 ^ 63)
is_small (text t) = true
is_small (flag b) = true

abbrev pub is_small_entry : Entry → Bool
is_small_entry e = list_all (list_all is_small) (rows_in e.op)

-- the whole numbers in the rows of a write are of 64 bits
abbrev pub is_small_act : Act → Bool
is_small_act (begin role) = true
is_small_act finish = true
is_small_act (create_role name) = true
is_small_act (create_table name owner columns) = true
is_small_act (create_view name owner query) = true
is_small_act (grant rel privileges to) = true
is_small_act (revoke rel privileges to) = true
is_small_act (grant_role role to) = true
is_small_act (revoke_role role to) = true
is_small_act (row_security rel enable force) = true
is_small_act (create_policy p) = true
is_small_act (drop_policy rel name) = true
is_small_act (write entries) = list_all is_small_entry entries
is_small_act (subscribe rel) = true
is_small_act (unsubscribe number) = true
