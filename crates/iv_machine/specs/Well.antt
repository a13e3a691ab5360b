-- The commands that a line may give: what the front end promises of each part before the machine looks at it.
use Rattle.std.specs.Prelude.{◌^◌, ◌&&◌, Bool, true, length, nat_le, nat_lt, Option, Some, None}
use Rattle.std.specs.List.{list_all}
use Rattle.iv_rows.specs.Columns.{has_columns, has_distinct_names}
use Rattle.iv_rows.specs.Names.{is_name}
use Rattle.iv_rows.specs.Texts.{is_well}
use Rattle.iv_access.specs.Rights.{Name}
use Rattle.iv_machine.specs.Act.{Act, begin, finish, create_role, create_table, create_view, grant, revoke, grant_role, revoke_role, row_security, create_policy, drop_policy, subscribe, unsubscribe, write, PolicyText, Entry, Command}
use Rattle.iv_machine.specs.Parts.{is_between, is_group, is_positive, has_texts}
use Rattle.iv_machine.specs.Refusing.{rows_in}

-- PUBLIC, or a name
abbrev pub is_grantee : Option Name → Bool
is_grantee None = true
is_grantee (Some name) = is_name name

-- it goes to 1 to 16
abbrev pub is_well_policy : PolicyText → Bool
is_well_policy p =
    is_name p.rel && (is_name p.name
    && (is_between 1 16 (length p.to) && (list_all is_grantee p.to
    && has_texts p.command p.using_text p.check_text)))

-- its texts are ones that a table may hold
abbrev pub is_well_entry : Entry → Bool
is_well_entry e = is_name e.rel && (list_all is_well (rows_in e.op) && is_positive e.copies)

-- 1 to 4 privileges, some of which may be one; 1 to 1,000 entries; a query may be any text
abbrev pub is_well_act : Act → Bool
is_well_act (begin role) = is_name role
is_well_act finish = true
is_well_act (create_role name) = is_name name
is_well_act (create_table name owner columns) = is_name name && (is_name owner && (has_columns columns && has_distinct_names columns))
is_well_act (create_view name owner query) = is_name name && is_name owner
is_well_act (grant rel privileges to) = is_name rel && (is_between 1 4 (length privileges) && is_grantee to)
is_well_act (revoke rel privileges to) = is_name rel && (is_between 1 4 (length privileges) && is_grantee to)
is_well_act (grant_role role to) = is_group role && is_name to
is_well_act (revoke_role role to) = is_group role && is_name to
is_well_act (row_security rel enable force) = is_name rel
is_well_act (create_policy p) = is_well_policy p
is_well_act (drop_policy rel name) = is_name rel && is_name name
is_well_act (subscribe rel) = is_name rel
is_well_act (unsubscribe number) = is_positive number
is_well_act (write entries) = is_between 1 1000 (length entries) && list_all is_well_entry entries

-- sessions are 1 to 2^32 - 1
abbrev pub is_well_command : Command → Bool
is_well_command c = (nat_le 1 c.session && nat_lt c.session (2 ^ 32)) && is_well_act c.act
