-- Each command that a JSON value is, is well.
use Rattle.std.proofs.Common.{◌≡◌, ℕ, sym, Bool, true, false, ◌&&◌, List, ◌∷◌, length, Option, Some, None, option_map, option_and_then, cond, refl, subst}
use Rattle.std.specs.Prelude.{codes, bytes_eq, IfSome}
use Rattle.std.specs.List.{list_all}
use Rattle.serde_json.specs.Data.{Data, null, boolean, number, string, array, object, Num, Items, no_items, item}
use Rattle.serde_json.specs.Find.{get, at, as_array, as_bool, as_str, as_number, as_i64, as_u64}
use Rattle.iv_rows.specs.Cell.{Cell, num, text}
use Rattle.iv_rows.specs.Columns.{Column}
use Rattle.iv_rows.specs.Names.{is_name}
use Rattle.iv_rows.specs.Texts.{is_well, is_well_cell}
use Rattle.iv_machine.specs.Act as machine
use Rattle.iv_machine.specs.Refusing.{rows_in}
use Rattle.iv_machine.specs.Parts.{is_group, is_positive, is_between}
use Rattle.iv_machine.specs.Well.{is_grantee, is_well_entry, is_well_act, is_well_command}
use Rattle.iv_access.specs.declared.privilege.Privilege.{Privilege}
use Rattle.iv_access.specs.declared.policy.PolicyCommand.{PolicyCommand}
use Rattle.iv_access.specs.declared.policy.PolicyCommand.TheVariants as policy_command
use Rattle.iv_request.specs.declared.forms.Word.{Word}
use Rattle.iv_request.specs.declared.forms.Word.TheVariants.{Begin, Finish, CreateRole, CreateTable, CreateView, Grant, Revoke, GrantRole, RevokeRole, RowSecurity, CreatePolicy, DropPolicy, Write, Subscribe, Unsubscribe}
use Rattle.iv_request.specs.Forms.{Form, form_of, has, has_its_keys}
use Rattle.iv_request.specs.Request.{passing, each, list_at, name_at, text_at, is_schema, columns_at, column_of, privileges_at, privilege_of, cell_of, bool_at, given_or, found_or, list_of, row_of, update_of, op_at, positive_of, copies_at, entry, entry_of, row_security_of, policy_command_of, grantee_of, grantees_of, everyone, text_if_at, Scope, scope, scope_at, policy, policy_at, policy_of, has_its_texts, create_policy_of, drop_policy_of, entries_at, begin_of, create_role_of, create_table_of, create_view_of, grantee_named, grantee_at, Granting, granting, granting_of, grant_by, revoke_by, group_at, MembershipNames, membership, membership_of, grant_role_by, revoke_role_by, write_of, subscribe_of, unsubscribe_of, act_for, act_of_form, asked_act, is_session, session_of, command, request}
use Rattle.iv_request.proofs.Keys.{both_true}

-- ---- what holds of a value that there may be

mapped : {X Y : Type 0} (P : X → Type 0) (Q : Y → Type 0) (f : X → Y) (o : Option X) → IfSome o P → ((x : X) → P x → Q (f x)) → IfSome (option_map f o) Q
mapped P Q f None h k = tt
mapped P Q f (Some x) h k = k x h

bound : {X Y : Type 0} (P : X → Type 0) (Q : Y → Type 0) (f : X → Option Y) (o : Option X) → IfSome o P → ((x : X) → P x → IfSome (f x) Q) → IfSome (option_and_then f o) Q
bound P Q f None h k = tt
bound P Q f (Some x) h k = k x h

chosen : {X : Type 0} (P : X → Type 0) (b : Bool) (x y : Option X) → IfSome x P → IfSome y P → IfSome (cond b x y) P
chosen P true x y h k = h
chosen P false x y h k = k

passes_by : {X : Type 0} (P : X → Type 0) (t : X → Bool) (x : X) (b : Bool) → t x ≡ b → P x → IfSome (cond b (Some x) None) (λ y. (t y ≡ true) × P y)
passes_by P t x true e h = (e, h)
passes_by P t x false e h = tt

passes : {X : Type 0} (P : X → Type 0) (t : X → Bool) (o : Option X) → IfSome o P → IfSome (option_and_then (passing t) o) (λ y. (t y ≡ true) × P y)
passes P t None h = tt
passes P t (Some x) h = passes_by P t x (t x) refl h

nothing_more : {X : Type 0} (o : Option X) → IfSome o (λ _. Unit {0})
nothing_more None = tt
nothing_more (Some x) = tt

weaker : {X : Type 0} (P Q : X → Type 0) (o : Option X) → IfSome o P → ((x : X) → P x → Q x) → IfSome o Q
weaker P Q None h k = tt
weaker P Q (Some x) h k = k x h

each_passes : {X : Type 0} (p : X → Bool) (f : Data → Option X) → ((d : Data) → IfSome (f d) (λ x. p x ≡ true)) → (ds : Items) → IfSome (each f ds) (λ xs. list_all p xs ≡ true)
each_passes p f h no_items = refl
each_passes {X} p f h (item d ds) =
    bound (λ (x : X). p x ≡ true) (λ (xs : List X). list_all p xs ≡ true) (λ x. option_map (λ xs. x ∷ xs) (each f ds)) (f d) (h d)
    (λ x px. mapped (λ (xs : List X). list_all p xs ≡ true) (λ (xs : List X). list_all p xs ≡ true) (λ xs. x ∷ xs) (each f ds) (each_passes p f h ds) (λ xs q. both_true (p x) (list_all p xs) px q))

given_well : {X : Type 0} (P : X → Type 0) (x : X) (f : Data → Option X) (o : Option Data) → P x → ((v : Data) → IfSome (f v) P) → IfSome (given_or x f o) P
given_well P x f None p h = p
given_well P x f (Some d) p h = h d

-- ---- the parts of requests

name_well : (key : List ℕ) (d : Data) → IfSome (name_at key d) (λ s. is_name s ≡ true)
name_well key d = weaker (λ (s : List ℕ). (is_name s ≡ true) × Unit {0}) (λ (s : List ℕ). is_name s ≡ true) (name_at key d) (passes (λ (s : List ℕ). Unit {0}) is_name (text_at key d) (nothing_more (text_at key d))) (λ s h. h.0)

group_well : (key : List ℕ) (d : Data) → IfSome (group_at key d) (λ s. is_group s ≡ true)
group_well key d = weaker (λ (s : List ℕ). (is_group s ≡ true) × Unit {0}) (λ (s : List ℕ). is_group s ≡ true) (group_at key d) (passes (λ (s : List ℕ). Unit {0}) is_group (text_at key d) (nothing_more (text_at key d))) (λ s h. h.0)

columns_well : (d : Data) → IfSome (columns_at d) (λ cs. is_schema cs ≡ true)
columns_well d = weaker (λ (cs : List Column). (is_schema cs ≡ true) × Unit {0}) (λ (cs : List Column). is_schema cs ≡ true) (columns_at d) (passes (λ (cs : List Column). Unit {0}) is_schema (list_at column_of (codes "columns") d) (nothing_more (list_at column_of (codes "columns") d))) (λ cs h. h.0)

privileges_well : (d : Data) → IfSome (privileges_at d) (λ ps. is_between 1 4 (length ps) ≡ true)
privileges_well d = weaker (λ (ps : List Privilege). (is_between 1 4 (length ps) ≡ true) × Unit {0}) (λ (ps : List Privilege). is_between 1 4 (length ps) ≡ true) (privileges_at d) (passes (λ (ps : List Privilege). Unit {0}) (λ ps. is_between 1 4 (length ps)) (list_at privilege_of (codes "privileges") d) (nothing_more (list_at privilege_of (codes "privileges") d))) (λ ps h. h.0)

cell_by : (t : Cell) → IfSome (passing is_well_cell t) (λ c. is_well_cell c ≡ true)
cell_by t = weaker (λ (c : Cell). (is_well_cell c ≡ true) × Unit {0}) (λ (c : Cell). is_well_cell c ≡ true) (passing is_well_cell t) (passes (λ (c : Cell). Unit {0}) is_well_cell (Some t) tt) (λ c h. h.0)

number_well : (n : Num) → IfSome (option_map num (as_i64 n)) (λ c. is_well_cell c ≡ true)
number_well n = mapped (λ _. Unit {0}) (λ (c : Cell). is_well_cell c ≡ true) num (as_i64 n) (nothing_more (as_i64 n)) (λ z h. refl)

cell_well : (d : Data) → IfSome (cell_of d) (λ c. is_well_cell c ≡ true)
cell_well null = tt
cell_well (boolean b) = refl
cell_well (number n) = number_well n
cell_well (string s) = cell_by (text s)
cell_well (array ds) = tt
cell_well (object ms) = tt

list_well : {X : Type 0} (p : X → Bool) (f : Data → Option X) → ((d : Data) → IfSome (f d) (λ x. p x ≡ true)) → (key : List ℕ) (d : Data) → IfSome (list_at f key d) (λ xs. list_all p xs ≡ true)
list_well {X} p f h key d = let o : Option Items = option_and_then as_array (get key d) in bound (λ (ds : Items). Unit {0}) (λ (xs : List X). list_all p xs ≡ true) (each f) o (nothing_more o) (λ ds _. each_passes p f h ds)

row_well : (d : Data) → IfSome (row_of d) (λ row. is_well row ≡ true)
row_well d = bound (λ (ds : Items). Unit {0}) (λ (row : List Cell). is_well row ≡ true) (each cell_of) (as_array d) (nothing_more (as_array d)) (λ ds _. each_passes is_well_cell cell_of cell_well ds)

row_there : (o : Option Data) → IfSome (option_and_then row_of o) (λ row. is_well row ≡ true)
row_there o = bound (λ (d : Data). Unit {0}) (λ (row : List Cell). is_well row ≡ true) row_of o (nothing_more o) (λ d _. row_well d)

abbrev IsWellOp : machine.Op → Type 0
IsWellOp op = list_all is_well (rows_in op) ≡ true

update_well : (d : Data) → IfSome (update_of d) IsWellOp
update_well d =
    chosen IsWellOp _ _ None
    (bound (λ (row : List Cell). is_well row ≡ true) IsWellOp (λ old. option_map (machine.update old) (option_and_then row_of (at 1 d))) (option_and_then row_of (at 0 d)) (row_there (at 0 d))
    (λ old p. mapped (λ (row : List Cell). is_well row ≡ true) IsWellOp (machine.update old) (option_and_then row_of (at 1 d)) (row_there (at 1 d))
    (λ new q. both_true (is_well old) (is_well new && true) p (both_true (is_well new) true q refl))))
    tt

op_well : (d : Data) → IfSome (op_at d) IsWellOp
op_well d =
    chosen IsWellOp (has (codes "insert") d) _ _ (mapped (λ (row : List Cell). is_well row ≡ true) IsWellOp machine.insert (option_and_then row_of (get (codes "insert") d)) (row_there (get (codes "insert") d)) (λ row p. both_true (is_well row) true p refl))
    (chosen IsWellOp (has (codes "delete") d) _ _ (mapped (λ (row : List Cell). is_well row ≡ true) IsWellOp machine.delete (option_and_then row_of (get (codes "delete") d)) (row_there (get (codes "delete") d)) (λ row p. both_true (is_well row) true p refl))
    (bound (λ (x : Data). Unit {0}) IsWellOp update_of (get (codes "update") d) (nothing_more (get (codes "update") d)) (λ x _. update_well x)))

-- a value at a key that need not be there
found_well : {X : Type 0} (P : X → Type 0) (x : X) (f : Data → Option X) (key : List ℕ) (d : Data) → P x → ((v : Data) → IfSome (f v) P) → IfSome (found_or x f key d) P
found_well P x f key d p h = given_well P x f (get key d) p h

pub is_positive-positive_of : (d : Data) → IfSome (positive_of d) (λ n. is_positive n ≡ true)
is_positive-positive_of d =
    let o : Option ℕ = option_and_then as_u64 (as_number d) in
    weaker (λ (n : ℕ). (is_positive n ≡ true) × Unit {0}) (λ (n : ℕ). is_positive n ≡ true) (positive_of d) (passes (λ (n : ℕ). Unit {0}) is_positive o (nothing_more o)) (λ n h. h.0)

entry_well : (d : Data) → IfSome (entry_of d) (λ e. is_well_entry e ≡ true)
entry_well d =
    chosen (λ (e : machine.Entry). is_well_entry e ≡ true) _ _ None
    (bound (λ (s : List ℕ). is_name s ≡ true) (λ (e : machine.Entry). is_well_entry e ≡ true) (λ rel. option_and_then (λ op. option_map (entry rel op) (copies_at d)) (op_at d)) (name_at (codes "on") d) (name_well (codes "on") d)
    (λ rel p. bound IsWellOp (λ (e : machine.Entry). is_well_entry e ≡ true) (λ op. option_map (entry rel op) (copies_at d)) (op_at d) (op_well d)
    (λ op q. mapped (λ (n : ℕ). is_positive n ≡ true) (λ (e : machine.Entry). is_well_entry e ≡ true) (entry rel op) (copies_at d) (found_well (λ (n : ℕ). is_positive n ≡ true) 1 positive_of (codes "copies") d refl is_positive-positive_of)
    (λ n r. both_true (is_name rel) (list_all is_well (rows_in op) && is_positive n) p (both_true (list_all is_well (rows_in op)) (is_positive n) q r)))))
    tt

entries_well : (d : Data) → IfSome (entries_at d) (λ es. (is_between 1 1000 (length es) ≡ true) × (list_all is_well_entry es ≡ true))
entries_well d = passes (λ (es : List machine.Entry). list_all is_well_entry es ≡ true) (λ es. is_between 1 1000 (length es)) (list_at entry_of (codes "entries") d) (list_well is_well_entry entry_of entry_well (codes "entries") d)

-- ---- requests

abbrev IsWellAct : machine.Act → Type 0
IsWellAct a = is_well_act a ≡ true

begin_well : (d : Data) → IfSome (begin_of d) IsWellAct
begin_well d = mapped (λ (s : List ℕ). is_name s ≡ true) IsWellAct machine.begin (name_at (codes "role") d) (name_well (codes "role") d) (λ s h. h)

create_role_well : (d : Data) → IfSome (create_role_of d) IsWellAct
create_role_well d = mapped (λ (s : List ℕ). is_name s ≡ true) IsWellAct machine.create_role (name_at (codes "name") d) (name_well (codes "name") d) (λ s h. h)

create_table_well : (d : Data) → IfSome (create_table_of d) IsWellAct
create_table_well d =
    bound (λ (s : List ℕ). is_name s ≡ true) IsWellAct (λ name. option_and_then (λ owner. option_map (machine.create_table name owner) (columns_at d)) (name_at (codes "owner") d)) (name_at (codes "name") d) (name_well (codes "name") d)
    (λ name p. bound (λ (s : List ℕ). is_name s ≡ true) IsWellAct (λ owner. option_map (machine.create_table name owner) (columns_at d)) (name_at (codes "owner") d) (name_well (codes "owner") d)
    (λ owner q. mapped (λ (cs : List Column). is_schema cs ≡ true) IsWellAct (machine.create_table name owner) (columns_at d) (columns_well d)
    (λ cs r. both_true (is_name name) (is_name owner && is_schema cs) p (both_true (is_name owner) (is_schema cs) q r))))

create_view_well : (d : Data) → IfSome (create_view_of d) IsWellAct
create_view_well d =
    let t : Option (List ℕ) = text_at (codes "query") d in
    bound (λ (s : List ℕ). is_name s ≡ true) IsWellAct (λ name. option_and_then (λ owner. option_map (machine.create_view name owner) t) (name_at (codes "owner") d)) (name_at (codes "name") d) (name_well (codes "name") d)
    (λ name p. bound (λ (s : List ℕ). is_name s ≡ true) IsWellAct (λ owner. option_map (machine.create_view name owner) t) (name_at (codes "owner") d) (name_well (codes "owner") d)
    (λ owner q. mapped (λ (s : List ℕ). Unit {0}) IsWellAct (machine.create_view name owner) t (nothing_more t) (λ query _. both_true (is_name name) (is_name owner) p q)))

abbrev IsWellGrantee : Option (List ℕ) → Type 0
IsWellGrantee to = is_grantee to ≡ true

named_well : (s : List ℕ) → IfSome (grantee_named s) IsWellGrantee
named_well s =
    chosen IsWellGrantee (bytes_eq s (codes "public")) (Some None) (option_map Some (passing is_name s)) refl
    (mapped (λ (n : List ℕ). (is_name n ≡ true) × Unit {0}) IsWellGrantee Some (passing is_name s) (passes (λ (n : List ℕ). Unit {0}) is_name (Some s) tt) (λ n h. h.0))

grantee_well : (d : Data) → IfSome (grantee_at d) IsWellGrantee
grantee_well d = bound (λ (s : List ℕ). Unit {0}) IsWellGrantee grantee_named (text_at (codes "to") d) (nothing_more (text_at (codes "to") d)) (λ s _. named_well s)

-- what a grant and a revoke of these names keep
abbrev IsWellGranting : Granting → Type 0
IsWellGranting g = is_well_act (grant_by g) ≡ true

granting_well : (d : Data) → IfSome (granting_of d) IsWellGranting
granting_well d =
    bound (λ (s : List ℕ). is_name s ≡ true) IsWellGranting (λ rel. option_and_then (λ to. option_map (granting rel to) (privileges_at d)) (grantee_at d)) (name_at (codes "on") d) (name_well (codes "on") d)
    (λ rel p. bound IsWellGrantee IsWellGranting (λ to. option_map (granting rel to) (privileges_at d)) (grantee_at d) (grantee_well d)
    (λ to q. mapped (λ (ps : List Privilege). is_between 1 4 (length ps) ≡ true) IsWellGranting (granting rel to) (privileges_at d) (privileges_well d)
    (λ ps r. both_true (is_name rel) (is_between 1 4 (length ps) && is_grantee to) p (both_true (is_between 1 4 (length ps)) (is_grantee to) r q))))

grant_well : (d : Data) → IfSome (option_map grant_by (granting_of d)) IsWellAct
grant_well d = mapped IsWellGranting IsWellAct grant_by (granting_of d) (granting_well d) (λ g h. h)

revoke_well : (d : Data) → IfSome (option_map revoke_by (granting_of d)) IsWellAct
revoke_well d = mapped IsWellGranting IsWellAct revoke_by (granting_of d) (granting_well d) (λ g h. h)

-- what a grant and a revoke of a role keep
abbrev IsWellMembership : MembershipNames → Type 0
IsWellMembership m = is_well_act (grant_role_by m) ≡ true

membership_well : (d : Data) → IfSome (membership_of d) IsWellMembership
membership_well d =
    bound (λ (s : List ℕ). is_group s ≡ true) IsWellMembership (λ role. option_map (membership role) (name_at (codes "to") d)) (group_at (codes "role") d) (group_well (codes "role") d)
    (λ role p. mapped (λ (s : List ℕ). is_name s ≡ true) IsWellMembership (membership role) (name_at (codes "to") d) (name_well (codes "to") d) (λ to q. both_true (is_group role) (is_name to) p q))

grant_role_well : (d : Data) → IfSome (option_map grant_role_by (membership_of d)) IsWellAct
grant_role_well d = mapped IsWellMembership IsWellAct grant_role_by (membership_of d) (membership_well d) (λ m h. h)

revoke_role_well : (d : Data) → IfSome (option_map revoke_role_by (membership_of d)) IsWellAct
revoke_role_well d = mapped IsWellMembership IsWellAct revoke_role_by (membership_of d) (membership_well d) (λ m h. h)

row_security_well : (d : Data) → IfSome (row_security_of d) IsWellAct
row_security_well d =
    bound (λ (s : List ℕ). is_name s ≡ true) IsWellAct (λ rel. option_and_then (λ enable. option_map (machine.row_security rel enable) (bool_at (codes "force") d)) (bool_at (codes "enable") d)) (name_at (codes "on") d) (name_well (codes "on") d)
    (λ rel p. bound (λ (b : Bool). Unit {0}) IsWellAct (λ enable. option_map (machine.row_security rel enable) (bool_at (codes "force") d)) (bool_at (codes "enable") d) (nothing_more (bool_at (codes "enable") d))
    (λ enable _. mapped (λ (b : Bool). Unit {0}) IsWellAct (machine.row_security rel enable) (bool_at (codes "force") d) (nothing_more (bool_at (codes "force") d)) (λ force _. p)))

-- 1 to 16 grantees, each of them PUBLIC or a name
abbrev AreGrantees : List (Option (List ℕ)) → Type 0
AreGrantees to = (is_between 1 16 (length to) ≡ true) × (list_all is_grantee to ≡ true)

grantee_of_well : (d : Data) → IfSome (grantee_of d) IsWellGrantee
grantee_of_well d = bound (λ (s : List ℕ). Unit {0}) IsWellGrantee grantee_named (as_str d) (nothing_more (as_str d)) (λ s _. named_well s)

grantees_well : (d : Data) → IfSome (grantees_of d) AreGrantees
grantees_well d =
    passes (λ (to : List (Option (List ℕ))). list_all is_grantee to ≡ true) (λ to. is_between 1 16 (length to)) (list_of grantee_of d)
    (bound (λ (ds : Items). Unit {0}) (λ (to : List (Option (List ℕ))). list_all is_grantee to ≡ true) (each grantee_of) (as_array d) (nothing_more (as_array d)) (λ ds _. each_passes is_grantee grantee_of grantee_of_well ds))

abbrev IsWellScope : Scope → Type 0
IsWellScope s = AreGrantees s.to

scope_well : (d : Data) → IfSome (scope_at d) IsWellScope
scope_well d =
    let b : Option Bool = found_or false as_bool (codes "restrictive") d in
    let c : Option PolicyCommand = found_or policy_command.All policy_command_of (codes "command") d in
    bound (λ (b : Bool). Unit {0}) IsWellScope _ b (nothing_more b)
    (λ restrictive _. bound (λ (c : PolicyCommand). Unit {0}) IsWellScope (λ command. option_map (scope restrictive command) (found_or everyone grantees_of (codes "to") d)) c (nothing_more c)
    (λ command _. mapped AreGrantees IsWellScope (scope restrictive command) (found_or everyone grantees_of (codes "to") d)
    (found_well AreGrantees everyone grantees_of (codes "to") d (refl, refl) grantees_well) (λ to p. p)))

-- the names and the grantees of the policy are well
abbrev IsWellBut : machine.PolicyText → Type 0
IsWellBut p = (is_name p.rel ≡ true) × ((is_name p.name ≡ true) × AreGrantees p.to)

policy_at_well : (s : Scope) (d : Data) → IsWellScope s → IfSome (policy_at s d) IsWellBut
policy_at_well s d h =
    let u : Option (Option (List ℕ)) = text_if_at (codes "using") d in
    let k : Option (Option (List ℕ)) = text_if_at (codes "check") d in
    bound (λ (n : List ℕ). is_name n ≡ true) IsWellBut _ (name_at (codes "on") d) (name_well (codes "on") d)
    (λ rel p. bound (λ (n : List ℕ). is_name n ≡ true) IsWellBut (λ name. option_and_then (λ using. option_map (policy rel name s using) k) u) (name_at (codes "name") d) (name_well (codes "name") d)
    (λ name q. bound (λ (t : Option (List ℕ)). Unit {0}) IsWellBut (λ using. option_map (policy rel name s using) k) u (nothing_more u)
    (λ using _. mapped (λ (t : Option (List ℕ)). Unit {0}) IsWellBut (policy rel name s using) k (nothing_more k) (λ check _. (p, (q, h))))))

policy_well : (d : Data) → IfSome (policy_of d) IsWellBut
policy_well d = bound IsWellScope IsWellBut (λ s. policy_at s d) (scope_at d) (scope_well d) (λ s h. policy_at_well s d h)

create_policy_well : (d : Data) → IfSome (create_policy_of d) IsWellAct
create_policy_well d =
    mapped (λ (p : machine.PolicyText). (has_its_texts p ≡ true) × IsWellBut p) IsWellAct machine.create_policy (option_and_then (passing has_its_texts) (policy_of d)) (passes IsWellBut has_its_texts (policy_of d) (policy_well d))
    (λ p h. both_true (is_name p.rel) _ h.1.0 (both_true (is_name p.name) _ h.1.1.0 (both_true (is_between 1 16 (length p.to)) _ h.1.1.1.0 (both_true (list_all is_grantee p.to) (has_its_texts p) h.1.1.1.1 h.0))))

drop_policy_well : (d : Data) → IfSome (drop_policy_of d) IsWellAct
drop_policy_well d =
    bound (λ (s : List ℕ). is_name s ≡ true) IsWellAct (λ rel. option_map (machine.drop_policy rel) (name_at (codes "name") d)) (name_at (codes "on") d) (name_well (codes "on") d)
    (λ rel p. mapped (λ (s : List ℕ). is_name s ≡ true) IsWellAct (machine.drop_policy rel) (name_at (codes "name") d) (name_well (codes "name") d) (λ name q. both_true (is_name rel) (is_name name) p q))

write_well : (d : Data) → IfSome (write_of d) IsWellAct
write_well d =
    mapped (λ (es : List machine.Entry). (is_between 1 1000 (length es) ≡ true) × (list_all is_well_entry es ≡ true)) IsWellAct machine.write (entries_at d) (entries_well d)
    (λ es h. both_true (is_between 1 1000 (length es)) (list_all is_well_entry es) h.0 h.1)

subscribe_well : (d : Data) → IfSome (subscribe_of d) IsWellAct
subscribe_well d = mapped (λ (s : List ℕ). is_name s ≡ true) IsWellAct machine.subscribe (name_at (codes "on") d) (name_well (codes "on") d) (λ s h. h)

unsubscribe_well : (d : Data) → IfSome (unsubscribe_of d) IsWellAct
unsubscribe_well d =
    let o : Option Data = get (codes "sub") d in
    mapped (λ (n : ℕ). is_positive n ≡ true) IsWellAct machine.unsubscribe (option_and_then positive_of o)
    (bound (λ (x : Data). Unit {0}) (λ (n : ℕ). is_positive n ≡ true) positive_of o (nothing_more o) (λ x _. is_positive-positive_of x)) (λ n h. h)

act_well : (word : Word) (d : Data) → IfSome (act_for word d) IsWellAct
act_well Begin d = begin_well d
act_well Finish d = refl
act_well CreateRole d = create_role_well d
act_well CreateTable d = create_table_well d
act_well CreateView d = create_view_well d
act_well Grant d = grant_well d
act_well Revoke d = revoke_well d
act_well GrantRole d = grant_role_well d
act_well RevokeRole d = revoke_role_well d
act_well RowSecurity d = row_security_well d
act_well CreatePolicy d = create_policy_well d
act_well DropPolicy d = drop_policy_well d
act_well Write d = write_well d
act_well Subscribe d = subscribe_well d
act_well Unsubscribe d = unsubscribe_well d

asked_well : (d : Data) → IfSome (asked_act d) IsWellAct
asked_well d =
    let o : Option Form = option_and_then form_of (text_at (codes "do") d) in
    bound (λ (f : Form). Unit {0}) IsWellAct (act_of_form d) o (nothing_more o)
    (λ f _. chosen IsWellAct (has_its_keys f d) (act_for f.word d) None (act_well f.word d) tt)

session_well : (d : Data) → IfSome (session_of d) (λ n. is_session n ≡ true)
session_well d =
    let o : Option ℕ = option_and_then as_u64 (option_and_then as_number (get (codes "session") d)) in
    weaker (λ (n : ℕ). (is_session n ≡ true) × Unit {0}) (λ (n : ℕ). is_session n ≡ true) (session_of d) (passes (λ (n : ℕ). Unit {0}) is_session o (nothing_more o)) (λ n h. h.0)

pub is_well_command-request : (d : Data) → IfSome (request d) (λ c. is_well_command c ≡ true)
is_well_command-request d =
    bound (λ (n : ℕ). is_session n ≡ true) (λ (c : machine.Command). is_well_command c ≡ true) (λ n. option_map (command n) (asked_act d)) (session_of d) (session_well d)
    (λ n p. mapped IsWellAct (λ (c : machine.Command). is_well_command c ≡ true) (command n) (asked_act d) (asked_well d) (λ a q. both_true (is_session n) (is_well_act a) p q))

-- the command that was read
pub is_well_command-of_request : (d : Data) (c : machine.Command) → Some c ≡ request d → is_well_command c ≡ true
is_well_command-of_request d c e =
    let P : Option machine.Command → Type 0 = λ o. IfSome o (λ k. is_well_command k ≡ true) in subst P (sym e) (is_well_command-request d)

-- the act that was read
pub is_well_act-act_for : (word : Word) (d : Data) (a : machine.Act) → Some a ≡ act_for word d → is_well_act a ≡ true
is_well_act-act_for word d a e = let P : Option machine.Act → Type 0 = λ o. IfSome o IsWellAct in subst P (sym e) (act_well word d)
