-- Each command that is well is asked by its JSON value.
use Rattle.std.proofs.Common.{◌≡◌, ℕ, ◌&&◌, Bool, true, false, pos, negsuc, List, [], ◌∷◌, length, map, Option, Some, None, option_map, option_and_then, ap, ◌∙◌, sym, refl}
use Rattle.std.specs.Prelude.{codes, bytes_eq}
use Rattle.std.proofs.lemmas.Slice.Eq.{bytes_eq-Decides}
use Rattle.iv_rows.specs.Names.{reserved}
use Rattle.std.specs.List.{list_all}
use Rattle.serde_json.specs.Data.{Data}
use Rattle.serde_json.specs.View.{items_of}
use Rattle.iv_rows.specs.Cell.{Cell, num, text, flag}
use Rattle.iv_rows.specs.Columns.{Column, has_columns, has_distinct_names}
use Rattle.iv_rows.specs.Names.{is_name}
use Rattle.iv_rows.specs.Texts.{is_well, is_well_cell, is_well_text}
use Rattle.iv_rows.specs.declared.value.Kind.{Kind}
use Rattle.iv_rows.specs.declared.value.Kind.TheVariants.{Int, Text, Flag}
use Rattle.iv_machine.specs.Act.{Act, begin, finish, create_role, create_table, create_view, grant, revoke, grant_role, revoke_role, row_security, create_policy, drop_policy, subscribe, unsubscribe, write, Command, Entry, Op, insert, delete, update}
use Rattle.iv_machine.specs.Refusing.{rows_in}
use Rattle.iv_machine.specs.Parts.{has_texts, is_between, is_group, is_positive}
use Rattle.iv_machine.specs.Well.{is_grantee, is_well_entry, is_well_act, is_well_command}
use Rattle.iv_access.specs.declared.policy.PolicyCommand.{PolicyCommand}
use Rattle.iv_access.specs.declared.policy.PolicyCommand.TheVariants as policy_command
use Rattle.iv_access.specs.declared.privilege.Privilege.{Privilege}
use Rattle.iv_access.specs.declared.privilege.Privilege.TheVariants.{Select, Insert, Update, Delete}
use Rattle.iv_request.specs.Asked.{column_data, privilege_data, entry_data, grantee_text, grantee_data, policy_command_text, act_data, command_data, is_small, is_small_entry, is_small_act}
use Rattle.iv_request.specs.Request.{each, cell_of, column_of, privilege_of, entry, entry_of, grantee_named, grantee_of, policy_command_named, Scope, scope, policy, is_schema, is_session, command, request}
use Rattle.iv_command.specs.RowTexts.{cell_data}
use Rattle.iv_request.proofs.Keys.{left_true, right_true}

each_asked : {X : Type 0} (p : X → Bool) (f : Data → Option X) (g : X → Data) → ((x : X) → p x ≡ true → f (g x) ≡ Some x) → (xs : List X) → list_all p xs ≡ true → each f (items_of (map g xs)) ≡ Some xs
each_asked p f g k [] h = refl
each_asked p f g k (x ∷ xs) h =
    ap (option_and_then (λ y. option_map (λ ys. y ∷ ys) (each f (items_of (map g xs))))) (k x (left_true (p x) (list_all p xs) h))
    ∙ ap (option_map (λ ys. x ∷ ys)) (each_asked p f g k xs (right_true (p x) (list_all p xs) h))

all_true : {X : Type 0} (xs : List X) → list_all (λ _. true) xs ≡ true
all_true [] = refl
all_true (x ∷ xs) = all_true xs

both_pass : {X : Type 0} (p q : X → Bool) (xs : List X) → list_all p xs ≡ true → list_all q xs ≡ true → list_all (λ x. p x && q x) xs ≡ true
both_pass p q [] h k = refl
both_pass p q (x ∷ xs) h k = rw (left_true (p x) (list_all p xs) h, left_true (q x) (list_all q xs) k) (both_pass p q xs (right_true (p x) (list_all p xs) h) (right_true (q x) (list_all q xs) k))

-- ---- parts

cell_asked : (c : Cell) → (is_well_cell c && is_small c) ≡ true → cell_of (cell_data c) ≡ Some c
cell_asked (num (pos n)) h = rw h refl
cell_asked (num (negsuc n)) h = refl
cell_asked (text t) h = rw (left_true (is_well_text t) true h) refl
cell_asked (flag b) h = refl

cells_asked : (row : List Cell) → is_well row ≡ true → list_all is_small row ≡ true → each cell_of (items_of (map cell_data row)) ≡ Some row
cells_asked row h k = each_asked (λ c. is_well_cell c && is_small c) cell_of cell_data cell_asked row (both_pass is_well_cell is_small row h k)

kind_asked : (name : List ℕ) (k : Kind) → is_name name ≡ true → column_of (column_data (record { name = name; kind = k })) ≡ Some (record { name = name; kind = k })
kind_asked name Int h = rw h refl
kind_asked name Text h = rw h refl
kind_asked name Flag h = rw h refl

column_asked : (c : Column) → is_name c.name ≡ true → column_of (column_data c) ≡ Some c
column_asked c h = kind_asked c.name c.kind h

columns_asked : (cs : List Column) → is_schema cs ≡ true → each column_of (items_of (map column_data cs)) ≡ Some cs
columns_asked cs h = each_asked (λ c. is_name c.name) column_of column_data column_asked cs (right_true _ _ (left_true (has_columns cs) (has_distinct_names cs) h))

privilege_asked : (p : Privilege) → privilege_of (privilege_data p) ≡ Some p
privilege_asked Select = refl
privilege_asked Insert = refl
privilege_asked Update = refl
privilege_asked Delete = refl

privileges_asked : (ps : List Privilege) → each privilege_of (items_of (map privilege_data ps)) ≡ Some ps
privileges_asked ps = each_asked (λ _. true) privilege_of privilege_data (λ p _. privilege_asked p) ps (all_true ps)

inserted_asked : (rel : List ℕ) (row : List Cell) (copies : ℕ) → is_name rel ≡ true → is_well row ≡ true → list_all is_small row ≡ true → is_positive copies ≡ true → entry_of (entry_data (entry rel (insert row) copies)) ≡ Some (entry rel (insert row) copies)
inserted_asked rel row copies h k s p = rw (h, cells_asked row k s, p) refl

deleted_asked : (rel : List ℕ) (row : List Cell) (copies : ℕ) → is_name rel ≡ true → is_well row ≡ true → list_all is_small row ≡ true → is_positive copies ≡ true → entry_of (entry_data (entry rel (delete row) copies)) ≡ Some (entry rel (delete row) copies)
deleted_asked rel row copies h k s p = rw (h, cells_asked row k s, p) refl

updated_asked : (rel : List ℕ) (old new : List Cell) (copies : ℕ) → is_name rel ≡ true → is_well old ≡ true → is_well new ≡ true → list_all is_small old ≡ true → list_all is_small new ≡ true → is_positive copies ≡ true → entry_of (entry_data (entry rel (update old new) copies)) ≡ Some (entry rel (update old new) copies)
updated_asked rel old new copies h k l s t p = rw (h, cells_asked old k s, cells_asked new l t, p) refl

op_asked : (rel : List ℕ) (op : Op) (copies : ℕ) → is_name rel ≡ true → list_all is_well (rows_in op) ≡ true → list_all (list_all is_small) (rows_in op) ≡ true → is_positive copies ≡ true → entry_of (entry_data (entry rel op copies)) ≡ Some (entry rel op copies)
op_asked rel (insert row) copies h k s p = inserted_asked rel row copies h (left_true (is_well row) true k) (left_true (list_all is_small row) true s) p
op_asked rel (delete row) copies h k s p = deleted_asked rel row copies h (left_true (is_well row) true k) (left_true (list_all is_small row) true s) p
op_asked rel (update old new) copies h k s p =
    updated_asked rel old new copies h (left_true (is_well old) _ k) (left_true (is_well new) true (right_true (is_well old) _ k))
    (left_true (list_all is_small old) _ s) (left_true (list_all is_small new) true (right_true (list_all is_small old) _ s)) p

entry_asked : (e : Entry) → (is_well_entry e && is_small_entry e) ≡ true → entry_of (entry_data e) ≡ Some e
entry_asked e h =
    let w = left_true (is_well_entry e) (is_small_entry e) h in
    let r = right_true (is_name e.rel) _ w in
    op_asked e.rel e.op e.copies (left_true (is_name e.rel) _ w) (left_true (list_all is_well (rows_in e.op)) _ r) (right_true (is_well_entry e) (is_small_entry e) h) (right_true (list_all is_well (rows_in e.op)) _ r)

entries_asked : (es : List Entry) → list_all is_well_entry es ≡ true → list_all is_small_entry es ≡ true → each entry_of (items_of (map entry_data es)) ≡ Some es
entries_asked es h k = each_asked (λ e. is_well_entry e && is_small_entry e) entry_of entry_data entry_asked es (both_pass is_well_entry is_small_entry es h k)

-- `public` is no name
abbrev is_public_name : Bool
is_public_name = is_name (codes "public")

public_reserved : is_public_name ≡ false
unfolding reserved
public_reserved = refl

decide_by : (name : List ℕ) (b : Bool) → bytes_eq name (codes "public") ≡ b → is_name name ≡ true → b ≡ false
decide_by name false e h = refl
decide_by name true e h =
    let same : name ≡ codes "public" = (bytes_eq-Decides name (codes "public")).0 e in
    let bad : true ≡ false = sym h ∙ (ap is_name same ∙ public_reserved) in cc

not_public : (name : List ℕ) → is_name name ≡ true → bytes_eq name (codes "public") ≡ false
not_public name h = decide_by name (bytes_eq name (codes "public")) refl h

grantee_asked : (to : Option (List ℕ)) → is_grantee to ≡ true → grantee_named (grantee_text to) ≡ Some to
grantee_asked None h = refl
grantee_asked (Some name) h = rw (not_public name h, h) refl

grantees_asked : (to : List (Option (List ℕ))) → list_all is_grantee to ≡ true → each grantee_of (items_of (map grantee_data to)) ≡ Some to
grantees_asked to h = each_asked is_grantee grantee_of grantee_data grantee_asked to h

policy_command_asked : (c : PolicyCommand) → policy_command_named (policy_command_text c) ≡ Some c
policy_command_asked policy_command.All = refl
policy_command_asked policy_command.Select = refl
policy_command_asked policy_command.Insert = refl
policy_command_asked policy_command.Update = refl
policy_command_asked policy_command.Delete = refl

-- ---- requests

policy_asked : (n : ℕ) (rel name : List ℕ) (s : Scope) (using check : Option (List ℕ)) → is_session n ≡ true → is_name rel ≡ true → is_name name ≡ true → is_between 1 16 (length s.to) ≡ true → list_all is_grantee s.to ≡ true → has_texts s.command using check ≡ true
    → request (act_data n (create_policy (policy rel name s using check))) ≡ Some (command n (create_policy (policy rel name s using check)))
policy_asked n rel name s None None h r m few to t = rw (h, policy_command_asked s.command, grantees_asked s.to to, few, r, m, t) refl
policy_asked n rel name s None (Some k) h r m few to t = rw (h, policy_command_asked s.command, grantees_asked s.to to, few, r, m, t) refl
policy_asked n rel name s (Some u) None h r m few to t = rw (h, policy_command_asked s.command, grantees_asked s.to to, few, r, m, t) refl
policy_asked n rel name s (Some u) (Some k) h r m few to t = rw (h, policy_command_asked s.command, grantees_asked s.to to, few, r, m, t) refl

act_asked : (n : ℕ) (a : Act) → is_session n ≡ true → is_well_act a ≡ true → is_small_act a ≡ true → request (act_data n a) ≡ Some (command n a)
act_asked n (begin role) s h p = rw (s, h) refl
act_asked n (create_role name) s h p = rw (s, h) refl
act_asked n (create_table name owner columns) s h p =
    let r = right_true (is_name name) _ h in
    let k = right_true (is_name owner) _ r in
    rw (s, left_true (is_name name) _ h, left_true (is_name owner) _ r, columns_asked columns k, k) refl
act_asked n (grant rel privileges to) s h p =
    let r = right_true (is_name rel) _ h in
    let few = is_between 1 4 (length privileges) in
    rw (s, left_true (is_name rel) _ h, grantee_asked to (right_true few _ r), privileges_asked privileges, left_true few _ r) refl
act_asked n (revoke rel privileges to) s h p =
    let r = right_true (is_name rel) _ h in
    let few = is_between 1 4 (length privileges) in
    rw (s, left_true (is_name rel) _ h, grantee_asked to (right_true few _ r), privileges_asked privileges, left_true few _ r) refl
act_asked n (grant_role role to) s h p = rw (s, left_true (is_group role) _ h, right_true (is_group role) _ h) refl
act_asked n (revoke_role role to) s h p = rw (s, left_true (is_group role) _ h, right_true (is_group role) _ h) refl
act_asked n (write entries) s h p =
    let c = left_true (is_between 1 1000 (length entries)) _ h in
    rw (s, entries_asked entries (right_true (is_between 1 1000 (length entries)) _ h) p, c) refl
act_asked n (subscribe rel) s h p = rw (s, h) refl
act_asked n finish s h p = rw s refl
act_asked n (create_view name owner query) s h p = rw (s, left_true (is_name name) _ h, right_true (is_name name) _ h) refl
act_asked n (row_security rel enable force) s h p = rw (s, h) refl
act_asked n (create_policy q) s h p =
    let r = right_true (is_name q.rel) _ h in
    let g = right_true (is_name q.name) _ r in
    let t = right_true (is_between 1 16 (length q.to)) _ g in
    policy_asked n q.rel q.name (scope q.restrictive q.command q.to) q.using_text q.check_text s (left_true (is_name q.rel) _ h) (left_true (is_name q.name) _ r) (left_true (is_between 1 16 (length q.to)) _ g) (left_true (list_all is_grantee q.to) _ t) (right_true (list_all is_grantee q.to) _ t)
act_asked n (drop_policy rel name) s h p = rw (s, left_true (is_name rel) _ h, right_true (is_name rel) _ h) refl
act_asked n (unsubscribe number) s h p = rw (s, h) refl

pub request-command_data : (c : Command) → is_well_command c ≡ true → is_small_act c.act ≡ true → request (command_data c) ≡ Some c
request-command_data c h p = act_asked c.session c.act (left_true (is_session c.session) (is_well_act c.act) h) (right_true (is_session c.session) (is_well_act c.act) h) p
