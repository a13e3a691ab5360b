-- Values that differ in the order of their keys alone are the same request.
use Rattle.std.proofs.Common.{◌≡◌, ◌∙◌, ℕ, zero, suc, ◌==◌, List, [], ◌∷◌, length, Bool, true, false, ◌&&◌, cond, Option, Some, None, option_map, option_and_then, Ordering, Less, Equal, Greater, refl, sym, ap, subst}
use Rattle.std.proofs.lemmas.Map.Text.{is_eq-slice_cmp}
use Rattle.std.proofs.lemmas.Slice.Eq.{bytes_eq-Decides}
use Rattle.std.specs.Cmp.{both_ways}
use Rattle.std.specs.List.{list_all}
use Rattle.std.specs.Ordering.{match_ordering, is_eq}
use Rattle.std.specs.Prelude.{codes, is_some}
use Rattle.serde_json.specs.Data.{Data, null, boolean, number, string, array, object, Items, Members, no_members, member}
use Rattle.serde_json.specs.Events.{items_len}
use Rattle.serde_json.specs.Find.{get, get_member, get_item, at, as_array, as_bool, as_object, as_str, as_number, as_u64}
use Rattle.iv_rows.specs.Names.{is_name}
use Rattle.iv_machine.specs.Act as machine
use Rattle.iv_machine.specs.Parts.{is_between, is_group, is_positive}
use Rattle.iv_access.specs.declared.policy.PolicyCommand.TheVariants as policy_command
use Rattle.iv_request.specs.declared.forms.Word.{Word}
use Rattle.iv_request.specs.declared.forms.Word.TheVariants.{Begin, Finish, CreateRole, CreateTable, CreateView, Grant, Revoke, GrantRole, RevokeRole, RowSecurity, CreatePolicy, DropPolicy, Write, Subscribe, Unsubscribe}
use Rattle.iv_request.specs.Forms.{Form, form_of, is_among, keys_pass, keys_pass_of, has_only, keys_of, has_its_keys}
use Rattle.iv_request.specs.Order.{HaveTheSame, IsReordered, same, lists, objects, AreReordered, no_more, one_more, IsFound, neither, both}
use Rattle.iv_request.specs.Reading.{asked_by, reading_by, reading_of, value_of}
use Rattle.iv_request.specs.Request.{passing, each, list_of, count, name_at, positive_of, given_or, kind_of, column, column_of, is_schema, columns_at, privilege_named, privilege_of, cell_of, row_of, update_of, op_at, does_at, entry, entry_of, grantee_named, granting, granting_of, grant_by, revoke_by, membership, membership_of, grant_role_by, revoke_role_by, policy_command_named, policy_command_of, grantee_of, grantees_of, everyone, some_text, scope, scope_at, policy, policy_of, has_its_texts, act_for, is_session, command, request}
use Rattle.iv_request.proofs.Keys.{compare, same-compare_Equal, left_true, right_true, both_true}

-- ---- which keys there are

-- a key that is there passes, where all do
passes_at : (test : List ℕ → Bool) (ms : Members) → keys_pass test ms ≡ true → (q : List ℕ) → is_some (get_member q ms) ≡ true → test q ≡ true
passes_at test no_members h q e = cc
passes_at test (member k d ms) h q e = part (compare q k) refl (passes_at test ms (right_true (test k) (keys_pass test ms) h) q) e
  where
    part : (o : Ordering) → compare q k ≡ o → (is_some (get_member q ms) ≡ true → test q ≡ true) → is_some (match_ordering o (get_member q ms) (Some d) (get_member q ms)) ≡ true → test q ≡ true
    part Less c rest f = rest f
    part Equal c rest f = ap test (same-compare_Equal q k c) ∙ left_true (test k) (keys_pass test ms) h
    part Greater c rest f = rest f

own_key : (k : List ℕ) (d : Data) (ms : Members) → is_some (get_member k (member k d ms)) ≡ true
own_key k d ms = part (compare k k) (is_eq-slice_cmp k k ∙ (bytes_eq-Decides k k).1 refl)
  where
    part : (o : Ordering) → is_eq o ≡ true → is_some (match_ordering o (get_member k ms) (Some d) (get_member k ms)) ≡ true
    part Less e = cc
    part Equal e = refl
    part Greater e = cc

still_there : (q k : List ℕ) (d : Data) (ms : Members) → is_some (get_member q ms) ≡ true → is_some (get_member q (member k d ms)) ≡ true
still_there q k d ms h = part (compare q k)
  where
    part : (o : Ordering) → is_some (match_ordering o (get_member q ms) (Some d) (get_member q ms)) ≡ true
    part Less = h
    part Equal = refl
    part Greater = h

-- all pass, where each that is there does
all_at : (test : List ℕ → Bool) (ms : Members) → ((q : List ℕ) → is_some (get_member q ms) ≡ true → test q ≡ true) → keys_pass test ms ≡ true
all_at test no_members h = refl
all_at test (member k d ms) h = both_true (test k) (keys_pass test ms) (h k (own_key k d ms)) (all_at test ms (λ q e. h q (still_there q k d ms e)))

same_keys : (test : List ℕ → Bool) (ms ns : Members) → ((q : List ℕ) → is_some (get_member q ms) ≡ is_some (get_member q ns)) → keys_pass test ms ≡ keys_pass test ns
same_keys test ms ns h =
    both_ways (keys_pass test ms) (keys_pass test ns) (λ e. all_at test ns (λ q f. passes_at test ms e q (h q ∙ f)))
    (λ e. all_at test ms (λ q f. passes_at test ns e q (sym (h q) ∙ f)))

-- the members of an object, and none of another value
abbrev members_in : Option Members → Members
members_in None = no_members
members_in (Some ms) = ms

passing_in : (test : List ℕ → Bool) (o : Option Members) → keys_pass_of test o ≡ keys_pass test (members_in o)
passing_in test None = refl
passing_in test (Some ms) = refl

get_in : (q : List ℕ) (d : Data) → get q d ≡ get_member q (members_in (as_object d))
get_in q null = refl
get_in q (boolean b) = refl
get_in q (number n) = refl
get_in q (string s) = refl
get_in q (array ds) = refl
get_in q (object ms) = refl

-- ---- values that are found

abbrev Alike : Data → Data → Type 0
Alike d e = (key : List ℕ) → IsFound (get key d) (get key e)

found_same : (o : Option Data) → IsFound o o
found_same None = neither
found_same (Some d) = both d d (same d)

found_equal : (o p : Option Data) → o ≡ p → IsFound o p
found_equal o p h = subst (λ x. IsFound o x) h (found_same o)

found : {d e : Data} → IsReordered d e → Alike d e
found (same d) key = found_same (get key d)
found (lists ds es h) key = neither
found (objects ms ns h) key = h key

there_kept : {o p : Option Data} → IsFound o p → is_some o ≡ is_some p
there_kept neither = refl
there_kept (both d e h) = refl

-- f reads a value alike, whatever the order of keys
abbrev Keeps : {X : Type 0} → (Data → X) → Type 0
Keeps f = (d e : Data) → IsReordered d e → f d ≡ f e

then_kept : {X : Type 0} (f : Data → Option X) → Keeps f → {o p : Option Data} → IsFound o p → option_and_then f o ≡ option_and_then f p
then_kept f k neither = refl
then_kept f k (both d e h) = k d e h

given_kept : {X : Type 0} (x : X) (f : Data → Option X) → Keeps f → {o p : Option Data} → IsFound o p → given_or x f o ≡ given_or x f p
given_kept x f k neither = refl
given_kept x f k (both d e h) = k d e h

str_kept : {d e : Data} → IsReordered d e → as_str d ≡ as_str e
str_kept (same d) = refl
str_kept (lists ds es h) = refl
str_kept (objects ms ns h) = refl

bool_kept : {d e : Data} → IsReordered d e → as_bool d ≡ as_bool e
bool_kept (same d) = refl
bool_kept (lists ds es h) = refl
bool_kept (objects ms ns h) = refl

number_kept : {d e : Data} → IsReordered d e → as_number d ≡ as_number e
number_kept (same d) = refl
number_kept (lists ds es h) = refl
number_kept (objects ms ns h) = refl

text_kept : {o p : Option Data} → IsFound o p → option_and_then as_str o ≡ option_and_then as_str p
text_kept h = then_kept as_str (λ d e. str_kept) h

positive_kept : {d e : Data} → IsReordered d e → positive_of d ≡ positive_of e
positive_kept h i = option_and_then (passing is_positive) (option_and_then as_u64 (number_kept h i))

-- ---- lists

each_kept : {X : Type 0} (f : Data → Option X) → Keeps f → {ds es : Items} → AreReordered ds es → each f ds ≡ each f es
each_kept f k no_more = refl
each_kept f k (one_more d e ds es h hs) = λ i. option_and_then (λ x. option_map (λ xs. x ∷ xs) (each_kept f k hs i)) (k d e h i)

list_kept : {X : Type 0} (f : Data → Option X) → Keeps f → {d e : Data} → IsReordered d e → list_of f d ≡ list_of f e
list_kept f k (same d) = refl
list_kept f k (lists ds es h) = each_kept f k h
list_kept f k (objects ms ns h) = refl

list_found : {X : Type 0} (f : Data → Option X) → Keeps f → {o p : Option Data} → IsFound o p → option_and_then (each f) (option_and_then as_array o) ≡ option_and_then (each f) (option_and_then as_array p)
list_found f k neither = refl
list_found f k (both d e h) = list_kept f k h

len_kept : {ds es : Items} → AreReordered ds es → items_len ds ≡ items_len es
len_kept no_more = refl
len_kept (one_more d e ds es h hs) = ap suc (len_kept hs)

count_kept : {d e : Data} → IsReordered d e → count d ≡ count e
count_kept (same d) = refl
count_kept (lists ds es h) = len_kept h
count_kept (objects ms ns h) = refl

item_kept : {ds es : Items} → AreReordered ds es → (n : ℕ) → IsFound (get_item n ds) (get_item n es)
item_kept no_more n = neither
item_kept (one_more d e ds es h hs) zero = both d e h
item_kept (one_more d e ds es h hs) (suc n) = item_kept hs n

at_kept : {d e : Data} → IsReordered d e → (n : ℕ) → IsFound (at n d) (at n e)
at_kept (same d) n = found_same (at n d)
at_kept (lists ds es h) n = item_kept h n
at_kept (objects ms ns h) n = neither

-- ---- the parts of requests

column_kept : {d e : Data} → IsReordered d e → column_of d ≡ column_of e
column_kept h i =
    cond (count_kept h i == 2)
    (option_and_then (λ name. option_map (column name) (option_and_then kind_of (text_kept (at_kept h 1) i))) (option_and_then (passing is_name) (text_kept (at_kept h 0) i)))
    None

privilege_kept : {d e : Data} → IsReordered d e → privilege_of d ≡ privilege_of e
privilege_kept h i = option_and_then privilege_named (str_kept h i)

cell_kept : {d e : Data} → IsReordered d e → cell_of d ≡ cell_of e
cell_kept (same d) = refl
cell_kept (lists ds es h) = refl
cell_kept (objects ms ns h) = refl

row_kept : {o p : Option Data} → IsFound o p → option_and_then row_of o ≡ option_and_then row_of p
row_kept h = then_kept row_of (λ d e. list_kept cell_of (λ d e. cell_kept)) h

update_kept : {d e : Data} → IsReordered d e → update_of d ≡ update_of e
update_kept h i = cond (count_kept h i == 2) (option_and_then (λ old. option_map (machine.update old) (row_kept (at_kept h 1) i)) (row_kept (at_kept h 0) i)) None

name_kept : (key : List ℕ) (d e : Data) → Alike d e → name_at key d ≡ name_at key e
name_kept key d e h i = option_and_then (passing is_name) (text_kept (h key) i)

only_kept : (keys : List (List ℕ)) (d e : Data) → Alike d e → has_only keys d ≡ has_only keys e
only_kept keys d e h =
    passing_in (is_among keys) (as_object d)
    ∙ same_keys (is_among keys) (members_in (as_object d)) (members_in (as_object e)) (λ q. ap is_some (sym (get_in q d)) ∙ there_kept (h q) ∙ ap is_some (get_in q e))
    ∙ sym (passing_in (is_among keys) (as_object e))

op_kept : (d e : Data) → Alike d e → op_at d ≡ op_at e
op_kept d e h i =
    cond (there_kept (h (codes "insert")) i) (option_map machine.insert (row_kept (h (codes "insert")) i))
    (cond (there_kept (h (codes "delete")) i) (option_map machine.delete (row_kept (h (codes "delete")) i))
    (then_kept update_of (λ d e. update_kept) (h (codes "update")) i))

does_kept : (d e : Data) → Alike d e → does_at d ≡ does_at e
does_kept d e h i = cond (there_kept (h (codes "insert")) i) (codes "insert") (cond (there_kept (h (codes "delete")) i) (codes "delete") (codes "update"))

entry_alike : (d e : Data) → Alike d e → entry_of d ≡ entry_of e
entry_alike d e h =
    let keys : List ℕ → List (List ℕ) = λ does. codes "on" ∷ does ∷ codes "copies" ∷ [] in
    let only : has_only (keys (does_at d)) d ≡ has_only (keys (does_at e)) e = ap (λ does. has_only (keys does) d) (does_kept d e h) ∙ only_kept (keys (does_at e)) d e h in
    λ i. cond (only i)
    (option_and_then (λ rel. option_and_then (λ op. option_map (entry rel op) (given_kept 1 positive_of (λ d e. positive_kept) (h (codes "copies")) i)) (op_kept d e h i)) (name_kept (codes "on") d e h i))
    None

entry_kept : {d e : Data} → IsReordered d e → entry_of d ≡ entry_of e
entry_kept {d} {e} h = entry_alike d e (found h)

grantee_kept : {d e : Data} → IsReordered d e → grantee_of d ≡ grantee_of e
grantee_kept h i = option_and_then grantee_named (str_kept h i)

grantees_kept : {d e : Data} → IsReordered d e → grantees_of d ≡ grantees_of e
grantees_kept h i = option_and_then (passing (λ to. is_between 1 16 (length to))) (list_kept grantee_of (λ d e. grantee_kept) h i)

policy_command_kept : {d e : Data} → IsReordered d e → policy_command_of d ≡ policy_command_of e
policy_command_kept h i = option_and_then policy_command_named (str_kept h i)

some_text_kept : {d e : Data} → IsReordered d e → some_text d ≡ some_text e
some_text_kept h i = option_map Some (str_kept h i)

-- ---- requests

columns_kept : (d e : Data) → Alike d e → columns_at d ≡ columns_at e
columns_kept d e h i = option_and_then (passing is_schema) (list_found column_of (λ d e. column_kept) (h (codes "columns")) i)

granting_kept : (d e : Data) → Alike d e → granting_of d ≡ granting_of e
granting_kept d e h i =
    option_and_then
    (λ rel. option_and_then
    (λ to. option_map (granting rel to) (option_and_then (passing (λ ps. is_between 1 4 (length ps))) (list_found privilege_of (λ d e. privilege_kept) (h (codes "privileges")) i)))
    (option_and_then grantee_named (text_kept (h (codes "to")) i)))
    (name_kept (codes "on") d e h i)

membership_kept : (d e : Data) → Alike d e → membership_of d ≡ membership_of e
membership_kept d e h i = option_and_then (λ role. option_map (membership role) (name_kept (codes "to") d e h i)) (option_and_then (passing is_group) (text_kept (h (codes "role")) i))

scope_kept : (d e : Data) → Alike d e → scope_at d ≡ scope_at e
scope_kept d e h i =
    option_and_then
    (λ restrictive. option_and_then
    (λ command. option_map (scope restrictive command) (given_kept everyone grantees_of (λ d e. grantees_kept) (h (codes "to")) i))
    (given_kept policy_command.All policy_command_of (λ d e. policy_command_kept) (h (codes "command")) i))
    (given_kept false as_bool (λ d e. bool_kept) (h (codes "restrictive")) i)

policy_kept : (d e : Data) → Alike d e → policy_of d ≡ policy_of e
policy_kept d e h i =
    option_and_then
    (λ s. option_and_then
    (λ rel. option_and_then
    (λ name. option_and_then
    (λ using. option_map (policy rel name s using) (given_kept None some_text (λ d e. some_text_kept) (h (codes "check")) i))
    (given_kept None some_text (λ d e. some_text_kept) (h (codes "using")) i))
    (name_kept (codes "name") d e h i))
    (name_kept (codes "on") d e h i))
    (scope_kept d e h i)

act_kept : (word : Word) (d e : Data) → Alike d e → act_for word d ≡ act_for word e
act_kept Begin d e h = λ i. option_map machine.begin (name_kept (codes "role") d e h i)
act_kept Finish d e h = refl
act_kept CreateRole d e h = λ i. option_map machine.create_role (name_kept (codes "name") d e h i)
act_kept CreateTable d e h = λ i. option_and_then (λ name. option_and_then (λ owner. option_map (machine.create_table name owner) (columns_kept d e h i)) (name_kept (codes "owner") d e h i)) (name_kept (codes "name") d e h i)
act_kept CreateView d e h = λ i. option_and_then (λ name. option_and_then (λ owner. option_map (machine.create_view name owner) (text_kept (h (codes "query")) i)) (name_kept (codes "owner") d e h i)) (name_kept (codes "name") d e h i)
act_kept Grant d e h = λ i. option_map grant_by (granting_kept d e h i)
act_kept Revoke d e h = λ i. option_map revoke_by (granting_kept d e h i)
act_kept GrantRole d e h = λ i. option_map grant_role_by (membership_kept d e h i)
act_kept RevokeRole d e h = λ i. option_map revoke_role_by (membership_kept d e h i)
act_kept RowSecurity d e h = λ i. option_and_then (λ rel. option_and_then (λ enable. option_map (machine.row_security rel enable) (then_kept as_bool (λ d e. bool_kept) (h (codes "force")) i)) (then_kept as_bool (λ d e. bool_kept) (h (codes "enable")) i)) (name_kept (codes "on") d e h i)
act_kept CreatePolicy d e h = λ i. option_map machine.create_policy (option_and_then (passing has_its_texts) (policy_kept d e h i))
act_kept DropPolicy d e h = λ i. option_and_then (λ rel. option_map (machine.drop_policy rel) (name_kept (codes "name") d e h i)) (name_kept (codes "on") d e h i)
act_kept Write d e h = λ i. option_map machine.write (option_and_then (passing (λ es. is_between 1 1000 (length es))) (list_found entry_of (λ d e. entry_kept) (h (codes "entries")) i))
act_kept Subscribe d e h = λ i. option_map machine.subscribe (name_kept (codes "on") d e h i)
act_kept Unsubscribe d e h = λ i. option_map machine.unsubscribe (then_kept positive_of (λ d e. positive_kept) (h (codes "sub")) i)

its_keys_kept : (f : Form) (d e : Data) → Alike d e → has_its_keys f d ≡ has_its_keys f e
its_keys_kept f d e h i = list_all (λ key. there_kept (h key) i) f.required && only_kept (keys_of f) d e h i

request_alike : (d e : Data) → Alike d e → request d ≡ request e
request_alike d e h i =
    option_and_then
    (λ n. option_map (command n) (option_and_then (λ f. cond (its_keys_kept f d e h i) (act_kept f.word d e h i) None) (option_and_then form_of (text_kept (h (codes "do")) i))))
    (option_and_then (passing is_session) (option_and_then as_u64 (then_kept as_number (λ d e. number_kept) (h (codes "session")) i)))

-- the order of the keys of a request
pub request-HaveTheSame : (d e : Data) → HaveTheSame d e → request d ≡ request e
request-HaveTheSame d e h = request_alike d e (λ key. found_equal (get key d) (get key e) (h key))

-- the order of the keys of a request and of the values in it
pub request-IsReordered : (d e : Data) → IsReordered d e → request d ≡ request e
request-IsReordered d e h = request_alike d e (found h)

pub reading_of-IsReordered : (a b : List ℕ) (d e : Data) → value_of a ≡ Some d → value_of b ≡ Some e → IsReordered d e → reading_of a ≡ reading_of b
reading_of-IsReordered a b d e p q h = ap reading_by p ∙ ap asked_by (request-IsReordered d e h) ∙ sym (ap reading_by q)
