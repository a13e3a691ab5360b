-- A client asks what viewd reads of the object in session 1.
use Rattle.iv_message.proofs.Options.{not_Some-None, same_Some}
use Rattle.std.proofs.Common.{◌≡◌, ◌∙◌, ℕ, List, [], ◌∷◌, ◌++◌, Bool, true, false, ◌&&◌, ◌||◌, cond, Option, Some, None, option_map, option_and_then, Ordering, Less, Equal, Greater, nat_cmp, bytes_eq, not, length, refl, sym, ap, subst}
use Rattle.std.proofs.lemmas.Map.Text.{is_eq-slice_cmp}
use Rattle.std.proofs.lemmas.Slice.Eq.{bytes_eq-Decides}
use Rattle.std.specs.Cmp.Lexicographic.{slice_cmp}
use Rattle.std.specs.List.{list_all}
use Rattle.std.specs.Ordering.{match_ordering, is_eq}
use Rattle.std.specs.Prelude.{codes, find, is_some, is_none, IfSome, Result, Ok, Err}
use Rattle.iv_machine.specs.Act as machine
use Rattle.serde_json.specs.Data.{Data, null, boolean, number, string, array, object, Members, no_members, member, put}
use Rattle.serde_json.specs.Find.{get, get_member, as_array, as_bool, as_object, as_str, as_number, as_u64}
use Rattle.serde_json.proofs.Views.{get_member-put, get_member-put_other}
use Rattle.iv_machine.specs.Parts.{is_between, is_group}
use Rattle.iv_machine.specs.Stored.{HasTexts}
use Rattle.iv_machine.specs.Well.{is_well_act, is_well_command}
use Rattle.iv_rows.specs.Names.{is_name}
use Rattle.iv_access.specs.declared.policy.PolicyCommand.TheVariants as policy_command
use Rattle.iv_request.specs.Forms.{Form, forms, form_of, has, is_among, keys_pass, keys_pass_of, has_only, has_its_keys}
use Rattle.iv_request.specs.Request.{passing, each, name_at, text_at, positive_of, given_or, column_of, is_schema, privilege_of, entry_of, grantee_named, granting, granting_of, grant_by, revoke_by, membership, membership_of, grant_role_by, revoke_role_by, policy_command_of, grantees_of, everyone, some_text, scope, scope_at, policy, policy_of, has_its_texts, act_for, act_of_form, is_session, session_of, command, request, columns_at}
use Rattle.iv_request.specs.Values.{natural}
use Rattle.iv_request.specs.declared.forms.Word.{Word}
use Rattle.iv_request.specs.declared.forms.Word.TheVariants.{Begin, Finish, CreateRole, CreateTable, CreateView, Grant, Revoke, GrantRole, RevokeRole, RowSecurity, CreatePolicy, DropPolicy, Write, Subscribe, Unsubscribe}
use Rattle.iv_message.specs.Message as message
use Rattle.iv_message.specs.Message.{IsGivenAct, Message, Why, act_said, missing, unknown, wrong, asked, by_form, by_keys, by_act, clients_form, first_failing, first_of, id_fault, id_of, is_for_clients, is_good_id, is_well_message, keys_fault, keys_of, message_of_value, missing_in, no_json, no_object, no_request, too_long, unknown_in, with_its_id}
use Rattle.iv_message.specs.Meaning.{act_in, in_session, read_in_session, without}

-- ---- keys

differ : (a b : List ℕ) → bytes_eq a b ≡ false → bytes_eq b a ≡ false
differ a b h = part (bytes_eq b a) refl
  where
    part : (x : Bool) → bytes_eq b a ≡ x → x ≡ false
    part false e = refl
    part true e = sym ((bytes_eq-Decides a b).1 (sym ((bytes_eq-Decides b a).0 e))) ∙ h

-- the keys that the two readings look for by themselves
abbrev Own : List (List ℕ)
Own = codes "id" ∷ codes "session" ∷ []

-- another key has the same value with the id left out
without_id : (key : List ℕ) (ms : Members) → bytes_eq (codes "id") key ≡ false → get_member key (without (codes "id") ms) ≡ get_member key ms
without_id key no_members h = refl
without_id key (member k d ms) h = part (without_id key ms h) (bytes_eq k (codes "id")) refl
  where
    other : (o : Ordering) → is_eq o ≡ false → get_member key ms ≡ match_ordering o (get_member key ms) (Some d) (get_member key ms)
    other Less e = refl
    other Equal e = cc
    other Greater e = refl

    kept : get_member key (without (codes "id") ms) ≡ get_member key ms → (o : Ordering) → match_ordering o (get_member key (without (codes "id") ms)) (Some d) (get_member key (without (codes "id") ms)) ≡ match_ordering o (get_member key ms) (Some d) (get_member key ms)
    kept rest Less = rest
    kept rest Equal = refl
    kept rest Greater = rest

    part : get_member key (without (codes "id") ms) ≡ get_member key ms → (b : Bool) → bytes_eq k (codes "id") ≡ b
        → get_member key (cond b (without (codes "id") ms) (member k d (without (codes "id") ms))) ≡ get_member key (member k d ms)
    part rest true e =
        let same : k ≡ codes "id" = (bytes_eq-Decides k (codes "id")).0 e in
        rest ∙ other (slice_cmp nat_cmp key k) (is_eq-slice_cmp key k ∙ (ap (λ x. bytes_eq key x) same ∙ differ (codes "id") key h))
    part rest false e = kept rest (slice_cmp nat_cmp key k)

in_session_at : (key : List ℕ) (d : Data) → is_among Own key ≡ false → get key (in_session d) ≡ get key d
in_session_at key null h = refl
in_session_at key (boolean b) h = refl
in_session_at key (number n) h = refl
in_session_at key (string s) h = refl
in_session_at key (array ds) h = refl
in_session_at key (object ms) h =
    get_member-put_other key (codes "session") (natural 1) (without (codes "id") ms) (λ e. apart (sym (second_false _ _ h) ∙ (bytes_eq-Decides (codes "session") key).1 (sym e)))
    ∙ without_id key ms (first_false _ _ h)
  where
    first_false : (a b : Bool) → (a || (b || false)) ≡ false → a ≡ false
    first_false false b e = refl
    first_false true b e = e

    second_false : (a b : Bool) → (a || (b || false)) ≡ false → b ≡ false
    second_false a false e = refl
    second_false false true e = e
    second_false true true e = e

    apart : false ≡ true → ⊥
    apart e = cc

-- ---- the act is the same, whatever stands at the two keys

abbrev Alike : Data → Data → Type 0
Alike d e = (key : List ℕ) → is_among Own key ≡ false → get key d ≡ get key e

name_same : (key : List ℕ) (d e : Data) → get key d ≡ get key e → name_at key d ≡ name_at key e
name_same key d e h i = option_and_then (passing is_name) (option_and_then as_str (h i))

granting_same : (d e : Data) → Alike d e → granting_of d ≡ granting_of e
granting_same d e h i =
    option_and_then
    (λ rel. option_and_then
    (λ to. option_map (granting rel to) (option_and_then (passing (λ ps. is_between 1 4 (length ps))) (option_and_then (each privilege_of) (option_and_then as_array (h (codes "privileges") refl i)))))
    (option_and_then grantee_named (option_and_then as_str (h (codes "to") refl i))))
    (name_same (codes "on") d e (h (codes "on") refl) i)

membership_same : (d e : Data) → Alike d e → membership_of d ≡ membership_of e
membership_same d e h i =
    option_and_then (λ role. option_map (membership role) (name_same (codes "to") d e (h (codes "to") refl) i))
    (option_and_then (passing is_group) (option_and_then as_str (h (codes "role") refl i)))

scope_same : (d e : Data) → Alike d e → scope_at d ≡ scope_at e
scope_same d e h i =
    option_and_then
    (λ restrictive. option_and_then (λ command. option_map (scope restrictive command) (given_or everyone grantees_of (h (codes "to") refl i)))
    (given_or policy_command.All policy_command_of (h (codes "command") refl i)))
    (given_or false as_bool (h (codes "restrictive") refl i))

policy_same : (d e : Data) → Alike d e → policy_of d ≡ policy_of e
policy_same d e h i =
    option_and_then
    (λ s. option_and_then
    (λ rel. option_and_then
    (λ name. option_and_then (λ using. option_map (policy rel name s using) (given_or None some_text (h (codes "check") refl i))) (given_or None some_text (h (codes "using") refl i)))
    (name_same (codes "name") d e (h (codes "name") refl) i))
    (name_same (codes "on") d e (h (codes "on") refl) i))
    (scope_same d e h i)

columns_same : (d e : Data) → Alike d e → columns_at d ≡ columns_at e
columns_same d e h i = option_and_then (passing is_schema) (option_and_then (each column_of) (option_and_then as_array (h (codes "columns") refl i)))

act_same : (word : Word) (d e : Data) → Alike d e → act_for word d ≡ act_for word e
act_same Begin d e h i = option_map machine.begin (name_same (codes "role") d e (h (codes "role") refl) i)
act_same Finish d e h i = Some machine.finish
act_same CreateRole d e h i = option_map machine.create_role (name_same (codes "name") d e (h (codes "name") refl) i)
act_same CreateTable d e h i =
    option_and_then (λ name. option_and_then (λ owner. option_map (machine.create_table name owner) (columns_same d e h i)) (name_same (codes "owner") d e (h (codes "owner") refl) i))
    (name_same (codes "name") d e (h (codes "name") refl) i)
act_same CreateView d e h i =
    option_and_then (λ name. option_and_then (λ owner. option_map (machine.create_view name owner) (option_and_then as_str (h (codes "query") refl i))) (name_same (codes "owner") d e (h (codes "owner") refl) i))
    (name_same (codes "name") d e (h (codes "name") refl) i)
act_same Grant d e h i = option_map grant_by (granting_same d e h i)
act_same Revoke d e h i = option_map revoke_by (granting_same d e h i)
act_same GrantRole d e h i = option_map grant_role_by (membership_same d e h i)
act_same RevokeRole d e h i = option_map revoke_role_by (membership_same d e h i)
act_same RowSecurity d e h i =
    option_and_then
    (λ rel. option_and_then (λ enable. option_map (machine.row_security rel enable) (option_and_then as_bool (h (codes "force") refl i))) (option_and_then as_bool (h (codes "enable") refl i)))
    (name_same (codes "on") d e (h (codes "on") refl) i)
act_same CreatePolicy d e h i = option_map machine.create_policy (option_and_then (passing has_its_texts) (policy_same d e h i))
act_same DropPolicy d e h i =
    option_and_then (λ rel. option_map (machine.drop_policy rel) (name_same (codes "name") d e (h (codes "name") refl) i)) (name_same (codes "on") d e (h (codes "on") refl) i)
act_same Write d e h i = option_map machine.write (option_and_then (passing (λ es. is_between 1 1000 (length es))) (option_and_then (each entry_of) (option_and_then as_array (h (codes "entries") refl i))))
act_same Subscribe d e h i = option_map machine.subscribe (name_same (codes "on") d e (h (codes "on") refl) i)
act_same Unsubscribe d e h i = option_map machine.unsubscribe (option_and_then positive_of (h (codes "sub") refl i))

-- ---- the keys are the same, whatever stands at the two

-- a form has neither key
abbrev has_neither : Form → Bool
has_neither f = list_all (λ key. not (is_among Own key)) f.required

found_passes : (p test : Form → Bool) (fs : List Form) (f : Form) → list_all p fs ≡ true → find test fs ≡ Some f → p f ≡ true
found_passes p test [] f h e = absurd (not_Some-None f e)
found_passes p test (g ∷ fs) f h e = part (found_passes p test fs f (right (p g) (list_all p fs) h)) (test g) e
  where
    left : (a b : Bool) → (a && b) ≡ true → a ≡ true
    left true b k = refl
    left false b k = k

    right : (a b : Bool) → (a && b) ≡ true → b ≡ true
    right true b k = k
    right false b k = cc

    part : (find test fs ≡ Some f → p f ≡ true) → (b : Bool) → cond b (Some g) (find test fs) ≡ Some f → p f ≡ true
    part rest true i = subst (λ x. p x ≡ true) (same_Some g f i) (left (p g) (list_all p fs) h)
    part rest false i = rest i

neither_in : (text : List ℕ) (f : Form) → form_of text ≡ Some f → has_neither f ≡ true
neither_in text f e = found_passes has_neither (λ g. bytes_eq g.text text) forms f refl e

required_same : (keys : List (List ℕ)) (d : Data) → list_all (λ key. not (is_among Own key)) keys ≡ true → list_all (λ key. has key (in_session d)) keys ≡ list_all (λ key. has key d) keys
required_same [] d h = refl
required_same (key ∷ keys) d h = part (required_same keys d) (is_among Own key) refl h
  where
    part : (list_all (λ k. not (is_among Own k)) keys ≡ true → list_all (λ k. has k (in_session d)) keys ≡ list_all (λ k. has k d) keys) → (b : Bool) → is_among Own key ≡ b → (not b && list_all (λ k. not (is_among Own k)) keys) ≡ true
        → (has key (in_session d) && list_all (λ k. has k (in_session d)) keys) ≡ (has key d && list_all (λ k. has k d) keys)
    part rest true e k = cc
    part rest false e k = λ i. is_some (in_session_at key d e i) && rest k i

-- a member that comes, or takes the place of one, with a key that passes
put_passes : (test : List ℕ → Bool) (k : List ℕ) (d : Data) (ms : Members) → test k ≡ true → keys_pass test (put k d ms) ≡ keys_pass test ms
put_passes test k d no_members h = λ i. h i && true
put_passes test k d (member l e ms) h = part (put_passes test k d ms h) (slice_cmp nat_cmp k l) refl
  where
    part : keys_pass test (put k d ms) ≡ keys_pass test ms → (o : Ordering) → slice_cmp nat_cmp k l ≡ o
        → keys_pass test (match_ordering o (member k d (member l e ms)) (member l d ms) (member l e (put k d ms))) ≡ (test l && keys_pass test ms)
    part rest Less c i = h i && (test l && keys_pass test ms)
    part rest Equal c i = test l && keys_pass test ms
    part rest Greater c i = test l && rest i

-- with the id left out fewer keys have to pass
without_passes : (keys : List (List ℕ)) (ms : Members)
    → keys_pass (is_among (codes "do" ∷ codes "session" ∷ keys)) (without (codes "id") ms) ≡ keys_pass (is_among (codes "do" ∷ codes "id" ∷ codes "session" ∷ keys)) ms
without_passes keys no_members = refl
without_passes keys (member k d ms) = part (without_passes keys ms) (bytes_eq k (codes "id")) refl
  where
    any_do : (a b : Bool) → b ≡ true → true ≡ (a || (b || is_among (codes "session" ∷ keys) k))
    any_do true b h i = true
    any_do false b h i = sym h i || is_among (codes "session" ∷ keys) k

    part : keys_pass (is_among (codes "do" ∷ codes "session" ∷ keys)) (without (codes "id") ms) ≡ keys_pass (is_among (codes "do" ∷ codes "id" ∷ codes "session" ∷ keys)) ms → (b : Bool) → bytes_eq k (codes "id") ≡ b
        → keys_pass (is_among (codes "do" ∷ codes "session" ∷ keys)) (cond b (without (codes "id") ms) (member k d (without (codes "id") ms)))
        ≡ (is_among (codes "do" ∷ codes "id" ∷ codes "session" ∷ keys) k && keys_pass (is_among (codes "do" ∷ codes "id" ∷ codes "session" ∷ keys)) ms)
    part rest true e =
        rest
        ∙ (λ i. any_do (bytes_eq (codes "do") k) (bytes_eq (codes "id") k) ((bytes_eq-Decides (codes "id") k).1 (sym ((bytes_eq-Decides k (codes "id")).0 e))) i
        && keys_pass (is_among (codes "do" ∷ codes "id" ∷ codes "session" ∷ keys)) ms)
    part rest false e = λ i. (bytes_eq (codes "do") k || (sym (differ k (codes "id") e) i || is_among (codes "session" ∷ keys) k)) && rest i

only_same : (keys : List (List ℕ)) (d : Data) → has_only (codes "do" ∷ codes "session" ∷ keys) (in_session d) ≡ has_only (codes "do" ∷ codes "id" ∷ codes "session" ∷ keys) d
only_same keys null = refl
only_same keys (boolean b) = refl
only_same keys (number n) = refl
only_same keys (string s) = refl
only_same keys (array ds) = refl
only_same keys (object ms) = put_passes (is_among (codes "do" ∷ codes "session" ∷ keys)) (codes "session") (natural 1) (without (codes "id") ms) refl ∙ without_passes keys ms

abbrev among_few : List (List ℕ) → List ℕ → Bool
among_few keys = is_among (codes "do" ∷ codes "id" ∷ keys)

abbrev among_more : List (List ℕ) → List ℕ → Bool
among_more keys = is_among (codes "do" ∷ codes "id" ∷ codes "session" ∷ keys)

abbrev has_session : Members → Bool
has_session ms = is_some (get_member (codes "session") ms)

-- without a member of the key `session` as many keys pass as with that key among them
abbrev PassesWithout : List (List ℕ) → Members → Type 0
PassesWithout keys ms = keys_pass (among_few keys) ms ≡ (not (has_session ms) && keys_pass (among_more keys) ms)

without_session : (keys : List (List ℕ)) (ms : Members) → is_among keys (codes "session") ≡ false → PassesWithout keys ms
without_session keys no_members h = refl
without_session keys (member k d ms) h = part (without_session keys ms h) (bytes_eq k (codes "session")) refl
  where
    swap : (a b y : Bool) → (a && (b && y)) ≡ (b && (a && y))
    swap true b y = refl
    swap false true y = refl
    swap false false y = refl

    other : (o : Ordering) → is_eq o ≡ false → get_member (codes "session") ms ≡ match_ordering o (get_member (codes "session") ms) (Some d) (get_member (codes "session") ms)
    other Less e = refl
    other Equal e = cc
    other Greater e = refl

    part : PassesWithout keys ms → (b : Bool) → bytes_eq k (codes "session") ≡ b → PassesWithout keys (member k d ms)
    part rest true e = subst (λ x. PassesWithout keys (member x d ms)) (sym ((bytes_eq-Decides k (codes "session")).0 e)) (λ i. h i && keys_pass (among_few keys) ms)
    part rest false e =
        let unlike : bytes_eq (codes "session") k ≡ false = differ k (codes "session") e in
        (λ i. (bytes_eq (codes "do") k || (bytes_eq (codes "id") k || (sym unlike i || is_among keys k))) && rest i)
        ∙ swap (among_more keys k) (not (has_session ms)) (keys_pass (among_more keys) ms)
        ∙ (λ i. not (is_some (other (slice_cmp nat_cmp (codes "session") k) (is_eq-slice_cmp (codes "session") k ∙ unlike) i)) && (among_more keys k && keys_pass (among_more keys) ms))

only_without : (keys : List (List ℕ)) (d : Data) → is_among keys (codes "session") ≡ false → has_only (codes "do" ∷ codes "id" ∷ keys) d
    ≡ (not (has (codes "session") d) && has_only (codes "do" ∷ codes "id" ∷ codes "session" ∷ keys) d)
only_without keys null h = refl
only_without keys (boolean b) h = refl
only_without keys (number n) h = refl
only_without keys (string s) h = refl
only_without keys (array ds) h = refl
only_without keys (object ms) h = without_session keys ms h

-- no form has the key
no_session : (text : List ℕ) (f : Form) → form_of text ≡ Some f → is_among (f.required ++ f.optional) (codes "session") ≡ false
no_session text f e = not_true (is_among (f.required ++ f.optional) (codes "session")) (found_passes (λ g. not (is_among (g.required ++ g.optional) (codes "session"))) (λ g. bytes_eq g.text text) forms f refl e)
  where
    not_true : (b : Bool) → not b ≡ true → b ≡ false
    not_true true h = cc
    not_true false h = refl

-- ---- no reason

none_of : (a b : Option Why) → is_none (first_of a b) ≡ (is_none a && is_none b)
none_of None b = refl
none_of (Some w) b = refl

good_id : (b : Bool) (w : Why) → is_none (cond b None (Some w)) ≡ b
good_id true w = refl
good_id false w = refl

none_missing : (p : List ℕ → Bool) (keys : List (List ℕ)) → is_none (option_map missing (find (λ key. not (p key)) keys)) ≡ list_all p keys
none_missing p [] = refl
none_missing p (key ∷ keys) = part (p key) (none_missing p keys)
  where
    part : (b : Bool) → is_none (option_map missing (find (λ k. not (p k)) keys)) ≡ list_all p keys
        → is_none (option_map missing (cond (not b) (Some key) (find (λ k. not (p k)) keys))) ≡ (b && list_all p keys)
    part true h = h
    part false h = refl

none_failing : (test : List ℕ → Bool) (ms : Members) → is_none (option_map unknown (first_failing test ms)) ≡ keys_pass test ms
none_failing test no_members = refl
none_failing test (member k d ms) = part (test k) (none_failing test ms)
  where
    part : (b : Bool) → is_none (option_map unknown (first_failing test ms)) ≡ keys_pass test ms
        → is_none (option_map unknown (cond b (first_failing test ms) (Some k))) ≡ (b && keys_pass test ms)
    part true h = h
    part false h = refl

none_unknown : (test : List ℕ → Bool) (o : Option Members) → is_none (option_map unknown (option_and_then (first_failing test) o)) ≡ keys_pass_of test o
none_unknown test None = refl
none_unknown test (Some ms) = none_failing test ms

no_fault : (f : Form) (d : Data) → is_none (keys_fault f d) ≡ (is_good_id (get (codes "id") d) && (list_all (λ key. has key d) f.required && has_only (keys_of f) d))
no_fault f d =
    none_of (id_fault d) (first_of (missing_in f d) (unknown_in f d))
    ∙ (λ i. good_id (is_good_id (get (codes "id") d)) (wrong (codes "id") None) i && none_of (missing_in f d) (unknown_in f d) i)
    ∙ (λ i. is_good_id (get (codes "id") d) && (none_missing (λ key. has key d) f.required i && none_unknown (is_among (keys_of f)) (as_object d) i))

act_if : (f : Form) (d : Data) (o : Option Why) → act_in (by_keys f d o) ≡ cond (is_none o) (act_for f.word d) None
act_if f d None = part (act_for f.word d)
  where
    part : (a : Option machine.Act) → act_in (by_act f d a) ≡ a
    part None = refl
    part (Some act) = refl
act_if f d (Some w) = refl

-- ---- both readings

session_is : (ms : Members) → session_of (in_session (object ms)) ≡ Some 1
session_is ms = ap (λ o. option_and_then (passing is_session) (option_and_then as_u64 (option_and_then as_number o))) (get_member-put (codes "session") (natural 1) (without (codes "id") ms))

-- its id, if it has one, is an id, and it names no session
abbrev is_free : Data → Bool
is_free d = is_good_id (get (codes "id") d) && not (has (codes "session") d)

-- the act of a form in both readings
act_read : (text : List ℕ) (f : Form) (d : Data) → form_of text ≡ Some f
    → act_in (by_keys f d (keys_fault f d)) ≡ cond (is_free d) (act_of_form (in_session d) f) None
act_read text f d e =
    let only : Bool = has_only (codes "do" ∷ codes "id" ∷ codes "session" ∷ (f.required ++ f.optional)) d in
    let same : has_its_keys f (in_session d) ≡ (list_all (λ key. has key d) f.required && only) =
    (λ i. required_same f.required d (neither_in text f e) i && only_same (f.required ++ f.optional) d i) in
    act_if f d (keys_fault f d)
    ∙ ap (λ b. cond b (act_for f.word d) None) (no_fault f d)
    ∙ (λ i. cond (is_good_id (get (codes "id") d) && (list_all (λ key. has key d) f.required && only_without (f.required ++ f.optional) d (no_session text f e) i)) (act_for f.word d) None)
    ∙ apart (is_good_id (get (codes "id") d)) (list_all (λ key. has key d) f.required) (not (has (codes "session") d)) only (act_for f.word d)
    ∙ (λ i. cond (is_free d) (cond (sym same i) (sym (act_same f.word (in_session d) d (λ key h. in_session_at key d h)) i) None) None)
  where
    apart : (a b s c : Bool) (o : Option machine.Act) → cond (a && (b && (s && c))) o None ≡ cond (a && s) (cond (b && c) o None) None
    apart true true true c o = refl
    apart true true false c o = refl
    apart true false true c o = refl
    apart true false false c o = refl
    apart false b s c o = refl

abbrev may_ask : Form → Option Form
may_ask = passing (λ f. is_for_clients f.word)

-- only an object has a word
session_read : (d : Data) (text : List ℕ) → text_at (codes "do") d ≡ Some text → session_of (in_session d) ≡ Some 1
session_read null text e = absurd (not_Some-None text e)
session_read (boolean b) text e = absurd (not_Some-None text e)
session_read (number n) text e = absurd (not_Some-None text e)
session_read (string s) text e = absurd (not_Some-None text e)
session_read (array ds) text e = absurd (not_Some-None text e)
session_read (object ms) text e = session_is ms

request_is : (d : Data) (text : List ℕ) (f : Form) → text_at (codes "do") d ≡ Some text → form_of text ≡ Some f
    → request (in_session d) ≡ option_map (command 1) (act_of_form (in_session d) f)
request_is d text f e k =
    let s : Data = in_session d in
    (λ i. option_and_then (λ n. option_map (command n) (option_and_then (act_of_form s) (option_and_then form_of (option_and_then as_str (in_session_at (codes "do") d refl i))))) (session_read d text e i))
    ∙ (λ i. option_map (command 1) (option_and_then (act_of_form s) (option_and_then form_of (e i))))
    ∙ (λ i. option_map (command 1) (option_and_then (act_of_form s) (k i)))

nothing_read : (b : Bool) (o : Option machine.Command) → None ≡ cond (b && false) o None
nothing_read true o = refl
nothing_read false o = refl

mapped_if : (b : Bool) (o : Option machine.Act) → option_map (command 1) (cond b o None) ≡ cond (b && true) (option_map (command 1) o) None
mapped_if true o = refl
mapped_if false o = refl

abbrev Meets : Data → Option Form → Type 0
Meets d o = option_map (command 1) (act_in (by_form d o)) ≡ cond (is_free d && is_some o) (request (in_session d)) None

meets_form : (d : Data) (text : List ℕ) (f : Form) → text_at (codes "do") d ≡ Some text → form_of text ≡ Some f → Meets d (Some f)
meets_form d text f e k =
    ap (option_map (command 1)) (act_read text f d k)
    ∙ mapped_if (is_free d) (act_of_form (in_session d) f)
    ∙ (λ i. cond (is_free d && true) (sym (request_is d text f e k) i) None)

meets_at : (d : Data) (text : List ℕ) (o : Option Form) → text_at (codes "do") d ≡ Some text → form_of text ≡ o → Meets d (option_and_then may_ask o)
meets_at d text None e k = nothing_read (is_free d) (request (in_session d))
meets_at d text (Some f) e k = part (is_for_clients f.word)
  where
    part : (b : Bool) → Meets d (cond b (Some f) None)
    part true = meets_form d text f e k
    part false = nothing_read (is_free d) (request (in_session d))

meets : (d : Data) (t : Option (List ℕ)) → text_at (codes "do") d ≡ t → Meets d (option_and_then may_ask (option_and_then form_of t))
meets d None e = nothing_read (is_free d) (request (in_session d))
meets d (Some text) e = meets_at d text (form_of text) e refl

pub option_map-act_in : (d : Data) → option_map (command 1) (act_in (asked d)) ≡ read_in_session d
option_map-act_in d = meets d (text_at (codes "do") d) refl

-- ---- what is asked is well

-- each command that viewd reads is
abbrev pub ReadsWell : Type 0
ReadsWell = (d : Data) → IfSome (request d) (λ c. is_well_command c ≡ true)

right_true : (a b : Bool) → (a && b) ≡ true → b ≡ true
right_true true b h = h
right_true false b h = cc

well_if : (r : Result machine.Act Why) (id : Option Data) (b : Bool) (d : Data) → ReadsWell → option_map (command 1) (act_in r) ≡ cond b (request d) None → is_well_message (with_its_id id r) ≡ true
well_if (Err w) id b d h e = refl
well_if (Ok act) id true d h e = right_true true (is_well_act act) (subst (λ o. IfSome o (λ c. is_well_command c ≡ true)) (sym e) (h d))
well_if (Ok act) id false d h e = absurd (not_Some-None (command 1 act) (sym e))

object_well : (d : Data) → ReadsWell → is_well_message (with_its_id (id_of d) (asked d)) ≡ true
object_well d h = well_if (asked d) (id_of d) (is_free d && is_some (clients_form d)) (in_session d) h (option_map-act_in d)

pub is_well_message-ReadsWell : (o : Option Data) → ReadsWell → is_well_message (message_of_value o) ≡ true
is_well_message-ReadsWell None h = refl
is_well_message-ReadsWell (Some d) h = part (is_some (as_object d))
  where
    part : (b : Bool) → is_well_message (cond b (with_its_id (id_of d) (asked d)) no_object) ≡ true
    part true = object_well d h
    part false = refl

-- in each session it is a command that a line may give
pub IsGivenAct-HasTexts : (m : Message) → is_well_message m ≡ true → IfSome (act_said m) HasTexts → IfSome (act_said m) IsGivenAct
IsGivenAct-HasTexts no_json w t = tt
IsGivenAct-HasTexts too_long w t = tt
IsGivenAct-HasTexts no_object w t = tt
IsGivenAct-HasTexts (no_request id why) w t = tt
IsGivenAct-HasTexts (message.request id act) w t = λ n s. record { well = λ i. s i && w i; texts = t }

-- ---- keys without a fault

none_is : (o : Option Why) → is_none o ≡ true → o ≡ None
none_is None h = refl
none_is (Some w) h = cc

pub keys_fault-None : (f : Form) (d : Data) → is_good_id (get (codes "id") d) ≡ true → missing_in f d ≡ None → has_only (keys_of f) d ≡ true → None ≡ keys_fault f d
keys_fault-None f d g m o =
    sym ((λ i. first_of (cond (g i) None (Some (wrong (codes "id") None))) (first_of (m i) (unknown_in f d)))
    ∙ none_is (unknown_in f d) (none_unknown (is_among (keys_of f)) (as_object d) ∙ o))
