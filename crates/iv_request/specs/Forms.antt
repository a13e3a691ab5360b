-- The forms of requests: for each word the keys that its requests have, in the order of docs/PROTOCOL.md.
use Rattle.std.specs.Prelude.{ℕ, ◌&&◌, ◌++◌, Bool, true, List, [], ◌∷◌, codes, bytes_eq, find, is_some, Option, Some, None}
use Rattle.std.specs.List.{list_all, list_any}
use Rattle.serde_json.specs.Data.{Data, Members, no_members, member}
use Rattle.serde_json.specs.Find.{get, as_object}
use Rattle.iv_request.specs.declared.forms.Word.{Word}
use Rattle.iv_request.specs.declared.forms.Word.TheVariants.{Begin, Finish, CreateRole, CreateTable, CreateView, Grant, Revoke, GrantRole, RevokeRole, RowSecurity, CreatePolicy, DropPolicy, Write, Subscribe, Unsubscribe}

-- a word, as it is at `do`, the further keys that must be there, and those that may be
pub record Form : Type 0 where
  pub word : Word
  pub text : List ℕ
  pub required : List (List ℕ)
  pub optional : List (List ℕ)

abbrev pub form : Word → List ℕ → List (List ℕ) → List (List ℕ) → Form
form word text required optional = record { word = word; text = text; required = required; optional = optional }

-- the keys of a policy that need not be there
abbrev pub policy_keys : List (List ℕ)
policy_keys = codes "restrictive" ∷ codes "command" ∷ codes "to" ∷ codes "using" ∷ codes "check" ∷ []

abbrev pub forms : List Form
forms =
    form Begin (codes "begin") (codes "role" ∷ []) []
    ∷ form Finish (codes "finish") [] []
    ∷ form CreateRole (codes "create_role") (codes "name" ∷ []) []
    ∷ form CreateTable (codes "create_table") (codes "name" ∷ codes "owner" ∷ codes "columns" ∷ []) []
    ∷ form CreateView (codes "create_view") (codes "name" ∷ codes "owner" ∷ codes "query" ∷ []) []
    ∷ form Grant (codes "grant") (codes "on" ∷ codes "privileges" ∷ codes "to" ∷ []) []
    ∷ form Revoke (codes "revoke") (codes "on" ∷ codes "privileges" ∷ codes "to" ∷ []) []
    ∷ form GrantRole (codes "grant_role") (codes "role" ∷ codes "to" ∷ []) []
    ∷ form RevokeRole (codes "revoke_role") (codes "role" ∷ codes "to" ∷ []) []
    ∷ form RowSecurity (codes "row_security") (codes "on" ∷ codes "enable" ∷ codes "force" ∷ []) []
    ∷ form CreatePolicy (codes "create_policy") (codes "on" ∷ codes "name" ∷ []) policy_keys
    ∷ form DropPolicy (codes "drop_policy") (codes "on" ∷ codes "name" ∷ []) []
    ∷ form Write (codes "write") (codes "entries" ∷ []) []
    ∷ form Subscribe (codes "subscribe") (codes "on" ∷ []) []
    ∷ form Unsubscribe (codes "unsubscribe") (codes "sub" ∷ []) []
    ∷ []

-- the form of the requests that have this text at `do`
abbrev pub form_of : List ℕ → Option Form
form_of text = find (λ f. bytes_eq f.text text) forms

-- ---- the test of keys

abbrev pub has : List ℕ → Data → Bool
has key d = is_some (get key d)

-- the key is one of these
abbrev pub is_among : List (List ℕ) → List ℕ → Bool
is_among keys key = list_any (λ k. bytes_eq k key) keys

-- each key passes
abbrev pub keys_pass : (List ℕ → Bool) → Members → Bool
keys_pass test no_members = true
keys_pass test (member key d ms) = test key && keys_pass test ms

abbrev pub keys_pass_of : (List ℕ → Bool) → Option Members → Bool
keys_pass_of test None = true
keys_pass_of test (Some ms) = keys_pass test ms

-- no key but these is there
abbrev pub has_only : List (List ℕ) → Data → Bool
has_only keys d = keys_pass_of (is_among keys) (as_object d)

-- the keys of every request
abbrev pub every_request : List (List ℕ)
every_request = codes "do" ∷ codes "session" ∷ []

-- the keys that a request of the form may have
abbrev pub keys_of : Form → List (List ℕ)
keys_of f = every_request ++ (f.required ++ f.optional)

-- each required key is there, and no key but those of the form; `do` and `session` are looked for by themselves
abbrev pub has_its_keys : Form → Data → Bool
has_its_keys f d = list_all (λ key. has key d) f.required && has_only (keys_of f) d
