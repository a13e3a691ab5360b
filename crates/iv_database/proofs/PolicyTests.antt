-- The tests of the requests on policies, in their order.
use Rattle.std.proofs.Common.{◌≡◌, ℕ, Bool, true, false, not, List, [], ◌∷◌, length, map, Option, None, Some, refl, sym, ap, subst, ◌∙◌}
use Rattle.std.specs.Prelude.{◌&&◌, Result, Ok as OkResult, Err, is_some, nat_le, slice_get, unwrap_or}
use Rattle.std.specs.Result.{IsErrAnd}
use Rattle.std.specs.List.{list_all}
use Rattle.iv_rows.specs.Columns.{Column}
use Rattle.iv_rows.specs.declared.schema.RelId.{RelId}
use Rattle.iv_bind.specs.Catalogs.{schema_of}
use Rattle.iv_access.specs.Faults.{is_grantee}
use Rattle.iv_access.specs.Policies.{policies_of, policy_of}
use Rattle.iv_access.specs.Privileges.{owns, role_of}
use Rattle.iv_access.specs.Rights.{Name, Rights}
use Rattle.iv_machine.specs.Act as machine
use Rattle.iv_machine.specs.Act.{Act, PolicyText, create_policy, drop_policy}
use Rattle.iv_machine.specs.Changing.{policy_for}
use Rattle.iv_access.specs.NewPolicies.{policy_from}
use Rattle.iv_access.specs.Changing.{with_policy}
use Rattle.iv_database.specs.Next.{IsDone, database_after}
use Rattle.iv_machine.specs.Refusing.{bad_policy_text, first, frame_refusal, full, has_policy, known_grantee, or_else, owner_alone, policies, table_alone, test}
use Rattle.iv_machine.specs.State.{Frame, actor, columns_at, rel_of, table_columns}
use Rattle.iv_database.specs.Database.{Database, frame_of, with_rights}
use Rattle.iv_database.specs.Owned.{AreBound, IsChecked, IsGuarded, IsOwned, IsOwner, IsReady, asked, has_room, name_tests, owner_tests, text_tests, with_asked}
use Rattle.iv_database.specs.Target.{IsActingOn, target_tests}
use Rattle.iv_command.specs.Stops.{IsTested}
use Rattle.iv_command.specs.Views.{refusal_of}
use Rattle.iv_database.specs.declared.policies.Predicates.{Predicates}
use Rattle.iv_command.specs.declared.stop.Stop.{Stop}
use Rattle.iv_command.specs.declared.stop.Stop.TheVariants.{Refused, Memory}

-- ---- the owner

module _ (e : Database) (n : ℕ) (rel : Name) (t : RelId) (o : IsOwner e n rel t) where
  abbrev f : Frame
  f = frame_of e

  pub owner_passes : (more : List (Option machine.Refusal)) → owner_tests f n rel more ≡ first more
  owner_passes more =
      let table : is_some (table_columns f.catalog rel) ≡ true = ap (λ (y : Option (List Column)). is_some y) o.columns ∙ o.table in
      let own : owns e.known.rights (actor f n) (rel_of f.catalog rel) ≡ true = (λ i. owns e.known.rights (actor f n) (o.number i)) ∙ o.owns in
      λ i. or_else (test (not (o.session i)) machine.no_session) (first (test (not (o.known i)) machine.unknown_relation ∷ test (not (table i)) machine.not_a_table ∷ test (not (own i)) (machine.not_owner rel) ∷ more))

-- the owner's tests refuse, whatever follows
pub drop_refused : (e : Database) (n : ℕ) (rel name : Name) (x : machine.Refusal) → ((more : List (Option machine.Refusal)) → owner_tests (frame_of e) n rel more ≡ Some x) → frame_refusal (frame_of e) n (drop_policy rel name) ≡ Some x
drop_refused e n rel name x h = h (test (not (is_some (policy_of e.known.rights (rel_of (frame_of e).catalog rel) name))) machine.unknown_policy ∷ [])

pub drop_tests : (e : Database) (n : ℕ) (rel name : Name) (t : RelId) (there : Bool) → IsOwner e n rel t → is_some (policy_of e.known.rights t.0 name) ≡ there
    → frame_refusal (frame_of e) n (drop_policy rel name) ≡ or_else (test (not there) machine.unknown_policy) None
drop_tests e n rel name t there o is = owner_passes e n rel t o (test (not (is_some (policy_of e.known.rights (rel_of (frame_of e).catalog rel) name))) machine.unknown_policy ∷ [])
    ∙ (λ i. or_else (test (not (is_some (policy_of e.known.rights (o.number i) name))) machine.unknown_policy) None)
    ∙ ap (λ b. or_else (test (not b) machine.unknown_policy) None) is

-- ---- a policy

roles_known : (e : Database) (to : List (Option Name)) → first (map (known_grantee (frame_of e)) to) ≡ test (not (list_all (is_grantee e.known.rights) to)) machine.unknown_role
roles_known e [] = refl
roles_known e (None ∷ to) = roles_known e to
roles_known e (Some name ∷ to) = by (is_some (role_of e.known.rights name)) (list_all (is_grantee e.known.rights) to) (roles_known e to)
  where
    by : (b d : Bool) → first (map (known_grantee (frame_of e)) to) ≡ test (not d) machine.unknown_role → or_else (test (not b) machine.unknown_role) (first (map (known_grantee (frame_of e)) to)) ≡ test (not (b && d)) machine.unknown_role
    by true d h = h
    by false d h = refl

abbrev pub with_table : RelId → Result Predicates Stop → Result (RelId × Predicates) Stop
with_table t (OkResult preds) = OkResult (t, preds)
with_table t (Err stop) = Err stop

grouped : (a b rest : Option machine.Refusal) → or_else a (or_else b rest) ≡ or_else (or_else a b) rest
grouped None b rest = refl
grouped (Some r) b rest = refl

module _ (e : Database) (n : ℕ) (p : PolicyText) (t : RelId) (o : IsOwner e n p.rel t) where
  abbrev r : Rights
  r = e.known.rights

  abbrev columns : List Column
  columns = columns_at (frame_of e).catalog p.rel

  abbrev many : Option machine.Refusal
  many = full 32 (length (policies_of (slice_get r.guards t.0)))

  pub policy_tests : frame_refusal (frame_of e) n (create_policy p) ≡ or_else (name_tests r t.0 p) (or_else (text_tests columns p) (or_else many None))
  policy_tests =
      let using = bad_policy_text columns p.using_text in
      let check = bad_policy_text columns p.check_text in
      let roles = test (not (list_all (is_grantee r) p.to)) machine.unknown_role in
      let free = test (is_some (policy_of r t.0 p.name)) machine.name_taken in
      let f = frame_of e in
      owner_passes e n p.rel t o (first (map (known_grantee f) p.to) ∷ test (has_policy f p.rel p.name) machine.name_taken ∷ using ∷ check ∷ full 32 (policies f p.rel) ∷ [])
      ∙ (λ i. first (roles_known e p.to i ∷ test (is_some (policy_of r (o.number i) p.name)) machine.name_taken ∷ using ∷ check ∷ full 32 (length (policies_of (slice_get r.guards (o.number i)))) ∷ []))
      ∙ ap (λ x. or_else roles (or_else free x)) (grouped using check (or_else many None))
      ∙ grouped roles free (or_else (text_tests columns p) (or_else many None))

  names_refuse : (x : machine.Refusal) → name_tests r t.0 p ≡ Some x → frame_refusal (frame_of e) n (create_policy p) ≡ Some x
  names_refuse x h = policy_tests ∙ ap (λ t. or_else t (or_else (text_tests columns p) (or_else many None))) h

  pub names_stop : (stop : Stop) → IsTested (name_tests r t.0 p) (Err stop) → IsChecked e n p (Err stop)
  names_stop (Refused x) h = names_refuse (refusal_of x) h
  names_stop Memory h = tt

  pub texts_refuse : (x : machine.Refusal) → name_tests r t.0 p ≡ None → text_tests columns p ≡ Some x → frame_refusal (frame_of e) n (create_policy p) ≡ Some x
  texts_refuse x h k = policy_tests ∙ (λ i. or_else (h i) (or_else (k i) (or_else many None)))

  pub columns_are : (c : List Column) → Some c ≡ schema_of e.catalog t.0 → columns ≡ c
  columns_are c h = ap (λ (x : Option (List Column)). unwrap_or x []) (o.columns ∙ sym h)

  -- the texts are refused, or all is ready
  pub checked : (c : List Column) (bound : Result Predicates Stop) → Some c ≡ schema_of e.catalog t.0 → name_tests r t.0 p ≡ None → AreBound c p bound → IsChecked e n p (with_table t bound)
  checked c (OkResult preds) at names bound = record { owner = o; names = names; texts = subst (λ (k : List Column). AreBound k p (OkResult preds)) (sym (columns_are c at)) bound }
  checked c (Err (Refused x)) at names bound = texts_refuse (refusal_of x) names (ap (λ (k : List Column). text_tests k p) (columns_are c at) ∙ bound)
  checked c (Err Memory) at names bound = tt

module _ (e : Database) (n : ℕ) (p : PolicyText) (t : RelId) (preds : Predicates) (ready : IsReady e n p t preds) where
  abbrev rights : Rights
  rights = e.known.rights

  ready_tests : frame_refusal (frame_of e) n (create_policy p) ≡ or_else (full 32 (length (policies_of (slice_get rights.guards t.0)))) None
  ready_tests = policy_tests e n p t ready.owner ∙ (λ i. or_else (ready.names i) (or_else (ready.texts.0 i) (or_else (full 32 (length (policies_of (slice_get rights.guards t.0)))) None)))

  room_by : (b : Bool) → not b ≡ true → or_else (test b machine.too_many) None ≡ None
  room_by true h = cc
  room_by false h = refl

  full_by : (b : Bool) → not b ≡ false → or_else (test b machine.too_many) None ≡ Some machine.too_many
  full_by true h = refl
  full_by false h = cc

  pub has_passed : has_room rights t.0 ≡ true → frame_refusal (frame_of e) n (create_policy p) ≡ None
  has_passed h = ready_tests ∙ room_by (nat_le 32 (length (policies_of (slice_get rights.guards t.0)))) h

  pub is_full : has_room rights t.0 ≡ false → frame_refusal (frame_of e) n (create_policy p) ≡ Some machine.too_many
  is_full h = ready_tests ∙ full_by (nat_le 32 (length (policies_of (slice_get rights.guards t.0)))) h

pub IsErrAnd-gives : {A E : Type 0} (r : Result A E) (P : E → Type 0) (Q : Result A E → Type 0) → IsErrAnd r P → ((x : E) → P x → Q (Err x)) → Q r
IsErrAnd-gives (OkResult a) P Q h k = absurd h
IsErrAnd-gives (Err x) P Q h k = k x h

-- the session or the name of the relation refuses it
pub IsDone-IsActingOn : (d : Database) (n : ℕ) (act : Act) (rel : Name) (stop : Stop) (more : List (Option machine.Refusal)) → frame_refusal (frame_of d) n act ≡ target_tests (frame_of d) n rel more → IsActingOn d n rel (Err stop) → IsDone d n act (Err stop) d
IsDone-IsActingOn d n act rel (Refused r) more same h = (same ∙ h more, refl)
IsDone-IsActingOn d n act rel Memory more same h = tt

-- the same of a table that is to be owned
pub IsOwned-IsActingOn : (d : Database) (n : ℕ) (rel : Name) (stop : Stop) → IsActingOn d n rel (Err stop) → IsOwned d n rel (Err stop)
IsOwned-IsActingOn d n rel (Refused r) h = λ more. h (table_alone (frame_of d) rel ∷ owner_alone (frame_of d) (actor (frame_of d) n) rel ∷ more)
IsOwned-IsActingOn d n rel Memory h = tt

-- ---- the requests

-- the owner's tests refuse it
pub IsGuarded-IsOwned : (d : Database) (n : ℕ) (act : Act) (rel : Name) (stop : Stop) (more : List (Option machine.Refusal)) → frame_refusal (frame_of d) n act ≡ owner_tests (frame_of d) n rel more → IsOwned d n rel (Err stop) → IsGuarded d n act rel (Err stop) d
IsGuarded-IsOwned d n act rel (Refused r) more same h = (same ∙ h more, refl)
IsGuarded-IsOwned d n act rel Memory more same h = tt

-- the tests of a policy refuse it
pub checked_refused : (d : Database) (n : ℕ) (p : PolicyText) (stop : Stop) → IsChecked d n p (Err stop) → IsGuarded d n (create_policy p) p.rel (Err stop) d
checked_refused d n p (Refused r) h = (h, refl)
checked_refused d n p Memory h = tt

-- the policy is added as the machine adds it
module _ (d : Database) (n : ℕ) (p : PolicyText) (t : RelId) (preds : Predicates) (ready : IsReady d n p t preds) where
  policy_is : policy_for (frame_of d) p ≡ policy_from d.known.rights (asked p preds)
  policy_is = λ i. record (policy_for (frame_of d) p) { using = ready.texts.1 i; check = ready.texts.2 i }

  pub asked_after : with_asked t.0 (asked p preds) d ≡ database_after d n (create_policy p)
  asked_after = λ i. with_rights (with_policy (sym ready.owner.number i) (sym policy_is i) d.known.rights) d
