-- What rights and views speak of is there.
use Rattle.std.proofs.Common.{◌≡◌, ℕ, zero, suc, ◌<◌, ◌≤◌, Bool, true, false, not, List, [], ◌∷◌, ◌++◌, map, length, Option, Some, None, ap, sym, subst, arith, length-append}
use Rattle.std.specs.Prelude.{bytes_eq, is_some, slice_get, if◌then◌else◌}
use Rattle.std.specs.List.{All, list_any}
use Rattle.std.specs.Ordering.{is_lt, nat_cmp}
use Rattle.std.specs.Cmp.Lexicographic.{slice_cmp}
use Rattle.std.proofs.lemmas.List.Elements.{All-nil, All-cons, All-filter, All-head, All-push, All-tail, All-weaker}
use Rattle.iv_bind.specs.Catalogs.{named}
use Rattle.iv_bind.specs.Catalogs as catalogs
use Rattle.iv_rows.specs.Options.{if_some}
use Rattle.iv_access.specs.declared.privilege.Privilege.{Privilege}
use Rattle.iv_access.specs.Changing.{all_privileges, changed_at, for_each, grant_eq, granted, insert_policy, remove_policy, revoked, with_relation}
use Rattle.iv_access.specs.Access.{grantee_of, role_number}
use Rattle.iv_roles.specs.Memberships.{is_direct, with_membership, member_of, membership_eq, Membership}
use Rattle.iv_access.specs.Policies.{is_named}
use Rattle.iv_access.specs.Rights.{Grant, Grantee, Guard, Name, Policy, Public, Role}
use Rattle.iv_machine.specs.Act.{Act, create_role, create_table, create_view, grant, revoke, grant_role, revoke_role, row_security, create_policy, drop_policy, unknown_relation}
use Rattle.iv_machine.specs.State.{Frame, actor, next_rel, rel_of, start}
use Rattle.iv_machine.specs.Changing.{after_rights, policy_for}
use Rattle.iv_machine.specs.Numbered.{IsNumbered}
use Rattle.iv_machine.specs.Refusing.{administrator, first, frame_refusal, known_grantee, known_relation, known_role, owner_alone}
use Rattle.iv_machine.specs.Stored.{AreKnown, IsBelow}
use Rattle.iv_machine.proofs.RelationNumbers.{length-changed_at}
use Rattle.iv_machine.proofs.SubscriptionPlaces.{lt-role_number, some_of}
use Rattle.iv_machine.proofs.OpenSubscriptions.{or_else-None, test_not-None}
use Rattle.iv_machine.proofs.StoredRights.{tests_by-None, IsAt-find, IsTested-create_policy}

-- ---- lists

module _ {X : Type 0} where
  pub place_within : (xs : List X) (k : ℕ) (x : X) → slice_get xs k ≡ Some x → k < length xs
  place_within [] k x h = cc
  place_within (y ∷ ys) zero x h = omega arith
  place_within (y ∷ ys) (suc k) x h = let l = place_within ys k x h in omega arith

changed_all : (P : Guard → Type 0) (k : ℕ) (change : Guard → Guard) (gs : List Guard) → ((g : Guard) → P g → P (change g)) → All P gs → All P (changed_at k change gs)
changed_all P k change [] go h = h
changed_all P zero change (g ∷ gs) go h = All-cons P (change g) gs (go g (All-head P g gs h)) (All-tail P g gs h)
changed_all P (suc k) change (g ∷ gs) go h = All-cons P g (changed_at k change gs) (All-head P g gs h) (changed_all P k change gs go (All-tail P g gs h))

policy_inserted : (P : Policy → Type 0) (p : Policy) (ps : List Policy) → P p → All P ps → All P (insert_policy p ps)
policy_inserted P p [] h a = All-cons P p [] h a
policy_inserted P p (q ∷ qs) h a =
    elim (is_lt (slice_cmp nat_cmp p.name q.name)) as (λ b. All P (if b then p ∷ q ∷ qs else q ∷ insert_policy p qs)) [
      | true ↦ All-cons P p (q ∷ qs) h a
      | false ↦ All-cons P q (insert_policy p qs) (All-head P q qs a) (policy_inserted P p qs h (All-tail P q qs a))
    ]

all_granted : (P : Grant → Type 0) (rel : ℕ) (ps : List Privilege) (to : Grantee) (gs : List Grant) → ((p : Privilege) → P (record { grantee = to; privilege = p; rel = rel })) → All P gs → All P (for_each granted rel ps to gs)
all_granted P rel [] to gs go h = h
all_granted P rel (p ∷ ps) to gs go h = all_granted P rel ps to (granted (record { grantee = to; privilege = p; rel = rel }) gs) go (one (list_any (grant_eq (record { grantee = to; privilege = p; rel = rel })) gs))
  where
    one : (b : Bool) → All P (if b then gs else gs ++ record { grantee = to; privilege = p; rel = rel } ∷ [])
    one true = h
    one false = All-push P gs (record { grantee = to; privilege = p; rel = rel }) h (go p)

all_revoked : (P : Grant → Type 0) (rel : ℕ) (ps : List Privilege) (to : Grantee) (gs : List Grant) → All P gs → All P (for_each revoked rel ps to gs)
all_revoked P rel [] to gs h = h
all_revoked P rel (p ∷ ps) to gs h = all_revoked P rel ps to (revoked (record { grantee = to; privilege = p; rel = rel }) gs) (All-filter (λ g. not (grant_eq (record { grantee = to; privilege = p; rel = rel }) g)) P gs h)

one_joined : (P : Membership → Type 0) (m : Membership) (ms : List Membership) → P m → All P ms → All P (with_membership m ms)
one_joined P m ms h a = by (is_direct ms m)
  where
    by : (b : Bool) → All P (if b then ms else ms ++ m ∷ [])
    by true = a
    by false = All-push P ms m a h

-- ---- more roles

abbrev Members : ℕ → Membership → Type 0
Members n m = (m.role < n) × (m.member < n)

abbrev Owners : ℕ → Guard → Type 0
Owners n g = g.owner < n

abbrev Policies : ℕ → Guard → Type 0
Policies n g = All (λ p. All (IsBelow n) p.to) g.policies

abbrev Grants : (n m : ℕ) → Grant → Type 0
Grants n m g = IsBelow n g.grantee × (g.rel < m)

more_below : (m n : ℕ) → m ≤ n → (g : Grantee) → IsBelow m g → IsBelow n g
more_below m n l Public h = tt
more_below m n l (Role role) h = omega arith

more_grants : (m n k l : ℕ) → m ≤ n → k ≤ l → (g : Grant) → Grants m k g → Grants n l g
more_grants m n k l p q g h = let r = h.1 in (more_below m n p g.grantee h.0, omega arith)

longer : {X : Type 0} (xs : List X) (x : X) → length xs ≤ length (xs ++ x ∷ [])
longer xs x = let e = length-append xs (x ∷ []) in omega (arith, e)

last_within : {X : Type 0} (xs : List X) (x : X) → length xs < length (xs ++ x ∷ [])
last_within xs x = let e = length-append xs (x ∷ []) in omega (arith, e)

with_one : (f : Frame) (name : Name) → AreKnown f.rights → AreKnown (after_rights f (create_role name))
with_one f name k =
    let m = length f.rights.roles in
    let n = length (f.rights.roles ++ name ∷ []) in
    let l : m ≤ n = longer f.rights.roles name in
    record {
      members = All-weaker (Members m) (Members n) (λ x h. let a = h.0 in let b = h.1 in (omega arith, omega arith)) f.rights.members k.members;
      owners = All-weaker (Owners m) (Owners n) (λ g h. omega arith) f.rights.guards k.owners;
      policies = All-weaker (Policies m) (Policies n) (λ g h. All-weaker (λ (p : Policy). All (IsBelow m) p.to) (λ (p : Policy). All (IsBelow n) p.to) (λ p a. All-weaker (IsBelow m) (IsBelow n) (more_below m n l) p.to a) g.policies h) f.rights.guards k.policies;
      grants = All-weaker (Grants m (length f.rights.guards)) (Grants n (length f.rights.guards)) (more_grants m n (length f.rights.guards) (length f.rights.guards) l (omega arith)) f.rights.grants k.grants;
    }

-- ---- one relation more

related : (f : Frame) (owner : ℕ) → owner < length f.rights.roles → AreKnown f.rights → AreKnown (with_relation owner f.rights)
related f owner h k =
    let n = length f.rights.roles in
    let g : Guard = record { owner = owner; enabled = false; forced = false; policies = [] } in
    let guards = f.rights.guards ++ g ∷ [] in
    let more = All-weaker (Grants n (length f.rights.guards)) (Grants n (length guards)) (more_grants n n (length f.rights.guards) (length guards) (omega arith) (longer f.rights.guards g)) f.rights.grants k.grants in
    record {
      members = k.members;
      owners = All-push (Owners n) f.rights.guards g k.owners h;
      policies = All-push (Policies n) f.rights.guards g k.policies (All-nil (λ (p : Policy). All (IsBelow n) p.to));
      grants = all_granted (Grants n (length guards)) (length f.rights.guards) all_privileges (Role owner) f.rights.grants (λ p. (h, last_within f.rights.guards g)) more;
    }

-- ---- names that are known

known_to : (f : Frame) (to : Option Name) → known_grantee f to ≡ None → IsBelow (length f.rights.roles) (grantee_of f.rights to)
known_to f None h = tt
known_to f (Some name) h = lt-role_number f name h

all_known_to : (f : Frame) (to : List (Option Name)) → first (map (known_grantee f) to) ≡ None → All (IsBelow (length f.rights.roles)) (map (grantee_of f.rights) to)
all_known_to f [] h = All-nil (IsBelow (length f.rights.roles))
all_known_to f (o ∷ to) h =
    let a = or_else-None (known_grantee f o) _ h in
    All-cons (IsBelow (length f.rights.roles)) (grantee_of f.rights o) (map (grantee_of f.rights) to) (known_to f o a.0) (all_known_to f to a.1)

known_rel : (f : Frame) (rel : Name) → IsNumbered f → is_some (named f.catalog rel) ≡ true → rel_of f.catalog rel < length f.rights.guards
known_rel f rel m h = some_of (named f.catalog rel) h (rel_of f.catalog rel < length f.rights.guards) by
  where
    by : (e : catalogs.CatalogEntry) → named f.catalog rel ≡ Some e → rel_of f.catalog rel < length f.rights.guards
    by e found =
        let at = IsAt-find 0 f.catalog (λ (z : catalogs.CatalogEntry). bytes_eq rel z.name) e m.relations found in
        let number : rel_of f.catalog rel ≡ e.rel = ap (λ o. if_some o (next_rel f.catalog) (λ z. z.rel)) found in
        let within = place_within f.catalog at.place e at.there in
        let place = at.rel in
        let guards = m.guards in
        omega (arith, number, within, place, guards)

-- ---- a command

changed_guards : (f : Frame) (k : ℕ) (change : Guard → Guard) → ((g : Guard) → Owners (length f.rights.roles) g → Owners (length f.rights.roles) (change g))
    → ((g : Guard) → Policies (length f.rights.roles) g → Policies (length f.rights.roles) (change g)) → length (changed_at k change f.rights.guards) ≡ length f.rights.guards → AreKnown f.rights
    → AreKnown (record f.rights { guards = changed_at k change f.rights.guards })
changed_guards f k change owned permitted e h = record {
  members = h.members;
  owners = changed_all (Owners (length f.rights.roles)) k change f.rights.guards owned h.owners;
  policies = changed_all (Policies (length f.rights.roles)) k change f.rights.guards permitted h.policies;
  grants = subst (λ n. All (Grants (length f.rights.roles) n) f.rights.grants) (sym e) h.grants;
}

pub AreKnown-after_rights : (f : Frame) (n : ℕ) (act : Act) → frame_refusal f n act ≡ None → IsNumbered f → AreKnown f.rights → AreKnown (after_rights f act)
AreKnown-after_rights f n (create_role name) r m k = with_one f name k
AreKnown-after_rights f n (create_table name owner columns) r m k =
    let a = or_else-None (administrator (actor f n)) _ (tests_by-None f n (create_table name owner columns) r) in
    related f (role_number f.rights owner) (lt-role_number f owner (or_else-None (known_role f owner) _ a.1).0) k
AreKnown-after_rights f n (create_view name owner query) r m k =
    let a = or_else-None (administrator (actor f n)) _ (tests_by-None f n (create_view name owner query) r) in
    related f (role_number f.rights owner) (lt-role_number f owner (or_else-None (known_role f owner) _ a.1).0) k
AreKnown-after_rights f n (grant rel ps to) r m k =
    let a = or_else-None (known_relation f rel) _ (tests_by-None f n (grant rel ps to) r) in
    let b = or_else-None (owner_alone f (actor f n) rel) _ a.1 in
    let d = or_else-None (known_grantee f to) None b.1 in
    record {
      members = k.members;
      owners = k.owners;
      policies = k.policies;
      grants = all_granted (Grants (length f.rights.roles) (length f.rights.guards)) (rel_of f.catalog rel) ps (grantee_of f.rights to) f.rights.grants
          (λ p. (known_to f to d.0, known_rel f rel m (test_not-None (is_some (named f.catalog rel)) unknown_relation a.0))) k.grants;
    }
AreKnown-after_rights f n (revoke rel ps to) r m k = record {
  members = k.members;
  owners = k.owners;
  policies = k.policies;
  grants = all_revoked (Grants (length f.rights.roles) (length f.rights.guards)) (rel_of f.catalog rel) ps (grantee_of f.rights to) f.rights.grants k.grants;
}
AreKnown-after_rights f n (grant_role role to) r m k =
    let a = or_else-None (administrator (actor f n)) _ (tests_by-None f n (grant_role role to) r) in
    let b = or_else-None (known_role f role) _ a.1 in
    let d = or_else-None (known_role f to) _ b.1 in
    record {
      members = one_joined (Members (length f.rights.roles)) (member_of (role_number f.rights role) (role_number f.rights to)) f.rights.members (lt-role_number f role b.0, lt-role_number f to d.0) k.members;
      owners = k.owners;
      policies = k.policies;
      grants = k.grants;
    }
AreKnown-after_rights f n (revoke_role role to) r m k = record {
  members = All-filter (λ x. not (membership_eq (member_of (role_number f.rights role) (role_number f.rights to)) x)) (Members (length f.rights.roles)) f.rights.members k.members;
  owners = k.owners;
  policies = k.policies;
  grants = k.grants;
}
AreKnown-after_rights f n (row_security rel enable force) r m k =
    changed_guards f (rel_of f.catalog rel) (λ g. record g { enabled = enable; forced = force }) (λ g h. h) (λ g h. h) (length-changed_at (rel_of f.catalog rel) _ f.rights.guards) k
AreKnown-after_rights f n (create_policy p) r m k =
    let t = IsTested-create_policy f n p (tests_by-None f n (create_policy p) r) in
    changed_guards f (rel_of f.catalog p.rel) (λ g. record g { policies = insert_policy (policy_for f p) g.policies }) (λ g h. h)
    (λ g h. policy_inserted (λ (q : Policy). All (IsBelow (length f.rights.roles)) q.to) (policy_for f p) g.policies (all_known_to f p.to t.roles) h)
    (length-changed_at (rel_of f.catalog p.rel) _ f.rights.guards) k
AreKnown-after_rights f n (drop_policy rel name) r m k =
    changed_guards f (rel_of f.catalog rel) (λ g. record g { policies = remove_policy name g.policies }) (λ g h. h)
    (λ g h. All-filter (λ q. not (is_named name q)) (λ (q : Policy). All (IsBelow (length f.rights.roles)) q.to) g.policies h) (length-changed_at (rel_of f.catalog rel) _ f.rights.guards) k
AreKnown-after_rights f n _ r m k = k

pub AreKnown-start : (cap : ℕ) → AreKnown (start cap).frame.rights
AreKnown-start cap = record {
  members = All-nil (Members 1);
  owners = All-nil (Owners 1);
  policies = All-nil (Policies 1);
  grants = All-nil (Grants 1 0);
}
