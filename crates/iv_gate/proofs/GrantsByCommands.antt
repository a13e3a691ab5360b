-- A client is told only of grants that its role has.
use Rattle.std.proofs.Common.{◌≡◌, ℕ, Bool, true, false, cond, not, ◌||◌, List, [], ◌∷◌, ◌++◌, codes, length, map, Option, Some, None, refl, ap, ◌∙◌, sym, subst}
use Rattle.std.specs.Prelude.{◌==◌, ◌&&◌, bytes_eq, filter, nat_lt, unwrap_or}
use Rattle.std.specs.List.{AllByRecursion, list_any}
use Rattle.std.proofs.lemmas.Bool.{false≢true, eqb-true, not-true, or_right}
use Rattle.serde_json.specs.Data.{Data}
use Rattle.iv_rows.specs.Names.{is_name}
use Rattle.iv_rows.specs.Options.{if_some}
use Rattle.iv_roles.specs.Memberships.{Membership, itself, is_direct, member_of, membership_eq, reaches, through, with_membership}
use Rattle.iv_roles.specs.Roles.{is_admin}
use Rattle.iv_roles.proofs.Chains.{Follows-reaches, reaches-trans}
use Rattle.iv_bind.specs.Catalogs.{CatalogEntry, named}
use Rattle.iv_access.specs.Access.{grantee_of, role_number}
use Rattle.iv_access.specs.Changing.{grantee_eq, with_grants}
use Rattle.iv_access.specs.declared.privilege.Privilege.{Privilege}
use Rattle.iv_access.specs.declared.privilege.Privilege.TheVariants.{Select, Insert, Update, Delete}
use Rattle.iv_access.specs.Given.{grant_to, is_among, is_named_by}
use Rattle.iv_access.specs.Laws.{GrantsGive}
use Rattle.iv_access.specs.Privileges.{acts_as, has, is_for, privilege_eq, role_of}
use Rattle.iv_access.specs.Rights.{Grantee, Name, Rights}
use Rattle.iv_access.proofs.GrantSets.{given, grant_eq-itself, has-reaches}
use Rattle.iv_machine.specs.Act.{Act, create_table, create_view, grant, grant_role, Command, unknown_relation, unknown_role}
use Rattle.iv_machine.specs.Changing.{after}
use Rattle.iv_machine.specs.Machine.{settled, step}
use Rattle.iv_machine.specs.Parts.{is_between, is_group}
use Rattle.iv_machine.specs.Refusing.{known_grantee, or_else, refusal}
use Rattle.iv_machine.specs.State.{Frame, State, rel_of}
use Rattle.iv_machine.specs.Well.{is_grantee, is_well_act}
use Rattle.iv_message.specs.Message.{Message, no_json, too_long, no_object, no_request, request, is_well_message, message_of, message_of_value, most_bytes, on_one_line}
use Rattle.iv_message.proofs.Meaning.{ReadsWell, is_well_message-ReadsWell}
use Rattle.iv_records.specs.Journal.{Parts, begins_object, id_parts, line_said, most_said, not_request, said_by, said_in, with_front}
use Rattle.iv_request.specs.Reading.{value_of}
use Rattle.iv_gate.specs.Gate.{granted_by, has_some, is_member}
use Rattle.iv_gate.proofs.SameFeeds.{and-both_true, bytes_eq-itself}
use Rattle.iv_gate.proofs.MachineLists.{None-or_else_first, None-or_else_later, test-None, Some-not_is_some}
use Rattle.iv_gate.proofs.SeatsAndFeeds.{same-position}
use Rattle.iv_gate.proofs.SoundCommands.{Sounds, any_more}
use Rattle.iv_gate.proofs.NumberSums.{eq-itself}

-- ---- messages ask what the machine may be given

pub is_well_message-message_of : ReadsWell → (text : List ℕ) → is_well_message (message_of text) ≡ true
is_well_message-message_of h text = by (nat_lt most_bytes (length text))
  where
    by : (b : Bool) → is_well_message (cond b too_long (message_of_value (value_of (on_one_line text)))) ≡ true
    by true = refl
    by false = is_well_message-ReadsWell (value_of (on_one_line text)) h

front_well : (front : Option Data) (m : Message) → is_well_message m ≡ true → is_well_message (with_front front m) ≡ true
front_well front (request None act) h = h
front_well front (request (Some id) act) h = refl
front_well front (no_request id why) h = refl
front_well front no_json h = refl
front_well front too_long h = refl
front_well front no_object h = refl

not_well : (m : Message) → is_well_message (not_request m) ≡ true
not_well no_json = refl
not_well _ = refl

pub is_well_message-said_by : ReadsWell → (text : List ℕ) → is_well_message (said_by text) ≡ true
is_well_message-said_by h text = by (nat_lt most_said (length text))
  where
    p : Parts
    p = ((id_parts text).0, line_said text)

    object : (b : Bool) → is_well_message (cond b (with_front p.0 (message_of p.1)) (not_request (message_of p.1))) ≡ true
    object true = front_well p.0 (message_of p.1) (is_well_message-message_of h p.1)
    object false = not_well (message_of p.1)

    by : (b : Bool) → is_well_message (cond b too_long (said_in ((id_parts text).0, line_said text))) ≡ true
    by true = refl
    by false = object (begins_object p.1)

-- ---- the first role is the superuser

abbrev pub HasAdmin : State → Type 0
HasAdmin s = role_of s.frame.rights (codes "admin") ≡ Some 0

pub HasAdmin-step : Sounds → (s : State) (k : Command) → HasAdmin s → HasAdmin (step s k).state
HasAdmin-step sounds s k h = (sounds.lasts s k).roles (codes "admin") 0 h

-- ---- privileges

some_privilege : (H : Privilege → Bool) (p : Privilege) → H p ≡ true → list_any H (Select ∷ Insert ∷ Update ∷ Delete ∷ []) ≡ true
some_privilege H Select h = ap (λ b. b || (H Insert || (H Update || (H Delete || false)))) h
some_privilege H Insert h = or_right (H Select) _ (ap (λ b. b || (H Update || (H Delete || false))) h)
some_privilege H Update h = or_right (H Select) _ (or_right (H Insert) _ (ap (λ b. b || (H Delete || false)) h))
some_privilege H Delete h = or_right (H Select) _ (or_right (H Insert) _ (or_right (H Update) _ (ap (λ b. b || false) h)))

any_weaker : {X : Type 0} (p q : X → Bool) → ((x : X) → p x ≡ true → q x ≡ true) → (xs : List X) → list_any p xs ≡ true → list_any q xs ≡ true
any_weaker p q k [] h = absurd (false≢true h)
any_weaker p q k (x ∷ xs) h = by (p x) refl h (λ t. any_weaker p q k xs t)
  where
    by : (b : Bool) → p x ≡ b → (b || list_any p xs) ≡ true → (list_any p xs ≡ true → list_any q xs ≡ true) → (q x || list_any q xs) ≡ true
    by true e t more = ap (λ b. b || list_any q xs) (k x e)
    by false e t more = or_right (q x) _ (more t)

-- some privilege of the role of a number on the relation of a name
abbrev has_at : Frame → ℕ → Name → Bool
has_at f r rel = if_some (named f.catalog rel) false (λ (e : CatalogEntry). list_any (λ p. has f.rights r p e.rel) (Select ∷ Insert ∷ Update ∷ Delete ∷ []))

has_some_is : (f : Frame) (role rel : Name) (r : ℕ) → role_of f.rights role ≡ Some r → has_some f role rel ≡ has_at f r rel
has_some_is f role rel r h = ap (λ o. if_some o false (λ x. has_at f x rel)) h

-- ---- a grant

each_part : (a b c : Bool) → (a && (b && c)) ≡ true → (a ≡ true) × (b ≡ true) × (c ≡ true)
each_part a b c h = let x = and-both_true a (b && c) h in let y = and-both_true b c x.1 in (x.0, y.0, y.1)

named_itself : (rel : ℕ) (p : Privilege) (ps : List Privilege) (to : Grantee) → is_named_by rel (p ∷ ps) to (grant_to to p rel) ≡ true
named_itself rel p ps to =
    let x = each_part (rel == rel) (privilege_eq p p) (grantee_eq to to) (grant_eq-itself (grant_to to p rel)) in
    λ i. x.0 i && ((x.1 i || list_any (privilege_eq p) ps) && x.2 i)

pub grant_gives : GrantsGive → (r : Rights) (rel role : ℕ) (p : Privilege) (ps : List Privilege) (to : Grantee) → is_for (with_grants rel (p ∷ ps) to r) role to ≡ true
    → has (with_grants rel (p ∷ ps) to r) role p rel ≡ true
grant_gives gives r rel role p ps to h =
    let R = with_grants rel (p ∷ ps) to r in
    or_right (is_admin role) _ (given R role p rel to R.grants h
    (gives r rel (p ∷ ps) to (grant_to to p rel) ∙ or_right (is_among r.grants (grant_to to p rel)) _ (named_itself rel p ps to)))

no_none : (to : Option Name) (rel : Name) → is_well_act (grant rel [] to) ≡ true → ⊥
no_none to rel h = false≢true (each_part (is_name rel) (is_between 1 4 0) (is_grantee to) h).1

module _ (s : State) (n : ℕ) (role : Name) (place : ℕ) where
  -- the state behind an act
  abbrev behind : Act → State
  behind act = settled act (after s n act)

  granted_to : GrantsGive → (rel : Name) (ps : List Privilege) (to : Option Name) → refusal s n (grant rel ps to) ≡ None → is_well_act (grant rel ps to) ≡ true
      → role_of (behind (grant rel ps to)).frame.rights role ≡ Some place → if_some to true (is_member (behind (grant rel ps to)).frame role) ≡ true
      → has_some (behind (grant rel ps to)).frame role rel ≡ true
  granted_to gives rel [] to z w known h = absurd (no_none to rel w)
  granted_to gives rel (p ∷ ps) to z w known h =
      let act = grant rel (p ∷ ps) to in let f = (behind act).frame in
      let tests = None-or_else_later _ _ (None-or_else_first _ _ z) in
      let entry = Some-not_is_some (named s.frame.catalog rel) (test-None _ unknown_relation (None-or_else_first _ _ tests)) in
      let number : rel_of s.frame.catalog rel ≡ entry.0.rel = ap (λ o. if_some o (length s.frame.catalog) (λ (e : CatalogEntry). e.rel)) entry.1 in
      has_some_is f role rel place known
      ∙ (ap (λ o. if_some o false (λ (e : CatalogEntry). list_any (λ q. has f.rights place q e.rel) (Select ∷ Insert ∷ Update ∷ Delete ∷ []))) entry.1
      ∙ some_privilege (λ q. has f.rights place q entry.0.rel) p
      (subst (λ i. has f.rights place p i ≡ true) number (grant_gives gives s.frame.rights (rel_of s.frame.catalog rel) place p ps (grantee_of s.frame.rights to) (for_it to (None-or_else_later _ _ (None-or_else_later _ _ tests)) known h))))
    where
      R : Option Name → Rights
      R who = with_grants (rel_of s.frame.catalog rel) (p ∷ ps) (grantee_of s.frame.rights who) s.frame.rights

      for_it : (who : Option Name) → or_else (known_grantee s.frame who) None ≡ None → role_of s.frame.rights role ≡ Some place
          → if_some who true (λ other. if_some (role_of s.frame.rights role) false (λ r. if_some (role_of s.frame.rights other) false (acts_as s.frame.rights r))) ≡ true
          → is_for (R who) place (grantee_of s.frame.rights who) ≡ true
      for_it None t k m = refl
      for_it (Some other) t k m =
          let found = Some-not_is_some (role_of s.frame.rights other) (test-None _ unknown_role (None-or_else_first _ _ t)) in
          let number : role_number s.frame.rights other ≡ found.0 = ap (λ o. unwrap_or o (length s.frame.rights.roles)) found.1 in
          ap (acts_as s.frame.rights place) number
          ∙ (sym (ap (λ o. if_some o false (λ r. if_some (role_of s.frame.rights other) false (acts_as s.frame.rights r))) k ∙ ap (λ o. if_some o false (acts_as s.frame.rights place)) found.1) ∙ m)

  -- ---- a membership

  direct_now : (ms : List Membership) (m : Membership) → is_direct (with_membership m ms) m ≡ true
  direct_now ms m = by (is_direct ms m) refl
    where
      same : (a : ℕ) → (a == a) ≡ true
      same a = eq-itself a

      by : (b : Bool) → is_direct ms m ≡ b → is_direct (cond b ms (ms ++ m ∷ [])) m ≡ true
      by true e = e
      by false e = any_more (membership_eq m) ms (m ∷ []) ∙ or_right (is_direct ms m) _ (λ i. (same m.role i && same m.member i) || false)

  not_admin : (other : Name) (i : ℕ) → HasAdmin s → is_group other ≡ true → role_of s.frame.rights other ≡ Some i → is_admin i ≡ false
  not_admin other i h g k = by (i == 0) refl
    where
      not_it : bytes_eq other (codes "admin") ≡ false
      not_it = not-true (bytes_eq other (codes "admin")) (and-both_true (is_name other) (not (bytes_eq other (codes "admin"))) g).1

      by : (b : Bool) → (i == 0) ≡ b → (i == 0) ≡ false
      by false e = e
      by true e =
          let same : other ≡ codes "admin" = same-position other (codes "admin") s.frame.rights.roles 0 (k ∙ ap Some (eqb-true i 0 e)) h in
          absurd (false≢true (sym not_it ∙ (ap (λ x. bytes_eq x (codes "admin")) same ∙ bytes_eq-itself (codes "admin"))))

  gets : (group to : Name) → refusal s n (grant_role group to) ≡ None → is_well_act (grant_role group to) ≡ true → HasAdmin s
      → role_of (behind (grant_role group to)).frame.rights role ≡ Some place → is_member (behind (grant_role group to)).frame role to ≡ true
      → (rel : Name) → has_some (behind (grant_role group to)).frame group rel ≡ true → has_some (behind (grant_role group to)).frame role rel ≡ true
  gets group to z w admin known member rel h =
      let f = (behind (grant_role group to)).frame in
      let tests = None-or_else_later _ _ (None-or_else_later _ _ (None-or_else_first _ _ z)) in
      let g = Some-not_is_some (role_of s.frame.rights group) (test-None _ unknown_role (None-or_else_first _ _ tests)) in
      let t = Some-not_is_some (role_of s.frame.rights to) (test-None _ unknown_role (None-or_else_first _ _ (None-or_else_later _ _ tests))) in
      let ms = s.frame.rights.members in
      let gn : role_number s.frame.rights group ≡ g.0 = ap (λ o. unwrap_or o (length s.frame.rights.roles)) g.1 in
      let tn : role_number s.frame.rights to ≡ t.0 = ap (λ o. unwrap_or o (length s.frame.rights.roles)) t.1 in
      let up : reaches f.rights.members place t.0 ≡ true =
      sym (ap (λ o. if_some o false (λ r. if_some (role_of f.rights to) false (acts_as f.rights r))) known ∙ ap (λ o. if_some o false (acts_as f.rights place)) t.1) ∙ member in
      let new = with_membership (member_of (role_number s.frame.rights group) (role_number s.frame.rights to)) ms in
      let step_up : reaches f.rights.members t.0 g.0 ≡ true =
      (Follows-reaches f.rights.members t.0 g.0).1 (through f.rights.members t.0 g.0 g.0
      (subst (λ m. is_direct f.rights.members m ≡ true) (λ i. member_of (gn i) (tn i)) (direct_now ms (member_of (role_number s.frame.rights group) (role_number s.frame.rights to)))) (itself f.rights.members g.0)) in
      let all : reaches f.rights.members place g.0 ≡ true = reaches-trans f.rights.members place t.0 g.0 up step_up in
      has_some_is f role rel place known ∙ at_least f g.0 rel all (not_admin group g.0 admin (and-both_true (is_group group) (is_name to) w).0 g.1) (sym (has_some_is f group rel g.0 g.1) ∙ h)
    where
      at_least : (f : Frame) (other : ℕ) (x : Name) → reaches f.rights.members place other ≡ true → is_admin other ≡ false → has_at f other x ≡ true → has_at f place x ≡ true
      at_least f other x up common k = by (named f.catalog x) k
        where
          by : (o : Option CatalogEntry) → if_some o false (λ (e : CatalogEntry). list_any (λ p. has f.rights other p e.rel) (Select ∷ Insert ∷ Update ∷ Delete ∷ [])) ≡ true
              → if_some o false (λ (e : CatalogEntry). list_any (λ p. has f.rights place p e.rel) (Select ∷ Insert ∷ Update ∷ Delete ∷ [])) ≡ true
          by None q = absurd (false≢true q)
          by (Some e) q = any_weaker (λ p. has f.rights other p e.rel) (λ p. has f.rights place p e.rel) (λ p y. has-reaches f.rights place other p e.rel up common y) (Select ∷ Insert ∷ Update ∷ Delete ∷ []) q

  -- ---- each act

  all_pass : (p : Name → Bool) (G : Name → Type 0) → ((x : Name) → p x ≡ true → G x) → (xs : List Name) → AllByRecursion G (filter p xs)
  all_pass p G k [] = tt
  all_pass p G k (x ∷ xs) = by (p x) refl (all_pass p G k xs)
    where
      by : (b : Bool) → p x ≡ b → AllByRecursion G (filter p xs) → AllByRecursion G (cond b (x ∷ filter p xs) (filter p xs))
      by true e more = (k x e, more)
      by false e more = more

  one_name_if : (b : Bool) (G : Name → Type 0) (x : Name) → (b ≡ true → G x) → AllByRecursion G (cond b (x ∷ []) [])
  one_name_if true G x k = (k refl, tt)
  one_name_if false G x k = tt

  pub names_hold : GrantsGive → (act : Act) → refusal s n act ≡ None → is_well_act act ≡ true → HasAdmin s → role_of (settled act (after s n act)).frame.rights role ≡ Some place
      → AllByRecursion (λ rel. has_some (settled act (after s n act)).frame role rel ≡ true) (granted_by (settled act (after s n act)).frame act role)
  names_hold gives (grant rel ps to) z w a k =
      one_name_if (if_some to true (is_member (behind (grant rel ps to)).frame role)) (λ x. has_some (behind (grant rel ps to)).frame role x ≡ true) rel (λ m. granted_to gives rel ps to z w k m)
  names_hold gives (create_table name owner columns) z w a k =
      one_name_if (has_some (behind (create_table name owner columns)).frame role name) (λ x. has_some (behind (create_table name owner columns)).frame role x ≡ true) name (λ h. h)
  names_hold gives (create_view name owner query) z w a k =
      one_name_if (has_some (behind (create_view name owner query)).frame role name) (λ x. has_some (behind (create_view name owner query)).frame role x ≡ true) name (λ h. h)
  names_hold gives (grant_role group to) z w a k = by (is_member (behind (grant_role group to)).frame role to) refl
    where
      f : Frame
      f = (behind (grant_role group to)).frame

      by : (b : Bool) → is_member f role to ≡ b → AllByRecursion (λ rel. has_some f role rel ≡ true) (cond b (filter (has_some f group) (map (λ (e : CatalogEntry). e.name) f.catalog)) [])
      by true m = all_pass (has_some f group) (λ x. has_some f role x ≡ true) (λ x h. gets group to z w a k m x h) (map (λ (e : CatalogEntry). e.name) f.catalog)
      by false m = tt
  names_hold gives _ z w a k = tt
