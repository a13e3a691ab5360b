-- A new view: its tests in their order, and what is kept with it.
use Rattle.std.proofs.Common.{◌≡◌, ℕ, ◌+◌, Bool, true, false, cond, not, List, [], ◌∷◌, length, map, Option, None, Some, refl, sym, ap, ◌∙◌, ◌⊎◌, ⊎_elim}
use Rattle.std.specs.Prelude.{Result, Ok, Err, count_by, is_some, nat_le, option_map}
use Rattle.std.specs.Bool.{beq}
use Rattle.std.proofs.lemmas.List.Sums.{sum_by-cons}
use Rattle.iv_rows.specs.Columns.{kinds_of}
use Rattle.iv_bind.specs.BoundTexts.{TextFault, bound_query}
use Rattle.iv_bind.specs.Catalogs.{BoundQuery, CatalogEntry, Held, Table, View, named, table_in, view_in}
use Rattle.iv_access.specs.Faults.{add_relation_fault, count_like, first_fault}
use Rattle.iv_access.specs.Access.{Relation, relation_of}
use Rattle.iv_roles.specs.Roles.{is_admin}
use Rattle.iv_access.specs.Privileges.{role_of}
use Rattle.iv_access.specs.Rights.{Name}
use Rattle.iv_access.specs.declared.fault.AccessFault.{AccessFault}
use Rattle.iv_access.specs.declared.fault.AccessFault.TheVariants as fault
use Rattle.iv_roles.specs.declared.role.RoleId.{RoleId}
use Rattle.iv_machine.specs.Act as machine
use Rattle.iv_machine.specs.Act.{create_view}
use Rattle.iv_machine.specs.Changing.{view_held, with_held}
use Rattle.iv_machine.specs.Refusing.{administrator, bad_text, first, frame_refusal, free_relation, full, known_role, or_else, test, views}
use Rattle.iv_machine.specs.State.{actor, session_of}
use Rattle.iv_database.specs.Defined.{IsBoundView, IsCreator, IsViewAdded, MayAdd, creator_tests, has_view_room}
use Rattle.iv_database.specs.Database.{Database, IsDatabase, frame_of, relation_in}
use Rattle.iv_database.specs.Next.{IsDone, database_after, with_relation_of}
use Rattle.iv_command.specs.Views.{refusal_of}
use Rattle.iv_command.specs.declared.stop.Stop.{Stop}
use Rattle.iv_command.specs.declared.stop.Stop.TheVariants.{Refused, Memory}
use Rattle.iv_database.specs.Telling.{IsStopOf, told as told_as}
use Rattle.iv_database.proofs.MembershipChanges.{not_told-Memory}
use Rattle.iv_database.proofs.RightsRefusals.{is_some-None, named_known, is_some-acting}

-- ---- the session and the names

module _ (e : Database) (n : ℕ) (name owner : Name) (more : List (Option machine.Refusal)) where
  pub no_creator : None ≡ option_map (λ s. s.role) (session_of e.sessions n) → creator_tests (frame_of e) n name owner more ≡ Some machine.no_session
  no_creator h = ap (λ b. or_else (test (not b) machine.no_session) (first (administrator (actor (frame_of e) n) ∷ known_role (frame_of e) owner ∷ free_relation (frame_of e) name ∷ more))) (is_some-None (session_of e.sessions n) h)

  module _ (a : ℕ) (h : Some a ≡ option_map (λ s. s.role) (session_of e.sessions n)) where
    by_names : creator_tests (frame_of e) n name owner more
        ≡ or_else (test (not (is_admin a)) machine.not_administrator) (or_else (test (not (is_some (role_of e.known.rights owner))) machine.unknown_role) (or_else (test (is_some (named e.catalog name)) machine.name_taken) (first more)))
    by_names = let o = is_some-acting (session_of e.sessions n) a (length e.known.rights.roles) h in
        λ i. or_else (test (not (o.0 i)) machine.no_session) (first (administrator (o.1 i) ∷ known_role (frame_of e) owner ∷ free_relation (frame_of e) name ∷ more))

    pub no_admin : is_admin a ≡ false → creator_tests (frame_of e) n name owner more ≡ Some machine.not_administrator
    no_admin f = by_names ∙ ap (λ b. or_else (test (not b) machine.not_administrator) (or_else (test (not (is_some (role_of e.known.rights owner))) machine.unknown_role) (or_else (test (is_some (named e.catalog name)) machine.name_taken) (first more)))) f

    pub no_owner : is_admin a ≡ true → is_some (role_of e.known.rights owner) ≡ false → creator_tests (frame_of e) n name owner more ≡ Some machine.unknown_role
    no_owner t f = by_names ∙ (λ i. or_else (test (not (t i)) machine.not_administrator) (or_else (test (not (f i)) machine.unknown_role) (or_else (test (is_some (named e.catalog name)) machine.name_taken) (first more))))

    pub name_taken : is_admin a ≡ true → is_some (role_of e.known.rights owner) ≡ true → is_some (named e.catalog name) ≡ true → creator_tests (frame_of e) n name owner more ≡ Some machine.name_taken
    name_taken t o f = by_names ∙ (λ i. or_else (test (not (t i)) machine.not_administrator) (or_else (test (not (o i)) machine.unknown_role) (or_else (test (f i) machine.name_taken) (first more))))

  pub creator_passes : (acting : RoleId) → MayAdd e n name owner acting → creator_tests (frame_of e) n name owner more ≡ first more
  creator_passes acting m = by_names acting.0 m.acts ∙ (λ i. or_else (test (not (m.admin i)) machine.not_administrator) (or_else (test (not (m.known i)) machine.unknown_role) (or_else (test (is_some (m.free i)) machine.name_taken) (first more))))

-- a number that is found, whatever it is wrapped in
pub is_some-same : {A : Type 0} (f : A → ℕ) (o : Option A) (p : Option ℕ) → option_map f o ≡ p → is_some p ≡ is_some o
is_some-same f None p h = sym (ap (λ (x : Option ℕ). is_some x) h)
is_some-same f (Some a) p h = sym (ap (λ (x : Option ℕ). is_some x) h)

-- ---- how many views

one_view : (h : Held) → beq false (is_some (option_map kinds_of (table_in h))) ≡ is_some (view_in h)
one_view (Table c) = refl
one_view (View a) = refl

all_views : (es : List CatalogEntry) → count_like false (map relation_in es) ≡ count_by (λ x. is_some (view_in x.held)) es
all_views [] = refl
all_views (x ∷ es) = sum_by-cons (λ (r : Relation). cond (beq false (is_some r.kinds)) 1 0) (relation_in x) (map relation_in es)
    ∙ (λ i. cond (one_view x.held i) 1 0 + all_views es i) ∙ sym (sum_by-cons (λ (y : CatalogEntry). cond (is_some (view_in y.held)) 1 0) x es)

views_are : (e : Database) → IsDatabase e → count_like false e.known.relations ≡ views (frame_of e)
views_are e h = ap (count_like false) h.relations ∙ all_views e.catalog

-- of the faults of a new relation only one is left
only_full : (a d b c : Bool) (x : AccessFault) → a ≡ false → d ≡ false → b ≡ false → first_fault ((a, fault.NotAdmin) ∷ (d, fault.Role) ∷ (b, fault.Taken) ∷ (c, fault.TooMany) ∷ []) ≡ Some x → (c ≡ true) × (x ≡ fault.TooMany)
only_full true d b c x p q r h = cc
only_full false true b c x p q r h = cc
only_full false false true c x p q r h = cc
only_full false false false true x p q r h = let e : fault.TooMany ≡ x = cc in (refl, sym e)
only_full false false false false x p q r h = cc

has_room : (a d b c : Bool) → first_fault ((a, fault.NotAdmin) ∷ (d, fault.Role) ∷ (b, fault.Taken) ∷ (c, fault.TooMany) ∷ []) ≡ None → c ≡ false
has_room true d b c h = cc
has_room false true b c h = cc
has_room false false true c h = cc
has_room false false false true h = cc
has_room false false false false h = refl

-- where the other tests pass, the number of views alone can refuse it
module _ (e : Database) (h : IsDatabase e) (acting : ℕ) (name owner : Name) (admin : is_admin acting ≡ true) (known : is_some (role_of e.known.rights owner) ≡ true) (free : named e.catalog name ≡ None) where
  not_taken : is_some (relation_of e.known.relations name) ≡ false
  not_taken = named_known e h name ∙ ap (λ (o : Option CatalogEntry). is_some o) free

  views_full : (b : Bool) → nat_le 64 (count_like false e.known.relations) ≡ b → has_view_room e ≡ not b
  views_full b f = ap not (ap (nat_le 64) (sym (views_are e h)) ∙ f)

  pub full_alone : (x : AccessFault) → add_relation_fault e.known acting name owner false ≡ Some x → (has_view_room e ≡ false) × (x ≡ fault.TooMany)
  full_alone x f =
      let o = only_full (not (is_admin acting)) (not (is_some (role_of e.known.rights owner))) (is_some (relation_of e.known.relations name)) (nat_le 64 (count_like false e.known.relations)) x
      (ap not admin) (ap not known) not_taken f in
      (views_full true o.0, o.1)

  pub none_full : add_relation_fault e.known acting name owner false ≡ None → has_view_room e ≡ true
  none_full f = views_full false (has_room (not (is_admin acting)) (not (is_some (role_of e.known.rights owner))) (is_some (relation_of e.known.relations name)) (nat_le 64 (count_like false e.known.relations)) f)

  same_refusal : (r : machine.Refusal) → Some machine.too_many ≡ Some r → r ≡ machine.too_many
  same_refusal r h = let t : machine.too_many ≡ r = cc in sym t

  -- the fault tells that there are too many views, or is want of memory
  pub view_stops : (x : AccessFault) (stop : Stop) (a : BoundQuery) (new : Database) → (x ≡ fault.Memory) ⊎ (add_relation_fault e.known acting name owner false ≡ Some x) → IsStopOf x name stop → new ≡ e
      → IsViewAdded e name owner a (Err stop) new
  view_stops x (Refused r) a new h' told same = ⊎_elim
      (λ m. absurd (not_told-Memory x name (refusal_of r) m told))
      (λ f. let full = full_alone x f in (full.0, same_refusal (refusal_of r) (sym (ap (λ y. told_as y name) full.1) ∙ told), same)) h'
  view_stops x Memory a new h' told same = tt

-- ---- the text, and what is kept

-- the session or the names refuse it
pub IsDone-IsCreator : (e : Database) (n : ℕ) (name owner : Name) (query : List ℕ) (stop : Stop) → IsCreator e n name owner (Err stop) → IsDone e n (create_view name owner query) (Err stop) e
IsDone-IsCreator e n name owner query (Refused r) h = (h (bad_text (bound_query e.catalog query) ∷ full 64 (views (frame_of e)) ∷ []), refl)
IsDone-IsCreator e n name owner query Memory h = tt

module _ (e : Database) (n : ℕ) (name owner : Name) (query : List ℕ) (acting : RoleId) (m : MayAdd e n name owner acting) where
  text_tests : frame_refusal (frame_of e) n (create_view name owner query) ≡ or_else (bad_text (bound_query e.catalog query)) (or_else (full 64 (views (frame_of e))) None)
  text_tests = creator_passes e n name owner (bad_text (bound_query e.catalog query) ∷ full 64 (views (frame_of e)) ∷ []) acting m

  pub text_refused : (r : machine.Refusal) → bad_text (bound_query e.catalog query) ≡ Some r → frame_refusal (frame_of e) n (create_view name owner query) ≡ Some r
  text_refused r h = text_tests ∙ ap (λ o. or_else o (or_else (full 64 (views (frame_of e))) None)) h

  module _ (a : BoundQuery) (bound : bound_query e.catalog query ≡ Ok a) where
    room_tests : frame_refusal (frame_of e) n (create_view name owner query) ≡ or_else (full 64 (views (frame_of e))) None
    room_tests = text_tests ∙ ap (λ (b : Result BoundQuery TextFault). or_else (bad_text b) (or_else (full 64 (views (frame_of e))) None)) bound

    full_by : (b : Bool) → not b ≡ false → or_else (test b machine.too_many) None ≡ Some machine.too_many
    full_by true h = refl
    full_by false h = cc

    room_by : (b : Bool) → not b ≡ true → or_else (test b machine.too_many) None ≡ None
    room_by true h = cc
    room_by false h = refl

    pub view_full : has_view_room e ≡ false → frame_refusal (frame_of e) n (create_view name owner query) ≡ Some machine.too_many
    view_full h = room_tests ∙ full_by (nat_le 64 (views (frame_of e))) h

    pub view_passes : has_view_room e ≡ true → frame_refusal (frame_of e) n (create_view name owner query) ≡ None
    view_passes h = room_tests ∙ room_by (nat_le 64 (views (frame_of e))) h

    pub view_kept : database_after e n (create_view name owner query) ≡ with_relation_of name owner (View a) e
    view_kept = ap (λ (b : Result BoundQuery TextFault). record (with_relation_of name owner (View a) e) { catalog = with_held name (view_held b) e.catalog }) bound

    -- the view is added, or there are too many
    pub view_done : (x : Result Unit Stop) (new : Database) → IsViewAdded e name owner a x new → IsDone e n (create_view name owner query) x new
    view_done (Ok u) new h = (view_passes h.0, h.1 ∙ sym view_kept)
    view_done (Err (Refused r)) new h = (view_full h.0 ∙ ap Some (sym h.1), h.2)
    view_done (Err Memory) new h = tt

  -- the text refuses it
  pub bound_refused : (stop : Stop) → IsBoundView (bound_query e.catalog query) (Err stop) → IsDone e n (create_view name owner query) (Err stop) e
  bound_refused (Refused r) h = (text_refused (refusal_of r) h, refl)
  bound_refused Memory h = tt
