-- Which refusal a refused change of rights is, and what an accepted one leaves.
use Rattle.std.proofs.Common.{◌≡◌, ℕ, ◌<◌, Bool, true, false, not, List, [], ◌∷◌, length, map, Option, None, Some, refl, sym, ap, subst, ◌∙◌, arith}
use Rattle.std.specs.Prelude.{Result, Ok, Err, IfSome, is_some, nat_le, option_map, unwrap_or, position}
use Rattle.std.specs.List.{position_from}
use Rattle.std.proofs.lemmas.Iterator.Adapters.{position_from-zero}
use Rattle.std.proofs.lemmas.List.Quantifiers.{position-Some}
use Rattle.iv_rows.specs.Columns.{Column}
use Rattle.iv_rows.specs.declared.schema.RelId.{RelId}
use Rattle.iv_rows.specs.Options.{if_some}
use Rattle.iv_bind.specs.Catalogs.{CatalogEntry, named, numbered, schema_of, table_in}
use Rattle.iv_access.specs.Faults.{first_fault, add_relation_fault, count_like}
use Rattle.iv_access.specs.Access.{Relation, relation_of}
use Rattle.iv_roles.specs.Roles.{is_admin}
use Rattle.iv_access.specs.Privileges.{role_of}
use Rattle.iv_access.specs.Rights.{Name}
use Rattle.iv_access.specs.declared.fault.AccessFault.{AccessFault}
use Rattle.iv_access.specs.declared.fault.AccessFault.TheVariants as fault
use Rattle.iv_machine.specs.Act as machine
use Rattle.iv_machine.specs.Act.{Act, create_table, Refusal}
use Rattle.iv_machine.specs.Refusing.{test, or_else, first, frame_refusal, tests_by}
use Rattle.iv_machine.specs.State.{Session, session_of, name_of, table_columns, rel_of, next_rel, is_open, actor}
use Rattle.std.proofs.lemmas.List.{length-map}
use Rattle.iv_database.specs.Database.{Database, IsDatabase, frame_of, relation_in}
use Rattle.iv_database.specs.Next.{IsDone}
use Rattle.iv_command.specs.declared.stop.Stop.{Stop}
use Rattle.iv_command.specs.declared.stop.Stop.TheVariants.{Refused, Memory}
use Rattle.iv_database.specs.Telling.{told, IsAdded}
use Rattle.iv_database.proofs.Tables.{IsNamed, count_like-tables, is_of, numbered-None, named-None, IsNamed-position_from}

-- ---- the acting role

pub is_some-acting : (o : Option Session) (a d : ℕ) → Some a ≡ option_map (λ s. s.role) o → (is_some o ≡ true) × (unwrap_or (option_map (λ s. s.role) o) d ≡ a)
is_some-acting None a d h = cc
is_some-acting (Some s) a d h = let e : s.role ≡ a = cc in (refl, e)

-- where the session is open, the tests are those of its role
pub first-tests_by : (e : Database) (n a : ℕ) (act : Act) → Some a ≡ option_map (λ s. s.role) (session_of e.sessions n)
    → or_else (test (not (is_open (frame_of e) n)) machine.no_session) (first (tests_by (frame_of e) n (actor (frame_of e) n) act)) ≡ first (tests_by (frame_of e) n a act)
first-tests_by e n a act h = let o = is_some-acting (session_of e.sessions n) a (length e.known.rights.roles) h in
    (λ i. or_else (test (not (o.0 i)) machine.no_session) (first (tests_by (frame_of e) n (o.1 i) act)))

pub is_some-None : (o : Option Session) → None ≡ option_map (λ s. s.role) o → is_some o ≡ false
is_some-None None h = refl
is_some-None (Some s) h = cc

-- ---- faults in their order

-- the fault is told as the refusal, and there is none where there is none
pub record Tells (f : Option AccessFault) (name : Name) (r : Option Refusal) : Type 0 where
  pub none : f ≡ None → r ≡ None
  pub some : (x : AccessFault) → f ≡ Some x → (y : Refusal) × ((r ≡ Some y) × (Some y ≡ told x name))

four : (a d b c : Bool) (name : Name) → Tells (first_fault ((a, fault.NotAdmin) ∷ (d, fault.Role) ∷ (b, fault.Taken) ∷ (c, fault.TooMany) ∷ [])) name
    (or_else (test a machine.not_administrator) (or_else (test d machine.unknown_role) (or_else (test b machine.name_taken) (or_else (test c machine.too_many) None))))
four true d b c name = record { none = λ h. cc; some = λ x h. let e : fault.NotAdmin ≡ x = cc in (machine.not_administrator, (refl, ap (λ y. told y name) e)) }
four false true b c name = record { none = λ h. cc; some = λ x h. let e : fault.Role ≡ x = cc in (machine.unknown_role, (refl, ap (λ y. told y name) e)) }
four false false true c name = record { none = λ h. cc; some = λ x h. let e : fault.Taken ≡ x = cc in (machine.name_taken, (refl, ap (λ y. told y name) e)) }
four false false false true name = record { none = λ h. cc; some = λ x h. let e : fault.TooMany ≡ x = cc in (machine.too_many, (refl, ap (λ y. told y name) e)) }
four false false false false name = record { none = λ h. refl; some = λ x h. cc }

-- ---- a new table

module _ (e : Database) (h : IsDatabase e) where
  place : (name : Name) → relation_of e.known.relations name ≡ position_from (is_of name) 0 (map relation_in e.catalog)
  place name = position_from-zero (is_of name) e.known.relations ∙ ap (position_from (is_of name) 0) h.relations

  pub unknown : (name : Name) → relation_of e.known.relations name ≡ None → named e.catalog name ≡ None
  unknown name n = named-None 0 e.catalog name (sym (place name) ∙ n)

  pub known : (name : Name) (k : ℕ) → relation_of e.known.relations name ≡ Some k → (x : CatalogEntry) × IsNamed e.catalog x name k
  known name k n = IsNamed-position_from 0 e.catalog name k h.numbered (sym (place name) ∙ n)

  pub as_long : length e.known.relations ≡ length e.catalog
  as_long = ap (λ (rs : List Relation). length rs) h.relations ∙ length-map {B = Relation} e.catalog relation_in

  pub below : (name : Name) (k : ℕ) → relation_of e.known.relations name ≡ Some k → k < length e.catalog
  below name k n = subst (λ m. k < m) as_long (in_list e.known.relations n)
    where
      in_list : (rs : List Relation) → position (is_of name) rs ≡ Some k → k < length rs
      in_list [] m = cc
      in_list (r ∷ rs) m = (position-Some (is_of name) (r ∷ rs) k r m).0

  pub named_known : (name : Name) → is_some (relation_of e.known.relations name) ≡ is_some (named (frame_of e).catalog name)
  named_known name = by (relation_of e.known.relations name) refl
    where
      by : (o : Option ℕ) → relation_of e.known.relations name ≡ o → is_some o ≡ is_some (named (frame_of e).catalog name)
      by None n = sym (ap (λ p. is_some p) (unknown name n))
      by (Some k) n = sym (ap (λ p. is_some p) (known name k n).1.named)

  pub number_is : (name : Name) (k : ℕ) → relation_of e.known.relations name ≡ Some k → rel_of (frame_of e).catalog name ≡ k
  number_is name k n = let x = known name k n in ap (λ o. if_some o (next_rel e.catalog) (λ y. y.rel)) x.1.named ∙ x.1.placed

  pub table_told : (n a : ℕ) (name owner : Name) (columns : List Column) → Some a ≡ option_map (λ s. s.role) (session_of e.sessions n)
      → Tells (add_relation_fault e.known a name owner true) name (frame_refusal (frame_of e) n (create_table name owner columns))
  table_told n a name owner columns h' =
      subst (Tells (add_relation_fault e.known a name owner true) name) (sym (first-tests_by e n a (create_table name owner columns) h'))
      (subst (λ m. Tells (add_relation_fault e.known a name owner true) name (or_else (test (not (is_admin a)) machine.not_administrator) (or_else (test (not (is_some (role_of e.known.rights owner))) machine.unknown_role) (or_else (test (is_some (named (frame_of e).catalog name)) machine.name_taken) (or_else (test (nat_le 64 m) machine.too_many) None)))))
      (ap (count_like true) h.relations ∙ count_like-tables e.catalog)
      (subst (λ b. Tells (add_relation_fault e.known a name owner true) name (or_else (test (not (is_admin a)) machine.not_administrator) (or_else (test (not (is_some (role_of e.known.rights owner))) machine.unknown_role) (or_else (test b machine.name_taken) (or_else (test (nat_le 64 (count_like true e.known.relations)) machine.too_many) None)))))
      (named_known name)
      (four (not (is_admin a)) (not (is_some (role_of e.known.rights owner))) (is_some (relation_of e.known.relations name)) (nat_le 64 (count_like true e.known.relations)) name)))

-- ---- a relation that may be IsDone-IsAdded is new

free_by : (a d b c : Bool) → first_fault ((a, fault.NotAdmin) ∷ (d, fault.Role) ∷ (b, fault.Taken) ∷ (c, fault.TooMany) ∷ []) ≡ None → b ≡ false
free_by true d b c h = cc
free_by false true b c h = cc
free_by false false true c h = cc
free_by false false false c h = refl

pub None-not_some : (o : Option ℕ) → is_some o ≡ false → o ≡ None
None-not_some None h = refl
None-not_some (Some k) h = cc

pub named-add_relation_fault : (e : Database) → IsDatabase e → (a : ℕ) (name owner : Name) → add_relation_fault e.known a name owner true ≡ None → named e.catalog name ≡ None
named-add_relation_fault e h a name owner f = unknown e h name (None-not_some (relation_of e.known.relations name)
    (free_by (not (is_admin a)) (not (is_some (role_of e.known.rights owner))) (is_some (relation_of e.known.relations name)) (nat_le 64 (count_like true e.known.relations)) f))

pub numbered-length : (e : Database) → IsDatabase e → (k : ℕ) → k ≡ length e.known.relations → numbered e.catalog k ≡ None
numbered-length e h k l = numbered-None 0 e.catalog k h.numbered (let m = as_long e h in omega arith)

pub IsDone-IsAdded : (e new : Database) (n a : ℕ) (name owner : Name) (columns : List Column) (x : Result Unit Stop)
    → IsDatabase e → Some a ≡ option_map (λ s. s.role) (session_of e.sessions n)
    → IsAdded e a name owner columns x new → IsDone e n (create_table name owner columns) x new
IsDone-IsAdded e new n a name owner columns (Ok u) h o d = ((table_told e h n a name owner columns o).none d.0, d.1)
IsDone-IsAdded e new n a name owner columns (Err (Refused r)) h o d =
    let z = (table_told e h n a name owner columns o).some d.0 d.1 in
    (z.1.0 ∙ z.1.1 ∙ d.2, d.3)
IsDone-IsAdded e new n a name owner columns (Err Memory) h o d = tt

-- ---- a table by its name

module _ (e : Database) (h : IsDatabase e) (name : Name) where
  pub table_known : (o : Option RelId) → option_map (λ r. r.0) o ≡ relation_of e.known.relations name → is_some o ≡ is_some (named (frame_of e).catalog name)
  table_known None g = ap (λ p. is_some p) g ∙ named_known e h name
  table_known (Some r) g = ap (λ p. is_some p) g ∙ named_known e h name

  pub table_number : (o : Option RelId) → option_map (λ r. r.0) o ≡ relation_of e.known.relations name → IfSome o (λ r. rel_of (frame_of e).catalog name ≡ r.0)
  table_number None g = tt
  table_number (Some r) g = number_is e h name r.0 (sym g)

  pub table_name : (o : Option RelId) → option_map (λ r. r.0) o ≡ relation_of e.known.relations name → IfSome o (λ r. name_of (frame_of e).catalog r.0 ≡ name)
  table_name None g = tt
  table_name (Some r) g = let x = known e h name r.0 (sym g) in ap (λ o. if_some o [] (λ y. y.name)) x.1.numbered ∙ x.1.called

  pub table_columns_are : (o : Option RelId) → option_map (λ r. r.0) o ≡ relation_of e.known.relations name → IfSome o (λ r. table_columns e.catalog name ≡ schema_of e.catalog r.0)
  table_columns_are None g = tt
  table_columns_are (Some r) g = let c = known e h name r.0 (sym g) in ap (λ o. if_some o None (λ x. table_in x.held)) c.1.named ∙ sym (ap (λ o. if_some o None (λ x. table_in x.held)) c.1.numbered)

  pub table_below : (o : Option RelId) → option_map (λ r. r.0) o ≡ relation_of e.known.relations name → IfSome o (λ r. r.0 < length e.catalog)
  table_below None g = tt
  table_below (Some r) g = below e h name r.0 (sym g)
