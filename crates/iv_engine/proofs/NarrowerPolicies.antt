-- A further restrictive policy: a role sees of each table what it saw before, or less.
use Rattle.std.proofs.Common.{◌≡◌, ℕ, Bool, true, false, cond, ap, arith, sym, subst, refl, None, ◌∙◌}
use Rattle.std.proofs.lemmas.Bool.Decides.{nat_tests}
use Rattle.std.specs.Prelude.{◌==◌, ◌≢◌, Ok, slice_get}
use Rattle.std.specs.List.{AllByRecursion}
use Rattle.iv_rows.specs.declared.schema.RelId.{RelId}
use Rattle.iv_algebra.specs.Rows.{Cells}
use Rattle.iv_access.specs.Changing.{changed_at, with_policy}
use Rattle.iv_access.specs.Policies.{by_policies, is_exempt, is_pass, may_see, policies_of}
use Rattle.iv_access.specs.Rights.{Policy, Rights}
use Rattle.iv_access.specs.declared.policy.Check.TheVariants.{Select}
use Rattle.iv_access.specs.declared.policy.Verdict.TheVariants.{Pass}
use Rattle.iv_access.proofs.Further.{slice_get-changed_at, further, narrow, slice_get-changed_elsewhere, same_verdict}
use Rattle.iv_database.specs.Database.{Database}
use Rattle.iv_database.specs.Owned.{IsGuarded}
use Rattle.iv_machine.specs.Act.{PolicyText, create_policy}
use Rattle.iv_machine.specs.Changing.{policy_for}
use Rattle.iv_machine.specs.State.{rel_of}
use Rattle.iv_store.specs.Store.{database_of, with_database, IsRoleCircuit, IsSoundStore, Store, frame_of}
use Rattle.iv_store.specs.Turned.{IsNarrowed}
use Rattle.iv_readers.proofs.Lists.{AllByRecursion-map}
use Rattle.iv_engine.proofs.GuardChanges.{guard_is, guarded, IsGuarding-create_policy}

same_number : (n m : ℕ) → (n == m) ≡ true → n ≡ m
same_number n m h = grind (arith, nat_tests)

other_number : (n m : ℕ) → (n == m) ≡ false → n ≢ m
other_number n m h = grind (arith, nat_tests)

module _ (r : Rights) (p : Policy) (t role : ℕ) (row : Cells) (restrictive : p.restrictive ≡ true) where
  own : may_see (with_policy t p r) role t row ≡ true → may_see r role t row ≡ true
  own h = narrow r p role Select row (slice_get r.guards t) restrictive
      (sym (ap is_pass (same_verdict r (changed_at t (further p) r.guards) role Select row (slice_get (changed_at t (further p) r.guards) t)
      ∙ ap (λ o. cond (is_exempt r role o) Pass (by_policies r role Select row (policies_of o))) (slice_get-changed_at t (further p) r.guards))) ∙ h)

  other : (k : ℕ) → k ≢ t → may_see (with_policy t p r) role k row ≡ true → may_see r role k row ≡ true
  other k n h =
      sym (ap is_pass (same_verdict r (changed_at t (further p) r.guards) role Select row (slice_get (changed_at t (further p) r.guards) k)
      ∙ ap (λ o. cond (is_exempt r role o) Pass (by_policies r role Select row (policies_of o))) (slice_get-changed_elsewhere t k (further p) r.guards n))) ∙ h

  sees_less : (k : ℕ) → may_see (with_policy t p r) role k row ≡ true → may_see r role k row ≡ true
  sees_less k h = part (k == t) refl
    where
      part : (b : Bool) → (k == t) ≡ b → may_see r role k row ≡ true
      part true e = subst (λ n. may_see r role n row ≡ true) (sym (same_number k t e)) (own (subst (λ n. may_see (with_policy t p r) role n row ≡ true) (same_number k t e) h))
      part false e = other k (other_number k t e) h

neither_way : {A : Type 0} (b : Bool) → b ≡ true → b ≡ false → A
neither_way true h g = cc
neither_way false h g = cc

narrowed : (e : Store) (t : ℕ) (p : Policy) → p.restrictive ≡ true → IsSoundStore e → AllByRecursion (IsNarrowed (guarded t (further p) e) None) e.circuits
narrowed e t p restrictive h = AllByRecursion-map (IsRoleCircuit e) (IsNarrowed (guarded t (further p) e) None) e.circuits
    (λ k i. record {
      rights = e.known.rights;
      is = i.is;
      more = λ table row sees was. neither_way (may_see e.known.rights k.role table row) (sees_less e.known.rights p t k.role row restrictive table sees) was;
      kept = λ some. let no : false ≡ true = some in cc;
    }) h.circuits

pub IsNarrowed-create_policy : (e u : Store) (d : Database) (n : ℕ) (p : PolicyText) (is : u ≡ e) (h : IsSoundStore e) (table : RelId) → IsGuarded (database_of u) n (create_policy p) p.rel (Ok table) d
    → p.restrictive ≡ true → AllByRecursion (IsNarrowed (with_database d u) None) (with_database d u).circuits
IsNarrowed-create_policy e u d n p is h table told restrictive =
    subst (λ (v : Store). AllByRecursion (IsNarrowed v None) v.circuits)
    (sym (guard_is e u d n (create_policy p) p.rel is (IsGuarding-create_policy e n p) h table told))
    (narrowed e (rel_of e.catalog p.rel) (policy_for (frame_of e) p) restrictive h)
