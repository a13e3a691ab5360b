-- Grants and their taking back as the first part of a request: which refusal is told, and what is kept.
use Rattle.std.proofs.Common.{◌≡◌, ℕ, Bool, true, false, not, List, [], ◌∷◌, Option, None, Some, refl, sym, ap, subst, ◌∙◌}
use Rattle.std.specs.Prelude.{Result, is_some}
use Rattle.iv_bind.specs.Catalogs.{named}
use Rattle.iv_access.specs.Changing.{with_grants, without_grants}
use Rattle.iv_access.specs.Access.{grantee_of}
use Rattle.iv_access.specs.Faults.{first_fault, grant_fault, is_grantee}
use Rattle.iv_access.specs.Access.{Access}
use Rattle.iv_access.specs.Privileges.{owns}
use Rattle.iv_access.specs.Rights.{Name}
use Rattle.iv_access.specs.declared.fault.AccessFault.{AccessFault}
use Rattle.iv_access.specs.declared.fault.AccessFault.TheVariants as fault
use Rattle.iv_access.specs.declared.privilege.Privilege.{Privilege}
use Rattle.iv_machine.specs.Act as machine
use Rattle.iv_machine.specs.Act.{Act, Refusal, grant, revoke}
use Rattle.iv_machine.specs.Refusing.{frame_refusal, known_grantee, or_else, test}
use Rattle.iv_machine.specs.State.{rel_of}
use Rattle.iv_database.specs.Database.{Database, frame_of, with_rights}
use Rattle.iv_database.specs.Next.{IsDone}
use Rattle.iv_database.specs.Target.{IsTarget}
use Rattle.iv_database.specs.Telling.{IsTold, told}
use Rattle.iv_command.specs.declared.stop.Stop.{Stop}
use Rattle.iv_database.proofs.MembershipChanges.{HasTurned, IsDone-IsTold}
use Rattle.iv_database.proofs.RightsRefusals.{Tells, first-tests_by}

two : (a b : Bool) (name : Name) → Tells (first_fault ((a, fault.NotOwner) ∷ (b, fault.Role) ∷ [])) name (or_else (test a (machine.not_owner name)) (or_else (test b machine.unknown_role) None))
two true b name = record { none = λ h. cc; some = λ x h. let e : fault.NotOwner ≡ x = cc in (machine.not_owner name, (refl, ap (λ y. told y name) e)) }
two false true name = record { none = λ h. cc; some = λ x h. let e : fault.Role ≡ x = cc in (machine.unknown_role, (refl, ap (λ y. told y name) e)) }
two false false name = record { none = λ h. refl; some = λ x h. cc }

module _ (u e : Database) (K : Access) (n a number : ℕ) (called rel : Name) (privileges : List Privilege) (to : Option Name) (x : Result Unit AccessFault) (y : Result Unit Stop)
    (is : u ≡ e) (same : called ≡ rel) (target : IsTarget e n called a number) (t : IsTold x rel y) where
  here : IsTarget u n called a number
  here = subst (λ v. IsTarget v n called a number) (sym is) target

  told_here : IsTold x called y
  told_here = subst (λ name. IsTold x name y) (sym same) t

  abbrev refusal : Option Refusal
  refusal = or_else (test (not (owns u.known.rights a number)) (machine.not_owner called)) (or_else (known_grantee (frame_of u) to) None)

  tells : Tells (grant_fault u.known.rights a number to) called refusal
  tells = by to
    where
      by : (to : Option Name) → Tells (grant_fault u.known.rights a number to) called (or_else (test (not (owns u.known.rights a number)) (machine.not_owner called)) (or_else (known_grantee (frame_of u) to) None))
      by None = two (not (owns u.known.rights a number)) false called
      by (Some name) = two (not (owns u.known.rights a number)) (not (is_grantee u.known.rights (Some name))) called

  as_named : (act : Name → Act) → IsDone u n (act called) y (record u { known = K }) → IsDone e n (act rel) y (record u { known = K })
  as_named act g = subst (λ (v : Database). IsDone v n (act rel) y (record u { known = K })) is (subst (λ name. IsDone u n (act name) y (record u { known = K })) same g)

  -- what is told, where the relation is known by its number
  first_told : (act : Act) → or_else (test (not (is_some (named u.catalog called))) machine.unknown_relation)
      (or_else (test (not (owns u.known.rights a (rel_of u.catalog called))) (machine.not_owner called)) (or_else (known_grantee (frame_of u) to) None)) ≡ frame_refusal (frame_of u) n act
      → refusal ≡ frame_refusal (frame_of u) n act
  first_told act all = (λ i. or_else (test (not (sym here.known i)) machine.unknown_relation)
      (or_else (test (not (owns u.known.rights a (sym here.number i))) (machine.not_owner called)) (or_else (known_grantee (frame_of u) to) None))) ∙ all

  pub granted_done : HasTurned u K (with_grants number privileges (grantee_of u.known.rights to) u.known.rights) (grant_fault u.known.rights a number to) x → IsDone e n (grant rel privileges to) y (record u { known = K })
  granted_done h = as_named (λ name. grant name privileges to) (IsDone-IsTold u K _ n (grant called privileges to) (grant_fault u.known.rights a number to) called refusal x y tells
      (first_told (grant called privileges to) (sym (first-tests_by u n a (grant called privileges to) here.acts)))
      (λ i. with_rights (with_grants (sym here.number i) privileges (grantee_of u.known.rights to) u.known.rights) u) h told_here)

  pub taken_done : HasTurned u K (without_grants number privileges (grantee_of u.known.rights to) u.known.rights) (grant_fault u.known.rights a number to) x → IsDone e n (revoke rel privileges to) y (record u { known = K })
  taken_done h = as_named (λ name. revoke name privileges to) (IsDone-IsTold u K _ n (revoke called privileges to) (grant_fault u.known.rights a number to) called refusal x y tells
      (first_told (revoke called privileges to) (sym (first-tests_by u n a (revoke called privileges to) here.acts)))
      (λ i. with_rights (without_grants (sym here.number i) privileges (grantee_of u.known.rights to) u.known.rights) u) h told_here)
