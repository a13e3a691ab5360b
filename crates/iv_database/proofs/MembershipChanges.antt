-- Changes of memberships as the first part of a request: which refusal is told, and what is kept.
use Rattle.std.proofs.Common.{◌≡◌, ℕ, Bool, true, false, not, [], ◌∷◌, Option, None, Some, refl, sym, ap, subst, ◌∙◌, ⊎_elim, ◌⊎◌, inr}
use Rattle.std.specs.Prelude.{Result, Ok, Err, IfErr, OnErr, OnOk, is_some, option_map}
use Rattle.iv_access.specs.Changing.{with_member, without_member}
use Rattle.iv_access.specs.Faults.{first_fault, grant_role_fault, revoke_role_fault}
use Rattle.iv_access.specs.Access.{Access, role_number}
use Rattle.iv_roles.specs.Roles.{is_admin}
use Rattle.iv_access.specs.Privileges.{acts_as, role_of}
use Rattle.iv_access.specs.Rights.{Name, Rights}
use Rattle.iv_access.specs.declared.fault.AccessFault.{AccessFault}
use Rattle.iv_access.specs.declared.fault.AccessFault.TheVariants as fault
use Rattle.iv_machine.specs.Act as machine
use Rattle.iv_machine.specs.Act.{Act, Refusal, grant_role, revoke_role}
use Rattle.iv_machine.specs.Refusing.{frame_refusal, or_else, test}
use Rattle.iv_machine.specs.State.{session_of}
use Rattle.iv_database.specs.Database.{Database, frame_of, with_rights}
use Rattle.iv_database.specs.Next.{IsDone, database_after}
use Rattle.iv_database.specs.Telling.{IsTold, told}
use Rattle.iv_command.specs.Views.{refusal_of}
use Rattle.iv_command.specs.declared.stop.Stop.{Stop}
use Rattle.iv_command.specs.declared.stop.Stop.TheVariants.{Refused, Memory}
use Rattle.iv_database.proofs.RightsRefusals.{Tells, first-tests_by}

four : (a b c d : Bool) (name : Name) → Tells (first_fault ((a, fault.NotAdmin) ∷ (b, fault.Role) ∷ (c, fault.Role) ∷ (d, fault.Loop) ∷ [])) name
    (or_else (test a machine.not_administrator) (or_else (test b machine.unknown_role) (or_else (test c machine.unknown_role) (or_else (test d machine.membership_loop) None))))
four true b c d name = record { none = λ h. cc; some = λ x h. let e : fault.NotAdmin ≡ x = cc in (machine.not_administrator, (refl, ap (λ y. told y name) e)) }
four false true c d name = record { none = λ h. cc; some = λ x h. let e : fault.Role ≡ x = cc in (machine.unknown_role, (refl, ap (λ y. told y name) e)) }
four false false true d name = record { none = λ h. cc; some = λ x h. let e : fault.Role ≡ x = cc in (machine.unknown_role, (refl, ap (λ y. told y name) e)) }
four false false false true name = record { none = λ h. cc; some = λ x h. let e : fault.Loop ≡ x = cc in (machine.membership_loop, (refl, ap (λ y. told y name) e)) }
four false false false false name = record { none = λ h. refl; some = λ x h. cc }

three : (a b c : Bool) (name : Name) → Tells (first_fault ((a, fault.NotAdmin) ∷ (b, fault.Role) ∷ (c, fault.Role) ∷ [])) name
    (or_else (test a machine.not_administrator) (or_else (test b machine.unknown_role) (or_else (test c machine.unknown_role) None)))
three true b c name = record { none = λ h. cc; some = λ x h. let e : fault.NotAdmin ≡ x = cc in (machine.not_administrator, (refl, ap (λ y. told y name) e)) }
three false true c name = record { none = λ h. cc; some = λ x h. let e : fault.Role ≡ x = cc in (machine.unknown_role, (refl, ap (λ y. told y name) e)) }
three false false true name = record { none = λ h. cc; some = λ x h. let e : fault.Role ≡ x = cc in (machine.unknown_role, (refl, ap (λ y. told y name) e)) }
three false false false name = record { none = λ h. refl; some = λ x h. cc }

-- what became of a change of rights: as what is known was in u, K is known now, with the rights R where it was accepted
pub record HasTurned (u : Database) (K : Access) (R : Rights) (f : Option AccessFault) (x : Result Unit AccessFault) : Type 0 where
  pub rights : OnOk x (K.rights ≡ R)
  pub relations : K.relations ≡ u.known.relations
  pub ok_when : OnOk x (f ≡ None)
  pub err_when : IfErr x (λ y. (y ≡ fault.Memory) ⊎ (f ≡ Some y))
  pub unchanged : OnErr x (K ≡ u.known)

-- want of memory is told as no refusal
pub not_told-Memory : (y : AccessFault) (name : Name) (r : Refusal) → y ≡ fault.Memory → told y name ≡ Some r → ⊥
not_told-Memory y name r is t = let e : None ≡ Some r = sym (ap (λ z. told z name) is) ∙ t in cc

pub IsDone-IsTold : (u : Database) (K : Access) (R : Rights) (n : ℕ) (act : Act) (f : Option AccessFault) (name : Name) (o : Option Refusal) (x : Result Unit AccessFault) (y : Result Unit Stop)
    → Tells f name o → o ≡ frame_refusal (frame_of u) n act → with_rights R u ≡ database_after u n act → HasTurned u K R f x → IsTold x name y → IsDone u n act y (record u { known = K })
IsDone-IsTold u K R n act f name o (Ok i) (Ok v) tells is left h t =
    (sym is ∙ tells.none h.ok_when, (λ j. record u { known = record { relations = h.relations j; rights = h.rights j } }) ∙ left)
IsDone-IsTold u K R n act f name o (Ok i) (Err s) tells is left h t = absurd t
IsDone-IsTold u K R n act f name o (Err x) (Ok v) tells is left h t = absurd t
IsDone-IsTold u K R n act f name o (Err x) (Err (Refused r)) tells is left h t = ⊎_elim
    (λ m. absurd (not_told-Memory x name (refusal_of r) m t))
    (λ s. let z = tells.some x s in (sym is ∙ z.1.0 ∙ z.1.1 ∙ t, ap (λ k. record u { known = k }) h.unchanged)) h.err_when
IsDone-IsTold u K R n act f name o (Err x) (Err Memory) tells is left h t = tt

module _ (u e : Database) (K : Access) (n a : ℕ) (called role to : Name) (x : Result Unit AccessFault) (y : Result Unit Stop)
    (is : u ≡ e) (same : called ≡ role) (acting : Some a ≡ option_map (λ s. s.role) (session_of e.sessions n)) (t : IsTold x role y) where
  acts_here : Some a ≡ option_map (λ s. s.role) (session_of u.sessions n)
  acts_here = acting ∙ sym (ap (λ (v : Database). option_map (λ s. s.role) (session_of v.sessions n)) is)

  told_here : IsTold x called y
  told_here = subst (λ name. IsTold x name y) (sym same) t

  as_named : (act : Name → Act) → IsDone u n (act called) y (record u { known = K }) → IsDone e n (act role) y (record u { known = K })
  as_named act g = subst (λ (v : Database). IsDone v n (act role) y (record u { known = K })) is (subst (λ name. IsDone u n (act name) y (record u { known = K })) same g)

  pub joined_done : HasTurned u K (with_member (role_number u.known.rights called) (role_number u.known.rights to) u.known.rights) (grant_role_fault u.known.rights a called to) x
      → IsDone e n (grant_role role to) y (record u { known = K })
  joined_done h = as_named (λ name. grant_role name to) (IsDone-IsTold u K _ n (grant_role called to) (grant_role_fault u.known.rights a called to) called _ x y
      (four (not (is_admin a)) (not (is_some (role_of u.known.rights called))) (not (is_some (role_of u.known.rights to))) (acts_as u.known.rights (role_number u.known.rights called) (role_number u.known.rights to)) called)
      (sym (first-tests_by u n a (grant_role called to) acts_here)) refl h told_here)

  pub parted_done : HasTurned u K (without_member (role_number u.known.rights called) (role_number u.known.rights to) u.known.rights) (revoke_role_fault u.known.rights a called to) x
      → IsDone e n (revoke_role role to) y (record u { known = K })
  parted_done h = as_named (λ name. revoke_role name to) (IsDone-IsTold u K _ n (revoke_role called to) (revoke_role_fault u.known.rights a called to) called _ x y
      (three (not (is_admin a)) (not (is_some (role_of u.known.rights called))) (not (is_some (role_of u.known.rights to))) called)
      (sym (first-tests_by u n a (revoke_role called to) acts_here)) refl h told_here)

-- a fault that is no want of memory
pub without_memory : (x : Result Unit AccessFault) (f : Option AccessFault) → IfErr x (λ y. f ≡ Some y) → IfErr x (λ y. (y ≡ fault.Memory) ⊎ (f ≡ Some y))
without_memory (Ok i) f h = tt
without_memory (Err y) f h = inr h
