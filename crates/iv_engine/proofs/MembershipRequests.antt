-- A request that makes or ends a membership, as the database does it.
use Rattle.std.proofs.Common.{◌≡◌, ℕ, Bool, List, length, None, Option, refl, sym, ap, ◌∙◌}
use Rattle.std.specs.Prelude.{option_map}
use Rattle.iv_access.specs.Privileges.{role_of}
use Rattle.iv_access.specs.Rights.{Name}
use Rattle.iv_roles.specs.declared.role.RoleId.{RoleId}
use Rattle.iv_machine.specs.Act.{Act, grant_role, revoke_role}
use Rattle.iv_machine.specs.Refusing.{frame_refusal}
use Rattle.iv_database.specs.Database as database
use Rattle.iv_database.specs.Database.{Database}
use Rattle.iv_database.specs.Next.{database_after}
use Rattle.iv_store.specs.Answering.{IsAccepted}
use Rattle.iv_readers.specs.Flags.{differing}
use Rattle.iv_store.specs.Concerned.{reaching}
use Rattle.iv_store.specs.Store.{IsSoundStore, Store, database_of, frame_of, with_database}
use Rattle.iv_store.specs.Next.{kept_after}
use Rattle.iv_store.specs.Turned.{AreReadersTold, AreWaiting}
use Rattle.iv_command.specs.declared.answer.Answer.{Answer}
use Rattle.iv_engine.proofs.MembershipEffects.{joined_step, joined_waiting, length-reaching, parted_step, parted_waiting}
use Rattle.iv_engine.proofs.RightsSteps.{AreReadersTold-same, AreWaiting-same}
use Rattle.iv_store.proofs.RequestSteps.{TestsAlike, has_become, has_passed}

-- of each circuit, whether its role reaches the role as it did not before
abbrev pub turned : Store → ℕ → Act → Option RoleId → List Bool
turned e n act g = differing (reaching e g) (reaching (kept_after e n act) g)

-- readers can be told of the request, where it passes, and that is its step
pub record IsEnrolling (e : Store) (n : ℕ) (act : Act) (role : Name) : Type 0 where
  pub same : (v : Store) → TestsAlike v n act
  pub waits : (g : Option RoleId) → option_map (λ r. r.0) g ≡ role_of e.known.rights role → frame_refusal (frame_of e) n act ≡ None
      → AreWaiting (kept_after e n act) (turned e n act g)
  pub steps : (g : Option RoleId) → option_map (λ r. r.0) g ≡ role_of e.known.rights role → (new : Store) (a : Answer) → frame_refusal (frame_of e) n act ≡ None
      → AreReadersTold (kept_after e n act) (turned e n act g) a new → IsAccepted e n act a new

pub IsEnrolling-grant_role : (e : Store) (n : ℕ) (role to : Name) → IsSoundStore e → IsEnrolling e n (grant_role role to) role
IsEnrolling-grant_role e n role to h =
    record { same = λ v. refl; waits = λ g found. joined_waiting e n role to h g found; steps = λ g found. joined_step e n role to h g found }

pub IsEnrolling-revoke_role : (e : Store) (n : ℕ) (role to : Name) → IsSoundStore e → IsEnrolling e n (revoke_role role to) role
IsEnrolling-revoke_role e n role to h =
    record { same = λ v. refl; waits = λ g found. parted_waiting e n role to h g found; steps = λ g found. parted_step e n role to h g found }

-- it has passed, and flags were told of the circuits before
module _ (e u : Store) (d : Database) (n : ℕ) (act : Act) (role : Name) (is : u ≡ e) (q : IsEnrolling e n act role)
    (told : (frame_refusal (database.frame_of (database_of u)) n act ≡ None) × (d ≡ database_after (database_of u) n act))
    (g : Option RoleId) (before : List Bool) (flags : before ≡ reaching e g) where
  passed : frame_refusal (frame_of e) n act ≡ None
  passed = has_passed e u d n act is (q.same u) told.0

  was : with_database d u ≡ kept_after e n act
  was = has_become e u d n act is (q.same u) told.0 told.1

  same_flags : differing before (reaching (with_database d u) g) ≡ turned e n act g
  same_flags = λ i. differing (flags i) (reaching (was i) g)

  pub enrolled_long : length before ≡ length (with_database d u).circuits
  enrolled_long = ap (λ (bs : List Bool). length bs) flags ∙ length-reaching e g ∙ sym (ap (λ (v : Store). length v.circuits) was)

  module _ (found : option_map (λ r. r.0) g ≡ role_of e.known.rights role) where
    pub enrolled_waits : AreWaiting (with_database d u) (differing before (reaching (with_database d u) g))
    enrolled_waits = AreWaiting-same (with_database d u) (kept_after e n act) _ _ was same_flags (q.waits g found passed)

    pub enrolled_steps : (new : Store) (a : Answer) → AreReadersTold (with_database d u) (differing before (reaching (with_database d u) g)) a new → IsAccepted e n act a new
    enrolled_steps new a readers = q.steps g found new a passed (AreReadersTold-same (with_database d u) (kept_after e n act) _ _ a new was same_flags readers)
