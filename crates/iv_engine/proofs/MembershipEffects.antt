-- Memberships that come and go.
use Rattle.std.proofs.Common.{◌≡◌, ℕ, Bool, true, false, cond, not, List, [], ◌∷◌, length, map, get_or, Option, None, Some, refl, sym, ap, subst, ◌∙◌}
use Rattle.std.proofs.lemmas.List.{length-map}
use Rattle.std.specs.Prelude.{is_some, option_map, unwrap_or}
use Rattle.iv_access.specs.Access.{role_number}
use Rattle.iv_roles.specs.Laws.{StaysUnless}
use Rattle.iv_access.specs.Laws.{ReachesAlike}
use Rattle.iv_roles.specs.Memberships.{with_membership, member_of, without_membership, reaches, Membership}
use Rattle.iv_roles.specs.Roles.{is_admin}
use Rattle.iv_access.specs.Privileges.{acts_as, role_of}
use Rattle.iv_access.specs.Rights.{Name, Rights}
use Rattle.iv_roles.specs.declared.role.RoleId.{RoleId}
use Rattle.iv_roles.proofs.Chains.{reaches-with_membership, reaches-without_membership}
use Rattle.iv_circuit.specs.Nodes.{scans_of}
use Rattle.iv_machine.specs.Act as machine
use Rattle.iv_machine.specs.Act.{Act, Refusal, grant_role, revoke_role}
use Rattle.iv_machine.specs.Refusing.{first, frame_refusal, known_role, or_else, test}
use Rattle.iv_machine.specs.State.{Subscription, actor, is_open, plan_at}
use Rattle.iv_store.specs.Answering.{IsAccepted}
use Rattle.iv_readers.specs.Flags.{differ, differing}
use Rattle.iv_store.specs.Concerned.{reaches_some, reaching}
use Rattle.iv_store.specs.Counting.{IsRebuiltByReach}
use Rattle.iv_store.specs.Store.{IsSoundStore, IsStored, Store, frame_of, with_rights}
use Rattle.iv_readers.specs.Readers.{RoleCircuit}
use Rattle.iv_store.specs.Next.{kept_after}
use Rattle.iv_store.specs.Engine.{Engine}
use Rattle.iv_store.specs.Turned.{AreReadersTold, AreWaiting}
use Rattle.iv_command.specs.declared.answer.Answer.{Answer}
use Rattle.iv_store.proofs.RelationCircuits.{IsCircuitFor-may_see}
use Rattle.iv_engine.proofs.RightsSteps.{StaysStill, flag_beside, flags_of, role_reads-ReachesAlike, righted_step, righted_stored, waiting}
use Rattle.iv_store.proofs.VisibleRows.{may_see-ReachesAlike}

-- ---- flags that differ

pub alike_flags : (a b : Bool) → differ a b ≡ false → b ≡ a
alike_flags true true h = refl
alike_flags true false h = cc
alike_flags false true h = cc
alike_flags false false h = refl

other_flags : (a b : Bool) → differ a b ≡ true → b ≡ a → ⊥
other_flags true true h k = cc
other_flags true false h k = cc
other_flags false true h k = cc
other_flags false false h k = cc

differing_maps : (f g : RoleCircuit → Bool) (ks : List RoleCircuit) → differing (map f ks) (map g ks) ≡ map (λ k. differ (f k) (g k)) ks
differing_maps f g [] = refl
differing_maps f g (k ∷ ks) = ap (λ bs. differ (f k) (g k) ∷ bs) (differing_maps f g ks)

-- there is one for each circuit
pub length-reaching : (e : Store) (g : Option RoleId) → length (reaching e g) ≡ length e.circuits
length-reaching e g = length-map e.circuits (λ k. reaches_some e.known.rights k.role g)

-- ---- other memberships, by which a role stays as it is unless it comes to reach the group or ceases to

module _ (e : Store) (ms : List Membership) (group : ℕ) (few : StaysUnless e.known.rights.members ms group) where
  abbrev q : Rights
  q = record e.known.rights { members = ms }

  abbrev c : Store
  c = with_rights q e

  -- the roles that come to reach the group, or cease to
  abbrev pub turns_reach : (role rel : ℕ) → Bool
  turns_reach role rel = differ (reaches e.known.rights.members role group) (reaches ms role group)

  alike_reach : (role rel : ℕ) → turns_reach role rel ≡ false → ReachesAlike e.known.rights ms role
  alike_reach role rel off = few role (alike_flags (reaches e.known.rights.members role group) (reaches ms role group) off)

  pub member_still : StaysStill e ms e.known.rights.guards e.known.rights.grants turns_reach
  member_still k off i reads =
      let alike = alike_reach k.role k.rel off in
      record {
        is = IsCircuitFor-may_see e q k.role (plan_at e.catalog k.rel) k.circuit
            (λ j x lt row. may_see-ReachesAlike q e.known.rights k.role (get_or (scans_of k.circuit.node) j x).table alike refl refl row) i.is;
        reads = role_reads-ReachesAlike e q k.role k.rel alike refl ∙ reads;
      }

  pub member_stored : IsStored e → IsStored c
  member_stored h = righted_stored e ms e.known.rights.guards e.known.rights.grants h.database.guards h

  -- the rounds begin anew where the role reaches other roles than before
  turned_by_flag : (old new : Engine) (role rel was now : ℕ) → old.frame.rights ≡ e.known.rights → new.frame.rights ≡ q → (b : Bool) → turns_reach role rel ≡ b → now ≡ cond b 0 was → IsRebuiltByReach old new role was now
  turned_by_flag old new role rel was now a b true on is = record {
    changed = λ other. is;
    same = λ alike. absurd (other_flags (reaches e.known.rights.members role group) (reaches ms role group) on
        (sym (ap (λ (r : Rights). reaches r.members role group) b) ∙ alike group ∙ ap (λ (r : Rights). reaches r.members role group) a));
  }
  turned_by_flag old new role rel was now a b false off is = record {
    changed = λ other. absurd (other (λ o. ap (λ (r : Rights). reaches r.members role o) b ∙ alike_reach role rel off o ∙ sym (ap (λ (r : Rights). reaches r.members role o) a)));
    same = λ alike. is;
  }

  module _ (h : IsSoundStore e) where
    pub members_counted : (old new : Engine) (s : Subscription) (was now : ℕ) → old.frame.rights ≡ e.known.rights → new.frame.rights ≡ q → (b : Bool) → b ≡ turns_reach (actor (frame_of e) s.session) s.rel → now ≡ cond b 0 was
        → IsRebuiltByReach old new (actor (frame_of e) s.session) was now
    members_counted old new s was now a b flag is at = turned_by_flag old new (actor (frame_of e) s.session) s.rel was now a b flag (sym is) at

-- ---- the requests

-- the role is known where all tests pass
role_known : (a b c d : Bool) (more : List (Option Refusal)) → or_else (test a machine.no_session) (first (test b machine.not_administrator ∷ test (not c) machine.unknown_role ∷ more)) ≡ None → c ≡ true
role_known true b c d more h = cc
role_known false true c d more h = cc
role_known false false true d more h = refl
role_known false false false d more h = cc

-- so its number is the one that was found
found_number : (o : Option RoleId) (p : Option ℕ) (d : ℕ) → option_map (λ r. r.0) o ≡ p → is_some p ≡ true → (g : RoleId) × ((o ≡ Some g) × (g.0 ≡ unwrap_or p d))
found_number None p d h k = let none : false ≡ true = ap (λ x. is_some x) h ∙ k in cc
found_number (Some g) p d h k = (g, (refl, ap (λ x. unwrap_or x d) h))

module _ (e : Store) (n : ℕ) (role to : Name) (h : IsSoundStore e) (group : Option RoleId) (found : option_map (λ r. r.0) group ≡ role_of e.known.rights role) where
  abbrev number : ℕ
  number = role_number e.known.rights role

  abbrev member : ℕ
  member = role_number e.known.rights to

  abbrev r : Rights
  r = e.known.rights

  module _ (act : Act) (ms : List Membership) (few : StaysUnless r.members ms number) (known : is_some (role_of r role) ≡ true) where
    abbrev d : Store
    d = with_rights (record r { members = ms }) e

    concerned_is : differing (reaching e group) (reaching d group) ≡ flags_of (turns_reach e ms number few) e.circuits
    concerned_is =
        let g = found_number group (role_of r role) (length r.roles) found known in
        (λ i. differing (reaching e (g.1.0 i)) (reaching d (g.1.0 i)))
        ∙ differing_maps (λ k. reaches r.members k.role g.0.0) (λ k. reaches ms k.role g.0.0) e.circuits
        ∙ ap (λ m. map (λ k. differ (reaches r.members k.role m) (reaches ms k.role m)) e.circuits) g.1.1

  -- ---- a membership that comes

  abbrev joined_members : List Membership
  joined_members = with_membership (member_of number member) r.members

  few_join : StaysUnless r.members joined_members number
  few_join = λ x same other. reaches-with_membership r.members number member x same other

  known_by : (act : Act) (more : List (Option Refusal)) → frame_refusal (frame_of e) n act ≡ or_else (test (not (is_open (frame_of e) n)) machine.no_session) (first (test (not (is_admin (actor (frame_of e) n))) machine.not_administrator ∷ test (not (is_some (role_of r role))) machine.unknown_role ∷ more))
      → frame_refusal (frame_of e) n act ≡ None → is_some (role_of r role) ≡ true
  known_by act more is passed = role_known (not (is_open (frame_of e) n)) (not (is_admin (actor (frame_of e) n))) (is_some (role_of r role)) true more (sym is ∙ passed)

  pub joined_waiting : frame_refusal (frame_of e) n (grant_role role to) ≡ None → AreWaiting (kept_after e n (grant_role role to)) (differing (reaching e group) (reaching (kept_after e n (grant_role role to)) group))
  joined_waiting passed =
      let known = known_by (grant_role role to) (known_role (frame_of e) to ∷ test (acts_as r number member) machine.membership_loop ∷ []) refl passed in
      subst (AreWaiting (kept_after e n (grant_role role to))) (sym (concerned_is (grant_role role to) joined_members few_join known))
      (waiting e joined_members r.guards r.grants (turns_reach e joined_members number few_join) (member_still e joined_members number few_join) (member_stored e joined_members number few_join h.stored) h)

  pub joined_step : (new : Store) (a : Answer) → frame_refusal (frame_of e) n (grant_role role to) ≡ None
      → AreReadersTold (kept_after e n (grant_role role to)) (differing (reaching e group) (reaching (kept_after e n (grant_role role to)) group)) a new → IsAccepted e n (grant_role role to) a new
  joined_step new a passed told =
      let ms = joined_members in
      let few = few_join in
      let known = known_by (grant_role role to) (known_role (frame_of e) to ∷ test (acts_as r number member) machine.membership_loop ∷ []) refl passed in
      let F = turns_reach e ms number few in
      righted_step e ms r.guards r.grants n (grant_role role to) (flags_of F e.circuits)
      (record {
        rows = λ T. refl;
        after = λ T. refl;
        ends = λ s. refl;
        reply = refl;
        stored = member_stored e ms number few h.stored;
        counts = λ ss cs s was now there reads is. members_counted e ms number few h _ _ s was now refl refl _ (flag_beside F e s there) is;
      }) h new a passed (subst (λ (bs : List Bool). AreReadersTold (kept_after e n (grant_role role to)) bs a new) (concerned_is (grant_role role to) ms few known) told)

  -- ---- one that goes

  abbrev parted_members : List Membership
  parted_members = without_membership (member_of number member) r.members

  few_part : StaysUnless r.members parted_members number
  few_part = λ x same other. reaches-without_membership r.members number member x same other

  pub parted_waiting : frame_refusal (frame_of e) n (revoke_role role to) ≡ None → AreWaiting (kept_after e n (revoke_role role to)) (differing (reaching e group) (reaching (kept_after e n (revoke_role role to)) group))
  parted_waiting passed =
      let known = known_by (revoke_role role to) (known_role (frame_of e) to ∷ []) refl passed in
      subst (AreWaiting (kept_after e n (revoke_role role to))) (sym (concerned_is (revoke_role role to) parted_members few_part known))
      (waiting e parted_members r.guards r.grants (turns_reach e parted_members number few_part) (member_still e parted_members number few_part) (member_stored e parted_members number few_part h.stored) h)

  pub parted_step : (new : Store) (a : Answer) → frame_refusal (frame_of e) n (revoke_role role to) ≡ None
      → AreReadersTold (kept_after e n (revoke_role role to)) (differing (reaching e group) (reaching (kept_after e n (revoke_role role to)) group)) a new → IsAccepted e n (revoke_role role to) a new
  parted_step new a passed told =
      let ms = parted_members in
      let few = few_part in
      let known = known_by (revoke_role role to) (known_role (frame_of e) to ∷ []) refl passed in
      let F = turns_reach e ms number few in
      righted_step e ms r.guards r.grants n (revoke_role role to) (flags_of F e.circuits)
      (record {
        rows = λ T. refl;
        after = λ T. refl;
        ends = λ s. refl;
        reply = refl;
        stored = member_stored e ms number few h.stored;
        counts = λ ss cs s was now there reads is. members_counted e ms number few h _ _ s was now refl refl _ (flag_beside F e s there) is;
      }) h new a passed (subst (λ (bs : List Bool). AreReadersTold (kept_after e n (revoke_role role to)) bs a new) (concerned_is (revoke_role role to) ms few known) told)
