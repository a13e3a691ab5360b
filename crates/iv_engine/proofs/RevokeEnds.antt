-- What a revoke takes back.
use Rattle.std.proofs.Common.{◌≡◌, ℕ, Bool, true, false, cond, not, List, Option, None, refl, ap, ◌∙◌, get_or}
use Rattle.iv_access.specs.Changing.{without_grants}
use Rattle.iv_access.specs.Access.{grantee_of}
use Rattle.iv_access.specs.Rights.{Grant, Name, Rights}
use Rattle.iv_access.specs.declared.privilege.Privilege.{Privilege}
use Rattle.iv_circuit.specs.Nodes.{scans_of}
use Rattle.iv_machine.specs.Act.{revoke}
use Rattle.iv_machine.specs.Refusing.{frame_refusal}
use Rattle.iv_machine.specs.State.{actor, plan_at, rel_of}
use Rattle.iv_database.specs.Database as database
use Rattle.iv_database.specs.Database.{Database}
use Rattle.iv_database.specs.Next.{database_after}
use Rattle.iv_store.specs.Answering.{IsAccepted}
use Rattle.iv_store.specs.Concerned.{unreadable}
use Rattle.iv_store.specs.Store.{IsSoundStore, IsStored, Store, database_of, frame_of, role_reads, with_database, with_rights}
use Rattle.iv_store.specs.Next.{kept_after}
use Rattle.iv_store.specs.Turned.{AreReadersTold, AreWaiting}
use Rattle.iv_command.specs.declared.answer.Answer.{Answer}
use Rattle.iv_store.proofs.RelationCircuits.{IsCircuitFor-may_see}
use Rattle.iv_engine.proofs.RightsSteps.{StaysStill, flag_beside, righted_step, righted_stored, AreReadersTold-same, waiting, AreWaiting-same}
use Rattle.iv_store.proofs.VisibleRows.{may_see-ReachesAlike}
use Rattle.iv_store.proofs.RequestSteps.{has_become, has_passed}

reads_still : (b : Bool) → not b ≡ false → b ≡ true
reads_still true h = refl
reads_still false h = cc

same_rounds : (b : Bool) (was now : ℕ) → b ≡ true → now ≡ cond (not b) 0 was → now ≡ was
same_rounds true was now r h = h
same_rounds false was now r h = cc

module _ (e : Store) (n : ℕ) (name : Name) (ps : List Privilege) (to : Option Name) where
  abbrev pub revoked : Store
  revoked = kept_after e n (revoke name ps to)

  abbrev gs : List Grant
  gs = (without_grants (rel_of e.catalog name) ps (grantee_of e.known.rights to) e.known.rights).grants

  abbrev q : Rights
  q = record e.known.rights { grants = gs }

  -- the relations that a role may not read any more
  abbrev pub lost : (role rel : ℕ) → Bool
  lost role rel = not (role_reads (with_rights q e) role rel)

  -- the circuits of the others stay: what a role sees does not depend on privileges
  pub revoke_still : StaysStill e e.known.rights.members e.known.rights.guards gs lost
  revoke_still k off i reads = record {
    is = IsCircuitFor-may_see e q k.role (plan_at e.catalog k.rel) k.circuit
        (λ j x lt row. may_see-ReachesAlike q e.known.rights k.role (get_or (scans_of k.circuit.node) j x).table (λ o. refl) refl refl row) i.is;
    reads = reads_still (role_reads (with_rights q e) k.role k.rel) off;
  }

  revoked_stored : IsStored e → IsStored revoked
  revoked_stored h = righted_stored e e.known.rights.members e.known.rights.guards gs h.database.guards h

  pub revoked_waiting : IsSoundStore e → AreWaiting revoked (unreadable revoked)
  revoked_waiting h = waiting e e.known.rights.members e.known.rights.guards gs lost revoke_still (revoked_stored h.stored) h

  pub revoked_step : (new : Store) (a : Answer) → IsSoundStore e → frame_refusal (frame_of e) n (revoke name ps to) ≡ None → AreReadersTold revoked (unreadable revoked) a new → IsAccepted e n (revoke name ps to) a new
  revoked_step new a h passed told =
      righted_step e e.known.rights.members e.known.rights.guards gs n (revoke name ps to) (unreadable revoked)
      (record {
        rows = λ T. refl;
        after = λ T. refl;
        ends = λ s. refl;
        reply = refl;
        stored = revoked_stored h.stored;
        counts = λ ss cs s was now there reads is.
            same_rounds (role_reads revoked (actor (frame_of e) s.session) s.rel) was now reads (is ∙ ap (λ b. cond b 0 was) (flag_beside lost revoked s there));
      }) h new a passed told

-- ---- what the database says of it

module _ (e u : Store) (d : Database) (n : ℕ) (name : Name) (ps : List Privilege) (to : Option Name) (is : u ≡ e) (h : IsSoundStore e)
    (told : (frame_refusal (database.frame_of (database_of u)) n (revoke name ps to) ≡ None) × (d ≡ database_after (database_of u) n (revoke name ps to))) where
  was : with_database d u ≡ kept_after e n (revoke name ps to)
  was = has_become e u d n (revoke name ps to) is refl told.0 told.1

  pub revoke_waits : (flags : List Bool) → flags ≡ unreadable (with_database d u) → AreWaiting (with_database d u) flags
  revoke_waits flags same = AreWaiting-same (with_database d u) (kept_after e n (revoke name ps to)) _ _ was (same ∙ ap unreadable was) (revoked_waiting e n name ps to h)

  pub revoke_steps : (flags : List Bool) → flags ≡ unreadable (with_database d u) → (new : Store) (a : Answer) → AreReadersTold (with_database d u) flags a new → IsAccepted e n (revoke name ps to) a new
  revoke_steps flags same new a readers = revoked_step e n name ps to new a h (has_passed e u d n (revoke name ps to) is refl told.0)
      (AreReadersTold-same (with_database d u) (kept_after e n (revoke name ps to)) _ _ a new was (same ∙ ap unreadable was) readers)
