-- What subscriptions show, from the circuits that they read.
use Rattle.std.proofs.Common.{◌≡◌, ℕ, zero, suc, ◌<◌, Bool, true, List, [], ◌∷◌, length, Option, Some, get_or, ap, subst, arith}
use Rattle.std.proofs.lemmas.List.Quantifiers.{position-Some}
use Rattle.std.specs.Prelude.{is_some, position, slice_get}
use Rattle.std.specs.List.{AllByRecursion}
use Rattle.iv_zset.specs.Limits.{Counts}
use Rattle.iv_algebra.specs.Plans.{Lists}
use Rattle.iv_rows.specs.Options.{if_some}
use Rattle.iv_circuit.specs.Nodes.{total_of}
use Rattle.iv_machine.specs.State.{Subscription, actor, view_for}
use Rattle.iv_store.specs.Found.{total_at}
use Rattle.iv_store.specs.Store.{IsRoleCircuit, IsWithin, IsWithinFor, Store, at, frame_of, place_of, shown_rows}
use Rattle.iv_readers.specs.Readers.{RoleCircuit, is_for}
use Rattle.iv_database.specs.Stands.{Stands}
use Rattle.iv_store.proofs.Beside.{same-is_for, Some-is_some}
use Rattle.iv_store.proofs.RelationCircuits.{shows_for, within_for}
use Rattle.iv_database.proofs.BagSizes.{slice_get-at_place}

-- what follows of each circuit that is for the role and the relation, where one is found
module _ (role rel : ℕ) (P : RoleCircuit → Type 0) (Q : Type 0) (go : (k : RoleCircuit) → k.role ≡ role → k.rel ≡ rel → P k → Q) where
  found_index : (ks : List RoleCircuit) (i : ℕ) (d : RoleCircuit) → AllByRecursion P ks → i < length ks → is_for role rel (get_or ks i d) ≡ true → Q
  found_index [] i d a low t = absurd (omega arith)
  found_index (k ∷ ks) zero d a low t = let b = same-is_for role rel k t in go k b.0 b.1 a.0
  found_index (k ∷ ks) (suc i) d a low t = found_index ks i d a.1 (omega arith) t

  pub found_has : (ks : List RoleCircuit) → AllByRecursion P ks → is_some (position (is_for role rel) ks) ≡ true → Q
  found_has [] a t = cc
  found_has (k ∷ ks) a t =
      let i = Some-is_some (position (is_for role rel) (k ∷ ks)) t in
      let p = position-Some (is_for role rel) (k ∷ ks) i.0 k i.1 in
      found_index (k ∷ ks) i.0 k a p.0 p.1

-- ---- at a place

place_within : (p : RoleCircuit → Bool) (ks : List RoleCircuit) (i : ℕ) → position p ks ≡ Some i → i < length ks
place_within p [] i h = cc
place_within p (k ∷ ks) i h = (position-Some p (k ∷ ks) i k h).0

-- the place is one of the circuits
pub lt-place_of : (e : Store) (s : Subscription) (i : ℕ) → place_of e s ≡ Some i → i < length e.circuits
lt-place_of e s i h = place_within (is_for (actor (frame_of e) s.session) s.rel) e.circuits i h

-- the total there is that of the circuit that stands there
pub total_at-get_or : (e : Store) (i : ℕ) (k : RoleCircuit) → i < length e.circuits → k ≡ get_or e.circuits i k → total_at e i ≡ total_of k.circuit.node
total_at-get_or e i k low is = ap (λ (o : Option RoleCircuit). if_some o [] (λ x. total_of x.circuit.node)) (slice_get-at_place e.circuits i k low is)

module _ (e : Store) (circuits : AllByRecursion (IsRoleCircuit e) e.circuits) where
  -- the limits hold
  pub circuits_within : (s : Subscription) → is_some (place_of e s) ≡ true → IsWithin e s
  circuits_within s there =
      let role = actor (frame_of e) s.session in
      found_has role s.rel (IsRoleCircuit e) (IsWithin e s)
      (λ k a b is. subst (λ r. IsWithinFor e role r) b (subst (λ r. IsWithinFor e r k.rel) a (within_for e k.role k.rel k.circuit is.is))) e.circuits circuits there

  -- the total at its place counts what it shows
  module _ (T : Lists) (stands : Stands T e.tables) (role rel : ℕ) where
    one_counts : (k : RoleCircuit) → IsRoleCircuit e k → is_for role rel k ≡ true → Counts (total_of k.circuit.node) (view_for (at e T) role rel)
    one_counts k is t =
        let b = same-is_for role rel k t in
        subst (λ r. Counts (total_of k.circuit.node) (view_for (at e T) role r)) b.1
        (subst (λ r. Counts (total_of k.circuit.node) (view_for (at e T) r k.rel)) b.0 (shows_for e k.role k.rel k.circuit is.is T stands))

    index_counts : (ks : List RoleCircuit) (i : ℕ) (d : RoleCircuit) → AllByRecursion (IsRoleCircuit e) ks → i < length ks → is_for role rel (get_or ks i d) ≡ true
        → Counts (if_some (slice_get ks i) [] (λ k. total_of k.circuit.node)) (view_for (at e T) role rel)
    index_counts [] i d a low t = absurd (omega arith)
    index_counts (k ∷ ks) zero d a low t = one_counts k a.0 t
    index_counts (k ∷ ks) (suc i) d a low t = index_counts ks i d a.1 (omega arith) t

    role_counts : (ks : List RoleCircuit) (i : ℕ) → AllByRecursion (IsRoleCircuit e) ks → position (is_for role rel) ks ≡ Some i
        → Counts (if_some (slice_get ks i) [] (λ k. total_of k.circuit.node)) (view_for (at e T) role rel)
    role_counts [] i a h = cc
    role_counts (k ∷ ks) i a h = let p = position-Some (is_for role rel) (k ∷ ks) i k h in index_counts (k ∷ ks) i k a p.0 p.1

  pub total_counts : (T : Lists) → Stands T e.tables → (s : Subscription) (i : ℕ) → place_of e s ≡ Some i → Counts (total_at e i) (shown_rows e T s)
  total_counts T stands s i h = role_counts T stands (actor (frame_of e) s.session) s.rel e.circuits i circuits h
