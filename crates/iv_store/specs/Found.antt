-- Which reader a subscription has, and what is beside its circuit.
use Rattle.std.specs.Prelude.{◌≡◌, ℕ, true, cond, List, [], ◌∷◌, is_some, slice_get}
use Rattle.iv_zset.specs.Weights.{Weighed}
use Rattle.iv_rows.specs.Options.{if_some}
use Rattle.iv_circuit.specs.Nodes.{total_of}
use Rattle.iv_machine.specs.State.{Subscription, actor, is_open}
use Rattle.iv_store.specs.Store.{Store, frame_of, place_of}
use Rattle.iv_readers.specs.Readers.{RoleCircuit, is_for}
use Rattle.iv_readers.specs.Index.{found_in}
use Rattle.iv_readers.specs.declared.index.ReaderIndex.{ReaderIndex}

-- the session of the subscription is open, and its reader is there, and found by the index
pub record IsFoundBy (e : Store) (index : ReaderIndex) (s : Subscription) : Type 0 where
  pub session : is_open (frame_of e) s.session ≡ true
  pub found : found_in index (actor (frame_of e) s.session) s.rel ≡ place_of e s
  pub there : is_some (place_of e s) ≡ true

-- the rows that the circuit at the place shows
abbrev pub total_at : Store → ℕ → Weighed
total_at e i = if_some (slice_get e.circuits i) [] (λ k. total_of k.circuit.node)

-- what is beside the first circuit that is for the role and the relation
abbrev pub beside : {X : Type 0} → X → (role rel : ℕ) → List RoleCircuit → List X → X
beside none role rel [] xs = none
beside none role rel (k ∷ ks) [] = none
beside none role rel (k ∷ ks) (x ∷ xs) = cond (is_for role rel k) x (beside none role rel ks xs)

-- what is beside the circuit of the subscription
abbrev pub beside_of : {X : Type 0} → X → Store → List X → Subscription → X
beside_of none e xs s = beside none (actor (frame_of e) s.session) s.rel e.circuits xs
