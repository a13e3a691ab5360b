-- Which role reads which circuit of a relation.
use Rattle.std.specs.Prelude.{◌≡◌, ℕ, zero, suc, ◌<◌, ◌≤◌, ◌==◌, ◌&&◌, Bool, List, [], ◌∷◌, filter, get_or, length}
use Rattle.std.specs.List.{AllByRecursion, list_any}
use Rattle.iv_rows.specs.declared.schema.RelId.{RelId}
use Rattle.iv_access.specs.Rights.{Rights}
use Rattle.iv_roles.specs.declared.role.RoleId.{RoleId}
use Rattle.iv_circuit.specs.Circuits.{Running, Serves, are_exempt}

-- the circuit of what a relation shows to a role, and its place among all circuits, which others have too who read it; how
-- many rounds it had when the role came to it; and the numbers of the role's subscriptions that were opened on it since, the
-- last first, each with the rounds that it had then
pub record RoleCircuit : Type 0 where
  pub role : ℕ
  pub rel : ℕ
  pub at : ℕ
  pub circuit : Running
  pub since : ℕ
  pub opened : List (ℕ × ℕ)

-- the circuit, opened to the subscription of the number now
abbrev pub opened_to : (number : ℕ) → RoleCircuit → RoleCircuit
opened_to n k = record k { opened = (n, k.circuit.rounds) ∷ k.opened }

-- the circuit of the place for the role now, which is opened to none of its subscriptions
abbrev pub moved_to : (at : ℕ) → Running → RoleCircuit → RoleCircuit
moved_to at c k = record k { at = at; circuit = c; since = c.rounds; opened = [] }

-- the role did not come to it, nor was any opened, at more rounds than the circuit has
pub record WereOpened (k : RoleCircuit) : Type 0 where
  pub came : k.since ≤ k.circuit.rounds
  pub each : AllByRecursion (λ x. x.1 ≤ k.circuit.rounds) k.opened

-- it is for the role and the relation
abbrev pub is_for : (role rel : ℕ) → RoleCircuit → Bool
is_for role rel k = (k.role == role) && (k.rel == rel)

-- the circuits, of which that at the place is opened to the subscription of the number
abbrev pub opened_at : (place number : ℕ) → List RoleCircuit → List RoleCircuit
opened_at place n [] = []
opened_at zero n (k ∷ ks) = opened_to n k ∷ ks
opened_at (suc place) n (k ∷ ks) = k ∷ opened_at place n ks

-- a reader of the relation whose circuit lets through what the role may see
pub record IsServed (ks : List RoleCircuit) (r : Rights) (role rel place : ℕ) : Type 0 where
  pub low : place < length ks
  pub shows : (k : RoleCircuit) → k ≡ get_or ks place k → k.rel ≡ rel
  pub serves : (k : RoleCircuit) → k ≡ get_or ks place k → Serves r role k.circuit.node

-- policies have no effect on the role, and had none on some reader of the relation
abbrev pub some_exempt : List RoleCircuit → Rights → (role rel : ℕ) → Bool
some_exempt ks r role rel = list_any (λ k. (k.rel == rel) && are_exempt r role k.circuit.node) ks

-- the readers are left, in their order, for whose role and relation it holds
abbrev pub AreLeft : (stays : RoleId → RelId → Bool → Type 0) → (old new : List RoleCircuit) → Type 0
AreLeft stays old new =
    (p : (role rel : ℕ) → Bool) → ((role : RoleId) (rel : RelId) (b : Bool) → stays role rel b → b ≡ p role.0 rel.0) → new ≡ filter (λ k. p k.role k.rel) old
