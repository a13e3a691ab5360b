-- Which circuits are held, and which of them roles read.
use Rattle.std.specs.Prelude.{◌≡◌, ◌==◌, ℕ, Bool, true, false, List, [], ◌∷◌, ◌++◌, Option, get_or, is_some, set, slice_get, unwrap_or}
use Rattle.std.specs.List.{AllByRecursion, list_any}
use Rattle.iv_rows.specs.Options.{if_some}
use Rattle.iv_circuit.specs.Circuits.{Running}
use Rattle.iv_circuit.specs.declared.node.Node.TheVariants.{Scan}
use Rattle.iv_readers.specs.Readers.{RoleCircuit, moved_to}

-- a role that reads a relation: the place of the circuit, how many rounds that had when the role came to it, and the numbers
-- of its subscriptions that were opened since, the last first, each with the rounds that the circuit had then
pub record Reading : Type 0 where
  pub role : ℕ
  pub rel : ℕ
  pub at : ℕ
  pub since : ℕ
  pub opened : List (ℕ × ℕ)

-- what is where no circuit is
abbrev pub no_circuit : Running
no_circuit = record { node = Scan (record { 0 = 0 }) 0 (record { exempt = false; user = []; permissive = []; restrictive = [] }) []; rounds = 0; cap = 0 }

-- a circuit is held at the place
abbrev pub is_held : List (Option Running) → ℕ → Bool
is_held hs i = if_some (slice_get hs i) false (λ o. is_some o)

-- the circuit that is held at the place
abbrev pub held_at : List (Option Running) → ℕ → Running
held_at hs i = if_some (slice_get hs i) no_circuit (λ o. unwrap_or o no_circuit)

-- the role, with its circuit of those that are held
abbrev pub read_from : List (Option Running) → Reading → RoleCircuit
read_from hs r = record { role = r.role; rel = r.rel; at = r.at; circuit = held_at hs r.at; since = r.since; opened = r.opened }

-- each reads one that is held
abbrev pub AreHeld : List (Option Running) → List Reading → Type 0
AreHeld hs rs = AllByRecursion (λ r. is_held hs r.at ≡ true) rs

-- some role reads the circuit at the place
abbrev pub is_read_at : List Reading → ℕ → Bool
is_read_at rs i = list_any (λ r. r.at == i) rs

-- the circuits that are held are those that some role reads
pub record AreThoseRead (rs : List Reading) (hs : List (Option Running)) : Type 0 where
  pub held : AreHeld hs rs
  pub read : (i : ℕ) → is_held hs i ≡ true → is_read_at rs i ≡ true

-- ---- readers more, and readers of other circuits

-- the role that has come to the circuit of the place
abbrev pub come_to : (role rel at : ℕ) → Running → RoleCircuit
come_to role rel at c = record { role = role; rel = rel; at = at; circuit = c; since = c.rounds; opened = [] }

-- one more reads the circuit, which is at some place
pub record HasComeTo (old : List RoleCircuit) (role rel : ℕ) (c : Running) (new : List RoleCircuit) : Type 0 where
  pub at : ℕ
  pub added : new ≡ old ++ come_to role rel at c ∷ []

-- the reader at the place has come to the circuit, which is at some place, and the others read what they read
pub record HasMovedTo (old : List RoleCircuit) (place : ℕ) (c : Running) (new : List RoleCircuit) : Type 0 where
  pub at : ℕ
  pub moved : (k : RoleCircuit) → k ≡ get_or old place k → new ≡ set old place (moved_to at c k)

-- ---- circuits more and less

-- at all other places the same is held
pub record AreSameBut (at : ℕ) (old new : List (Option Running)) : Type 0 where
  pub there : (i : ℕ) → (i ≡ at → ⊥) → is_held new i ≡ is_held old i
  pub same : (i : ℕ) → (i ≡ at → ⊥) → held_at new i ≡ held_at old i

-- those that some role reads are held as before, and no others
pub record AreLeftTo (rs : List Reading) (old new : List (Option Running)) : Type 0 where
  pub there : (i : ℕ) → is_read_at rs i ≡ true → is_held new i ≡ is_held old i
  pub same : (i : ℕ) → is_read_at rs i ≡ true → held_at new i ≡ held_at old i
  pub read : (i : ℕ) → is_held new i ≡ true → is_read_at rs i ≡ true
