-- How many changes the circuit of a subscription has taken in since the subscription was opened, or since the circuit was
-- built anew.
use Rattle.std.specs.Prelude.{ℕ, zero, suc, ◌-◌, ◌==◌, cond, List, [], ◌∷◌, ◌++◌, filter, map}
use Rattle.iv_machine.specs.State.{Subscription, actor}
use Rattle.iv_store.specs.Store.{Store, frame_of}
use Rattle.iv_readers.specs.Readers.{RoleCircuit, is_for}

-- what is beside the number; 0 if it is not there
abbrev pub beside_number : ℕ → List (ℕ × ℕ) → ℕ
beside_number n [] = 0
beside_number n (x ∷ xs) = cond (n == x.0) x.1 (beside_number n xs)

-- what is beside the number; if it is not there, what stands for all others
abbrev pub beside_or : (others : ℕ) → ℕ → List (ℕ × ℕ) → ℕ
beside_or others n [] = others
beside_or others n (x ∷ xs) = cond (n == x.0) x.1 (beside_or others n xs)

-- the rounds of a circuit since the subscription of the number was opened, or since its role came to the circuit
abbrev pub rounds_since : (number : ℕ) → RoleCircuit → ℕ
rounds_since n k = k.circuit.rounds - beside_or k.since n k.opened

-- those of the first circuit that is for the role and the relation
abbrev pub rounds_in : (role rel number : ℕ) → List RoleCircuit → ℕ
rounds_in role rel n [] = 0
rounds_in role rel n (k ∷ ks) = cond (is_for role rel k) (rounds_since n k) (rounds_in role rel n ks)

-- those of the circuit that the subscription reads
abbrev pub rounds_of : Store → Subscription → ℕ
rounds_of e s = rounds_in (actor (frame_of e) s.session) s.rel s.number e.circuits

-- the subscriptions of the number, each with what belongs to it
abbrev pub of_number : (Subscription → ℕ) → List Subscription → ℕ → List (ℕ × ℕ)
of_number f ss n = map (λ s. (s.number, f s)) (filter (λ s. n == s.number) ss)

-- the same of so many numbers from a first one on, rising
abbrev pub by_number : (Subscription → ℕ) → List Subscription → (first many : ℕ) → List (ℕ × ℕ)
by_number f ss n zero = []
by_number f ss n (suc k) = of_number f ss n ++ by_number f ss (suc n) k

-- the open subscriptions by rising number, each with its rounds
abbrev pub rounds : Store → List (ℕ × ℕ)
rounds e = by_number (rounds_of e) e.subscriptions 0 (suc e.last)
