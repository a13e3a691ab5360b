-- How the logic stores readers and their circuits, so that a contract may speak of them.
use Rattle.std.specs.Prelude.{ℕ, List, refl}
use Rattle.std.specs.Coded.{Coded, code_by, coded_ℕ, coded_list, coded×}
use Rattle.iv_circuit.specs.Circuits.{Running}
use Rattle.iv_circuit.specs.Codes.{running_code}
use Rattle.iv_readers.specs.Held.{Reading}
use Rattle.iv_readers.specs.Readers.{RoleCircuit}

abbrev pub reader_code : Coded Reading
reader_code =
    code_by ((ℕ × ℕ) × (ℕ × (ℕ × List (ℕ × ℕ)))) (coded× (coded× coded_ℕ coded_ℕ) (coded× coded_ℕ (coded× coded_ℕ (coded_list (coded× coded_ℕ coded_ℕ)))))
    (λ r. ((r.role, r.rel), (r.at, (r.since, r.opened)))) (λ p. record { role = p.0.0; rel = p.0.1; at = p.1.0; since = p.1.1.0; opened = p.1.1.1 }) (λ _. refl)

abbrev pub role_circuit_code : Coded RoleCircuit
role_circuit_code =
    code_by ((ℕ × (ℕ × ℕ)) × (Running × (ℕ × List (ℕ × ℕ)))) (coded× (coded× coded_ℕ (coded× coded_ℕ coded_ℕ)) (coded× running_code (coded× coded_ℕ (coded_list (coded× coded_ℕ coded_ℕ)))))
    (λ k. ((k.role, (k.rel, k.at)), (k.circuit, (k.since, k.opened))))
    (λ p. record { role = p.0.0; rel = p.0.1.0; at = p.0.1.1; circuit = p.1.0; since = p.1.1.0; opened = p.1.1.1 }) (λ _. refl)

abbrev pub circuits_code : Coded (List RoleCircuit)
circuits_code = coded_list role_circuit_code
