-- Flags beside circuits, one more at a time.
use Rattle.std.proofs.Common.{◌≡◌, ℕ, not, Option, None, Some, sym, ap, ◌∙◌}
use Rattle.std.specs.Prelude.{◌==◌, is_some, option_map}
use Rattle.std.specs.List.{list_any}
use Rattle.iv_algebra.specs.Shapes.{scans as shape_scans}
use Rattle.iv_circuit.specs.Nodes.{scans_of}
use Rattle.iv_store.specs.Counting.{scans_at}
use Rattle.iv_store.specs.Store.{Store}
use Rattle.iv_readers.specs.Readers.{RoleCircuit}
use Rattle.iv_store.specs.Turned.{WasRead}
use Rattle.iv_store.proofs.Touches.{scans_alike}

-- a circuit scans the table where its plan does
pub list_any-WasRead : (e : Store) (k : RoleCircuit) (table : ℕ) → WasRead e k → list_any (λ s. s.table == table) (scans_of k.circuit.node) ≡ scans_at e.catalog k.rel table
list_any-WasRead e k table was = sym (scans_alike (λ t. t == table) k.circuit.node) ∙ ap (λ p. list_any (λ t. t == table) (shape_scans p)) was.is.plan

-- none is missing where none was found
pub is_some-twice_not : {A B : Type 0} (f : A → B) (o : Option A) (p : Option B) → option_map f o ≡ p → is_some o ≡ not (not (is_some p))
is_some-twice_not f None p h = ap (λ x. not (not (is_some x))) h
is_some-twice_not f (Some a) p h = ap (λ x. not (not (is_some x))) h
