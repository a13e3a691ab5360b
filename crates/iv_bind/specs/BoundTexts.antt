-- From the bytes of a text to its plan or its condition, or its first fault.
use Rattle.std.specs.Prelude.{ℕ, List, Result, Ok, Err}
use Rattle.iv_rows.specs.Columns.{Column}
use Rattle.iv_query.specs.declared.fault.Why.{Why}
use Rattle.iv_query.specs.declared.fault.Fault as reading
use Rattle.iv_bind.specs.declared.fault.BindWhy.{BindWhy}
use Rattle.iv_bind.specs.Faults as binding
use Rattle.iv_algebra.specs.Shapes.{Condition}
use Rattle.iv_bind.specs.Catalogs.{BoundQuery, CatalogEntry}
use Rattle.iv_bind.specs.Binding.{bound, bound_pred}
use Rattle.iv_query.specs.TextReading.{read_query, read_pred}

-- what is wrong with a text: it is not in the grammar, or it does not go with the catalog
pub data Reason : Type 0 where
  Reading : Why → Reason
  Binding : BindWhy → Reason

-- a place in the text, from 0, and what is wrong there
pub data TextFault : Type 0 where
  FaultAt : ℕ → Reason → TextFault

abbrev pub of_binding : {A : Type 0} → Result A binding.Fault → Result A TextFault
of_binding (Ok x) = Ok x
of_binding (Err (binding.FaultAt place why)) = Err (FaultAt place (Binding why))

-- a tree that is read is bound
abbrev pub then_bound : {T A : Type 0} → (T → Result A binding.Fault) → Result T reading.Fault → Result A TextFault
then_bound bind (Ok tree) = of_binding (bind tree)
then_bound bind (Err fault) = Err (FaultAt fault.place (Reading fault.why))

-- the plan, columns and needs of a view's text
abbrev pub bound_query : List CatalogEntry → List ℕ → Result BoundQuery TextFault
bound_query catalog text = then_bound (bound catalog) (read_query text)

-- the condition of a policy's text over the columns of its table
abbrev pub bound_policy : List Column → List ℕ → Result Condition TextFault
bound_policy columns text = then_bound (bound_pred columns) (read_pred text)
