-- What the parts that the program builds stand for.
use Rattle.iv_bind.specs.declared.sources.From.{From}
use Rattle.iv_bind.specs.declared.items.Out.{Out}
use Rattle.iv_bind.specs.declared.select.Part.{Part}
use Rattle.std.specs.Prelude.{Result, map}
use Rattle.iv_query.specs.declared.tree.Select.{Select}
use Rattle.iv_query.specs.Trees.{column_tree, list_tree}
use Rattle.iv_algebra.specs.Shapes.{shape_of}
use Rattle.iv_bind.specs.Catalogs.{BoundQuery, numbers}
use Rattle.iv_bind.specs.Faults.{Fault}
use Rattle.iv_bind.specs.Binding as seen

abbrev pub from_of : From → seen.From
from_of f = record { plan = shape_of f.plan; scope = f.scope.items; reached = numbers f.reached.items }

abbrev pub out_of : Out → seen.Out
out_of o = record { columns = o.columns.items; schema = o.schema.items; aggs = o.aggs.items }

abbrev pub part_of : Part → BoundQuery
part_of p = record { plan = shape_of p.plan; schema = p.schema.items; needs = numbers p.reached.items }

-- what a select gives over its sources, without its filter
abbrev pub output_by : Select → From → Result BoundQuery Fault
output_by select from = seen.output_of select.place select.distinct (list_tree select.columns) (from_of from) (map column_tree select.group.items)
