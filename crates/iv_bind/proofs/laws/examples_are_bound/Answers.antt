use Rattle.iv_bind.proofs.Examples as by
use Rattle.iv_bind.proofs.laws.examples_are_bound.Goals as goal

pub returns : goal.returns
returns c = record {
  joined_tables = by.joined_tables;
  grouped_sums = by.grouped_sums;
  view_in_union = by.view_in_union;
  unknown_column = by.unknown_column;
  one_side = by.one_side;
  duplicate_name = by.duplicate_name;
  no_such_column = by.no_such_column;
  no_group = by.no_group;
}
