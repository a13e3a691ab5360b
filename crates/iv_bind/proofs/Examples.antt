-- The worked examples, by computing.
use Rattle.std.proofs.Common.{refl}
use Rattle.iv_bind.specs.Binding.{bound, finished, query_bound, select_bound, from_bound, source_bound, join_bound, joined_bound, pairs_bound, pair_bound, column_bound, filter_bound, pred_bound, compare_bound, operand_bound, output_of, keys_bound, list_bound, star_bound, item_bound, output_bound}
use Rattle.iv_bind.specs.Examples.{JoinedTables, GroupedSums, ViewInUnion, UnknownColumn, OneSide, DuplicateName, NoSuchColumn, NoGroup}

pub joined_tables : JoinedTables
unfolding bound finished query_bound select_bound from_bound source_bound join_bound joined_bound pairs_bound pair_bound column_bound filter_bound output_of keys_bound list_bound item_bound output_bound
joined_tables = refl

pub grouped_sums : GroupedSums
unfolding bound finished query_bound select_bound from_bound source_bound join_bound joined_bound pairs_bound pair_bound column_bound filter_bound pred_bound compare_bound operand_bound output_of keys_bound list_bound item_bound output_bound
grouped_sums = refl

pub view_in_union : ViewInUnion
unfolding bound finished query_bound select_bound from_bound source_bound filter_bound column_bound output_of keys_bound list_bound star_bound item_bound output_bound
view_in_union = refl

pub unknown_column : UnknownColumn
unfolding bound finished query_bound select_bound from_bound source_bound join_bound joined_bound pairs_bound pair_bound column_bound
unknown_column = refl

pub one_side : OneSide
unfolding bound finished query_bound select_bound from_bound source_bound join_bound joined_bound pairs_bound pair_bound column_bound
one_side = refl

pub duplicate_name : DuplicateName
unfolding bound finished query_bound select_bound from_bound source_bound join_bound joined_bound pairs_bound pair_bound column_bound filter_bound output_of keys_bound list_bound star_bound output_bound
duplicate_name = refl

pub no_such_column : NoSuchColumn
unfolding bound finished query_bound select_bound from_bound source_bound column_bound filter_bound output_of keys_bound list_bound item_bound
no_such_column = refl

pub no_group : NoGroup
unfolding bound finished query_bound select_bound from_bound source_bound filter_bound output_of keys_bound
no_group = refl
