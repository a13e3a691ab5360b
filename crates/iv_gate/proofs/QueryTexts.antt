-- Texts of queries, computed with.
use Rattle.iv_query.specs.Lexing as lexing
use Rattle.iv_query.specs.Tokens as tokens
use Rattle.iv_query.specs.Reading as reading
use Rattle.iv_query.specs.QueryReading as queries
use Rattle.iv_bind.specs.Binding as binding
use Rattle.iv_rows.specs.Names.{reserved}
use Rattle.iv_query.specs.TextReading.{lexed}

unfoldable pub texts_compute : Unit {0}
unfolding lexed reserved lexing.word_symbol lexing.word_at lexing.sign_at lexing.number_at lexing.negative_at lexing.quoted lexing.text_at lexing.ahead tokens.after_symbol reading.need reading.column_at reading.name_operand_at reading.operand_at reading.comparison_at reading.list_of reading.many_at reading.conj_at reading.pred_at reading.term_at reading.end_at reading.whole_at queries.alias_at queries.may_alias_at queries.source_at queries.pair_at queries.plain_join_at queries.join_at queries.joins_at queries.column_item_at queries.sum_at queries.count_at queries.item_at queries.list_at queries.head_at queries.from_at queries.filter_at queries.group_at queries.select_at queries.set_op_at queries.next_at queries.query_at binding.column_bound binding.operand_bound binding.compare_bound binding.pred_bound binding.source_bound binding.pair_bound binding.pairs_bound binding.joined_bound binding.join_bound binding.from_bound binding.filter_bound binding.keys_bound binding.output_bound binding.item_bound binding.star_bound binding.list_bound binding.output_of binding.select_bound binding.query_bound binding.finished binding.bound binding.bound_pred
texts_compute = tt
