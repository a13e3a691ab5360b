use Rattle.std.proofs.Common.{◌∙◌, ◌++◌, None, ap, ltb, map, sym, rules}
use Rattle.std.proofs.lemmas.List.Sorted.{IsPartitionPoint-from_clause, IsPartitionedBy-ltb}
use Rattle.std.proofs.lemmas.Result.{IfOk-weaker}
use Rattle.iv_machine.specs.Machine as machine
use Rattle.iv_command.specs.Views.{line_of}
use Rattle.iv_readers.specs.declared.changes.Prepared.{Prepared}
use Rattle.iv_store.proofs.SubscriptionLines.{append-no_lines}
use Rattle.iv_store.proofs.PreparedForReaders.{IsNonDecreasingBy-AreRisingFrom, rows_at_point, rows_not_at_point, rows_over_point}
use Rattle.iv_store.proofs.lines.push_at.Goals as goal

pub returns-then-place-prepared : goal.returns-then-place-prepared
returns-then-place-prepared c =
    let ps = c.args.prepared.now in
    let parted = IsPartitionedBy-ltb (λ (p : Prepared). p.at.0) ps c.args.at.0 (IsNonDecreasingBy-AreRisingFrom (λ (p : Prepared). p.at.0) 0 ps c.requires) in
    let point = IsPartitionPoint-from_clause (λ (p : Prepared). ltb p.at.0 c.args.at.0) ps _ c.partition_point-place.ensures.partitioned parted (λ a r q k. search rules) in
    let rows = rows_over_point c.args.at.0 ps c.requires c.partition_point-place.result point c.if-place-prepared.true in
    sym (append-no_lines (map line_of c.args.lines.now.items)) ∙ ap (λ rs. map line_of c.args.lines.now.items ++ machine.lines_told None c.args.subscription.now rs) (sym rows)

pub returns-then-one-at : goal.returns-then-one-at
returns-then-one-at c =
    let ps = c.args.prepared.now in
    let parted = IsPartitionedBy-ltb (λ (p : Prepared). p.at.0) ps c.args.at.0 (IsNonDecreasingBy-AreRisingFrom (λ (p : Prepared). p.at.0) 0 ps c.requires) in
    let point = IsPartitionPoint-from_clause (λ (p : Prepared). ltb p.at.0 c.args.at.0) ps _ c.partition_point-place.ensures.partitioned parted (λ a r q k. search rules) in
    let rows = rows_not_at_point c.args.at.0 ps c.requires c.partition_point-place.result point c.index-prepared-place.result c.if-place-prepared.false c.index-prepared-place.is c.if-one-at.true in
    sym (append-no_lines (map line_of c.args.lines.now.items)) ∙ ap (λ rs. map line_of c.args.lines.now.items ++ machine.lines_told None c.args.subscription.now rs) (sym rows)

pub returns : goal.returns
returns c =
    let ps = c.args.prepared.now in
    let parted = IsPartitionedBy-ltb (λ (p : Prepared). p.at.0) ps c.args.at.0 (IsNonDecreasingBy-AreRisingFrom (λ (p : Prepared). p.at.0) 0 ps c.requires) in
    let point = IsPartitionPoint-from_clause (λ (p : Prepared). ltb p.at.0 c.args.at.0) ps _ c.partition_point-place.ensures.partitioned parted (λ a r q k. search rules) in
    let rows = rows_at_point c.args.at.0 ps c.requires c.partition_point-place.result point c.index-prepared-place.result c.if-place-prepared.false c.index-prepared-place.is c.if-one-at.false in
    IfOk-weaker c.push_rows.result _ _ (λ _ more. more
    ∙ (λ i. map line_of c.args.lines.now.items ++ machine.lines_told None c.args.subscription.now (sym rows i))) c.push_rows.ensures
