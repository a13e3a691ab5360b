use Rattle.iv_records.proofs.EntryRecords.{OnOk-record_of}
use Rattle.iv_records.proofs.records.push_step.Goals as goal

pub returns : goal.returns
returns c =
    OnOk-record_of c.push_position_line.result c.args.requests.now c.args.names.now c.args.position c.args.lines.now.items c.push_requests.new.lines.items c.push_names.new.lines.items
    c.push_position_line.new.lines.items c.in_ok-push_requests.ensures c.in_ok-push_names.ensures c.push_position_line.ensures
