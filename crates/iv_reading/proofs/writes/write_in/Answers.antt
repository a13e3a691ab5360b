use Rattle.std.proofs.Common.{◌≡◌, [], true, arith}
use Rattle.iv_command.specs.Views.{command_of}
use Rattle.iv_reading.specs.Pulled.{IsWritten}
use Rattle.iv_reading.proofs.TokensAndValues.{no_tokens-Yields, reading_by-Closes}
use Rattle.iv_reading.proofs.writes.write_in.Goals as goal

pub returns : goal.returns
returns c =
    let begins : c.begins_object.result ≡ true = grind arith in
    let all : c.in_ok-members_in.field-0 ≡ true = grind arith in
    let none : c.members_in.new.reader ≡ [] = grind (arith, no_tokens-Yields) in
    reading_by-Closes command_of (IsWritten c.members_in.new.written) c.whole_write.result c.args.text.now c.in_ok-reader.reader c.begins_object.new.reader c.members_in.new.reader c.in_ok-reader.ensures.ok
    (c.begins_object.ensures begins) (c.in_ok-members_in.ensures.parts all c.new-written.ensures) none c.whole_write.ensures
