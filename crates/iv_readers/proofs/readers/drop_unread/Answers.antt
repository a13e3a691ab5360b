use Rattle.std.proofs.Common.{arith}
use Rattle.iv_readers.proofs.readers.drop_unread.Goals as goal

pub drop_free-requires : goal.drop_free-requires
drop_free-requires c =
    let same = c.set_read.auto.flags in
    let long = c.requires.long in
    omega (arith, same, long)

pub returns : goal.returns
returns c = c.drop_free.ensures c.args.readers.now c.set_read.ensures
