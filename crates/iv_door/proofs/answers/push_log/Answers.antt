use Rattle.std.specs.Prelude.{codes}
use Rattle.iv_door.proofs.Texts.{pushed_4}
use Rattle.iv_door.proofs.answers.push_log.Goals as goal

pub returns : goal.returns
returns c =
    pushed_4 c.args.out.now.items (codes ",\"log\":\"") c.args.name.now (codes "\",\"epoch\":\"") c.args.epoch.now
    c.extend_from_slice.new.self.items c.extend_from_slice-2.new.self.items c.extend_from_slice-3.new.self.items c.extend_from_slice-4.new.self.items
    c.in_ok-extend_from_slice.ensures.items c.in_ok-extend_from_slice-2.ensures.items c.in_ok-extend_from_slice-3.ensures.items c.in_ok-extend_from_slice-4.ensures.items
