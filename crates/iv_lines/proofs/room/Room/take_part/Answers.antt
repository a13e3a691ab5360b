use Rattle.std.proofs.Common.{arith, ◌≡◌, ◌∙◌, ◌<◌, ◌-◌, ◌++◌, take, drop, length, sym}
use Rattle.iv_lines.proofs.Ahead.{takes_all, takes_line, length-ahead}
use Rattle.iv_lines.proofs.room.Room.take_part.Goals as goal

pub returns-in_ok-extend_from_slice-in-Some : goal.returns-in_ok-extend_from_slice-in-Some
returns-in_ok-extend_from_slice-in-Some c =
    let r = c.args.self.now in
    let line = c.args.line.now in
    let len : c.len.result ≡ length line.items = c.len.ensures ∙ line.ok.0 in
    let moved : c.extend_from_slice.new.self.items ≡ line.items ++ take c.in-Some.count (take (c.min-end.result - r.at) (drop r.at r.bytes)) = grind (arith, c.in_ok-extend_from_slice-in-Some.ensures.items) in
    takes_line r.bytes line.items c.extend_from_slice.new.self.items r.at r.filled c.min-end.result (omega arith) (omega arith) (omega arith) c.in-Some.count c.requires.room (omega arith) (sym c.newline.ensures ∙ c.in-Some.is) moved

pub returns-in_ok-extend_from_slice-in-None : goal.returns-in_ok-extend_from_slice-in-None
returns-in_ok-extend_from_slice-in-None c =
    let r = c.args.self.now in
    let line = c.args.line.now in
    let len : c.len.result ≡ length line.items = c.len.ensures ∙ line.ok.0 in
    let some : r.at < r.filled = let l = length-ahead r.bytes r.at r.filled (omega arith) (omega arith) in omega (arith, c.requires.some) in
    takes_all r.bytes line.items c.extend_from_slice-in-None.new.self.items r.at r.filled c.min-end.result (omega arith) (omega arith) (omega arith) c.requires.room (omega arith) (omega arith) (sym c.newline.ensures ∙ c.in-None.is) c.in_ok-extend_from_slice-in-None.ensures.items
