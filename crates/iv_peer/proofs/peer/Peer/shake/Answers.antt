use Rattle.std.proofs.Common.{arith, rules, ◌≡◌, ◌∙◌, sym, ap, subst, ℕ, List}
use Rattle.httparse.specs.Grammar.{RequestHead}
use Rattle.iv_peer.specs.Socket.{IsAccepted, accepted, forget}
use Rattle.iv_peer.proofs.HeardFrames.{IsHeard-accepted, IsHeard-RequestOverflows, IsHeard-too_long, IsHeard-AsksOther, not_IsValidKey-Err}
use Rattle.iv_peer.proofs.peer.Peer.shake.Goals as goal

pub returns-then-len-gt-MOST_HEAD : goal.returns-then-len-gt-MOST_HEAD
returns-then-len-gt-MOST_HEAD c = IsHeard-too_long c.args.self.now c.refuse-then-len-gt-MOST_HEAD.new.self c.requires.lives c.requires.protocol (search rules) (search rules) (search rules)

pub returns-in_ok-accept-in-Ok : goal.returns-in_ok-accept-in-Ok
returns-in_ok-accept-in-Ok c =
    let is : (head : RequestHead) × (rest : List ℕ) × (accept : List ℕ) × IsAccepted c.args.self.now.input head rest accept × (c.accept.new.self ≡ forget (accepted accept rest c.args.self.now)) = search rules in
    IsHeard-accepted c.args.self.now c.accept.new.self is.0 is.1 is.2 c.requires.lives c.requires.protocol is.3 is.4

pub returns-in_ok-refuse-in-Err-check_request : goal.returns-in_ok-refuse-in-Err-check_request
returns-in_ok-refuse-in-Err-check_request c =
    IsHeard-AsksOther c.args.self.now c.refuse.new.self c.requires.lives c.requires.protocol (search rules) (search rules)

pub returns-in_ok-refuse-in-Err : goal.returns-in_ok-refuse-in-Err
returns-in_ok-refuse-in-Err c =
    IsHeard-RequestOverflows c.args.self.now c.refuse-in-Err.new.self c.requires.lives c.requires.protocol (search rules) (search rules)
