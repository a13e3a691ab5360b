use Rattle.std.proofs.Common.{rules, ◌≡◌, ◌∙◌, sym, ap, subst, Some}
use Rattle.websocket.specs.Connection.{read_step}
use Rattle.iv_peer.specs.declared.peer.Read.TheVariants as read
use Rattle.iv_peer.specs.Hearing.{IsWaitingAt}
use Rattle.iv_peer.specs.Reading.{IsRead}
use Rattle.iv_peer.proofs.HeardFrames.{IsHeard-Err, IsHeard-Complete, Err-IsRead_Fault, Complete-IsRead_Frame, Partial-IsRead_Nothing}
use Rattle.iv_peer.proofs.peer.Peer.frame.Goals as goal

pub returns-in-Nothing : goal.returns-in-Nothing
returns-in-Nothing c = λ conn at server.
    let got : IsRead (read_step conn c.args.self.now.input) read.Nothing c.args.self.now c.read_frame.new.self = search rules in
    let w = Partial-IsRead_Nothing (read_step conn c.args.self.now.input) c.args.self.now c.read_frame.new.self got in
    ((c.requires.lives, subst (λ k. IsWaitingAt k c.args.self.now.input) (sym at) w.0), w.1)

pub returns-in_ok-heard-in-Frame : goal.returns-in_ok-heard-in-Frame
returns-in_ok-heard-in-Frame c = λ conn at server.
    let got : IsRead (read_step conn c.args.self.now.input) (read.Frame c.in-Frame.said) c.args.self.now c.read_frame.new.self = search rules in
    let w = Complete-IsRead_Frame (read_step conn c.args.self.now.input) c.in-Frame.said c.args.self.now c.read_frame.new.self got in
    IsHeard-Complete c.args.self.now c.read_frame.new.self c.end_behind.new.self conn w.0 c.in_ok-heard-in-Frame.heard c.requires.lives at w.1 w.3
    (c.in_ok-heard-in-Frame.ensures w.0.1.message w.2)

pub returns-in_ok-close_by-in-Fault : goal.returns-in_ok-close_by-in-Fault
returns-in_ok-close_by-in-Fault c = λ conn at server.
    let got : IsRead (read_step conn c.args.self.now.input) (read.Fault c.in-Fault.error) c.args.self.now c.read_frame.new.self = search rules in
    let w = Err-IsRead_Fault (read_step conn c.args.self.now.input) c.in-Fault.error c.args.self.now c.read_frame.new.self got in
    IsHeard-Err c.args.self.now c.read_frame.new.self c.close_by.new.self conn c.in-Fault.error c.requires.lives at w.0 w.1 (search rules)
