use Rattle.iv_program.specs.Does.{listening}
use Rattle.iv_program.proofs.Connections.{Appends-take_of_all}
use Rattle.iv_program.proofs.serving.serve_through.Goals as goal

pub returns-in-Err-Network-clause-listens : goal.returns-in-Err-Network-clause-listens
returns-in-Err-Network-clause-listens g c = Appends-take_of_all _ _ (listening c.args.port) c.in_ok-tell_port.ensures.listens

pub returns-in-Err-Memory-clause-listens : goal.returns-in-Err-Memory-clause-listens
returns-in-Err-Memory-clause-listens g c = Appends-take_of_all _ _ (listening c.args.port) c.in_ok-tell_port.ensures.listens
