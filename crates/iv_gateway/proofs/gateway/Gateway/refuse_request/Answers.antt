use Rattle.std.proofs.Common.{false, refl}
use Rattle.iv_command.specs.Views.{refusal_of}
use Rattle.iv_machine.specs.Act.{refused}
use Rattle.iv_arrivals.specs.Speaking.{request_of}
use Rattle.iv_gateway.proofs.AddedEntries.{shape_text-entries_of}
use Rattle.iv_gateway.proofs.gateway.Gateway.refuse_request.Goals as goal

pub returns : goal.returns
returns c = λ g act b s.
    c.in_ok-answer_request.ensures g act b s
    (shape_text-entries_of (request_of c.args.asked.now act) c.args.name (refused (refusal_of c.args.refusal)) false s refl)
