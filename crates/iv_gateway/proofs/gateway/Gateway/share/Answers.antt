use Rattle.std.proofs.Common.{◌∙◌}
use Rattle.sha2.specs.Sha256.{sha256}
use Rattle.iv_command.specs.Views.{act_of}
use Rattle.iv_records.specs.Names.{holder_of}
use Rattle.iv_arrivals.specs.Speaking.{asked_id, request_of}
use Rattle.iv_gateway.proofs.HeardMessages.{IsAlive-shares_named, IsAlive-shares_plain}
use Rattle.iv_gateway.proofs.gateway.Gateway.share.Goals as goal

pub returns-in_ok-decide-in-None : goal.returns-in_ok-decide-in-None
returns-in_ok-decide-in-None c = λ g k b r u.
    IsAlive-shares_plain g c.args.asked.now.client k (asked_id c.args.asked.now) (request_of c.args.asked.now (act_of c.args.act)) c.args.claim _ c.in-None.is
    (c.in_ok-decide-in-None.ensures g b)

pub returns-in_ok-ask_named-in-Some : goal.returns-in_ok-ask_named-in-Some
returns-in_ok-ask_named-in-Some c = λ g k b r u.
    IsAlive-shares_named g c.args.asked.now.client k (asked_id c.args.asked.now) (request_of c.args.asked.now (act_of c.args.act)) c.args.claim c.in-Some.claim c.in_ok-ask-in-Some.ask _ c.in-Some.is
    (c.in_ok-ask-in-Some.ensures ∙ (λ i. record {
      holder = holder_of (r i) (u i);
      name = c.in-Some.claim.name;
      at = c.in-Some.claim.at;
      digest = sha256 c.args.asked.now.line;
    }))
    (c.in_ok-ask_named-in-Some.ensures g b)
