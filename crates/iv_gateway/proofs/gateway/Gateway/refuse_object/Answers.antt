use Rattle.std.proofs.Common.{◌∙◌, ◌++◌, ap, option_map, sym}
use Rattle.iv_message.specs.Seen.{id_data, why_of}
use Rattle.iv_message.specs.Told.{told_text, unasked}
use Rattle.iv_gateway.proofs.gateway.Gateway.refuse_object.Goals as goal

pub returns : goal.returns
returns c = λ g b.
    c.in_ok-tell.ensures g (unasked (option_map id_data c.args.id.now) (why_of c.args.why.now))
    (record { tokens = b.tokens; machine = b.machine; seats = b.seats; feeds = b.feeds; clients = b.clients; names = b.names; log = b.log; leads = b.leads; position = b.position; settled = b.settled; forgiven = b.forgiven; pending = b.pending; shape = b.shape })
    (sym (c.deref.ensures.value ∙ (c.in_ok-push_unasked.ensures ∙ ap (λ z. z
    ++ told_text (unasked (option_map id_data c.args.id.now) (why_of c.args.why.now))) c.new-text.ensures.items)))
