use Rattle.std.proofs.Common.{◌∙◌, ap, arith, length, sym}
use Rattle.std.proofs.Math.Seq.{take-length}
use Rattle.std.proofs.lemmas.List.{drop_all}
use Rattle.iv_clients.specs.Clients.{at_all, released}
use Rattle.iv_records.specs.Journal.{journal_of, position_of}
use Rattle.iv_clients.specs.Kept.{releasing}
use Rattle.iv_notices.proofs.ClientChanges.{at_all-kept_slots, kept-released}
use Rattle.iv_gateway.proofs.gateway.Gateway.release.Goals as goal

pub returns : goal.returns
returns c = λ g b. record {
  tokens = b.tokens;
  machine = b.machine;
  seats = b.seats;
  feeds = b.feeds;
  names = b.names;
  log = b.log;
  leads = b.leads;
  position = b.position;
  settled = b.position ∙ sym (ap (position_of g.head.position) (take-length g.entries));
  forgiven = b.forgiven;
  pending = record { within = omega arith; lines = c.clear.ensures.items ∙ ap journal_of (sym (drop_all (length g.entries) g.entries (omega arith))) };
  shape = b.shape;
  clients = c.in_ok-release.ensures ∙ (ap (at_all releasing) b.clients ∙ at_all-kept_slots released releasing kept-released g.clients);
}
