use Rattle.std.proofs.Common.{◌∙◌, ap, arith, rules}
use Rattle.iv_clients.specs.Clients.{client_at}
use Rattle.iv_notices.proofs.NewRights.{all_roles, more_roles}
use Rattle.iv_notices.proofs.newly.all_readable.Goals as goal

pub loop-client-init : goal.loop-client-init
loop-client-init c = (search rules, λ m k lt there. absurd (let none : ⊥ = omega (arith, lt) in none))

pub loop-client-preserved : goal.loop-client-preserved
loop-client-preserved c = (
  c.in_ok-add_role_of.ensures.each c.loop-client.invariant.0,
  more_roles c.loop-client.all.items c.add_role_of.new.all.items c.args.clients.now c.loop-client.client c.loop-client.invariant.1
      (λ k there. c.in_ok-add_role_of.ensures.added k (ap (λ ps. client_at ps c.loop-client.client) c.places.ensures ∙ there))
      c.in_ok-add_role_of.ensures.others,
)

pub returns : goal.returns
returns c = record {
  each = c.loop-client.invariant.0;
  all = all_roles c.loop-client.all.items c.args.clients.now c.loop-client.client (omega arith) c.loop-client.invariant.1;
}
