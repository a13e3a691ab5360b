use Rattle.std.proofs.Common.{sym, subst}
use Rattle.iv_access.specs.Policies.{allowed}
use Rattle.iv_circuit.specs.Keeping.{StandsOn}
use Rattle.tests_circuits.proofs.circuits.built.Goals as goal

pub returns-in-Ok : goal.returns-in-Ok
returns-in-Ok c = record {
  rights = c.args.access.now.rights;
  role = 0;
  scans = c.in-Ok.ensures.scans;
  stands = λ T hold. subst (λ k. StandsOn k c.in-Ok.circuit.node (allowed c.args.access.now.rights 0 T)) (sym c.in-Ok.ensures.cap) (c.in-Ok.ensures.answers T hold);
}
