use Rattle.std.proofs.Common.{◌≡◌, ◌∙◌, List, [], ◌∷◌, Some, ap, map, refl, subst, sym, true}
use Rattle.std.specs.Prelude.{IfErr}
use Rattle.std.specs.List.{list_all}
use Rattle.iv_command.specs.Views.{line_of}
use Rattle.iv_records.specs.Journal.{Request}
use Rattle.iv_clients.specs.Kept.{kept_slots}
use Rattle.iv_engine.specs.Stepped.{is_write}
use Rattle.iv_steps.specs.Steps.{Fact, is_well_fact, stepped}
use Rattle.iv_gate.specs.Arriving.{Step, entry_of, fact_of}
use Rattle.iv_gate.specs.Gate.{Gate, entered}
use Rattle.iv_gateway.specs.Arriving.{IsNotLanded}
use Rattle.iv_notices.specs.Newly.{AreBefore, AreNewly}
use Rattle.iv_gateway.specs.Views.{IsAlive}
use Rattle.iv_gateway.proofs.Landed.{err_gives, facts_well, none_refused, refused_lands}
use Rattle.iv_notices.proofs.NewRights.{are_newly}
use Rattle.iv_gateway.proofs.gateway.Gateway.land.Goals as goal

pub carry_step-requires : goal.carry_step-requires
carry_step-requires c =
    subst (λ (fs : List Fact). list_all is_well_fact fs ≡ true) (sym c.in_ok-facts.ensures.facts)
    (facts_well c.requests_are_well.ensures c.args.step.requests c.requires.0.requests)

pub returns-in_err-facts-clause-fault : goal.returns-in_err-facts-clause-fault
returns-in_err-facts-clause-fault c =
    err_gives c.from_residual-in_err-facts.result _ (λ r. IfErr r (λ f. (g : Gate) → IsAlive g c.args.self.now → IsNotLanded g c.args.step f))
    c.from_residual-in_err-facts.ensures.1
    (λ f is g b. subst (IsNotLanded g c.args.step) (sym is) (c.in_err-facts.ensures.fault g b))

pub returns-in_err-lines-clause-fault : goal.returns-in_err-lines-clause-fault
returns-in_err-lines-clause-fault c =
    err_gives c.from_residual-in_err-lines.result _ (λ r. IfErr r (λ f. (g : Gate) → IsAlive g c.args.self.now → IsNotLanded g c.args.step f))
    c.from_residual-in_err-lines.ensures.1
    (λ f is g b.
    let e = c.in_ok-facts.ensures.entered g b in
    subst (IsNotLanded g c.args.step) (sym is)
    (refused_lands g c.args.step (entry_of c.args.step ∷ []) c.in_ok-facts.facts.items _ e.new c.in_ok-facts.ensures.facts
    (c.in_err-lines.ensures.refused (entered g (entry_of c.args.step ∷ [])) e.gate)))

pub returns-clause-landed : goal.returns-clause-landed
returns-clause-landed c = λ g b.
    let s = c.args.step in
    let places = kept_slots g.clients in
    let e = c.in_ok-facts.ensures.entered g b in
    let k = c.in_ok-lines.ensures.carried (entered g (entry_of s ∷ [])) e.gate in
    let is : stepped (map fact_of s.requests) g.machine ≡ Some k.outcome = ap (λ fs. stepped fs g.machine) (sym c.in_ok-facts.ensures.facts) ∙ k.is in
    let requests = c.deref.ensures.value ∙ ap (λ (z : Step). z.requests) c.step.view_is in
    let before : AreBefore g.machine.frame (list_all (λ (q : Request). is_write q.act) s.requests) c.in_ok-before.before.items places =
    subst (λ (qs : List Request). AreBefore g.machine.frame (list_all (λ (q : Request). is_write q.act) qs) c.in_ok-before.before.items places) requests
    (c.in_ok-before.ensures g b) in
    let newly = are_newly g.machine.frame s.requests g.machine k.outcome c.in_ok-before.before.items places refl before is in
    record {
      new = e.new;
      accepted = none_refused c.refusals_are_found.ensures s.requests g k.outcome c.requires.0.requests is;
      outcome = k.outcome;
      is = is;
      gate = c.in_ok-tell_step.ensures (entered g (entry_of s ∷ [])) k.outcome (entry_of s) k.gate (ap (map line_of) c.deref-2.ensures.value ∙ k.lines)
          (subst (λ rs. AreNewly g.machine.frame k.outcome.state.frame rs places) (sym c.deref-3.ensures.value) newly)
          (c.deref-4.ensures.value ∙ e.makes);
    }
