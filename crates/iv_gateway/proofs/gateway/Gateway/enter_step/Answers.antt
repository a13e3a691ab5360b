use Rattle.std.proofs.Common.{◌≡◌, ◌∙◌, ◌++◌, ◌∷◌, [], Some, None, ap, map, option_map, subst, sym}
use Rattle.std.specs.Prelude.{flat_map}
use Rattle.iv_once.specs.Names.{Names}
use Rattle.iv_once.specs.Views.{names_of as names_in_code}
use Rattle.iv_records.specs.Journal.{record_of, texts_of}
use Rattle.iv_gate.specs.Arriving.{Step, entry_of, fact_of, first_known, not_new}
use Rattle.iv_gate.specs.Gate.{known_of, shape_text}
use Rattle.iv_arrivals.specs.Entering.{all_pushed, shape_in}
use Rattle.iv_gateway.proofs.Landed.{entry_shape, step_kept}
use Rattle.iv_gateway.proofs.gateway.Gateway.enter_step.Goals as goal

pub returns-in-Some-clause-fault : goal.returns-in-Some-clause-fault
returns-in-Some-clause-fault c = λ g b.
    let q : Step = record {
      log = c.step.inside.log;
      from = c.step.inside.from;
      to = c.step.inside.to;
      requests = c.step.inside.requests.items;
      names = c.step.inside.names.items;
    } in
    let learned = ap (first_known 1 q.names) (sym (ap (λ (z : Names). z.known) b.names)) ∙ c.in_ok-learn.ensures.first (ap (λ (z : Names). z.limits) b.names) in
    subst (λ (s : Step). first_known 1 s.names (known_of g) ≡ Some (not_new c.in-Some.place)) c.step.view_is
    (learned ∙ ap (option_map not_new) c.in-Some.is)

pub returns-clause-facts : goal.returns-clause-facts
returns-clause-facts c = c.in_ok-facts.ensures.facts ∙ ap (λ (s : Step). map fact_of s.requests) c.step.view_is

pub returns-clause-entered : goal.returns-clause-entered
returns-clause-entered c = λ g b.
    let q : Step = record {
      log = c.step.inside.log;
      from = c.step.inside.from;
      to = c.step.inside.to;
      requests = c.step.inside.requests.items;
      names = c.step.inside.names.items;
    } in
    let learned = ap (first_known 1 q.names) (sym (ap (λ (z : Names). z.known) b.names)) ∙ c.in_ok-learn.ensures.first (ap (λ (z : Names). z.limits) b.names) in
    let makes = c.in_ok-facts.ensures.made
    ∙ (ap (λ z. z ++ flat_map shape_in q.requests) c.requires ∙ entry_shape (entry_of q)) in
    let lines = c.in_ok-push_step.ensures
    ∙ (λ i. c.args.self.now.pending.items ++ record_of (texts_of (record {
      requests = c.deref.ensures.value i;
      names = c.deref-2.ensures.value i;
      position = Some q.to;
    }))) in
    let s = c.args.step in
    let v = c.step.view_is in
    let known = names_in_code c.args.self.now.names in
    let adds = makes ∙ ap (λ (z : Step). shape_text (entry_of z ∷ [])) v in
    let k = step_kept g s c.args.self.now (names_in_code c.learn.new.known) c.push_step.new.lines.items c.extend_from_slice.new.self.items
    c.facts_of.new.made.items b (c.in_ok-learn.ensures.learned c.in-None.is ∙ ap (λ (z : Step). all_pushed known z.names) v)
    (lines ∙ ap (λ (z : Step). c.args.self.now.pending.items ++ record_of (texts_of (entry_of z))) v) adds
    (c.in_ok-extend_from_slice.ensures.items ∙ ap (λ z. c.args.self.now.shape.items ++ z) c.deref-3.ensures.value) in
    record {
      new = subst (λ (z : Step). first_known 1 z.names (known_of g) ≡ None) v (learned ∙ ap (option_map not_new) c.in-None.is);
      makes = adds;
      gate = record {
        tokens = b.tokens;
        machine = b.machine;
        seats = b.seats;
        feeds = b.feeds;
        clients = b.clients;
        names = k.names;
        log = b.log;
        leads = b.leads;
        position = ap (λ (z : Step). z.to) v ∙ k.position;
        settled = k.settled;
        forgiven = k.forgiven;
        pending = k.pending;
        shape = k.shape;
      };
    }
