use Rattle.std.proofs.Common.{◌≡◌, true, subst, sym}
use Rattle.std.specs.Prelude.{Ok}
use Rattle.iv_rows.specs.Names.{is_name}
use Rattle.iv_machine.specs.Well.{is_well_act}
use Rattle.iv_steps.specs.Steps.{Fact, is_well_fact}
use Rattle.iv_engine.specs.Carried.{IsCarried}
use Rattle.iv_engine.specs.Stepped.{is_write}
use Rattle.iv_engine.proofs.Carried.{stops_acted, stops_begun, stops_finished, is_well_act-is_well_fact, is_name-is_well_fact, whole_carried}
use Rattle.iv_circuit.specs.Deltas.{change_in}
use Rattle.iv_engine.proofs.Summing.{begun_sums, finished_sums}
use Rattle.iv_engine.proofs.facts.carry.Goals as goal

pub act-requires-clause-well : goal.act-requires-clause-well
act-requires-clause-well c = subst (λ (x : Fact). is_name x.role ≡ true) (sym c.fact.view_is) (is_name-is_well_fact c.args.fact c.requires.well)

pub carry_out-requires-clause-well : goal.carry_out-requires-clause-well
carry_out-requires-clause-well c = subst (λ (x : Fact). is_well_act x.act ≡ true) (sym c.fact.view_is) (is_well_act-is_well_fact c.args.fact c.requires.well)

pub carry_out-requires-clause-sound : goal.carry_out-requires-clause-sound
carry_out-requires-clause-sound c = c.in_ok-begun.ensures.sound

pub carry_out-requires-clause-sums : goal.carry_out-requires-clause-sums
carry_out-requires-clause-sums c =
    let r = c.requires.sums in
    let s = c.args.sums.now in
    record {
      before = r.before;
      stored = r.stored;
      are = λ writes. begun_sums r.before c.args.store.now c.act.new.store (change_in s.deltas) s.tables.items 1 c.in_ok-begun.begun c.requires.sound.stored _ c.in_ok-begun.ensures (r.are writes);
    }

pub act-requires-2-clause-sound : goal.act-requires-2-clause-sound
act-requires-2-clause-sound c = c.in_ok-acted.ensures.step.sound

pub returns-in_err-begun-clause-carried : goal.returns-in_err-begun-clause-carried
returns-in_err-begun-clause-carried c =
    let e = c.args.store.now in
    let well = subst (λ (x : Fact). is_well_fact x ≡ true) (sym c.fact.view_is) c.requires.well in
    subst (λ (x : Fact). IsCarried e x c.from_residual.result c.act.new.store) c.fact.view_is
    (stops_begun _ well e c.requires.sound c.requires.empty _ c.in_err-begun.field-0.0 c.in_err-begun.ensures c.from_residual.result c.from_residual.ensures.1)

pub returns-in_err-acted-clause-carried : goal.returns-in_err-acted-clause-carried
returns-in_err-acted-clause-carried c =
    let e = c.args.store.now in
    let well = subst (λ (x : Fact). is_well_fact x ≡ true) (sym c.fact.view_is) c.requires.well in
    subst (λ (x : Fact). IsCarried e x c.from_residual-in_err-acted.result c.carry_out.new.store) c.fact.view_is
    (stops_acted _ well e c.requires.sound c.requires.empty _ _ c.in_ok-begun.ensures _ c.in_err-acted.field-0.0 c.in_err-acted.ensures.step c.from_residual-in_err-acted.result c.from_residual-in_err-acted.ensures.1)

pub returns-in_err-finished-clause-carried : goal.returns-in_err-finished-clause-carried
returns-in_err-finished-clause-carried c =
    let e = c.args.store.now in
    let well = subst (λ (x : Fact). is_well_fact x ≡ true) (sym c.fact.view_is) c.requires.well in
    subst (λ (x : Fact). IsCarried e x c.from_residual-in_err-finished.result c.act-2.new.store) c.fact.view_is
    (stops_finished _ well e c.requires.sound c.requires.empty _ _ c.in_ok-begun.ensures _ _ c.in_ok-acted.ensures.step _ c.in_err-finished.field-0.0 c.in_err-finished.ensures c.from_residual-in_err-finished.result c.from_residual-in_err-finished.ensures.1)

pub returns-clause-carried : goal.returns-clause-carried
returns-clause-carried c =
    let e = c.args.store.now in
    let well = subst (λ (x : Fact). is_well_fact x ≡ true) (sym c.fact.view_is) c.requires.well in
    subst (λ (x : Fact). IsCarried e x (Ok tt) c.act-2.new.store) c.fact.view_is
    (whole_carried _ well e c.requires.sound c.requires.empty _ _ c.in_ok-begun.ensures _ _ c.in_ok-acted.ensures.step _ _ c.in_ok-finished.ensures _)

pub returns-clause-sums : goal.returns-clause-sums
returns-clause-sums c = λ before stored h writes.
    let s = c.args.sums.now in
    let t = c.carry_out.new.sums in
    finished_sums before c.carry_out.new.store c.act-2.new.store (change_in t.deltas) t.tables.items 1 c.in_ok-finished.finished c.in_ok-acted.ensures.step.sound.stored c.in_ok-finished.ensures
    (c.in_ok-acted.ensures.sums before stored
    (λ w. begun_sums before c.args.store.now c.act.new.store (change_in s.deltas) s.tables.items 1 c.in_ok-begun.begun c.requires.sound.stored _ c.in_ok-begun.ensures (h w)) writes)

pub returns-clause-others : goal.returns-clause-others
returns-clause-others c = λ writes. c.in_ok-acted.ensures.others (subst (λ (x : Fact). is_write x.act ≡ true) (sym c.fact.view_is) writes)
