use Rattle.iv_engine.proofs.SoundStates.{IsSoundEngine-IsLeftByAll}
use Rattle.std.proofs.Common.{◌≡◌, ◌∙◌, refl, sym, ap, List, map, ◌++◌, [], subst, cond, arith}
use Rattle.std.specs.List.{list_all}
use Rattle.std.proofs.lemmas.List.{map-append}
use Rattle.std.specs.Vec.Iter.{into_iter_items}
use Rattle.iv_machine.proofs.RunSums.{AddsUp-run}
use Rattle.iv_machine.specs.Held.{held}
use Rattle.iv_machine.specs.Machine.{run, step}
use Rattle.iv_machine.specs.Reached.{AreNumbersUnique}
use Rattle.iv_machine.specs.State.{State}
use Rattle.iv_machine.specs.Well.{is_well_command}
use Rattle.iv_machine.specs.Act.{Line}
use Rattle.iv_command.specs.declared.command.Command.{Command}
use Rattle.iv_embedded.specs.Applied.{AreApplied}
use Rattle.iv_store.specs.Engine.{IsBehind}
use Rattle.iv_command.specs.Views.{command_of, line_of}
use Rattle.iv_embedded.proofs.CommandLists.{GoesBehind, GoesBehind-IsApplied}
use Rattle.iv_store.proofs.RunLines.{nil-of_length_zero, append-nothing, run-said, list_all-well_rest}
use Rattle.iv_embedded.proofs.listing.run_list.Goals as goal

pub loop-command-preserved : goal.loop-command-preserved
loop-command-preserved c =
    let next = c.in-Some.ensures.steps.0 in
    let cmd = command_of c.in-Some.command in
    let rest = map command_of (into_iter_items c.next.new.self) in
    let old = c.loop-command.lines.items in (
      tt,
      tt,
      list_all-well_rest cmd rest (sym (ap (λ (cs : List Command). list_all is_well_command (map command_of cs)) next) ∙ c.loop-command.invariant.2),
      c.in_ok-said.ensures.went_on,
      λ s b.
          let x = c.loop-command.invariant.4 s b in
          let items : c.append.new.self.items ≡ old ++ c.in_ok-said.said.items = c.append.ensures.items ∙ ap (λ t. cond t (old ++ c.in_ok-said.said.items) old) c.if-is_err.ensures.negation in (
            (step x.0 cmd).state,
            c.in_ok-said.ensures.state x.0 x.1,
            run-said x.0 cmd rest (map line_of old) (map line_of c.in_ok-said.said.items) (map line_of c.append.new.self.items) (run s (map command_of c.args.commands.items)).lines
                (ap (map line_of) items ∙ map-append line_of old c.in_ok-said.said.items) (c.in_ok-said.ensures.lines x.0 x.1)
                (sym (ap (λ (cs : List Command). map line_of old ++ (run x.0 (map command_of cs)).lines) next) ∙ x.2),
            sym (ap (λ (cs : List Command). (run x.0 (map command_of cs)).state) next) ∙ x.3,
          ),
      GoesBehind-IsApplied c.args.engine.now c.loop-command.engine c.apply.new.self (map command_of c.args.commands.items) cmd rest (map line_of old) (map line_of c.in_ok-said.said.items) (map line_of c.append.new.self.items)
          (ap (map line_of) (c.append.ensures.items ∙ ap (λ t. cond t (old ++ c.in_ok-said.said.items) old) c.if-is_err.ensures.negation) ∙ map-append line_of old c.in_ok-said.said.items)
          (subst (λ (cs : List Command). GoesBehind c.args.engine.now c.loop-command.engine (map command_of c.args.commands.items) (map command_of cs) (map line_of old)) next c.loop-command.invariant.5)
          (record {
            lines = c.in_ok-said.ensures.lines;
            state = c.in_ok-said.ensures.state;
            known_rows = c.in_ok-said.ensures.known_rows;
            refused = c.in_ok-said.ensures.refused;
            rounds = c.in_ok-said.ensures.rounds;
          }),
    )

pub returns-clause-lines : goal.returns-clause-lines
returns-clause-lines c = λ s b.
    let x = c.loop-command.invariant.4 s b in
    let none : into_iter_items c.loop-command.command-iterator ≡ [] = nil-of_length_zero (into_iter_items c.loop-command.command-iterator) (let empty = c.in-None.ensures.steps.0 in let ok = c.loop-command.command-iterator.rest.ok in omega (arith, empty, ok)) in
    append-nothing (map line_of c.loop-command.lines.items) ∙ sym (ap (λ (cs : List Command). map line_of c.loop-command.lines.items ++ (run x.0 (map command_of cs)).lines) none) ∙ x.2

pub returns-clause-state : goal.returns-clause-state
returns-clause-state c = λ s b.
    let x = c.loop-command.invariant.4 s b in
    let none : into_iter_items c.loop-command.command-iterator ≡ [] = nil-of_length_zero (into_iter_items c.loop-command.command-iterator) (let empty = c.in-None.ensures.steps.0 in let ok = c.loop-command.command-iterator.rest.ok in omega (arith, empty, ok)) in
    subst (λ (t : State). IsBehind t c.loop-command.engine) (sym (ap (λ (cs : List Command). (run x.0 (map command_of cs)).state) none) ∙ x.3) x.1

pub returns-clause-each : goal.returns-clause-each
returns-clause-each c =
    let none : into_iter_items c.loop-command.command-iterator ≡ [] = nil-of_length_zero (into_iter_items c.loop-command.command-iterator) (let empty = c.in-None.ensures.steps.0 in let ok = c.loop-command.command-iterator.rest.ok in omega (arith, empty, ok)) in
    let all = map command_of c.args.commands.items in
    let behind = subst (λ (cs : List Command). GoesBehind c.args.engine.now c.loop-command.engine all (map command_of cs) (map line_of c.loop-command.lines.items)) none c.loop-command.invariant.5 in
    subst (λ (ls : List Line). AreApplied c.args.engine.now all ls c.loop-command.engine) (sym (append-nothing (map line_of c.loop-command.lines.items))) (behind [] c.loop-command.engine (refl, refl))

pub returns-clause-held : goal.returns-clause-held
returns-clause-held c = λ s b k q kept.
    let x = c.loop-command.invariant.4 s b in
    let none : into_iter_items c.loop-command.command-iterator ≡ [] = nil-of_length_zero (into_iter_items c.loop-command.command-iterator) (let empty = c.in-None.ensures.steps.0 in let ok = c.loop-command.command-iterator.rest.ok in omega (arith, empty, ok)) in
    let lines : map line_of c.loop-command.lines.items ≡ (run s (map command_of c.args.commands.items)).lines = append-nothing (map line_of c.loop-command.lines.items) ∙ sym (ap (λ (cs : List Command). map line_of c.loop-command.lines.items ++ (run x.0 (map command_of cs)).lines) none) ∙ x.2 in
    let numbers : AreNumbersUnique s.frame = subst AreNumbersUnique (sym b.frame) (c.is_failed.ensures.numbers c.if-is_failed.false) in
    ap (held k q) lines ∙ AddsUp-run s (map command_of c.args.commands.items) numbers k q kept

pub returns-clause-sound : goal.returns-clause-sound
returns-clause-sound c = λ g h. IsSoundEngine-IsLeftByAll c.args.engine.now _ (map command_of c.args.commands.items) g (returns-clause-state c) h
