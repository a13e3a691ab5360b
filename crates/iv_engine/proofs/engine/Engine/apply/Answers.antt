use Rattle.iv_engine.proofs.SoundStates.{IsSoundEngine-IsLeftBy}
use Rattle.std.proofs.Common.{◌≡◌, ◌∙◌, false, map, sym, ap, subst}
use Rattle.iv_machine.specs.Machine.{step}
use Rattle.iv_machine.specs.State.{Frame}
use Rattle.iv_machine.specs.Reached.{AreNumbersUnique}
use Rattle.iv_machine.specs.Readers.{ShowsKnownRows}
use Rattle.iv_machine.proofs.RowsOfLines.{ShowsKnownRows-step}
use Rattle.std.specs.List.{All}
use Rattle.iv_store.specs.Answering.{seen}
use Rattle.iv_store.specs.Store.{Store, frame_of}
use Rattle.iv_store.specs.Engine.{Engine, IsBehind}
use Rattle.iv_database.specs.Stands.{Stands}
use Rattle.iv_command.specs.Views.{command_of, line_of}
use Rattle.iv_store.proofs.RunLines.{AreCountedWhereAccepted-IsCountedBy, shown_by}
use Rattle.iv_engine.proofs.engine.Engine.apply.Goals as goal

pub returns-in-Ok-clause-lines : goal.returns-in-Ok-clause-lines
returns-in-Ok-clause-lines c = λ s b.
    let frame : s.frame ≡ frame_of c.self.inside.store = b.frame ∙ ap (λ (v : Engine). v.frame) (sym c.self.view_is) in
    let rows = subst (λ (v : Engine). Stands s.rows v.tables) (sym c.self.view_is) b.rows in
    c.in-Ok.ensures.lines s.rows rows ∙ ap (λ (f : Frame). (step (record { frame = f; rows = s.rows }) (command_of c.args.command)).lines) (sym frame)

pub returns-in-Ok-clause-state : goal.returns-in-Ok-clause-state
returns-in-Ok-clause-state c = λ s b.
    let frame : s.frame ≡ frame_of c.self.inside.store = b.frame ∙ ap (λ (v : Engine). v.frame) (sym c.self.view_is) in
    let rows = subst (λ (v : Engine). Stands s.rows v.tables) (sym c.self.view_is) b.rows in
    let behind = subst (λ (f : Frame). IsBehind (step (record { frame = f; rows = s.rows }) (command_of c.args.command)).state (seen c.step.new.store)) (sym frame) (c.in-Ok.ensures.state s.rows rows) in
    record { frame = behind.frame; rows = behind.rows }

pub returns-in-Ok-clause-known_rows : goal.returns-in-Ok-clause-known_rows
returns-in-Ok-clause-known_rows c = λ s b.
    let frame : s.frame ≡ frame_of c.self.inside.store = b.frame ∙ ap (λ (v : Engine). v.frame) (sym c.self.view_is) in
    let rows = subst (λ (v : Engine). Stands s.rows v.tables) (sym c.self.view_is) b.rows in
    let lines = c.in-Ok.ensures.lines s.rows rows ∙ ap (λ (f : Frame). (step (record { frame = f; rows = s.rows }) (command_of c.args.command)).lines) (sym frame) in
    let numbers : AreNumbersUnique s.frame = subst AreNumbersUnique (sym b.frame) (c.is_failed.ensures.numbers c.if-is_failed.false) in
    subst (All (ShowsKnownRows s (step s (command_of c.args.command)).state)) (sym lines) (ShowsKnownRows-step s (command_of c.args.command) numbers)

pub returns-in-Ok-clause-refused : goal.returns-in-Ok-clause-refused
returns-in-Ok-clause-refused c = λ n r is. ap (λ (e : Store). shown_by e c.self.inside.failed) (c.in-Ok.ensures.refused n r is) ∙ c.self.view_is

pub returns-in-Ok-clause-rounds : goal.returns-in-Ok-clause-rounds
returns-in-Ok-clause-rounds c =
    let off : c.self.inside.failed ≡ false = ap (λ (v : Engine). v.failed) c.self.view_is ∙ sym c.is_failed.ensures.failed ∙ c.if-is_failed.false in
    AreCountedWhereAccepted-IsCountedBy c.self.inside.store c.step.new.store c.args.self.now c.self.inside.failed (command_of c.args.command) (map line_of c.in-Ok.lines.items) off c.self.view_is c.in-Ok.ensures.rounds

pub returns-in-Ok-clause-sound : goal.returns-in-Ok-clause-sound
returns-in-Ok-clause-sound c = λ g h. IsSoundEngine-IsLeftBy c.args.self.now _ (command_of c.args.command) g (returns-in-Ok-clause-state c) h
