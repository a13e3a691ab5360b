use Rattle.std.proofs.Common.{◌∙◌, List, Option, ap, map, subst, sym}
use Rattle.iv_rows.specs.Cell.{Cell}
use Rattle.iv_access.specs.declared.policy.Check.{Check}
use Rattle.iv_machine.specs.Act.{Refusal}
use Rattle.iv_machine.specs.Refusing.{entry_check, first}
use Rattle.iv_command.specs.Entries.{op_of}
use Rattle.iv_command.specs.Stops.{IsTested}
use Rattle.iv_database.specs.Database.{frame_of}
use Rattle.iv_database.specs.Placed.{Placed}
use Rattle.iv_database.proofs.FrameTests.{first_of-first, IsTested-update}
use Rattle.iv_database.proofs.database.Database.check_entry.Goals as goal

pub returns-in-Update : goal.returns-in-Update
returns-in-Update c =
    let x = c.check_rows-in-Update.result in
    let check = entry_check (frame_of c.args.self.now) c.args.acting.0 c.args.number c.args.entry.now.name in
    let tests = first_of-first check c.update_tests.result ∙ ap (λ (ts : List (Check × List Cell)). first (map check ts)) c.update_tests.ensures in
    IsTested-update (frame_of c.args.self.now) c.args.acting.0 c.args.number c.args.entry.now _ _ x (sym (ap (λ (p : Placed). p.op) c.entry.view_is) ∙ ap op_of c.in-Update.is)
    (subst (λ (o : Option Refusal). IsTested o x) tests c.check_rows-in-Update.ensures)
