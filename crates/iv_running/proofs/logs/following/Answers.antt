use Rattle.std.proofs.Common.{◌++◌, ℕ, List, Some, ◌∙◌, ap, string_bytes}
use Rattle.std.proofs.lemmas.Str.{IsUtf8-string_bytes, is_utf8-from_IsUtf8}
use Rattle.iv_journal.specs.Journal.{Line}
use Rattle.iv_head.specs.Begun.{Begun, Standing, lines_of}
use Rattle.iv_running.proofs.LogJournals.{begins_log}
use Rattle.iv_running.proofs.logs.following.Goals as goal

abbrev begun_with : (name epoch : List ℕ) → List Standing → Begun
begun_with name epoch standings = record { log = Some (record { name = name; epoch = epoch; position = 0 }); standings = standings }

pub returns-in-Ok : goal.returns-in-Ok
returns-in-Ok c =
    let name = string_bytes c.args.name in
    let epoch = string_bytes c.args.epoch in
    let begun = begun_with name epoch c.new.result.items in
    begins_log c.what_is_written_is_read_back.ensures _ name epoch begun _ c.in-Ok.bytes.items
    (ap (λ (ss : List Standing). begun_with name epoch ss) c.new.ensures.items)
    (c.deref-2.ensures.value ∙ (c.in_ok-given.ensures ∙ (c.deref.ensures.value ∙ (c.in_ok-push_begun.ensures ∙ ap (λ (ls : List Line). ls ++ lines_of begun) c.new-lines.ensures.items))))
    (is_utf8-from_IsUtf8 name (IsUtf8-string_bytes c.args.name)) c.requires c.in-Ok.ensures
