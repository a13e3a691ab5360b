use Rattle.std.proofs.Common.{◌≡◌, ◌∙◌, sym, ap, subst, ℕ, ◌+◌, length, List, Some, None, true, not}
use Rattle.std.specs.Prelude.{is_some, string_bytes}
use Rattle.iv_bind.specs.Catalogs.{named, schema_of}
use Rattle.iv_machine.specs.Act as machine
use Rattle.iv_machine.specs.Refusing.{entry_shape, or_else, test}
use Rattle.iv_machine.specs.State.{table_columns, rel_of}
use Rattle.iv_command.specs.Entries.{copies_of, op_of}
use Rattle.iv_database.specs.Database.{Database, frame_of}
use Rattle.iv_database.proofs.FrameTests.{entry_shape-named}
use Rattle.iv_database.proofs.database.Database.place.Goals as goal

pub returns-then-not-accepts-clause-refused : goal.returns-then-not-accepts-clause-refused
returns-then-not-accepts-clause-refused c =
    let e = c.args.self.now in
    let k = c.in-Some.rel.0 in
    let name = c.as_str.ensures.value in
    let rows = sym c.accepts.ensures ∙ c.if-not-accepts.true in
    ap (entry_shape (frame_of e) (length c.args.placed.now + 1)) (sym c.entry.view_is)
    ∙ entry_shape-named (frame_of e) (length c.args.placed.now + 1) (string_bytes c.entry.inside.rel) (op_of c.entry.inside.op) (copies_of c.entry.inside.copies) c.in-Some-schema.schema.now
    (subst (λ (x : List ℕ). is_some (named (frame_of e).catalog x) ≡ true) name (sym c.in-Some.ensures.known))
    (subst (λ (x : List ℕ). table_columns (frame_of e).catalog x ≡ Some c.in-Some-schema.schema.now) name (c.in-Some.ensures.columns ∙ sym (c.in-Some-schema.ensures ∙ ap (λ (v : Database). schema_of v.catalog k) c.self.view_is)))
    ∙ ap (λ b. or_else (test (not b) (machine.bad_row (length c.args.placed.now + 1))) None) rows

pub returns-clause-ok : goal.returns-clause-ok
returns-clause-ok c =
    let e = c.args.self.now in
    let k = c.in-Some.rel.0 in
    let name = c.as_str.ensures.value in
    let rows = sym c.accepts.ensures ∙ c.if-not-accepts.false in
    ap (entry_shape (frame_of e) (length c.args.placed.now + 1)) (sym c.entry.view_is)
    ∙ entry_shape-named (frame_of e) (length c.args.placed.now + 1) (string_bytes c.entry.inside.rel) (op_of c.entry.inside.op) (copies_of c.entry.inside.copies) c.in-Some-schema.schema.now
    (subst (λ (x : List ℕ). is_some (named (frame_of e).catalog x) ≡ true) name (sym c.in-Some.ensures.known))
    (subst (λ (x : List ℕ). table_columns (frame_of e).catalog x ≡ Some c.in-Some-schema.schema.now) name (c.in-Some.ensures.columns ∙ sym (c.in-Some-schema.ensures ∙ ap (λ (v : Database). schema_of v.catalog k) c.self.view_is)))
    ∙ ap (λ b. or_else (test (not b) (machine.bad_row (length c.args.placed.now + 1))) None) rows

pub returns-clause-placed : goal.returns-clause-placed
returns-clause-placed c =
    let e = c.args.self.now in
    let k = c.in-Some.rel.0 in
    let name = c.as_str.ensures.value in
    record {
      known = ap (λ x. is_some (named (frame_of e).catalog x)) (sym name) ∙ sym c.in-Some.ensures.known;
      number = ap (rel_of (frame_of e).catalog) (sym name) ∙ c.in-Some.ensures.number;
      name = c.in-Some.ensures.name ∙ name;
      columns = ap (table_columns (frame_of e).catalog) (sym name) ∙ c.in-Some.ensures.columns;
      table = ap (λ (v : Database). is_some (schema_of v.catalog k)) (sym c.self.view_is) ∙ ap (λ o. is_some o) (sym c.in-Some-schema.ensures);
    }
