use Rattle.std.proofs.Common.{◌≡◌, refl, sym, subst, true}
use Rattle.std.specs.Prelude.{option_map, string_bytes}
use Rattle.iv_machine.specs.Act as machine
use Rattle.iv_machine.specs.Well.{is_well_act}
use Rattle.iv_access.specs.Rights.{Name}
use Rattle.iv_store.specs.Answering.{IsStep}
use Rattle.iv_database.specs.Database.{IsDatabase}
use Rattle.iv_database.specs.Next.{IsDone}
use Rattle.iv_store.specs.Store.{store_of, Store, database_of, with_database}
use Rattle.iv_command.specs.Views.{act_of}
use Rattle.iv_command.specs.declared.command.Act.{Act}
use Rattle.iv_store.proofs.RunLines.{has_columns-is_well_act}
use Rattle.iv_store.proofs.RequestSteps.{IsQuiet-begin, IsQuiet-grant, IsStep-IsPlain, IsQuiet-create_role, IsQuiet-create_table, IsQuiet-create_view}
use Rattle.iv_engine.proofs.step.act.Goals as goal

pub create_table-done-requires-clause-columns : goal.create_table-done-requires-clause-columns
create_table-done-requires-clause-columns c = has_columns-is_well_act (string_bytes c.in-CreateTable.name) (string_bytes c.in-CreateTable.owner) c.in-CreateTable.columns.items
    (subst (λ (a : Act). is_well_act (act_of a) ≡ true) c.in-CreateTable.is c.requires.well)

pub create_table-done-requires-clause-stored : goal.create_table-done-requires-clause-stored
create_table-done-requires-clause-stored c = subst (λ (v : Store). IsDatabase (database_of v)) (sym c.store-in-CreateTable.view_is) c.requires.sound.stored.database

pub create_view-done-requires : goal.create_view-done-requires
create_view-done-requires c = subst (λ (v : Store). IsDatabase (database_of v)) (sym c.store-in-CreateView.view_is) c.requires.sound.stored.database

pub grant-done-requires : goal.grant-done-requires
grant-done-requires c = subst (λ (v : Store). IsDatabase (database_of v)) (sym c.store-in-Grant.view_is) c.requires.sound.stored.database

pub returns-in-Begin : goal.returns-in-Begin
returns-in-Begin c =
    let e = c.args.store.now in
    let n = c.args.session in
    let role = string_bytes c.in-Begin.role in
    let d = c.begin-done.new.self in
    let s = c.store.inside in
    let u = store_of s.database s.subscriptions.items s.circuits s.last in
    let told : IsDone (database_of u) n (machine.begin role) c.begin-done.result d = subst (λ (x : Name). IsDone (database_of u) n (machine.begin x) c.begin-done.result d) c.as_str.ensures.value c.begin-done.ensures in
    subst (λ (a : Act). IsStep e n (act_of a) c.plain.result (with_database d u)) (sym c.in-Begin.is)
    (IsStep-IsPlain e u d n (machine.begin role) c.begin-done.result c.plain.result c.store.view_is (IsQuiet-begin e n role) c.requires.sound refl c.plain.ensures told)

pub returns-in-CreateRole : goal.returns-in-CreateRole
returns-in-CreateRole c =
    let e = c.args.store.now in
    let n = c.args.session in
    let name = string_bytes c.in-CreateRole.name in
    let d = c.create_role-done.new.self in
    let s = c.store-in-CreateRole.inside in
    let u = store_of s.database s.subscriptions.items s.circuits s.last in
    let told : IsDone (database_of u) n (machine.create_role name) c.create_role-done.result d = c.create_role-done.ensures.done in
    subst (λ (a : Act). IsStep e n (act_of a) c.plain-in-CreateRole.result (with_database d u)) (sym c.in-CreateRole.is)
    (IsStep-IsPlain e u d n (machine.create_role name) c.create_role-done.result c.plain-in-CreateRole.result c.store-in-CreateRole.view_is (IsQuiet-create_role e n name) c.requires.sound refl c.plain-in-CreateRole.ensures told)

pub returns-in-CreateTable : goal.returns-in-CreateTable
returns-in-CreateTable c =
    let e = c.args.store.now in
    let n = c.args.session in
    let name = string_bytes c.in-CreateTable.name in
    let owner = string_bytes c.in-CreateTable.owner in
    let columns = c.in-CreateTable.columns.items in
    let d = c.create_table-done.new.self in
    let s = c.store-in-CreateTable.inside in
    let u = store_of s.database s.subscriptions.items s.circuits s.last in
    let told : IsDone (database_of u) n (machine.create_table name owner columns) c.create_table-done.result d =
    subst (λ (x : Name). IsDone (database_of u) n (machine.create_table name x columns) c.create_table-done.result d) c.as_str-in-CreateTable.ensures.value c.create_table-done.ensures.done in
    subst (λ (a : Act). IsStep e n (act_of a) c.plain-in-CreateTable.result (with_database d u)) (sym c.in-CreateTable.is)
    (IsStep-IsPlain e u d n (machine.create_table name owner columns) c.create_table-done.result c.plain-in-CreateTable.result c.store-in-CreateTable.view_is (IsQuiet-create_table e n name owner columns) c.requires.sound refl c.plain-in-CreateTable.ensures told)

pub returns-in-CreateView : goal.returns-in-CreateView
returns-in-CreateView c =
    let e = c.args.store.now in
    let n = c.args.session in
    let name = string_bytes c.in-CreateView.name in
    let owner = string_bytes c.in-CreateView.owner in
    let query = string_bytes c.in-CreateView.query in
    let d = c.create_view-done.new.self in
    let s = c.store-in-CreateView.inside in
    let u = store_of s.database s.subscriptions.items s.circuits s.last in
    let told : IsDone (database_of u) n (machine.create_view name owner query) c.create_view-done.result d =
    subst (λ (a : machine.Act). IsDone (database_of u) n a c.create_view-done.result d) (λ i. machine.create_view name (c.as_str-in-CreateView.ensures.value i) (c.as_str-in-CreateView-2.ensures.value i)) c.create_view-done.ensures.done in
    subst (λ (a : Act). IsStep e n (act_of a) c.plain-in-CreateView.result (with_database d u)) (sym c.in-CreateView.is)
    (IsStep-IsPlain e u d n (machine.create_view name owner query) c.create_view-done.result c.plain-in-CreateView.result c.store-in-CreateView.view_is (IsQuiet-create_view e n name owner query) c.requires.sound refl c.plain-in-CreateView.ensures told)

pub returns-in-Grant : goal.returns-in-Grant
returns-in-Grant c =
    let e = c.args.store.now in
    let n = c.args.session in
    let rel = string_bytes c.in-Grant.rel in
    let privileges = c.in-Grant.privileges.items in
    let to = option_map string_bytes c.in-Grant.grantee in
    let d = c.grant-done.new.self in
    let s = c.store-in-Grant.inside in
    let u = store_of s.database s.subscriptions.items s.circuits s.last in
    let told : IsDone (database_of u) n (machine.grant rel privileges to) c.grant-done.result d =
    subst (λ (a : machine.Act). IsDone (database_of u) n a c.grant-done.result d) (λ i. machine.grant rel (c.deref.ensures.value i) (c.text_of.ensures i)) c.grant-done.ensures.done in
    subst (λ (a : Act). IsStep e n (act_of a) c.plain-in-Grant.result (with_database d u)) (sym c.in-Grant.is)
    (IsStep-IsPlain e u d n (machine.grant rel privileges to) c.grant-done.result c.plain-in-Grant.result c.store-in-Grant.view_is (IsQuiet-grant e n rel privileges to) c.requires.sound refl c.plain-in-Grant.ensures told)
