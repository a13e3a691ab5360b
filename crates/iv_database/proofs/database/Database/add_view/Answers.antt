use Rattle.std.proofs.Common.{◌≡◌, ◌∙◌, ◌⊎◌, Some, ap, false, length, subst}
use Rattle.std.specs.Prelude.{string_bytes}
use Rattle.iv_access.specs.Faults.{add_relation_fault}
use Rattle.iv_access.specs.declared.fault.AccessFault.TheVariants.{Memory}
use Rattle.iv_access.specs.Rights.{Name}
use Rattle.iv_bind.specs.Catalogs.{bound_of, numbered}
use Rattle.iv_database.specs.Database.{Database}
use Rattle.iv_database.proofs.NewView.{view_stops}
use Rattle.iv_database.proofs.RightsRefusals.{numbered-length}
use Rattle.iv_database.proofs.database.Database.add_view.Goals as goal

pub returns-in-Err-clause-added : goal.returns-in-Err-clause-added
returns-in-Err-clause-added c =
    let s = c.self.inside in
    let u : Database = record { cap = s.cap; known = s.access; catalog = s.catalog; sessions = s.sessions.items; tables = s.tables } in
    let x = c.in-Err.fault in
    let name = string_bytes c.args.name in
    let owner = c.args.owner.now in
    view_stops c.args.self.now c.requires.stored c.args.acting.0 name owner c.requires.admin c.requires.owner c.requires.free x c.stop_of.result (bound_of c.args.bound) _
    (subst (λ (v : Database). (x ≡ Memory) ⊎ (add_relation_fault v.known c.args.acting.0 name owner false ≡ Some x)) c.self.view_is
    (subst (λ (n : Name). (x ≡ Memory) ⊎ (add_relation_fault u.known c.args.acting.0 n owner false ≡ Some x)) c.as_str.ensures.value c.in-Err.ensures.err_when))
    c.stop_of.ensures (ap (λ k. record u { known = k }) c.in-Err.ensures.unchanged ∙ c.self.view_is)

pub add_view-requires-clause-number : goal.add_view-requires-clause-number
add_view-requires-clause-number c =
    ap (λ (v : Database). numbered v.catalog c.in-Ok.rel.0) c.self.view_is
    ∙ numbered-length c.args.self.now c.requires.stored c.in-Ok.rel.0 (c.in-Ok.ensures.number ∙ ap (λ (v : Database). length v.known.relations) c.self.view_is)
