use Rattle.std.proofs.Common.{◌≡◌, ap, sym, ◌∙◌, ◌&&◌, ◌||◌, not, true, false, map, string_bytes}
use Rattle.std.specs.List.{list_any}
use Rattle.iv_algebra.specs.Evaluation.{holds}
use Rattle.iv_algebra.specs.Shapes.{condition_of}
use Rattle.iv_access.specs.Filters.{lets_through}
use Rattle.iv_roles.proofs.Lists.{list_any-map}
use Rattle.iv_access.proofs.filter.ReaderFilter.passes.Goals as goal

pub returns-then-some_holds : goal.returns-then-some_holds
returns-then-some_holds c =
    let row = c.args.row.now in
    let user = string_bytes c.self.inside.user in
    let some = sym (list_any-map (λ q. holds q user row) condition_of c.self.inside.permissive.items) in
    let fails = sym (list_any-map (λ q. not (holds q user row)) condition_of c.self.inside.restrictive.items) in
    let held : true ≡ list_any (λ q. holds q user row) (map condition_of c.self.inside.permissive.items) =
    sym c.if-some_holds.true ∙ c.some_holds.ensures ∙ (λ i. list_any (λ p. holds (condition_of p) (c.as_str.ensures.value i) row) (c.deref.ensures.value i)) ∙ some in
    let told : c.some_fails.result ≡ list_any (λ q. not (holds q user row)) (map condition_of c.self.inside.restrictive.items) =
    c.some_fails.ensures ∙ (λ i. list_any (λ p. not (holds (condition_of p) (c.as_str-then-some_holds.ensures.value i) row)) (c.deref-then-some_holds.ensures.value i)) ∙ fails in
    (λ i. sym c.if-self.false i || (held i && not (told i)))
    ∙ ap (λ f. lets_through f row) c.self.view_is

pub returns-else-some_holds : goal.returns-else-some_holds
returns-else-some_holds c =
    let row = c.args.row.now in
    let user = string_bytes c.self.inside.user in
    let some = sym (list_any-map (λ q. holds q user row) condition_of c.self.inside.permissive.items) in
    let held : false ≡ list_any (λ q. holds q user row) (map condition_of c.self.inside.permissive.items) =
    sym c.if-some_holds.false ∙ c.some_holds.ensures ∙ (λ i. list_any (λ p. holds (condition_of p) (c.as_str.ensures.value i) row) (c.deref.ensures.value i)) ∙ some in
    c.if-some_holds.false
    ∙ (λ i. sym c.if-self.false i || (held i && not (list_any (λ q. not (holds q user row)) (map condition_of c.self.inside.restrictive.items))))
    ∙ ap (λ f. lets_through f row) c.self.view_is
