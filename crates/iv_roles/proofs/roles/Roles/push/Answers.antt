use Rattle.std.proofs.Common.{◌≡◌, ap, sym, ◌∙◌, ◌++◌, ◌∷◌, [], map, cond, false, bytes_eq, string_bytes, subst}
use Rattle.std.specs.List.{position, list_any}
use Rattle.std.proofs.lemmas.List.{map-append}
use Rattle.iv_roles.proofs.Lists.{list_any-no_position-map}
use Rattle.iv_roles.proofs.roles.Roles.push.Goals as goal

pub returns-clause-ok : goal.returns-clause-ok
returns-clause-ok c =
    let keys = c.self.inside.names.keys in
    let text = c.in_ok-text.text in
    let e : string_bytes text ≡ c.args.name.now = c.in_ok-text.ensures.ok in
    let none : list_any (λ k. bytes_eq c.args.name.now (string_bytes k)) keys ≡ false =
    list_any-no_position-map (bytes_eq c.args.name.now) string_bytes keys (ap (position (bytes_eq c.args.name.now)) c.self.view_is ∙ c.requires.new) in
    let new : list_any (λ k. bytes_eq (string_bytes text) (string_bytes k)) keys ≡ false =
    subst (λ n. list_any (λ k. bytes_eq n (string_bytes k)) keys ≡ false) (sym e) none in
    ap (map string_bytes) (c.in_ok-insert.ensures.keys ∙ ap (λ b. cond b keys (keys ++ text ∷ [])) new)
    ∙ map-append string_bytes keys (text ∷ [])
    ∙ (λ i. c.self.view_is i ++ e i ∷ [])
