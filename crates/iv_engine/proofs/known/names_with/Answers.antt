use Rattle.std.proofs.Common.{◌≡◌, ◌∙◌, ◌∷◌, [], ◌++◌, Bool, Vec, Global, Bor, ap, cond, map, sym}
use Rattle.std.proofs.lemmas.List.{append-nil, map-append}
use Rattle.iv_access.specs.Rights.{Name}
use Rattle.iv_engine.specs.Looked.{has_named}
use Rattle.iv_engine.proofs.NameLookup.{filter-relation_name}
use Rattle.iv_engine.proofs.known.names_with.Goals as goal
use Rattle.iv_engine.proofs.known.names_with.Goals.{then-has_named+in_ok-push-in-Some, else-has_named}

pub loop-number-preserved : goal.loop-number-preserved
loop-number-preserved c =
    let name = c.in-Some.name.now in
    let before = map (λ (n : Bor Name). n.now) c.loop-number.names.items in
    let told : (b : Bool) → c.has_named.result ≡ b → before ++ cond b (name ∷ []) [] ≡ _ = λ b is.
    ap (λ x. before ++ cond x (name ∷ []) []) (sym is ∙ c.has_named.ensures)
    ∙ ap (λ ns. ns ++ cond (has_named c.args.access.now c.args.role.0 name) (name ∷ []) []) c.loop-number.invariant
    ∙ sym (filter-relation_name (has_named c.args.access.now c.args.role.0) c.args.access.now.relations c.loop-number.number name c.in-Some.ensures) in
    elim c.if-has_named.branch [
      | then-has_named+in_ok-push-in-Some w ↦
          ap (λ (v : Vec (Bor Name) Global). map (λ n. n.now) v.items) w.names-is
          ∙ ap (map (λ (n : Bor Name). n.now)) w.in_ok-push-in-Some.ensures.items
          ∙ map-append (λ (n : Bor Name). n.now) c.loop-number.names.items (c.in-Some.name ∷ [])
          ∙ told _ w.if-has_named.true
      | else-has_named w ↦
          ap (λ (v : Vec (Bor Name) Global). map (λ n. n.now) v.items) w.names-is ∙ sym (append-nil before) ∙ told _ w.if-has_named.false
    ]
