use Rattle.std.proofs.Common.{◌≡◌, ◌∙◌, ◌++◌, ◌∷◌, [], cond, eqb, false, ap, sym}
use Rattle.std.specs.List.{list_any}
use Rattle.iv_hall.proofs.FeedReaders.{IsDistinct-push_number, with_number}
use Rattle.iv_hall.proofs.readers.Readers.insert.Goals as goal

pub invariant_of-self : goal.invariant_of-self
invariant_of-self c =
    let none : list_any (eqb c.args.number) c.self.inside.numbers.items ≡ false =
    ap (list_any (eqb c.args.number)) (sym c.deref.ensures.value) ∙ (sym c.has_number.ensures ∙ c.if-not-has_number.true) in
    rw c.in_ok-push.ensures.items (IsDistinct-push_number c.self.inside.numbers.items c.args.number c.self.invariant none)

pub returns-in_ok-push : goal.returns-in_ok-push
returns-in_ok-push c =
    let none : list_any (eqb c.args.number) c.self.inside.numbers.items ≡ false =
    ap (list_any (eqb c.args.number)) (sym c.deref.ensures.value) ∙ (sym c.has_number.ensures ∙ c.if-not-has_number.true) in
    ap (λ z. record { feed = c.self.inside.feed; numbers = z }) (c.in_ok-push.ensures.items
    ∙ ap (λ b. cond b c.self.inside.numbers.items (c.self.inside.numbers.items ++ c.args.number ∷ [])) (sym none))
    ∙ ap (λ r. record { feed = r.feed; numbers = with_number c.args.number r.numbers }) c.self.view_is
