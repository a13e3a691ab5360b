use Rattle.std.proofs.Common.{◌≡◌, ◌∙◌, ◌<◌, ◌+◌, take, length, get_or, inl, arith, refl, subst, sym}
use Rattle.std.specs.List.{Contains}
use Rattle.std.proofs.lemmas.List.{get_or_default}
use Rattle.iv_hall.specs.Numbers.{HasGained}
use Rattle.iv_hall.proofs.NumberPlaces.{HasGained-IsExchanged, Contains-IsOrder}
use Rattle.iv_hall.proofs.numbers.Numbers.insert.Goals as goal

pub returns-then-at-self : goal.returns-then-at-self
returns-then-at-self c =
    let w = c.self.invariant.1 in
    let ln : c.args.number < length c.self.inside.order.items = omega arith in
    let lp : c.args.number < length c.self.inside.places.items = omega (arith, ln, w.size) in
    let at : get_or c.self.inside.places.items c.args.number 0 ≡ c.index-at.result.now =
    get_or_default c.self.inside.places.items c.args.number 0 _ lp ∙ sym c.index-at.ensures in
    let below = (w.placed c.args.number ln).0 in
    subst (λ z. HasGained c.args.number z (record {
      list = take (c.self.inside.count + 1) c.exchange.new.order.items;
      size =
          length c.exchange.new.order.items;
    })) c.self.view_is
    (HasGained-IsExchanged c.self.inside.order.items c.self.inside.places.items _ _ c.self.inside.count c.args.number w (omega (arith, at, below)) ln
    (omega (arith, at))
    c.exchange.ensures)

pub returns-else-at-self : goal.returns-else-at-self
returns-else-at-self c =
    let w = c.self.invariant.1 in
    let ln : c.args.number < length c.self.inside.order.items = omega arith in
    let lp : c.args.number < length c.self.inside.places.items = omega (arith, ln, w.size) in
    let at : get_or c.self.inside.places.items c.args.number 0 ≡ c.index-at.result.now =
    get_or_default c.self.inside.places.items c.args.number 0 _ lp ∙ sym c.index-at.ensures in
    record {
      size = refl;
      put = λ h. subst (λ z. Contains z.list c.args.number) c.self.view_is
          (Contains-IsOrder c.self.inside.order.items c.self.inside.places.items c.self.inside.count c.args.number w c.self.invariant.0 ln (omega (arith, at)));
      kept = λ m h. h;
      only = λ m h. inl h;
    }
