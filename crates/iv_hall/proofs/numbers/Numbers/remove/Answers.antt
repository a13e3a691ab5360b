use Rattle.std.proofs.Common.{◌≡◌, ◌∙◌, ◌<◌, ◌+◌, ◌-◌, length, get_or, take, arith, refl, subst, sym}
use Rattle.std.specs.List.{Contains}
use Rattle.std.proofs.lemmas.List.{get_or_default}
use Rattle.iv_hall.specs.Numbers.{HasLost}
use Rattle.iv_hall.proofs.NumberPlaces.{HasLost-IsExchanged, not_Contains-IsOrder}
use Rattle.iv_hall.proofs.numbers.Numbers.remove.Goals as goal

pub returns-then-at-self : goal.returns-then-at-self
returns-then-at-self c =
    let w = c.self.invariant.1 in
    let ln : c.args.number < length c.self.inside.order.items = omega arith in
    let lp : c.args.number < length c.self.inside.places.items = omega (arith, ln, w.size) in
    let at : get_or c.self.inside.places.items c.args.number 0 ≡ c.index-at.result.now =
    get_or_default c.self.inside.places.items c.args.number 0 _ lp ∙ sym c.index-at.ensures in
    let one : c.self.inside.count - 1 + 1 ≡ c.self.inside.count = omega arith in
    let within = c.self.invariant.0 in
    subst (λ z. HasLost c.args.number z (record { list = take (c.self.inside.count - 1) c.exchange.new.order.items; size = length c.exchange.new.order.items }))
    c.self.view_is
    (subst (λ k. HasLost c.args.number (record { list = take k c.self.inside.order.items; size = length c.self.inside.order.items })
    (record { list = take (c.self.inside.count - 1) c.exchange.new.order.items; size = length c.exchange.new.order.items })) one
    (HasLost-IsExchanged c.self.inside.order.items c.self.inside.places.items _ _ (c.self.inside.count - 1) c.args.number w (omega (arith, within)) ln
    (omega (arith, at))
    c.exchange.ensures))

pub returns-else-at-self : goal.returns-else-at-self
returns-else-at-self c =
    let w = c.self.invariant.1 in
    let ln : c.args.number < length c.self.inside.order.items = omega arith in
    let lp : c.args.number < length c.self.inside.places.items = omega (arith, ln, w.size) in
    let at : get_or c.self.inside.places.items c.args.number 0 ≡ c.index-at.result.now =
    get_or_default c.self.inside.places.items c.args.number 0 _ lp ∙ sym c.index-at.ensures in
    record {
      size = refl;
      gone = λ h. not_Contains-IsOrder c.self.inside.order.items c.self.inside.places.items c.self.inside.count c.args.number w c.self.invariant.0
          (λ l. omega (arith, at))
          (subst (λ z. Contains z.list c.args.number) (sym c.self.view_is) h);
      kept = λ m ne h. h;
      only = λ m h. h;
    }
