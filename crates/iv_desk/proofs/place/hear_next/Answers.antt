use Rattle.std.proofs.Common.{◌≡◌, ◌∙◌, sym, subst, false}
use Rattle.iv_peer.specs.Hearing.{IsHeard}
use Rattle.iv_desk.specs.Front.{is_held}
use Rattle.iv_desk.specs.Desks.{IsTextNext}
use Rattle.iv_desk.proofs.OneNumber.{IsHearing-Other, IsTextNext-Text, IsServer-IsHearing, IsHeardOut-IsWaiting, IsHeardOut-is_held, IsHeardOut-over}
use Rattle.iv_desk.proofs.place.hear_next.Goals as goal

pub returns-then-is_over : goal.returns-then-is_over
returns-then-is_over c = λ g s w. IsHeardOut-over g c.args.at s c.args.gateway.now c.args.place.now w (sym c.is_over.ensures ∙ c.if-is_over.true)

pub returns-then-is_held : goal.returns-then-is_held
returns-then-is_held c = λ g s w. IsHeardOut-is_held g c.args.at s c.args.gateway.now c.args.place.now w (sym c.is_over.ensures ∙ c.if-is_over.false)
    (sym (c.is_held.ensures w.now w.socket w.gate w.alive w.place) ∙ c.if-is_held.true)

pub returns-in-Ok-Nothing : goal.returns-in-Ok-Nothing
returns-in-Ok-Nothing c = λ g s w.
    let serves = IsServer-IsHearing c.sockets_carry_what_is_told.ensures.serves g c.args.at s c.args.gateway.now c.args.place.now w in
    IsHeardOut-IsWaiting g c.args.at s c.args.gateway.now c.args.place.now c.hear.new.self w
    (subst (λ h. IsHeard h c.args.place.now.peer c.hear.new.self) c.in-Ok-Nothing.field-0-is (c.in-Ok-Nothing.ensures serves))

pub returns-in-Ok-Other : goal.returns-in-Ok-Other
returns-in-Ok-Other c = λ g s w.
    let serves = IsServer-IsHearing c.sockets_carry_what_is_told.ensures.serves g c.args.at s c.args.gateway.now c.args.place.now w in
    IsHearing-Other c.sockets_carry_what_is_told.ensures.carries g c.args.at s c.args.gateway.now c.args.place.now c.hear.new.self w
    (subst (λ h. IsHeard h c.args.place.now.peer c.hear.new.self) c.in-Ok-Other.field-0-is (c.in-Ok-Other.ensures serves))

pub returns : goal.returns
returns c = λ g s w.
    let serves = IsServer-IsHearing c.sockets_carry_what_is_told.ensures.serves g c.args.at s c.args.gateway.now c.args.place.now w in
    let heard = subst (λ h. IsHeard h c.args.place.now.peer c.hear.new.self) c.in-Ok-Text.field-0-is (c.in-Ok-Text.ensures serves) in
    let free : is_held w.now c.args.at w.socket ≡ false = sym (c.is_held.ensures w.now w.socket w.gate w.alive w.place) ∙ c.if-is_held.false in
    let next = IsTextNext-Text g c.args.at s c.args.gateway.now c.args.place.now c.in-Ok-Text.text c.hear.new.self w free heard in
    c.in-Ok.ensures g s (subst (λ t. IsTextNext g c.args.at s t c.args.gateway.now (record c.args.place.now { peer = c.hear.new.self }))
    (sym c.as_bytes.ensures.value) next)
