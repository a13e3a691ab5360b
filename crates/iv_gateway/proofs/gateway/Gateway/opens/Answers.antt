use Rattle.std.proofs.Common.{◌≡◌, ◌∙◌, Option, Some, None, is_some, option_map, refl, ap}
use Rattle.iv_clients.specs.Tokens.{role_opened}
use Rattle.iv_gateway.proofs.gateway.Gateway.opens.Goals as goal

some_mapped : {X Y : Type 0} (f : X → Y) (o : Option X) → is_some o ≡ is_some (option_map f o)
some_mapped f None = refl
some_mapped f (Some x) = refl

pub returns : goal.returns
returns c = λ g b lives.
    c.is_some.ensures ∙ (some_mapped (λ role. role.now) c.role_opened.result
    ∙ ap is_some (c.role_opened.ensures ∙ (λ i. role_opened ((c.deref.ensures.value ∙ (b.alive lives).tokens) i) (c.digest-digest.ensures i))))
