use Rattle.std.proofs.Common.{◌∙◌, ◌∷◌, ap, append-nil, refl}
use Rattle.iv_door.proofs.said.text_in.Goals as goal

pub returns-in_err-text-clause-none : goal.returns-in_err-text-clause-none
returns-in_err-text-clause-none c = λ _ t w h. c.in_err-text.ensures.none refl t (ap (λ z. 123 ∷ z) (append-nil t) ∙ h)
