-- Lists of other lengths are not of the same kinds.
use Rattle.std.proofs.Common.{◌≡◌, suc, Bool, true, false, ◌&&◌, List, [], ◌∷◌, length, refl, sym, ap, ◌∙◌}
use Rattle.iv_rows.specs.Columns.{Column, kinds_of}
use Rattle.iv_algebra.specs.Predicates.{kind_eq}
use Rattle.iv_algebra.specs.Fits.{kinds_eq}

and_false : (b : Bool) → (b && false) ≡ false
and_false true = refl
and_false false = refl

pub kinds_eq-not_alike : (a b : List Column) → (length a ≡ length b → ⊥) → false ≡ kinds_eq (kinds_of a) (kinds_of b)
kinds_eq-not_alike [] [] h = absurd (h refl)
kinds_eq-not_alike [] (d ∷ ds) h = refl
kinds_eq-not_alike (c ∷ cs) [] h = refl
kinds_eq-not_alike (c ∷ cs) (d ∷ ds) h = sym (and_false (kind_eq c.kind d.kind)) ∙ ap (λ b. kind_eq c.kind d.kind && b) (kinds_eq-not_alike cs ds (λ e. h (ap suc e)))
