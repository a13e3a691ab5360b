-- What is there, and what is not.
use Rattle.std.proofs.Common.{◌≡◌, true, false, Some, None, ap}
use Rattle.std.specs.Prelude.{is_some, unwrap_or}

apart : false ≡ true → ⊥
apart e = cc

pub not_Some-None : {A : Type 0} (x : A) → None ≡ Some x → ⊥
not_Some-None x e = apart (ap is_some e)

pub same_Some : {A : Type 0} (x y : A) → Some x ≡ Some y → x ≡ y
same_Some x y e = ap (λ o. unwrap_or o x) e
