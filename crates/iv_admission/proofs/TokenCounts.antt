-- A count that is put, beside all others.
use Rattle.std.proofs.Common.{◌≡◌, ℕ, Bool, true, false, cond, List, Option, refl, ap, ◌∙◌}
use Rattle.std.specs.Prelude.{bytes_eq, if◌then◌else◌, unwrap_or}
use Rattle.std.specs.Global.{Vec}
use Rattle.std.specs.Ordering.{nat_cmp}
use Rattle.std.specs.declared.cmp.Ordering.{Ordering}
use Rattle.std.specs.Cmp.Lexicographic.{slice_cmp}
use Rattle.std.specs.BTreeMap.{BTreeMap, UpdatesBy, get}
use Rattle.std.proofs.lemmas.Map.Text.{is_eq-slice_cmp}
use Rattle.iv_admission.specs.ByToken.{are_of, with_count}

abbrev vec_cmp : Vec ℕ → Vec ℕ → Ordering
vec_cmp x y = slice_cmp nat_cmp x.items y.items

chosen : (b : Bool) (w o : Option ℕ) → unwrap_or (cond b w o) 0 ≡ (if b then unwrap_or w 0 else unwrap_or o 0)
chosen true w o = refl
chosen false w o = refl

pub with_count-UpdatesBy : (d : List ℕ) (n : ℕ) (w : Option ℕ) (m k : BTreeMap (Vec ℕ) ℕ) → unwrap_or w 0 ≡ n → UpdatesBy vec_cmp (λ x. slice_cmp nat_cmp d x.items) m k w
    → (q : Vec ℕ) → are_of k q ≡ with_count d n m q
with_count-UpdatesBy d n w m k e u q =
    ap (λ (z : Option ℕ). unwrap_or z 0) (u.0 q)
    ∙ (chosen _ w (get vec_cmp m q)
    ∙ (ap (λ (z : Bool). if z then unwrap_or w 0 else are_of m q) (is_eq-slice_cmp d q.items)
    ∙ ap (λ (z : ℕ). if bytes_eq d q.items then z else are_of m q) e))
