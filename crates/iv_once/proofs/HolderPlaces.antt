-- A holder is taken out and put back with what is kept of it.
use Rattle.std.proofs.Common.{◌≡◌, ℕ, ◌+◌, Bool, true, false, cond, List, Option, Some, None, is_some, refl, ap, ◌∙◌, arith}
use Rattle.std.specs.Prelude.{bytes_eq}
use Rattle.std.specs.Map.{update}
use Rattle.iv_once.specs.Names.{Own}
use Rattle.iv_once.proofs.Lists.{bytes_eq-itself}

pub put_back : (f g : List ℕ → Option Own) (holder : List ℕ) (o : Own) (h : List ℕ) → g h ≡ update bytes_eq f holder None h → update bytes_eq g holder (Some o) h ≡ update bytes_eq f holder (Some o) h
put_back f g holder o h = by (bytes_eq holder h)
  where
    by : (b : Bool) → g h ≡ cond b None (f h) → cond b (Some o) (g h) ≡ cond b (Some o) (f h)
    by true e = refl
    by false e = e

pub len_back : (f g : List ℕ → Option Own) (holder : List ℕ) (n m k : ℕ) → g holder ≡ update bytes_eq f holder None holder → m + (cond (is_some (f holder)) 1 0) ≡ n → k ≡ cond (is_some (g holder)) m (m + 1) → k ≡ cond (is_some (f holder)) n (n + 1)
len_back f g holder n m k e l t =
    by (is_some (f holder)) l (t ∙ ap (λ o. cond (is_some o) m (m + 1)) (e ∙ ap (λ b. cond b None (f holder)) (bytes_eq-itself holder)))
  where
    by : (b : Bool) → m + (cond b 1 0) ≡ n → k ≡ m + 1 → k ≡ cond b n (n + 1)
    by true l t = omega (arith, l, t)
    by false l t = omega (arith, l, t)
