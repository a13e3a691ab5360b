use Rattle.std.proofs.Common.{◌≡◌, Result, Ok, Err, refl}
use Rattle.std.specs.Prelude.{IfOk}
use Rattle.iv_bind.specs.Binding.{bound}
use Rattle.iv_bind.specs.BoundTexts.{bound_query}
use Rattle.iv_bind.specs.Sound.{IsSoundView}
use Rattle.iv_bind.proofs.Whole.{IsSoundView-bound, IsSoundView-bound_query}
use Rattle.iv_bind.proofs.laws.bound_queries_are_sound.Goals as goal

if_ok : {X E : Type 0} (P : X → Type 0) (r : Result X E) → ((x : X) → r ≡ Ok x → P x) → IfOk r P
if_ok P (Ok x) h = h x refl
if_ok P (Err e) h = tt

pub returns : goal.returns
returns c = record {
  tree = λ es q s w. if_ok (λ a. IsSoundView es a) (bound es q) (λ a h. IsSoundView-bound es q a s w h);
  text = λ es text s w. if_ok (λ a. IsSoundView es a) (bound_query es text) (λ a h. IsSoundView-bound_query es text a s w h);
}
