-- What a sequence of steps that went well tells of each step.
use Rattle.std.proofs.Common.{◌≡◌, suc, arith, Bool, true, false, List, [], ◌∷◌, Option, Some, None, Result, Ok, Err, refl, subst}
use Rattle.std.specs.Prelude.{if◌then◌else◌}
use Rattle.std.specs.List.{All}
use Rattle.iv_bind.specs.Faults.{Fault, ◌>>=◌, through}
use Rattle.iv_rows.specs.Options.{if_some}

-- both steps went well
pub Ok-bind : {A B : Type 0} (r : Result A Fault) (f : A → Result B Fault) (y : B) → (r >>= f) ≡ Ok y → (x : A) × (r ≡ Ok x) × (f x ≡ Ok y)
Ok-bind (Ok x) f y h = (x, refl, h)
Ok-bind (Err e) f y h = cc

-- a test that answers a fault where it fails
pub Ok-then : {B : Type 0} (b : Bool) (r : Result B Fault) (e : Fault) (y : B) → (if b then r else Err e) ≡ Ok y → (b ≡ true) × (r ≡ Ok y)
Ok-then true r e y h = (refl, h)
Ok-then false r e y h = cc

-- a test that answers a fault where it holds
pub Ok-else : {B : Type 0} (b : Bool) (e : Fault) (r : Result B Fault) (y : B) → (if b then Err e else r) ≡ Ok y → (b ≡ false) × (r ≡ Ok y)
Ok-else true e r y h = cc
Ok-else false e r y h = (refl, h)

pub Ok-if_some : {A B : Type 0} (o : Option A) (e : Fault) (f : A → Result B Fault) (y : B) → if_some o (Err e) f ≡ Ok y → (x : A) × (o ≡ Some x) × (f x ≡ Ok y)
Ok-if_some None e f y h = cc
Ok-if_some (Some x) e f y h = (x, refl, h)

pub Ok-if_none : {A B : Type 0} (o : Option A) (r : Result B Fault) (e : A → Fault) (y : B) → if_some o r (λ x. Err (e x)) ≡ Ok y → (o ≡ None) × (r ≡ Ok y)
Ok-if_none None r e y h = (refl, h)
Ok-if_none (Some x) r e y h = cc

-- what each step keeps stands at the end
pub through-keeps : {A B : Type 0} (P : A → Type 0) (step : A → B → Result A Fault) → ((a : A) (b : B) (c : A) → P a → step a b ≡ Ok c → P c) → (a : A) (bs : List B) (c : A) → P a → through step a bs ≡ Ok c → P c
through-keeps {A} P step keeps a [] c p h = let e : a ≡ c = cc in subst P e p
through-keeps P step keeps a (b ∷ bs) c p h = let s = Ok-bind (step a b) (λ d. through step d bs) c h in through-keeps P step keeps s.0 bs c (keeps a b s.0 p s.1) s.2

pub all_head : {B : Type 0} (Q : B → Type 0) (b : B) (bs : List B) → All Q (b ∷ bs) → Q b
all_head Q b bs h = h 0 b (omega arith)

pub all_tail : {B : Type 0} (Q : B → Type 0) (b : B) (bs : List B) → All Q (b ∷ bs) → All Q bs
all_tail Q b bs h = λ k d lt. h (suc k) d (omega arith)
