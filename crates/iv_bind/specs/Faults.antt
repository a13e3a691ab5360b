-- Steps that may fail, one after the other, and what a function that takes such steps answers.
use Rattle.std.specs.Prelude.{◌≡◌, ℕ, List, [], ◌∷◌, Result, Ok, Err}
use Rattle.iv_bind.specs.declared.fault.BindWhy.{BindWhy}
use Rattle.iv_bind.specs.declared.fault.BindFault.{BindFault}
use Rattle.iv_bind.specs.declared.fault.BindFault.TheVariants as faults

-- a fault: its place in the text, and its reason
pub data Fault : Type 0 where
  FaultAt : ℕ → BindWhy → Fault

infixl 10 ◌>>=◌
abbrev pub ◌>>=◌ : {A B : Type 0} → Result A Fault → (A → Result B Fault) → Result B Fault
(Ok x) >>= f = f x
(Err e) >>= f = Err e

-- a step for each item, from the left
abbrev pub through : {A B : Type 0} → (A → B → Result A Fault) → A → List B → Result A Fault
through step a [] = Ok a
through step a (b ∷ bs) = step a b >>= λ c. through step c bs

-- ---- what a function answers, seen by view, is what the steps give, unless memory ran out

abbrev pub Fails : {Y : Type 0} → BindFault → Result Y Fault → Type 0
Fails faults.Memory steps = Unit {0}
Fails (faults.At p w) steps = steps ≡ Err (FaultAt p w)

abbrev pub Gives : {X Y : Type 0} → (X → Y) → Result X BindFault → Result Y Fault → Type 0
Gives view (Ok x) steps = steps ≡ Ok (view x)
Gives view (Err e) steps = Fails e steps
