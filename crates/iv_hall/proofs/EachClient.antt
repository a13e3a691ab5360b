-- What is done to each client.
use Rattle.std.proofs.Common.{◌≡◌, List, [], ◌∷◌, Option, Some, None, option_map, refl, ap}
use Rattle.iv_clients.specs.Clients.{at_all}

-- the same is done to each
pub at_all-same : {C : Type 0} (f h : C → C) → ((c : C) → f c ≡ h c) → (xs : List (Option C)) → at_all f xs ≡ at_all h xs
at_all-same f h e xs i = at_all (λ c. e c i) xs

still : {C : Type 0} (f : C → C) → ((c : C) → c ≡ f c) → (o : Option C) → o ≡ option_map f o
still f h None = refl
still f h (Some c) = ap Some (h c)

-- nothing is done to any
pub at_all-itself : {C : Type 0} (f : C → C) → ((c : C) → c ≡ f c) → (xs : List (Option C)) → xs ≡ at_all f xs
at_all-itself f h [] = refl
at_all-itself f h (o ∷ os) = λ i. still f h o i ∷ at_all-itself f h os i

both : {C : Type 0} (f h : C → C) (o : Option C) → option_map f (option_map h o) ≡ option_map (λ c. f (h c)) o
both f h None = refl
both f h (Some c) = refl

-- one thing after another is done to each
pub at_all-at_all : {C : Type 0} (f h : C → C) (xs : List (Option C)) → at_all f (at_all h xs) ≡ at_all (λ c. f (h c)) xs
at_all-at_all f h [] = refl
at_all-at_all f h (o ∷ os) = λ i. both f h o i ∷ at_all-at_all f h os i
