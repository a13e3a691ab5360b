-- A loop that reads the items of a list one after another.
use Rattle.std.proofs.Common.{◌≡◌, ℕ, ◌+◌, ◌<◌, ◌≤◌, List, [], ◌∷◌, ◌++◌, length, drop, get_or, Option, Some, None, option_map, option_and_then, ap, ◌∙◌, sym, refl, add-one, append-nil, append_assoc, drop-cons}
use Rattle.std.proofs.lemmas.List.{drop_all}
use Rattle.serde_json.specs.Data.{Data}
use Rattle.std.specs.declared.alloc.Global.{Global}
use Rattle.json.specs.declared.value.Value.{Value}
use Rattle.iv_request.specs.Documents.{value_data, items_data}
use Rattle.iv_request.specs.Request.{each}

-- what was read, and behind it what the rest is
abbrev pub behind : {X : Type 0} → List X → Option (List X) → Option (List X)
behind xs rest = option_map (λ ys. xs ++ ys) rest

pub behind-none : {X : Type 0} (o : Option (List X)) → o ≡ behind [] o
behind-none None = refl
behind-none (Some ys) = refl

pub none_read : {X : Type 0} (f : Data → Option X) (vs : List (Value Global)) → each f (items_data vs) ≡ behind [] (each f (items_data vs))
none_read f vs = behind-none (each f (items_data vs))

-- the item at a place, and those behind it
each_at : {X : Type 0} (f : Data → Option X) (vs : List (Value Global)) (i : ℕ) (v : Value Global) → i < length vs → v ≡ get_or vs i v → each f (items_data (drop i vs)) ≡ option_and_then (λ x. option_map (λ xs. x ∷ xs) (each f (items_data (drop (i + 1) vs)))) (f (value_data v))
each_at f vs i v h e =
    ap (λ ws. each f (items_data ws)) (drop-cons vs i v h)
    ∙ (λ j. option_and_then (λ x. option_map (λ xs. x ∷ xs) (each f (items_data (drop (sym (add-one i) j) vs)))) (f (value_data (sym e j))))

pub behind-cons : {X : Type 0} (xs : List X) (x : X) (o : Option (List X)) → behind xs (option_map (λ ys. x ∷ ys) o) ≡ behind (xs ++ x ∷ []) o
behind-cons xs x None = refl
behind-cons xs x (Some ys) = ap Some (sym (append_assoc xs (x ∷ []) ys))

-- the item is nothing
pub stops : {X : Type 0} (f : Data → Option X) (vs : List (Value Global)) (xs : List X) (i : ℕ) (v : Value Global) → i < length vs → v ≡ get_or vs i v → each f (items_data vs) ≡ behind xs (each f (items_data (drop i vs))) → None ≡ f (value_data v) → None ≡ each f (items_data vs)
stops f vs xs i v h e b k = sym (b ∙ ap (behind xs) (each_at f vs i v h e ∙ ap (option_and_then (λ x. option_map (λ xs. x ∷ xs) (each f (items_data (drop (i + 1) vs))))) (sym k)))

-- the item is x
pub each-drop_next : {X : Type 0} (f : Data → Option X) (vs : List (Value Global)) (xs : List X) (i : ℕ) (v : Value Global) (x : X) → i < length vs → v ≡ get_or vs i v → each f (items_data vs) ≡ behind xs (each f (items_data (drop i vs))) → Some x ≡ f (value_data v) → each f (items_data vs) ≡ behind (xs ++ x ∷ []) (each f (items_data (drop (i + 1) vs)))
each-drop_next f vs xs i v x h e b k =
    b ∙ ap (behind xs) (each_at f vs i v h e ∙ ap (option_and_then (λ x. option_map (λ xs. x ∷ xs) (each f (items_data (drop (i + 1) vs))))) (sym k))
    ∙ behind-cons xs x (each f (items_data (drop (i + 1) vs)))

-- there are no more
pub all_read : {X : Type 0} (f : Data → Option X) (vs : List (Value Global)) (xs : List X) (i : ℕ) → length vs ≤ i → each f (items_data vs) ≡ behind xs (each f (items_data (drop i vs))) → Some xs ≡ each f (items_data vs)
all_read f vs xs i h b = sym (b ∙ ap (λ ws. behind xs (each f (items_data ws))) (drop_all i vs h) ∙ ap Some (append-nil xs))
