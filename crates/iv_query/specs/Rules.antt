-- What the rules of queries share.
use Rattle.std.specs.Prelude.{◌≡◌, ℕ, false, List, ◌∷◌, Option, Some, None}
use Rattle.iv_query.specs.declared.fault.Fault.{Fault}
use Rattle.iv_query.specs.declared.token.Symbol.{Symbol}
use Rattle.iv_query.specs.Tokens.{Tok, Fixed, Name, starts_name, unexpected}
use Rattle.iv_query.specs.Trees.{NameTree, Called}

-- "s": the symbol comes first, at a place, and the rest after it
pub data First (s : Symbol) : ℕ → List Tok → List Tok → Type 0 where
  first : {p : ℕ} {ts : List Tok} → First s p (Fixed s p ∷ ts) ts

-- name
pub data IsName : List Tok → NameTree → List Tok → Type 0 where
  name_is : {n : List ℕ} {p : ℕ} {ts : List Tok} → IsName (Name n p ∷ ts) (Called n p) ts

pub data NameFault (stop : Fault) : List Tok → Fault → Type 0 where
  no_name : {ts : List Tok} → starts_name ts ≡ false → NameFault stop ts (unexpected stop ts)

-- { sign item }: each item is joined to what was read before it, which may say how it is read
pub data Many {A B : Type 0} (sign : List Tok → Option (List Tok)) (Item : A → List Tok → B → List Tok → Type 0)
    (join : A → B → A) : A → List Tok → A → List Tok → Type 0 where
  many_end : {a : A} {ts : List Tok} → sign ts ≡ None → Many sign Item join a ts a ts
  many_more : {a t : A} {b : B} {ts us vs ws : List Tok}
      → sign ts ≡ Some us → Item a us b vs → Many sign Item join (join a b) vs t ws → Many sign Item join a ts t ws

pub data ManyFault {A B : Type 0} (sign : List Tok → Option (List Tok)) (Item : A → List Tok → B → List Tok → Type 0)
    (ItemFault : A → List Tok → Fault → Type 0) (join : A → B → A) : A → List Tok → Fault → Type 0 where
  many_first : {a : A} {ts us : List Tok} {f : Fault} → sign ts ≡ Some us → ItemFault a us f → ManyFault sign Item ItemFault join a ts f
  many_later : {a : A} {b : B} {ts us vs : List Tok} {f : Fault}
      → sign ts ≡ Some us → Item a us b vs → ManyFault sign Item ItemFault join (join a b) vs f
      → ManyFault sign Item ItemFault join a ts f
