-- Lists of the clients of whom something is so, and what is done to clients one after another.
use Rattle.std.specs.Prelude.{◌≡◌, ℕ, Bool, true, false, List, [], ◌∷◌, Option}
use Rattle.std.specs.List.{Contains}
use Rattle.iv_rows.specs.Options.{if_some}
use Rattle.iv_clients.specs.Clients.{at_client, client_at}
use Rattle.iv_clients.specs.Kept.{Kept, Places}

-- it is so of the client of the number; of nobody it is
abbrev pub is_so_at : (Kept → Bool) → Places → ℕ → Bool
is_so_at p places m = if_some (client_at places m) false p

-- the numbers of all of whom it is so, and no others
pub record AreThose (p : Kept → Bool) (ns : List ℕ) (places : Places) : Type 0 where
  pub all : (m : ℕ) → is_so_at p places m ≡ true → Contains ns m
  pub only : (m : ℕ) → Contains ns m → is_so_at p places m ≡ true

-- those of the numbers are changed, one after another
abbrev pub walked : {C : Type 0} → (C → C) → List ℕ → List (Option C) → List (Option C)
walked f [] xs = xs
walked f (n ∷ ns) xs = walked f ns (at_client n f xs)
