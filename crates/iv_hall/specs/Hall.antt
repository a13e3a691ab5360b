-- What lists have of the clients by their numbers.
use Rattle.std.specs.Prelude.{◌≡◌, ◌≤◌, ◌<◌, ℕ, Bool, List, [], ◌∷◌, length, Some}
use Rattle.std.specs.List.{AllByRecursion}
use Rattle.iv_clients.specs.Clients.{Sub, client_at}
use Rattle.iv_clients.specs.Kept.{Kept, Places, is_following, is_told}
use Rattle.iv_hall.specs.Listing.{AreThose, is_so_at}
use Rattle.iv_hall.specs.Numbers.{Numbers}
use Rattle.iv_hall.specs.Readers.{Readers, readers_of}

-- the client of the number was told something that it has not taken, or is to go
abbrev pub is_told_at : Places → ℕ → Bool
is_told_at places m = is_so_at is_told places m

abbrev pub is_owed : Kept → Bool
is_owed k = k.owed

-- own numbers rise, up to the last that was given
abbrev pub AreNumbered : ℕ → List Sub → Type 0
AreNumbered given [] = Unit {0}
AreNumbered given (s ∷ ss) = (s.own ≤ given) × (AllByRecursion (λ (t : Sub). s.own < t.own) ss × AreNumbered given ss)

-- of each client
abbrev pub AreAllNumbered : Places → Type 0
AreAllNumbered places = (m : ℕ) (k : Kept) → client_at places m ≡ Some k → AreNumbered k.given k.subs

-- listed are those who are owed that this is all, those who were told something, and those who follow each feed, and nobody else
pub record IsHall (most : ℕ) (places : Places) (owing telling : Numbers) (reading : List Readers) : Type 0 where
  pub within : length places ≤ most
  pub owed_size : owing.size ≡ most
  pub told_size : telling.size ≡ most
  pub owed : AreThose is_owed owing.list places
  pub told : AreThose is_told telling.list places
  pub readers : (feed : ℕ) → AreThose (is_following feed) (readers_of reading feed) places
  pub numbered : AreAllNumbered places
