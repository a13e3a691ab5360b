-- Some of the numbers below a size, each once.
use Rattle.std.specs.Prelude.{◌≡◌, ◌<◌, ◌⊎◌, ℕ, Bool, true, List, length, slice_index}
use Rattle.std.specs.List.{Contains}

pub record Numbers : Type 0 where
  pub list : List ℕ
  pub size : ℕ

-- one number more, if it is below the size
pub record HasGained (n : ℕ) (old new : Numbers) : Type 0 where
  pub size : new.size ≡ old.size
  pub put : n < old.size → Contains new.list n
  pub kept : (m : ℕ) → Contains old.list m → Contains new.list m
  pub only : (m : ℕ) → Contains new.list m → Contains old.list m ⊎ (m ≡ n)

-- all numbers of a list more
pub record HasGainedAll (ns : List ℕ) (old new : Numbers) : Type 0 where
  pub size : new.size ≡ old.size
  pub put : (m : ℕ) → m < old.size → Contains ns m → Contains new.list m
  pub kept : (m : ℕ) → Contains old.list m → Contains new.list m
  pub only : (m : ℕ) → Contains new.list m → Contains old.list m ⊎ Contains ns m

-- one number less
pub record HasLost (n : ℕ) (old new : Numbers) : Type 0 where
  pub size : new.size ≡ old.size
  pub gone : Contains new.list n → ⊥
  pub kept : (m : ℕ) → (m ≡ n → ⊥) → Contains old.list m → Contains new.list m
  pub only : (m : ℕ) → Contains new.list m → Contains old.list m

-- of some of the numbers those are in of which it is so, if they are below the size, and no others; all the rest are as before
pub record AreSet (which : ℕ → Type 0) (is : ℕ → Bool) (old new : Numbers) : Type 0 where
  pub size : new.size ≡ old.size
  pub put : (m : ℕ) → which m → is m ≡ true → m < old.size → Contains new.list m
  pub only : (m : ℕ) → which m → Contains new.list m → is m ≡ true
  pub kept : (m : ℕ) → (which m → ⊥) → Contains old.list m → Contains new.list m
  pub others : (m : ℕ) → (which m → ⊥) → Contains new.list m → Contains old.list m

-- ---- how they are kept

-- each number has a place, and each place its number
pub record IsOrder (order places : List ℕ) : Type 0 where
  pub size : length places ≡ length order
  pub placed : (m : ℕ) → m < length order → (slice_index places m < length order) × (slice_index order (slice_index places m) ≡ m)
  pub numbered : (i : ℕ) → i < length order → (slice_index order i < length order) × (slice_index places (slice_index order i) ≡ i)

-- number n is at a place, and the one that stood there where n did
pub record IsExchanged (n to : ℕ) (order places order_new places_new : List ℕ) : Type 0 where
  pub whole : IsOrder order_new places_new
  pub size : length order_new ≡ length order
  pub here : slice_index places_new n ≡ to
  pub there : (m : ℕ) → m ≡ slice_index order to → (m ≡ n → ⊥) → slice_index places_new m ≡ slice_index places n
  pub others : (m : ℕ) → (m ≡ n → ⊥) → (m ≡ slice_index order to → ⊥) → slice_index places_new m ≡ slice_index places m
