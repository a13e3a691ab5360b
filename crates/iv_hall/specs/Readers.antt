-- Who reads each feed, by numbers.
use Rattle.std.specs.Prelude.{◌≡◌, ◌==◌, ◌⊎◌, ℕ, Bool, true, false, List, [], find, Option, Some}
use Rattle.std.specs.List.{Contains}
use Rattle.iv_rows.specs.Options.{if_some}
use Rattle.iv_clients.specs.Kept.{Places, is_following}
use Rattle.iv_hall.specs.Listing.{is_so_at}

pub record Readers : Type 0 where
  pub feed : ℕ
  pub numbers : List ℕ

-- those of a feed; of none nobody
abbrev pub readers_of : List Readers → ℕ → List ℕ
readers_of rs feed = if_some (find (λ r. feed == r.feed) rs) [] (λ r. r.numbers)

-- n reads the feed too, and nobody else more
pub record HasJoined (feed n : ℕ) (old new : List Readers) : Type 0 where
  pub joined : Contains (readers_of new feed) n
  pub kept : (k m : ℕ) → Contains (readers_of old k) m → Contains (readers_of new k) m
  pub only : (k m : ℕ) → Contains (readers_of new k) m → Contains (readers_of old k) m ⊎ ((k ≡ feed) × (m ≡ n))

-- all read on, and nobody more
pub record HasAll (old new : List Readers) : Type 0 where
  pub kept : (k m : ℕ) → Contains (readers_of old k) m → Contains (readers_of new k) m
  pub only : (k m : ℕ) → Contains (readers_of new k) m → Contains (readers_of old k) m

-- n does not read the feed any more; all others read on, and n all others, and nobody more
pub record HasQuit (feed n : ℕ) (old new : List Readers) : Type 0 where
  pub gone : Contains (readers_of new feed) n → ⊥
  pub kept : (k m : ℕ) → ((k ≡ feed) × (m ≡ n) → ⊥) → Contains (readers_of old k) m → Contains (readers_of new k) m
  pub only : (k m : ℕ) → Contains (readers_of new k) m → Contains (readers_of old k) m

-- n reads those feeds not any more; all but n read on, and nobody more
pub record HasLeft (n : ℕ) (those : ℕ → Bool) (old new : List Readers) : Type 0 where
  pub gone : (k : ℕ) → those k ≡ true → Contains (readers_of new k) n → ⊥
  pub kept : (k m : ℕ) → (m ≡ n → ⊥) → Contains (readers_of old k) m → Contains (readers_of new k) m
  pub only : (k m : ℕ) → Contains (readers_of new k) m → Contains (readers_of old k) m

-- n reads the feed, if there is one, not any more unless it follows it; all but n read on, and n what it follows, and nobody more
pub record HasKept (n : ℕ) (feed : Option ℕ) (places : Places) (old new : List Readers) : Type 0 where
  pub gone : (k : ℕ) → feed ≡ Some k → is_so_at (is_following k) places n ≡ false → Contains (readers_of new k) n → ⊥
  pub kept : (k m : ℕ) → ((m ≡ n) × (is_so_at (is_following k) places n ≡ false) → ⊥) → Contains (readers_of old k) m → Contains (readers_of new k) m
  pub only : (k m : ℕ) → Contains (readers_of new k) m → Contains (readers_of old k) m

-- n reads the feed if it follows it, and else does not; of all else nothing changes
pub record IsReader (n feed : ℕ) (places : Places) (old new : List Readers) : Type 0 where
  pub put : is_so_at (is_following feed) places n ≡ true → Contains (readers_of new feed) n
  pub only : Contains (readers_of new feed) n → is_so_at (is_following feed) places n ≡ true
  pub kept : (k m : ℕ) → ((k ≡ feed) × (m ≡ n) → ⊥) → Contains (readers_of old k) m → Contains (readers_of new k) m
  pub others : (k m : ℕ) → ((k ≡ feed) × (m ≡ n) → ⊥) → Contains (readers_of new k) m → Contains (readers_of old k) m
