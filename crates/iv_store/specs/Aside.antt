-- Who is there: set aside while facts of others are carried out, brought back, and looked at.
use Rattle.std.specs.Prelude.{◌≡◌, Bool, true, List, [], is_some, map}
use Rattle.std.specs.List.{AllByRecursion}
use Rattle.iv_store.specs.Store.{IsStored, Store, place_of}
use Rattle.iv_store.specs.Turned.{WasShown}
use Rattle.iv_store.specs.declared.aside.Aside.{Aside}

-- with nobody there
abbrev pub nobody_in : Store → Store
nobody_in e = record e { sessions = []; subscriptions = []; circuits = []; last = 0 }

-- with those of the other
abbrev pub with_those_of : Store → Store → Store
with_those_of old e = record e { sessions = old.sessions; subscriptions = old.subscriptions; circuits = old.circuits; last = old.last }

-- they are those of the store
pub record IsAsideOf (e : Store) (a : Aside) : Type 0 where
  pub sessions : a.sessions ≡ e.sessions
  pub subscriptions : a.subscriptions.items ≡ e.subscriptions
  pub circuits : a.circuits ≡ e.circuits
  pub last : a.last ≡ e.last

-- each subscription has its circuit, which shows what it showed before
pub record AreBack (e : Store) : Type 0 where
  pub stored : IsStored e
  pub shown : AllByRecursion (WasShown e) e.circuits
  pub there : AllByRecursion (λ s. is_some (place_of e s) ≡ true) e.subscriptions

-- of each circuit, that the change concerns it
abbrev pub all_concerned : Store → List Bool
all_concerned e = map (λ k. true) e.circuits
