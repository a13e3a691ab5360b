-- Engines behind which sound states stand.
use Rattle.iv_machine.specs.Sound.{IsSoundState}
use Rattle.iv_machine.specs.State.{State}
use Rattle.iv_machine.specs.Stored.{IsStoredSound}
use Rattle.iv_store.specs.Engine.{Engine, IsBehind}

-- a state of the machine stands behind it, each that does is sound, and what its frame stores is sound
pub record IsSoundEngine (e : Engine) : Type 0 where
  pub state : State
  pub behind : IsBehind state e
  pub sound : (s : State) → IsBehind s e → IsSoundState s
  pub stored : IsStoredSound e.frame
