-- Commands that a line may give lead an engine behind which sound states stand to another.
use Rattle.std.proofs.Common.{ℕ, List, [], ◌∷◌, subst, sym}
use Rattle.std.proofs.lemmas.List.Elements.{All-cons, All-nil}
use Rattle.std.specs.List.{All}
use Rattle.iv_machine.specs.Act.{Command}
use Rattle.iv_machine.specs.Machine.{hung, run}
use Rattle.iv_machine.specs.State.{State, start}
use Rattle.iv_machine.specs.Stored.{IsGiven, IsStoredSound}
use Rattle.iv_machine.proofs.SoundRuns.{IsSoundWhole, IsSoundWhole-hung, IsSoundWhole-run, IsSoundWhole-start}
use Rattle.iv_store.specs.Engine.{Engine, IsBehind, IsLeftBy, IsLeftByAll}
use Rattle.iv_engine.specs.Sound.{IsSoundEngine}
use Rattle.iv_engine.proofs.RowOrder.{IsSoundState-IsBehind}

pub IsSoundEngine-IsBehind : (s : State) (e : Engine) → IsBehind s e → IsSoundWhole s → IsSoundEngine e
IsSoundEngine-IsBehind s e b k = record { state = s; behind = b; sound = λ t d. IsSoundState-IsBehind s t e b d k.0; stored = subst IsStoredSound b.frame k.1 }

pub IsSoundWhole-of_engine : (e : Engine) (h : IsSoundEngine e) → IsSoundWhole h.state
IsSoundWhole-of_engine e h = (h.sound h.state h.behind, subst IsStoredSound (sym h.behind.frame) h.stored)

pub IsSoundEngine-start : (cap : ℕ) (e : Engine) → IsBehind (start cap) e → IsSoundEngine e
IsSoundEngine-start cap e b = IsSoundEngine-IsBehind (start cap) e b (IsSoundWhole-start cap)

pub IsSoundEngine-IsLeftByAll : (old new : Engine) (cs : List Command) → All IsGiven cs → IsLeftByAll old cs new → IsSoundEngine old → IsSoundEngine new
IsSoundEngine-IsLeftByAll old new cs g f h =
    IsSoundEngine-IsBehind (run h.state cs).state new (f h.state h.behind) (IsSoundWhole-run h.state cs g (IsSoundWhole-of_engine old h))

pub IsSoundEngine-IsLeftBy : (old new : Engine) (c : Command) → IsGiven c → IsLeftBy old c new → IsSoundEngine old → IsSoundEngine new
IsSoundEngine-IsLeftBy old new c g f h = IsSoundEngine-IsLeftByAll old new (c ∷ []) (All-cons IsGiven c [] g (All-nil IsGiven)) f h

pub IsSoundEngine-hung : (old new : Engine) → ((s : State) → IsBehind s old → IsBehind (hung s) new) → IsSoundEngine old → IsSoundEngine new
IsSoundEngine-hung old new f h = IsSoundEngine-IsBehind (hung h.state) new (f h.state h.behind) (IsSoundWhole-hung h.state (IsSoundWhole-of_engine old h))
