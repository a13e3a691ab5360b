-- Where all sessions and subscriptions are closed, the machine's state is the one that it hangs up, and all that was
-- kept of the others still holds.
use Rattle.std.proofs.Common.{◌≡◌, ◌∙◌, Bool, [], suc, ap, subst, sym}
use Rattle.iv_machine.specs.Machine.{hung}
use Rattle.iv_machine.specs.State.{Frame, State}
use Rattle.iv_database.proofs.StoredFacts.{sessions_stored}
use Rattle.iv_store.specs.Aside.{nobody_in}
use Rattle.iv_store.specs.Store.{database_of, IsSoundStore, Store}
use Rattle.iv_store.specs.Rounds.{rounds_of}
use Rattle.iv_store.specs.Engine.{Engine, IsBehind, hung_up}
use Rattle.iv_store.proofs.SubscriptionRounds.{none_listed}
use Rattle.iv_store.proofs.RunLines.{shown_by}

pub IsBehind-hung_up : (s : State) (e new : Engine) → new ≡ hung_up e → IsBehind s e → IsBehind (hung s) new
IsBehind-hung_up s e new h b = subst (λ (v : Engine). IsBehind (hung s) v) (sym h) (record { frame = ap (λ (f : Frame). record f { sessions = []; subscriptions = [] }) b.frame; rows = b.rows })

abbrev pub without_sessions : Store → Store
without_sessions e = record e { sessions = []; subscriptions = []; circuits = [] }

-- what is shown of it
pub shown_by-without_sessions : (e k : Store) (failed : Bool) → k ≡ without_sessions e → shown_by k failed ≡ hung_up (shown_by e failed)
shown_by-without_sessions e k failed h = ap (λ (v : Store). shown_by v failed) h
    ∙ ap (λ xs. record (shown_by (without_sessions e) failed) { rounds = xs }) (none_listed (rounds_of (without_sessions e)) 0 (suc e.last))

pub IsSoundStore-without_sessions : (e : Store) → IsSoundStore e → IsSoundStore (without_sessions e)
IsSoundStore-without_sessions e h = record {
  stored = record {
    numbers = record { unique = tt; given = tt };
    database = sessions_stored (database_of e) h.stored.database [] tt;
    shows = tt;
  };
  served = tt;
  within = tt;
  circuits = tt;
  there = tt;
  read = tt;
}

-- and the last number may be forgotten
pub IsSoundStore-nobody_in : (e : Store) → IsSoundStore e → IsSoundStore (nobody_in e)
IsSoundStore-nobody_in e h = record {
  stored = record {
    numbers = record { unique = tt; given = tt };
    database = sessions_stored (database_of e) h.stored.database [] tt;
    shows = tt;
  };
  served = tt;
  within = tt;
  circuits = tt;
  there = tt;
  read = tt;
}
