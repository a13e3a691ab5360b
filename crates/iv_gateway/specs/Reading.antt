-- For contracts of the code: parts of what subscribing does.
use Rattle.std.specs.Prelude.{ℕ, ◌+◌, ◌==◌, ◌&&◌, not, if◌then◌else◌, Option, Some, None}
use Rattle.serde_json.specs.Data.{Data}
use Rattle.iv_rows.specs.Options.{if_some}
use Rattle.iv_access.specs.Rights.{Name}
use Rattle.iv_machine.specs.Act.{refused, too_many}
use Rattle.iv_message.specs.Told.{opened, replied}
use Rattle.iv_clients.specs.Clients.{at_client, client_at, following}
use Rattle.iv_clients.specs.Feeds.{Feed, is_reading}
use Rattle.iv_clients.specs.Kept.{Kept, Places}
use Rattle.iv_gate.specs.Gate.{Gate, begun_for, columns_in, next_own, seated, subscribes, tells}

-- the number that a client gives next
abbrev pub own_next : Places → ℕ → ℕ
own_next places m = if_some (client_at places m) 0 (λ (k : Kept). k.given + 1)

-- a feed's session and number, and the number of an older feed that shows the same
abbrev pub Double : Type 0
Double = ℕ × ℕ × ℕ

-- of two feeds
abbrev pub doubled : Option Feed → Option Feed → Option Double
doubled (Some t) (Some k) = if is_reading t.role t.rel k && not (t.number == k.number) then Some (t.session, t.number, k.number) else None
doubled t k = None

-- client m is told that feed t is opened for it, and follows it
abbrev pub follows_new : Gate → ℕ → Option Data → Name → ℕ → Gate
follows_new g m id rel t = let h = tells g m (opened id (next_own g m) (columns_in g.machine rel)) in
    record h { clients = at_client m (following t) h.clients }

-- in a further session of the role, if one can be begun
abbrev pub reads_further : Gate → ℕ → Option Data → Name → Name → Gate
reads_further g m id role rel = if_some (begun_for g role) (tells g m (replied id (refused too_many))) (λ n. subscribes (seated g n role) m id n role rel)
