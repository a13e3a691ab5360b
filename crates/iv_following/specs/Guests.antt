-- Who comes to a port as a keeper, and by what it is one.
use Rattle.std.specs.Prelude.{◌≡◌, ◌⊎◌, ◌<◌, ◌≤◌, ℕ, Bool, true, false, List, [], ◌++◌, bytes_eq, codes, length, Option, Some, None, option_map}
use Rattle.iv_rows.specs.Options.{if_some}
use Rattle.iv_records.specs.Cuts.{cut_at}
use Rattle.iv_gate.specs.Gate.{Log}
use Rattle.iv_door.specs.Talk.{Talk, at_start}
use Rattle.iv_following.specs.Following.{said_log}
use Rattle.iv_following.specs.declared.shown.Shown.{Shown}
use Rattle.iv_following.specs.declared.shown.Shown.TheVariants.{Other, Part, Secret}
use Rattle.iv_following.specs.declared.guest.Guest.{Guest}
use Rattle.iv_following.specs.declared.guest.Stage.{Stage}
use Rattle.iv_following.specs.declared.guest.Stage.TheVariants.{Known, Unknown}

-- the first line of a keeper
abbrev pub secret_line : List ℕ → List ℕ
secret_line secret = codes "{\"secret\":\"" ++ (secret ++ codes "\"}")

-- bytes of a first line that may be it, at most
abbrev pub most_shown : ℕ
most_shown = 4096

-- what bytes show, if this is the line with the secret: no line yet, another, which is too long or not the same, or that line, and what follows it
abbrev pub IsShown : (line bytes : List ℕ) → Shown → Type 0
IsShown line bytes Part = (cut_at 10 bytes ≡ None) × (length bytes ≤ most_shown)
IsShown line bytes Other = ((cut_at 10 bytes ≡ None) × (most_shown < length bytes))
    ⊎ ((shown : List ℕ) × (rest : List ℕ) × (cut_at 10 bytes ≡ Some (shown, rest)) × (bytes_eq shown line ≡ false))
IsShown line bytes (Secret rest) = cut_at 10 bytes ≡ Some (line, rest.items)

-- by these bytes somebody is welcome: the line with the secret is first, and what follows it is what this keeper has said
abbrev pub IsWelcome : Option Log → (line bytes : List ℕ) → Talk → Type 0
IsWelcome log line bytes t = (rest : List ℕ) × (cut_at 10 bytes ≡ Some (line, rest)) × (t ≡ record (at_start (option_map said_log log)) { unread = rest })

-- a guest after more bytes, and whether it stays: a keeper has said them; who is unknown is one by those that make it welcome, and none before
abbrev pub IsGuest : Option Log → (line bytes : List ℕ) → Stage → (stays : Bool) → Stage → Type 0
IsGuest log line bytes (Known k) stays (Known m) = (stays ≡ true) × (m.talk ≡ record k.talk { unread = k.talk.unread ++ bytes })
IsGuest log line bytes (Unknown said until) stays (Known m) = (stays ≡ true) × IsWelcome log line (said.items ++ bytes) m.talk
IsGuest log line bytes (Unknown said until) true (Unknown more then) =
    (cut_at 10 (said.items ++ bytes) ≡ None) × (more.items ≡ said.items ++ bytes) × (then ≡ until)
IsGuest log line bytes (Unknown said until) false (Unknown more then) = IsShown line (said.items ++ bytes) Other
IsGuest log line bytes (Known k) stays (Unknown more then) = ⊥

-- a keeper is there
abbrev pub is_known : Stage → Bool
is_known (Known k) = true
is_known (Unknown said until) = false

-- what it is to be told; nobody else is told anything
abbrev pub out_of : Stage → List ℕ
out_of (Known k) = k.told.out.items
out_of (Unknown said until) = []

abbrev pub is_there : Option Stage → Bool
is_there s = if_some s false is_known

abbrev pub out_to : Option Stage → List ℕ
out_to s = if_some s [] out_of

abbrev pub stage_of : Option Guest → Option Stage
stage_of o = option_map (λ g. g.stage) o

abbrev pub has_keeper : Option Guest → Bool
has_keeper o = is_there (stage_of o)

-- it has said that the gateway leads
abbrev pub has_led : Stage → Bool
has_led (Known k) = k.talk.leads
has_led (Unknown said until) = false

-- the keeper is there that has
abbrev pub has_leader : Option Guest → Bool
has_leader o = if_some (stage_of o) false has_led
