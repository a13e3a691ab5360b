-- For contracts of the code: what it keeps of a client, and what each call makes of that.
use Rattle.std.specs.Prelude.{ℕ, ◌+◌, ◌==◌, ◌&&◌, ◌||◌, nat_lt, Bool, true, false, if◌then◌else◌, not, List, [], ◌∷◌, ◌++◌, map, filter, length, bytes_eq, Option, option_map}
use Rattle.std.specs.List.{list_any}
use Rattle.iv_rows.specs.Options.{if_some}
use Rattle.iv_access.specs.Rights.{Name}
use Rattle.iv_machine.specs.Act.{Line}
use Rattle.iv_message.specs.Told.{Told, told_text}
use Rattle.iv_clients.specs.Bounds.{most_piled, most_requests, most_waiting}
use Rattle.iv_clients.specs.Clients.{Client, Slots, Sub, by_others, moved_sub, text_shown}
use Rattle.iv_clients.specs.Feeds.{ends_in}
use Rattle.iv_clients.specs.Tokens.{Token, token_of}

-- text is kept as bytes, and what others brought is counted: `brought` of what is unsynced, `piled` of what is sendable
pub record Kept : Type 0 where
  pub role : Name
  pub user : List ℕ
  pub digest : List ℕ
  pub given : ℕ
  pub subs : List Sub
  pub unsynced : List ℕ
  pub sendable : List ℕ
  pub asked : ℕ
  pub brought : ℕ
  pub piled : ℕ
  pub owed : Bool
  pub dropped : Bool

abbrev pub kept : Client → Kept
kept c = record {
  role = c.role;
  user = c.user;
  digest = c.digest;
  given = c.given;
  subs = c.subs;
  unsynced = text_shown c.unsynced;
  sendable = text_shown c.sendable;
  asked = c.asked;
  brought = length (text_shown (by_others c.unsynced));
  piled = length (text_shown (by_others c.sendable));
  owed = c.owed;
  dropped = c.dropped;
}

abbrev pub Places : Type 0
Places = List (Option Kept)

abbrev pub kept_slots : Slots → Places
kept_slots slots = map (option_map kept) slots

abbrev pub coming : (role : Name) → (user digest text : List ℕ) → Kept
coming role user digest text = record {
  role = role;
  user = user;
  digest = digest;
  given = 0;
  subs = [];
  unsynced = text;
  sendable = [];
  asked = 0;
  brought = 0;
  piled = 0;
  owed = false;
  dropped = false;
}

-- ---- text

abbrev pub holding : List ℕ → Kept → Kept
holding text k = record k { unsynced = k.unsynced ++ text; brought = k.brought + length text; owed = true }

-- the texts of things that are told, one after another
abbrev pub holding_all : List Told → Kept → Kept
holding_all [] k = k
holding_all (t ∷ ts) k = holding_all ts (holding (told_text t) k)

-- the text that settles is told if something is owed
abbrev pub holding_owed : List ℕ → Kept → Kept
holding_owed text k = if k.owed then record (holding text k) { owed = false } else k

abbrev pub holding_beat : List ℕ → Kept → Kept
holding_beat text k = record (holding text k) { owed = k.owed }

-- ---- subscriptions

abbrev pub keeping_on : List Line → Kept → Kept
keeping_on ls k = record k { subs = filter (λ s. not (ends_in ls s.feed)) k.subs }

abbrev pub keeping_new : ℕ → Kept → Kept
keeping_new feed k = record k { given = k.given + 1; subs = k.subs ++ record { own = k.given + 1; feed = feed } ∷ [] }

abbrev pub keeping_moved : ℕ → ℕ → Kept → Kept
keeping_moved from to k = record k { subs = map (moved_sub from to) k.subs }

abbrev pub keeping_closed : ℕ → Kept → Kept
keeping_closed own k = record k { subs = filter (λ s. not (own == s.own)) k.subs }

abbrev pub is_following : ℕ → Kept → Bool
is_following feed k = list_any (λ s. feed == s.feed) k.subs

abbrev pub is_followed_by : ℕ → Places → Bool
is_followed_by feed places = list_any (λ x. if_some x false (is_following feed)) places

abbrev pub has_role_in : Name → Places → Bool
has_role_in role places = list_any (λ x. if_some x false (λ (k : Kept). bytes_eq k.role role)) places

-- ---- bounds

abbrev pub may_ask : Kept → Bool
may_ask k = not k.dropped && (nat_lt k.asked most_requests && nat_lt (length k.sendable + length k.unsynced) most_waiting)

abbrev pub asking : Kept → Kept
asking k = record k { asked = k.asked + 1 }

-- others brought no more than before
abbrev pub answering : ℕ → Kept → Kept
answering n k = record k { brought = n }

abbrev pub letting_go : Kept → Kept
letting_go k = record k { unsynced = []; sendable = []; brought = 0; piled = 0; dropped = true }

abbrev pub releasing : Kept → Kept
releasing k = if k.dropped || nat_lt most_piled k.piled then letting_go k
    else record k { unsynced = []; sendable = k.sendable ++ k.unsynced; brought = 0; piled = k.piled + k.brought }

-- something may be sent to it, or it is to go
abbrev pub is_due : Kept → Bool
is_due k = k.dropped || not (length k.sendable == 0)

-- or something waits for the journal, or has not been taken
abbrev pub is_told : Kept → Bool
is_told k = is_due k || (not (length k.unsynced == 0) || (not (k.brought == 0) || not (k.piled == 0)))

-- it has nothing more that may be sent
abbrev pub emptied : Kept → Kept
emptied k = if length k.sendable == 0 then k else record k { sendable = []; asked = 0; piled = 0 }

abbrev pub checking : List Token → Kept → Kept
checking tokens k = if if_some (token_of tokens k.digest) false (λ t. bytes_eq k.role t.role && bytes_eq k.user t.user) then k else letting_go k
