-- For contracts of the code: on which relations roles have a privilege by a step that they had not, and who is told so.
use Rattle.std.specs.Prelude.{◌≡◌, ℕ, ◌==◌, ◌&&◌, Bool, true, false, not, if◌then◌else◌, List, [], filter, find, length, map, bytes_eq, Some}
use Rattle.std.specs.List.{AllByRecursion, list_any}
use Rattle.iv_rows.specs.Options.{if_some}
use Rattle.iv_access.specs.declared.privilege.Privilege.{Privilege}
use Rattle.iv_access.specs.declared.privilege.Privilege.TheVariants.{Select, Insert, Update, Delete}
use Rattle.iv_access.specs.Rights.{Name}
use Rattle.iv_machine.specs.State.{Frame}
use Rattle.iv_engine.specs.Known.{has_on, relations_with}
use Rattle.iv_clients.specs.Clients.{client_at}
use Rattle.iv_clients.specs.Kept.{Kept, Places, holding}
use Rattle.iv_gate.specs.Arriving.{newly}
use Rattle.iv_gate.specs.Gate.{each_privilege}
use Rattle.iv_notices.specs.Granting.{text_granted}
use Rattle.iv_notices.specs.declared.newly.Allowed.{Allowed}

-- ---- what a role may do with a relation

abbrev pub allows : Allowed → Privilege → Bool
allows a Select = a.select
allows a Insert = a.insert
allows a Update = a.update
allows a Delete = a.delete

abbrev pub allowed_in : Frame → (role rel : Name) → Allowed
allowed_in f role rel = record {
  select = has_on f role Select rel;
  insert = has_on f role Insert rel;
  update = has_on f role Update rel;
  delete = has_on f role Delete rel;
}

abbrev pub nothing : Allowed
nothing = record { select = false; insert = false; update = false; delete = false }

-- something that it might not do before
abbrev pub is_more : (before after : Allowed) → Bool
is_more before after = list_any (λ p. allows after p && not (allows before p)) each_privilege

-- ---- what roles might do before

-- a relation, and what a role might do with it
pub record Held : Type 0 where
  pub rel : Name
  pub allowed : Allowed

abbrev pub held_in : Frame → (role rel : Name) → Held
held_in f role rel = record { rel = rel; allowed = allowed_in f role rel }

-- with a relation that is not among these, nothing
abbrev pub allowed_before : List Held → Name → Allowed
allowed_before hs rel = if_some (find (λ h. bytes_eq h.rel rel) hs) nothing (λ h. h.allowed)

-- a role, and what it might do, relation by relation
pub record Readable : Type 0 where
  pub role : Name
  pub rels : List Held

abbrev pub IsReadable : Frame → Readable → Type 0
IsReadable f r = r.rels ≡ map (held_in f r.role) (relations_with f r.role)

abbrev pub is_among : List Readable → Name → Bool
is_among rs role = list_any (λ r. bytes_eq r.role role) rs

-- what the roles of all clients had
pub record AreReadable (f : Frame) (rs : List Readable) (places : Places) : Type 0 where
  pub each : AllByRecursion (IsReadable f) rs
  pub all : (m : ℕ) (k : Kept) → client_at places m ≡ Some k → is_among rs k.role ≡ true

-- what is known of roles before a step: nothing, if it writes rows alone
abbrev pub AreBefore : Frame → Bool → List Readable → Places → Type 0
AreBefore f true rs places = rs ≡ []
AreBefore f false rs places = AreReadable f rs places

-- ---- what a role is told

-- it may do something with the relation that it might not do before
abbrev pub is_new : Frame → Readable → Name → Bool
is_new f r rel = is_more (allowed_before r.rels rel) (allowed_in f r.role rel)

-- of these relations those of which this is so
abbrev pub only_new : Frame → Readable → List Name → List Name
only_new f r rels = filter (is_new f r) rels

pub record Newly : Type 0 where
  pub role : Name
  pub text : List ℕ

-- its text in a frame
abbrev pub newly_in : Frame → Readable → Newly
newly_in f r = record { role = r.role; text = text_granted (only_new f r (relations_with f r.role)) }

-- that of a role; of one that is not among them there is none
abbrev pub text_for : List Newly → Name → List ℕ
text_for ns role = if_some (find (λ n. bytes_eq n.role role) ns) [] (λ n. n.text)

-- who has something to hear is told it
abbrev pub hearing_newly : List Newly → Kept → Kept
hearing_newly ns k = if length (text_for ns k.role) == 0 then k else holding (text_for ns k.role) k

-- each client's role has the text of what it has newly
abbrev pub AreNewly : Frame → Frame → List Readable → Places → Type 0
AreNewly before behind rs places =
    (m : ℕ) (k : Kept) → client_at places m ≡ Some k → text_for (map (newly_in behind) rs) k.role ≡ text_granted (newly before behind k.role)
