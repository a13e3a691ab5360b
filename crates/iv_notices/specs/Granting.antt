-- For contracts of the code: what a request grants, and to whom.
use Rattle.std.specs.Prelude.{◌≡◌, ℕ, Bool, true, false, if◌then◌else◌, List, [], ◌∷◌, flat_map, map, option_map, string_bytes}
use Rattle.iv_rows.specs.Options.{if_some}
use Rattle.iv_access.specs.Rights.{Name}
use Rattle.iv_machine.specs.Act.{Act}
use Rattle.iv_machine.specs.State.{Frame}
use Rattle.iv_engine.specs.Known.{has_some, is_member, relations_with}
use Rattle.iv_message.specs.Told.{granted, told_text}
use Rattle.iv_clients.specs.Kept.{Kept, holding, holding_all}
use Rattle.iv_gate.specs.Gate.{granted_by}
use Rattle.iv_notices.specs.declared.granting.Grants.{Grants}
use Rattle.iv_notices.specs.declared.granting.Grants.TheVariants.{Nothing, Privileges, Relation, Membership}

-- the relations that something is granted on
abbrev pub names_granted : Frame → Grants → List Name
names_granted f Nothing = []
names_granted f (Privileges rel to) = string_bytes rel ∷ []
names_granted f (Relation rel) = string_bytes rel ∷ []
names_granted f (Membership group to) = relations_with f (string_bytes group)

-- it is granted to the role
abbrev pub is_granted : Frame → Grants → Name → Bool
is_granted f Nothing role = false
is_granted f (Privileges rel to) role = if_some (option_map string_bytes to) true (is_member f role)
is_granted f (Relation rel) role = has_some f role (string_bytes rel)
is_granted f (Membership group to) role = is_member f role (string_bytes to)

abbrev pub granted_in : Frame → Grants → Name → List Name
granted_in f gs role = if is_granted f gs role then names_granted f gs else []

-- it is what the act grants
abbrev pub IsGranting : Act → Grants → Type 0
IsGranting act gs = (f : Frame) (role : Name) → granted_by f act role ≡ granted_in f gs role

-- ---- text

-- the texts of what is granted, one after another
abbrev pub text_granted : List Name → List ℕ
text_granted names = flat_map told_text (map granted names)

-- who is of such a role is told a text
abbrev pub holding_for : (Name → Bool) → List ℕ → Kept → Kept
holding_for p text k = if p k.role then holding text k else k

-- each is told what is granted to its role
abbrev pub hearing_granted : Bool → Frame → Grants → Kept → Kept
hearing_granted accepted f gs k = holding_all (if accepted then map granted (granted_in f gs k.role) else []) k
