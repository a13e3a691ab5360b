-- Grants as Access stores them: without where they lie, and as flags.
use Rattle.std.specs.Prelude.{◌≡◌, ℕ, ◌<◌, ◌&&◌, Bool, false, if◌then◌else◌, List, [], get_or}
use Rattle.iv_access.specs.declared.privilege.Privilege.{Privilege}
use Rattle.iv_access.specs.declared.privilege.Privilege.TheVariants.{Select, Insert, Update, Delete}
use Rattle.iv_access.specs.declared.grant.Grantee.{Grantee as Named}
use Rattle.iv_access.specs.declared.grant.Grantee.TheVariants as named
use Rattle.iv_access.specs.declared.grants.Grantees.{Grantees}
use Rattle.iv_access.specs.declared.grants.RelationGrants.{RelationGrants}
use Rattle.iv_access.specs.Rights.{Grantee, Public, Role, Grant}
use Rattle.iv_access.specs.Privileges.{privilege_eq}
use Rattle.iv_access.specs.Changing.{grantee_eq}
use Rattle.iv_access.specs.Given.{is_among}

-- the grantee without where it lies
abbrev pub seen : Named → Grantee
seen named.Public = Public
seen (named.Role id) = Role id.0

-- the grants in the order of granting, room for how many more there is, and how many relations have flags
pub record HeldGrants : Type 0 where
  pub list : List Grant
  pub spare : ℕ
  pub relations : ℕ

-- flags have a place for the grantee
abbrev pub HasPlace : Grantee → Type 0
HasPlace Public = Unit {0}
HasPlace (Role n) = n < 256

abbrev pub flag_of : Grantees → Grantee → Bool
flag_of gs Public = gs.all
flag_of gs (Role n) = get_or gs.roles n false

abbrev pub grantees_of : RelationGrants → Privilege → Grantees
grantees_of r Select = r.select
grantees_of r Insert = r.insert
grantees_of r Update = r.update
grantees_of r Delete = r.delete

-- no flag is set
abbrev pub IsClear : RelationGrants → Type 0
IsClear r = (p : Privilege) (to : Grantee) → flag_of (grantees_of r p) to ≡ false

-- the flag of the grantee is set or cleared, and the others stay
abbrev pub IsSet : Grantee → Bool → (old new : Grantees) → Type 0
IsSet to held old new = (other : Grantee) → flag_of new other ≡ (if grantee_eq other to then held else flag_of old other)

-- the flag of the privilege and the grantee is set or cleared, and the others stay
abbrev pub IsSetIn : Privilege → Grantee → Bool → (old new : RelationGrants) → Type 0
IsSetIn p to held old new =
    (q : Privilege) (other : Grantee) → flag_of (grantees_of new q) other ≡ (if privilege_eq q p && grantee_eq other to then held else flag_of (grantees_of old q) other)

-- of a relation past those with flags
abbrev pub no_grants : RelationGrants
no_grants = let nobody : Grantees = record { all = false; roles = [] } in record { select = nobody; insert = nobody; update = nobody; delete = nobody }

-- the flag of a grant
abbrev pub is_flagged : List RelationGrants → Grant → Bool
is_flagged rs g = flag_of (grantees_of (get_or rs g.rel no_grants) g.privilege) g.grantee

-- each flag is as it was
abbrev pub FlagsStay : (old new : List RelationGrants) → Type 0
FlagsStay old new = (g : Grant) → is_flagged new g ≡ is_flagged old g

-- each flag says whether the grant is among the grants
abbrev pub AreFlags : List Grant → List RelationGrants → Type 0
AreFlags gs rs = (g : Grant) → is_flagged rs g ≡ is_among gs g
