-- Rights: roles, owners, grants, row security and policies.
use Rattle.std.specs.Prelude.{ℕ, Bool, List, [], ◌∷◌, Option, codes}
use Rattle.iv_algebra.specs.Shapes.{Condition}
use Rattle.iv_roles.specs.Memberships.{Membership}
use Rattle.iv_access.specs.declared.privilege.Privilege.{Privilege}
use Rattle.iv_access.specs.declared.policy.PolicyCommand.{PolicyCommand}

-- the bytes of a name
abbrev pub Name : Type 0
Name = List ℕ

-- to whom a grant or a policy goes: all roles, or the role of a number
pub data Grantee : Type 0 where
  Public : Grantee
  Role : ℕ → Grantee

-- PostgreSQL 16, Privileges
pub record Grant : Type 0 where
  pub grantee : Grantee
  pub privilege : Privilege
  pub rel : ℕ

-- PostgreSQL 16, CREATE POLICY; its name is unique on its table
pub record Policy : Type 0 where
  pub name : Name
  pub restrictive : Bool
  pub command : PolicyCommand
  pub to : List Grantee
  pub using : Option Condition
  pub check : Option Condition

-- a relation's owner, its row security (PostgreSQL 16, ALTER TABLE: ENABLE and FORCE ROW LEVEL SECURITY), and its
-- policies in the byte order of their names
pub record Guard : Type 0 where
  pub owner : ℕ
  pub enabled : Bool
  pub forced : Bool
  pub policies : List Policy

-- a role's number is its place in `roles`, and `guards` has one for each relation, at the place of its number; `members` are
-- the direct memberships, which with `grants` are in the order of granting, each once
pub record Rights : Type 0 where
  pub roles : List Name
  pub members : List Membership
  pub guards : List Guard
  pub grants : List Grant

-- the one superuser is the first role
abbrev pub rights_at_start : Rights
rights_at_start = record { roles = codes "admin" ∷ []; members = []; guards = []; grants = [] }
