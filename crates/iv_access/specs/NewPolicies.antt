-- A policy as it is asked for, with its roles by name.
use Rattle.std.specs.Prelude.{Bool, List, map, Option}
use Rattle.iv_algebra.specs.Shapes.{Condition}
use Rattle.iv_access.specs.declared.policy.PolicyCommand.{PolicyCommand}
use Rattle.iv_access.specs.Rights.{Name, Policy, Rights}
use Rattle.iv_access.specs.Access.{grantee_of}

-- if `to` has no name it has all roles
pub record NewPolicy : Type 0 where
  pub name : Name
  pub restrictive : Bool
  pub command : PolicyCommand
  pub to : List (Option Name)
  pub using : Option Condition
  pub check : Option Condition

abbrev pub policy_from : Rights → NewPolicy → Policy
policy_from r a = record { name = a.name; restrictive = a.restrictive; command = a.command; to = map (grantee_of r) a.to; using = a.using; check = a.check }
