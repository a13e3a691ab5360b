-- What contracts see of policies and filters: texts as bytes, predicates as conditions.
use Rattle.std.specs.Prelude.{map, option_map, string_bytes}
use Rattle.iv_algebra.specs.Shapes.{condition_of}
use Rattle.iv_access.specs.declared.filter.ReaderFilter.TheInside.{Inside as OfFilter}
use Rattle.iv_access.specs.declared.policy.NewPolicy.TheInside.{Inside as OfNewPolicy}
use Rattle.iv_access.specs.declared.policy.Policy.TheInside.{Inside as OfPolicy}
use Rattle.iv_access.specs.Rights.{Policy}
use Rattle.iv_access.specs.NewPolicies.{NewPolicy}
use Rattle.iv_access.specs.Filters.{Filter}
use Rattle.iv_access.specs.Grants.{seen}

abbrev pub asked_of : OfNewPolicy → NewPolicy
asked_of p = record {
  name = string_bytes p.name;
  restrictive = p.restrictive;
  command = p.command;
  to = map (option_map string_bytes) p.to.items;
  using = option_map condition_of p.using;
  check = option_map condition_of p.check;
}

abbrev pub policy_kept : OfPolicy → Policy
policy_kept p = record {
  name = string_bytes p.name;
  restrictive = p.restrictive;
  command = p.command;
  to = map seen p.to.items;
  using = option_map condition_of p.using;
  check = option_map condition_of p.check;
}

abbrev pub filter_kept : OfFilter → Filter
filter_kept f = record {
  exempt = f.is_exempt;
  user = string_bytes f.user;
  permissive = map condition_of f.permissive.items;
  restrictive = map condition_of f.restrictive.items;
}
