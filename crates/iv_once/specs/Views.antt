-- What the code's values are to the definitions.
use Rattle.std.specs.Prelude.{◌≡◌, ℕ, List, Option, Some, bytes_eq, string_bytes}
use Rattle.std.specs.BTreeMap.{btree_map_len, get_by_text}
use Rattle.std.specs.Map.{update}
use Rattle.iv_once.specs.Names as spec
use Rattle.iv_once.specs.declared.asks.Verdict.{Verdict}
use Rattle.iv_once.specs.declared.asks.Verdict.TheVariants.{Carry, Again, Another, Late, Foreign, Ahead, Over}
use Rattle.iv_once.specs.declared.names.Limits.{Limits}
use Rattle.iv_once.specs.declared.names.Names.{Names}

abbrev pub verdict_of : Verdict → spec.Verdict
verdict_of Carry = spec.carry
verdict_of (Again answer) = spec.again answer.items
verdict_of Another = spec.another
verdict_of Late = spec.late
verdict_of Foreign = spec.foreign
verdict_of Ahead = spec.ahead
verdict_of Over = spec.over

abbrev pub limits_of : Limits → spec.Limits
limits_of l = record { names = l.names; refusals = l.refusals; holders = l.holders }

abbrev pub names_of : Names → spec.Names
names_of n = record {
  limits = limits_of n.limits;
  known = record { epoch = string_bytes n.epoch; owns = get_by_text n.owns; holders = btree_map_len n.owns };
  spent = get_by_text n.spent;
}

-- one holder's own was put in place of what it had
abbrev pub IsPut : {X : Type 0} → (List ℕ → Option X) → (List ℕ → Option X) → List ℕ → X → Type 0
IsPut old new holder x = (h : List ℕ) → new h ≡ update bytes_eq old holder (Some x) h
