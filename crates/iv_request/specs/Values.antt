-- Numbers and privileges as JSON values, as requests and answers have them.
use Rattle.std.specs.Prelude.{ℕ, List, codes}
use Rattle.iv_access.specs.declared.privilege.Privilege.{Privilege}
use Rattle.iv_access.specs.declared.privilege.Privilege.TheVariants.{Select, Insert, Update, Delete}
use Rattle.serde_json.specs.Data.{Data, number, unsigned}

abbrev pub natural : ℕ → Data
natural n = number (unsigned n)

abbrev pub privilege_text : Privilege → List ℕ
privilege_text Select = codes "select"
privilege_text Insert = codes "insert"
privilege_text Update = codes "update"
privilege_text Delete = codes "delete"
