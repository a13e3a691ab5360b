-- What holds of the settings that the words on the command line give.
use Rattle.std.specs.Prelude.{◌≡◌, ◌≤◌, List, ℕ, Option, None, Some, Ok, codes, option_map, string_bytes}
use Rattle.std.specs.Str.Parse.{ParsesUnsigned}
use Rattle.iv_rows.specs.RowLimit.{IsRowLimit}
use Rattle.iv_host.specs.declared.arguments.KeeperAt.{KeeperAt}
use Rattle.iv_host.specs.declared.arguments.KeeperAt.TheVariants.{Port, Standard}
use Rattle.iv_host.specs.declared.arguments.Settings.{Settings}

-- the keeper of a log by what `--log`, `--log-secret-file` and `--seed` say: one at standard input and output (`-`) shows no secret, one at a port
-- does, and a journal that follows a log has no seed
abbrev pub IsKeeper : (log secret seed : Option (List ℕ)) → Option KeeperAt → Type 0
IsKeeper None None _ None = Unit {0}
IsKeeper (Some log) None None (Some Standard) = log ≡ codes "-"
IsKeeper (Some log) (Some secret) None (Some (Port port file)) = ParsesUnsigned {E = Unit {0}} 16 10 log (Ok port) × (1 ≤ port) × (string_bytes file ≡ secret)
IsKeeper _ _ _ _ = ⊥

-- a port that can be listened on, a limit of rows that an engine takes, room for somebody, and a keeper that words can say
pub record AreValid (s : Settings) : Type 0 where
  pub port : 1 ≤ s.port
  pub rows : IsRowLimit s.rows
  pub clients : (1 ≤ s.clients) × (s.clients ≤ 1000000)
  pub keeper : (log secret : Option (List ℕ)) × IsKeeper log secret (option_map string_bytes s.seed) s.keeper
