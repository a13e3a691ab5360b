-- When the program ends by itself.
use Rattle.std.specs.Prelude.{Bool, false, Option}
use Rattle.iv_rows.specs.Options.{if_some}
use Rattle.iv_following.specs.declared.following.Following.{Following}
use Rattle.iv_following.specs.Rounds.{has_ended}

-- with the only keeper of the log that it follows; a gateway that follows none goes on
abbrev pub is_over : Option Following → Bool
is_over o = if_some o false has_ended
