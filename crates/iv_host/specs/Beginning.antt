-- What a gateway begins with, by what its journal says before its first entry.
use Rattle.std.specs.Prelude.{ℕ, List, option_map}
use Rattle.iv_rows.specs.Options.{if_some}
use Rattle.iv_once.specs.Names.{Own, Place}
use Rattle.iv_once.specs.Runs.{nothing_known}
use Rattle.iv_gate.specs.Gate.{Head, Log}
use Rattle.iv_head.specs.Begun.{Begun, Followed, stood}

abbrev pub place_in : Own → Place
place_in o = record { epoch = o.epoch; count = o.count }

abbrev pub log_of : Followed → Log
log_of f = record { name = f.name; epoch = f.epoch }

-- names of others begin in the epoch of the log that is followed, so at all who follow it in one; else in the journal's
abbrev pub epoch_with : (epoch : List ℕ) → Begun → List ℕ
epoch_with epoch b = if_some b.log epoch (λ f. f.epoch)

-- names of holders that had some stand there
abbrev pub head_with : (epoch : List ℕ) → Begun → Head
head_with epoch b = let k = stood (nothing_known (epoch_with epoch b)) b.standings in record {
  epoch = epoch_with epoch b;
  places = λ holder. option_map place_in (k.owns holder);
  holders = k.holders;
  log = option_map log_of b.log;
  position = if_some b.log 0 (λ f. f.position);
}
