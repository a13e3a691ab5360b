-- What holds of the settings that the words on the command line give.
use Rattle.std.specs.Prelude.{ℕ, ◌≤◌, ◌<◌, ◌^◌}
use Rattle.iv_rows.specs.RowLimit.{IsRowLimit}
use Rattle.iv_arguments.specs.declared.asked.Settings.{Settings}
use Rattle.iv_arguments.specs.declared.asked.Settings.TheVariants.{Replay, Serve}

-- each number lies in the range that the command line allows
abbrev pub InRange : Settings → Type 0
InRange (Replay lines rows) = (1 ≤ lines) × (lines < 2 ^ 32) × IsRowLimit rows
InRange (Serve port connections lines rows) =
    (1 ≤ port) × (port < 2 ^ 16) × (1 ≤ connections) × (connections < 2 ^ 32) × (1 ≤ lines) × (lines < 2 ^ 32) × IsRowLimit rows

-- how many lines to take at most, of each connection if there are connections
abbrev pub lines_of : Settings → ℕ
lines_of (Replay lines rows) = lines
lines_of (Serve port connections lines rows) = lines
