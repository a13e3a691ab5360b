-- Bytes that were read and not taken yet.
use Rattle.std.specs.Prelude.{◌≡◌, ◌≢◌, ◌≤◌, ◌<◌, ℕ, Bool, true, false, List, [], ◌∷◌, ◌++◌, take, drop, length, All, Option, if◌then◌else◌}
use Rattle.std.specs.Io.KnownBytes.{prepend_known}
use Rattle.iv_lines.specs.Cut.{line_room}
use Rattle.iv_lines.specs.declared.room.Room.{Room}

abbrev pub ahead : Room → List ℕ
ahead r = drop r.at (take r.filled r.bytes)

-- the bytes that are left, with those that were read ahead
abbrev pub known : Room → Option (List ℕ) → Option (List ℕ)
known r left = prepend_known (ahead r) left

-- a newline, or nothing
abbrev pub newline_if : Bool → List ℕ
newline_if ended = if ended then 10 ∷ [] else []

-- of the bytes ahead a front without newline has moved to the line, and a newline after it is taken
pub record TakesPart (old new line longer : List ℕ) (ended : Bool) : Type 0 where
  pub part : List ℕ
  pub plain : All (λ b. b ≢ 10) part
  pub moved : longer ≡ line ++ part
  pub taken : old ≡ part ++ (newline_if ended ++ new)
  pub some : ended ≡ false → 0 < length part
  pub within : length longer ≤ line_room
  pub room : ended ≡ true → length longer < line_room
