-- For contracts of the code: what is appended.
use Rattle.std.specs.Prelude.{◌≡◌, Bool, true, false, ℕ, List, ◌++◌}
use Rattle.iv_pages.specs.Place.{is_segment}

-- a name was appended, if it may be shown
abbrev pub IsNamed : Bool → List ℕ → (old new : List ℕ) → Type 0
IsNamed true name old new = (is_segment name ≡ true) × (new ≡ old ++ name)
IsNamed false name old new = is_segment name ≡ false
