-- Which file, within a folder of pages, a target names (RFC 3986, sections 2.1, 3.3 and 6.2.2; RFC 9110, section 4.2.3).
use Rattle.std.specs.Prelude.{◌≡◌, ℕ, ◌==◌, ◌&&◌, not, Bool, true, false, if◌then◌else◌, List, [], ◌∷◌, ◌++◌, nat_le, codes, Option, Some, None, option_map, option_and_then}
use Rattle.std.specs.List.{list_all}
use Rattle.percent_encoding.specs.Percent.{percent_decode}
use Rattle.iv_pages.specs.Cut.{before, parts}

-- printable ASCII, and no slash and no backslash
abbrev pub is_plain : ℕ → Bool
is_plain b = nat_le 32 b && (nat_le b 126 && (not (b == 47) && not (b == 92)))

-- a name that may be shown: not empty, not hidden
abbrev pub is_segment : List ℕ → Bool
is_segment [] = false
is_segment (b ∷ s) = not (b == 46) && list_all is_plain (b ∷ s)

-- what the last segment names, decoded once: a folder's page is its index.html
abbrev pub segment_named : List ℕ → List ℕ
segment_named [] = codes "index.html"
segment_named (b ∷ s) = percent_decode (b ∷ s)

abbrev pub shown : List ℕ → Option (List ℕ)
shown s = if is_segment s then Some s else None

-- the names of the segments, with slashes between them; none, if one may not be shown
abbrev pub place_in : List (List ℕ) → Option (List ℕ)
place_in [] = None
place_in (s ∷ []) = shown (segment_named s)
place_in (s ∷ t ∷ ss) = option_and_then (λ here. option_map (λ more. here ++ 47 ∷ more) (place_in (t ∷ ss))) (shown (percent_decode s))

abbrev pub place_at : List ℕ → Option (List ℕ)
place_at [] = None
place_at (b ∷ path) = if b == 47 then place_in (parts 47 path) else None

-- a query is not looked at; cut first and decoded once, so that an encoded slash is in a segment, and `%252e` is `%2e`
abbrev pub place_of : List ℕ → Option (List ℕ)
place_of target = place_at (before 63 target)

-- ---- what a place is

-- no file outside the folder, and none that is hidden: between slashes are names that may be shown, and nothing else
abbrev pub IsInside : List ℕ → Type 0
IsInside place = list_all is_segment (parts 47 place) ≡ true

abbrev pub PlacesAreInside : Type 0
PlacesAreInside = (target place : List ℕ) → place_of target ≡ Some place → IsInside place

-- neither `%` nor `?`, which mean another thing in a target
abbrev pub is_literal : ℕ → Bool
is_literal b = not (b == 37) && not (b == 63)

-- each such path is named, by itself after a slash
abbrev pub PlainIsNamed : Type 0
PlainIsNamed = (place : List ℕ) → IsInside place → list_all is_literal place ≡ true → place_of (47 ∷ place) ≡ Some place
