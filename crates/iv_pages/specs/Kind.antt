-- The media type of a file (RFC 9110, section 8.3; RFC 9239; the registry of media types of IANA).
use Rattle.std.specs.Prelude.{ℕ, ◌==◌, Bool, if◌then◌else◌, List, [], ◌∷◌, bytes_eq, codes, ◌||◌}
use Rattle.std.specs.List.{list_any}
use Rattle.iv_pages.specs.Cut.{parts}

abbrev pub last_of : List (List ℕ) → List ℕ
last_of [] = []
last_of (p ∷ []) = p
last_of (p ∷ q ∷ ps) = last_of (q ∷ ps)

abbrev pub has_dot : List ℕ → Bool
has_dot name = list_any (λ b. b == 46) name

-- what follows the last dot of a name; nothing, if it has none
abbrev pub ending_in : List ℕ → List ℕ
ending_in name = if has_dot name then last_of (parts 46 name) else []

-- of the last name in a path
abbrev pub ending_of : List ℕ → List ℕ
ending_of place = ending_in (last_of (parts 47 place))

-- images and fonts
abbrev pub drawn_type : List ℕ → List ℕ
drawn_type e =
    if bytes_eq e (codes "svg") then codes "image/svg+xml"
    else if bytes_eq e (codes "png") then codes "image/png"
    else if bytes_eq e (codes "jpg") || bytes_eq e (codes "jpeg") then codes "image/jpeg"
    else if bytes_eq e (codes "ico") then codes "image/vnd.microsoft.icon"
    else if bytes_eq e (codes "woff2") then codes "font/woff2"
    else codes "application/octet-stream"

abbrev pub other_type : List ℕ → List ℕ
other_type e =
    if bytes_eq e (codes "json") || bytes_eq e (codes "map") then codes "application/json"
    else if bytes_eq e (codes "webmanifest") then codes "application/manifest+json"
    else if bytes_eq e (codes "wasm") then codes "application/wasm"
    else drawn_type e

-- text has its charset
abbrev pub type_of : List ℕ → List ℕ
type_of e =
    if bytes_eq e (codes "html") then codes "text/html; charset=utf-8"
    else if bytes_eq e (codes "js") || bytes_eq e (codes "mjs") then codes "text/javascript; charset=utf-8"
    else if bytes_eq e (codes "css") then codes "text/css; charset=utf-8"
    else if bytes_eq e (codes "txt") then codes "text/plain; charset=utf-8"
    else other_type e

abbrev pub kind_of : List ℕ → List ℕ
kind_of place = type_of (ending_of place)
