-- What a plain request asks (RFC 9112, sections 2 and 3; RFC 9110, sections 7.8, 9.3, 13.1.2 and 15.5).
use Rattle.std.specs.Prelude.{◌≤◌, ◌<◌, ℕ, ◌==◌, ◌&&◌, ◌||◌, not, Bool, false, if◌then◌else◌, List, [], ◌∷◌, length, take, drop, map, nat_le, bytes_eq, codes, Option, Some, None, is_some}
use Rattle.std.specs.List.{list_any}
use Rattle.std.specs.Char.{to_ascii_lowercase}
use Rattle.httparse.specs.Grammar.{RequestHead, ReadsRequest, MayBecomeRequest, NeverHasRequest}
use Rattle.httparse.specs.Spans.{name_and_value, RequestExceeds}
use Rattle.iv_pages.specs.declared.answers.Refusal.{Refusal}
use Rattle.iv_pages.specs.declared.answers.Refusal.TheVariants.{BadRequest, MethodNotAllowed, TargetTooLong, FieldsTooLarge, VersionNotSupported}

-- a request for a page: whether for its head alone, its target as it was sent, and what `If-None-Match` says
pub record Asked : Type 0 where
  pub only_head : Bool
  pub target : List ℕ
  pub known : Option (List ℕ)

-- nothing yet, a page, another protocol, or what is refused
pub data Want : Type 0 where
  more : Want
  page : Asked → Want
  upgrade : Want
  refused : Refusal → Want

-- names and values
abbrev pub Fields : Type 0
Fields = List (List ℕ × List ℕ)

-- the names of fields are one in any case
unfoldable pub same_name : List ℕ → List ℕ → Bool
same_name a b = bytes_eq (map to_ascii_lowercase a) (map to_ascii_lowercase b)

-- the value of the first field with a name
abbrev pub field_in : List ℕ → Fields → Option (List ℕ)
field_in name [] = None
field_in name (f ∷ fs) = if same_name f.0 name then Some f.1 else field_in name fs

-- one more, if it is, up to two
abbrev pub counted : ℕ → Bool → ℕ
counted n is = if is then (if n == 0 then 1 else 2) else n

-- how many fields are named Host, beside so many, counted up to two
abbrev pub hosts : ℕ → Fields → ℕ
hosts n [] = n
hosts n (f ∷ fs) = hosts (counted n (same_name f.0 (codes "host"))) fs

-- a request of HTTP/1.1 names one host (RFC 9112, section 3.2)
abbrev pub has_host : (minor : ℕ) → Fields → Bool
has_host minor fields = (minor == 0) || (hosts 0 fields == 1)

-- in HTTP/1.0 nobody asks for another protocol (RFC 9110, section 7.8)
abbrev pub asks_upgrade : (minor : ℕ) → Fields → Bool
asks_upgrade minor fields = not (minor == 0) && is_some (field_in (codes "upgrade") fields)

-- contents are after the head
abbrev pub has_contents : Fields → Bool
has_contents fields = is_some (field_in (codes "content-length") fields) || is_some (field_in (codes "transfer-encoding") fields)

abbrev pub page_by : (method target : List ℕ) (known : Option (List ℕ)) → Want
page_by method target known =
    if bytes_eq method (codes "HEAD") || bytes_eq method (codes "GET")
    then page (record { only_head = bytes_eq method (codes "HEAD"); target = target; known = known })
    else refused MethodNotAllowed

-- contents in front of another protocol would be read as its own
abbrev pub want_in : (minor : ℕ) (method target : List ℕ) → Fields → Want
want_in minor method target fields =
    if not (has_host minor fields) then refused BadRequest
    else if asks_upgrade minor fields then (if has_contents fields then refused BadRequest else upgrade)
    else page_by method target (field_in (codes "if-none-match") fields)

-- what a head asks
abbrev pub asked_of : RequestHead → Want
asked_of h = want_in h.minor h.method h.target (map name_and_value h.fields)

-- ---- heads that are too long, and what is none

-- the bytes, and the fields, of a head, at most
abbrev pub most_head : ℕ
most_head = 8192

abbrev pub most_fields : ℕ
most_fields = 64

-- what is looked at
abbrev pub window : List ℕ → List ℕ
window bytes = take most_head bytes

abbrev pub is_other : List ℕ → Bool
is_other [] = false
is_other (major ∷ rest) = (nat_le 48 major && nat_le major 57) && not (major == 49)

-- a space, and another major version than 1
abbrev pub begins_other : List ℕ → Bool
begins_other bytes = bytes_eq (take 6 bytes) (codes " HTTP/") && is_other (drop 6 bytes)

-- the first line says another major version
abbrev pub says_other : List ℕ → Bool
says_other [] = false
says_other (b ∷ bytes) = not (b == 10) && (begins_other (b ∷ bytes) || says_other bytes)

abbrev pub too_long : List ℕ → Refusal
too_long front = if list_any (λ b. b == 10) front then FieldsTooLarge else TargetTooLong

abbrev pub no_head : List ℕ → Refusal
no_head front = if says_other front then VersionNotSupported else BadRequest

-- what the bytes ask that were read so far
pub data Asks : List ℕ → Want → Type 0 where
  whole : (bytes rest : List ℕ) (h : RequestHead) → ReadsRequest (window bytes) h rest → length h.fields ≤ most_fields → Asks bytes (asked_of h)
  waits : (bytes : List ℕ) → MayBecomeRequest (window bytes) → length bytes ≤ most_head → Asks bytes more
  long : (bytes : List ℕ) → MayBecomeRequest (window bytes) → most_head < length bytes → Asks bytes (refused (too_long (window bytes)))
  many : (bytes : List ℕ) → RequestExceeds most_fields (window bytes) → Asks bytes (refused FieldsTooLarge)
  bad : (bytes : List ℕ) → NeverHasRequest (window bytes) → Asks bytes (refused (no_head (window bytes)))
