-- Who may ask what the program tells of itself (RFC 6750, section 2.1; RFC 9110, section 11.6.2).
use Rattle.std.specs.Prelude.{◌≤◌, ℕ, ◌==◌, Bool, false, if◌then◌else◌, List, [], ◌∷◌, length, take, drop, filter, bytes_eq, codes, Option, Some, None}
use Rattle.sha2.specs.Sha256.{sha256}
use Rattle.iv_clients.specs.Tokens.{Token, has_digest}
use Rattle.httparse.specs.Grammar.{ReadsRequest, RequestHead}
use Rattle.iv_pages.specs.Asking.{most_fields, same_name, window}

-- a whole head is in front of what was read (RFC 9112, section 2)
abbrev pub HasHead : List ℕ → Type 0
HasHead bytes = (h : RequestHead) × (rest : List ℕ) × ReadsRequest (window bytes) h rest × (length h.fields ≤ most_fields)

-- it opens the role of administrators
abbrev pub is_admin : Token → Bool
is_admin t = bytes_eq t.role (codes "admin")

abbrev pub admins_among : List Token → List Token
admins_among tokens = filter is_admin tokens

abbrev pub without_spaces : List ℕ → List ℕ
without_spaces [] = []
without_spaces (b ∷ text) = if b == 32 then without_spaces text else b ∷ text

-- the token that a field Authorization presents; the scheme's name is one in any case
abbrev pub presented : List ℕ → Option (List ℕ)
presented value = if same_name (take 7 value) (codes "bearer ") then Some (without_spaces (drop 7 value)) else None

abbrev pub is_known : List Token → Option (List ℕ) → Bool
is_known tokens None = false
is_known tokens (Some token) = has_digest (sha256 token) tokens

-- what a field Authorization presents is one of these tokens
abbrev pub opens_by : List Token → Option (List ℕ) → Bool
opens_by tokens None = false
opens_by tokens (Some value) = is_known tokens (presented value)
