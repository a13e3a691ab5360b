-- Which role a token opens, and the file that says so.
use Rattle.std.specs.Prelude.{ℕ, ◌==◌, ◌&&◌, ◌||◌, not, Bool, true, if◌then◌else◌, List, [], ◌∷◌, length, nat_lt, bytes_eq, codes, find, Option, Some, None, option_map, option_and_then}
use Rattle.std.specs.List.{list_any}
use Rattle.hex.specs.Hex.{decode_of}
use Rattle.iv_rows.specs.Names.{is_name}
use Rattle.iv_access.specs.Rights.{Name}
use Rattle.iv_records.specs.Cuts.{behind, cut_at, decoded}

-- the SHA-256 of a token, the role that it opens, and who holds it; of a token without a holder no text
pub record Token : Type 0 where
  pub digest : List ℕ
  pub role : Name
  pub user : List ℕ

abbrev pub token_of : List Token → List ℕ → Option Token
token_of tokens digest = find (λ t. bytes_eq t.digest digest) tokens

-- the role that the token of a digest opens
abbrev pub role_opened : List Token → List ℕ → Option Name
role_opened tokens digest = option_map (λ t. t.role) (token_of tokens digest)

-- ---- the file: lines of TOML, `[tokens]` and then `"DIGEST" = "role"`

-- the digits of a digest and a role, each between quotation marks, and nothing after them
abbrev pub token_parts : List ℕ → Option (List ℕ × List ℕ)
token_parts line =
    option_and_then (λ (d : List ℕ × List ℕ). option_and_then (λ role_on.
    option_and_then {U = List ℕ × List ℕ} (λ (r : List ℕ × List ℕ). if length r.1 == 0 then Some (d.0, r.0) else None)
    (cut_at 34 role_on)) (behind (codes " = \"") d.1)) (option_and_then (cut_at 34) (behind (codes "\"") line))

abbrev pub digest_in : List ℕ → Option (List ℕ)
digest_in digits = decoded (decode_of digits)

abbrev pub role_in : List ℕ → Option Name
role_in role = if is_name role then Some role else None

-- a digest has 32 bytes
abbrev pub token_with : Name → List ℕ → Option Token
token_with role digest = if length digest == 32 then Some (record { digest = digest; role = role; user = [] }) else None

abbrev pub token_in : List ℕ → Option Token
token_in line = option_and_then (λ (p : List ℕ × List ℕ).
    option_and_then (λ role. option_and_then (token_with role) (digest_in p.0)) (role_in p.1)) (token_parts line)

-- the name of the table, a remark, or nothing
abbrev pub is_no_token : List ℕ → Bool
is_no_token [] = true
is_no_token (b ∷ line) = (b == 35) || bytes_eq (b ∷ line) (codes "[tokens]")

-- each line is a token or none
abbrev pub tokens_of : List (List ℕ) → Option (List Token)
tokens_of [] = Some []
tokens_of (l ∷ ls) = if is_no_token l then tokens_of ls else option_and_then (λ t. option_map (λ ts. t ∷ ts) (tokens_of ls)) (token_in l)

abbrev pub begun : ℕ → List (List ℕ) → List (List ℕ)
begun b [] = (b ∷ []) ∷ []
begun b (l ∷ ls) = (b ∷ l) ∷ ls

-- the lines of a file; the last need not end with a newline
abbrev pub lines_of : List ℕ → List (List ℕ)
lines_of [] = [] ∷ []
lines_of (b ∷ bytes) = if b == 10 then [] ∷ lines_of bytes else begun b (lines_of bytes)

abbrev pub has_digest : List ℕ → List Token → Bool
has_digest digest ts = list_any (λ (t : Token). bytes_eq t.digest digest) ts

-- no digest comes twice
abbrev pub are_apart : List Token → Bool
are_apart [] = true
are_apart (t ∷ ts) = not (has_digest t.digest ts) && are_apart ts

-- the tokens of a file; none if a line is wrong, a digest comes twice, or there is no token
abbrev pub tokens_in : List ℕ → Option (List Token)
tokens_in file = option_and_then (λ ts. if are_apart ts && nat_lt 0 (length ts) then Some ts else None) (tokens_of (lines_of file))
