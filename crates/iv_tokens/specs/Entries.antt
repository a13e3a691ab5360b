-- The file of tokens with their holders and ends, and which of them are valid at a second.
use Rattle.std.specs.Prelude.{◌≡◌, ◌<◌, ◌==◌, ℕ, ◌&&◌, not, Bool, true, if◌then◌else◌, List, [], ◌∷◌, ◌++◌, All, Contains, length, map, filter, nat_le, nat_lt, bytes_eq, codes, find, IfSome, Option, Some, None, option_map, option_and_then}
use Rattle.std.specs.List.{list_all}
use Rattle.std.specs.Str.{is_utf8}
use Rattle.iv_records.specs.Cuts.{behind, cut_at}
use Rattle.iv_clients.specs.Tokens.{Token, are_apart, is_no_token, lines_of, tokens_in}
use Rattle.iv_tokens.specs.Moments.{moment_in}

-- a token, and the second at which it ends, if that is said
pub record Entry : Type 0 where
  pub token : Token
  pub until : Option ℕ

-- ---- a line: `"DIGEST" = "role"`, or `"DIGEST" = { role = "role", holder = "name", until = "moment" }`; holder and end may be left out

-- a text that a quotation mark ends, after a prefix, and what follows it
abbrev pub quoted : (prefix line : List ℕ) → Option (List ℕ × List ℕ)
quoted prefix line = option_and_then (cut_at 34) (behind prefix line)

abbrev pub or_left : List ℕ → Option (List ℕ × List ℕ) → Option (List ℕ) × List ℕ
or_left line None = (None, line)
or_left line (Some p) = (Some p.0, p.1)

-- the same, if it may be left out
abbrev pub maybe_quoted : (prefix line : List ℕ) → Option (List ℕ) × List ℕ
maybe_quoted prefix line = or_left line (quoted prefix line)

pub record Parts : Type 0 where
  pub digits : List ℕ
  pub role : List ℕ
  pub holder : Option (List ℕ)
  pub until : Option (List ℕ)

abbrev pub ends_with : List ℕ → Parts → Option Parts
ends_with rest p = if bytes_eq rest (codes " }") then Some p else None

abbrev pub further_parts : (digits role rest : List ℕ) → Option Parts
further_parts digits role rest =
    let h = maybe_quoted (codes ", holder = \"") rest in
    let u = maybe_quoted (codes ", until = \"") h.1 in
    ends_with u.1 (record { digits = digits; role = role; holder = h.0; until = u.0 })

-- the parts of a line that may say a holder and an end
abbrev pub parts_in : List ℕ → Option Parts
parts_in line =
    option_and_then (λ (d : List ℕ × List ℕ). option_and_then (λ (r : List ℕ × List ℕ). further_parts d.0 r.0 r.1) (quoted (codes " = { role = \"") d.1))
    (quoted (codes "\"") line)

-- the line that says no more than the token
abbrev pub plain_line : (digits role : List ℕ) → List ℕ
plain_line digits role = codes "\"" ++ (digits ++ (codes "\" = \"" ++ (role ++ codes "\"")))

abbrev pub only_one : List Token → Option Token
only_one [] = None
only_one (t ∷ []) = Some t
only_one (t ∷ u ∷ ts) = None

-- the token of a line that says no more: that of a file that has nothing else
abbrev pub token_of : List ℕ → Option Token
token_of line = option_and_then only_one (tokens_in line)

-- no control character and no escape of TOML
abbrev pub is_plain : ℕ → Bool
is_plain b = nat_le 32 b && (not (b == 127) && not (b == 92))

-- a text of 1 to 64 bytes
abbrev pub is_holder : List ℕ → Bool
is_holder name = is_utf8 name && (list_all is_plain name && (nat_lt 0 (length name) && nat_le (length name) 64))

-- no text if it is left out
abbrev pub holder_in : Option (List ℕ) → Option (List ℕ)
holder_in None = Some []
holder_in (Some name) = if is_holder name then Some name else None

abbrev pub end_in : Option (List ℕ) → Option (Option ℕ)
end_in None = Some None
end_in (Some text) = option_map Some (moment_in text)

abbrev pub entry_of : Parts → Option Entry
entry_of p =
    option_and_then (λ h. option_and_then (λ u. option_map (λ t. record { token = record t { user = h }; until = u }) (token_of (plain_line p.digits p.role)))
    (end_in p.until)) (holder_in p.holder)

abbrev pub plain_entry : Token → Entry
plain_entry t = record { token = t; until = None }

abbrev pub or_entry : Option Token → Option Entry → Option Entry
or_entry None e = e
or_entry (Some t) e = Some (plain_entry t)

abbrev pub entry_in : List ℕ → Option Entry
entry_in line = or_entry (token_of line) (option_and_then entry_of (parts_in line))

-- ---- the file

-- each line is an entry or none
abbrev pub entries_of : List (List ℕ) → Option (List Entry)
entries_of [] = Some []
entries_of (l ∷ ls) = if is_no_token l then entries_of ls else option_and_then (λ e. option_map (λ es. e ∷ es) (entries_of ls)) (entry_in l)

abbrev pub tokens_among : List Entry → List Token
tokens_among es = map (λ e. e.token) es

-- the entries of a file; none if a line is wrong or a digest comes twice
abbrev pub entries_in : List ℕ → Option (List Entry)
entries_in file = option_and_then (λ es. if are_apart (tokens_among es) then Some es else None) (entries_of (lines_of file))

-- ---- what is valid

abbrev pub ends_after : (now : ℕ) → (until : Option ℕ) → Bool
ends_after now None = true
ends_after now (Some end) = nat_lt now end

-- at each second before its end
abbrev pub is_valid : (now : ℕ) → Entry → Bool
is_valid now e = ends_after now e.until

-- the tokens that are valid at a second
abbrev pub valid_at : (now : ℕ) → List Entry → List Token
valid_at now es = tokens_among (filter (is_valid now) es)

-- a holder, if one is said
abbrev pub said : List ℕ → Option (List ℕ)
said holder = if length holder == 0 then None else Some holder

-- who holds the token of a digest
abbrev pub holder_of : (digest : List ℕ) → List Entry → Option (List ℕ)
holder_of digest es = option_and_then (λ e. said e.token.user) (find (λ e. bytes_eq e.token.digest digest) es)

-- ---- in other words

-- a token is known that an entry has whose end, if it has one, is yet to come
pub record IsOfEntry (now : ℕ) (es : List Entry) (t : Token) : Type 0 where
  pub entry : Entry
  pub stands : Contains es entry
  pub token : entry.token ≡ t
  pub in_time : IfSome entry.until (λ end. now < end)

abbrev pub NoneIsValidBehindItsEnd : Type 0
NoneIsValidBehindItsEnd = (now : ℕ) (es : List Entry) → All (IsOfEntry now es) (valid_at now es)

-- a file of lines that say no more than tokens has the tokens that it always had, and these have no end
abbrev pub PlainFilesStay : Type 0
PlainFilesStay = (file : List ℕ) (ts : List Token) → tokens_in file ≡ Some ts → entries_in file ≡ Some (map plain_entry ts)
