-- From bytes to tokens: the longest token that is in front, each with its place.
use Rattle.std.specs.Prelude.{◌≡◌, ℕ, ◌-◌, ◌^◌, Bool, true, false, ◌||◌, ◌==◌, ◌++◌, not, nat_lt, nat_le, if◌then◌else◌, List, [], ◌∷◌, map, length, take, drop, codes, Option, Some, None, option_map, pos, neg_ℤ}
use Rattle.std.specs.Char.{is_ascii_alphabetic, is_ascii_digit, to_ascii_lowercase}
use Rattle.std.specs.List.{prefix_len}
use Rattle.std.specs.Str.{bytes_eq}
use Rattle.std.specs.Str.Parse.{digits_value}
use Rattle.iv_rows.specs.Names.{is_name}
use Rattle.iv_rows.specs.Texts.{is_well_text}
use Rattle.iv_query.specs.Limits.{word_bytes}
use Rattle.iv_query.specs.declared.fault.Fault.{Fault}
use Rattle.iv_query.specs.declared.fault.Why.TheVariants as why
use Rattle.iv_query.specs.declared.token.Symbol.{Symbol}
use Rattle.iv_query.specs.declared.token.Symbol.TheVariants as symbol
use Rattle.iv_query.specs.declared.lexer.Front.{Front}
use Rattle.iv_query.specs.declared.lexer.Front.TheVariants as front
use Rattle.iv_query.specs.Tokens.{Tok, Fixed, Name, Number, Quoted, tok_of}
use Rattle.iv_rows.specs.Options.{if_some}

-- space, tab, line feed, carriage return, form feed
abbrev pub is_blank : ℕ → Bool
is_blank b = (b == 32) || (b == 9) || (b == 10) || (b == 13) || (b == 12)

-- A to Z, a to z or an underscore
abbrev pub is_letter : ℕ → Bool
is_letter b = is_ascii_alphabetic b || (b == 95)

abbrev pub is_word_byte : ℕ → Bool
is_word_byte b = is_letter b || is_ascii_digit b

-- what is in front of a text: a byte that separates, or a token, which a place completes, each with what follows it, or neither
pub data Ahead : Type 0 where
  Gap : List ℕ → Ahead
  Token : (ℕ → Tok) → List ℕ → Ahead
  Nothing : Ahead

abbrev pub ahead_of : Front → Ahead
ahead_of (front.Gap rest) = Gap rest.now
ahead_of (front.Token l rest) = Token (tok_of l) rest.now
ahead_of front.Nothing = Nothing

-- the words that rules have, in lower case
unfoldable pub word_symbol : List ℕ → Option Symbol
word_symbol w =
    if bytes_eq w (codes "all") then Some symbol.All
    else (if bytes_eq w (codes "and") then Some symbol.And
    else (if bytes_eq w (codes "as") then Some symbol.As
    else (if bytes_eq w (codes "by") then Some symbol.By
    else (if bytes_eq w (codes "count") then Some symbol.Count
    else (if bytes_eq w (codes "current_user") then Some symbol.CurrentUser
    else (if bytes_eq w (codes "distinct") then Some symbol.Distinct
    else (if bytes_eq w (codes "except") then Some symbol.Except
    else (if bytes_eq w (codes "false") then Some symbol.False
    else (if bytes_eq w (codes "from") then Some symbol.From
    else (if bytes_eq w (codes "group") then Some symbol.Group
    else (if bytes_eq w (codes "inner") then Some symbol.Inner
    else (if bytes_eq w (codes "join") then Some symbol.Join
    else (if bytes_eq w (codes "not") then Some symbol.Not
    else (if bytes_eq w (codes "on") then Some symbol.On
    else (if bytes_eq w (codes "or") then Some symbol.Or
    else (if bytes_eq w (codes "select") then Some symbol.Select
    else (if bytes_eq w (codes "sum") then Some symbol.Sum
    else (if bytes_eq w (codes "true") then Some symbol.True
    else (if bytes_eq w (codes "union") then Some symbol.Union
    else (if bytes_eq w (codes "where") then Some symbol.Where
    else None))))))))))))))))))))

-- a word in lower case: one that a rule has, a name, or another reserved word
abbrev pub word_token : List ℕ → ℕ → Tok
word_token w = if_some (word_symbol w) (if is_name w then Name w else Fixed symbol.Reserved) Fixed

-- a letter and the letters and digits after it, at most 63 bytes
unfoldable pub word_at : List ℕ → Ahead
word_at bs = let n = prefix_len is_word_byte bs in
    if nat_lt word_bytes n then Nothing else Token (word_token (map to_ascii_lowercase (take n bs))) (drop n bs)

-- the signs that may go on
abbrev pub less_at : List ℕ → Ahead
less_at [] = Token (Fixed symbol.Less) []
less_at (c ∷ cs) =
    if c == 61 then Token (Fixed symbol.LessEqual) cs
    else (if c == 62 then Token (Fixed symbol.NotEqual) cs
    else Token (Fixed symbol.Less) (c ∷ cs))

abbrev pub greater_at : List ℕ → Ahead
greater_at [] = Token (Fixed symbol.Greater) []
greater_at (c ∷ cs) = if c == 61 then Token (Fixed symbol.GreaterEqual) cs else Token (Fixed symbol.Greater) (c ∷ cs)

abbrev pub not_equal_at : List ℕ → Ahead
not_equal_at [] = Nothing
not_equal_at (c ∷ cs) = if c == 61 then Token (Fixed symbol.NotEqual) cs else Nothing

-- , . ( ) * = <> != < <= > >=
unfoldable pub sign_at : List ℕ → Ahead
sign_at [] = Nothing
sign_at (b ∷ bs) =
    if b == 44 then Token (Fixed symbol.Comma) bs
    else (if b == 46 then Token (Fixed symbol.Dot) bs
    else (if b == 40 then Token (Fixed symbol.Open) bs
    else (if b == 41 then Token (Fixed symbol.Close) bs
    else (if b == 42 then Token (Fixed symbol.Star) bs
    else (if b == 61 then Token (Fixed symbol.Equal) bs
    else (if b == 33 then not_equal_at bs
    else (if b == 60 then less_at bs
    else (if b == 62 then greater_at bs
    else Nothing))))))))

abbrev pub starts_letter : List ℕ → Bool
starts_letter [] = false
starts_letter (b ∷ bs) = is_letter b

abbrev pub starts_digit : List ℕ → Bool
starts_digit [] = false
starts_digit (b ∷ bs) = is_ascii_digit b

-- digits that no letter follows, below 2 ^ 63
unfoldable pub number_at : List ℕ → Ahead
number_at bs = let n = prefix_len is_ascii_digit bs in
    if starts_letter (drop n bs) then Nothing
    else (if nat_lt (digits_value 10 (take n bs)) (2 ^ 63) then Token (Number (pos (digits_value 10 (take n bs)))) (drop n bs)
    else Nothing)

-- the same after a minus, up to 2 ^ 63
unfoldable pub negative_at : List ℕ → Ahead
negative_at bs = let n = prefix_len is_ascii_digit bs in
    if starts_letter (drop n bs) then Nothing
    else (if nat_le (digits_value 10 (take n bs)) (2 ^ 63) then Token (Number (neg_ℤ (pos (digits_value 10 (take n bs))))) (drop n bs)
    else Nothing)

abbrev pub is_plain : ℕ → Bool
is_plain b = not (b == 39)

-- what follows a quote that comes first
abbrev pub after_quote : List ℕ → Option (List ℕ)
after_quote [] = None
after_quote (b ∷ bs) = if b == 39 then Some bs else None

-- a value and what follows it, with bytes put in front of the value
abbrev pub onto : List ℕ → Option (List ℕ × List ℕ) → Option (List ℕ × List ℕ)
onto v r = option_map (λ x. (v ++ x.0, x.1)) r

-- after a minus
abbrev pub minus_at : List ℕ → Ahead
minus_at bs = if starts_digit bs then negative_at bs else Nothing

-- after a quote: the value up to the closing quote, each doubled quote once, and what follows
unfoldable pub quoted : List ℕ → Option (List ℕ × List ℕ)
quoted [] = None
quoted (b ∷ []) = if b == 39 then Some ([], []) else None
quoted (b ∷ c ∷ bs) =
    if b == 39 then (if c == 39 then onto (39 ∷ []) (quoted bs) else Some ([], c ∷ bs))
    else onto (b ∷ []) (quoted (c ∷ bs))

-- a value of at most 1,024 bytes without U+0000
unfoldable pub text_at : List ℕ → Ahead
text_at bs = if_some (quoted bs) Nothing (λ x. if is_well_text x.0 then Token (Quoted x.0) x.1 else Nothing)

unfoldable pub ahead : List ℕ → Ahead
ahead [] = Nothing
ahead (b ∷ bs) =
    if is_blank b then Gap bs
    else (if is_letter b then word_at (b ∷ bs)
    else (if is_ascii_digit b then number_at (b ∷ bs)
    else (if b == 39 then text_at bs
    else (if b == 45 then minus_at bs
    else sign_at (b ∷ bs)))))

-- what a text of total bytes is read as from bs on: its tokens, the fault after them, and whether that is the end of the text
pub data Lexes (total : ℕ) : List ℕ → List Tok → Fault → Bool → Type 0 where
  at_end : Lexes total [] [] (record { place = total; why = why.Unexpected }) true
  gap : {bs rest : List ℕ} {ts : List Tok} {stop : Fault} {ends : Bool} → ahead bs ≡ Gap rest → Lexes total rest ts stop ends → Lexes total bs ts stop ends
  token : {bs rest : List ℕ} {k : ℕ → Tok} {ts : List Tok} {stop : Fault} {ends : Bool}
      → ahead bs ≡ Token k rest → Lexes total rest ts stop ends → Lexes total bs (k (total - length bs) ∷ ts) stop ends
  broken : {b : ℕ} {bs : List ℕ} → ahead (b ∷ bs) ≡ Nothing → Lexes total (b ∷ bs) [] (record { place = total - length (b ∷ bs); why = why.Token }) false
