-- Tokens without where they lie in memory.
use Rattle.std.specs.Prelude.{ℕ, ℤ, Bool, true, false, List, [], ◌∷◌, map, Option, Some, None, if◌then◌else◌, string_bytes}
use denote.Enum.Bare.{sameb}
use Rattle.iv_query.specs.contracts.token.Symbol.{the_type}
use Rattle.iv_query.specs.declared.fault.Fault.{Fault}
use Rattle.iv_query.specs.declared.fault.Why.TheVariants as why
use Rattle.iv_query.specs.declared.token.Symbol.{Symbol}
use Rattle.iv_query.specs.declared.token.Symbol.TheVariants as symbol
use Rattle.iv_query.specs.declared.token.Lexeme.{Lexeme}
use Rattle.iv_query.specs.declared.token.Lexeme.TheVariants as lexeme
use Rattle.iv_query.specs.declared.token.Token.{Token}
use Rattle.iv_query.specs.declared.tree.Op.{Op}
use Rattle.iv_query.specs.declared.tree.Op.TheVariants as op
use Rattle.iv_rows.specs.Options.{if_some}

-- a token and its place: a reserved word or a sign, a name in lower case, a number, the value of a quoted text
pub data Tok : Type 0 where
  Fixed : Symbol → ℕ → Tok
  Name : List ℕ → ℕ → Tok
  Number : ℤ → ℕ → Tok
  Quoted : List ℕ → ℕ → Tok

abbrev pub tok_of : Lexeme → ℕ → Tok
tok_of (lexeme.Fixed s) p = Fixed s p
tok_of (lexeme.Name n) p = Name (string_bytes n) p
tok_of (lexeme.Number n) p = Number n p
tok_of (lexeme.Quoted v) p = Quoted (string_bytes v) p

abbrev pub tok : Token → Tok
tok t = tok_of t.lexeme t.place

abbrev pub toks : List Token → List Tok
toks ts = map tok ts

abbrev pub token_place : Tok → ℕ
token_place (Fixed s p) = p
token_place (Name n p) = p
token_place (Number n p) = p
token_place (Quoted v p) = p

-- the first token's place, or where the tokens end
abbrev pub first_place : Fault → List Tok → ℕ
first_place stop [] = stop.place
first_place stop (t ∷ ts) = token_place t

abbrev pub is_symbol : Symbol → Tok → Bool
is_symbol s (Fixed t p) = sameb the_type t s
is_symbol s (Name n p) = false
is_symbol s (Number n p) = false
is_symbol s (Quoted v p) = false

-- what follows the symbol, if it comes first
unfoldable pub after_symbol : Symbol → List Tok → Option (List Tok)
after_symbol s [] = None
after_symbol s (t ∷ ts) = if is_symbol s t then Some ts else None

abbrev pub is_name_token : Tok → Bool
is_name_token (Fixed s p) = false
is_name_token (Name n p) = true
is_name_token (Number n p) = false
is_name_token (Quoted v p) = false

abbrev pub starts_name : List Tok → Bool
starts_name [] = false
starts_name (t ∷ ts) = is_name_token t

-- the first token, which is not one that is needed there, or stop, the fault where the tokens end
abbrev pub unexpected : Fault → List Tok → Fault
unexpected stop [] = stop
unexpected stop (t ∷ ts) = record { place = token_place t; why = why.Unexpected }

-- too deep at a place
abbrev pub deep : ℕ → Fault
deep p = record { place = p; why = why.TooDeep }

-- op = "=" | "<>" | "<" | "<=" | ">" | ">="
abbrev pub op_of : Symbol → Option Op
op_of symbol.Equal = Some op.Equal
op_of symbol.NotEqual = Some op.NotEqual
op_of symbol.Less = Some op.Less
op_of symbol.LessEqual = Some op.LessEqual
op_of symbol.Greater = Some op.Greater
op_of symbol.GreaterEqual = Some op.GreaterEqual
op_of _ = None

-- a comparison sign that comes first, and what follows it
abbrev pub after_op : List Tok → Option (Op × List Tok)
after_op [] = None
after_op (Fixed s p ∷ ts) = if_some (op_of s) None (λ o. Some (o, ts))
after_op (t ∷ ts) = None
