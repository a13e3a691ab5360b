-- From the bytes of a text to its tree, or its first fault, from left to right.
use Rattle.std.specs.Prelude.{ℕ, zero, suc, ◌-◌, Bool, true, false, if◌then◌else◌, nat_lt, List, [], ◌∷◌, length, Result, Err}
use Rattle.iv_query.specs.Limits.{text_bytes, nesting}
use Rattle.iv_query.specs.declared.fault.Fault.{Fault}
use Rattle.iv_query.specs.declared.fault.Why.TheVariants as why
use Rattle.iv_query.specs.declared.tree.Dialect.TheVariants.{Policy}
use Rattle.iv_query.specs.declared.lexer.Tokens.{Tokens}
use Rattle.iv_query.specs.Tokens.{Tok, toks}
use Rattle.iv_query.specs.Trees.{PredTree, QueryTree}
use Rattle.iv_query.specs.Lexing.{Ahead, Gap, Token, Nothing, ahead}
use Rattle.iv_query.specs.Reading.{Read, pred_at, term_at, whole_at}
use Rattle.iv_query.specs.QueryReading.{query_at}

-- what a text is read as: its tokens, the fault after them, and whether that is the end of the text
pub record Lexed : Type 0 where
  pub tokens : List Tok
  pub stop : Fault
  pub ends : Bool

abbrev pub tokens_lexed : Tokens → Lexed
tokens_lexed t = record { tokens = toks t.list.items; stop = t.stop; ends = t.ends }

-- nothing is left of a text of total bytes
abbrev pub at_end : ℕ → Lexed
at_end total = record { tokens = []; stop = record { place = total; why = why.Unexpected }; ends = true }

-- what is in front at a place, and then the rest, read by `more`
abbrev pub lexed_from : ℕ → (List ℕ → Lexed) → Ahead → Lexed
lexed_from place more (Gap rest) = more rest
lexed_from place more (Token k rest) = let later = more rest in record later { tokens = k place ∷ later.tokens }
lexed_from place more Nothing = record { tokens = []; stop = record { place = place; why = why.Token }; ends = false }

-- from the bytes that are left, at most so many, of a text of total bytes
unfoldable pub lexed : (total most : ℕ) → List ℕ → Lexed
lexed total _ [] = at_end total
lexed total zero (b ∷ bs) = at_end total
lexed total (suc most) (b ∷ bs) = lexed_from (total - length (b ∷ bs)) (lexed total most) (ahead (b ∷ bs))

abbrev pub read_tokens : {T : Type 0} → (Fault → List Tok → Read T) → Lexed → Result T Fault
read_tokens read l = whole_at (read l.stop) l.stop l.ends l.tokens

-- a text of at most 4,096 bytes
abbrev pub read_text : {T : Type 0} → (Fault → List Tok → Read T) → List ℕ → Result T Fault
read_text read bs =
    if nat_lt text_bytes (length bs) then Err (record { place = text_bytes; why = why.TooLong })
    else read_tokens read (lexed (length bs) (length bs) bs)

-- the tree of a view's text
abbrev pub read_query : List ℕ → Result QueryTree Fault
read_query = read_text query_at

-- a policy's predicate, with nesting of at most 32
abbrev pub policy_condition_at : Fault → List Tok → Read PredTree
policy_condition_at stop = pred_at (term_at Policy stop nesting)

-- the tree of a policy's text
abbrev pub read_pred : List ℕ → Result PredTree Fault
read_pred = read_text policy_condition_at
