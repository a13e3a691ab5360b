-- For contracts of the code: what the lines of a file of tokens are read as.
use Rattle.std.specs.Prelude.{ℕ, List, ◌++◌, Option, Some, None, option_map, Result, Ok, Err}
use Rattle.std.specs.Global.{Vec}
use Rattle.iv_clients.specs.declared.tokens.Token.{Token}

-- what is read after these tokens
abbrev pub behind_tokens : List Token → Option (List Token) → Option (List Token)
behind_tokens ts o = option_map (λ more. ts ++ more) o

abbrev pub tokens_read : Result (Vec Token) ℕ → Option (List Token)
tokens_read (Ok ts) = Some ts.items
tokens_read (Err number) = None
