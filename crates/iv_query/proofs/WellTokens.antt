-- The tokens of a text are well: a name is a name, and a value is one that a table may hold.
use Rattle.std.proofs.Common.{◌≡◌, ℕ, ◌-◌, ◌≤◌, Bool, true, false, cond, List, [], ◌∷◌, length, drop, take, Option, Some, None, Result, Ok, Err, refl, subst}
use Rattle.std.specs.Prelude.{◌==◌, nat_lt, nat_le, ◌^◌, IfOk}
use Rattle.std.specs.Char.{is_ascii_digit}
use Rattle.std.specs.List.{prefix_len}
use Rattle.std.specs.Str.Parse.{digits_value}
use Rattle.iv_rows.specs.Names.{is_name}
use Rattle.iv_rows.specs.Texts.{is_well_text}
use Rattle.iv_query.specs.declared.fault.Fault.{Fault}
use Rattle.iv_query.specs.declared.fault.QueryFault.{QueryFault}
use Rattle.iv_query.specs.declared.token.Symbol.{Symbol}
use Rattle.iv_query.specs.declared.token.Symbol.TheVariants as symbol
use Rattle.iv_query.specs.declared.tree.Dialect.TheVariants.{Policy}
use Rattle.iv_query.specs.Tokens.{Tok, Fixed, Name, Quoted}
use Rattle.iv_rows.specs.Options.{if_some}
use Rattle.iv_query.specs.Trees.{PredTree, QueryTree}
use Rattle.iv_query.specs.Lexing.{is_blank, is_letter, is_word_byte, quoted, starts_letter, starts_digit, number_at, negative_at, minus_at, text_at, Ahead, Gap, Nothing, word_symbol, word_token, word_at, less_at, greater_at, not_equal_at, sign_at, ahead, Lexes, at_end, gap, token, broken}
use Rattle.iv_query.specs.Lexing as lexing
use Rattle.iv_query.specs.Query.{IsQuery}
use Rattle.iv_query.specs.Parts.{sources_of}
use Rattle.iv_query.specs.Grammar.{Reads, pred}
use Rattle.iv_query.specs.Texts.{IsText, text_is}
use Rattle.iv_query.specs.Well.{IsWellPred, IsWellQuery}
use Rattle.iv_query.proofs.WellLaws.{WellTok, WellToks, IsWellPred-Reads, IsWellQuery-IsQuery, le-sources_of}

abbrev Holds : Ahead → Type 0
Holds (Gap rest) = Unit {0}
Holds (lexing.Token k rest) = (p : ℕ) → WellTok (k p)
Holds Nothing = Unit {0}

record IsWellAhead (a : Ahead) : Type 0 where
  by : Holds a

either : (b : Bool) {x y : Ahead} → (b ≡ true → IsWellAhead x) → IsWellAhead y → IsWellAhead (cond b x y)
either true h k = h refl
either false h k = k

none : IsWellAhead Nothing
none = record { by = tt }

past : (rest : List ℕ) → IsWellAhead (Gap rest)
past rest = record { by = tt }

fixed : (s : Symbol) (rest : List ℕ) → IsWellAhead (lexing.Token (Fixed s) rest)
fixed s rest = record { by = λ p. tt }

word_well : (w : List ℕ) (p : ℕ) → WellTok (word_token w p)
word_well w p = go (word_symbol w)
  where
    other : (b : Bool) → is_name w ≡ b → WellTok (cond {A = ℕ → Tok} b (Name w) (Fixed symbol.Reserved) p)
    other true e = e
    other false e = tt

    go : (r : Option Symbol) → WellTok (if_some {B = ℕ → Tok} r (cond {A = ℕ → Tok} (is_name w) (Name w) (Fixed symbol.Reserved)) Fixed p)
    go None = other (is_name w) refl
    go (Some s) = tt

word_at_well : (bs : List ℕ) → IsWellAhead (word_at bs)
unfolding word_at
word_at_well bs = either (nat_lt 63 (prefix_len is_word_byte bs)) (λ _. none) (record { by = λ p. word_well _ p })

less_well : (bs : List ℕ) → IsWellAhead (less_at bs)
less_well [] = fixed _ _
less_well (c ∷ cs) = either (c == 61) (λ _. fixed _ _) (either (c == 62) (λ _. fixed _ _) (fixed _ _))

greater_well : (bs : List ℕ) → IsWellAhead (greater_at bs)
greater_well [] = fixed _ _
greater_well (c ∷ cs) = either (c == 61) (λ _. fixed _ _) (fixed _ _)

not_equal_well : (bs : List ℕ) → IsWellAhead (not_equal_at bs)
not_equal_well [] = none
not_equal_well (c ∷ cs) = either (c == 61) (λ _. fixed _ _) none

sign_well : (bs : List ℕ) → IsWellAhead (sign_at bs)
unfolding sign_at
sign_well [] = none
sign_well (b ∷ bs) =
    either (b == 44) (λ _. fixed _ _) (either (b == 46) (λ _. fixed _ _) (either (b == 40) (λ _. fixed _ _) (either (b == 41) (λ _. fixed _ _) (either (b == 42) (λ _. fixed _ _) (either (b == 61) (λ _. fixed _ _)
    (either (b == 33) (λ _. not_equal_well bs) (either (b == 60) (λ _. less_well bs) (either (b == 62) (λ _. greater_well bs) none))))))))

number_well : (bs : List ℕ) → IsWellAhead (number_at bs)
unfolding number_at
number_well bs = either (starts_letter (drop (prefix_len is_ascii_digit bs) bs)) (λ _. none) (either (nat_lt (digits_value 10 (take (prefix_len is_ascii_digit bs) bs)) (2 ^ 63)) (λ _. record { by = λ p. tt }) none)

negative_well : (bs : List ℕ) → IsWellAhead (negative_at bs)
unfolding negative_at
negative_well bs = either (starts_letter (drop (prefix_len is_ascii_digit bs) bs)) (λ _. none) (either (nat_le (digits_value 10 (take (prefix_len is_ascii_digit bs) bs)) (2 ^ 63)) (λ _. record { by = λ p. tt }) none)

text_well : (bs : List ℕ) → IsWellAhead (text_at bs)
unfolding text_at
text_well bs = go (quoted bs)
  where
    go : (r : Option (List ℕ × List ℕ)) → IsWellAhead (if_some r Nothing (λ x. cond (is_well_text x.0) (lexing.Token (Quoted x.0) x.1) Nothing))
    go None = none
    go (Some x) = either (is_well_text x.0) (λ e. record { by = λ p. e }) none

ahead_well : (bs : List ℕ) → IsWellAhead (ahead bs)
unfolding ahead
ahead_well [] = none
ahead_well (b ∷ bs) =
    either (is_blank b) (λ _. past bs) (either (is_letter b) (λ _. word_at_well (b ∷ bs)) (either (is_ascii_digit b) (λ _. number_well (b ∷ bs))
    (either (b == 39) (λ _. text_well bs) (either (b == 45) (λ _. either (starts_digit bs) (λ _. negative_well bs) none) (sign_well (b ∷ bs))))))

lexes_well : {total : ℕ} {bs : List ℕ} {ts : List Tok} {stop : Fault} {ends : Bool} → Lexes total bs ts stop ends → WellToks ts
lexes_well at_end = tt
lexes_well (gap e h) = lexes_well h
lexes_well {total = total} (token {bs = bs} e h) = (subst Holds e (ahead_well bs).by (total - length bs), lexes_well h)
lexes_well (broken e) = tt

-- ---- the trees of texts

query_text_well : {bs : List ℕ} {q : QueryTree} → IsText IsQuery bs q → IsWellQuery q × (sources_of q ≤ 8)
query_text_well (text_is le l h) = (IsWellQuery-IsQuery h (lexes_well l), le-sources_of h)

pred_text_well : {bs : List ℕ} {t : PredTree} → IsText (Reads Policy pred 32) bs t → IsWellPred Policy t
pred_text_well (text_is le l h) = IsWellPred-Reads h (lexes_well l)

module _ {X : Type 0} (bs : List ℕ) where
  pub queries_well : (view : X → QueryTree) (r : Result X QueryFault) → IfOk r (λ x. IsText IsQuery bs (view x)) → IfOk r (λ x. IsWellQuery (view x))
  queries_well view (Ok x) h = (query_text_well h).0
  queries_well view (Err e) h = tt

  pub queries_small : (view : X → QueryTree) (r : Result X QueryFault) → IfOk r (λ x. IsText IsQuery bs (view x)) → IfOk r (λ x. sources_of (view x) ≤ 8)
  queries_small view (Ok x) h = (query_text_well h).1
  queries_small view (Err e) h = tt

  pub preds_well : (view : X → PredTree) (r : Result X QueryFault) → IfOk r (λ x. IsText (Reads Policy pred 32) bs (view x)) → IfOk r (λ x. IsWellPred Policy (view x))
  preds_well view (Ok x) h = pred_text_well h
  preds_well view (Err e) h = tt
