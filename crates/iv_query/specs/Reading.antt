-- Reading from left to right, with the first fault that is met.
use Rattle.std.specs.Prelude.{ℕ, zero, suc, Bool, true, false, List, [], ◌∷◌, length, Option, Some, None, Result, Ok, Err}
use Rattle.iv_rows.specs.Cell.{num, text, flag}
use Rattle.iv_query.specs.declared.fault.Fault.{Fault}
use Rattle.iv_query.specs.declared.token.Symbol.{Symbol}
use Rattle.iv_query.specs.declared.token.Symbol.TheVariants as symbol
use Rattle.iv_query.specs.declared.tree.Dialect.{Dialect}
use Rattle.iv_query.specs.declared.tree.Dialect.TheVariants as dialect
use Rattle.iv_query.specs.Tokens.{Tok, Fixed, Name, Number, Quoted, after_symbol, first_place, unexpected, deep, after_op}
use Rattle.iv_rows.specs.Options.{if_some}
use Rattle.iv_query.specs.Parts.{push}
use Rattle.iv_query.specs.Trees.{NameTree, Called, ColumnTree, ColumnAt, OperandTree, OfColumn, Literal, CurrentUser, PredTree, Either, Both, Negation, Constant, Comparison}

infixl 10 ◌>>=◌
abbrev pub ◌>>=◌ : {A B : Type 0} → Result A Fault → (A → Result B Fault) → Result B Fault
(Ok x) >>= f = f x
(Err e) >>= f = Err e

-- what a reader of A gives: a value and the tokens after it, or a fault
abbrev pub Read : Type 0 → Type 0
Read A = Result (A × List Tok) Fault

unfoldable pub need : Symbol → Fault → List Tok → Result (List Tok) Fault
need s stop ts = if_some (after_symbol s ts) (Err (unexpected stop ts)) Ok

abbrev pub name_at : Fault → List Tok → Read NameTree
name_at stop [] = Err stop
name_at stop (Name n p ∷ ts) = Ok (Called n p, ts)
name_at stop (t ∷ ts) = Err (unexpected stop (t ∷ ts))

abbrev pub alone : NameTree → ColumnTree
alone (Called n p) = ColumnAt None n p

abbrev pub dotted : NameTree → NameTree → ColumnTree
dotted (Called s p) (Called n q) = ColumnAt (Some s) n p

unfoldable pub column_at : Fault → List Tok → Read ColumnTree
column_at stop ts = name_at stop ts >>= λ x.
    if_some (after_symbol symbol.Dot x.1) (Ok (alone x.0, x.1)) (λ us. name_at stop us >>= λ y. Ok (dotted x.0 y.0, y.1))

-- the operand that a word is
abbrev pub word_operand : Dialect → Symbol → ℕ → Option OperandTree
word_operand d symbol.True p = Some (Literal (flag true) p)
word_operand d symbol.False p = Some (Literal (flag false) p)
word_operand dialect.Policy symbol.CurrentUser p = Some (CurrentUser p)
word_operand d s p = None

-- the operand that a name begins
unfoldable pub name_operand_at : Dialect → Fault → List Tok → Read OperandTree
name_operand_at dialect.Query stop ts = column_at stop ts >>= λ x. Ok (OfColumn x.0, x.1)
name_operand_at dialect.Policy stop ts = name_at stop ts >>= λ x. Ok (OfColumn (alone x.0), x.1)

unfoldable pub operand_at : Dialect → Fault → List Tok → Read OperandTree
operand_at d stop [] = Err stop
operand_at d stop (Number n p ∷ ts) = Ok (Literal (num n) p, ts)
operand_at d stop (Quoted v p ∷ ts) = Ok (Literal (text v) p, ts)
operand_at d stop (Fixed s p ∷ ts) = if_some (word_operand d s p) (Err (unexpected stop (Fixed s p ∷ ts))) (λ x. Ok (x, ts))
operand_at d stop (Name n p ∷ ts) = name_operand_at d stop (Name n p ∷ ts)

abbrev pub truth_of : OperandTree → Option Bool
truth_of (Literal (flag b) p) = Some b
truth_of x = None

-- two operands and the sign between them, or a truth value that no sign follows
unfoldable pub comparison_at : Dialect → Fault → List Tok → Read PredTree
comparison_at d stop ts = operand_at d stop ts >>= λ x. if_some (after_op x.1)
    (if_some (truth_of x.0) (Err (unexpected stop x.1)) (λ b. Ok (Constant b, x.1)))
    (λ o. operand_at d stop o.1 >>= λ y. Ok (Comparison x.0 o.0 y.0, y.1))

-- { sign item }: items after signs, joined from the left to what was read so far, at most n times
unfoldable pub many_at : {A B : Type 0} → (List Tok → Option (List Tok)) → (A → List Tok → Read B) → (A → B → A) → ℕ → A → List Tok → Read A
many_at sign item join zero a ts = Ok (a, ts)
many_at sign item join (suc n) a ts = if_some (sign ts) (Ok (a, ts)) (λ us. item a us >>= λ x. many_at sign item join n (join a x.0) x.1)

-- item { sign item }
unfoldable pub list_of : {B : Type 0} → Symbol → (List Tok → Read B) → List Tok → Read (List B)
list_of sign item ts = item ts >>= λ x. many_at (after_symbol sign) (λ _. item) push (length x.1) (x.0 ∷ []) x.1

unfoldable pub conj_at : (List Tok → Read PredTree) → List Tok → Read PredTree
conj_at term ts = term ts >>= λ x. many_at (after_symbol symbol.And) (λ _. term) Both (length x.1) x.0 x.1

unfoldable pub pred_at : (List Tok → Read PredTree) → List Tok → Read PredTree
pred_at term ts = conj_at term ts >>= λ x. many_at (after_symbol symbol.Or) (λ _. conj_at term) Either (length x.1) x.0 x.1

-- a term with room for so many signs `(` and words `not` open at once
unfoldable pub term_at : Dialect → Fault → ℕ → List Tok → Read PredTree
term_at d stop zero ts =
    if_some (after_symbol symbol.Not ts) (if_some (after_symbol symbol.Open ts) (comparison_at d stop ts)
    (λ us. Err (deep (first_place stop ts))))
    (λ us. Err (deep (first_place stop ts)))
term_at d stop (suc room) ts =
    if_some (after_symbol symbol.Not ts) (if_some (after_symbol symbol.Open ts) (comparison_at d stop ts)
    (λ us. pred_at (term_at d stop room) us >>= λ x. need symbol.Close stop x.1 >>= λ vs. Ok (x.0, vs)))
    (λ us. term_at d stop room us >>= λ x. Ok (Negation x.0, x.1))

-- after a whole text: nothing, if the text ends there
unfoldable pub end_at : Fault → Bool → List Tok → Result (Unit {0}) Fault
end_at stop true [] = Ok tt
end_at stop false [] = Err stop
end_at stop ends (t ∷ ts) = Err (unexpected stop (t ∷ ts))

-- all tokens of a text; ends says that the text ends after them, where else stop stands
unfoldable pub whole_at : {T : Type 0} → (List Tok → Read T) → Fault → Bool → List Tok → Result T Fault
whole_at read stop ends ts = read ts >>= λ x. end_at stop ends x.1 >>= λ _. Ok x.0
