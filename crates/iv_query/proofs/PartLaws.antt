-- The parts that queries and predicates share: the function that reads and the grammar say the same.
use Rattle.std.proofs.Common.{◌≡◌, ℕ, ◌≤◌, false, List, [], ◌∷◌, length, Option, Some, None, Ok, Err, refl, ◌∙◌, arith}
use Rattle.iv_query.specs.declared.fault.Fault.{Fault}
use Rattle.iv_query.specs.declared.token.Symbol.{Symbol}
use Rattle.iv_query.specs.declared.token.Symbol.TheVariants as symbol
use Rattle.iv_query.specs.declared.tree.Dialect.{Dialect}
use Rattle.iv_query.specs.declared.tree.Dialect.TheVariants.{Query, Policy}
use Rattle.iv_query.specs.Tokens.{Tok, Fixed, Name, Number, Quoted, after_symbol, starts_name, unexpected}
use Rattle.iv_rows.specs.Options.{if_some}
use Rattle.iv_query.specs.Trees.{Called, ColumnTree, OperandTree, OfColumn}
use Rattle.iv_query.specs.Grammar.{IsColumn, plain, dotted, ColumnFault, no_column, no_name, IsOperand, column_is, name_is, number_is, text_is, true_is, false_is, user_is, is_operand_word, starts_operand, OperandFault, no_operand, in_column}
use Rattle.iv_query.specs.Reading.{◌>>=◌, name_at, alone, dotted as dotted_tree, column_at, word_operand, name_operand_at, operand_at}
use Rattle.iv_query.proofs.Steps.{Front, there, absent, Front-after_symbol, Outcome, good, bad, Outcome-bind}

-- ---- columns

pub name_at-no_name : (stop : Fault) (ts : List Tok) → starts_name ts ≡ false → name_at stop ts ≡ Err (unexpected stop ts)
name_at-no_name stop [] e = refl
name_at-no_name stop (Name n p ∷ ts) e = absurd cc
name_at-no_name stop (t ∷ ts) e = refl

dotted_judged : (stop : Fault) (s : List ℕ) (p q : ℕ) (us : List Tok) → Outcome (IsColumn (Name s p ∷ Fixed symbol.Dot q ∷ us)) (ColumnFault stop (Name s p ∷ Fixed symbol.Dot q ∷ us)) (name_at stop us >>= λ y. Ok (dotted_tree (Called s p) y.0, y.1))
dotted_judged stop s p q [] = bad (no_name refl)
dotted_judged stop s p q (Name n r ∷ us) = good dotted
dotted_judged stop s p q (Fixed t r ∷ us) = bad (no_name refl)
dotted_judged stop s p q (Number n r ∷ us) = bad (no_name refl)
dotted_judged stop s p q (Quoted v r ∷ us) = bad (no_name refl)

pub Outcome-column_at : (stop : Fault) (ts : List Tok) → Outcome (IsColumn ts) (ColumnFault stop ts) (column_at stop ts)
unfolding column_at
Outcome-column_at stop [] = bad (no_column refl)
Outcome-column_at stop (Name s p ∷ ts) = go ts (after_symbol symbol.Dot ts) (Front-after_symbol symbol.Dot ts)
  where
    go : (ts : List Tok) (r : Option (List Tok)) → Front symbol.Dot ts r → Outcome (IsColumn (Name s p ∷ ts)) (ColumnFault stop (Name s p ∷ ts)) (if_some r (Ok (alone (Called s p), ts)) (λ us. name_at stop us >>= λ y. Ok (dotted_tree (Called s p) y.0, y.1)))
    go ts None (absent e) = good (plain e)
    go _ (Some us) (there {p = q}) = dotted_judged stop s p q us
Outcome-column_at stop (Fixed t r ∷ us) = bad (no_column refl)
Outcome-column_at stop (Number n r ∷ us) = bad (no_column refl)
Outcome-column_at stop (Quoted v r ∷ us) = bad (no_column refl)

pub column_at-IsColumn : (stop : Fault) {ts us : List Tok} {c : ColumnTree} → IsColumn ts c us → column_at stop ts ≡ Ok (c, us)
unfolding column_at after_symbol
column_at-IsColumn stop (plain e) = rw e refl
column_at-IsColumn stop dotted = refl

pub column_at-ColumnFault : (stop : Fault) {ts : List Tok} {f : Fault} → ColumnFault stop ts f → column_at stop ts ≡ Err f
unfolding column_at after_symbol
column_at-ColumnFault stop (no_column {ts = ts} e) = rw (name_at-no_name stop ts e) refl
column_at-ColumnFault stop (no_name {ts = ts} e) = rw (name_at-no_name stop ts e) refl

pub le-IsColumn : {ts us : List Tok} {c : ColumnTree} → IsColumn ts c us → length us ≤ length ts
le-IsColumn (plain e) = omega arith
le-IsColumn dotted = omega arith

-- ---- operands

abbrev WordJudged : Fault → Dialect → Symbol → ℕ → List Tok → Option OperandTree → Type 0
WordJudged stop d s p ts None = is_operand_word d s ≡ false
WordJudged stop d s p ts (Some x) = IsOperand d (Fixed s p ∷ ts) x ts

word_judged : (stop : Fault) (d : Dialect) (s : Symbol) (p : ℕ) (ts : List Tok) → WordJudged stop d s p ts (word_operand d s p)
word_judged stop d symbol.True p ts = true_is
word_judged stop d symbol.False p ts = false_is
word_judged stop Policy symbol.CurrentUser p ts = user_is
word_judged stop Query s p ts = refl
word_judged stop Policy s p ts = refl

pub Outcome-operand_at : (stop : Fault) (d : Dialect) (ts : List Tok) → Outcome (IsOperand d ts) (OperandFault stop d ts) (operand_at d stop ts)
unfolding operand_at name_operand_at
Outcome-operand_at stop d [] = bad (no_operand refl)
Outcome-operand_at stop d (Number n p ∷ ts) = good number_is
Outcome-operand_at stop d (Quoted v p ∷ ts) = good text_is
Outcome-operand_at stop d (Fixed s p ∷ ts) = go (word_operand d s p) (word_judged stop d s p ts)
  where
    go : (r : Option OperandTree) → WordJudged stop d s p ts r → Outcome (IsOperand d (Fixed s p ∷ ts)) (OperandFault stop d (Fixed s p ∷ ts)) (if_some r (Err (unexpected stop (Fixed s p ∷ ts))) (λ x. Ok (x, ts)))
    go None e = bad (no_operand e)
    go (Some x) h = good h
Outcome-operand_at stop Query (Name n p ∷ ts) = Outcome-bind (column_at stop (Name n p ∷ ts)) _ (Outcome-column_at stop (Name n p ∷ ts)) (λ x h. good (column_is h)) (λ f h. in_column h)
Outcome-operand_at stop Policy (Name n p ∷ ts) = good name_is

column_begins : {ts us : List Tok} {c : ColumnTree} (stop : Fault) → IsColumn ts c us → operand_at Query stop ts ≡ (column_at stop ts >>= λ x. Ok (OfColumn x.0, x.1))
unfolding operand_at name_operand_at
column_begins stop (plain e) = refl
column_begins stop dotted = refl

pub operand_at-IsOperand : (stop : Fault) {d : Dialect} {ts us : List Tok} {x : OperandTree} → IsOperand d ts x us → operand_at d stop ts ≡ Ok (x, us)
unfolding operand_at name_operand_at
operand_at-IsOperand stop (column_is h) = column_begins stop h ∙ rw (column_at-IsColumn stop h) refl
operand_at-IsOperand stop name_is = refl
operand_at-IsOperand stop number_is = refl
operand_at-IsOperand stop text_is = refl
operand_at-IsOperand stop true_is = refl
operand_at-IsOperand stop false_is = refl
operand_at-IsOperand stop user_is = refl

no_word : (d : Dialect) (s : Symbol) (p : ℕ) → is_operand_word d s ≡ false → word_operand d s p ≡ None
no_word d symbol.True p e = absurd cc
no_word d symbol.False p e = absurd cc
no_word Policy symbol.CurrentUser p e = absurd cc
no_word Query s p e = refl
no_word Policy s p e = refl

pub no_operand_at : (stop : Fault) (d : Dialect) (ts : List Tok) → starts_operand d ts ≡ false → operand_at d stop ts ≡ Err (unexpected stop ts)
unfolding operand_at
no_operand_at stop d [] e = refl
no_operand_at stop d (Fixed s p ∷ ts) e = rw (no_word d s p e) refl
no_operand_at stop d (t ∷ ts) e = absurd cc

pub operand_at-OperandFault : (stop : Fault) {d : Dialect} {ts : List Tok} {f : Fault} → OperandFault stop d ts f → operand_at d stop ts ≡ Err f
unfolding operand_at name_operand_at
operand_at-OperandFault stop (no_operand {d = d} {ts = ts} e) = no_operand_at stop d ts e
operand_at-OperandFault stop (in_column h) = rw (column_at-ColumnFault stop h) refl

pub le-IsOperand : {d : Dialect} {ts us : List Tok} {x : OperandTree} → IsOperand d ts x us → length us ≤ length ts
le-IsOperand (column_is h) = le-IsColumn h
le-IsOperand name_is = omega arith
le-IsOperand number_is = omega arith
le-IsOperand text_is = omega arith
le-IsOperand true_is = omega arith
le-IsOperand false_is = omega arith
le-IsOperand user_is = omega arith
