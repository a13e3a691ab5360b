-- The grammar of predicates: which trees a list of tokens has, and which fault a list without one has.
use Rattle.std.specs.Prelude.{◌≡◌, ℕ, suc, ℤ, Bool, true, false, List, [], ◌∷◌, Some, None}
use Rattle.iv_rows.specs.Cell.{num, text, flag}
use Rattle.iv_query.specs.declared.fault.Fault.{Fault}
use Rattle.iv_query.specs.declared.token.Symbol.{Symbol}
use Rattle.iv_query.specs.declared.token.Symbol.TheVariants.{And, Close, Dot, False, Not, Open, Or, True}
use Rattle.iv_query.specs.declared.token.Symbol.TheVariants as symbol
use Rattle.iv_query.specs.declared.tree.Op.{Op}
use Rattle.iv_query.specs.declared.tree.Dialect.{Dialect}
use Rattle.iv_query.specs.declared.tree.Dialect.TheVariants.{Query, Policy}
use Rattle.iv_query.specs.Tokens.{Tok, Fixed, Name, Number, Quoted, after_symbol, after_op, op_of, starts_name, unexpected, deep}
use Rattle.iv_query.specs.Trees.{ColumnTree, ColumnAt, OperandTree, OfColumn, Literal, CurrentUser, PredTree, Either, Both, Negation, Constant, Comparison}

-- column = name [ "." name ]
pub data IsColumn : List Tok → ColumnTree → List Tok → Type 0 where
  plain : {n : List ℕ} {p : ℕ} {ts : List Tok} → after_symbol Dot ts ≡ None → IsColumn (Name n p ∷ ts) (ColumnAt None n p) ts
  dotted : {s n : List ℕ} {p q r : ℕ} {ts : List Tok} → IsColumn (Name s p ∷ Fixed Dot q ∷ Name n r ∷ ts) (ColumnAt (Some s) n p) ts

pub data ColumnFault (stop : Fault) : List Tok → Fault → Type 0 where
  no_column : {ts : List Tok} → starts_name ts ≡ false → ColumnFault stop ts (unexpected stop ts)
  no_name : {s : List ℕ} {p q : ℕ} {ts : List Tok} → starts_name ts ≡ false → ColumnFault stop (Name s p ∷ Fixed Dot q ∷ ts) (unexpected stop ts)

-- operand = column | number | text | "true" | "false"; in a policy a name in place of a column, and also "current_user"
pub data IsOperand : Dialect → List Tok → OperandTree → List Tok → Type 0 where
  column_is : {ts us : List Tok} {c : ColumnTree} → IsColumn ts c us → IsOperand Query ts (OfColumn c) us
  name_is : {n : List ℕ} {p : ℕ} {ts : List Tok} → IsOperand Policy (Name n p ∷ ts) (OfColumn (ColumnAt None n p)) ts
  number_is : {d : Dialect} {n : ℤ} {p : ℕ} {ts : List Tok} → IsOperand d (Number n p ∷ ts) (Literal (num n) p) ts
  text_is : {d : Dialect} {v : List ℕ} {p : ℕ} {ts : List Tok} → IsOperand d (Quoted v p ∷ ts) (Literal (text v) p) ts
  true_is : {d : Dialect} {p : ℕ} {ts : List Tok} → IsOperand d (Fixed True p ∷ ts) (Literal (flag true) p) ts
  false_is : {d : Dialect} {p : ℕ} {ts : List Tok} → IsOperand d (Fixed False p ∷ ts) (Literal (flag false) p) ts
  user_is : {p : ℕ} {ts : List Tok} → IsOperand Policy (Fixed symbol.CurrentUser p ∷ ts) (CurrentUser p) ts

-- the words that are operands
abbrev pub is_operand_word : Dialect → Symbol → Bool
is_operand_word d True = true
is_operand_word d False = true
is_operand_word Policy symbol.CurrentUser = true
is_operand_word d s = false

abbrev pub starts_operand : Dialect → List Tok → Bool
starts_operand d [] = false
starts_operand d (Fixed s p ∷ ts) = is_operand_word d s
starts_operand d (t ∷ ts) = true

pub data OperandFault (stop : Fault) : Dialect → List Tok → Fault → Type 0 where
  no_operand : {d : Dialect} {ts : List Tok} → starts_operand d ts ≡ false → OperandFault stop d ts (unexpected stop ts)
  in_column : {n : List ℕ} {p : ℕ} {ts : List Tok} {f : Fault} → ColumnFault stop (Name n p ∷ ts) f → OperandFault stop Query (Name n p ∷ ts) f

-- pred; conj; term; { "or" conj } and { "and" term } after what they continue
pub data Part : Type 0 where
  pred conj term : Part
  ors ands : PredTree → Part

-- The part reads the tokens up to the rest, with this tree; at most room words `not` and signs `(` are open at once.
pub data Reads (d : Dialect) : Part → ℕ → List Tok → PredTree → List Tok → Type 0 where
  -- pred = conj { "or" conj }
  pred_is : {room : ℕ} {ts us vs : List Tok} {a t : PredTree} → Reads d conj room ts a us → Reads d (ors a) room us t vs → Reads d pred room ts t vs
  ors_end : {room : ℕ} {ts : List Tok} {a : PredTree} → after_symbol Or ts ≡ None → Reads d (ors a) room ts a ts
  ors_more : {room p : ℕ} {ts us vs : List Tok} {a b t : PredTree}
      → Reads d conj room ts b us → Reads d (ors (Either a b)) room us t vs
      → Reads d (ors a) room (Fixed Or p ∷ ts) t vs
  -- conj = term { "and" term }
  conj_is : {room : ℕ} {ts us vs : List Tok} {a t : PredTree} → Reads d term room ts a us → Reads d (ands a) room us t vs → Reads d conj room ts t vs
  ands_end : {room : ℕ} {ts : List Tok} {a : PredTree} → after_symbol And ts ≡ None → Reads d (ands a) room ts a ts
  ands_more : {room p : ℕ} {ts us vs : List Tok} {a b t : PredTree}
      → Reads d term room ts b us → Reads d (ands (Both a b)) room us t vs
      → Reads d (ands a) room (Fixed And p ∷ ts) t vs
  -- term = "not" term
  not_is : {room p : ℕ} {ts us : List Tok} {a : PredTree} → Reads d term room ts a us → Reads d term (suc room) (Fixed Not p ∷ ts) (Negation a) us
  -- term = "(" pred ")"
  group_is : {room p q : ℕ} {ts us : List Tok} {a : PredTree} → Reads d pred room ts a (Fixed Close q ∷ us) → Reads d term (suc room) (Fixed Open p ∷ ts) a us
  -- term = "true" and term = "false", if no comparison sign follows
  holds_is : {room p : ℕ} {ts : List Tok} → after_op ts ≡ None → Reads d term room (Fixed True p ∷ ts) (Constant true) ts
  fails_is : {room p : ℕ} {ts : List Tok} → after_op ts ≡ None → Reads d term room (Fixed False p ∷ ts) (Constant false) ts
  -- term = operand op operand
  comparison_is : {room q : ℕ} {s : Symbol} {o : Op} {x y : OperandTree} {ts us vs : List Tok}
      → IsOperand d ts x (Fixed s q ∷ us) → op_of s ≡ Some o → IsOperand d us y vs
      → Reads d term room ts (Comparison x o y) vs

-- a truth value may be alone
abbrev pub stands_alone : OperandTree → Bool
stands_alone (Literal (flag b) p) = true
stands_alone x = false

-- The part cannot read the tokens, for this reason first.
pub data Faults (stop : Fault) (d : Dialect) : Part → ℕ → List Tok → Fault → Type 0 where
  -- pred = conj { "or" conj }
  pred_first : {room : ℕ} {ts : List Tok} {f : Fault} → Faults stop d conj room ts f → Faults stop d pred room ts f
  pred_later : {room : ℕ} {ts us : List Tok} {a : PredTree} {f : Fault}
      → Reads d conj room ts a us → Faults stop d (ors a) room us f → Faults stop d pred room ts f
  ors_first : {room p : ℕ} {ts : List Tok} {a : PredTree} {f : Fault} → Faults stop d conj room ts f → Faults stop d (ors a) room (Fixed Or p ∷ ts) f
  ors_later : {room p : ℕ} {ts us : List Tok} {a b : PredTree} {f : Fault}
      → Reads d conj room ts b us → Faults stop d (ors (Either a b)) room us f
      → Faults stop d (ors a) room (Fixed Or p ∷ ts) f
  -- conj = term { "and" term }
  conj_first : {room : ℕ} {ts : List Tok} {f : Fault} → Faults stop d term room ts f → Faults stop d conj room ts f
  conj_later : {room : ℕ} {ts us : List Tok} {a : PredTree} {f : Fault}
      → Reads d term room ts a us → Faults stop d (ands a) room us f → Faults stop d conj room ts f
  ands_first : {room p : ℕ} {ts : List Tok} {a : PredTree} {f : Fault} → Faults stop d term room ts f → Faults stop d (ands a) room (Fixed And p ∷ ts) f
  ands_later : {room p : ℕ} {ts us : List Tok} {a b : PredTree} {f : Fault}
      → Reads d term room ts b us → Faults stop d (ands (Both a b)) room us f
      → Faults stop d (ands a) room (Fixed And p ∷ ts) f
  -- term = "not" term
  not_deep : {p : ℕ} {ts : List Tok} → Faults stop d term 0 (Fixed Not p ∷ ts) (deep p)
  not_in : {room p : ℕ} {ts : List Tok} {f : Fault} → Faults stop d term room ts f → Faults stop d term (suc room) (Fixed Not p ∷ ts) f
  -- term = "(" pred ")"
  group_deep : {p : ℕ} {ts : List Tok} → Faults stop d term 0 (Fixed Open p ∷ ts) (deep p)
  group_in : {room p : ℕ} {ts : List Tok} {f : Fault} → Faults stop d pred room ts f → Faults stop d term (suc room) (Fixed Open p ∷ ts) f
  group_left : {room p : ℕ} {ts us : List Tok} {a : PredTree}
      → Reads d pred room ts a us → after_symbol Close us ≡ None
      → Faults stop d term (suc room) (Fixed Open p ∷ ts) (unexpected stop us)
  -- term = operand op operand
  no_left : {room : ℕ} {ts : List Tok} {f : Fault}
      → after_symbol Not ts ≡ None → after_symbol Open ts ≡ None → OperandFault stop d ts f
      → Faults stop d term room ts f
  no_op : {room : ℕ} {x : OperandTree} {ts us : List Tok}
      → IsOperand d ts x us → stands_alone x ≡ false → after_op us ≡ None
      → Faults stop d term room ts (unexpected stop us)
  no_right : {room q : ℕ} {s : Symbol} {o : Op} {x : OperandTree} {ts us : List Tok} {f : Fault}
      → IsOperand d ts x (Fixed s q ∷ us) → op_of s ≡ Some o → OperandFault stop d us f → Faults stop d term room ts f
