-- Which trees a text has, and which fault a text without one has.
use Rattle.std.specs.Prelude.{◌≡◌, ℕ, ◌<◌, ◌≤◌, Bool, true, false, List, [], ◌∷◌, length, Result, Ok, Err}
use Rattle.iv_query.specs.Limits.{text_bytes, nesting}
use Rattle.iv_query.specs.declared.fault.Fault.{Fault}
use Rattle.iv_query.specs.declared.fault.Why.TheVariants as why
use Rattle.iv_query.specs.declared.tree.Dialect.TheVariants.{Policy}
use Rattle.iv_query.specs.Tokens.{Tok, unexpected}
use Rattle.iv_query.specs.Trees.{PredTree, QueryTree}
use Rattle.iv_query.specs.Grammar.{pred, Reads, Faults}
use Rattle.iv_query.specs.Query.{IsQuery, IsQueryFault}
use Rattle.iv_query.specs.Lexing.{Lexes}

-- A text of at most 4,096 bytes is tokens that a rule reads, and nothing else.
pub data IsText {T : Type 0} (Reads : List Tok → T → List Tok → Type 0) : List ℕ → T → Type 0 where
  text_is : {bs : List ℕ} {ts : List Tok} {stop : Fault} {t : T}
      → length bs ≤ text_bytes → Lexes (length bs) bs ts stop true → Reads ts t [] → IsText Reads bs t

-- A text is too long; or a rule has a fault in its tokens; or a token, or a place where no token is, comes after what a rule reads.
pub data TextFault {T : Type 0} (Reads : List Tok → T → List Tok → Type 0) (Faults : Fault → List Tok → Fault → Type 0) : List ℕ → Fault → Type 0 where
  too_long : {bs : List ℕ} → text_bytes < length bs → TextFault Reads Faults bs (record { place = text_bytes; why = why.TooLong })
  inside : {bs : List ℕ} {ts : List Tok} {stop f : Fault} {ends : Bool}
      → length bs ≤ text_bytes → Lexes (length bs) bs ts stop ends → Faults stop ts f → TextFault Reads Faults bs f
  behind : {bs : List ℕ} {ts us : List Tok} {u : Tok} {stop : Fault} {ends : Bool} {t : T}
      → length bs ≤ text_bytes → Lexes (length bs) bs ts stop ends → Reads ts t (u ∷ us)
      → TextFault Reads Faults bs (unexpected stop (u ∷ us))
  unfinished : {bs : List ℕ} {ts : List Tok} {stop : Fault} {t : T}
      → length bs ≤ text_bytes → Lexes (length bs) bs ts stop false → Reads ts t [] → TextFault Reads Faults bs stop

-- policy text = pred, with nesting of at most 32
abbrev pub IsPredText : List ℕ → PredTree → Type 0
IsPredText = IsText (Reads Policy pred nesting)

abbrev pub HasPredFault : List ℕ → Fault → Type 0
HasPredFault = TextFault (Reads Policy pred nesting) (λ stop. Faults stop Policy pred nesting)

-- view text = query
abbrev pub IsQueryText : List ℕ → QueryTree → Type 0
IsQueryText = IsText IsQuery

abbrev pub HasQueryFault : List ℕ → Fault → Type 0
HasQueryFault = TextFault IsQuery IsQueryFault

-- a tree, or a fault, of a text
abbrev pub IsOutcome : {T : Type 0} → (List ℕ → T → Type 0) → (List ℕ → Fault → Type 0) → List ℕ → Result T Fault → Type 0
IsOutcome Is Has bs (Ok t) = Is bs t
IsOutcome Is Has bs (Err f) = Has bs f

-- a text has exactly one of tree and fault, and one alone
pub record HasOneOutcome {T : Type 0} (Is : List ℕ → T → Type 0) (Has : List ℕ → Fault → Type 0) (bs : List ℕ) : Type 0 where
  pub outcome : Result T Fault
  pub holds : IsOutcome Is Has bs outcome
  pub alone : (other : Result T Fault) → IsOutcome Is Has bs other → other ≡ outcome
