-- From tokens to texts.
use Rattle.std.proofs.Common.{◌≡◌, ℕ, ◌<◌, ◌≤◌, Bool, true, false, cond, List, [], ◌∷◌, length, Result, Ok, Err, refl, sym, ap, subst, arith}
use Rattle.std.specs.Prelude.{IfOk}
use Rattle.iv_query.specs.declared.fault.Fault.{Fault}
use Rattle.iv_query.specs.declared.fault.Why.TheVariants as why
use Rattle.iv_query.specs.declared.fault.QueryFault.{QueryFault}
use Rattle.iv_query.specs.declared.fault.QueryFault.TheVariants as faults
use Rattle.iv_query.specs.Tokens.{Tok}
use Rattle.iv_query.specs.Answers.{Gives, Fails, IfAt}
use Rattle.iv_query.specs.Reading.{◌>>=◌, Read, end_at, whole_at}
use Rattle.iv_query.specs.Lexing.{Lexes}
use Rattle.iv_query.specs.Texts.{IsText, text_is, TextFault, too_long, inside, behind, unfinished, IsOutcome, HasOneOutcome}
use Rattle.iv_query.proofs.Steps.{Outcome, good, bad}
use Rattle.std.proofs.lemmas.Bool.Decides.{nat_tests}
use Rattle.std.specs.Prelude.{nat_lt}
use Rattle.std.specs.Str.{IsUtf8}
use Rattle.iv_query.specs.TextReading.{Lexed, lexed, read_tokens, read_text}
use Rattle.iv_query.proofs.Lexes.{Lexes-unique, Lexes-lexed}

-- what a function reads is what a rule reads, and its faults are the rule's
pub record Agreement {T : Type 0} (Reads : List Tok → T → List Tok → Type 0) (Faults : Fault → List Tok → Fault → Type 0) (read : Fault → List Tok → Read T) : Type 0 where
  pub judged : (stop : Fault) (ts : List Tok) → Outcome (Reads ts) (Faults stop ts) (read stop ts)
  pub reads : (stop : Fault) {ts us : List Tok} {t : T} → Reads ts t us → read stop ts ≡ Ok (t, us)
  pub faults : (stop : Fault) {ts : List Tok} {f : Fault} → Faults stop ts f → read stop ts ≡ Err f

-- ---- tokens of a text that is not too long

module _ {T : Type 0} (R : List Tok → T → List Tok → Type 0) (F : Fault → List Tok → Fault → Type 0) (read : Fault → List Tok → Read T) (agreement : Agreement R F read) (bs : List ℕ) (short : length bs ≤ 4096) where
  abbrev Right : Result T Fault → Type 0
  Right = IsOutcome (IsText R) (TextFault R F) bs

  ended : (ts us : List Tok) (stop : Fault) (ends : Bool) (t : T) → Lexes (length bs) bs ts stop ends → R ts t us → Right (end_at stop ends us >>= λ _. Ok t)
  unfolding end_at
  ended ts [] stop true t k h = text_is short k h
  ended ts [] stop false t k h = unfinished short k h
  ended ts (u ∷ us) stop true t k h = behind short k h
  ended ts (u ∷ us) stop false t k h = behind short k h

  pub tokens_read : (l : Lexed) → Lexes (length bs) bs l.tokens l.stop l.ends → Right (read_tokens read l)
  unfolding whole_at
  tokens_read l k = go (read l.stop l.tokens) (agreement.judged l.stop l.tokens)
    where
      go : (r : Read T) → Outcome (R l.tokens) (F l.stop l.tokens) r → Right (r >>= λ x. end_at l.stop l.ends x.1 >>= λ _. Ok x.0)
      go (Ok x) (good h) = ended l.tokens x.1 l.stop l.ends x.0 k h
      go (Err f) (bad h) = inside short k h

  pub tree_alone : (l : Lexed) (t : T) → Lexes (length bs) bs l.tokens l.stop l.ends → IsText R bs t → Ok t ≡ read_tokens read l
  unfolding whole_at end_at
  tree_alone l t k (text_is le m h) = Lexes-unique m k (λ us s e. Ok t ≡ whole_at (read s) s e us) (rw (agreement.reads _ h) refl)

  pub fault_alone : (l : Lexed) (f : Fault) → Lexes (length bs) bs l.tokens l.stop l.ends → TextFault R F bs f → Err f ≡ read_tokens read l
  unfolding whole_at end_at
  fault_alone l f k (too_long lt) = absurd (omega arith)
  fault_alone l f k (inside le m h) = Lexes-unique m k (λ us s e. Err f ≡ whole_at (read s) s e us) (rw (agreement.faults _ h) refl)
  fault_alone l f k (behind {stop = s} {ends = true} le m h) = Lexes-unique m k (λ us s e. Err f ≡ whole_at (read s) s e us) (rw (agreement.reads s h) refl)
  fault_alone l f k (behind {stop = s} {ends = false} le m h) = Lexes-unique m k (λ us s e. Err f ≡ whole_at (read s) s e us) (rw (agreement.reads s h) refl)
  fault_alone l f k (unfinished le m h) = Lexes-unique m k (λ us s e. Err f ≡ whole_at (read s) s e us) (rw (agreement.reads f h) refl)

-- ---- each text

module _ {T : Type 0} (R : List Tok → T → List Tok → Type 0) (F : Fault → List Tok → Fault → Type 0) (read : Fault → List Tok → Read T) (agreement : Agreement R F read) (bs : List ℕ) (u : IsUtf8 bs) where
  abbrev by_length : Bool → Result T Fault
  by_length b = cond b (Err (record { place = 4096; why = why.TooLong })) (read_tokens read (lexed (length bs) (length bs) bs))

  pub text_read : IsOutcome (IsText R) (TextFault R F) bs (read_text read bs)
  text_read = go (nat_lt 4096 (length bs)) refl
    where
      go : (b : Bool) → nat_lt 4096 (length bs) ≡ b → IsOutcome (IsText R) (TextFault R F) bs (by_length b)
      go true h = too_long (grind (arith, nat_tests))
      go false h =
          let short : length bs ≤ 4096 = grind (arith, nat_tests) in
          tokens_read R F read agreement bs short (lexed (length bs) (length bs) bs) (Lexes-lexed bs u)

  alone : (other : Result T Fault) → IsOutcome (IsText R) (TextFault R F) bs other → other ≡ read_text read bs
  alone other h = go (nat_lt 4096 (length bs)) refl other h
    where
      long : 4096 < length bs → (other : Result T Fault) → IsOutcome (IsText R) (TextFault R F) bs other → other ≡ Err (record { place = 4096; why = why.TooLong })
      long lt (Ok t) (text_is le k h) = absurd (omega arith)
      long lt (Err f) (too_long l) = refl
      long lt (Err f) (inside le k h) = absurd (omega arith)
      long lt (Err f) (behind le k h) = absurd (omega arith)
      long lt (Err f) (unfinished le k h) = absurd (omega arith)

      short : length bs ≤ 4096 → (other : Result T Fault) → IsOutcome (IsText R) (TextFault R F) bs other → other ≡ read_tokens read (lexed (length bs) (length bs) bs)
      short le (Ok t) h = tree_alone R F read agreement bs le (lexed (length bs) (length bs) bs) t (Lexes-lexed bs u) h
      short le (Err f) h = fault_alone R F read agreement bs le (lexed (length bs) (length bs) bs) f (Lexes-lexed bs u) h

      go : (b : Bool) → nat_lt 4096 (length bs) ≡ b → (other : Result T Fault) → IsOutcome (IsText R) (TextFault R F) bs other → other ≡ by_length b
      go true e = long (grind (arith, nat_tests))
      go false e = short (grind (arith, nat_tests))

  pub one_outcome : HasOneOutcome (IsText R) (TextFault R F) bs
  one_outcome = record { outcome = read_text read bs; holds = text_read; alone = alone }

-- ---- what a function answers

module _ {T X : Type 0} (read : Fault → List Tok → Read T) (bs : List ℕ) (view : X → T) where
  -- tokens that are the text's give what the text gives
  pub gives_text : (l : Lexed) (r : Result X QueryFault) → length bs ≤ 4096 → l ≡ lexed (length bs) (length bs) bs → Gives view r (read_tokens read l) → Gives view r (read_text read bs)
  gives_text l r le e g = go (nat_lt 4096 (length bs)) refl
    where
      go : (b : Bool) → nat_lt 4096 (length bs) ≡ b → Gives view r (cond b (Err (record { place = 4096; why = why.TooLong })) (read_tokens read (lexed (length bs) (length bs) bs)))
      go true h = absurd (grind (arith, nat_tests))
      go false h = subst (λ (m : Lexed). Gives view r (read_tokens read m)) e g

  -- a long text has its fault alone
  pub gives_long : (e : QueryFault) → IfAt e (λ f. 4096 < length bs) → IfAt e (λ f. f ≡ record { place = 4096; why = why.TooLong }) → Fails e (read_text read bs)
  gives_long faults.Memory lt is = tt
  gives_long (faults.At p w) lt is = go (nat_lt 4096 (length bs)) refl
    where
      go : (b : Bool) → nat_lt 4096 (length bs) ≡ b → cond b (Err (record { place = 4096; why = why.TooLong })) (read_tokens read (lexed (length bs) (length bs) bs)) ≡ Err (record { place = p; why = w })
      go true h = ap Err (sym is)
      go false h = absurd (grind (arith, nat_tests))

-- what is read is the text's
pub IfOk-IsOutcome : {T X : Type 0} (Is : List ℕ → T → Type 0) (Has : List ℕ → Fault → Type 0) (bs : List ℕ) (view : X → T) (r : Result X QueryFault) (o : Result T Fault) → Gives view r o → IsOutcome Is Has bs o → IfOk r (λ x. Is bs (view x))
IfOk-IsOutcome Is Has bs view (Ok x) o g h = subst (IsOutcome Is Has bs) g h
IfOk-IsOutcome Is Has bs view (Err e) o g h = tt
