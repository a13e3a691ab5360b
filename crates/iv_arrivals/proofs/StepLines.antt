-- The step that lines are, as the code reads it.
use Rattle.std.proofs.Common.{◌≡◌, ◌∙◌, ℕ, zero, suc, ◌+◌, ◌<◌, ◌≤◌, Bool, true, false, cond, List, [], ◌∷◌, ◌++◌, length, take, get_or, Option, Some, None, is_some, option_map, refl, ap, sym, subst, add-one, append-nil, arith}
use Rattle.std.specs.Prelude.{◌==◌, ◌&&◌, IfSome, drop, nat_le, option_and_then}
use Rattle.std.specs.List.{AllByRecursion, list_all}
use Rattle.std.proofs.lemmas.Bool.{eqb-true, false≢true}
use Rattle.std.proofs.lemmas.Bool.Decides.{nat_tests}
use Rattle.serde_json.specs.Find.{as_object}
use Rattle.iv_records.specs.Journal.{Entry, IsEntry, most_said, record_of, texts_of}
use Rattle.iv_records.specs.Laws.{ReadsBack}
use Rattle.iv_records.specs.Parsed.{record_in}
use Rattle.iv_journal.specs.Journal.{Line, is_text}
use Rattle.iv_once.specs.Names.{Named}
use Rattle.iv_request.specs.Reading.{value_of}
use Rattle.iv_gate.specs.Arriving.{Step}
use Rattle.iv_gate.specs.Events.{IsAnswerText, IsWell, arrived}
use Rattle.iv_gate.specs.Gate.{Log}
use Rattle.iv_arrivals.specs.Reads.{is_answer, step_in, step_of}

-- ---- each of a list

further : {A : Type 0} (p : A → Bool) (xs : List A) (i : ℕ) (d : A) → i < length xs → list_all p (take i xs) ≡ true → p (get_or xs i d) ≡ true
    → list_all p (take (suc i) xs) ≡ true
further p [] i d lt h o = absurd (let none : ⊥ = omega (arith, lt) in none)
further p (x ∷ xs) zero d lt h o = ap (λ b. b && true) o
further p (x ∷ xs) (suc i) d lt h o = by (λ k. further p xs i d (omega (arith, lt)) k o) (p x) h
  where
    by : (list_all p (take i xs) ≡ true → list_all p (take (suc i) xs) ≡ true) → (b : Bool) → (b && list_all p (take i xs)) ≡ true
        → (b && list_all p (take (suc i) xs)) ≡ true
    by later true h = later h
    by later false h = h

-- one more is so
pub all_further : {A : Type 0} (p : A → Bool) (xs : List A) (i : ℕ) (d : A) → i < length xs → list_all p (take i xs) ≡ true → p (get_or xs i d) ≡ true
    → list_all p (take (i + 1) xs) ≡ true
all_further p xs i d lt h o = ap (λ n. list_all p (take n xs)) (add-one i) ∙ further p xs i d lt h o

-- one is not so
pub all_stops : {A : Type 0} (p : A → Bool) (xs : List A) (i : ℕ) (d : A) → i < length xs → p (get_or xs i d) ≡ false → list_all p xs ≡ false
all_stops p [] i d lt o = absurd (let none : ⊥ = omega (arith, lt) in none)
all_stops p (x ∷ xs) zero d lt o = ap (λ b. b && list_all p xs) o
all_stops p (x ∷ xs) (suc i) d lt o = by (p x) (all_stops p xs i d (omega (arith, lt)) o)
  where
    by : (b : Bool) → list_all p xs ≡ false → (b && list_all p xs) ≡ false
    by true h = h
    by false h = refl

-- ---- what is read

abbrev texts_held : List Line → Bool
texts_held ls = list_all (λ l. is_text l.text) ls

pub no_texts : (log : Log) (from : ℕ) (ls : List Line) → texts_held ls ≡ false → None ≡ step_in log from ls
no_texts log from ls t = sym (ap (λ b. cond b (option_and_then (λ (p : Entry × List Line). cond ((length p.1 == 0) && list_all is_answer p.0.names) (step_of log from p.0) None) (record_in ls)) None) t)

pub no_record : (log : Log) (from : ℕ) (ls : List Line) → texts_held ls ≡ true → record_in ls ≡ None → None ≡ step_in log from ls
no_record log from ls t r =
    sym (λ i. cond (t i) (option_and_then (λ (p : Entry × List Line). cond ((length p.1 == 0) && list_all is_answer p.0.names) (step_of log from p.0) None) (r i)) None)

pub one_record : (log : Log) (from : ℕ) (ls rest : List Line) (e : Entry) (whole answers : Bool) → texts_held ls ≡ true → record_in ls ≡ Some (e, rest)
    → (length rest == 0) ≡ whole → list_all is_answer e.names ≡ answers → step_in log from ls ≡ cond (whole && answers) (step_of log from e) None
one_record log from ls rest e whole answers t r w a =
    (λ i. cond (t i) (option_and_then (λ (p : Entry × List Line). cond ((length p.1 == 0) && list_all is_answer p.0.names) (step_of log from p.0) None) (r i)) None)
    ∙ (λ i. cond (w i && a i) (step_of log from e) None)

pub more_left : (ls : List Line) (count : ℕ) → (length (drop count ls) == 0) ≡ false → (b : Bool) → ((length (drop count ls) == 0) && b) ≡ false
more_left ls count h b = ap (λ z. z && b) h

-- ---- such as a gateway takes

texts_recorded : (ts : List (List ℕ)) → texts_held (record_of ts) ≡ list_all is_text ts
texts_recorded [] = refl
texts_recorded (t ∷ []) = refl
texts_recorded (t ∷ u ∷ ts) = ap (λ b. is_text t && b) (texts_recorded (u ∷ ts))

nothing_left : (ls : List Line) → (length ls == 0) ≡ true → ls ≡ []
nothing_left [] h = refl
nothing_left (l ∷ ls) h = absurd (let e = eqb-true (length (l ∷ ls)) 0 h in let none : ⊥ = omega (arith, e) in none)

within : (n m : ℕ) → nat_le n m ≡ true → n ≤ m
within n m h = grind (arith, nat_tests)

answers_told : (es : List Named) → list_all is_answer es ≡ true → AllByRecursion IsAnswerText es
answers_told [] h = tt
answers_told (e ∷ es) h = by (λ k. answers_told es k) (nat_le (length e.answer) most_said) refl (is_some (option_and_then as_object (value_of e.answer))) refl h
  where
    by : (list_all is_answer es ≡ true → AllByRecursion IsAnswerText es) → (a : Bool) → nat_le (length e.answer) most_said ≡ a → (b : Bool) → is_some (option_and_then as_object (value_of e.answer)) ≡ b
        → ((a && b) && list_all is_answer es) ≡ true → AllByRecursion IsAnswerText (e ∷ es)
    by later true s true o h = (record { object = o; short = within (length e.answer) most_said s }, later h)
    by later true s false o h = absurd (false≢true h)
    by later false s b o h = absurd (false≢true h)

pub step_well : ReadsBack → (log : Log) (from : ℕ) (ls rest : List Line) (e : Entry) (o : Option Step) → texts_held ls ≡ true → record_in ls ≡ Some (e, rest)
    → (length rest == 0) ≡ true → list_all is_answer e.names ≡ true → o ≡ step_of log from e → IfSome o (λ s. IsWell (arrived s))
step_well reads log from ls rest e o t r w a h = subst (λ (z : Option Step). IfSome z (λ s. IsWell (arrived s))) (sym h) (by e.position refl)
  where
    texts : list_all is_text (texts_of e) ≡ true
    texts = sym (texts_recorded (texts_of e))
        ∙ (ap texts_held (sym (((reads ls e rest).0 r).lines ∙ (ap (λ z. record_of (texts_of e) ++ z) (nothing_left rest w) ∙ append-nil (record_of (texts_of e))))) ∙ t)

    by : (p : Option ℕ) → e.position ≡ p
        → IfSome (option_map (λ to. record { log = log; from = from; to = to; requests = e.requests; names = e.names }) p) (λ s. IsWell (arrived s))
    by None k = tt
    by (Some to) k =
        let same : e ≡ record e { position = Some to } = λ i. record e { position = k i } in (
          subst IsEntry same ((reads ls e rest).0 r).entry,
          answers_told e.names a,
          subst (λ z. list_all is_text (texts_of z) ≡ true) same texts,
        )
