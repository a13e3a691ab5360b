-- The place at which bytes are cut.
use Rattle.std.proofs.Common.{◌≡◌, ℕ, ◌+◌, Bool, true, false, cond, List, [], ◌∷◌, ◌++◌, Option, Some, None, option_map, refl, ap, ◌∙◌, sym, append_assoc, append-nil}
use Rattle.std.specs.Prelude.{◌==◌, ◌&&◌, not}
use Rattle.iv_records.specs.Cuts.{cut_quote, cut_at}

abbrev pub before : List ℕ → List ℕ × List ℕ → List ℕ × List ℕ
before xs p = (xs ++ p.0, p.1)

pub before_none : (o : Option (List ℕ × List ℕ)) → option_map (before []) o ≡ o
before_none None = refl
before_none (Some p) = refl

before_more : (xs : List ℕ) (x : ℕ) (o : Option (List ℕ × List ℕ)) → option_map (before xs) (option_map {U = List ℕ × List ℕ} (λ p. (x ∷ p.0, p.1)) o) ≡ option_map (before (xs ++ x ∷ [])) o
before_more xs x None = refl
before_more xs x (Some p) = ap (λ z. Some (z, p.1)) (sym (append_assoc xs (x ∷ []) p.0))

-- it is not this byte
pub cut_later : (b x : ℕ) (xs rest : List ℕ) (all : Option (List ℕ × List ℕ)) → (x == b) ≡ false → option_map (before xs) (cut_at b (x ∷ rest)) ≡ all → option_map (before (xs ++ x ∷ [])) (cut_at b rest) ≡ all
cut_later b x xs rest all h e = sym (before_more xs x (cut_at b rest)) ∙ (ap (λ z. option_map (before xs) (cond z (Some ([], rest)) (option_map {U = List ℕ × List ℕ} (λ p. (x ∷ p.0, p.1)) (cut_at b rest)))) (sym h) ∙ e)

-- it is
pub cut_here : (b x : ℕ) (xs rest : List ℕ) (all : Option (List ℕ × List ℕ)) → (x == b) ≡ true → option_map (before xs) (cut_at b (x ∷ rest)) ≡ all → Some (xs, rest) ≡ all
cut_here b x xs rest all h e = ap (λ z. Some (z, rest)) (sym (append-nil xs)) ∙ (ap (λ z. option_map (before xs) (cond z (Some ([], rest)) (option_map {U = List ℕ × List ℕ} (λ p. (x ∷ p.0, p.1)) (cut_at b rest)))) (sym h) ∙ e)

-- so it is of quotation marks
pub quote_later : (e : Bool) (x : ℕ) (xs rest : List ℕ) (all : Option (List ℕ × List ℕ)) → (not e && (x == 34)) ≡ false → option_map (before xs) (cut_quote e (x ∷ rest)) ≡ all
    → option_map (before (xs ++ x ∷ [])) (cut_quote (not e && (x == 92)) rest) ≡ all
quote_later e x xs rest all h k =
    sym (before_more xs x (cut_quote (not e && (x == 92)) rest))
    ∙ (ap (λ z. option_map (before xs) (cond z (Some ([], rest)) (option_map {U = List ℕ × List ℕ} (λ p. (x ∷ p.0, p.1)) (cut_quote (not e && (x == 92)) rest)))) (sym h) ∙ k)

pub quote_here : (e : Bool) (x : ℕ) (xs rest : List ℕ) (all : Option (List ℕ × List ℕ)) → (not e && (x == 34)) ≡ true → option_map (before xs) (cut_quote e (x ∷ rest)) ≡ all → Some (xs, rest) ≡ all
quote_here e x xs rest all h k =
    ap (λ z. Some (z, rest)) (sym (append-nil xs))
    ∙ (ap (λ z. option_map (before xs) (cond z (Some ([], rest)) (option_map {U = List ℕ × List ℕ} (λ p. (x ∷ p.0, p.1)) (cut_quote (not e && (x == 92)) rest)))) (sym h) ∙ k)
