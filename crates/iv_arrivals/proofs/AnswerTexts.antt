-- An answer as it is kept: the text of a reply without its newline.
use Rattle.std.proofs.Common.{◌≡◌, ◌∙◌, ℕ, ◌+◌, ◌-◌, List, [], ◌∷◌, ◌++◌, length, take, ap, arith, length-append}
use Rattle.std.proofs.Math.Seq.{take-length}
use Rattle.std.proofs.lemmas.List.{take-append-le}

-- without the last, as the newline of a line
pub take-but_last : (xs : List ℕ) (x n : ℕ) → n ≡ length (xs ++ x ∷ []) → take (n - 1) (xs ++ x ∷ []) ≡ xs
take-but_last xs x n h = ap (λ k. take k (xs ++ x ∷ [])) (one_less (length xs) n (h ∙ length-append xs (x ∷ [])))
    ∙ (take-append-le (length xs) xs (x ∷ []) (omega arith) ∙ take-length xs)
  where
    one_less : (m n : ℕ) → n ≡ m + 1 → n - 1 ≡ m
    one_less m n h = omega (arith, h)
