-- What was appended, piece by piece.
use Rattle.std.proofs.Common.{◌≡◌, ℕ, List, ◌++◌, ap, ◌∙◌, append_assoc}

-- two pieces are one
pub append-two : (x a b y z : List ℕ) → y ≡ x ++ a → z ≡ y ++ b → z ≡ x ++ (a ++ b)
append-two x a b y z h k = k ∙ (ap (λ w. w ++ b) h ∙ append_assoc x a b)

pub joined3 : (x a b c y z w : List ℕ) → y ≡ x ++ a → z ≡ y ++ b → w ≡ z ++ c → w ≡ x ++ (a ++ (b ++ c))
joined3 x a b c y z w h k l = append-two x a (b ++ c) y w h (append-two y b c z w k l)

pub append-five : (x a b c d e p q r s t : List ℕ) → p ≡ x ++ a → q ≡ p ++ b → r ≡ q ++ c → s ≡ r ++ d → t ≡ s ++ e → t ≡ x ++ (a ++ (b ++ (c ++ (d ++ e))))
append-five x a b c d e p q r s t h k l m n = joined3 x a b (c ++ (d ++ e)) p q t h k (joined3 q c d e r s t l m n)

pub append-seven : (x a b c d e f g p q r s t u v : List ℕ) → p ≡ x ++ a → q ≡ p ++ b → r ≡ q ++ c → s ≡ r ++ d → t ≡ s ++ e → u ≡ t ++ f → v ≡ u ++ g
    → v ≡ x ++ (a ++ (b ++ (c ++ (d ++ (e ++ (f ++ g))))))
append-seven x a b c d e f g p q r s t u v h k l m n o i = joined3 x a b (c ++ (d ++ (e ++ (f ++ g)))) p q v h k (append-five q c d e f g r s t u v l m n o i)

pub append-nine : (x a b c d e f g j k p q r s t u v w y : List ℕ) → p ≡ x ++ a → q ≡ p ++ b → r ≡ q ++ c → s ≡ r ++ d → t ≡ s ++ e → u ≡ t ++ f → v ≡ u ++ g → w ≡ v ++ j → y ≡ w ++ k
    → y ≡ x ++ (a ++ (b ++ (c ++ (d ++ (e ++ (f ++ (g ++ (j ++ k))))))))
append-nine x a b c d e f g j k p q r s t u v w y h1 h2 h3 h4 h5 h6 h7 h8 h9 =
    joined3 x a b (c ++ (d ++ (e ++ (f ++ (g ++ (j ++ k)))))) p q y h1 h2 (append-seven q c d e f g j k r s t u v w y h3 h4 h5 h6 h7 h8 h9)
