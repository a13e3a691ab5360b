-- Lines that are joined by newlines are cut again.
use Rattle.std.proofs.Common.{◌≡◌, ◌≢◌, ℕ, zero, suc, ◌<◌, ◌≤◌, ◌==◌, false, List, [], ◌∷◌, ◌++◌, length, cond, ap, ◌∙◌, sym, refl, arith, append_assoc, append-nil}
use Rattle.std.specs.List.{All}
use Rattle.std.proofs.lemmas.List.Elements.{All-head, All-tail}
use Rattle.std.proofs.lemmas.Bool.Decides.{nat_tests}
use Rattle.iv_lines.specs.Cut.{whole, endless, cut, cut_from, last_line}

no_newline : (b : ℕ) → b ≢ 10 → (b == 10) ≡ false
no_newline b h = grind (arith, nat_tests)

-- a byte that is no newline
byte_on : (room : ℕ) (begun : List ℕ) (b : ℕ) (rest : List ℕ) → b ≢ 10 → cut_from (suc room) begun (b ∷ rest) ≡ cut_from room (begun ++ b ∷ []) rest
unfolding cut_from
byte_on room begun b rest h = ap (λ t. cond t (whole begun rest) (cut_from room (begun ++ b ∷ []) rest)) (no_newline b h)

newline_cuts : (room : ℕ) (begun rest : List ℕ) → cut_from (suc room) begun (10 ∷ rest) ≡ whole begun rest
unfolding cut_from
newline_cuts room begun rest = refl

end_cuts : (room : ℕ) (begun : List ℕ) → cut_from (suc room) begun [] ≡ last_line begun
unfolding cut_from
end_cuts room begun = refl

no_room : (begun rest : List ℕ) → cut_from zero begun rest ≡ endless
unfolding cut_from
no_room begun rest = refl

cut_line : (room : ℕ) (begun line rest : List ℕ) → All (λ b. b ≢ 10) line → length line < room → cut_from room begun (line ++ 10 ∷ rest) ≡ whole (begun ++ line) rest
cut_line zero begun line rest p l = absurd (omega arith)
cut_line (suc room) begun [] rest p l = newline_cuts room begun rest ∙ ap (λ v. whole v rest) (sym (append-nil begun))
cut_line (suc room) begun (b ∷ line) rest p l =
    byte_on room begun b (line ++ 10 ∷ rest) (All-head (λ b. b ≢ 10) b line p)
    ∙ (cut_line room (begun ++ b ∷ []) line rest (All-tail (λ b. b ≢ 10) b line p) (omega arith)
    ∙ ap (λ v. whole v rest) (append_assoc begun (b ∷ []) line))

cut_last : (room : ℕ) (begun line : List ℕ) → All (λ b. b ≢ 10) line → length line < room → cut_from room begun line ≡ last_line (begun ++ line)
cut_last zero begun line p l = absurd (omega arith)
cut_last (suc room) begun [] p l = end_cuts room begun ∙ ap last_line (sym (append-nil begun))
cut_last (suc room) begun (b ∷ line) p l =
    byte_on room begun b line (All-head (λ b. b ≢ 10) b line p)
    ∙ (cut_last room (begun ++ b ∷ []) line (All-tail (λ b. b ≢ 10) b line p) (omega arith)
    ∙ ap last_line (append_assoc begun (b ∷ []) line))

cut_endless : (room : ℕ) (begun line rest : List ℕ) → All (λ b. b ≢ 10) line → room ≤ length line → cut_from room begun (line ++ rest) ≡ endless
cut_endless zero begun line rest p l = no_room begun (line ++ rest)
cut_endless (suc room) begun [] rest p l = absurd (omega arith)
cut_endless (suc room) begun (b ∷ line) rest p l =
    byte_on room begun b (line ++ rest) (All-head (λ b. b ≢ 10) b line p)
    ∙ cut_endless room (begun ++ b ∷ []) line rest (All-tail (λ b. b ≢ 10) b line p) (omega arith)

pub cut-whole_line : (line rest : List ℕ) → All (λ b. b ≢ 10) line → length line < 65537 → cut (line ++ 10 ∷ rest) ≡ whole line rest
cut-whole_line line rest p l = cut_line 65537 [] line rest p (omega arith)

pub cut-last_line : (line : List ℕ) → All (λ b. b ≢ 10) line → length line < 65537 → cut line ≡ last_line line
cut-last_line line p l = cut_last 65537 [] line p (omega arith)

pub cut-endless : (line rest : List ℕ) → All (λ b. b ≢ 10) line → 65537 ≤ length line → cut (line ++ rest) ≡ endless
cut-endless line rest p l = cut_endless 65537 [] line rest p l
