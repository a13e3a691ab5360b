-- Two lists of flags, one place more at a time.
use Rattle.std.proofs.Common.{◌≡◌, ℕ, zero, suc, Bool, false, List, [], ◌∷◌, ◌++◌, length, take, get_or, refl, sym, ap, ◌∙◌, ◌+◌, ◌<◌, arith}
use Rattle.std.proofs.lemmas.List.{take_more}
use Rattle.iv_readers.specs.Flags.{differ, differing}

-- one more of each of two lists
differing_pushed : (xs bs : List Bool) (a b : Bool) → length xs ≡ length bs → differing (xs ++ a ∷ []) (bs ++ b ∷ []) ≡ differing xs bs ++ differ a b ∷ []
differing_pushed [] [] a b l = refl
differing_pushed [] (y ∷ bs) a b l = absurd (omega (arith, l))
differing_pushed (x ∷ xs) [] a b l = absurd (omega (arith, l))
differing_pushed (x ∷ xs) (y ∷ bs) a b l = ap (λ fs. differ x y ∷ fs) (differing_pushed xs bs a b (omega (arith, l)))

-- as many of each
as_many : (xs bs : List Bool) (i : ℕ) → length xs ≡ length bs → length (take i xs) ≡ length (take i bs)
as_many xs bs zero l = refl
as_many [] [] (suc i) l = refl
as_many [] (b ∷ bs) (suc i) l = absurd (omega (arith, l))
as_many (x ∷ xs) [] (suc i) l = absurd (omega (arith, l))
as_many (x ∷ xs) (b ∷ bs) (suc i) l = ap suc (as_many xs bs i (omega (arith, l)))

pub differing-take_next : (xs bs : List Bool) (i : ℕ) (flags new : List Bool) → length xs ≡ length bs → i < length xs
    → flags ≡ differing (take i xs) (take i bs) → new ≡ flags ++ differ (get_or xs i false) (get_or bs i false) ∷ [] → new ≡ differing (take (i + 1) xs) (take (i + 1) bs)
differing-take_next xs bs i flags new many low so_far is =
    let a = get_or xs i false in
    let b = get_or bs i false in
    is ∙ ap (λ fs. fs ++ differ a b ∷ []) so_far
    ∙ sym (differing_pushed (take i xs) (take i bs) a b (as_many xs bs i many))
    ∙ sym (λ j. differing (take_more xs i false low j) (take_more bs i false (omega (arith, low, many)) j))
