use Rattle.std.proofs.Common.{◌≡◌, ◌∙◌, ◌++◌, ℕ, zero, suc, Bool, List, [], ap, false, get_or, refl, replicate, take}
use Rattle.iv_readers.proofs.readers.unset.Goals as goal

none_set : (n i : ℕ) → get_or (replicate n false) i false ≡ false
none_set zero i = refl
none_set (suc n) zero = refl
none_set (suc n) (suc i) = none_set n i

take_none : (n : ℕ) → take {A = Bool} n [] ≡ []
take_none zero = refl
take_none (suc n) = refl

unset_flags : (flags old : List Bool) (n m i : ℕ) → old ≡ [] → flags ≡ take n old ++ replicate m false → get_or flags i false ≡ false
unset_flags flags old n m i none is =
    ap (λ (bs : List Bool). get_or bs i false) (is ∙ ap (λ (bs : List Bool). take n bs ++ replicate m false) none ∙ ap (λ (bs : List Bool). bs ++ replicate m false) (take_none n)) ∙ none_set m i

pub returns-clause-unset : goal.returns-clause-unset
returns-clause-unset c = λ i. unset_flags c.resize.new.self.items c.in_ok-flags.flags.items c.args.many _ i c.in_ok-flags.ensures.items c.in_ok-resize.ensures.items
