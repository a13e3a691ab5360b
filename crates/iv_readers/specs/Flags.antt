-- Flags beside circuits.
use Rattle.std.specs.Bool.{beq}
use Rattle.std.specs.Prelude.{Bool, not, List, [], ◌∷◌}

-- the flags differ
abbrev pub differ : Bool → Bool → Bool
differ b a = not (beq b a)

-- whether the flags of two lists differ, at each place
abbrev pub differing : (before after : List Bool) → List Bool
differing [] xs = []
differing (b ∷ bs) [] = []
differing (b ∷ bs) (x ∷ xs) = differ b x ∷ differing bs xs
