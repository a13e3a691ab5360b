-- A list of commands, one after another.
use Rattle.std.proofs.Common.{◌≡◌, ◌∙◌, List, ◌∷◌, ◌++◌, refl, sym, ap, subst, append_assoc}
use Rattle.iv_machine.specs.Act.{Command, Line}
use Rattle.iv_embedded.specs.Applied.{AreApplied, IsApplied}
use Rattle.iv_store.specs.Engine.{Engine}

-- what the commands that are left answer goes behind what was answered
abbrev pub GoesBehind : (start now : Engine) → (all left : List Command) → (before : List Line) → Type 0
GoesBehind start now all left before = (more : List Line) (new : Engine) → AreApplied now left more new → AreApplied start all (before ++ more) new

pub GoesBehind-IsApplied : (start old between : Engine) (all : List Command) (c : Command) (left : List Command) (before said now : List Line)
    → now ≡ before ++ said
    → GoesBehind start old all (c ∷ left) before → IsApplied old c said between → GoesBehind start between all left now
GoesBehind-IsApplied start old between all c left before said now e h is more new others =
    subst (λ (ls : List Line). AreApplied start all ls new) (sym (append_assoc before said more) ∙ ap (λ ls. ls ++ more) (sym e)) (h (said ++ more) new (said, more, between, refl, is, others))
