-- Turn after turn.
use Rattle.std.proofs.Common.{◌≡◌, ◌<◌, ℕ, Bool, true, List, Option, Some, None, ◌∙◌, sym, subst}
use Rattle.iv_machine.specs.State.{State}
use Rattle.iv_engine.specs.Engine.{Engine}
use Rattle.iv_lines.specs.Answer.{answer}
use Rattle.iv_lines.specs.Moments.{Moment, ReadsAt, IsWithinLine}
use Rattle.iv_lines.specs.Reads.{IsCutShort}
use Rattle.iv_lines.proofs.Moments.{ReadsAt-trans, ReadsAt-map}
use Rattle.std.specs.Io.KnownBytes.{Appends}
use Rattle.iv_wire.specs.Turns.{IsInTurn}
use Rattle.iv_wire.proofs.RunAnswers.{HasTold}

-- a read of the next line, where k lines are answered
in_turn : (lines k : ℕ) (s : State) (given left taken now : Option (List ℕ)) (engine : Engine) (flushed : Bool) → k < lines → HasTold s given k taken now engine left → flushed ≡ true → (m : Moment) → IsWithinLine left now flushed m → IsInTurn lines s given taken m
in_turn lines k s None left taken now engine flushed l h f m w = tt
in_turn lines k s (Some bs) None taken now engine flushed l h f m w = absurd h
in_turn lines k s (Some bs) (Some xs) taken now engine flushed l h f m w = record {
  k = k;
  fewer = l;
  there = h.0.0;
  written = subst (λ (v : Option (List ℕ)). Appends taken v (answer k s bs).text) (sym w.1) h.0.1;
  flushed = w.2 ∙ f;
  within = subst (λ (v : List ℕ). IsCutShort (Some v) m.left) (sym h.2) w.0;
}

-- a line more is read, where k lines are answered
pub ReadsAt-HasTold : (lines k : ℕ) (s : State) (given left taken now : Option (List ℕ)) (engine : Engine) (flushed : Bool) (old mid new : List Moment) → k < lines → HasTold s given k taken now engine left → flushed ≡ true → ReadsAt (IsInTurn lines s given taken) old mid → ReadsAt (IsWithinLine left now flushed) mid new → ReadsAt (IsInTurn lines s given taken) old new
ReadsAt-HasTold lines k s given left taken now engine flushed old mid new l h f a b =
    ReadsAt-trans _ old mid new a (ReadsAt-map _ _ mid new (in_turn lines k s given left taken now engine flushed l h f) b)
