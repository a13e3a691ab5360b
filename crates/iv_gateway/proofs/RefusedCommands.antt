-- What a refused command leaves.
use Rattle.std.proofs.Common.{◌≡◌, ◌∙◌, false, Option, Some, None, is_none, refl, sym}
use Rattle.std.proofs.lemmas.Bool.{false≢true}
use Rattle.iv_machine.specs.Act.{Command, Refusal}
use Rattle.iv_machine.specs.Machine.{outcome, step}
use Rattle.iv_machine.specs.Refusing.{refusal}
use Rattle.iv_machine.specs.State.{State}
use Rattle.iv_gate.specs.Gate.{is_accepted, reply_in}
use Rattle.iv_gate.proofs.RequestsAlone.{is_accepted-reply_to}

-- what the tests say is what the first line says
pub is_accepted-outcome : (s : State) (k : Command) (o : Option Refusal) → is_accepted (reply_in (outcome s k o).lines) ≡ is_none o
is_accepted-outcome s k None = is_accepted-reply_to s.frame k.act
is_accepted-outcome s k (Some r) = refl

left_by : (s : State) (k : Command) (o : Option Refusal) → is_none o ≡ false → (outcome s k o).state ≡ s
left_by s k (Some r) h = refl
left_by s k None h = absurd (false≢true (sym h))

pub state-refused : (s : State) (k : Command) → is_accepted (reply_in (step s k).lines) ≡ false → (step s k).state ≡ s
state-refused s k h = left_by s k (refusal s k.session k.act) (sym (is_accepted-outcome s k (refusal s k.session k.act)) ∙ h)
