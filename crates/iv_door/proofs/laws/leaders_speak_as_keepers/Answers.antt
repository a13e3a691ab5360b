use Rattle.iv_door.proofs.LedSteps.{led_lines}
use Rattle.iv_door.proofs.laws.leaders_speak_as_keepers.Goals as goal

pub returns : goal.returns
returns c = led_lines
