use Rattle.std.proofs.Common.{◌≡◌, ◌∙◌, ap, rules, tests}
use Rattle.std.specs.Prelude.{IfOk, IfSome, true, Result, Ok, Err}
use Rattle.std.proofs.lemmas.Result.{IfOk-weaker}
use Rattle.iv_request.specs.Reading.{value_of}
use Rattle.iv_machine.specs.Stored.{HasTexts}
use Rattle.iv_message.specs.Message.{IsGivenAct, act_said, is_well_message}
use Rattle.iv_message.specs.Seen.{said_of}
use Rattle.iv_message.specs.declared.message.Message.{Message}
use Rattle.iv_message.proofs.Blanks.{message_of_value-value_of}
use Rattle.iv_message.proofs.Meaning.{IsGivenAct-HasTexts, is_well_message-ReadsWell}
use Rattle.iv_message.proofs.reading.read_message.Goals as goal

given_if : {E : Type 0} (r : Result Message E) → IfOk r (λ m. is_well_message (said_of m) ≡ true) → IfOk r (λ m. IfSome (act_said (said_of m)) HasTexts)
    → IfOk r (λ m. IfSome (act_said (said_of m)) IsGivenAct)
given_if (Ok m) w t = IsGivenAct-HasTexts (said_of m) w t
given_if (Err e) w t = t

pub returns-in_ok-line-clause-well : goal.returns-in_ok-line-clause-well
returns-in_ok-line-clause-well c = IfOk-weaker c.read_line.result _ _ (λ m h. ap is_well_message h ∙ is_well_message-ReadsWell (value_of c.deref.result.now) c.requests_are_well.ensures) c.read_line.ensures.message

pub returns-else-contains-clause-message : goal.returns-else-contains-clause-message
returns-else-contains-clause-message c = IfOk-weaker c.read_line-else-contains.result _ _ (λ m h. h ∙ message_of_value-value_of c.args.text.now (search (rules, tests)) (search (rules, tests))) c.read_line-else-contains.ensures.message

pub returns-else-contains-clause-well : goal.returns-else-contains-clause-well
returns-else-contains-clause-well c = IfOk-weaker c.read_line-else-contains.result _ _ (λ m h. ap is_well_message h ∙ is_well_message-ReadsWell (value_of c.args.text.now) c.requests_are_well.ensures) c.read_line-else-contains.ensures.message

pub returns-in_ok-line-clause-given : goal.returns-in_ok-line-clause-given
returns-in_ok-line-clause-given c = given_if c.read_line.result (returns-in_ok-line-clause-well c) c.read_line.ensures.texts

pub returns-else-contains-clause-given : goal.returns-else-contains-clause-given
returns-else-contains-clause-given c = given_if c.read_line-else-contains.result (returns-else-contains-clause-well c) c.read_line-else-contains.ensures.texts
