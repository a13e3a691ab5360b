use Rattle.iv_message.proofs.Meaning.{option_map-act_in}
use Rattle.iv_message.proofs.FormValues.{Decides-form_of}
use Rattle.iv_message.proofs.laws.clients_ask_what_viewd_reads.Goals as goal

pub returns-clause-meaning : goal.returns-clause-meaning
returns-clause-meaning c = option_map-act_in

pub returns-clause-values : goal.returns-clause-values
returns-clause-values c = Decides-form_of
