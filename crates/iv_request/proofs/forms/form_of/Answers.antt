use Rattle.iv_request.proofs.Table.{form_of-find}
use Rattle.iv_request.proofs.forms.form_of.Goals as goal

pub returns : goal.returns
returns c = form_of-find c.args.text.now c.find_form.ensures
