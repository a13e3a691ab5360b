use Rattle.std.proofs.Common.{bytes_eq, rules, tests}
use Rattle.std.proofs.lemmas.Iterator.{YieldsList-from_slice}
use Rattle.std.proofs.lemmas.Iterator.Search.{find_from_yields_List}
use Rattle.iv_request.proofs.Table.{find-form_seen}
use Rattle.iv_request.proofs.forms.find_form.Goals as goal

pub returns : goal.returns
returns c =
    find-form_seen c.args.text.now c.find.result c.args.forms.now
    (find_from_yields_List (λ f. bytes_eq f.text.now c.args.text.now) _ _ c.find.result c.find.ensures.ran (YieldsList-from_slice c.args.forms.now cc) (λ x b q k. search (rules, tests)))
