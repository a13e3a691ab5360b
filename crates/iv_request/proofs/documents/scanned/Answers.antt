use Rattle.std.proofs.Common.{◌≡◌, drop, get_or, true, false, ◌==◌, sym, ap, ◌∙◌, arith, take_all, length-drop}
use Rattle.fast_float.specs.Text.{scan}
use Rattle.serde_json.specs.Read.{number_of, number_from}
use Rattle.iv_request.proofs.documents.scanned.Goals as goal

pub returns-then-has_minus : goal.returns-then-has_minus
unfolding number_of
returns-then-has_minus c =
    let text = c.args.bytes.now in
    let is : (get_or text 0 0 == 45) ≡ true = sym c.if-has_minus.ensures.value in
    let whole : number_from true (scan (drop 1 text)) ≡ number_of text = rw is in
    c.negative_of.ensures ∙ ap (λ s. number_from true (scan s)) (take_all _ (drop 1 text) (omega (arith, length-drop 1 text))) ∙ whole

pub returns-else-has_minus : goal.returns-else-has_minus
unfolding number_of
returns-else-has_minus c =
    let text = c.args.bytes.now in
    let is : (get_or text 0 0 == 45) ≡ false = sym c.if-has_minus.ensures.value in
    let whole : number_from false (scan text) ≡ number_of text = rw is in
    c.unsigned_of.ensures ∙ ap (number_from false) c.scan.ensures.parts ∙ whole
