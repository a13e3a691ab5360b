use Rattle.std.proofs.Common.{◌∙◌, Some, sym, ap}
use Rattle.json.specs.Reads.{token_of}
use Rattle.json.specs.Value.{value_view}
use Rattle.iv_request.proofs.BorrowedValues.{read-fits, read-unfit, read-tokens_left}
use Rattle.iv_request.proofs.documents.read.Goals as goal

pub returns-in-Some : goal.returns-in-Some
returns-in-Some c =
    let seen = value_view c.in-Ok.value in
    read-tokens_left c.args.text.now c.in_ok-reader.reader seen (token_of c.in-Some.field-0) c.next.new.self
    (c.in-Ok.ensures.ok ∙ ap (λ us. Some (seen, us)) c.in-Some.ensures.value) c.in_ok-reader.ensures.ok

pub returns-then-fits : goal.returns-then-fits
returns-then-fits c =
    let seen = value_view c.in-Ok.value in
    read-fits c.args.text.now c.in_ok-reader.reader seen (c.in-Ok.ensures.ok ∙ ap (λ us. Some (seen, us)) c.in-None.ensures.value.0) c.in_ok-reader.ensures.ok (sym c.if-fits.ensures)

pub returns-in-Ok : goal.returns-in-Ok
returns-in-Ok c =
    let seen = value_view c.in-Ok.value in
    read-unfit c.args.text.now c.in_ok-reader.reader seen (c.in-Ok.ensures.ok ∙ ap (λ us. Some (seen, us)) c.in-None.ensures.value.0) c.in_ok-reader.ensures.ok (sym c.if-fits.ensures)
