use Rattle.std.proofs.Common.{rules, ◌≡◌, IfSome, None, Some, length, Ok, Err}
use Rattle.std.specs.Prelude.{Option}
use Rattle.httparse.specs.declared.Status.TheVariants.{Complete, Partial}
use Rattle.httparse.specs.Spans.{FindsRequest, IsRequestOf}
use Rattle.iv_pages.specs.Asking.{most_fields}
use Rattle.iv_host.proofs.Fields.{field_in-Complete, HasHead-IsRequestOf, field_in-Err, field_in-Partial}
use Rattle.iv_host.proofs.heads.field_of.Goals as goal

if_some_of : {X P : Type 0} (o : Option X) → P → IfSome o (λ _. P)
if_some_of None p = tt
if_some_of (Some x) p = p

pub returns-in-Ok-Complete-clause-field : goal.returns-in-Ok-Complete-clause-field
returns-in-Ok-Complete-clause-field c =
    let finds : FindsRequest c.window-front.result.now most_fields c.parse_request.new.headers (Ok (Complete c.in-Ok-Complete.head)) = search rules in
    field_in-Complete c.args.bytes.now c.window-front.result.now c.args.name.now c.parse_request.new.headers c.in-Ok-Complete.head _ c.window-front.ensures finds c.field_in.ensures

pub returns-in-Ok-Complete-clause-head : goal.returns-in-Ok-Complete-clause-head
returns-in-Ok-Complete-clause-head c =
    let is : IsRequestOf c.window-front.result.now c.parse_request.new.headers c.in-Ok-Complete.head = search rules in
    let all : length c.parse_request.new.headers ≡ most_fields = search rules in
    if_some_of _ (HasHead-IsRequestOf c.args.bytes.now c.window-front.result.now c.parse_request.new.headers c.in-Ok-Complete.head c.window-front.ensures all
    is)

pub returns-in-Ok-Partial-clause-field : goal.returns-in-Ok-Partial-clause-field
returns-in-Ok-Partial-clause-field c =
    let finds : FindsRequest c.window-front.result.now most_fields c.parse_request.new.headers (Ok Partial) = search rules in
    field_in-Partial c.args.bytes.now c.window-front.result.now c.args.name.now c.parse_request.new.headers c.window-front.ensures finds

pub returns-in-Err-clause-field : goal.returns-in-Err-clause-field
returns-in-Err-clause-field c =
    let finds : FindsRequest c.window-front.result.now most_fields c.parse_request.new.headers (Err c.in-Err.field-0) = search rules in
    field_in-Err c.args.bytes.now c.window-front.result.now c.args.name.now c.parse_request.new.headers c.in-Err.field-0 c.window-front.ensures finds
