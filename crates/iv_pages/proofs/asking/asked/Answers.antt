use Rattle.std.proofs.Common.{rules, ◌≡◌, ◌∙◌, ap, sym, arith, length, Ok, Err}
use Rattle.httparse.specs.declared.Status.TheVariants.{Complete, Partial}
use Rattle.httparse.specs.Grammar.{MayBecomeRequest, NeverHasRequest}
use Rattle.httparse.specs.Spans.{FindsRequest, IsRequestOf, RequestExceeds}
use Rattle.iv_pages.specs.Asking.{most_fields}
use Rattle.iv_pages.proofs.Heads.{Asks-NeverHasRequest, Asks-too_long, Asks-too_many_fields, Asks-more, Asks-IsRequestOf, asked_of-Err, asked_of-Partial, asked_of-Complete}
use Rattle.iv_pages.proofs.asking.asked.Goals as goal

pub returns-in-Ok-Complete-clause-asks : goal.returns-in-Ok-Complete-clause-asks
returns-in-Ok-Complete-clause-asks c =
    let is : IsRequestOf c.window-front.result.now c.parse_request.new.headers c.in-Ok-Complete.head = search rules in
    let all : length c.parse_request.new.headers ≡ most_fields = search rules in
    Asks-IsRequestOf c.args.bytes.now c.window-front.result.now c.parse_request.new.headers c.in-Ok-Complete.head _ c.window-front.ensures all is
    c.want_in.ensures

pub returns-in-Ok-Complete-clause-head : goal.returns-in-Ok-Complete-clause-head
returns-in-Ok-Complete-clause-head c =
    let finds : FindsRequest c.window-front.result.now most_fields c.parse_request.new.headers (Ok (Complete c.in-Ok-Complete.head)) = search rules in
    asked_of-Complete c.args.bytes.now c.window-front.result.now c.parse_request.new.headers c.in-Ok-Complete.head _ c.window-front.ensures finds
    c.want_in.ensures

pub returns-then-bytes-le-MOST_HEAD-clause-asks : goal.returns-then-bytes-le-MOST_HEAD-clause-asks
returns-then-bytes-le-MOST_HEAD-clause-asks c =
    let none : MayBecomeRequest c.window-front.result.now = search rules in
    Asks-more c.args.bytes.now c.window-front.result.now c.window-front.ensures none (omega arith)

pub returns-then-bytes-le-MOST_HEAD-clause-head : goal.returns-then-bytes-le-MOST_HEAD-clause-head
returns-then-bytes-le-MOST_HEAD-clause-head c =
    let finds : FindsRequest c.window-front.result.now most_fields c.parse_request.new.headers (Ok Partial) = search rules in
    asked_of-Partial c.args.bytes.now c.window-front.result.now c.parse_request.new.headers _ c.window-front.ensures finds

pub returns-then-has_line-clause-asks : goal.returns-then-has_line-clause-asks
returns-then-has_line-clause-asks c =
    let none : MayBecomeRequest c.window-front.result.now = search rules in
    Asks-too_long c.args.bytes.now c.window-front.result.now _ c.window-front.ensures none (omega arith) (sym c.has_line.ensures ∙ c.if-has_line.true)

pub returns-then-has_line-clause-head : goal.returns-then-has_line-clause-head
returns-then-has_line-clause-head c =
    let finds : FindsRequest c.window-front.result.now most_fields c.parse_request.new.headers (Ok Partial) = search rules in
    asked_of-Partial c.args.bytes.now c.window-front.result.now c.parse_request.new.headers _ c.window-front.ensures finds

pub returns-else-has_line-clause-asks : goal.returns-else-has_line-clause-asks
returns-else-has_line-clause-asks c =
    let none : MayBecomeRequest c.window-front.result.now = search rules in
    Asks-too_long c.args.bytes.now c.window-front.result.now _ c.window-front.ensures none (omega arith) (sym c.has_line.ensures ∙ c.if-has_line.false)

pub returns-else-has_line-clause-head : goal.returns-else-has_line-clause-head
returns-else-has_line-clause-head c =
    let finds : FindsRequest c.window-front.result.now most_fields c.parse_request.new.headers (Ok Partial) = search rules in
    asked_of-Partial c.args.bytes.now c.window-front.result.now c.parse_request.new.headers _ c.window-front.ensures finds

pub returns-in-TooManyHeaders-clause-asks : goal.returns-in-TooManyHeaders-clause-asks
returns-in-TooManyHeaders-clause-asks c =
    let over : RequestExceeds most_fields c.window-front.result.now = c.in-Err.ensures.too_many (ap (λ e. Err e) c.in-TooManyHeaders.is) in
    Asks-too_many_fields c.args.bytes.now c.window-front.result.now c.window-front.ensures over

pub returns-in-TooManyHeaders-clause-head : goal.returns-in-TooManyHeaders-clause-head
returns-in-TooManyHeaders-clause-head c =
    let finds : FindsRequest c.window-front.result.now most_fields c.parse_request.new.headers (Err c.in-Err.error) = search rules in
    asked_of-Err c.args.bytes.now c.window-front.result.now c.parse_request.new.headers c.in-Err.error _ c.window-front.ensures finds

pub returns-then-says_other-clause-asks : goal.returns-then-says_other-clause-asks
returns-then-says_other-clause-asks c =
    let never : NeverHasRequest c.window-front.result.now = c.in-Err.ensures.invalid c.in_default.not-TooManyHeaders in
    Asks-NeverHasRequest c.args.bytes.now c.window-front.result.now _ c.window-front.ensures never (sym c.says_other.ensures ∙ c.if-says_other.true)

pub returns-then-says_other-clause-head : goal.returns-then-says_other-clause-head
returns-then-says_other-clause-head c =
    let finds : FindsRequest c.window-front.result.now most_fields c.parse_request.new.headers (Err c.in-Err.error) = search rules in
    asked_of-Err c.args.bytes.now c.window-front.result.now c.parse_request.new.headers c.in-Err.error _ c.window-front.ensures finds

pub returns-else-says_other-clause-asks : goal.returns-else-says_other-clause-asks
returns-else-says_other-clause-asks c =
    let never : NeverHasRequest c.window-front.result.now = c.in-Err.ensures.invalid c.in_default.not-TooManyHeaders in
    Asks-NeverHasRequest c.args.bytes.now c.window-front.result.now _ c.window-front.ensures never (sym c.says_other.ensures ∙ c.if-says_other.false)

pub returns-else-says_other-clause-head : goal.returns-else-says_other-clause-head
returns-else-says_other-clause-head c =
    let finds : FindsRequest c.window-front.result.now most_fields c.parse_request.new.headers (Err c.in-Err.error) = search rules in
    asked_of-Err c.args.bytes.now c.window-front.result.now c.parse_request.new.headers c.in-Err.error _ c.window-front.ensures finds
