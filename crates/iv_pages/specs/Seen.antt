-- For contracts of the code: a request as its parser has it, and what it asks.
use Rattle.std.specs.Prelude.{ℕ, List, map, option_map}
use Rattle.httparse.specs.declared.spans.HeaderSpan.{HeaderSpan}
use Rattle.httparse.specs.Spans.{header_bytes}
use Rattle.iv_pages.specs.declared.asking.Ask.{Ask}
use Rattle.iv_pages.specs.declared.asking.Wish.{Wish}
use Rattle.iv_pages.specs.declared.asking.Wish.TheVariants as wish
use Rattle.iv_pages.specs.declared.answers.Page.{Page}
use Rattle.iv_pages.specs.Answer.{Served}
use Rattle.iv_pages.specs.Asking.{Asked, Fields, Want, more, page, upgrade, refused}

-- the fields that the spans cover
abbrev pub fields_of : List ℕ → List HeaderSpan → Fields
fields_of bytes spans = map (header_bytes bytes) spans

abbrev pub asked_by : Ask → Asked
asked_by a = record { only_head = a.only_head; target = a.target.now; known = option_map (λ v. v.now) a.known }

abbrev pub want_of : Wish → Want
want_of wish.More = more
want_of (wish.Page a) = page (asked_by a)
want_of wish.Upgrade = upgrade
want_of (wish.Refused why) = refused why

abbrev pub served_by : Page → Served
served_by p = record { kind = p.kind.now; tag = option_map (λ t. t.now) p.tag; length = p.length; policy = p.policy.now }
