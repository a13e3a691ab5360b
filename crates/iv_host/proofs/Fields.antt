-- A field of a head, from what its parser answers.
use Rattle.std.proofs.Common.{◌≡◌, ℕ, ◌≤◌, min, List, None, length, take, drop, Ok, Err, ap, ◌∙◌, sym, subst, arith, map}
use Rattle.std.specs.Prelude.{Option}
use Rattle.std.proofs.lemmas.List.{length-map, length-take}
use Rattle.httparse.specs.declared.Error.{Error}
use Rattle.httparse.specs.declared.Status.TheVariants.{Complete, Partial}
use Rattle.httparse.specs.declared.spans.HeaderSpan.{HeaderSpan}
use Rattle.httparse.specs.declared.spans.RequestSpans.{RequestSpans}
use Rattle.httparse.specs.Grammar.{RequestHead, ReadsRequest}
use Rattle.httparse.specs.Spans.{FindsRequest, IsRequestAt, IsRequestOf, header_bytes, name_and_value}
use Rattle.iv_pages.specs.Asking.{field_in, most_fields, window}
use Rattle.iv_pages.specs.Seen.{fields_of}
use Rattle.iv_host.specs.Admins.{HasHead}

few_of : (all n few : ℕ) → all ≡ 64 → few ≡ min n all → few ≤ 64
few_of all n few e f = omega (arith, e, f)

few_fields : (front : List ℕ) (spans : List HeaderSpan) (r : RequestSpans) (h : RequestHead) → length spans ≡ most_fields → IsRequestAt front spans r h → length h.fields ≤ most_fields
few_fields front spans r h all is = few_of (length spans) r.headers (length h.fields) all (sym (length-map h.fields name_and_value) ∙ (sym (ap length is.fields) ∙ (length-map (take r.headers spans) (header_bytes front) ∙ length-take r.headers spans)))

pub field_in-Complete : (bytes front name : List ℕ) (spans : List HeaderSpan) (r : RequestSpans) (o : Option (List ℕ)) → front ≡ window bytes
    → FindsRequest front most_fields spans (Ok (Complete r)) → o ≡ field_in name (fields_of front (take r.headers spans))
    → (h : RequestHead) (rest : List ℕ) → ReadsRequest (window bytes) h rest → length h.fields ≤ most_fields → o ≡ field_in name (map name_and_value h.fields)
field_in-Complete bytes front name spans r o e finds same h rest reads few =
    same ∙ ap (field_in name) (finds h rest (subst (λ (f : List ℕ). ReadsRequest f h rest) (sym e) reads) few).fields

pub field_in-Partial : (bytes front name : List ℕ) (spans : List HeaderSpan) → front ≡ window bytes → FindsRequest front most_fields spans (Ok Partial)
    → (h : RequestHead) (rest : List ℕ) → ReadsRequest (window bytes) h rest → length h.fields ≤ most_fields → None ≡ field_in name (map name_and_value h.fields)
field_in-Partial bytes front name spans e finds h rest reads few = absurd (finds h rest (subst (λ (f : List ℕ). ReadsRequest f h rest) (sym e) reads) few)

pub field_in-Err : (bytes front name : List ℕ) (spans : List HeaderSpan) (error : Error) → front ≡ window bytes → FindsRequest front most_fields spans (Err error)
    → (h : RequestHead) (rest : List ℕ) → ReadsRequest (window bytes) h rest → length h.fields ≤ most_fields → None ≡ field_in name (map name_and_value h.fields)
field_in-Err bytes front name spans error e finds h rest reads few = absurd (finds h rest (subst (λ (f : List ℕ). ReadsRequest f h rest) (sym e) reads) few)

pub HasHead-IsRequestOf : (bytes front : List ℕ) (spans : List HeaderSpan) (r : RequestSpans) → front ≡ window bytes → length spans ≡ most_fields → IsRequestOf front spans r → HasHead bytes
HasHead-IsRequestOf bytes front spans r e all is =
    (is.0, drop r.len front, subst (λ (f : List ℕ). ReadsRequest f is.0 (drop r.len front)) e is.1.reads, few_fields front spans r is.0 all is.1)
