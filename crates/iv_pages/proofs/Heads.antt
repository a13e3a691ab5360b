-- What a head asks, from what its parser answers.
use Rattle.std.proofs.Common.{◌≡◌, ℕ, ◌≤◌, ◌<◌, min, Bool, cond, List, length, take, drop, Ok, Err, ap, ◌∙◌, sym, subst, arith}
use Rattle.std.specs.Prelude.{◌==◌}
use Rattle.std.specs.List.{list_any}
use Rattle.std.proofs.lemmas.List.{length-map, length-take}
use Rattle.httparse.specs.declared.Error.{Error}
use Rattle.httparse.specs.declared.Status.TheVariants.{Complete, Partial}
use Rattle.httparse.specs.declared.spans.HeaderSpan.{HeaderSpan}
use Rattle.httparse.specs.declared.spans.RequestSpans.{RequestSpans}
use Rattle.httparse.specs.Grammar.{RequestHead, ReadsRequest, MayBecomeRequest, NeverHasRequest}
use Rattle.httparse.specs.Spans.{FindsRequest, IsRequestAt, IsRequestOf, RequestExceeds, header_bytes, name_and_value, span_bytes}
use Rattle.iv_pages.specs.declared.answers.Refusal.TheVariants.{BadRequest, FieldsTooLarge, TargetTooLong, VersionNotSupported}
use Rattle.iv_pages.specs.Asking.{Asks, Want, asked_of, bad, long, many, most_fields, most_head, refused, says_other, waits, want_in, whole, window}
use Rattle.iv_pages.specs.Asking as asking
use Rattle.iv_pages.specs.Seen.{fields_of}

abbrev pub want_at : List ℕ → List HeaderSpan → RequestSpans → Want
want_at front spans r = want_in r.version (span_bytes front r.method) (span_bytes front r.path) (fields_of front (take r.headers spans))

pub want_is : (front : List ℕ) (spans : List HeaderSpan) (r : RequestSpans) (h : RequestHead) → IsRequestAt front spans r h → want_at front spans r ≡ asked_of h
want_is front spans r h is =
    let fields = fields_of front (take r.headers spans) in
    ap (λ z. want_in z (span_bytes front r.method) (span_bytes front r.path) fields) is.version
    ∙ (ap (λ z. want_in h.minor z (span_bytes front r.path) fields) is.method
    ∙ (ap (λ z. want_in h.minor h.method z fields) is.path ∙ ap (λ z. want_in h.minor h.method h.target z) is.fields))

few_of : (all n few : ℕ) → all ≡ 64 → few ≡ min n all → few ≤ 64
few_of all n few e f = omega (arith, e, f)

few_fields : (front : List ℕ) (spans : List HeaderSpan) (r : RequestSpans) (h : RequestHead) → length spans ≡ most_fields → IsRequestAt front spans r h → length h.fields ≤ most_fields
few_fields front spans r h all is = few_of (length spans) r.headers (length h.fields) all (sym (length-map h.fields name_and_value) ∙ (sym (ap length is.fields) ∙ (length-map (take r.headers spans) (header_bytes front) ∙ length-take r.headers spans)))

pub Asks-IsRequestOf : (bytes front : List ℕ) (spans : List HeaderSpan) (r : RequestSpans) (w : Want) → front ≡ window bytes → length spans ≡ most_fields → IsRequestOf front spans r
    → w ≡ want_at front spans r → Asks bytes w
Asks-IsRequestOf bytes front spans r w e all is same =
    subst (Asks bytes) (sym (same ∙ want_is front spans r is.0 is.1))
    (whole bytes (drop r.len front) is.0 (subst (λ (f : List ℕ). ReadsRequest f is.0 (drop r.len front)) e is.1.reads) (few_fields front spans r is.0 all is.1))

pub asked_of-Complete : (bytes front : List ℕ) (spans : List HeaderSpan) (r : RequestSpans) (w : Want) → front ≡ window bytes → FindsRequest front most_fields spans (Ok (Complete r)) → w ≡ want_at front spans r
    → (h : RequestHead) (rest : List ℕ) → ReadsRequest (window bytes) h rest → length h.fields ≤ most_fields → w ≡ asked_of h
asked_of-Complete bytes front spans r w e finds same h rest reads few =
    same ∙ want_is front spans r h (finds h rest (subst (λ (f : List ℕ). ReadsRequest f h rest) (sym e) reads) few)

pub asked_of-Partial : (bytes front : List ℕ) (spans : List HeaderSpan) (w : Want) → front ≡ window bytes → FindsRequest front most_fields spans (Ok Partial)
    → (h : RequestHead) (rest : List ℕ) → ReadsRequest (window bytes) h rest → length h.fields ≤ most_fields → w ≡ asked_of h
asked_of-Partial bytes front spans w e finds h rest reads few = absurd (finds h rest (subst (λ (f : List ℕ). ReadsRequest f h rest) (sym e) reads) few)

pub asked_of-Err : (bytes front : List ℕ) (spans : List HeaderSpan) (error : Error) (w : Want) → front ≡ window bytes → FindsRequest front most_fields spans (Err error)
    → (h : RequestHead) (rest : List ℕ) → ReadsRequest (window bytes) h rest → length h.fields ≤ most_fields → w ≡ asked_of h
asked_of-Err bytes front spans error w e finds h rest reads few = absurd (finds h rest (subst (λ (f : List ℕ). ReadsRequest f h rest) (sym e) reads) few)

pub Asks-more : (bytes front : List ℕ) → front ≡ window bytes → MayBecomeRequest front → length bytes ≤ most_head → Asks bytes asking.more
Asks-more bytes front e none short = waits bytes (subst (λ (f : List ℕ). MayBecomeRequest f) e none) short

pub Asks-too_long : (bytes front : List ℕ) (d : Bool) → front ≡ window bytes → MayBecomeRequest front → most_head < length bytes
    → list_any (λ b. b == 10) front ≡ d
    → Asks bytes (refused (cond d FieldsTooLarge TargetTooLong))
Asks-too_long bytes front d e none over has =
    subst (λ (z : Bool). Asks bytes (refused (cond z FieldsTooLarge TargetTooLong))) (ap (list_any (λ b. b == 10)) (sym e) ∙ has)
    (long bytes (subst (λ (f : List ℕ). MayBecomeRequest f) e none) over)

pub Asks-too_many_fields : (bytes front : List ℕ) → front ≡ window bytes → RequestExceeds most_fields front → Asks bytes (refused FieldsTooLarge)
Asks-too_many_fields bytes front e over = many bytes (subst (λ (f : List ℕ). RequestExceeds most_fields f) e over)

pub Asks-NeverHasRequest : (bytes front : List ℕ) (d : Bool) → front ≡ window bytes → NeverHasRequest front → says_other front ≡ d → Asks bytes (refused (cond d VersionNotSupported BadRequest))
Asks-NeverHasRequest bytes front d e never says =
    subst (λ (z : Bool). Asks bytes (refused (cond z VersionNotSupported BadRequest))) (ap says_other (sym e) ∙ says)
    (bad bytes (subst (λ (f : List ℕ). NeverHasRequest f) e never))
