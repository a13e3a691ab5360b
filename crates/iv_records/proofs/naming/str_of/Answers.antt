use Rattle.std.proofs.Common.{◌≡◌, ◌∙◌, ap, rules, string_bytes, sym, true}
use Rattle.std.specs.Prelude.{option_and_then}
use Rattle.std.specs.Str.{is_utf8}
use Rattle.std.proofs.lemmas.Str.{IsUtf8-string_bytes, is_utf8-from_IsUtf8}
use Rattle.json.specs.Json as json
use Rattle.json.specs.Value.{value_view}
use Rattle.json.specs.declared.value.Value.{the_lemmas}
use Rattle.json.specs.declared.value.Value.TheVariants as value
use Rattle.serde_json.specs.Find.{as_str}
use Rattle.iv_request.specs.Documents.{data_of}
use Rattle.iv_request.specs.Request.{passing}
use Rattle.iv_records.proofs.CutParts.{passing-true}
use Rattle.iv_records.proofs.naming.str_of.Goals as goal

pub returns-in_ok-from_str-in-String : goal.returns-in_ok-from_str-in-String
returns-in_ok-from_str-in-String c =
    let s = c.in_ok-from_str-in-String.field-0 in
    let text : is_utf8 (string_bytes s) ≡ true = is_utf8-from_IsUtf8 (string_bytes s) (IsUtf8-string_bytes s) in
    let seen : value_view (value.String c.in-String.text) ≡ json.string c.in-String.text.now = search (rules, the_lemmas) in
    sym (passing-true is_utf8 (string_bytes s) text)
    ∙ (ap (passing is_utf8) c.in_ok-from_str-in-String.ensures.ok
    ∙ ap (λ j. option_and_then (passing is_utf8) (as_str (data_of j))) (sym (ap value_view c.in-String.is ∙ seen)))
