-- Bytes as values of JSON, and texts as bytes.
use Rattle.std.proofs.Common.{◌≡◌, ℕ, Bool, true, false, List, Option, None, ap, ◌∙◌, sym, refl, cond, Err}
use Rattle.std.specs.Prelude.{IsUtf8}
use Rattle.std.specs.Str.{is_utf8}
use Rattle.std.proofs.lemmas.Str.{IsUtf8-from_is_utf8, is_utf8-from_IsUtf8}
use Rattle.std.specs.Result.{result_ok}
use Rattle.base64.specs.declared.decode.DecodeError.{DecodeError}
use Rattle.base64.specs.Engines.{url_safe_no_pad}
use Rattle.base64.specs.GeneralPurpose.{decode_of, decoded_of}
use Rattle.json.specs.Json.{Json, document}
use Rattle.iv_jwt.specs.Documents.{json_of}
use Rattle.iv_jwt.specs.Tokens.{decoded}

none_by : (b : Bool) (x : Option Json) → (b ≡ true → ⊥) → None ≡ cond b x None
none_by true x h = absurd (h refl)
none_by false x h = refl

pub json_of-not_IsUtf8 : (bytes : List ℕ) → (IsUtf8 bytes → ⊥) → None ≡ json_of bytes
json_of-not_IsUtf8 bytes h = none_by (is_utf8 bytes) (document bytes) (λ t. h (IsUtf8-from_is_utf8 bytes t))

pub json_of-IsUtf8 : (bytes text : List ℕ) (found : Option Json) → text ≡ bytes → IsUtf8 bytes → document text ≡ found → found ≡ json_of bytes
json_of-IsUtf8 bytes text found e u r = sym r ∙ (ap document e ∙ ap (λ b. cond b (document bytes) None) (sym (is_utf8-from_IsUtf8 bytes u)))

pub decoded-Err : (s : List ℕ) (e : DecodeError) → decode_of url_safe_no_pad s ≡ Err e → None ≡ decoded s
unfolding decoded_of
decoded-Err s e h = sym (ap result_ok h)
