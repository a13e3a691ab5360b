-- A line as a value.
use Rattle.std.proofs.Common.{◌≡◌, ℕ, Bool, true, false, List, Option, None, ap, ◌∙◌, sym, refl, cond}
use Rattle.std.specs.Prelude.{IsUtf8}
use Rattle.std.specs.Str.{is_utf8}
use Rattle.std.proofs.lemmas.Str.{IsUtf8-from_is_utf8, is_utf8-from_IsUtf8}
use Rattle.serde_json.specs.Data.{Data}
use Rattle.serde_json.specs.Read.{read}
use Rattle.iv_request.specs.Reading.{value_of}

none_by : (b : Bool) (x : Option Data) → (b ≡ true → ⊥) → None ≡ cond b x None
none_by true x h = absurd (h refl)
none_by false x h = refl

pub value_of-not_IsUtf8 : (line : List ℕ) → (IsUtf8 line → ⊥) → None ≡ value_of line
value_of-not_IsUtf8 line h = none_by (is_utf8 line) (read line) (λ t. h (IsUtf8-from_is_utf8 line t))

pub value_of-IsUtf8 : (line text : List ℕ) (found : Option Data) → text ≡ line → IsUtf8 line → read text ≡ found → found ≡ value_of line
value_of-IsUtf8 line text found e u r = sym r ∙ (ap read e ∙ ap (λ b. cond b (read line) None) (sym (is_utf8-from_IsUtf8 line u)))
