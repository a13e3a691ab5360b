-- The name of a holder is UTF-8.
use Rattle.std.proofs.Common.{◌≡◌, ℕ, Bool, true, false, cond, List, length, Some, None, refl, ap, ◌∙◌, sym}
use Rattle.std.specs.Prelude.{◌&&◌, nat_le, nat_lt}
use Rattle.std.specs.List.{list_all}
use Rattle.std.specs.Str.{IsUtf8, is_utf8}
use Rattle.std.proofs.lemmas.Str.{IsUtf8-from_is_utf8, is_utf8-from_IsUtf8}
use Rattle.iv_tokens.specs.Entries.{is_holder, is_plain}

pub is_holder-not_IsUtf8 : (name : List ℕ) → ¬ (IsUtf8 name) → None ≡ cond (is_holder name) (Some name) None
is_holder-not_IsUtf8 name h = by (is_utf8 name) refl
  where
    by : (b : Bool) → is_utf8 name ≡ b → None ≡ cond (is_holder name) (Some name) None
    by true e = absurd (h (IsUtf8-from_is_utf8 name e))
    by false e = sym (ap (λ b. cond (b && (list_all is_plain name && (nat_lt 0 (length name) && nat_le (length name) 64))) (Some name) None) e)

pub is_holder-is_plain : (name text : List ℕ) → text ≡ name → IsUtf8 name → list_all is_plain name ≡ true
    → (nat_lt 0 (length name) && nat_le (length name) 64) ≡ true
    → Some text ≡ cond (is_holder name) (Some name) None
is_holder-is_plain name text t u p s =
    ap Some t
    ∙ sym (ap (λ b. cond (b && (list_all is_plain name && (nat_lt 0 (length name) && nat_le (length name) 64))) (Some name) None) (is_utf8-from_IsUtf8 name u)
    ∙ (ap (λ b. cond (b && (nat_lt 0 (length name) && nat_le (length name) 64)) (Some name) None) p
    ∙ ap (λ b. cond b (Some name) None) s))
