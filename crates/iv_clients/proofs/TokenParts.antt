-- Of parts of a token's line that are not text, or no digits, nothing is made.
use Rattle.std.proofs.Common.{◌≡◌, ◌⊎◌, inl, inr, ℕ, Bool, true, false, cond, List, Some, None, refl, ap, sym}
use Rattle.std.specs.Prelude.{Result, Err}
use Rattle.std.specs.Str.{IsUtf8}
use Rattle.hex.specs.declared.error.FromHexError.{FromHexError}
use Rattle.hex.specs.declared.error.FromHexError.TheVariants.{OutOfMemory}
use Rattle.iv_rows.specs.Names.{is_name}
use Rattle.iv_records.specs.Cuts.{decoded}
use Rattle.iv_records.proofs.PartsAsText.{IsUtf8-is_name}
use Rattle.iv_clients.specs.Tokens.{role_in}

pub role_in-not_IsUtf8 : (role : List ℕ) → ¬ (IsUtf8 role) → None ≡ role_in role
role_in-not_IsUtf8 role h = by (is_name role) refl
  where
    by : (b : Bool) → is_name role ≡ b → None ≡ role_in role
    by true k = absurd (h (IsUtf8-is_name role k))
    by false k = sym (ap (λ b. cond b (Some role) None) k)

pub decoded-not_OutOfMemory : (x : Result (List ℕ) FromHexError) (e : FromHexError) → (e ≡ OutOfMemory → ⊥) → (e ≡ OutOfMemory) ⊎ (x ≡ Err e) → None ≡ decoded x
decoded-not_OutOfMemory x e h (inl k) = absurd (h k)
decoded-not_OutOfMemory x e h (inr k) = sym (ap decoded k)
