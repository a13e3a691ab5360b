-- The names that clients give, and their holders, are such as the journal may have.
use Rattle.std.proofs.Common.{◌≡◌, ℕ, Bool, true, false, cond, List, [], ◌∷◌, ◌++◌, Option, Some, None, option_map, refl, sym, subst}
use Rattle.std.specs.Prelude.{◌&&◌, codes, option_and_then}
use Rattle.std.specs.Str.{IsUtf8, chars, is_utf8}
use Rattle.std.proofs.lemmas.Str.{IsUtf8-append, IsUtf8-from_is_utf8, is_utf8-from_IsUtf8}
use Rattle.iv_rows.specs.Options.{if_some}
use Rattle.serde_json.specs.Find.{as_number, as_u64}
use Rattle.iv_message.specs.Message.{id_in}
use Rattle.iv_request.specs.Reading.{value_of}
use Rattle.iv_records.specs.Journal.{id_parts}
use Rattle.iv_records.specs.Laws.{ClaimsAreWell, HoldersAreText, IsClaim}
use Rattle.iv_records.specs.Names.{Claim, Spelled, claim_in, claimed, count_in, is_count, is_epoch, is_random, spelled_in}
use Rattle.iv_records.specs.Cuts.{behind}
use Rattle.iv_records.proofs.CutParts.{same-Some, not_None-Some, and-both_true, Found-option_and_then, Passed-option_and_then}
use Rattle.iv_records.proofs.PartsAsText.{IsUtf8-is_name}

claimed_well : (s : Spelled) (p : Claim × List ℕ) → claimed s ≡ Some p → IsClaim p.0
claimed_well s p h = by (is_random s.name && is_epoch s.epoch) refl (count_in s.digits) refl h
  where
    by : (t : Bool) → (is_random s.name && is_epoch s.epoch) ≡ t → (o : Option ℕ) → count_in s.digits ≡ o
        → cond t (option_map {U = Claim × List ℕ} (λ count. (record { name = s.name; at = record { epoch = s.epoch; count = count } }, 123 ∷ s.rest)) o) None ≡ Some p → IsClaim p.0
    by false e o k i = absurd (not_None-Some p (sym i))
    by true e None k i = absurd (not_None-Some p (sym i))
    by true e (Some n) k i =
        let same = same-Some {X = Claim × List ℕ} (record { name = s.name; at = record { epoch = s.epoch; count = n } }, 123 ∷ s.rest) p i in
        let tests = and-both_true (is_random s.name) (is_epoch s.epoch) e in
        let count : is_count n ≡ true = (Passed-option_and_then is_count (option_and_then as_u64 (option_and_then as_number (option_and_then id_in (value_of s.digits)))) n k).passes in
        subst (λ (z : Claim × List ℕ). IsClaim z.0) same (record { name = tests.0; epoch = tests.1; count = count })

claim_well : (text : List ℕ) (p : Claim × List ℕ) → claim_in text ≡ Some p → IsClaim p.0
claim_well text p h = let f = Found-option_and_then claimed (option_and_then spelled_in (behind (codes "{") text)) p h in claimed_well f.of p f.is

pub claims_are_well : ClaimsAreWell
claims_are_well text k h = by (claim_in (id_parts text).1) refl h
  where
    by : (o : Option (Claim × List ℕ)) → claim_in (id_parts text).1 ≡ o
        → (if_some {B = Option Claim × List ℕ} o (None, (id_parts text).1) (λ p. (Some p.0, p.1))).0 ≡ Some k → IsClaim k
    by None e i = absurd (not_None-Some k (sym i))
    by (Some p) e i = subst IsClaim (same-Some p.0 k i) (claim_well (id_parts text).1 p e)

no_text : IsUtf8 []
unfolding is_utf8 chars
no_text = IsUtf8-from_is_utf8 [] refl

slash_text : IsUtf8 (47 ∷ [])
unfolding is_utf8 chars lib.Utf8.encode
slash_text = IsUtf8-from_is_utf8 (47 ∷ []) refl

text_of : (user : List ℕ) → IsUtf8 (cond (is_utf8 user) user [])
text_of user = by (is_utf8 user) refl
  where
    by : (t : Bool) → is_utf8 user ≡ t → IsUtf8 (cond t user [])
    by true e = IsUtf8-from_is_utf8 user e
    by false e = no_text

pub holders_are_text : HoldersAreText
holders_are_text role user h =
    let behind : IsUtf8 (47 ∷ cond (is_utf8 user) user []) = IsUtf8-append (47 ∷ []) (cond (is_utf8 user) user []) slash_text (text_of user) in
    is_utf8-from_IsUtf8 (role ++ 47 ∷ cond (is_utf8 user) user []) (IsUtf8-append role (47 ∷ cond (is_utf8 user) user []) (IsUtf8-is_name role h) behind)
