-- Names are ASCII, and so UTF-8; of a part that is not UTF-8 nothing is made.
use Rattle.std.proofs.Common.{◌≡◌, ℕ, zero, suc, ◌<◌, Bool, true, false, cond, List, [], ◌∷◌, ◌++◌, Some, None, refl, ap, ◌∙◌, sym, append_assoc, arith}
use Rattle.std.specs.Prelude.{◌&&◌, ◌||◌, option_and_then}
use Rattle.std.specs.List.{list_all, slice_index}
use Rattle.std.specs.Str.{IsAscii, IsUtf8, is_utf8}
use Rattle.std.proofs.lemmas.Bool.Decides.{nat_tests}
use Rattle.std.proofs.lemmas.Str.{IsUtf8-from_ascii}
use Rattle.iv_rows.specs.Names.{is_further, is_name}
use Rattle.iv_request.specs.Request.{passing}
use Rattle.iv_records.specs.Names.{holder_of, is_between, is_epoch, is_letter, is_random}
use Rattle.iv_records.specs.Parsed.{request_in, request_parts, named_request}

and_both : (b c : Bool) → (b && c) ≡ true → (b ≡ true) × (c ≡ true)
and_both true c h = (refl, h)
and_both false c h = cc

further_ascii : (b : ℕ) → is_further b ≡ true → b < 128
further_ascii b h = grind (arith, nat_tests)

all_ascii : (bs : List ℕ) → list_all is_further bs ≡ true → IsAscii bs
all_ascii [] h = λ i. omega arith
all_ascii (b ∷ bs) h = λ i. at i (and_both (is_further b) (list_all is_further bs) h).0 (λ j. all_ascii bs (and_both (is_further b) (list_all is_further bs) h).1 j)
  where
    at : (i : ℕ) → is_further b ≡ true → ((j : ℕ) → slice_index bs j < 128) → slice_index (b ∷ bs) i < 128
    at zero f more = further_ascii b f
    at (suc i) f more = more i

pub IsUtf8-is_name : (bs : List ℕ) → is_name bs ≡ true → IsUtf8 bs
IsUtf8-is_name bs h = IsUtf8-from_ascii bs (all_ascii bs (and_both _ _ (and_both _ _ h).1).0)

pub request_in-not_IsUtf8 : (line : List ℕ) (p : List ℕ × List ℕ) → request_parts line ≡ Some p → ¬ (IsUtf8 p.0) → None ≡ request_in line
request_in-not_IsUtf8 line p e h = by (is_name p.0) refl
  where
    by : (b : Bool) → is_name p.0 ≡ b → None ≡ request_in line
    by true k = absurd (h (IsUtf8-is_name p.0 k))
    by false k = sym (ap (option_and_then named_request) e ∙ ap (λ b. cond b (Some (p.0, 123 ∷ p.1)) None) k)

-- ---- names of requests

letter_ascii : (b : ℕ) → is_letter b ≡ true → b < 128
letter_ascii b h = grind (arith, nat_tests)

epoch_ascii : (b : ℕ) → (is_between 48 57 b || is_between 97 102 b) ≡ true → b < 128
epoch_ascii b h = grind (arith, nat_tests)

ascii_by : (t : ℕ → Bool) → ((b : ℕ) → t b ≡ true → b < 128) → (bs : List ℕ) → list_all t bs ≡ true → IsAscii bs
ascii_by t f [] h = λ i. omega arith
ascii_by t f (b ∷ bs) h = λ i. at i (and_both (t b) (list_all t bs) h).0 (λ j. ascii_by t f bs (and_both (t b) (list_all t bs) h).1 j)
  where
    at : (i : ℕ) → t b ≡ true → ((j : ℕ) → slice_index bs j < 128) → slice_index (b ∷ bs) i < 128
    at zero e more = f b e
    at (suc i) e more = more i

no_pass : (t : List ℕ → Bool) (text : List ℕ) → (t text ≡ true → IsUtf8 text) → ¬ (IsUtf8 text) → None ≡ passing t text
no_pass t text f h = by (t text) refl
  where
    by : (b : Bool) → t text ≡ b → None ≡ cond b (Some text) None
    by true k = absurd (h (f k))
    by false k = refl

pub passing-is_random : (name : List ℕ) → ¬ (IsUtf8 name) → None ≡ passing is_random name
passing-is_random name h = no_pass is_random name (λ k. IsUtf8-from_ascii name (ascii_by is_letter letter_ascii name (and_both _ _ k).1)) h

pub passing-is_epoch : (epoch : List ℕ) → ¬ (IsUtf8 epoch) → None ≡ passing is_epoch epoch
passing-is_epoch epoch h = no_pass is_epoch epoch (λ k. IsUtf8-from_ascii epoch (ascii_by (λ b. is_between 48 57 b || is_between 97 102 b) epoch_ascii epoch (and_both _ _ k).1)) h

-- a role, a slash and a user that is text
pub holder_of-append : (role user a b d : List ℕ) → is_utf8 user ≡ true → a ≡ role → b ≡ a ++ 47 ∷ [] → d ≡ b ++ user → d ≡ holder_of role user
holder_of-append role user a b d u h k e =
    e ∙ (ap (λ z. z ++ user) (k ∙ ap (λ z. z ++ 47 ∷ []) h) ∙ (append_assoc role (47 ∷ []) user ∙ ap (λ t. role ++ 47 ∷ cond t user []) (sym u)))
