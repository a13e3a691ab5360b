-- The lines of names and of a log are read back.
use Rattle.std.proofs.Common.{◌≡◌, ℕ, Bool, true, false, cond, ◌&&◌, ◌||◌, List, [], ◌∷◌, ◌++◌, length, Some, None, option_map, refl, ap, ◌∙◌, append_assoc}
use Rattle.std.specs.Prelude.{◌==◌, bytes_eq, codes, decimal, option_and_then}
use Rattle.std.specs.List.{list_all}
use Rattle.std.specs.Str.{is_utf8}
use Rattle.std.proofs.lemmas.Slice.Eq.{bytes_eq-Decides}
use Rattle.json.specs.Print.{escape}
use Rattle.iv_once.specs.Names.{Place}
use Rattle.iv_request.specs.Request.{passing}
use Rattle.iv_records.specs.Names.{is_between, is_count, is_epoch, place_text}
use Rattle.iv_records.specs.Cuts.{cut_quote}
use Rattle.iv_records.proofs.CutParts.{HasNo, and-both_true, cut_at-HasNo, passing-true, list_any-append_false, HasNo-list_all, cut_quote-escape}
use Rattle.iv_records.proofs.Spelling.{count_in-decimal, HasNo-decimal_brace, HasNo-decimal_quote, string_in-escape}
use Rattle.iv_head.specs.Begun.{Followed, IsFollowed, IsStanding, Standing, followed_in, log_behind, log_parts, log_text, log_with, place_by, place_in, standing_in, standing_parts, standing_text, standing_with}

pub bytes_same : (xs : List ℕ) → bytes_eq xs xs ≡ true
bytes_same xs = (bytes_eq-Decides xs xs).1 refl

abbrev is_epoch_digit : ℕ → Bool
is_epoch_digit b = is_between 48 57 b || is_between 97 102 b

digits_of : (epoch : List ℕ) → is_epoch epoch ≡ true → list_all is_epoch_digit epoch ≡ true
digits_of epoch h = (and-both_true (length epoch == 32) (list_all is_epoch_digit epoch) h).1

-- ---- places

place_back : (at : Place) → is_epoch at.epoch ≡ true → is_count at.count ≡ true → place_in (place_text at) ≡ Some at
place_back at e c =
    ap (option_and_then place_by) (cut_at-HasNo 46 at.epoch (decimal at.count) (HasNo-list_all is_epoch_digit 46 refl at.epoch (digits_of at.epoch e)) refl)
    ∙ (λ i. option_and_then (λ epoch. option_map (λ count. record { epoch = epoch; count = count }) (count_in-decimal at.count c i)) (cond (e i) (Some at.epoch) None))

place_no_quote : (at : Place) → is_epoch at.epoch ≡ true → HasNo 34 (place_text at)
place_no_quote at e = list_any-append_false (λ x. x == 34) at.epoch (46 ∷ decimal at.count) (HasNo-list_all is_epoch_digit 34 refl at.epoch (digits_of at.epoch e)) (HasNo-decimal_quote at.count)

-- ---- where names stand

with_back : (s : Standing) (rest : List ℕ) → is_utf8 s.holder ≡ true → is_epoch s.at.epoch ≡ true → is_count s.at.count ≡ true
    → standing_with (escape s.holder) (place_text s.at, rest) ≡ Some s
with_back s rest u e c = λ i. option_and_then (λ at. option_map (λ h. record { holder = h; at = at }) (string_in-escape s.holder u i)) (place_back s.at e c i)

pub standing_in-standing_text : (s : Standing) → IsStanding s → standing_in (standing_text s) ≡ Some s
standing_in-standing_text s w =
    let u = and-both_true (is_utf8 s.holder) (is_epoch s.at.epoch && is_count s.at.count) w in
    let e = and-both_true (is_epoch s.at.epoch) (is_count s.at.count) u.1 in
    let later = codes ",\"at\":\"" ++ (place_text s.at ++ codes "\"}") in
    ap (option_and_then (passing (λ (t : Standing). bytes_eq (standing_text t) (standing_text s))))
    (ap (λ z. option_and_then standing_parts (cut_quote false z)) (append_assoc (escape s.holder) (34 ∷ []) later)
    ∙ (ap (option_and_then standing_parts) (cut_quote-escape s.holder later)
    ∙ (ap (option_and_then (standing_with (escape s.holder))) (cut_at-HasNo 34 (place_text s.at) (125 ∷ []) (place_no_quote s.at e.0) refl)
    ∙ with_back s (125 ∷ []) u.0 e.0 e.1)))
    ∙ passing-true (λ (t : Standing). bytes_eq (standing_text t) (standing_text s)) s (bytes_same (standing_text s))

-- ---- a log

log_there : (f : Followed) → is_utf8 f.name ≡ true → is_epoch f.epoch ≡ true → is_count f.position ≡ true
    → log_with (escape f.name) f.epoch (decimal f.position, []) ≡ Some f
log_there f u e c =
    λ i. option_and_then (λ z. option_and_then (λ position. option_map (λ n. record { name = n; epoch = z; position = position }) (string_in-escape f.name u i)) (count_in-decimal f.position c i))
    (cond (e i) (Some f.epoch) None)

pub followed_in-log_text : (f : Followed) → IsFollowed f → followed_in (log_text f) ≡ Some f
followed_in-log_text f w =
    let u = and-both_true (is_utf8 f.name) (is_epoch f.epoch && is_count f.position) w in
    let e = and-both_true (is_epoch f.epoch) (is_count f.position) u.1 in
    let step = codes ",\"step\":" ++ (decimal f.position ++ codes "}") in
    let later = codes ",\"epoch\":\"" ++ (f.epoch ++ 34 ∷ step) in
    ap (option_and_then (passing (λ (g : Followed). bytes_eq (log_text g) (log_text f))))
    (ap (λ z. option_and_then log_parts (cut_quote false z)) (append_assoc (escape f.name) (34 ∷ []) later)
    ∙ (ap (option_and_then log_parts) (cut_quote-escape f.name later)
    ∙ (ap (option_and_then (log_behind (escape f.name)))
    (cut_at-HasNo 34 f.epoch step (HasNo-list_all is_epoch_digit 34 refl f.epoch (digits_of f.epoch e.0)) refl)
    ∙ (ap (option_and_then (log_with (escape f.name) f.epoch)) (cut_at-HasNo 125 (decimal f.position) [] (HasNo-decimal_brace f.position) refl)
    ∙ log_there f u.0 e.0 e.1))))
    ∙ passing-true (λ (g : Followed). bytes_eq (log_text g) (log_text f)) f (bytes_same (log_text f))
