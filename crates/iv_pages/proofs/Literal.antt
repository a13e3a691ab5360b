-- A path of names that may be shown is named by itself.
use Rattle.std.proofs.Common.{◌≡◌, ℕ, ◌+◌, ◌*◌, Bool, true, false, cond, not, ◌&&◌, List, [], ◌∷◌, ◌++◌, Option, Some, None, option_map, option_and_then, refl, ap, ◌∙◌, sym, subst}
use Rattle.std.specs.Prelude.{◌==◌}
use Rattle.std.specs.Char.{digit_value, is_digit}
use Rattle.std.specs.List.{list_all}
use Rattle.std.proofs.lemmas.Bool.{eqb-true}
use Rattle.percent_encoding.specs.Percent.{percent_decode}
use Rattle.iv_pages.specs.Cut.{before, begun, cut_at, front_of, parts}
use Rattle.iv_pages.specs.Place.{IsInside, PlainIsNamed, is_literal, is_segment, place_at, place_in, segment_named, shown}
use Rattle.iv_pages.proofs.Cuts.{parts-cons}
use Rattle.iv_pages.proofs.PathSegments.{and-both_true, false-not}

abbrev is_no : ℕ → ℕ → Bool
is_no b x = not (x == b)

literal_is : (xs : List ℕ) → list_all is_literal xs ≡ true → (list_all (is_no 37) xs ≡ true) × (list_all (is_no 63) xs ≡ true)
literal_is [] h = (refl, refl)
literal_is (x ∷ xs) h =
    let each = and-both_true (is_literal x) (list_all is_literal xs) h in
    let one = and-both_true (not (x == 37)) (not (x == 63)) each.0 in
    let rest = literal_is xs each.1 in
    (ap (λ z. z && list_all (is_no 37) xs) one.0 ∙ rest.0, ap (λ z. z && list_all (is_no 63) xs) one.1 ∙ rest.1)

cut_free : (b : ℕ) (xs : List ℕ) → list_all (is_no b) xs ≡ true → cut_at b xs ≡ None
cut_free b [] h = refl
cut_free b (x ∷ xs) h =
    let each = and-both_true (not (x == b)) (list_all (is_no b) xs) h in
    ap (λ z. cond z (Some ([], xs)) (option_map {U = List ℕ × List ℕ} (λ p. (x ∷ p.0, p.1)) (cut_at b xs))) (false-not (x == b) each.0)
    ∙ ap (option_map {U = List ℕ × List ℕ} (λ p. (x ∷ p.0, p.1))) (cut_free b xs each.1)

undecoded : (xs : List ℕ) → list_all (is_no 37) xs ≡ true → percent_decode xs ≡ xs
unfolding percent_decode
undecoded [] h = refl
undecoded (a ∷ []) h = refl
undecoded (a ∷ b ∷ []) h = refl
undecoded (a ∷ b ∷ c ∷ rest) h =
    let each = and-both_true (not (a == 37)) (list_all (is_no 37) (b ∷ c ∷ rest)) h in
    ap (λ z. cond (z && is_digit b 16 && is_digit c 16) ((16 * digit_value b + digit_value c) ∷ percent_decode rest) (a ∷ percent_decode (b ∷ c ∷ rest))) (false-not (a == 37) each.0)
    ∙ ap (λ z. a ∷ z) (undecoded (b ∷ c ∷ rest) each.1)

-- parts with slashes between them
abbrev joined : List (List ℕ) → List ℕ
joined [] = []
joined (p ∷ []) = p
joined (p ∷ q ∷ ps) = p ++ 47 ∷ joined (q ∷ ps)

joined_begun : (x : ℕ) (p : List ℕ) (ps : List (List ℕ)) → joined ((x ∷ p) ∷ ps) ≡ x ∷ joined (p ∷ ps)
joined_begun x p [] = refl
joined_begun x p (q ∷ ps) = refl

joined_apart : (qs : List (List ℕ)) → ((q : List ℕ) × (ps : List (List ℕ)) × (qs ≡ q ∷ ps)) → joined ([] ∷ qs) ≡ 47 ∷ joined qs
joined_apart qs is = subst (λ (z : List (List ℕ)). joined ([] ∷ z) ≡ 47 ∷ joined z) (sym is.2) refl

begun_is : (x : ℕ) (qs : List (List ℕ)) → ((q : List ℕ) × (ps : List (List ℕ)) × (qs ≡ q ∷ ps)) → joined (begun x qs) ≡ x ∷ joined qs
begun_is x qs is = subst (λ (z : List (List ℕ)). joined (begun x z) ≡ x ∷ joined z) (sym is.2) (joined_begun x is.0 is.1)

joined_parts : (xs : List ℕ) → joined (parts 47 xs) ≡ xs
joined_parts [] = refl
joined_parts (x ∷ xs) = by (x == 47) refl (joined_parts xs)
  where
    by : (d : Bool) → (x == 47) ≡ d → joined (parts 47 xs) ≡ xs → joined (cond d ([] ∷ parts 47 xs) (begun x (parts 47 xs))) ≡ x ∷ xs
    by true e k = joined_apart (parts 47 xs) (parts-cons 47 xs) ∙ (ap (λ z. 47 ∷ z) k ∙ ap (λ z. z ∷ xs) (sym (eqb-true x 47 e)))
    by false e k = begun_is x (parts 47 xs) (parts-cons 47 xs) ∙ ap (λ z. x ∷ z) k

begun_free : (x : ℕ) (qs : List (List ℕ)) → is_no 37 x ≡ true → list_all (list_all (is_no 37)) qs ≡ true → list_all (list_all (is_no 37)) (begun x qs) ≡ true
begun_free x [] e h = ap (λ z. (z && true) && true) e
begun_free x (p ∷ ps) e h = ap (λ z. (z && list_all (is_no 37) p) && list_all (list_all (is_no 37)) ps) e ∙ h

parts_free : (xs : List ℕ) → list_all (is_no 37) xs ≡ true → list_all (list_all (is_no 37)) (parts 47 xs) ≡ true
parts_free [] h = refl
parts_free (x ∷ xs) h =
    let each = and-both_true (is_no 37 x) (list_all (is_no 37) xs) h in
    by (x == 47) each.0 (parts_free xs each.1)
  where
    by : (d : Bool) → is_no 37 x ≡ true → list_all (list_all (is_no 37)) (parts 47 xs) ≡ true → list_all (list_all (is_no 37)) (cond d ([] ∷ parts 47 xs) (begun x (parts 47 xs))) ≡ true
    by true e k = k
    by false e k = begun_free x (parts 47 xs) e k

named_as_is : (s : List ℕ) → is_segment s ≡ true → list_all (is_no 37) s ≡ true → segment_named s ≡ s
named_as_is [] h e = absurd (let no : ⊥ = cc in no)
named_as_is (b ∷ s) h e = undecoded (b ∷ s) e

shown_as : (s t : List ℕ) → s ≡ t → is_segment t ≡ true → shown s ≡ Some t
shown_as s t e h = ap shown e ∙ ap (λ z. cond z (Some t) None) h

place_joined : (s : List ℕ) (ss : List (List ℕ)) → list_all is_segment (s ∷ ss) ≡ true → list_all (list_all (is_no 37)) (s ∷ ss) ≡ true → place_in (s ∷ ss) ≡ Some (joined (s ∷ ss))
place_joined s [] h e =
    let ok = and-both_true (is_segment s) true h in
    let free = and-both_true (list_all (is_no 37) s) true e in
    shown_as (segment_named s) s (named_as_is s ok.0 free.0) ok.0
place_joined s (t ∷ ss) h e =
    let ok = and-both_true (is_segment s) (list_all is_segment (t ∷ ss)) h in
    let free = and-both_true (list_all (is_no 37) s) (list_all (list_all (is_no 37)) (t ∷ ss)) e in
    ap (λ z. option_and_then (λ here. option_map (λ more. here ++ 47 ∷ more) (place_in (t ∷ ss))) z) (shown_as (percent_decode s) s (undecoded s free.0) ok.0)
    ∙ ap (option_map (λ more. s ++ 47 ∷ more)) (place_joined t ss ok.1 free.1)

place_parts : (qs : List (List ℕ)) → ((q : List ℕ) × (ps : List (List ℕ)) × (qs ≡ q ∷ ps)) → list_all is_segment qs ≡ true → list_all (list_all (is_no 37)) qs ≡ true → place_in qs ≡ Some (joined qs)
place_parts qs is h e =
    subst (λ (z : List (List ℕ)). list_all is_segment z ≡ true → list_all (list_all (is_no 37)) z ≡ true → place_in z ≡ Some (joined z)) (sym is.2)
    (λ a b. place_joined is.0 is.1 a b) h e

pub plain_named : PlainIsNamed
plain_named place inside literal =
    let free = literal_is place literal in
    ap (λ z. place_at (front_of (47 ∷ place) z)) (cut_free 63 (47 ∷ place) free.1)
    ∙ (place_parts (parts 47 place) (parts-cons 47 place) inside (parts_free place free.0) ∙ ap (λ z. Some z) (joined_parts place))
