-- The segments of a path, one after another, and what they are.
use Rattle.std.proofs.Common.{◌≡◌, ℕ, Bool, true, false, cond, not, ◌&&◌, List, [], ◌∷◌, ◌++◌, Option, Some, None, option_map, option_and_then, refl, ap, ◌∙◌, sym, subst, append_assoc}
use Rattle.std.specs.Prelude.{◌==◌, nat_le}
use Rattle.std.specs.List.{list_all}
use Rattle.percent_encoding.specs.Percent.{percent_decode}
use Rattle.iv_pages.specs.Cut.{before, begun, cut_at, parts}
use Rattle.iv_pages.specs.Place.{IsInside, PlacesAreInside, is_plain, is_segment, place_at, place_in, segment_named, shown}
use Rattle.iv_pages.specs.Pushed.{IsNamed}
use Rattle.iv_pages.proofs.Cuts.{not_Some-None, parts-cut_at, parts-not_cut, parts-cons}

-- ---- as the code goes on

pub IsNamed-same : (r d : Bool) (name old new : List ℕ) → r ≡ d → IsNamed r name old new → IsNamed d name old new
IsNamed-same r d name old new e is = subst (λ (z : Bool). IsNamed z name old new) e is

abbrev pub placed : List ℕ → Option (List ℕ) → Option (List ℕ)
placed place o = option_map (λ more. place ++ more) o

pub placed_none : (o : Option (List ℕ)) → placed [] o ≡ o
placed_none None = refl
placed_none (Some p) = refl

abbrev joined : List ℕ → Option (List ℕ) → Option (List ℕ)
joined here o = option_map (λ more. here ++ 47 ∷ more) o

place_more : (s : List ℕ) (qs : List (List ℕ)) → ((p : List ℕ) × (ps : List (List ℕ)) × (qs ≡ p ∷ ps))
    → place_in (s ∷ qs) ≡ option_and_then (λ here. joined here (place_in qs)) (shown (percent_decode s))
place_more s qs is = subst (λ (z : List (List ℕ)). place_in (s ∷ z) ≡ option_and_then (λ here. joined here (place_in z)) (shown (percent_decode s))) (sym is.2) refl

place_first : (rest s later : List ℕ) → cut_at 47 rest ≡ Some (s, later) → place_in (parts 47 rest) ≡ option_and_then (λ here. joined here (place_in (parts 47 later))) (shown (percent_decode s))
place_first rest s later h = ap place_in (parts-cut_at 47 rest (s, later) h) ∙ place_more s (parts 47 later) (parts-cons 47 later)

regroup : (place d m : List ℕ) → ((place ++ d) ++ 47 ∷ []) ++ m ≡ place ++ (d ++ 47 ∷ m)
regroup place d m = append_assoc (place ++ d) (47 ∷ []) m ∙ append_assoc place d (47 ∷ m)

placed_on : (place d : List ℕ) (o : Option (List ℕ)) → placed ((place ++ d) ++ 47 ∷ []) o ≡ placed place (joined d o)
placed_on place d None = refl
placed_on place d (Some m) = ap (λ z. Some z) (regroup place d m)

-- a segment that may be shown was appended, and a slash
pub place_in-next : (place mid new rest s later : List ℕ) (all : Option (List ℕ)) → cut_at 47 rest ≡ Some (s, later) → IsNamed true (percent_decode s) place mid → new ≡ mid ++ 47 ∷ []
    → placed place (place_in (parts 47 rest)) ≡ all → placed new (place_in (parts 47 later)) ≡ all
place_in-next place mid new rest s later all h named e k =
    let d = percent_decode s in
    let made : new ≡ (place ++ d) ++ 47 ∷ [] = e ∙ ap (λ z. z ++ 47 ∷ []) named.1 in
    let o = place_in (parts 47 later) in
    ap (λ z. placed z o) made ∙ (placed_on place d o
    ∙ (ap (λ z. placed place (option_and_then (λ here. joined here o) (cond z (Some d) None))) (sym named.0)
    ∙ (ap (placed place) (sym (place_first rest s later h)) ∙ k)))

-- one that may not be shown
pub place_in-stop : (place new rest s later : List ℕ) (all : Option (List ℕ)) → cut_at 47 rest ≡ Some (s, later) → IsNamed false (percent_decode s) place new
    → placed place (place_in (parts 47 rest)) ≡ all → None ≡ all
place_in-stop place new rest s later all h named k =
    ap (λ z. placed place (option_and_then (λ here. joined here (place_in (parts 47 later))) (cond z (Some (percent_decode s)) None))) (sym named)
    ∙ (ap (placed place) (sym (place_first rest s later h)) ∙ k)

last_is : (place rest : List ℕ) → cut_at 47 rest ≡ None → placed place (place_in (parts 47 rest)) ≡ placed place (shown (segment_named rest))
last_is place rest h = ap (λ z. placed place (place_in z)) (parts-not_cut 47 rest h)

-- the last segment
pub place_in-end : (place new rest : List ℕ) (all : Option (List ℕ)) → cut_at 47 rest ≡ None → IsNamed true (segment_named rest) place new
    → placed place (place_in (parts 47 rest)) ≡ all → Some new ≡ all
place_in-end place new rest all h named k =
    ap (λ z. Some z) named.1 ∙ (ap (λ z. placed place (cond z (Some (segment_named rest)) None)) (sym named.0) ∙ (sym (last_is place rest h) ∙ k))

pub place_in-end_unnamed : (place new rest : List ℕ) (all : Option (List ℕ)) → cut_at 47 rest ≡ None → IsNamed false (segment_named rest) place new
    → placed place (place_in (parts 47 rest)) ≡ all → None ≡ all
place_in-end_unnamed place new rest all h named k =
    ap (λ z. placed place (cond z (Some (segment_named rest)) None)) (sym named) ∙ (sym (last_is place rest h) ∙ k)

-- ---- what a place is

pub and-both_true : (a b : Bool) → (a && b) ≡ true → (a ≡ true) × (b ≡ true)
and-both_true true true h = (refl, refl)
and-both_true true false h = absurd (let no : ⊥ = cc in no)
and-both_true false b h = absurd (let no : ⊥ = cc in no)

pub false-not : (a : Bool) → not a ≡ true → a ≡ false
false-not true h = absurd (let no : ⊥ = cc in no)
false-not false h = refl

no_slash : (x : ℕ) → is_plain x ≡ true → (x == 47) ≡ false
no_slash x h = false-not (x == 47) (and-both_true (not (x == 47)) (not (x == 92)) (and-both_true (nat_le x 126) (not (x == 47) && not (x == 92)) (and-both_true (nat_le 32 x) (nat_le x 126 && (not (x == 47) && not (x == 92))) h).1).1).0

segment_plain : (s : List ℕ) → is_segment s ≡ true → list_all is_plain s ≡ true
segment_plain [] h = absurd (let no : ⊥ = cc in no)
segment_plain (b ∷ s) h = (and-both_true (not (b == 46)) (list_all is_plain (b ∷ s)) h).1

-- plain bytes are one part, before a slash and at the end
plain_first : (s m : List ℕ) → list_all is_plain s ≡ true → parts 47 (s ++ 47 ∷ m) ≡ s ∷ parts 47 m
plain_first [] m h = refl
plain_first (x ∷ s) m h =
    let each = and-both_true (is_plain x) (list_all is_plain s) h in
    ap (λ z. cond z ([] ∷ parts 47 (s ++ 47 ∷ m)) (begun x (parts 47 (s ++ 47 ∷ m)))) (no_slash x each.0) ∙ ap (begun x) (plain_first s m each.1)

plain_last : (s : List ℕ) → list_all is_plain s ≡ true → parts 47 s ≡ s ∷ []
plain_last [] h = refl
plain_last (x ∷ s) h =
    let each = and-both_true (is_plain x) (list_all is_plain s) h in
    ap (λ z. cond z ([] ∷ parts 47 s) (begun x (parts 47 s))) (no_slash x each.0) ∙ ap (begun x) (plain_last s each.1)

one_inside : (s : List ℕ) → is_segment s ≡ true → IsInside s
one_inside s h = ap (list_all is_segment) (plain_last s (segment_plain s h)) ∙ ap (λ z. z && true) h

more_inside : (s m : List ℕ) → is_segment s ≡ true → IsInside m → IsInside (s ++ 47 ∷ m)
more_inside s m h k = ap (list_all is_segment) (plain_first s m (segment_plain s h)) ∙ (ap (λ z. z && list_all is_segment (parts 47 m)) h ∙ k)

shown_is : (s place : List ℕ) → shown s ≡ Some place → (is_segment s ≡ true) × (s ≡ place)
shown_is s place h = by (is_segment s) refl h
  where
    by : (d : Bool) → is_segment s ≡ d → cond d (Some s) None ≡ Some place → (is_segment s ≡ true) × (s ≡ place)
    by true e k = (e, cc)
    by false e k = absurd (not_Some-None place k)

joined_is : (here place : List ℕ) (o : Option (List ℕ)) → joined here o ≡ Some place → (m : List ℕ) × (o ≡ Some m) × (here ++ 47 ∷ m ≡ place)
joined_is here place None h = absurd (not_Some-None place h)
joined_is here place (Some m) h = (m, refl, cc)

then_is : (s place : List ℕ) (o : Option (List ℕ)) → option_and_then (λ here. joined here o) (shown s) ≡ Some place
    → (m : List ℕ) × (is_segment s ≡ true) × (o ≡ Some m) × (s ++ 47 ∷ m ≡ place)
then_is s place o h = by (is_segment s) refl h
  where
    by : (d : Bool) → is_segment s ≡ d → option_and_then (λ here. joined here o) (cond d (Some s) None) ≡ Some place
        → (m : List ℕ) × (is_segment s ≡ true) × (o ≡ Some m) × (s ++ 47 ∷ m ≡ place)
    by true e k = let is = joined_is s place o k in (is.0, e, is.1, is.2)
    by false e k = absurd (not_Some-None place k)

all_inside : (ss : List (List ℕ)) (place : List ℕ) → place_in ss ≡ Some place → IsInside place
all_inside [] place h = absurd (not_Some-None place h)
all_inside (s ∷ []) place h =
    let is = shown_is (segment_named s) place h in
    subst (λ (z : List ℕ). IsInside z) is.1 (one_inside (segment_named s) is.0)
all_inside (s ∷ t ∷ ss) place h =
    let is = then_is (percent_decode s) place (place_in (t ∷ ss)) h in
    subst (λ (z : List ℕ). IsInside z) is.3 (more_inside (percent_decode s) is.0 is.1 (all_inside (t ∷ ss) is.0 is.2))

at_inside : (path place : List ℕ) → place_at path ≡ Some place → IsInside place
at_inside [] place h = absurd (not_Some-None place h)
at_inside (b ∷ path) place h = by (b == 47) h
  where
    by : (d : Bool) → cond d (place_in (parts 47 path)) None ≡ Some place → IsInside place
    by true k = all_inside (parts 47 path) place k
    by false k = absurd (not_Some-None place k)

pub places_inside : PlacesAreInside
places_inside target place h = at_inside (before 63 target) place h
