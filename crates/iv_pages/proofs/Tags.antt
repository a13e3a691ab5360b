-- The parts of a list, and what stands behind the last dot.
use Rattle.std.proofs.Common.{◌≡◌, ℕ, Bool, true, false, ◌||◌, List, ◌∷◌, Some, None, refl, ap, ◌∙◌, sym, subst}
use Rattle.std.specs.List.{list_any}
use Rattle.iv_pages.specs.Answer.{is_tag, lists_tag}
use Rattle.iv_pages.specs.Cut.{cut_at, parts}
use Rattle.iv_pages.specs.Kind.{last_of}
use Rattle.iv_pages.proofs.Cuts.{parts-cut_at, parts-not_cut, parts-cons}

tag_first : (tag rest part later : List ℕ) → cut_at 44 rest ≡ Some (part, later) → lists_tag tag rest ≡ (is_tag tag part || lists_tag tag later)
tag_first tag rest part later h = ap (list_any (is_tag tag)) (parts-cut_at 44 rest (part, later) h)

pub lists_tag-found : (tag rest part later : List ℕ) (all : Bool) → cut_at 44 rest ≡ Some (part, later) → is_tag tag part ≡ true → lists_tag tag rest ≡ all → true ≡ all
lists_tag-found tag rest part later all h e k = ap (λ z. z || lists_tag tag later) (sym e) ∙ (sym (tag_first tag rest part later h) ∙ k)

pub lists_tag-next : (tag rest part later : List ℕ) (all : Bool) → cut_at 44 rest ≡ Some (part, later) → is_tag tag part ≡ false → lists_tag tag rest ≡ all → lists_tag tag later ≡ all
lists_tag-next tag rest part later all h e k = ap (λ z. z || lists_tag tag later) (sym e) ∙ (sym (tag_first tag rest part later h) ∙ k)

or_nothing : (a : Bool) → a ≡ (a || false)
or_nothing true = refl
or_nothing false = refl

pub lists_tag-last : (tag rest : List ℕ) (found all : Bool) → cut_at 44 rest ≡ None → found ≡ is_tag tag rest → lists_tag tag rest ≡ all → found ≡ all
lists_tag-last tag rest found all h e k = e ∙ (or_nothing (is_tag tag rest) ∙ (ap (list_any (is_tag tag)) (sym (parts-not_cut 44 rest h)) ∙ k))

last_more : (p : List ℕ) (qs : List (List ℕ)) → ((q : List ℕ) × (ps : List (List ℕ)) × (qs ≡ q ∷ ps)) → last_of (p ∷ qs) ≡ last_of qs
last_more p qs is = subst (λ (z : List (List ℕ)). last_of (p ∷ z) ≡ last_of z) (sym is.2) refl

pub last_of-next : (b : ℕ) (rest part later all : List ℕ) → cut_at b rest ≡ Some (part, later) → last_of (parts b rest) ≡ all → last_of (parts b later) ≡ all
last_of-next b rest part later all h k =
    sym (last_more part (parts b later) (parts-cons b later)) ∙ (ap last_of (sym (parts-cut_at b rest (part, later) h)) ∙ k)

pub last_of-end : (b : ℕ) (rest all : List ℕ) → cut_at b rest ≡ None → last_of (parts b rest) ≡ all → rest ≡ all
last_of-end b rest all h k = ap last_of (sym (parts-not_cut b rest h)) ∙ k
