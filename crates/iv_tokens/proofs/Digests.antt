-- No digest stands twice: a set of those behind.
use Rattle.std.proofs.Common.{◌≡◌, ℕ, Bool, true, false, ◌||◌, ◌&&◌, not, List, [], ◌∷◌, drop, refl, sym, ap, ◌∙◌, subst, zero, suc}
use Rattle.std.specs.Prelude.{bytes_eq}
use Rattle.std.specs.Global.{Vec}
use Rattle.std.specs.List.{list_any}
use Rattle.std.specs.Ordering.{is_eq, match_ordering, nat_cmp}
use Rattle.std.specs.declared.cmp.Ordering.{Ordering}
use Rattle.std.specs.declared.cmp.Ordering.TheVariants.{Less, Equal, Greater}
use Rattle.std.specs.Cmp.Lexicographic.{slice_cmp}
use Rattle.std.proofs.lemmas.Cmp.{nat_list_eq_equiv}
use Rattle.std.specs.BTreeSet.{BTreeSet, insert_key}
use Rattle.std.proofs.lemmas.Map.Lookups.{exact_bytes}
use Rattle.std.proofs.lemmas.Map.Text.{is_eq-slice_cmp}
use Rattle.iv_tokens.specs.Apart.{HasDigestsOf, has_key}
use Rattle.iv_clients.specs.Tokens.{are_apart, has_digest}
use Rattle.iv_tokens.specs.Entries.{Entry, tokens_among}

abbrev vec_cmp : Vec ℕ → Vec ℕ → Ordering
vec_cmp x y = slice_cmp nat_cmp x.items y.items

abbrev pub is_key : List ℕ → Vec ℕ → Bool
is_key d k = is_eq (slice_cmp nat_cmp d k.items)

is_key_of : (d : List ℕ) (k : Vec ℕ) → is_key d k ≡ bytes_eq k.items d
is_key_of d k = is_eq-slice_cmp d k.items ∙ nat_list_eq_equiv.symm d k.items

twice : (a r : Bool) → (a || r) ≡ (a || (a || r))
twice true r = refl
twice false r = refl

swapped : (a b r : Bool) → (a || (b || r)) ≡ (b || (a || r))
swapped true true r = refl
swapped true false r = refl
swapped false b r = refl

pub list_any-insert_key : (d : List ℕ) (k : Vec ℕ) (ks : List (Vec ℕ))
    → list_any (is_key d) (insert_key vec_cmp ks k) ≡ (bytes_eq k.items d || list_any (is_key d) ks)
list_any-insert_key d k [] = ap (λ z. z || false) (is_key_of d k)
list_any-insert_key d k (x ∷ xs) = by (vec_cmp k x) refl (list_any-insert_key d k xs)
  where
    by : (o : Ordering) → vec_cmp k x ≡ o → list_any (is_key d) (insert_key vec_cmp xs k) ≡ (bytes_eq k.items d || list_any (is_key d) xs)
        → list_any (is_key d) (match_ordering o (k ∷ x ∷ xs) (x ∷ xs) (x ∷ insert_key vec_cmp xs k)) ≡ (bytes_eq k.items d || (is_key d x || list_any (is_key d) xs))
    by Less e ih = ap (λ z. z || (is_key d x || list_any (is_key d) xs)) (is_key_of d k)
    by Equal e ih =
        let same : is_key d x ≡ bytes_eq k.items d = is_key_of d x ∙ ap (λ z. bytes_eq z d) (sym (exact_bytes k.items x.items e)) in
        subst (λ z. (z || list_any (is_key d) xs) ≡ (bytes_eq k.items d || (z || list_any (is_key d) xs))) (sym same) (twice (bytes_eq k.items d) (list_any (is_key d) xs))
    by Greater e ih = ap (λ z. is_key d x || z) ih ∙ swapped (is_key d x) (bytes_eq k.items d) (list_any (is_key d) xs)

and_false : (a : Bool) → (a && false) ≡ false
and_false true = refl
and_false false = refl

pub apart_behind : (n : ℕ) (es : List Entry) → are_apart (tokens_among (drop n es)) ≡ false → are_apart (tokens_among es) ≡ false
apart_behind zero es e = e
apart_behind (suc n) [] e = e
apart_behind (suc n) (x ∷ es) e =
    ap (λ z. not (has_digest x.token.digest (tokens_among es)) && z) (apart_behind n es e) ∙ and_false (not (has_digest x.token.digest (tokens_among es)))

-- an entry whose digest stands behind it
pub found_behind : (n : ℕ) (es more : List Entry) (x : Entry) → drop n es ≡ x ∷ more → has_digest x.token.digest (tokens_among more) ≡ true → are_apart (tokens_among es) ≡ false
found_behind n es more x d h = apart_behind n es (ap (λ z. are_apart (tokens_among z)) d ∙ ap (λ z. not z && are_apart (tokens_among more)) h)

not_is : (b : Bool) → not b ≡ false → b ≡ true
not_is true e = refl
not_is false e = sym e

pub are_apart-has_key : (n : ℕ) (es more : List Entry) (x : Entry) (s : BTreeSet (Vec ℕ)) (d : List ℕ) (is : Bool) → drop n es ≡ x ∷ more → d ≡ x.token.digest
    → HasDigestsOf (tokens_among more) s → is ≡ not (has_key s d) → is ≡ false → false ≡ are_apart (tokens_among es)
are_apart-has_key n es more x s d is cut here all e f =
    sym (found_behind n es more x cut (ap (λ z. has_digest z (tokens_among more)) (sym here) ∙ (sym (all d) ∙ not_is (has_key s d) (sym e ∙ f))))
