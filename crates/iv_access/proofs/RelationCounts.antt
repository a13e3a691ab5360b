-- How many tables there are, and how many views.
use Rattle.std.proofs.Common.{◌≡◌, ℕ, ◌+◌, ◌<◌, ◌≤◌, List, [], ◌∷◌, ◌++◌, map, length, Bool, true, false, cond, refl, sym, ◌∙◌, arith, Option, Some, None}
use Rattle.std.specs.Prelude.{String, is_some, option_map, count_by}
use Rattle.std.specs.Global.{Global, Vec}
use Rattle.std.specs.Bool.{beq}
use Rattle.std.specs.Map.{values_of}
use Rattle.std.proofs.lemmas.List.Sums.{sum_by-append}
use Rattle.std.proofs.lemmas.List.{length-map}
use Rattle.iv_rows.specs.declared.value.Kind.{Kind}
use Rattle.iv_access.specs.Access.{Relation}
use Rattle.iv_access.specs.Faults.{count_like}
use Rattle.iv_access.specs.Stored.{relation_at}

count_cons : {X : Type 0} (p : X → Bool) (x : X) (xs : List X) → count_by p (x ∷ xs) ≡ cond (p x) 1 0 + count_by p xs
count_cons p x xs = let joined = sum_by-append (λ y. cond (p y) 1 0) (x ∷ []) xs in omega (arith, joined)

pub is_some-option_map : {A B : Type 0} (f : A → B) (o : Option A) → is_some (option_map f o) ≡ is_some o
is_some-option_map f None = refl
is_some-option_map f (Some x) = refl

pub count_like-stored : (table : Bool) (es : List (String Global × Option (Vec Kind))) → count_by (λ ks. beq table (is_some ks)) (values_of es) ≡ count_like table (map relation_at es)
count_like-stored table [] = refl
count_like-stored table (e ∷ es) =
    count_cons (λ ks. beq table (is_some ks)) e.1 (values_of es)
    ∙ (λ i. cond (beq table (sym (is_some-option_map (λ ks. ks.items) e.1) i)) 1 0 + count_like-stored table es i)
    ∙ sym (count_cons (λ r. beq table (is_some r.kinds)) (relation_at e) (map relation_at es))

one_sort : (b : Bool) (n tables views : ℕ) → n ≡ tables + views → n + 1 ≡ (cond (beq true b) 1 0 + tables) + (cond (beq false b) 1 0 + views)
one_sort true n tables views e = omega (arith, e)
one_sort false n tables views e = omega (arith, e)

-- each relation is a table or a view
pub each_sort : (rs : List Relation) → length rs ≡ count_like true rs + count_like false rs
each_sort [] = refl
each_sort (r ∷ rs) =
    let tables = count_cons (λ q. beq true (is_some q.kinds)) r rs in
    let views = count_cons (λ q. beq false (is_some q.kinds)) r rs in
    let one = one_sort (is_some r.kinds) (length rs) (count_like true rs) (count_like false rs) (each_sort rs) in
    omega (arith, tables, views, one)

pub length-le-128 : (es : List (String Global × Option (Vec Kind))) → count_like true (map relation_at es) ≤ 64 → count_like false (map relation_at es) ≤ 64 → length es ≤ 128
length-le-128 es tables views =
    let whole = each_sort (map relation_at es) in
    let same = length-map es relation_at in
    omega (arith, tables, views, whole, same)

one_more : (table : Bool) (rs : List Relation) (r : Relation) → count_like table (rs ++ r ∷ []) ≡ count_like table rs + cond (beq table (is_some r.kinds)) 1 0
one_more table rs r = let joined = sum_by-append (λ q. cond (beq table (is_some q.kinds)) 1 0) rs (r ∷ []) in omega (arith, joined)

-- where there is room for one of its sort, there are not too many of either after it
pub count_like-push : (rs : List Relation) (r : Relation) → count_like (is_some r.kinds) rs < 64 → count_like true rs ≤ 64 → count_like false rs ≤ 64
    → (count_like true (rs ++ r ∷ []) ≤ 64) × (count_like false (rs ++ r ∷ []) ≤ 64)
count_like-push rs r room tables views =
    let more_tables = one_more true rs r in
    let more_views = one_more false rs r in
    elim (is_some r.kinds) as (λ b. count_like b rs < 64 → count_like true (rs ++ r ∷ []) ≡ count_like true rs + cond (beq true b) 1 0 → count_like false (rs ++ r ∷ []) ≡ count_like false rs + cond (beq false b) 1 0 → (count_like true (rs ++ r ∷ []) ≤ 64) × (count_like false (rs ++ r ∷ []) ≤ 64)) [
      | true ↦ λ h t v. (omega (arith, h, t, tables), omega (arith, v, views))
      | false ↦ λ h t v. (omega (arith, t, tables), omega (arith, h, v, views))
    ] room more_tables more_views
