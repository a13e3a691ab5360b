-- Readers found by role and relation, one after the other.
use Rattle.std.proofs.Common.{◌≡◌, ℕ, ◌+◌, ◌<◌, Bool, true, false, cond, ◌&&◌, List, [], ◌∷◌, ◌++◌, length, get_or, take, Option, None, Some, refl, sym, ap, ◌∙◌, arith}
use Rattle.std.proofs.lemmas.Bool.Decides.{nat_tests}
use Rattle.std.proofs.lemmas.List.{length-take-le, take_more}
use Rattle.std.specs.Prelude.{◌==◌, is_some, option_map, position}
use Rattle.std.specs.Ordering.{is_eq}
use Rattle.iv_rows.specs.Options.{if_some}
use Rattle.iv_readers.specs.Index.{pair_cmp, with_reader}
use Rattle.iv_readers.specs.Readers.{RoleCircuit, is_for}
use Rattle.iv_readers.specs.declared.ids.ReaderId.{ReaderId}
use Rattle.iv_readers.proofs.Positions.{position-push}

-- pairs tie where both parts are the same
pub is_eq-pair_cmp : (a b c d : ℕ) → is_eq (pair_cmp (a, b) (c, d)) ≡ ((a == c) && (b == d))
is_eq-pair_cmp a b c d = grind (arith, nat_tests)

both : (a b c d : ℕ) → ((a == c) && (b == d)) ≡ true → (a ≡ c) × (b ≡ d)
both a b c d h = by (a == c) (b == d) refl refl h
  where
    same : (m n : ℕ) → (m == n) ≡ true → m ≡ n
    same m n e = grind (arith, nat_tests)

    by : (x y : Bool) → (a == c) ≡ x → (b == d) ≡ y → (x && y) ≡ true → (a ≡ c) × (b ≡ d)
    by true true e f k = (same a c e, same b d f)
    by true false e f k = cc
    by false y e f k = cc

-- a reader that is there stays
pub with_reader-there : (role rel place : ℕ) (found : (role rel : ℕ) → Option ℕ) → is_some (found role rel) ≡ true → (a b : ℕ) → found a b ≡ with_reader role rel place found a b
with_reader-there role rel place found there a b = by (found a b) ((role == a) && (rel == b)) refl refl
  where
    by : (o : Option ℕ) (t : Bool) → found a b ≡ o → ((role == a) && (rel == b)) ≡ t → o ≡ if_some o (cond t (Some place) None) (λ i. Some i)
    by (Some i) t e f = refl
    by None false e f = refl
    by None true e f =
        let same = both role rel a b f in
        let none : is_some (found role rel) ≡ false = (λ j. is_some (found (same.0 j) (same.1 j))) ∙ ap is_some e in
        let clash : true ≡ false = sym there ∙ none in
        cc

-- and one comes where there is none
pub with_reader-come : (role rel : ℕ) (r : ReaderId) (old new : (role rel : ℕ) → Option ReaderId) → is_some (old role rel) ≡ false
    → ((a b : ℕ) → new a b ≡ cond (is_eq (pair_cmp (role, rel) (a, b))) (Some r) (old a b))
    → (a b : ℕ) → option_map (λ x. x.0) (new a b) ≡ with_reader role rel r.0 (λ m n. option_map (λ x. x.0) (old m n)) a b
with_reader-come role rel r old new none updates a b =
    ap (option_map number) (updates a b ∙ ap (λ t. cond t (Some r) (old a b)) (is_eq-pair_cmp role rel a b)) ∙ by ((role == a) && (rel == b)) (old a b) refl refl
  where
    number : ReaderId → ℕ
    number x = x.0

    by : (t : Bool) (o : Option ReaderId) → ((role == a) && (rel == b)) ≡ t → old a b ≡ o → option_map number (cond t (Some r) o) ≡ if_some (option_map number o) (cond t (Some r.0) None) (λ i. Some i)
    by true None e f = refl
    by true (Some x) e f =
        let same = both role rel a b e in
        let there : is_some (old role rel) ≡ true = (λ j. is_some (old (same.0 j) (same.1 j))) ∙ ap is_some f in
        let clash : true ≡ false = sym there ∙ none in
        cc
    by false None e f = refl
    by false (Some x) e f = refl

-- an index of the readers so far is one of one more
pub with_reader-next : (ks : List RoleCircuit) (i : ℕ) (k : RoleCircuit) (role rel : ℕ) → i < length ks → k ≡ get_or ks i k → role ≡ k.role → rel ≡ k.rel → (old new : (role rel : ℕ) → Option ℕ)
    → ((a b : ℕ) → old a b ≡ position (is_for a b) (take i ks)) → ((a b : ℕ) → new a b ≡ with_reader role rel i old a b) → (a b : ℕ) → new a b ≡ position (is_for a b) (take (i + 1) ks)
with_reader-next ks i k role rel low at own_role own_rel old new so_far is a b =
    let more : take (i + 1) ks ≡ take i ks ++ k ∷ [] = take_more ks i k low ∙ ap (λ x. take i ks ++ x ∷ []) (sym at) in
    let long : length (take i ks) ≡ i = length-take-le i ks (omega (arith, low)) in
    is a b
    ∙ (λ j. if_some (so_far a b j) (cond ((own_role j == a) && (own_rel j == b)) (Some (sym long j)) None) (λ n. Some n))
    ∙ sym (position-push (is_for a b) (take i ks) k)
    ∙ ap (position (is_for a b)) (sym more)
