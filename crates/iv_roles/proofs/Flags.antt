-- Rows of flags.
use Rattle.std.proofs.Common.{◌≡◌, inl, inr, ℕ, ◌+◌, ◌<◌, ◌≤◌, ◌==◌, List, [], ◌∷◌, ◌++◌, Bool, true, false, ◌&&◌, ◌||◌, refl, sym, ap, ◌∙◌, subst, length, get_or, set, take, drop, replicate, arith, get_or-set_same, get_or-set_other, length-append}
use Rattle.std.specs.Prelude.{nat_lt}
use Rattle.std.specs.List.{All}
use Rattle.std.proofs.lemmas.Bool.{cases_eq, cases_lt, lt-ltb, le-ltb, ne_eqb, eq-eqb}
use Rattle.std.proofs.lemmas.List.{append-nil, drop_all, get_or_append_left, get_or_past, get_or_push, get_or-replicate, length-replicate, take_all, take_more}
use Rattle.std.proofs.lemmas.List.Elements.{All-append, All-cons, All-nil}
use Rattle.iv_roles.specs.Memberships.{Membership, further, member_of, reaches}
use Rattle.iv_roles.specs.Rows.{AreRows, flag, IsWithin, leads}
use Rattle.iv_roles.proofs.Chains.{reaches-push}

-- ---- a row and another

-- before the place it has the other's flags too
abbrev pub JoinedTo : ℕ → (old other row : List Bool) → Type 0
JoinedTo n old other row = (k : ℕ) → get_or row k false ≡ (get_or old k false || (nat_lt k n && get_or other k false))

or_false : (a : Bool) → (a || false) ≡ a
or_false true = refl
or_false false = refl

pub JoinedTo-start : (row other : List Bool) → JoinedTo 0 row other row
JoinedTo-start row other k = sym (ap (λ t. get_or row k false || (t && get_or other k false)) (le-ltb k 0 (omega arith)) ∙ or_false (get_or row k false))

same_test : (k n : ℕ) → (k ≡ n → ⊥) → nat_lt k (n + 1) ≡ nat_lt k n
same_test k n apart =
    elim (cases_lt k n) [
      | inl l ↦ lt-ltb k (n + 1) (omega (arith, l)) ∙ sym (lt-ltb k n l)
      | inr g ↦ le-ltb k (n + 1) (omega (arith, g, apart)) ∙ sym (le-ltb k n g)
    ]

pub JoinedTo-step : (old other row : List Bool) (n : ℕ) → n < length row → JoinedTo n old other row → JoinedTo (n + 1) old other (set row n (get_or row n false || get_or other n false))
JoinedTo-step old other row n l h k =
    elim (cases_eq k n) [
      | inl same ↦
          subst (λ j. get_or (set row n (get_or row n false || get_or other n false)) j false ≡ (get_or old j false || (nat_lt j (n + 1) && get_or other j false))) (sym same)
          (get_or-set_same row n (get_or row n false || get_or other n false) false l
          ∙ ap (λ b. b || get_or other n false) (h n ∙ ap (λ t. get_or old n false || (t && get_or other n false)) (le-ltb n n (omega arith)) ∙ or_false (get_or old n false))
          ∙ ap (λ t. get_or old n false || (t && get_or other n false)) (sym (lt-ltb n (n + 1) (omega arith))))
      | inr apart ↦
          get_or-set_other row n k (get_or row n false || get_or other n false) false apart
          ∙ h k
          ∙ ap (λ t. get_or old k false || (t && get_or other k false)) (sym (same_test k n apart))
    ]

within_test : (n k : ℕ) (other : List Bool) → length other ≤ n → (nat_lt k n && get_or other k false) ≡ get_or other k false
within_test n k other l =
    elim (cases_lt k n) [
      | inl i ↦ ap (λ t. t && get_or other k false) (lt-ltb k n i)
      | inr g ↦ ap (λ t. t && get_or other k false) (le-ltb k n g) ∙ sym (get_or_past other k false (omega (arith, l, g)))
    ]

swapped : (a b c : Bool) → (a || c) ≡ (a || (false || c))
swapped a b c = refl

or_one : (a b : Bool) → true ≡ (a || (true || b))
or_one true b = refl
or_one false b = refl

-- at the end, with the flag of the role
pub get_or-joined : (n role : ℕ) (old other row : List Bool) → length other ≤ n → role < length row → JoinedTo n old other row
    → (k : ℕ) → get_or (set row role true) k false ≡ (get_or old k false || (role == k || get_or other k false))
get_or-joined n role old other row l r h k =
    elim (cases_eq k role) [
      | inl same ↦
          subst (λ j. get_or (set row role true) j false ≡ (get_or old j false || (role == j || get_or other j false))) (sym same)
          (get_or-set_same row role true false r ∙ or_one (get_or old role false) (get_or other role false) ∙ ap (λ t. get_or old role false || (t || get_or other role false)) (sym (eq-eqb role role refl)))
      | inr apart ↦
          get_or-set_other row role k true false apart
          ∙ h k
          ∙ ap (λ b. get_or old k false || b) (within_test n k other l ∙ ap (λ t. t || get_or other k false) (sym (ne_eqb role k (λ e. apart (sym e)))))
    ]

-- ---- all rows

-- the rows before the place have the other's flags too, where they are the member's, or have its flag
abbrev pub LedTo : ℕ → (role member : ℕ) → (other : List Bool) → (old rows : List (List Bool)) → Type 0
LedTo n role member other old rows =
    (a b : ℕ) → flag rows a b ≡ (flag old a b || (nat_lt a n && ((a == member || flag old a member) && (role == b || get_or other b false))))

pub led_start : (role member : ℕ) (other : List Bool) (rows : List (List Bool)) → LedTo 0 role member other rows rows
led_start role member other rows a b =
    sym (ap (λ t. flag rows a b || (t && ((a == member || flag rows a member) && (role == b || get_or other b false)))) (le-ltb a 0 (omega arith)) ∙ or_false (flag rows a b))

pub LedTo-step : (role member : ℕ) (other : List Bool) (old rows : List (List Bool)) (n : ℕ) (new : List Bool) → n < length rows
    → ((k : ℕ) → get_or new k false ≡ (flag rows n k || ((n == member || flag rows n member) && (role == k || get_or other k false))))
    → LedTo n role member other old rows → LedTo (n + 1) role member other old (set rows n new)
LedTo-step role member other old rows n new l step h a b =
    let before : (k : ℕ) → flag rows n k ≡ flag old n k = λ k.
    h n k
    ∙ ap (λ t. flag old n k || (t && ((n == member || flag old n member) && (role == k || get_or other k false)))) (le-ltb n n (omega arith))
    ∙ or_false (flag old n k) in
    elim (cases_eq a n) [
      | inl same ↦
          subst (λ j. flag (set rows n new) j b ≡ (flag old j b || (nat_lt j (n + 1) && ((j == member || flag old j member) && (role == b || get_or other b false))))) (sym same)
          (ap (λ r. get_or r b false) (get_or-set_same rows n new [] l)
          ∙ step b
          ∙ (λ i. before b i || ((n == member || before member i) && (role == b || get_or other b false)))
          ∙ ap (λ t. flag old n b || (t && ((n == member || flag old n member) && (role == b || get_or other b false)))) (sym (lt-ltb n (n + 1) (omega arith))))
      | inr apart ↦
          ap (λ r. get_or r b false) (get_or-set_other rows n a new [] apart)
          ∙ h a b
          ∙ ap (λ t. flag old a b || (t && ((a == member || flag old a member) && (role == b || get_or other b false)))) (sym (same_test a n apart))
    ]

or_apart : (a b x y : Bool) → (a || (b || (x && y))) ≡ ((a || b) || (x && y))
or_apart true b x y = refl
or_apart false b x y = refl

no_more : (a b y : Bool) → (a || (b || false)) ≡ ((a || b) || (false && y))
no_more true b y = refl
no_more false true y = refl
no_more false false y = refl

past_all : (rows : List (List Bool)) (a b : ℕ) → length rows ≤ a → flag rows a b ≡ false
past_all rows a b l = ap (λ r. get_or r b false) (get_or_past rows a [] l)

pub led_end : (n role member : ℕ) (other : List Bool) (old rows : List (List Bool)) → length old ≤ n → member < length old
    → ((k : ℕ) → get_or other k false ≡ flag old role k)
    → LedTo n role member other old rows → (a b : ℕ) → leads rows a b ≡ further (leads old) (member_of role member) a b
led_end n role member other old rows take-whole m is h a b =
    ap (λ t. a == b || t) (h a b)
    ∙ elim (cases_lt a n) [
      | inl l ↦
          (λ i. a == b || (flag old a b || (lt-ltb a n l i && ((a == member || flag old a member) && (role == b || is b i)))))
          ∙ or_apart (a == b) (flag old a b) (a == member || flag old a member) (role == b || flag old role b)
      | inr g ↦
          (λ i. a == b || (flag old a b || (le-ltb a n g i && ((a == member || flag old a member) && (role == b || get_or other b false)))))
          ∙ no_more (a == b) (flag old a b) (role == b || flag old role b)
          ∙ (λ i. (a == b || flag old a b) || ((sym (ne_eqb a member (λ e. omega (arith, e, m, take-whole, g))) i || sym (past_all old a member (omega (arith, take-whole, g))) i) && (role == b || flag old role b)))
    ]

-- ---- rows without a flag

pub get_or-replicate_false : (n k : ℕ) → get_or (replicate n false) k false ≡ false
get_or-replicate_false n k =
    elim (cases_lt k n) [
      | inl l ↦ get_or-replicate n k false false l
      | inr g ↦ let long = length-replicate n false in get_or_past (replicate n false) k false (omega (arith, long, g))
    ]

pub leads-no_flags : (rows : List (List Bool)) → ((a b : ℕ) → a < length rows → flag rows a b ≡ false) → (a b : ℕ) → leads rows a b ≡ (a == b)
leads-no_flags rows h a b =
    ap (λ t. a == b || t) (elim (cases_lt a (length rows)) [
      | inl l ↦ h a b l
      | inr g ↦ past_all rows a b g
    ])
    ∙ or_false (a == b)

pub leads-push : (rows : List (List Bool)) (row : List Bool) → ((k : ℕ) → get_or row k false ≡ false) → (a b : ℕ) → leads (rows ++ row ∷ []) a b ≡ leads rows a b
leads-push rows row h a b =
    ap (λ t. a == b || t) (elim (cases_lt a (length rows)) [
      | inl l ↦ ap (λ r. get_or r b false) (get_or_append_left rows (row ∷ []) [] a l)
      | inr g ↦ elim (cases_eq a (length rows)) [
        | inl same ↦ ap (λ r. get_or r b false) (get_or_push rows row [] a (sym same)) ∙ h b ∙ sym (past_all rows a b g)
        | inr apart ↦ let long = length-append rows (row ∷ []) in past_all (rows ++ row ∷ []) a b (omega (arith, long, g, apart)) ∙ sym (past_all rows a b g)
      ]
    ])

-- ---- the rows behind a borrow

pub take-whole : {A : Type 0} (n : ℕ) (xs ys : List A) → length xs ≡ length ys → n ≡ length ys → take n (xs ++ drop (length xs) ys) ≡ xs
take-whole n xs ys same len =
    ap (λ zs. take n (xs ++ zs)) (drop_all (length xs) ys (omega (arith, same)))
    ∙ ap (take n) (append-nil xs)
    ∙ take_all n xs (omega (arith, same, len))

-- ---- rows of the memberships before a place

pub flag-set_cleared : (rows : List (List Bool)) (row : List Bool) (n : ℕ) → n < length rows → ((k : ℕ) → get_or row k false ≡ false)
    → ((a b : ℕ) → a < n → flag rows a b ≡ false) → (a b : ℕ) → a < n + 1 → flag (set rows n row) a b ≡ false
flag-set_cleared rows row n l none h a b below =
    elim (cases_eq a n) [
      | inl same ↦ subst (λ j. flag (set rows n row) j b ≡ false) (sym same) (ap (λ r. get_or r b false) (get_or-set_same rows n row [] l) ∙ none b)
      | inr apart ↦ ap (λ r. get_or r b false) (get_or-set_other rows n a row [] apart) ∙ h a b (omega (arith, below, apart))
    ]

pub leads-take_next : (ms : List Membership) (n : ℕ) (m : Membership) (rows new : List (List Bool)) → n < length ms → m ≡ get_or ms n m
    → ((a b : ℕ) → leads rows a b ≡ reaches (take n ms) a b) → ((a b : ℕ) → leads new a b ≡ further (leads rows) m a b)
    → (a b : ℕ) → leads new a b ≡ reaches (take (n + 1) ms) a b
leads-take_next ms n m rows new l is h step a b =
    step a b
    ∙ (λ i. further (λ x y. h x y i) m a b)
    ∙ sym (reaches-push (take n ms) m a b)
    ∙ ap (λ os. reaches os a b) (ap (λ o. take n ms ++ o ∷ []) is ∙ sym (take_more ms n m l))

-- ---- one membership more

more_rows : (m : Membership) (n k : ℕ) → n ≤ k → IsWithin n m → IsWithin k m
more_rows m n k more w = let role = w.role in let member = w.member in record { wide = w.wide; role = omega (arith, role, more); member = omega (arith, member, more) }

pub AreRows-push : (ms : List Membership) (m : Membership) (old grown new : List (List Bool)) → AreRows ms old → length old ≤ length grown
    → ((a b : ℕ) → leads grown a b ≡ leads old a b) → IsWithin (length grown) m → length new ≡ length grown
    → ((a b : ℕ) → leads new a b ≡ further (leads grown) m a b) → AreRows (ms ++ m ∷ []) new
AreRows-push ms m old grown new h more same here long step = record {
  within = subst (λ n. All (IsWithin n) (ms ++ m ∷ [])) (sym long)
      (All-append (IsWithin (length grown)) ms (m ∷ []) (λ k d l. more_rows (get_or ms k d) (length old) (length grown) more (h.within k d l)) (All-cons (IsWithin (length grown)) m [] here (All-nil (IsWithin (length grown)))));
  follow = λ a b. step a b ∙ ((λ i. further (λ x y. (same x y ∙ h.follow x y) i) m a b) ∙ sym (reaches-push ms m a b));
}
