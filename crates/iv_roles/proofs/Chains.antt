-- Chains of direct memberships, and the test that Follows-reaches them.
use Rattle.std.proofs.Common.{◌≡◌, ◌⊎◌, inl, inr, ℕ, ◌==◌, List, [], ◌∷◌, ◌++◌, Bool, true, false, not, ◌&&◌, ◌||◌, refl, sym, ap, ◌∙◌, subst, append_assoc, append-nil}
use Rattle.std.specs.Prelude.{if◌then◌else◌}
use Rattle.std.specs.Bool.{Decides}
use Rattle.std.specs.Cmp.{unsigned_Decides}
pub use Rattle.std.proofs.lemmas.Bool.{or_cases as one_of, and_parts as each_of, or_left as by_left, or_right as by_right, and_from as by_both}
use Rattle.std.proofs.lemmas.List.Folds.{list_any-append}
use Rattle.std.proofs.lemmas.Map.Views.{any-filter_same}
use Rattle.iv_roles.specs.Memberships.{Membership, membership_eq, member_of, is_direct, Reaches, itself, through, further, reaches_by, reaches, with_membership, without_membership}

-- ---- two truth values

pub absurd-true_false : {A : Type 0} (b : Bool) → b ≡ true → b ≡ false → A
absurd-true_false b e f = cc

pub is-both_ways : (a b : Bool) → (a ≡ true → b ≡ true) → (b ≡ true → a ≡ true) → a ≡ b
is-both_ways true true f g = refl
is-both_ways false false f g = refl
is-both_ways true false f g = sym (f refl)
is-both_ways false true f g = g refl

-- ---- one membership

number_itself : (n : ℕ) → (n == n) ≡ true
number_itself n = (unsigned_Decides n n).1 refl

pub membership_itself : (m : Membership) → membership_eq m m ≡ true
membership_itself m = by_both (m.role == m.role) (m.member == m.member) (number_itself m.role) (number_itself m.member)

pub membership_same : (m n : Membership) → membership_eq m n ≡ true → m ≡ n
membership_same m n e =
    let parts = each_of (m.role == n.role) (m.member == n.member) e in
    λ i. record { role = (unsigned_Decides m.role n.role).0 parts.0 i; member = (unsigned_Decides m.member n.member).0 parts.1 i }

-- ---- chains

pub chained : {ms : List Membership} {a b c : ℕ} → Reaches ms a b → Reaches ms b c → Reaches ms a c
chained (itself ms a) k = k
chained {c = c} (through ms a next b e h) k = through ms a next c e (chained h k)

-- a chain stays where its memberships do
pub kept : {ms : List Membership} {a b : ℕ} (ns : List Membership) → ((m : Membership) → is_direct ms m ≡ true → is_direct ns m ≡ true) → Reaches ms a b → Reaches ns a b
kept ns f (itself ms a) = itself ns a
kept ns f (through ms a next b e h) = through ns a next b (f (member_of next a) e) (kept ns f h)

-- the test tells the chains
abbrev pub Follows : List Membership → (ℕ → ℕ → Bool) → Type 0
Follows ms test = (a b : ℕ) → Decides (test a b) (Reaches ms a b)

no_chain : {ms : List Membership} {a b : ℕ} → ((m : Membership) → is_direct ms m ≡ false) → Reaches ms a b → (a == b) ≡ true
no_chain none (itself ms a) = number_itself a
no_chain none (through ms a next b e h) = absurd-true_false (is_direct ms (member_of next a)) e (none (member_of next a))

itself_alone : Follows [] (λ a b. a == b)
itself_alone a b = (λ e. subst (λ c. Reaches [] a c) ((unsigned_Decides a b).0 e) (itself [] a), λ h. no_chain (λ m. refl) h)

-- where all memberships but one are among those that the test Follows-reaches, a chain goes by the test, or by the one between
pub found : (ms : List Membership) (test : ℕ → ℕ → Bool) (m : Membership) → Follows ms test → {ns : List Membership} {a b : ℕ}
    → ((n : Membership) → is_direct ns n ≡ true → (is_direct ms n ≡ true) ⊎ (n ≡ m)) → Reaches ns a b → further test m a b ≡ true
found ms test m h old (itself ns a) = by_left (test a a) (test a m.member && test m.role a) ((h a a).1 (itself ms a))
found ms test m h old (through ns a next b e k) =
    let rest = one_of (test next b) (test next m.member && test m.role b) (found ms test m h old k) in
    elim (old (member_of next a) e) [
      | inl d ↦ elim rest [
        | inl x ↦ by_left (test a b) (test a m.member && test m.role b) ((h a b).1 (through ms a next b d ((h next b).0 x)))
        | inr y ↦
            let both = each_of (test next m.member) (test m.role b) y in
            by_right (test a b) (test a m.member && test m.role b) (by_both (test a m.member) (test m.role b) ((h a m.member).1 (through ms a next m.member d ((h next m.member).0 both.0))) both.1)
      ]
      | inr same ↦
          let first : test a m.member ≡ true = (h a m.member).1 (subst (λ c. Reaches ms a c) (ap (λ n. n.member) same) (itself ms a)) in
          let last : test m.role b ≡ true = elim rest [
            | inl x ↦ subst (λ c. test c b ≡ true) (ap (λ n. n.role) same) x
            | inr y ↦ (each_of (test next m.member) (test m.role b) y).1
          ] in
          by_right (test a b) (test a m.member && test m.role b) (by_both (test a m.member) (test m.role b) first last)
    ]

-- ---- one membership more

either : (ms : List Membership) (m n : Membership) → is_direct (ms ++ m ∷ []) n ≡ true → (is_direct ms n ≡ true) ⊎ (n ≡ m)
either ms m n e =
    elim (one_of (is_direct ms n) (membership_eq n m || false) (sym (list_any-append (membership_eq n) ms (m ∷ [])) ∙ e)) [
      | inl d ↦ inl d
      | inr x ↦ elim (one_of (membership_eq n m) false x) [
        | inl y ↦ inr (membership_same n m y)
        | inr y ↦ absurd-true_false false y refl
      ]
    ]

among_more : (ms : List Membership) (m n : Membership) → is_direct ms n ≡ true → is_direct (ms ++ m ∷ []) n ≡ true
among_more ms m n e = list_any-append (membership_eq n) ms (m ∷ []) ∙ by_left (is_direct ms n) (membership_eq n m || false) e

last_among : (ms : List Membership) (m : Membership) → is_direct (ms ++ m ∷ []) m ≡ true
last_among ms m = list_any-append (membership_eq m) ms (m ∷ []) ∙ by_right (is_direct ms m) (membership_eq m m || false) (by_left (membership_eq m m) false (membership_itself m))

extended : (ms : List Membership) (test : ℕ → ℕ → Bool) (m : Membership) → Follows ms test → Follows (ms ++ m ∷ []) (further test m)
extended ms test m h a b = (
  λ e. elim (one_of (test a b) (test a m.member && test m.role b) e) [
    | inl x ↦ kept (ms ++ m ∷ []) (among_more ms m) ((h a b).0 x)
    | inr y ↦
        let both = each_of (test a m.member) (test m.role b) y in
        chained (kept (ms ++ m ∷ []) (among_more ms m) ((h a m.member).0 both.0))
        (through (ms ++ m ∷ []) m.member m.role b (last_among ms m) (kept (ms ++ m ∷ []) (among_more ms m) ((h m.role b).0 both.1)))
  ],
  λ k. found ms test m h (either ms m) k,
)

followed : (ms ns : List Membership) (test : ℕ → ℕ → Bool) → Follows ms test → Follows (ms ++ ns) (reaches_by test ns)
followed ms [] test h = subst (λ os. Follows os test) (sym (append-nil ms)) h
followed ms (n ∷ ns) test h = subst (λ os. Follows os (reaches_by (further test n) ns)) (append_assoc ms (n ∷ []) ns) (followed (ms ++ n ∷ []) ns (further test n) (extended ms test n h))

-- the test Follows-reaches each chain, and nothing else
pub Follows-reaches : (ms : List Membership) → Follows ms (reaches ms)
Follows-reaches ms = followed [] ms (λ a b. a == b) itself_alone

by_parts : (test : ℕ → ℕ → Bool) (ms ns : List Membership) (a b : ℕ) → reaches_by test (ms ++ ns) a b ≡ reaches_by (reaches_by test ms) ns a b
by_parts test [] ns a b = refl
by_parts test (m ∷ ms) ns a b = by_parts (further test m) ms ns a b

pub reaches-push : (ms : List Membership) (m : Membership) (a b : ℕ) → reaches (ms ++ m ∷ []) a b ≡ further (reaches ms) m a b
reaches-push ms m a b = by_parts (λ x y. x == y) ms (m ∷ []) a b

-- ---- the test on chains

pub reaches_itself : (ms : List Membership) (a : ℕ) → reaches ms a a ≡ true
reaches_itself ms a = (Follows-reaches ms a a).1 (itself ms a)

pub reaches-trans : (ms : List Membership) (a b c : ℕ) → reaches ms a b ≡ true → reaches ms b c ≡ true → reaches ms a c ≡ true
reaches-trans ms a b c e f = (Follows-reaches ms a c).1 (chained ((Follows-reaches ms a b).0 e) ((Follows-reaches ms b c).0 f))

-- ---- one membership less

among_left : (m n : Membership) (ms : List Membership) → is_direct (without_membership m ms) n ≡ (not (membership_eq m n) && is_direct ms n)
among_left m n ms =
    any-filter_same (membership_eq n) (λ k. not (membership_eq m k)) (not (membership_eq m n))
    (λ k e. ap (λ x. not (membership_eq m x)) (sym (membership_same n k e))) ms

pub among_fewer : (m n : Membership) (ms : List Membership) → is_direct (without_membership m ms) n ≡ true → is_direct ms n ≡ true
among_fewer m n ms e = (each_of (not (membership_eq m n)) (is_direct ms n) (sym (among_left m n ms) ∙ e)).1

left_or_same : (m n : Membership) (ms : List Membership) → is_direct ms n ≡ true → (is_direct (without_membership m ms) n ≡ true) ⊎ (n ≡ m)
left_or_same m n ms e =
    elim (membership_eq m n) as (λ b. membership_eq m n ≡ b → (is_direct (without_membership m ms) n ≡ true) ⊎ (n ≡ m)) [
      | true ↦ λ t. inr (sym (membership_same m n t))
      | false ↦ λ t. inl (among_left m n ms ∙ (λ i. not (t i) && e i))
    ] refl

-- ---- who reaches no one else

unless : (x y z r : Bool) → (r || (y && true)) ≡ r → (r ≡ true → z ≡ true → x ≡ true) → (x || (y && z)) ≡ x
unless true y z r e t = refl
unless false false z r e t = refl
unless false true false r e t = refl
unless false true true true e t = sym (t refl refl)
unless false true true false e t = e

pub reaches-with_membership : (ms : List Membership) (role member a : ℕ) → reaches (with_membership (member_of role member) ms) a role ≡ reaches ms a role
    → (b : ℕ) → reaches (with_membership (member_of role member) ms) a b ≡ reaches ms a b
reaches-with_membership ms role member a e b =
    let m = member_of role member in
    elim (is_direct ms m) as (λ t. reaches (if t then ms else ms ++ m ∷ []) a role ≡ reaches ms a role → reaches (if t then ms else ms ++ m ∷ []) a b ≡ reaches ms a b) [
      | true ↦ λ _. refl
      | false ↦ λ h.
          reaches-push ms m a b
          ∙ unless (reaches ms a b) (reaches ms a member) (reaches ms role b) (reaches ms a role)
          (ap (λ t. reaches ms a role || (reaches ms a member && t)) (sym (reaches_itself ms role)) ∙ (sym (reaches-push ms m a role) ∙ h))
          (reaches-trans ms a role b)
    ] e

pub reaches-without_membership : (ms : List Membership) (role member a : ℕ) → reaches (without_membership (member_of role member) ms) a role ≡ reaches ms a role
    → (b : ℕ) → reaches (without_membership (member_of role member) ms) a b ≡ reaches ms a b
reaches-without_membership ms role member a e b =
    let m = member_of role member in
    let ns = without_membership m ms in
    let more : (x y : ℕ) → reaches ns x y ≡ true → reaches ms x y ≡ true = λ x y h. (Follows-reaches ms x y).1 (kept ms (λ n d. among_fewer m n ms d) ((Follows-reaches ns x y).0 h)) in
    let back : reaches ms a b ≡ true → reaches ns a b ≡ true = λ h.
    elim (one_of (reaches ns a b) (reaches ns a member && reaches ns role b) (found ns (reaches ns) m (Follows-reaches ns) (λ n d. left_or_same m n ms d) ((Follows-reaches ms a b).0 h))) [
      | inl x ↦ x
      | inr y ↦
          let both = each_of (reaches ns a member) (reaches ns role b) y in
          elim (is_direct ms m) as (λ t. is_direct ms m ≡ t → reaches ns a b ≡ true) [
            | true ↦ λ d.
                let through_it : reaches ms member role ≡ true = (Follows-reaches ms member role).1 (through ms member role role d (itself ms role)) in
                reaches-trans ns a role b (e ∙ reaches-trans ms a member role (more a member both.0) through_it) both.1
            | false ↦ λ d. (Follows-reaches ns a b).1 (kept ns (λ n k. elim (left_or_same m n ms k) [
              | inl x ↦ x
              | inr same ↦ absurd-true_false (is_direct ms m) (subst (λ o. is_direct ms o ≡ true) same k) d
            ]) ((Follows-reaches ms a b).0 h))
          ] refl
    ] in
    is-both_ways (reaches ns a b) (reaches ms a b) (more a b) back

-- ---- no loops

-- no two roles reach each other
abbrev pub AreApart : List Membership → Type 0
AreApart ms = (a b : ℕ) → Reaches ms a b → Reaches ms b a → a ≡ b

pub AreApart-none : AreApart []
AreApart-none a b x y = (unsigned_Decides a b).0 (no_chain (λ m. refl) x)

apart_more : (ms : List Membership) (m : Membership) → reaches ms m.role m.member ≡ false → AreApart ms → AreApart (ms ++ m ∷ [])
apart_more ms m none h a b x y =
    let loops : reaches ms m.role m.member ≡ true → a ≡ b = λ e. absurd-true_false (reaches ms m.role m.member) e none in
    let back = one_of (reaches ms b a) (reaches ms b m.member && reaches ms m.role a) (sym (reaches-push ms m b a) ∙ (Follows-reaches (ms ++ m ∷ []) b a).1 y) in
    elim (one_of (reaches ms a b) (reaches ms a m.member && reaches ms m.role b) (sym (reaches-push ms m a b) ∙ (Follows-reaches (ms ++ m ∷ []) a b).1 x)) [
      | inl p ↦ elim back [
        | inl q ↦ h a b ((Follows-reaches ms a b).0 p) ((Follows-reaches ms b a).0 q)
        | inr q ↦
            let both = each_of (reaches ms b m.member) (reaches ms m.role a) q in
            loops (reaches-trans ms m.role a m.member both.1 (reaches-trans ms a b m.member p both.0))
      ]
      | inr p ↦
          let one = each_of (reaches ms a m.member) (reaches ms m.role b) p in
          elim back [
            | inl q ↦ loops (reaches-trans ms m.role b m.member one.1 (reaches-trans ms b a m.member q one.0))
            | inr q ↦ loops (reaches-trans ms m.role b m.member one.1 (each_of (reaches ms b m.member) (reaches ms m.role a) q).0)
          ]
    ]

pub AreApart-with_membership : (ms : List Membership) (m : Membership) → reaches ms m.role m.member ≡ false → AreApart ms → AreApart (with_membership m ms)
AreApart-with_membership ms m none h =
    elim (is_direct ms m) as (λ t. AreApart (if t then ms else ms ++ m ∷ [])) [
      | true ↦ h
      | false ↦ apart_more ms m none h
    ]

pub AreApart-without_membership : (ms : List Membership) (m : Membership) → AreApart ms → AreApart (without_membership m ms)
AreApart-without_membership ms m h a b x y = h a b (kept ms (λ n d. among_fewer m n ms d) x) (kept ms (λ n d. among_fewer m n ms d) y)
