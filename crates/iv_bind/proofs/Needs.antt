-- The tables that a plan scans are among the relations that it reaches.
use Rattle.std.proofs.Common.{◌≡◌, ℕ, ◌==◌, Bool, true, false, cond, List, [], ◌∷◌, ◌++◌, refl, subst, inl, inr, arith}
use Rattle.std.specs.Prelude.{◌⊎◌, Contains, if◌then◌else◌}
use Rattle.std.proofs.lemmas.List.Elements.{Contains-append_left, Contains-append_right, Contains-append_cases, Contains-push, Contains-push_cases}
use borrow.Author.Tests.{eqb-true}
use Rattle.iv_zset.specs.Bags.{stands}
use Rattle.iv_bind.specs.Catalogs.{AreAmong}
use Rattle.iv_bind.specs.Binding.{once}

pub AreAmong-cons : (n : ℕ) (ns others : List ℕ) → AreAmong ns others → AreAmong ns (n ∷ others)
AreAmong-cons n ns others h m c = Contains-append_right (n ∷ []) others m (h m c)

pub AreAmong-append : (ns ms xs ys : List ℕ) → AreAmong ns xs → AreAmong ms ys → AreAmong (ns ++ ms) (xs ++ ys)
AreAmong-append ns ms xs ys h k n c = part (Contains-append_cases ns ms n c)
  where
    part : Contains ns n ⊎ Contains ms n → Contains (xs ++ ys) n
    part (inl d) = Contains-append_left xs ys n (h n d)
    part (inr d) = Contains-append_right xs ys n (k n d)

-- ---- each number once

same_number : (n m : ℕ) → (n == m) ≡ true → n ≡ m
same_number n m h = eqb-true n m h

only_one : (m n : ℕ) → Contains (m ∷ []) n → m ≡ n
only_one m n c = part (Contains-push_cases [] m n c)
  where
    part : Contains [] n ⊎ (m ≡ n) → m ≡ n
    part (inl d) = absurd (omega (arith, d.1))
    part (inr e) = e

stands_there : (n : ℕ) (ns : List ℕ) → stands ◌==◌ n ns ≡ true → Contains ns n
stands_there n [] h = cc
stands_there n (m ∷ ns) h = part (n == m) refl (λ g. stands_there n ns g) h
  where
    part : (b : Bool) → (n == m) ≡ b → (stands ◌==◌ n ns ≡ true → Contains ns n) → cond b true (stands ◌==◌ n ns) ≡ true → Contains (m ∷ ns) n
    part true e later g = let P : ℕ → Type 0 = λ x. Contains (x ∷ ns) n in subst P (same_number n m e) (Contains-append_left (n ∷ []) ns n (Contains-push [] n))
    part false e later g = Contains-append_right (m ∷ []) ns n (later g)

taken : (before : List ℕ) (m : ℕ) (b : Bool) → stands ◌==◌ m before ≡ b → Contains (if b then before else before ++ m ∷ []) m
taken before m true h = stands_there m before h
taken before m false h = Contains-push before m

kept_before : (before : List ℕ) (m n : ℕ) (b : Bool) → Contains before n → Contains (if b then before else before ++ m ∷ []) n
kept_before before m n true c = c
kept_before before m n false c = Contains-append_left before (m ∷ []) n c

once_keeps : (before ns : List ℕ) (n : ℕ) → Contains before n ⊎ Contains ns n → Contains (once before ns) n
once_keeps before [] n (inl c) = c
once_keeps before [] n (inr c) = absurd (omega (arith, c.1))
once_keeps before (m ∷ ns) n (inl c) = once_keeps (if stands ◌==◌ m before then before else before ++ m ∷ []) ns n (inl (kept_before before m n (stands ◌==◌ m before) c))
once_keeps before (m ∷ ns) n (inr c) = once_keeps (if stands ◌==◌ m before then before else before ++ m ∷ []) ns n (part (Contains-append_cases (m ∷ []) ns n c))
  where
    part : Contains (m ∷ []) n ⊎ Contains ns n → Contains (if stands ◌==◌ m before then before else before ++ m ∷ []) n ⊎ Contains ns n
    part (inl d) = inl (subst (Contains (if stands ◌==◌ m before then before else before ++ m ∷ [])) (only_one m n d) (taken before m (stands ◌==◌ m before) refl))
    part (inr d) = inr d

pub AreAmong-once : (ns others : List ℕ) → AreAmong ns others → AreAmong ns (once [] others)
AreAmong-once ns others h n c = once_keeps [] others n (inr (h n c))
