-- Chains of memberships of any length.
use Rattle.std.proofs.Common.{◌≡◌, ℕ, zero, suc, ◌<◌, ◌≤◌, ◌==◌, Bool, true, false, ◌&&◌, ◌||◌, refl, sym, ap, ◌∙◌, inl, inr, arith}
use Rattle.std.specs.Prelude.{nat_le}
use Rattle.std.proofs.lemmas.Bool.{cases_lt}
use Rattle.std.proofs.lemmas.Bool.Decides.{nat_tests}
use Rattle.iv_roles.specs.Memberships.{member_of, further, reaches, chain_of}
use Rattle.iv_roles.proofs.Chains.{reaches-push, is-both_ways}

-- a role of the chain reaches those before it, and another itself alone
pub record Along (test : ℕ → ℕ → Bool) (n : ℕ) : Type 0 where
  pub inside : (a b : ℕ) → a ≤ n → test a b ≡ nat_le b a
  pub outside : (a b : ℕ) → n < a → test a b ≡ (a == b)

or_false : (b : Bool) → (b || false) ≡ b
or_false true = refl
or_false false = refl

or_true : (b : Bool) → (b || true) ≡ true
or_true true = refl
or_true false = refl

alone_along : Along (λ a b. a == b) 0
alone_along = record { inside = λ a b l. first a b l; outside = λ a b l. refl }
  where
    first : (a b : ℕ) → a ≤ 0 → (a == b) ≡ nat_le b a
    first a b l = is-both_ways (a == b) (nat_le b a) (λ h. grind (arith, nat_tests)) (λ h. grind (arith, nat_tests))

module _ (test : ℕ → ℕ → Bool) (n : ℕ) (h : Along test n) where
  below : (a b : ℕ) → a ≤ n → further test (member_of n (suc n)) a b ≡ nat_le b a
  below a b l =
      let none : test a (suc n) ≡ false = h.inside a (suc n) l ∙ over l in
      (λ i. h.inside a b l i || (none i && test n b)) ∙ or_false (nat_le b a)
    where
      over : a ≤ n → nat_le (suc n) a ≡ false
      over l = grind (arith, nat_tests)

  behind : (a b : ℕ) → suc n < a → further test (member_of n (suc n)) a b ≡ (a == b)
  behind a b l =
      let none : test a (suc n) ≡ false = h.outside a (suc n) (omega arith) ∙ apart l in
      (λ i. h.outside a b (omega arith) i || (none i && test n b)) ∙ or_false (a == b)
    where
      apart : suc n < a → (a == suc n) ≡ false
      apart l = grind (arith, nat_tests)

  last : (b : ℕ) → further test (member_of n (suc n)) (suc n) b ≡ nat_le b (suc n)
  last b =
      (λ i. h.outside (suc n) b (omega arith) i || ((h.outside (suc n) (suc n) (omega arith) ∙ same) i && h.inside n b (omega arith) i)) ∙ by (nat_le b n) refl
    where
      same : (suc n == suc n) ≡ true
      same = grind (arith, nat_tests)

      lower : nat_le b n ≡ true → nat_le b (suc n) ≡ true
      lower h = grind (arith, nat_tests)

      by : (x : Bool) → nat_le b n ≡ x → ((suc n == b) || x) ≡ nat_le b (suc n)
      by true e = or_true (suc n == b) ∙ sym (lower e)
      by false e = or_false (suc n == b) ∙ is-both_ways (suc n == b) (nat_le b (suc n)) (λ h. grind (arith, nat_tests)) (λ h. grind (arith, nat_tests))

  along_more : Along (further test (member_of n (suc n))) (suc n)
  along_more = record {
    inside = λ a b l. elim (cases_lt n a) [
      | inl over ↦ ap (λ x. further test (member_of n (suc n)) x b) (top a over l) ∙ last b ∙ ap (λ x. nat_le b x) (sym (top a over l))
      | inr within ↦ below a b within
    ];
    outside = behind;
  }
    where
      top : (a : ℕ) → n < a → a ≤ suc n → a ≡ suc n
      top a over l = omega arith

pub Along-chain_of : (n : ℕ) → Along (reaches (chain_of n)) n
Along-chain_of zero = alone_along
Along-chain_of (suc n) =
    let more = along_more (reaches (chain_of n)) n (Along-chain_of n) in
    record {
      inside = λ a b l. reaches-push (chain_of n) (member_of n (suc n)) a b ∙ more.inside a b l;
      outside = λ a b l. reaches-push (chain_of n) (member_of n (suc n)) a b ∙ more.outside a b l;
    }
