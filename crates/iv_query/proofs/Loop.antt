-- Items behind signs, one after the other, as a loop reads them.
use Rattle.std.proofs.Common.{◌≡◌, ℕ, zero, suc, ◌-◌, ◌+◌, ◌≤◌, ◌<◌, List, Option, Some, None, Ok, Err, refl, sym, ◌∙◌, arith}
use Rattle.iv_query.specs.declared.fault.QueryFault.{QueryFault}
use Rattle.iv_query.specs.declared.fault.QueryFault.TheVariants as faults
use Rattle.iv_query.specs.Tokens.{Tok}
use Rattle.iv_query.specs.Answers.{Fails}
use Rattle.iv_query.specs.Reading.{Read, many_at}

module _ {A B : Type 0} (sign : List Tok → Option (List Tok)) (item : A → List Tok → Read B) (join : A → B → A) where
  pub goes_on : (n i : ℕ) (left : A) (ts us vs : List Tok) (b : B) (total : Read A) → i < n → sign ts ≡ Some us → item left us ≡ Ok (b, vs)
      → many_at sign item join (n - i) left ts ≡ total → many_at sign item join (n - (i + 1)) (join left b) vs ≡ total
  unfolding many_at
  goes_on n i left ts us vs b total lt s h so_far =
      let k : n - i ≡ suc (n - (i + 1)) = omega arith in
      let one : many_at sign item join (n - i) left ts ≡ many_at sign item join (n - (i + 1)) (join left b) vs = rw (k, s, h) refl in
      sym one ∙ so_far

  pub fails_there : (e : QueryFault) (n i : ℕ) (left : A) (ts us : List Tok) (total : Read A) → i < n → sign ts ≡ Some us → Fails e (item left us)
      → many_at sign item join (n - i) left ts ≡ total → Fails e total
  unfolding many_at
  fails_there faults.Memory n i left ts us total lt s h so_far = tt
  fails_there (faults.At p w) n i left ts us total lt s h so_far =
      let k : n - i ≡ suc (n - (i + 1)) = omega arith in
      let one : many_at sign item join (n - i) left ts ≡ Err (record { place = p; why = w }) = rw (k, s, h) refl in
      sym so_far ∙ one

  pub is_last : (n : ℕ) (left : A) (ts : List Tok) → sign ts ≡ None → many_at sign item join n left ts ≡ Ok (left, ts)
  unfolding many_at
  is_last zero left ts s = refl
  is_last (suc n) left ts s = rw s refl

  pub is_done : (n i : ℕ) (left : A) (ts : List Tok) (total : Read A) → n ≤ i → many_at sign item join (n - i) left ts ≡ total → total ≡ Ok (left, ts)
  unfolding many_at
  is_done n i left ts total le so_far =
      let k : n - i ≡ 0 = omega arith in
      let one : many_at sign item join (n - i) left ts ≡ Ok (left, ts) = rw k refl in
      sym so_far ∙ one
