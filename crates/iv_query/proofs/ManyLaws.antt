-- { sign item }: the function that reads and the grammar say the same, for any item.
use Rattle.std.proofs.Common.{◌≡◌, ℕ, zero, suc, ◌≤◌, ◌<◌, List, [], ◌∷◌, length, Option, Some, None, Ok, Err, refl, arith}
use Rattle.iv_query.specs.declared.fault.Fault.{Fault}
use Rattle.iv_query.specs.Tokens.{Tok}
use Rattle.iv_rows.specs.Options.{if_some}
use Rattle.iv_query.specs.Rules.{Many, many_end, many_more, ManyFault, many_first, many_later}
use Rattle.iv_query.specs.Reading.{◌>>=◌, Read, many_at}
use Rattle.iv_query.proofs.Loop.{is_last}
use Rattle.iv_query.proofs.Steps.{Outcome, good, bad, Outcome-bind}

-- what is known of the items
pub record Itemwise {A B : Type 0} (sign : List Tok → Option (List Tok)) (Item : A → List Tok → B → List Tok → Type 0) (ItemFault : A → List Tok → Fault → Type 0) (item : A → List Tok → Read B) : Type 0 where
  pub nothing : sign [] ≡ None
  pub shorter : (a : A) (b : B) (ts us vs : List Tok) → sign ts ≡ Some us → Item a us b vs → length vs < length ts
  pub sound : (a : A) (ts us : List Tok) → sign ts ≡ Some us → Outcome (Item a us) (ItemFault a us) (item a us)
  pub agrees : (a : A) (b : B) (ts us : List Tok) → Item a ts b us → item a ts ≡ Ok (b, us)
  pub fails : (a : A) (ts : List Tok) (f : Fault) → ItemFault a ts f → item a ts ≡ Err f

module _ {A B : Type 0} {sign : List Tok → Option (List Tok)} {Item : A → List Tok → B → List Tok → Type 0} {ItemFault : A → List Tok → Fault → Type 0} {item : A → List Tok → Read B} (known : Itemwise sign Item ItemFault item) (join : A → B → A) where
  more : (a : A) (b : B) (ts us vs : List Tok) (r : Read A) → sign ts ≡ Some us → Item a us b vs → Outcome (Many sign Item join (join a b) vs) (ManyFault sign Item ItemFault join (join a b) vs) r → Outcome (Many sign Item join a ts) (ManyFault sign Item ItemFault join a ts) r
  more a b ts us vs (Ok x) s h (good k) = good (many_more s h k)
  more a b ts us vs (Err f) s h (bad k) = bad (many_later s h k)

  pub many_judged : (n : ℕ) (a : A) (ts : List Tok) → length ts ≤ n → Outcome (Many sign Item join a ts) (ManyFault sign Item ItemFault join a ts) (many_at sign item join n a ts)
  unfolding many_at
  many_judged zero a [] le = good (many_end known.nothing)
  many_judged zero a (t ∷ ts) le = absurd (omega arith)
  many_judged (suc n) a ts le = go (sign ts) refl (λ b vs below. many_judged n (join a b) vs below)
    where
      go : (r : Option (List Tok)) → sign ts ≡ r → ((b : B) (vs : List Tok) → length vs ≤ n → Outcome (Many sign Item join (join a b) vs) (ManyFault sign Item ItemFault join (join a b) vs) (many_at sign item join n (join a b) vs)) → Outcome (Many sign Item join a ts) (ManyFault sign Item ItemFault join a ts) (if_some r (Ok (a, ts)) (λ us. item a us >>= λ x. many_at sign item join n (join a x.0) x.1))
      go None s rest = good (many_end s)
      go (Some us) s rest = Outcome-bind (item a us) _ (known.sound a ts us s) (λ x h. let lt = known.shorter a x.0 ts us x.1 s h in more a x.0 ts us x.1 _ s h (rest x.0 x.1 (omega arith))) (λ f h. many_first s h)

  pub many_agrees : {a t : A} {ts us : List Tok} → Many sign Item join a ts t us → (n : ℕ) → length ts ≤ n → many_at sign item join n a ts ≡ Ok (t, us)
  unfolding many_at
  many_agrees {a = a} {ts = ts} (many_end e) n le = is_last sign item join n a ts e
  many_agrees (many_more s h k) zero le = let lt = known.shorter _ _ _ _ _ s h in absurd (omega arith)
  many_agrees (many_more s h k) (suc n) le = let lt = known.shorter _ _ _ _ _ s h in rw (s, known.agrees _ _ _ _ h) (many_agrees k n (omega arith))

  pub many_fault_agrees : {a : A} {ts : List Tok} {f : Fault} → ManyFault sign Item ItemFault join a ts f → (n : ℕ) → length ts ≤ n → many_at sign item join n a ts ≡ Err f
  unfolding many_at
  many_fault_agrees {ts = []} (many_first s h) n le = let e = known.nothing in absurd cc
  many_fault_agrees {ts = t ∷ ts} (many_first s h) zero le = absurd (omega arith)
  many_fault_agrees {ts = t ∷ ts} (many_first s h) (suc n) le = rw (s, known.fails _ _ _ h) refl
  many_fault_agrees (many_later s h k) zero le = let lt = known.shorter _ _ _ _ _ s h in absurd (omega arith)
  many_fault_agrees (many_later s h k) (suc n) le = let lt = known.shorter _ _ _ _ _ s h in rw (s, known.agrees _ _ _ _ h) (many_fault_agrees k n (omega arith))

  pub many_consumes : {a t : A} {ts us : List Tok} → Many sign Item join a ts t us → length us ≤ length ts
  many_consumes (many_end e) = omega arith
  many_consumes (many_more s h k) = let lt = known.shorter _ _ _ _ _ s h in omega (arith, many_consumes k)
