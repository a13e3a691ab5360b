-- Which numbers are in the list, as one comes into it or leaves it.
use Rattle.std.proofs.Common.{Bool, true, false, List, [], ap, arith, eqb, get_or, inl, inr, length, refl, subst, sym, take, ℕ, ◌++◌, ◌+◌, ◌<◌, ◌∙◌, ◌∷◌, ◌≡◌}
use Rattle.std.proofs.Common.{◌≤◌, ◌⊎◌}
use Rattle.std.specs.List.{Contains, IsDistinct}
use Rattle.std.proofs.lemmas.Bool.{cases_eq, cases_lt, false≢true, ne_eqb}
use Rattle.std.proofs.lemmas.List.{get_or_default, get_or-take, length-take-le, take_more}
use Rattle.std.proofs.lemmas.List.Elements.{Contains-append_left, Contains-push, Contains-push_cases}
use Rattle.std.proofs.lemmas.Map.Keys.{IsDistinct-from_apart}
use Rattle.iv_hall.specs.Numbers.{AreSet, HasGained, HasGainedAll, HasLost, IsExchanged, IsOrder, Numbers}

-- ---- which are in the list

-- a number is in the list where its place is in front
pub front_place : (order places : List ℕ) (count m : ℕ) → IsOrder order places → count ≤ length order → Contains (take count order) m
    → (m < length order) × (get_or places m 0 < count)
front_place order places count m w lc c =
    let k = c.0 in
    let lk : k < count = omega (arith, c.1, length-take-le count order lc) in
    let lo : k < length order = omega (arith, lk, lc) in
    let is : get_or order k 0 ≡ m = get_or_default order k 0 m lo ∙ (sym (get_or-take count order k m lk) ∙ c.2) in
    let h = w.numbered k lo in
    (omega (arith, h.0, is), omega (arith, lk, sym (ap (λ z. get_or places z 0) is) ∙ h.1))

pub Contains-IsOrder : (order places : List ℕ) (count m : ℕ) → IsOrder order places → count ≤ length order → m < length order → get_or places m 0 < count
    → Contains (take count order) m
Contains-IsOrder order places count m w lc lm lp =
    let h = w.placed m lm in (
      get_or places m 0,
      omega (arith, lp, length-take-le count order lc),
      get_or-take count order (get_or places m 0) m lp
          ∙ (get_or_default order (get_or places m 0) m 0 h.0 ∙ h.1),
    )

pub IsDistinct-IsOrder : (order places : List ℕ) (count : ℕ) → IsOrder order places → count ≤ length order → IsDistinct eqb (take count order)
IsDistinct-IsOrder order places count w lc = IsDistinct-from_apart eqb (take count order) (λ i j d lt lj.
    let hj : j < count = omega (arith, lj, length-take-le count order lc) in
    let hi : i < count = omega (arith, lt, hj) in
    let li : i < length order = omega (arith, hi, lc) in
    let lj' : j < length order = omega (arith, hj, lc) in
    ne_eqb (get_or (take count order) i d) (get_or (take count order) j d) (λ e.
    let same : get_or order i 0 ≡ get_or order j 0 =
    get_or_default order i 0 d li ∙ (sym (get_or-take count order i d hi) ∙ (e ∙ (get_or-take count order j d hj ∙ get_or_default order j d 0 lj'))) in
    let eq : i ≡ j = sym (w.numbered i li).1 ∙ (ap (λ z. get_or places z 0) same ∙ (w.numbered j lj').1) in
    omega (arith, eq, lt)))

-- ---- one comes in, or leaves

pub HasGained-IsExchanged : (order places now after : List ℕ) (count n : ℕ) → IsOrder order places → count < length order → n < length order
    → count ≤ get_or places n 0
    → IsExchanged n count order places now after
    → HasGained n (record { list = take count order; size = length order }) (record { list = take (count + 1) now; size = length now })
HasGained-IsExchanged order places now after count n w lc ln above x = record {
  size = x.size;
  put = λ h. come n ln (omega (arith, x.here));
  kept = λ m c. let p = front_place order places count m w (omega (arith, lc)) c in
      come m p.0 (stays m p.0 p.1 (cases_eq m n) (cases_eq m (get_or order count 0)));
  only = λ m c. let p = front_place now after (count + 1) m x.whole (omega (arith, lc, x.size)) c in
      from m (omega (arith, p.0, x.size)) p.1 (cases_eq m n) (cases_eq m (get_or order count 0));
}
  where
    come : (m : ℕ) → m < length order → get_or after m 0 < count + 1 → Contains (take (count + 1) now) m
    come m l p = Contains-IsOrder now after (count + 1) m x.whole (omega (arith, lc, x.size)) (omega (arith, l, x.size)) p

    stays : (m : ℕ) → m < length order → get_or places m 0 < count → (m ≡ n) ⊎ (m ≡ n → ⊥) → (m ≡ get_or order count 0) ⊎ (m ≡ get_or order count 0 → ⊥)
        → get_or after m 0 < count + 1
    stays m l p (inl e) c = omega (arith, ap (λ z. get_or after z 0) e ∙ x.here)
    stays m l p (inr ne) (inl e) = absurd (omega (arith, p, ap (λ z. get_or places z 0) e ∙ (w.numbered count lc).1))
    stays m l p (inr ne) (inr nx) = omega (arith, p, x.others m ne nx)

    from : (m : ℕ) → m < length order → get_or after m 0 < count + 1 → (m ≡ n) ⊎ (m ≡ n → ⊥) → (m ≡ get_or order count 0) ⊎ (m ≡ get_or order count 0 → ⊥)
        → Contains (take count order) m ⊎ (m ≡ n)
    from m l p (inl e) c = inr e
    from m l p (inr ne) (inl e) =
        let same : get_or places n 0 ≡ count = let h = x.there m e ne in omega (arith, h, p, above) in
        inr (e ∙ (sym (ap (λ z. get_or order z 0) same) ∙ (w.placed n ln).1))
    from m l p (inr ne) (inr nx) =
        let h = x.others m ne nx in
        let not : get_or places m 0 ≡ count → ⊥ = λ s. nx (sym (w.placed m l).1 ∙ ap (λ z. get_or order z 0) s) in
        inl (Contains-IsOrder order places count m w (omega (arith, lc)) l (omega (arith, h, p, not)))

pub HasLost-IsExchanged : (order places now after : List ℕ) (count n : ℕ) → IsOrder order places → count < length order → n < length order
    → get_or places n 0 < count + 1
    → IsExchanged n count order places now after
    → HasLost n (record { list = take (count + 1) order; size = length order }) (record { list = take count now; size = length now })
HasLost-IsExchanged order places now after count n w lc ln below x = record {
  size = x.size;
  gone = λ c. let p = front_place now after count n x.whole (omega (arith, lc, x.size)) c in omega (arith, p.1, x.here);
  kept = λ m ne c. let p = front_place order places (count + 1) m w (omega (arith, lc)) c in
      Contains-IsOrder now after count m x.whole (omega (arith, lc, x.size)) (omega (arith, p.0, x.size))
      (stays m p.0 p.1 ne (cases_eq m (get_or order count 0)));
  only = λ m c. let p = front_place now after count m x.whole (omega (arith, lc, x.size)) c in
      let l : m < length order = omega (arith, p.0, x.size) in
      Contains-IsOrder order places (count + 1) m w (omega (arith, lc)) l (was m l p.1 (cases_eq m n) (cases_eq m (get_or order count 0)));
}
  where
    stays : (m : ℕ) → m < length order → get_or places m 0 < count + 1 → (m ≡ n → ⊥) → (m ≡ get_or order count 0) ⊎ (m ≡ get_or order count 0 → ⊥)
        → get_or after m 0 < count
    stays m l p ne (inl e) =
        let not : get_or places n 0 ≡ count → ⊥ = λ s. ne (e ∙ (sym (ap (λ z. get_or order z 0) s) ∙ (w.placed n ln).1)) in
        omega (arith, x.there m e ne, below, not)
    stays m l p ne (inr nx) =
        let not : get_or places m 0 ≡ count → ⊥ = λ s. nx (sym (w.placed m l).1 ∙ ap (λ z. get_or order z 0) s) in
        omega (arith, x.others m ne nx, p, not)

    was : (m : ℕ) → m < length order → get_or after m 0 < count → (m ≡ n) ⊎ (m ≡ n → ⊥) → (m ≡ get_or order count 0) ⊎ (m ≡ get_or order count 0 → ⊥)
        → get_or places m 0 < count + 1
    was m l p (inl e) c = omega (arith, ap (λ z. get_or places z 0) e, below)
    was m l p (inr ne) (inl e) = omega (arith, ap (λ z. get_or places z 0) e ∙ (w.numbered count lc).1)
    was m l p (inr ne) (inr nx) = omega (arith, x.others m ne nx, p)

-- a number that is not in front is not in the list
pub not_Contains-IsOrder : (order places : List ℕ) (count n : ℕ) → IsOrder order places → count ≤ length order → (n < length order → count ≤ get_or places n 0)
    → Contains (take count order) n → ⊥
not_Contains-IsOrder order places count n w lc above c = let p = front_place order places count n w lc c in let h = above p.0 in omega (arith, p.1, h)

-- ---- one is set, or each of some

pub AreSet-HasGained : (n : ℕ) (is : Bool) (old new : Numbers) → is ≡ true → HasGained n old new → AreSet (λ m. m ≡ n) (λ m. is) old new
AreSet-HasGained n is old new e g = record {
  size = g.size;
  put = λ m same t l. subst (Contains new.list) (sym same) (g.put (omega (arith, same, l)));
  only = λ m same c. e;
  kept = λ m ne c. g.kept m c;
  others = λ m ne c. by m ne (g.only m c);
}
  where
    by : (m : ℕ) → (m ≡ n → ⊥) → Contains old.list m ⊎ (m ≡ n) → Contains old.list m
    by m ne (inl c) = c
    by m ne (inr same) = absurd (ne same)

pub AreSet-HasLost : (n : ℕ) (is : Bool) (old new : Numbers) → is ≡ false → HasLost n old new → AreSet (λ m. m ≡ n) (λ m. is) old new
AreSet-HasLost n is old new e g = record {
  size = g.size;
  put = λ m same t l. absurd (false≢true (sym e ∙ t));
  only = λ m same c. absurd (g.gone (subst (Contains new.list) same c));
  kept = g.kept;
  others = λ m ne c. g.only m c;
}

-- by a test of the number
pub AreSet-by : (n : ℕ) (b : Bool) (is : ℕ → Bool) (old new : Numbers) → b ≡ is n → AreSet (λ m. m ≡ n) (λ m. b) old new → AreSet (λ m. m ≡ n) is old new
AreSet-by n b is old new e s = record {
  size = s.size;
  put = λ m same t l. s.put m same (e ∙ (ap is (sym same) ∙ t)) l;
  only = λ m same c. ap is same ∙ (sym e ∙ s.only m same c);
  kept = s.kept;
  others = s.others;
}

pub AreSet-none : (W : ℕ → Type 0) (is : ℕ → Bool) (old : Numbers) → ((m : ℕ) → W m → ⊥) → AreSet W is old old
AreSet-none W is old never = record {
  size = refl;
  put = λ m w t l. absurd (never m w);
  only = λ m w c. absurd (never m w);
  kept = λ m ne c. c;
  others =
      λ m ne c. c;
}

-- some, and one more
pub set_more : (W X : ℕ → Type 0) (n : ℕ) (is : ℕ → Bool) (old mid new : Numbers) → ((m : ℕ) → X m → W m ⊎ (m ≡ n)) → ((m : ℕ) → W m → X m) → X n
    → AreSet W is old mid → AreSet (λ m. m ≡ n) is mid new → AreSet X is old new
set_more W X n is old mid new parts first last a b = record {
  size = b.size ∙ a.size;
  put = λ m x t l. put m t l (parts m x) (cases_eq m n);
  only = λ m x c. only m c (parts m x) (cases_eq m n);
  kept = λ m nx c. b.kept m (λ e. nx (subst X (sym e) last)) (a.kept m (λ w. nx (first m w)) c);
  others = λ m nx c. a.others m (λ w. nx (first m w)) (b.others m (λ e. nx (subst X (sym e) last)) c);
}
  where
    put : (m : ℕ) → is m ≡ true → m < old.size → W m ⊎ (m ≡ n) → (m ≡ n) ⊎ (m ≡ n → ⊥) → Contains new.list m
    put m t l w (inl e) = b.put m e t (omega (arith, l, a.size))
    put m t l (inl w) (inr ne) = b.kept m ne (a.put m w t l)
    put m t l (inr e) (inr ne) = absurd (ne e)

    only : (m : ℕ) → Contains new.list m → W m ⊎ (m ≡ n) → (m ≡ n) ⊎ (m ≡ n → ⊥) → is m ≡ true
    only m c w (inl e) = b.only m e c
    only m c (inl w) (inr ne) = a.only m w (b.others m ne c)
    only m c (inr e) (inr ne) = absurd (ne e)

pub AreSet-next : (ns : List ℕ) (i : ℕ) (is : ℕ → Bool) (old before now : Numbers) → i < length ns → AreSet (Contains (take i ns)) is old before
    → AreSet (λ m. m ≡ get_or ns i 0) is before now → AreSet (Contains (take (i + 1) ns)) is old now
AreSet-next ns i is old before now lt a b =
    set_more (Contains (take i ns)) (Contains (take (i + 1) ns)) (get_or ns i 0) is old before now
    (λ m c. by m (Contains-push_cases (take i ns) (get_or ns i 0) m (subst (λ z. Contains z m) (take_more ns i 0 lt) c)))
    (λ m c. subst (λ z. Contains z m) (sym (take_more ns i 0 lt)) (Contains-append_left (take i ns) (get_or ns i 0 ∷ []) m c))
    (subst (λ z. Contains z (get_or ns i 0)) (sym (take_more ns i 0 lt)) (Contains-push (take i ns) (get_or ns i 0))) a b
  where
    by : (m : ℕ) → Contains (take i ns) m ⊎ (get_or ns i 0 ≡ m) → Contains (take i ns) m ⊎ (m ≡ get_or ns i 0)
    by m (inl c) = inl c
    by m (inr e) = inr (sym e)

pub AreSet-below : (n : ℕ) (is : ℕ → Bool) (old before now : Numbers) → AreSet (λ m. m < n) is old before → AreSet (λ m. m ≡ n) is before now
    → AreSet (λ m. m < (n + 1)) is old now
AreSet-below n is old before now a b = set_more (λ m. m < n) (λ m. m < (n + 1)) n is old before now (λ m l. by m l (cases_lt m n)) (λ m l. omega (arith, l))
    (omega arith) a b
  where
    by : (m : ℕ) → m < (n + 1) → (m < n) ⊎ (n ≤ m) → (m < n) ⊎ (m ≡ n)
    by m l (inl h) = inl h
    by m l (inr h) = inr (omega (arith, l, h))

-- ---- a list of them comes in

pub HasGainedAll-none : (old : Numbers) → HasGainedAll [] old old
HasGainedAll-none old =
    record { size = refl; put = λ m h c. absurd (let l = c.1 in let none : ⊥ = omega (arith, l) in none); kept = λ m c. c; only = λ m c. inl c }

-- one number more of a list
pub HasGainedAll-next : (ns : List ℕ) (i : ℕ) (old before now : Numbers) → i < length ns → HasGainedAll (take i ns) old before
    → HasGained (get_or ns i 0) before now
    → HasGainedAll (take (i + 1) ns) old now
HasGainedAll-next ns i old before now lt g h = record {
  size = h.size ∙ g.size;
  put = λ m l c. put m l (Contains-push_cases (take i ns) (get_or ns i 0) m (subst (λ z. Contains z m) more c));
  kept = λ m c. h.kept m (g.kept m c);
  only = λ m c. only m (h.only m c);
}
  where
    more : take (i + 1) ns ≡ take i ns ++ get_or ns i 0 ∷ []
    more = take_more ns i 0 lt

    put : (m : ℕ) → m < old.size → Contains (take i ns) m ⊎ (get_or ns i 0 ≡ m) → Contains now.list m
    put m l (inl c) = h.kept m (g.put m l c)
    put m l (inr e) = subst (Contains now.list) e (h.put (omega (arith, l, e, g.size)))

    from : (m : ℕ) → Contains old.list m ⊎ Contains (take i ns) m → Contains old.list m ⊎ Contains (take (i + 1) ns) m
    from m (inl c) = inl c
    from m (inr c) = inr (subst (λ z. Contains z m) (sym more) (Contains-append_left (take i ns) (get_or ns i 0 ∷ []) m c))

    only : (m : ℕ) → Contains before.list m ⊎ (m ≡ get_or ns i 0) → Contains old.list m ⊎ Contains (take (i + 1) ns) m
    only m (inl c) = from m (g.only m c)
    only m (inr e) = inr (subst (λ z. Contains z m) (sym more) (subst (Contains (take i ns ++ get_or ns i 0 ∷ [])) (sym e)
        (Contains-push (take i ns) (get_or ns i 0))))
