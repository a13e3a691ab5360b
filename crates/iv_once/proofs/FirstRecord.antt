-- What a new first record says of a holder is read as what was kept.
use Rattle.std.proofs.Common.{◌≡◌, inl, inr, ℕ, zero, suc, ◌+◌, ◌-◌, ◌≤◌, Bool, true, false, cond, List, [], ◌∷◌, take, map, length, Option, Some, refl, ap, ◌∙◌, sym, subst, arith}
use Rattle.std.specs.Prelude.{bytes_eq, unwrap_or}
use Rattle.std.specs.Map.{update}
use Rattle.iv_once.specs.Names.{Limits, Named, named, Own, Known, begun, followed, learned, own_of}
use Rattle.iv_once.specs.Runs.{Run, journal, known}
use Rattle.iv_once.specs.Laws.{Among, AreKept, IsReadBack, own}
use Rattle.iv_once.proofs.Lists.{Among-take, bytes_eq-itself}
use Rattle.iv_once.proofs.NamesOnce.{holder-Among_own}

take_all : {X : Type 0} (n : ℕ) (xs : List X) → length xs ≤ n → take n xs ≡ xs
take_all zero [] h = refl
take_all zero (x ∷ xs) h = absurd (omega (arith, h))
take_all (suc n) [] h = refl
take_all (suc n) (x ∷ xs) h = ap (λ z. x ∷ z) (take_all n xs (omega (arith, h)))

take_short : {X : Type 0} (n : ℕ) (xs : List X) → length (take n xs) ≤ n
take_short zero xs = omega arith
take_short (suc n) [] = omega arith
take_short (suc n) (x ∷ xs) = let h = take_short n xs in omega (arith, h)

take_within : {X : Type 0} (n : ℕ) (xs : List X) → length (take n xs) ≤ length xs
take_within zero xs = omega arith
take_within (suc n) [] = omega arith
take_within (suc n) (x ∷ xs) = let h = take_within n xs in omega (arith, h)

abbrev more : Limits → Named → Own → Own
more l e o = record { epoch = o.epoch; count = o.count + 1; recent = take l.names (e ∷ o.recent) }

abbrev read : List ℕ → ℕ → List Named → Own
read epoch c es = record { epoch = epoch; count = c + length es; recent = es }

more_read : (l : Limits) (e : Named) (epoch : List ℕ) (c : ℕ) (es : List Named) → length (e ∷ es) ≤ l.names → more l e (read epoch c es) ≡ read epoch c (e ∷ es)
more_read l e epoch c es h = let n : (c + length es) + 1 ≡ c + length (e ∷ es) = omega arith in let r = take_all l.names (e ∷ es) h in λ i. record { epoch = epoch; count = n i; recent = r i }

chosen : (b : Bool) (x y z : Option Own) (o : Own) → x ≡ cond b z y → (o : Own) → cond b (Some o) x ≡ cond b (Some o) y
chosen true x y z w e o = refl
chosen false x y z w e o = e

read_by : (l : Limits) (k : Known) (holder epoch : List ℕ) (c : ℕ) (es : List Named) → ((e : Named) → Among e es → e.ask.holder ≡ holder) → length es ≤ l.names
    → (other : List ℕ) → (followed l (begun k holder epoch c) (map named es)).owns other ≡ update bytes_eq k.owns holder (Some (read epoch c es)) other
read_by l k holder epoch c [] h m other = let n : c ≡ c + 0 = omega arith in ap (λ z. update bytes_eq k.owns holder (Some (record { epoch = epoch; count = z; recent = [] })) other) n
read_by l k holder epoch c (e ∷ es) h m other = by (read_by l k holder epoch c es (λ x a. h x (inr a)) (omega (arith, m))) (h e (inl refl))
  where
    by : ((x : List ℕ) → (followed l (begun k holder epoch c) (map named es)).owns x ≡ update bytes_eq k.owns holder (Some (read epoch c es)) x) → e.ask.holder ≡ holder
        → (learned l (named e) (followed l (begun k holder epoch c) (map named es))).owns other ≡ update bytes_eq k.owns holder (Some (read epoch c (e ∷ es))) other
    by ih same =
        let before = followed l (begun k holder epoch c) (map named es) in
        let mine : before.owns holder ≡ Some (read epoch c es) =
        ih holder ∙ ap (λ b. cond b (Some (read epoch c es)) (k.owns holder)) (bytes_eq-itself holder) in
        (λ i. cond (bytes_eq (same i) other) (Some (more l e (own_of before (same i)))) (before.owns other))
        ∙ ((λ i. cond (bytes_eq holder other) (Some (more l e (unwrap_or (mine i) (record { epoch = before.epoch; count = 0; recent = [] })))) (before.owns other))
        ∙ (chosen (bytes_eq holder other) (before.owns other) (k.owns other) (Some (read epoch c es)) (read epoch c es) (ih other) (more l e (read epoch c es))
        ∙ ap (λ (o : Own). cond (bytes_eq holder other) (Some o) (k.owns other)) (more_read l e epoch c es m)))

pub IsReadBack-AreKept : (l : Limits) (d : Run) (holder : List ℕ) (k : Known) → AreKept l d → IsReadBack l k holder (own_of (known l d) holder)
IsReadBack-AreKept l d holder k kept = λ other.
    let o = own_of (known l d) holder in
    let is = kept holder in
    let r = is.1 in
    let n = is.0 in
    let short : length o.recent ≤ l.names = subst (λ z. length z ≤ l.names) (sym r) (take_short l.names (own holder (journal d))) in
    let within : length o.recent ≤ length (own holder (journal d)) = subst (λ z. length z ≤ length (own holder (journal d))) (sym r) (take_within l.names (own holder (journal d))) in
    let whole : (o.count - length o.recent) + length o.recent ≡ o.count = omega (arith, n, within) in
    let of : (e : Named) → Among e o.recent → e.ask.holder ≡ holder = λ e a. holder-Among_own holder e (journal d) (Among-take l.names e (own holder (journal d)) (subst (Among e) r a)) in
    read_by l k holder o.epoch (o.count - length o.recent) o.recent of short other
    ∙ ap (λ z. update bytes_eq k.owns holder (Some (record { epoch = o.epoch; count = z; recent = o.recent })) other) whole
