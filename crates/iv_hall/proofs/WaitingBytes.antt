-- The count of bytes that wait for the journal is enough after each call.
use Rattle.std.proofs.Common.{◌≡◌, ◌∙◌, ℕ, zero, suc, ◌+◌, ◌*◌, ◌-◌, ◌<◌, ◌≤◌, Bool, true, false, cond, List, [], ◌∷◌, ◌++◌, length, get_or, replicate, set}
use Rattle.std.proofs.Common.{Option, Some, None, refl, ap, sym, subst, arith, length-append}
use Rattle.std.specs.Prelude.{◌==◌, ◌&&◌, ◌||◌, ◌^◌, bytes_eq, min, nat_lt}
use Rattle.std.proofs.Math.Nat.{suc-mul}
use Rattle.iv_rows.specs.Options.{if_some}
use Rattle.iv_access.specs.Rights.{Name}
use Rattle.iv_clients.specs.Bounds.{most_piled}
use Rattle.iv_clients.specs.Clients.{at_all, at_client}
use Rattle.iv_clients.specs.Kept.{Kept, Places, checking, coming, emptied, holding, holding_beat, holding_owed, letting_go, releasing}
use Rattle.iv_clients.specs.Tokens.{Token, token_of}
use Rattle.iv_hall.specs.Listing.{walked}
use Rattle.iv_hall.specs.Waiting.{AreCounted, CountsOn, bytes_of, bytes_waiting}

-- ---- what is counted

pub raises : (bytes waiting more product result : ℕ) → product ≡ min more (2 ^ 64 - 1) → result ≡ min (waiting + product) (2 ^ 64 - 1)
    → AreCounted bytes waiting
    → AreCounted (bytes + more) result
raises bytes waiting more product result e f h = λ lt. omega arith

pub fewer : (a b counted : ℕ) → b ≤ a → AreCounted a counted → AreCounted b counted
fewer a b counted l h = λ lt. let k = h lt in omega arith

pub CountsOn-trans : (a b c w v u : ℕ) → CountsOn a w b v → CountsOn b v c u → CountsOn a w c u
CountsOn-trans a b c w v u f g = λ others h. g others (f others h)

pub CountsOn-same : (a b w u v : ℕ) → w ≡ u → CountsOn a w b v → CountsOn a u b v
CountsOn-same a b w u v e c = subst (λ z. CountsOn a z b v) e c

pub CountsOn-bytes_of : (o p : Option Kept) (k l : Kept) (w v : ℕ) → o ≡ Some k → p ≡ Some l → CountsOn (length k.unsynced) w (length l.unsynced) v
    → CountsOn (bytes_of o) w (bytes_of p) v
CountsOn-bytes_of o p k l w v e f c =
    subst (λ z. CountsOn (bytes_of z) w (bytes_of p) v) (sym e) (subst (λ z. CountsOn (length k.unsynced) w (bytes_of z) v) (sym f) c)

pub CountsOn-holding : (text : List ℕ) (before after : Kept) (w v n : ℕ) → after ≡ holding text before → n ≡ length text
    → ((bytes : ℕ) → AreCounted bytes w → AreCounted (bytes + 1 * n) v)
    → CountsOn (length before.unsynced) w (length after.unsynced) v
CountsOn-holding text before after w v n e l raised = λ others h.
    let more : length after.unsynced ≡ length before.unsynced + n = ap (λ (k : Kept). length k.unsynced) e
    ∙ (length-append before.unsynced text ∙ ap (λ z. length before.unsynced + z) (sym l)) in
    fewer ((others + length before.unsynced) + 1 * n) (others + length after.unsynced) v (omega arith) (raised (others + length before.unsynced) h)

-- ---- one client

pub one_at_most : (n d : ℕ) (f : Kept → Kept) (xs : Places) → ((k : Kept) → length (f k).unsynced ≤ length k.unsynced + d)
    → bytes_waiting (at_client n f xs) ≤ bytes_waiting xs + d
one_at_most n d f [] h = omega arith
one_at_most zero d f (None ∷ xs) h = omega arith
one_at_most zero d f (Some k ∷ xs) h = let l = h k in omega arith
one_at_most (suc n) d f (x ∷ xs) h = let l = one_at_most n d f xs h in omega arith

pub put_at_most : (n : ℕ) (o : Option Kept) (xs : Places) → bytes_waiting (set xs n o) ≤ bytes_waiting xs + bytes_of o
put_at_most n o [] = omega arith
put_at_most zero o (x ∷ xs) = omega arith
put_at_most (suc n) o (x ∷ xs) = let l = put_at_most n o xs in omega arith

-- those of all other numbers
abbrev others : ℕ → Places → ℕ
others n [] = 0
others zero (x ∷ xs) = bytes_waiting xs
others (suc n) (x ∷ xs) = bytes_of x + others n xs

apart : (n : ℕ) (xs : Places) (x : Option Kept) → n < length xs → x ≡ get_or xs n x → bytes_waiting xs ≡ others n xs + bytes_of x
apart n [] x l e = absurd (let no : ⊥ = omega (arith, l) in no)
apart zero (y ∷ ys) x l e = let s = ap bytes_of e in omega arith
apart (suc n) (y ∷ ys) x l e = let s = apart n ys x (omega (arith, l)) e in omega arith

put_apart : (n : ℕ) (xs : Places) (y : Option Kept) → n < length xs → bytes_waiting (set xs n y) ≡ others n xs + bytes_of y
put_apart n [] y l = absurd (let no : ⊥ = omega (arith, l) in no)
put_apart zero (x ∷ xs) y l = omega arith
put_apart (suc n) (x ∷ xs) y l = let s = put_apart n xs y (omega (arith, l)) in omega arith

pub CountsOn-set : (n : ℕ) (xs : Places) (x y : Option Kept) (w v : ℕ) → n < length xs → x ≡ get_or xs n x → CountsOn (bytes_of x) w (bytes_of y) v
    → CountsOn (bytes_waiting xs) w (bytes_waiting (set xs n y)) v
CountsOn-set n xs x y w v l e c = λ o h.
    let a = apart n xs x l e in
    let b = put_apart n xs y l in
    fewer ((o + others n xs) + bytes_of y) (o + bytes_waiting (set xs n y)) v (omega arith)
    (c (o + others n xs) (fewer (o + bytes_waiting xs) ((o + others n xs) + bytes_of x) w (omega arith) h))

-- ---- all of a list, and all

pub listed_at_most : (d : ℕ) (f : Kept → Kept) (ns : List ℕ) (xs : Places) → ((k : Kept) → length (f k).unsynced ≤ length k.unsynced + d)
    → bytes_waiting (walked f ns xs) ≤ bytes_waiting xs + length ns * d
listed_at_most d f [] xs h = omega arith
listed_at_most d f (n ∷ ns) xs h =
    let l = listed_at_most d f ns (at_client n f xs) h in
    let k = one_at_most n d f xs h in
    let e = suc-mul (length ns) d in
    omega arith

pub all_at_most : (d : ℕ) (f : Kept → Kept) (xs : Places) → ((k : Kept) → length (f k).unsynced ≤ length k.unsynced + d)
    → bytes_waiting (at_all f xs) ≤ bytes_waiting xs + length xs * d
all_at_most d f [] h = omega arith
all_at_most d f (None ∷ xs) h = let l = all_at_most d f xs h in let e = suc-mul (length xs) d in omega arith
all_at_most d f (Some k ∷ xs) h = let l = all_at_most d f xs h in let e = suc-mul (length xs) d in let g = h k in omega arith

pub all_as_before : (f : Kept → Kept) (xs : Places) → ((k : Kept) → length (f k).unsynced ≤ length k.unsynced) → bytes_waiting (at_all f xs) ≤ bytes_waiting xs
all_as_before f [] h = omega arith
all_as_before f (None ∷ xs) h = let l = all_as_before f xs h in omega arith
all_as_before f (Some k ∷ xs) h = let l = all_as_before f xs h in let g = h k in omega arith

-- ---- what each call CountsOn-holding

held : (text : List ℕ) (k : Kept) → length (holding text k).unsynced ≤ length k.unsynced + length text
held text k = let e = length-append k.unsynced text in omega arith

owed : (text : List ℕ) (k : Kept) → length (holding_owed text k).unsynced ≤ length k.unsynced + length text
owed text k = by k.owed
  where
    by : (b : Bool) → length (cond b (record (holding text k) { owed = false }) k).unsynced ≤ length k.unsynced + length text
    by true = held text k
    by false = omega arith

emptied_as_before : (k : Kept) → length (emptied k).unsynced ≤ length k.unsynced + 0
emptied_as_before k = by (length k.sendable == 0)
  where
    by : (b : Bool) → length (cond b k (record k { sendable = []; asked = 0; piled = 0 })).unsynced ≤ length k.unsynced + 0
    by true = omega arith
    by false = omega arith

checked_as_before : (tokens : List Token) (k : Kept) → length (checking tokens k).unsynced ≤ length k.unsynced
checked_as_before tokens k = by (if_some (token_of tokens k.digest) false (λ (t : Token). bytes_eq k.role t.role && bytes_eq k.user t.user))
  where
    by : (b : Bool) → length (cond b k (letting_go k)).unsynced ≤ length k.unsynced
    by true = omega arith
    by false = omega arith

pub none_released : (xs : Places) → bytes_waiting (at_all releasing xs) ≡ 0
none_released [] = refl
none_released (None ∷ xs) = let l = none_released xs in omega arith
none_released (Some k ∷ xs) = let l = none_released xs in let e = by (k.dropped || nat_lt most_piled k.piled) in omega arith
  where
    by : (b : Bool) → length (cond b (letting_go k) (record k {
      unsynced = [];
      sendable = k.sendable ++ k.unsynced;
      brought = 0;
      piled =
          k.piled + k.brought;
    })).unsynced ≡ 0
    by true = refl
    by false = refl

-- ---- each call

pub AreCounted-replicate : (most : ℕ) (xs : Places) (w : ℕ) → xs ≡ replicate most None → AreCounted (bytes_waiting xs) w
AreCounted-replicate most xs w e = fewer 0 (bytes_waiting xs) w (subst (λ z. bytes_waiting z ≤ 0) (sym e) (by most)) (λ lt. omega arith)
  where
    by : (n : ℕ) → bytes_waiting (replicate n None) ≤ 0
    by zero = omega arith
    by (suc n) = let l = by n in omega arith

pub AreCounted-none : (ys : Places) (w : ℕ) → ys ≡ [] → AreCounted (bytes_waiting ys) w
AreCounted-none ys w e = fewer 0 (bytes_waiting ys) w (subst (λ z. bytes_waiting z ≤ 0) (sym e) (omega arith)) (λ lt. omega arith)

-- one client is told nothing
pub AreCounted-at_client : (n w : ℕ) (f : Kept → Kept) (xs ys : Places) → ((k : Kept) → (f k).unsynced ≡ k.unsynced) → ys ≡ at_client n f xs
    → AreCounted (bytes_waiting xs) w → AreCounted (bytes_waiting ys) w
AreCounted-at_client n w f xs ys s e h =
    fewer (bytes_waiting xs) (bytes_waiting ys) w
    (let l = one_at_most n 0 f xs (λ k. let g = ap length (s k) in omega arith) in let c = ap bytes_waiting e in omega arith) h

pub AreCounted-emptied : (n w : ℕ) (xs ys : Places) → ys ≡ at_client n emptied xs → AreCounted (bytes_waiting xs) w → AreCounted (bytes_waiting ys) w
AreCounted-emptied n w xs ys e h =
    fewer (bytes_waiting xs) (bytes_waiting ys) w (let l = one_at_most n 0 emptied xs emptied_as_before in let c = ap bytes_waiting e in omega arith) h

pub AreCounted-set_None : (n w : ℕ) (xs ys : Places) → ys ≡ set xs n None → AreCounted (bytes_waiting xs) w → AreCounted (bytes_waiting ys) w
AreCounted-set_None n w xs ys e h = fewer (bytes_waiting xs) (bytes_waiting ys) w (let l = put_at_most n None xs in let c = ap bytes_waiting e in omega arith) h

-- so many texts of a length were told
abbrev pub IsRaised : (w v texts length : ℕ) → Type 0
IsRaised w v texts length = (bytes : ℕ) → AreCounted bytes w → AreCounted (bytes + texts * length) v

pub AreCounted-coming : (n w v d : ℕ) (role : Name) (user digest text : List ℕ) (xs ys : Places) → ys ≡ set xs n (Some (coming role user digest text)) → d ≡ length text
    → IsRaised w v 1 d → AreCounted (bytes_waiting xs) w
    → AreCounted (bytes_waiting ys) v
AreCounted-coming n w v d role user digest text xs ys e l r h =
    fewer (bytes_waiting xs + 1 * d) (bytes_waiting ys) v
    (let k = put_at_most n (Some (coming role user digest text)) xs in let c = ap bytes_waiting e in omega arith) (r (bytes_waiting xs) h)

pub AreCounted-holding : (n w v d : ℕ) (text : List ℕ) (xs ys : Places) → ys ≡ at_client n (holding text) xs → d ≡ length text → IsRaised w v 1 d
    → AreCounted (bytes_waiting xs) w → AreCounted (bytes_waiting ys) v
AreCounted-holding n w v d text xs ys e l r h =
    fewer (bytes_waiting xs + 1 * d) (bytes_waiting ys) v
    (let k = one_at_most n (length text) (holding text) xs (held text) in let c = ap bytes_waiting e in omega arith) (r (bytes_waiting xs) h)

pub AreCounted-walked : (w v d texts : ℕ) (text ns : List ℕ) (xs ys : Places) → ys ≡ walked (holding_owed text) ns xs → d ≡ length text → texts ≡ length ns
    → IsRaised w v texts d → AreCounted (bytes_waiting xs) w
    → AreCounted (bytes_waiting ys) v
AreCounted-walked w v d texts text ns xs ys e l t r h =
    fewer (bytes_waiting xs + texts * d) (bytes_waiting ys) v
    (let k = listed_at_most (length text) (holding_owed text) ns xs (owed text) in
    let c = ap bytes_waiting e in
    let p : texts * d ≡ length ns * length text = (λ i. t i * l i) in
    omega arith)
    (r (bytes_waiting xs) h)

pub AreCounted-holding_beat : (w v d texts : ℕ) (text : List ℕ) (xs ys : Places) → ys ≡ at_all (holding_beat text) xs → d ≡ length text → texts ≡ length xs
    → IsRaised w v texts d → AreCounted (bytes_waiting xs) w
    → AreCounted (bytes_waiting ys) v
AreCounted-holding_beat w v d texts text xs ys e l t r h =
    fewer (bytes_waiting xs + texts * d) (bytes_waiting ys) v
    (let k = all_at_most (length text) (holding_beat text) xs (λ k. held text k) in
    let c = ap bytes_waiting e in
    let p : texts * d ≡ length xs * length text = (λ i. t i * l i) in
    omega arith)
    (r (bytes_waiting xs) h)

pub AreCounted-checking : (w : ℕ) (tokens : List Token) (xs ys : Places) → ys ≡ at_all (checking tokens) xs → AreCounted (bytes_waiting xs) w
    → AreCounted (bytes_waiting ys) w
AreCounted-checking w tokens xs ys e h =
    fewer (bytes_waiting xs) (bytes_waiting ys) w (let l = all_as_before (checking tokens) xs (checked_as_before tokens) in let c = ap bytes_waiting e in
    omega arith) h

pub AreCounted-at_all : (w : ℕ) (f : Kept → Kept) (xs ys : Places) → ((k : Kept) → (f k).unsynced ≡ k.unsynced) → ys ≡ at_all f xs
    → AreCounted (bytes_waiting xs) w
    → AreCounted (bytes_waiting ys) w
AreCounted-at_all w f xs ys s e h =
    fewer (bytes_waiting xs) (bytes_waiting ys) w
    (let l = all_as_before f xs (λ k. let g = ap length (s k) in omega arith) in let c = ap bytes_waiting e in omega arith) h

pub AreCounted-releasing : (w : ℕ) (xs ys : Places) → ys ≡ at_all releasing xs → AreCounted (bytes_waiting ys) w
AreCounted-releasing w xs ys e = fewer 0 (bytes_waiting ys) w (let l = none_released xs in let c = ap bytes_waiting e in omega arith) (λ lt. omega arith)

-- what a line counts
pub AreCounted-CountsOn : (w v : ℕ) (xs ys : Places) → CountsOn (bytes_waiting xs) w (bytes_waiting ys) v → AreCounted (bytes_waiting xs) w
    → AreCounted (bytes_waiting ys) v
AreCounted-CountsOn w v xs ys c h = fewer (0 + bytes_waiting ys) (bytes_waiting ys) v (omega arith)
    (c 0 (fewer (bytes_waiting xs) (0 + bytes_waiting xs) w (omega arith) h))
