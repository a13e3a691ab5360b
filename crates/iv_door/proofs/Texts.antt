-- Texts that are put together, and where they are cut again.
use Rattle.std.proofs.Common.{◌≡◌, ℕ, ◌+◌, ◌<◌, ◌^◌, Bool, true, false, ◌||◌, ◌&&◌, List, [], ◌∷◌, ◌++◌, drop, length, take, refl, ap, ◌∙◌, sym, subst, arith, append_assoc, append-nil, length-append}
use Rattle.std.specs.Prelude.{◌-◌, ◌==◌, codes, decimal, nat_lt}
use Rattle.std.specs.Char.{digit_value}
use Rattle.std.specs.List.{list_all, list_any}
use Rattle.std.specs.Str.Parse.{AllDigits}
use Rattle.std.proofs.Math.Seq.{drop-append_seam, take-append_seam}
use Rattle.std.proofs.lemmas.Bool.{eqb-true, false≢true, ltb-true}
use Rattle.std.proofs.lemmas.Fmt.{decimal_is_IsNumeral}
use Rattle.iv_records.specs.Names.{is_between, is_epoch}
use Rattle.iv_door.specs.Said.{Log, ends, has_form, is_name, is_well, line_of, log_line}

-- ---- tests

pub both_true : (b c : Bool) → (b && c) ≡ true → (b ≡ true) × (c ≡ true)
both_true true c h = (refl, h)
both_true false c h = absurd (false≢true h)

first_false : (b c : Bool) → (b || c) ≡ false → b ≡ false
first_false true c h = absurd (false≢true (sym h))
first_false false c h = refl

second_false : (b c : Bool) → (b || c) ≡ false → c ≡ false
second_false true c h = absurd (false≢true (sym h))
second_false false c h = h

-- ---- two parts

pub record Parts (xs ys zs ws : List ℕ) : Type 0 where
  pub before : xs ≡ zs
  pub behind : ys ≡ ws

-- fronts of one length are the same
pub same_fronts : (xs ys zs ws : List ℕ) → xs ++ ys ≡ zs ++ ws → length xs ≡ length zs → Parts xs ys zs ws
same_fronts xs ys zs ws h n = record {
  before = sym (take-append_seam xs ys) ∙ ((λ i. take (n i) (h i)) ∙ take-append_seam zs ws);
  behind = sym (drop-append_seam xs ys) ∙ ((λ i. drop (n i) (h i)) ∙ drop-append_seam zs ws);
}

lengths : (a b c d : ℕ) → a + b ≡ c + d → b ≡ d → a ≡ c
lengths a b c d h k = omega arith

-- and so are ends
pub same_ends : (xs ys zs ws : List ℕ) → xs ++ ys ≡ zs ++ ws → length ys ≡ length ws → Parts xs ys zs ws
same_ends xs ys zs ws h n =
    same_fronts xs ys zs ws h
    (lengths (length xs) (length ys) (length zs) (length ws) (sym (length-append xs ys) ∙ (ap (λ (z : List ℕ). length z) h ∙ length-append zs ws)) n)

-- what stands between one front and one end
pub same_within : (front m k back : List ℕ) → front ++ (m ++ back) ≡ front ++ (k ++ back) → m ≡ k
same_within front m k back h = (same_ends m back k back (same_fronts front (m ++ back) front (k ++ back) h refl).behind refl).before

-- ---- many parts

pub joined_4 : (o a n b e r : List ℕ) → (o ++ (a ++ (n ++ (b ++ e)))) ++ r ≡ o ++ (a ++ (n ++ (b ++ (e ++ r))))
joined_4 o a n b e r =
    append_assoc o (a ++ (n ++ (b ++ e))) r
    ∙ ap (λ z. o ++ z) (append_assoc a (n ++ (b ++ e)) r ∙ ap (λ z. a ++ z) (append_assoc n (b ++ e) r ∙ ap (λ z. n ++ z) (append_assoc b e r)))

pub joined_5 : (o a n b m c r : List ℕ) → (o ++ (a ++ (n ++ (b ++ (m ++ c))))) ++ r ≡ o ++ (a ++ (n ++ (b ++ (m ++ (c ++ r)))))
joined_5 o a n b m c r = joined_4 o a n b (m ++ c) r ∙ ap (λ z. o ++ (a ++ (n ++ (b ++ z)))) (append_assoc m c r)

pub pushed_4 : (o a n b e p q r s : List ℕ) → p ≡ o ++ a → q ≡ p ++ n → r ≡ q ++ b → s ≡ r ++ e → s ≡ o ++ (a ++ (n ++ (b ++ e)))
pushed_4 o a n b e p q r s h i j k =
    k ∙ (ap (λ z. z ++ e) (j ∙ ap (λ z. z ++ b) (i ∙ ap (λ z. z ++ n) h))
    ∙ (append_assoc ((o ++ a) ++ n) b e ∙ (append_assoc (o ++ a) n (b ++ e) ∙ append_assoc o a (n ++ (b ++ e)))))

less : (a b : ℕ) → a + b - b ≡ a
less a b = omega arith

pub drop_end : (rest back text : List ℕ) → rest ++ back ≡ text → drop (length text - length back) text ≡ back
drop_end rest back text h =
    let count : length text - length back ≡ length rest
    = ap (λ (z : List ℕ). length z - length back) (sym h) ∙ (ap (λ z. z - length back) (length-append rest back) ∙ less (length rest) (length back)) in
    (λ i. drop (count i) (sym h i)) ∙ drop-append_seam rest back

-- ---- a byte between two parts

-- no byte is this one
abbrev pub HasNo : ℕ → List ℕ → Type 0
HasNo b xs = list_any (λ x. x == b) xs ≡ false

no_first : (b x : ℕ) (xs : List ℕ) → HasNo b (x ∷ xs) → (x == b) ≡ false
no_first b x xs h = first_false (x == b) (list_any (λ x. x == b) xs) h

no_later : (b x : ℕ) (xs : List ℕ) → HasNo b (x ∷ xs) → HasNo b xs
no_later b x xs h = second_false (x == b) (list_any (λ x. x == b) xs) h

is_itself : (b : ℕ) → (b == b) ≡ true
is_itself b = grind (arith)

same_head : (x y : ℕ) (xs ys : List ℕ) → x ∷ xs ≡ y ∷ ys → x ≡ y
same_head x y xs ys h = cc

same_tail : (x y : ℕ) (xs ys : List ℕ) → x ∷ xs ≡ y ∷ ys → xs ≡ ys
same_tail x y xs ys h = cc

not_first : (b x : ℕ) (xs : List ℕ) → HasNo b (x ∷ xs) → b ≡ x → ⊥
not_first b x xs h e = false≢true (sym (no_first b x xs h) ∙ (ap (λ z. z == b) (sym e) ∙ is_itself b))

pub has_it : (b : ℕ) (xs ys : List ℕ) → HasNo b (xs ++ b ∷ ys) → ⊥
has_it b [] ys h = not_first b b ys h refl
has_it b (x ∷ xs) ys h = has_it b xs ys (no_later b x (xs ++ b ∷ ys) h)

pub same_cut : (b : ℕ) (xs ys zs ws : List ℕ) → HasNo b xs → HasNo b zs → xs ++ b ∷ ys ≡ zs ++ b ∷ ws → Parts xs ys zs ws
same_cut b [] ys [] ws h k e = record { before = refl; behind = same_tail b b ys ws e }
same_cut b [] ys (z ∷ zs) ws h k e = absurd (not_first b z zs k (same_head b z ys (zs ++ b ∷ ws) e))
same_cut b (x ∷ xs) ys [] ws h k e = absurd (not_first b x xs h (sym (same_head x b (xs ++ b ∷ ys) ws e)))
same_cut b (x ∷ xs) ys (z ∷ zs) ws h k e =
    let p = same_cut b xs ys zs ws (no_later b x xs h) (no_later b z zs k) (same_tail x z (xs ++ b ∷ ys) (zs ++ b ∷ ws) e) in
    record { before = (λ i. same_head x z (xs ++ b ∷ ys) (zs ++ b ∷ ws) e i ∷ p.before i); behind = p.behind }

-- ---- digits

no_comma : digit_value 44 < 10 → ⊥
no_comma h = grind (arith)

digits_no_comma : (ds : List ℕ) → AllDigits 10 ds → HasNo 44 ds
digits_no_comma [] h = refl
digits_no_comma (c ∷ cs) h = (λ i. by (c == 44) refl i || digits_no_comma cs h.1 i)
  where
    by : (u : Bool) → (c == 44) ≡ u → u ≡ false
    by true e = absurd (no_comma (subst (λ z. digit_value z < 10) (eqb-true c 44 e) h.0))
    by false e = refl

pub decimal_no_comma : (n : ℕ) → n < 2 ^ 64 → HasNo 44 (decimal n)
decimal_no_comma n h = digits_no_comma (decimal n) (decimal_is_IsNumeral n h).0.1

-- ---- lines

abbrev pub middle_of : ℕ → ℕ → List ℕ
middle_of from to = decimal from ++ 44 ∷ (codes "\"step\":" ++ decimal to)

pub ends_line : (from to : ℕ) → codes "{\"from\":" ++ (middle_of from to ++ codes "}") ≡ line_of (ends from to)
ends_line from to =
    ap (λ z. codes "{\"from\":" ++ z) (append_assoc (decimal from) (44 ∷ (codes "\"step\":" ++ decimal to)) (codes "}")
    ∙ ap (λ z. decimal from ++ 44 ∷ z) (append_assoc (codes "\"step\":") (decimal to) (codes "}")))

abbrev pub log_middle : Log → List ℕ
log_middle l = l.name ++ (codes "\",\"epoch\":\"" ++ l.epoch)

pub log_line_is : (front : List ℕ) (l : Log) → front ++ (log_middle l ++ codes "\"}") ≡ log_line front l
log_line_is front l =
    ap (λ z. front ++ z) (append_assoc l.name (codes "\",\"epoch\":\"" ++ l.epoch) (codes "\"}")
    ∙ ap (λ z. l.name ++ z) (append_assoc (codes "\",\"epoch\":\"") l.epoch (codes "\"}")))

-- the parts of a step's last line
pub from_fits : (from to : ℕ) → is_well (ends from to) ≡ true → from < 2 ^ 64
from_fits from to w = ltb-true from (2 ^ 64) (both_true (nat_lt from (2 ^ 64)) (nat_lt to (2 ^ 64)) w).0

pub to_fits : (from to : ℕ) → is_well (ends from to) ≡ true → to < 2 ^ 64
to_fits from to w = ltb-true to (2 ^ 64) (both_true (nat_lt from (2 ^ 64)) (nat_lt to (2 ^ 64)) w).1

pub middle_is : (m line : List ℕ) (from to : ℕ) → codes "{\"from\":" ++ (m ++ codes "}") ≡ line → line_of (ends from to) ≡ line → m ≡ middle_of from to
middle_is m line from to h k = same_within (codes "{\"from\":") m (middle_of from to) (codes "}") (h ∙ sym (ends_line from to ∙ k))

pub step_parts : (f r m line : List ℕ) (from to : ℕ) → codes "{\"from\":" ++ (m ++ codes "}") ≡ line → (f ++ 44 ∷ r ≡ m) × HasNo 44 f → is_well (ends from to) ≡ true
    → line_of (ends from to) ≡ line → Parts f r (decimal from) (codes "\"step\":" ++ decimal to)
step_parts f r m line from to h c w k =
    same_cut 44 f r (decimal from) (codes "\"step\":" ++ decimal to) c.1 (decimal_no_comma from (from_fits from to w)) (c.0 ∙ middle_is m line from to h k)

pub to_line : (to : ℕ) → codes "\"step\":" ++ (decimal to ++ []) ≡ codes "\"step\":" ++ decimal to
to_line to = ap (λ z. codes "\"step\":" ++ z) (append-nil (decimal to))

-- the parts of a log's line
epoch_fits : (l : Log) → has_form l ≡ true → length l.epoch ≡ 32
epoch_fits l h = eqb-true (length l.epoch) 32 (both_true (length l.epoch == 32) (list_all (λ b. is_between 48 57 b || is_between 97 102 b) l.epoch) (both_true (is_name l.name) (is_epoch l.epoch) h).1).0

pub log_parts : (front line m b e : List ℕ) (l : Log) → front ++ (m ++ codes "\"}") ≡ line → (b ++ e ≡ m) × (length e ≡ 32) → (has_form l ≡ true) × (log_line front l ≡ line)
    → Parts b e (l.name ++ codes "\",\"epoch\":\"") l.epoch
log_parts front line m b e l h c k =
    same_ends b e (l.name ++ codes "\",\"epoch\":\"") l.epoch
    (c.0 ∙ (same_within front m (log_middle l) (codes "\"}") (h ∙ sym (log_line_is front l ∙ k.1)) ∙ sym (append_assoc l.name (codes "\",\"epoch\":\"") l.epoch)))
    (c.1 ∙ sym (epoch_fits l k.0))
