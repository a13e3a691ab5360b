-- One step of the lexer.
use Rattle.std.proofs.Common.{◌≡◌, ℕ, zero, suc, ◌+◌, ◌-◌, ◌<◌, ◌≤◌, Bool, true, false, cond, List, [], ◌∷◌, ◌++◌, length, drop, refl, ap, subst, ◌∙◌, append_assoc, arith, length-drop}
use Rattle.std.specs.Prelude.{◌==◌, nat_lt}
use Rattle.std.proofs.Common.{lit<}
use Rattle.std.specs.Str.{IsUtf8}
use Rattle.std.proofs.lemmas.Bool.{eqb-true}
use Rattle.std.proofs.lemmas.Bool.Decides.{nat_tests}
use Rattle.std.proofs.lemmas.Str.{IsUtf8-drop, IsCharBoundary-after_ascii}
use Rattle.std.proofs.Common.{take, length-take, ◌^◌}
use Rattle.std.specs.Prelude.{IsTrue}
use Rattle.std.specs.Char.{is_ascii_digit}
use Rattle.std.specs.Str.Parse.{digits_value}
use Rattle.iv_query.proofs.Numbers.{lt-is_ascii_digit, lt-starts_digit}
use Rattle.iv_rows.specs.Texts.{is_well_text}
use Rattle.std.specs.Prelude.{nat_le, Option, Some, None}
use Rattle.iv_query.proofs.Quotes.{Closed, Closed-quoted}
use Rattle.iv_query.proofs.Bytes.{IsCharBoundary-prefix_len, lt-is_word_byte}
use Rattle.std.specs.List.{prefix_len}
use Rattle.std.proofs.lemmas.List.{map_push, append-nil}
use Rattle.iv_query.specs.declared.fault.Fault.{Fault}
use Rattle.iv_query.specs.declared.fault.Why.TheVariants as why
use Rattle.iv_query.specs.declared.token.Token.{Token}
use Rattle.iv_query.specs.Tokens.{Tok, Quoted, tok, toks}
use Rattle.iv_rows.specs.Options.{if_some}
use Rattle.iv_query.specs.Lexing.{is_blank, is_letter, is_word_byte, is_plain, after_quote, onto, quoted, starts_letter, starts_digit, number_at, negative_at, minus_at, text_at, Ahead, Gap, Nothing, word_token, word_at, less_at, greater_at, not_equal_at, sign_at, ahead, Lexes, at_end, gap, token, broken}
use Rattle.iv_query.specs.Lexing as lexing
use Rattle.iv_query.specs.TextReading.{Lexed, lexed_from, lexed}

-- what stands behind is shorter than n, and text
pub record Behind (n : ℕ) (rest : List ℕ) : Type 0 where
  pub shorter : length rest < n
  pub text : IsUtf8 rest

abbrev Holds : ℕ → Ahead → Type 0
Holds n (Gap rest) = Behind n rest
Holds n (lexing.Token k rest) = Behind n rest
Holds n Nothing = Unit {0}

record IsBehind (n : ℕ) (a : Ahead) : Type 0 where
  by : Holds n a

either : {n : ℕ} (b : Bool) {x y : Ahead} → (b ≡ true → IsBehind n x) → IsBehind n y → IsBehind n (cond b x y)
either true h k = h refl
either false h k = k

less : {n : ℕ} {k : ℕ → Tok} {rest : List ℕ} → length rest < n → IsUtf8 rest → IsBehind n (lexing.Token k rest)
less h u = record { by = record { shorter = h; text = u } }

past : {n : ℕ} {rest : List ℕ} → length rest < n → IsUtf8 rest → IsBehind n (Gap rest)
past h u = record { by = record { shorter = h; text = u } }

none : {n : ℕ} → IsBehind n Nothing
none = record { by = tt }

tail : (b : ℕ) (bs : List ℕ) → b < 128 → IsUtf8 (b ∷ bs) → IsUtf8 bs
tail b bs low u = let some : 0 < length (b ∷ bs) = omega arith in IsUtf8-drop (b ∷ bs) 1 u (IsCharBoundary-after_ascii (b ∷ bs) 0 u some low)

is_low : (b n : ℕ) → n < 128 → (b == n) ≡ true → b < 128
is_low b n lt e = omega (arith, eqb-true b n e)

less_behind : (bs : List ℕ) → IsUtf8 bs → IsBehind (suc (length bs)) (less_at bs)
less_behind [] u = let one : 0 < 1 = omega arith in less one u
less_behind (c ∷ cs) u =
    let one : length cs < suc (length (c ∷ cs)) = omega arith in
    let all : length (c ∷ cs) < suc (length (c ∷ cs)) = omega arith in
    either (c == 61) (λ e. less one (tail c cs (is_low c 61 (lit< tt) e) u)) (either (c == 62) (λ e. less one (tail c cs (is_low c 62 (lit< tt) e) u)) (less all u))

greater_behind : (bs : List ℕ) → IsUtf8 bs → IsBehind (suc (length bs)) (greater_at bs)
greater_behind [] u = let one : 0 < 1 = omega arith in less one u
greater_behind (c ∷ cs) u =
    let one : length cs < suc (length (c ∷ cs)) = omega arith in
    let all : length (c ∷ cs) < suc (length (c ∷ cs)) = omega arith in
    either (c == 61) (λ e. less one (tail c cs (is_low c 61 (lit< tt) e) u)) (less all u)

not_equal_behind : (bs : List ℕ) → IsUtf8 bs → IsBehind (suc (length bs)) (not_equal_at bs)
not_equal_behind [] u = none
not_equal_behind (c ∷ cs) u = let one : length cs < suc (length (c ∷ cs)) = omega arith in either (c == 61) (λ e. less one (tail c cs (is_low c 61 (lit< tt) e) u)) none

sign_behind : (bs : List ℕ) → IsUtf8 bs → IsBehind (length bs) (sign_at bs)
unfolding sign_at
sign_behind [] u = none
sign_behind (b ∷ bs) u =
    let one : length bs < length (b ∷ bs) = omega arith in
    let is : (n : ℕ) → n < 128 → (b == n) ≡ true → IsUtf8 bs = λ n lt e. tail b bs (is_low b n lt e) u in
    either (b == 44) (λ e. less one (is 44 (lit< tt) e)) (either (b == 46) (λ e. less one (is 46 (lit< tt) e)) (either (b == 40) (λ e. less one (is 40 (lit< tt) e)) (either (b == 41) (λ e. less one (is 41 (lit< tt) e))
    (either (b == 42) (λ e. less one (is 42 (lit< tt) e)) (either (b == 61) (λ e. less one (is 61 (lit< tt) e))
    (either (b == 33) (λ e. not_equal_behind bs (is 33 (lit< tt) e)) (either (b == 60) (λ e. less_behind bs (is 60 (lit< tt) e)) (either (b == 62) (λ e. greater_behind bs (is 62 (lit< tt) e)) none))))))))

word_behind : (b : ℕ) (bs : List ℕ) → is_letter b ≡ true → IsUtf8 (b ∷ bs) → IsBehind (length (b ∷ bs)) (word_at (b ∷ bs))
unfolding word_at
word_behind b bs e u =
    let some : prefix_len is_word_byte (b ∷ bs) ≡ 1 + prefix_len is_word_byte bs = rw e refl in
    let one : length (drop (prefix_len is_word_byte (b ∷ bs)) (b ∷ bs)) < length (b ∷ bs) = omega (arith, length-drop (prefix_len is_word_byte (b ∷ bs)) (b ∷ bs), some) in
    either (nat_lt 63 (prefix_len is_word_byte (b ∷ bs))) (λ _. none) (less one (IsUtf8-drop (b ∷ bs) _ u (IsCharBoundary-prefix_len is_word_byte lt-is_word_byte (b ∷ bs) u)))

number_behind : (bs : List ℕ) → IsTrue (starts_digit bs) → IsUtf8 bs → IsBehind (length bs) (number_at bs)
unfolding number_at
number_behind bs d u =
    let some = lt-starts_digit bs d in
    let one : length (drop (prefix_len is_ascii_digit bs) bs) < length bs = omega (arith, length-drop (prefix_len is_ascii_digit bs) bs, length-take (prefix_len is_ascii_digit bs) bs) in
    either (starts_letter (drop (prefix_len is_ascii_digit bs) bs)) (λ _. none) (either (nat_lt (digits_value 10 (take (prefix_len is_ascii_digit bs) bs)) (2 ^ 63)) (λ _. less one (IsUtf8-drop bs _ u (IsCharBoundary-prefix_len is_ascii_digit lt-is_ascii_digit bs u))) none)

negative_behind : (bs : List ℕ) → IsTrue (starts_digit bs) → IsUtf8 bs → IsBehind (length bs) (negative_at bs)
unfolding negative_at
negative_behind bs d u =
    let some = lt-starts_digit bs d in
    let one : length (drop (prefix_len is_ascii_digit bs) bs) < length bs = omega (arith, length-drop (prefix_len is_ascii_digit bs) bs, length-take (prefix_len is_ascii_digit bs) bs) in
    either (starts_letter (drop (prefix_len is_ascii_digit bs) bs)) (λ _. none) (either (nat_le (digits_value 10 (take (prefix_len is_ascii_digit bs) bs)) (2 ^ 63)) (λ _. less one (IsUtf8-drop bs _ u (IsCharBoundary-prefix_len is_ascii_digit lt-is_ascii_digit bs u))) none)

minus_behind : (bs : List ℕ) → IsUtf8 bs → IsBehind (length bs) (minus_at bs)
minus_behind bs u = either (starts_digit bs) (λ e. negative_behind bs e u) none

weaker : {m n : ℕ} {a : Ahead} → m ≤ n → IsBehind m a → IsBehind n a
weaker {a = Gap rest} le h = past (let s = h.by.shorter in omega arith) h.by.text
weaker {a = lexing.Token k rest} le h = less (let s = h.by.shorter in omega arith) h.by.text
weaker {a = Nothing} le h = none

text_behind : (bs : List ℕ) → IsUtf8 bs → IsBehind (length bs) (text_at bs)
unfolding text_at
text_behind bs u = go (quoted bs) (Closed-quoted bs u)
  where
    go : (r : Option (List ℕ × List ℕ)) → Closed (length bs) r → IsBehind (length bs) (if_some r Nothing (λ x. cond (is_well_text x.0) (lexing.Token (Quoted x.0) x.1) Nothing))
    go None h = none
    go (Some x) h = either (is_well_text x.0) (λ _. less h.0 h.1) none

blank_low : (b : ℕ) → is_blank b ≡ true → b < 128
blank_low b e = grind (arith, nat_tests)

ahead_behind : (bs : List ℕ) → IsUtf8 bs → IsBehind (length bs) (ahead bs)
unfolding ahead
ahead_behind [] u = none
ahead_behind (b ∷ bs) u =
    let one : length bs < length (b ∷ bs) = omega arith in
    let le : length bs ≤ length (b ∷ bs) = omega arith in
    either (is_blank b) (λ e. past one (tail b bs (blank_low b e) u)) (either (is_letter b) (λ e. word_behind b bs e u) (either (is_ascii_digit b) (λ e. number_behind (b ∷ bs) e u)
    (either (b == 39) (λ e. weaker le (text_behind bs (tail b bs (is_low b 39 (lit< tt) e) u))) (either (b == 45) (λ e. weaker le (minus_behind bs (tail b bs (is_low b 45 (lit< tt) e) u))) (sign_behind (b ∷ bs) u)))))

pub Behind-Gap : (bs rest : List ℕ) → IsUtf8 bs → ahead bs ≡ Gap rest → Behind (length bs) rest
Behind-Gap bs rest u e = subst (Holds (length bs)) e (ahead_behind bs u).by

pub Behind-Token : (bs rest : List ℕ) (k : ℕ → Tok) → IsUtf8 bs → ahead bs ≡ lexing.Token k rest → Behind (length bs) rest
Behind-Token bs rest k u e = subst (Holds (length bs)) e (ahead_behind bs u).by

-- whatever the rest is read as completes the reading of the text
pub record Before (text : List ℕ) (ts : List Tok) (rest : List ℕ) : Type 0 where
  pub completes : (us : List Tok) (stop : Fault) (Lexes-end : Bool) → Lexes (length text) rest us stop Lexes-end → Lexes (length text) text (ts ++ us) stop Lexes-end
  pub within : length rest ≤ length text

pub Before-Gap : (text rest after : List ℕ) (ts : List Tok) → IsUtf8 rest → ahead rest ≡ Gap after → Before text ts rest → Before text ts after
Before-Gap text rest after ts u e b = let s = (Behind-Gap rest after u e).shorter in record { completes = λ us stop Lexes-end h. b.completes us stop Lexes-end (gap e h); within = omega (arith, b.within) }

pub Before-Token : (text rest after : List ℕ) (ts : List Token) (t : Token) (k : ℕ → Tok) → IsUtf8 rest → ahead rest ≡ lexing.Token k after → tok t ≡ k (length text - length rest) → Before text (toks ts) rest → Before text (toks (ts ++ t ∷ [])) after
Before-Token text rest after ts t k u e is b = let s = (Behind-Token rest after k u e).shorter in record {
  completes = λ us stop Lexes-end h.
      let all : toks (ts ++ t ∷ []) ++ us ≡ toks ts ++ (k (length text - length rest) ∷ us) = ap (λ x. x ++ us) (map_push tok ts t) ∙ append_assoc (toks ts) (tok t ∷ []) us ∙ ap (λ x. toks ts ++ (x ∷ us)) is in
      rw all (b.completes _ stop Lexes-end (token e h));
  within = omega (arith, b.within);
}

pub Lexes-stop : (text rest : List ℕ) (ts : List Tok) → 0 < length rest → ahead rest ≡ Nothing → Before text ts rest → Lexes (length text) text ts (record { place = length text - length rest; why = why.Token }) false
Lexes-stop text [] ts some e b = absurd (omega arith)
Lexes-stop text (x ∷ rest) ts some e b = rw append-nil at (b.completes [] _ false (broken e))

pub Lexes-end : (text rest : List ℕ) (ts : List Tok) → length rest ≡ 0 → Before text ts rest → Lexes (length text) text ts (record { place = length text; why = why.Unexpected }) true
Lexes-end text [] ts none b = rw append-nil at (b.completes [] _ true at_end)
Lexes-end text (x ∷ rest) ts none b = absurd (omega arith)

-- ---- a text is read in one way

-- what is known of a reading by what stands in front
abbrev Opened : ℕ → List ℕ → List Tok → Fault → Bool → Ahead → Type 0
Opened total bs ts stop Lexes-end (Gap rest) = Lexes total rest ts stop Lexes-end
Opened total bs ts stop Lexes-end (lexing.Token k rest) = (us : List Tok) × (ts ≡ k (total - length bs) ∷ us) × Lexes total rest us stop Lexes-end
Opened total [] ts stop Lexes-end Nothing = (ts ≡ []) × (stop ≡ record { place = total; why = why.Unexpected }) × (Lexes-end ≡ true)
Opened total (b ∷ bs) ts stop Lexes-end Nothing = (ts ≡ []) × (stop ≡ record { place = total - length (b ∷ bs); why = why.Token }) × (Lexes-end ≡ false)

opened : {total : ℕ} {bs : List ℕ} {ts : List Tok} {stop : Fault} {Lexes-end : Bool} → Lexes total bs ts stop Lexes-end → Opened total bs ts stop Lexes-end (ahead bs)
unfolding ahead
opened at_end = (refl, refl, refl)
opened (gap e h) = rw e h
opened (token e h) = rw e (_, refl, h)
opened (broken e) = rw e (refl, refl, refl)

pub Lexes-unique : {total : ℕ} {bs : List ℕ} {ts us : List Tok} {s t : Fault} {e f : Bool} → Lexes total bs ts s e → Lexes total bs us t f → (P : List Tok → Fault → Bool → Type 0) → P ts s e → P us t f
unfolding ahead
Lexes-unique at_end k P p = let o = opened k in rw (o.0, o.1, o.2) p
Lexes-unique (gap {bs = bs} g h) k P p = Lexes-unique h (subst (Opened _ bs _ _ _) g (opened k)) P p
Lexes-unique {total = total} (token {bs = bs} {k = kind} g h) k P p =
    let o = subst (Opened _ bs _ _ _) g (opened k) in
    rw o.1 (Lexes-unique h o.2 (λ vs s e. P (kind (total - length bs) ∷ vs) s e) p)
Lexes-unique (broken {b = b} {bs = bs} g) k P p = let o = subst (Opened _ (b ∷ bs) _ _ _) g (opened k) in rw (o.0, o.1, o.2) p

-- ---- each text is read

pub lexed_lexes : (total most : ℕ) (bs : List ℕ) → length bs ≤ most → IsUtf8 bs → let l = lexed total most bs in Lexes total bs l.tokens l.stop l.ends
unfolding lexed
lexed_lexes total most [] le u = at_end
lexed_lexes total zero (b ∷ bs) le u = absurd (omega arith)
lexed_lexes total (suc most) (b ∷ bs) le u = go (ahead (b ∷ bs)) refl (λ rest below text. lexed_lexes total most rest below text)
  where
    Is : List ℕ → Lexed → Type 0
    Is bs l = Lexes total bs l.tokens l.stop l.ends

    go : (a : Ahead) → ahead (b ∷ bs) ≡ a → ((rest : List ℕ) → length rest ≤ most → IsUtf8 rest → Is rest (lexed total most rest)) → Is (b ∷ bs) (lexed_from (total - length (b ∷ bs)) (lexed total most) a)
    go (Gap rest) e more =
        let h = Behind-Gap (b ∷ bs) rest u e in
        let s : length rest < length (b ∷ bs) = h.shorter in
        gap e (more rest (omega arith) h.text)
    go (lexing.Token k rest) e more =
        let h = Behind-Token (b ∷ bs) rest k u e in
        let s : length rest < length (b ∷ bs) = h.shorter in
        token e (more rest (omega arith) h.text)
    go Nothing e more = broken e

-- the tokens of a text, the fault behind them, and whether the text Lexes-end there
pub Lexes-lexed : (bs : List ℕ) → IsUtf8 bs → let l = lexed (length bs) (length bs) bs in Lexes (length bs) bs l.tokens l.stop l.ends
Lexes-lexed bs u = let all : length bs ≤ length bs = omega arith in lexed_lexes (length bs) (length bs) bs all u

abbrev pub of_parts : List Tok → Fault → Bool → Lexed
of_parts ts stop full = record { tokens = ts; stop = stop; ends = full }

pub lexed-Lexes : (bs : List ℕ) (ts : List Tok) (stop : Fault) (full : Bool) → IsUtf8 bs → Lexes (length bs) bs ts stop full → of_parts ts stop full ≡ lexed (length bs) (length bs) bs
lexed-Lexes bs ts stop full u k = Lexes-unique k (Lexes-lexed bs u) (λ us s e. of_parts ts stop full ≡ of_parts us s e) refl
