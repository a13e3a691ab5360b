-- A compact text has no newline, so what is told is one line.
use Rattle.std.proofs.Common.{◌≡◌, ◌∙◌, ℕ, zero, suc, pos, negsuc, ◌/◌, ◌%◌, ◌==◌, ◌||◌, ◌&&◌, List, [], ◌∷◌, ◌++◌, Bool, true, false, cond, not, nat_lt, append_assoc, refl, arith}
use Rattle.std.proofs.lemmas.Bool.Decides.{nat_tests}
use Rattle.std.proofs.lemmas.List.Folds.{list_all-append}
use Rattle.std.specs.Char.{digit_char}
use Rattle.std.specs.Prelude.{codes, decimal, Option, Some, None}
use Rattle.std.specs.Fmt.{digits, digits_onto, digit_glyph}
use Rattle.json.specs.Print.{escape_letter, escape_byte, escape, quoted}
use Rattle.serde_json.specs.Data.{Num, unsigned, negative, float, Data, null, boolean, number, string, array, object, Items, no_items, item, Members, no_members, member}
use Rattle.serde_json.specs.Written.{number_text, comma_if, compact_text, items_text, members_text}
use Rattle.iv_request.specs.Values.{natural}
use Rattle.iv_lines.specs.Texts.{fault_data, reply_members, text_of}
use Rattle.iv_message.specs.Message.{on_one_line}
use Rattle.iv_message.specs.Told.{Told, welcome, replied, opened, fault, unasked, changed, over, settled, granted, made, alive, placed, answered, undecided, denied, again_text, answered_text, changed_data, id_text, made_text, most_names, opened_members, over_data, protocol, told_text, why_members, with_id}
use Rattle.iv_message.specs.Lines.{is_clean, IsLine}

joined : (a b : List ℕ) → is_clean a ≡ true → is_clean b ≡ true → is_clean (a ++ b) ≡ true
joined a b h k = list_all-append (λ x. not (x == 10)) a b ∙ (λ i. h i && k i)

no_newline : (x : ℕ) → (x == 10) ≡ false → is_clean (x ∷ []) ≡ true
no_newline x h i = not (h i) && true

then_clean : (x : ℕ) (xs : List ℕ) → (x == 10) ≡ false → is_clean xs ≡ true → is_clean (x ∷ xs) ≡ true
then_clean x xs h k i = not (h i) && k i

-- ---- numbers

glyph_is_no_newline : (d : ℕ) → (digit_glyph false d == 10) ≡ false
glyph_is_no_newline d = grind (arith, nat_tests)

onto_clean : (k n : ℕ) (acc : List ℕ) → is_clean acc ≡ true → is_clean (digits_onto k 10 false n acc) ≡ true
onto_clean zero n acc h = h
onto_clean (suc k) n acc h =
    let more : is_clean (digit_glyph false (n % 10) ∷ acc) ≡ true = then_clean (digit_glyph false (n % 10)) acc (glyph_is_no_newline (n % 10)) h in
    part more (onto_clean k (n / 10) (digit_glyph false (n % 10) ∷ acc) more) (n / 10 == 0)
  where
    part : is_clean (digit_glyph false (n % 10) ∷ acc) ≡ true → is_clean (digits_onto k 10 false (n / 10) (digit_glyph false (n % 10) ∷ acc)) ≡ true → (b : Bool) → is_clean (cond b (digit_glyph false (n % 10) ∷ acc) (digits_onto k 10 false (n / 10) (digit_glyph false (n % 10) ∷ acc))) ≡ true
    part last more true = last
    part last more false = more

decimal_clean : (n : ℕ) → is_clean (decimal n) ≡ true
unfolding digits
decimal_clean n = onto_clean 64 n [] refl

number_clean : (n : Num) → is_clean (number_text n) ≡ true
number_clean (unsigned n) = decimal_clean n
number_clean (negative (pos n)) = decimal_clean n
number_clean (negative (negsuc n)) = decimal_clean (suc n)
number_clean (float x) = refl

-- ---- texts

letter_by : (x : ℕ) (q b f n r t : Bool) → (q ≡ true → (x == 10) ≡ false) → (cond q x (cond b 98 (cond f 102 (cond n 110 (cond r 114 (cond t 116 0))))) == 10) ≡ false
letter_by x true b f n r t h = h refl
letter_by x false true f n r t h = refl
letter_by x false false true n r t h = refl
letter_by x false false false true r t h = refl
letter_by x false false false false true t h = refl
letter_by x false false false false false true h = refl
letter_by x false false false false false false h = refl

quote_is_no_newline : (x : ℕ) → ((x == 34) || (x == 92)) ≡ true → (x == 10) ≡ false
quote_is_no_newline x h = grind (arith, nat_tests)

letter_is_no_newline : (x : ℕ) → (escape_letter x == 10) ≡ false
letter_is_no_newline x = letter_by x ((x == 34) || (x == 92)) (x == 8) (x == 12) (x == 10) (x == 13) (x == 9) (quote_is_no_newline x)

hex_is_no_newline : (d : ℕ) → (digit_char d == 10) ≡ false
hex_is_no_newline d = grind (arith, nat_tests)

high_is_no_newline : (x : ℕ) → nat_lt x 32 ≡ false → (x == 10) ≡ false
high_is_no_newline x h = grind (arith, nat_tests)

written_clean : (l x : ℕ) (some low : Bool) → (l == 10) ≡ false → nat_lt x 32 ≡ low
    → is_clean (cond some (92 ∷ l ∷ []) (cond low (92 ∷ 117 ∷ 48 ∷ 48 ∷ digit_char (x / 16) ∷ digit_char (x % 16) ∷ []) (x ∷ []))) ≡ true
written_clean l x true low h e = no_newline l h
written_clean l x false true h e = then_clean (digit_char (x / 16)) (digit_char (x % 16) ∷ []) (hex_is_no_newline (x / 16)) (no_newline (digit_char (x % 16)) (hex_is_no_newline (x % 16)))
written_clean l x false false h e = no_newline x (high_is_no_newline x e)

byte_clean : (x : ℕ) → is_clean (escape_byte x) ≡ true
unfolding escape_byte
byte_clean x = written_clean (escape_letter x) x (nat_lt 0 (escape_letter x)) (nat_lt x 32) (letter_is_no_newline x) refl

escape_clean : (s : List ℕ) → is_clean (escape s) ≡ true
escape_clean [] = refl
escape_clean (x ∷ s) = joined (escape_byte x) (escape s) (byte_clean x) (escape_clean s)

quoted_clean : (s : List ℕ) → is_clean (quoted s) ≡ true
quoted_clean s = joined (escape s) (34 ∷ []) (escape_clean s) refl

-- ---- values

comma_clean : (later : Bool) → is_clean (comma_if later) ≡ true
comma_clean true = refl
comma_clean false = refl

mutual
  data_clean : (d : Data) → is_clean (compact_text d) ≡ true
  data_clean null = refl
  data_clean (boolean true) = refl
  data_clean (boolean false) = refl
  data_clean (number n) = number_clean n
  data_clean (string s) = quoted_clean s
  data_clean (array ds) = items_clean false ds
  data_clean (object ms) = members_clean false ms

  items_clean : (later : Bool) (ds : Items) → is_clean (items_text later ds) ≡ true
  items_clean later no_items = refl
  items_clean later (item d ds) = joined (comma_if later) (compact_text d ++ items_text true ds) (comma_clean later) (joined (compact_text d) (items_text true ds) (data_clean d) (items_clean true ds))

  members_clean : (later : Bool) (ms : Members) → is_clean (members_text later ms) ≡ true
  members_clean later no_members = refl
  members_clean later (member k d ms) =
      joined (comma_if later) (quoted k ++ 58 ∷ (compact_text d ++ members_text true ms)) (comma_clean later)
      (joined (quoted k) (58 ∷ (compact_text d ++ members_text true ms)) (quoted_clean k) (joined (compact_text d) (members_text true ms) (data_clean d) (members_clean true ms)))

text_line : (d : Data) → IsLine (text_of d)
text_line d = (compact_text d, refl, data_clean d)

-- ---- a request

on_one_clean : (text : List ℕ) → is_clean (on_one_line text) ≡ true
on_one_clean [] = refl
on_one_clean (b ∷ text) = by (b == 10) refl (on_one_clean text)
  where
    by : (t : Bool) → (b == 10) ≡ t → is_clean (on_one_line text) ≡ true → is_clean (cond t 32 b ∷ on_one_line text) ≡ true
    by true e more = more
    by false e more = then_clean b (on_one_line text) e more

made_so : (a q b l : List ℕ) → a ++ (q ++ (b ++ (l ++ codes "}\n"))) ≡ (a ++ (q ++ (b ++ (l ++ codes "}")))) ++ codes "\n"
made_so a q b l = simp append_assoc

made_line : (role line : List ℕ) → IsLine (made_text role line)
made_line role line =
    let q = compact_text (string role) in let l = on_one_line line in let a = codes "{\"as\":" in let b = codes ",\"made\":" in (
      a ++ (q ++ (b ++ (l ++ codes "}"))),
      made_so a q b l,
      joined a (q ++ (b ++ (l ++ codes "}"))) refl
          (joined q (b ++ (l ++ codes "}")) (data_clean (string role)) (joined b (l ++ codes "}") refl (joined l (codes "}") (on_one_clean line) refl))),
    )

-- ---- an answer to a request with a name

again_clean : (again : Bool) → is_clean (again_text again) ≡ true
again_clean true = refl
again_clean false = refl

id_clean : (id : Option Data) → is_clean (id_text id) ≡ true
id_clean None = refl
id_clean (Some id) = joined (codes ",\"id\":") (compact_text id) refl (data_clean id)

answered_so : (a l b q i : List ℕ) → a ++ (l ++ (b ++ (q ++ (i ++ codes "}\n")))) ≡ (a ++ (l ++ (b ++ (q ++ (i ++ codes "}"))))) ++ codes "\n"
answered_so a l b q i = simp append_assoc

answered_line : (id : Option Data) (again : Bool) (at answer : List ℕ) → IsLine (answered_text id again at answer)
answered_line id again at answer =
    let a = again_text again in let l = on_one_line answer in let b = codes ",\"at\":" in let q = compact_text (string at) in let i = id_text id in (
      a ++ (l ++ (b ++ (q ++ (i ++ codes "}")))),
      answered_so a l b q i,
      joined a (l ++ (b ++ (q ++ (i ++ codes "}")))) (again_clean again)
          (joined l (b ++ (q ++ (i ++ codes "}"))) (on_one_clean answer)
          (joined b (q ++ (i ++ codes "}")) refl (joined q (i ++ codes "}") (data_clean (string at)) (joined i (codes "}") (id_clean id) refl)))),
    )

pub IsLine-told_text : (t : Told) → IsLine (told_text t)
IsLine-told_text (welcome role) = text_line (object (member (codes "protocol") (natural protocol) (member (codes "role") (string role) no_members)))
IsLine-told_text (replied id r) = text_line (with_id id (reply_members r))
IsLine-told_text (opened id own columns) = text_line (with_id id (opened_members own columns))
IsLine-told_text (fault n) = text_line (fault_data n)
IsLine-told_text (unasked id why) = text_line (with_id id (why_members why))
IsLine-told_text (changed own rows) = text_line (changed_data own rows)
IsLine-told_text (over own rel cause rows) = text_line (over_data own rel cause rows)
IsLine-told_text settled = text_line (object (member (codes "settled") (boolean true) no_members))
IsLine-told_text (granted rel) = text_line (object (member (codes "granted") (string rel) no_members))
IsLine-told_text (made role line) = made_line role line
IsLine-told_text alive = text_line (object (member (codes "alive") (boolean true) no_members))
IsLine-told_text (placed at) = text_line (object (member (codes "at") (string at) (member (codes "names") (natural most_names) no_members)))
IsLine-told_text (answered id again at answer) = answered_line id again at answer
IsLine-told_text (undecided id n) = text_line (with_id id (member (codes "undecided") (natural n) no_members))
IsLine-told_text (denied id n) = text_line (with_id id (member (codes "error") (natural n) no_members))
