-- Each text of the journal is read back, and nothing else is read.
use Rattle.std.proofs.Common.{◌≡◌, ℕ, Bool, true, false, cond, not, ◌||◌, ◌&&◌, ◌==◌, List, [], ◌∷◌, ◌++◌, drop, length, Option, Some, None, option_map, refl, ap, ◌∙◌, sym, subst, append_assoc}
use Rattle.std.specs.Prelude.{bytes_eq, codes, decimal, option_and_then}
use Rattle.std.specs.List.{list_all}
use Rattle.std.specs.Str.{is_utf8}
use Rattle.std.proofs.lemmas.Bool.{eqb-true, false≢true}
use Rattle.std.proofs.lemmas.Slice.Eq.{bytes_eq-Decides}
use Rattle.hex.specs.Hex.{decode_sized, encode_lower}
use Rattle.json.specs.Print.{escape}
use Rattle.serde_json.specs.Data.{string}
use Rattle.serde_json.specs.Find.{as_number, as_str, as_u64}
use Rattle.serde_json.specs.Written.{compact_text}
use Rattle.iv_rows.specs.Names.{is_further, is_name}
use Rattle.iv_rows.specs.Options.{if_some}
use Rattle.iv_access.specs.Rights.{Name}
use Rattle.iv_machine.specs.Act.{Act}
use Rattle.iv_message.specs.Message.{Message, no_json, too_long, no_object, no_request, request, id_in, message_of}
use Rattle.iv_once.specs.Names.{Named}
use Rattle.iv_request.specs.Reading.{value_of}
use Rattle.iv_request.specs.Request.{passing}
use Rattle.iv_records.specs.Journal.{IsNamed, IsRequest, Request, answer_key, begins_object, has_newline, is_digest, is_shared, name_text, position_text, request_text}
use Rattle.iv_records.specs.Names.{Spelled, behind_count, behind_epoch, behind_name, count_in, is_between, is_count, is_epoch, is_letter, is_random, spelled_in}
use Rattle.iv_records.specs.Cuts.{between, cut_quote, behind, cut_at, decoded}
use Rattle.iv_records.specs.Parsed.{NameParts, Text, of_request, of_name, of_position, act_plain, answer_in, behind_digest, behind_holder, but_last, count_first, digest_of_32, is_answer, is_asked, name_in, name_parts, named_by, named_in, named_of, named_request, position_in, request_by, request_in, request_parts, request_read, string_in, text_in}
use Rattle.iv_records.proofs.CutParts.{same-Some, not_None-Some, HasNo, Passes, same-behind, and-both_true, same-cut_at, cut_at-HasNo, Found-option_and_then, but_last-push, passing-true, HasNo-list_all, Passed-option_and_then, Passes-passing, cut_quote-escape}
use Rattle.iv_records.proofs.Spelling.{count_in-decimal, HasNo-decimal_brace, HasNo-decimal_quote, digest_of_32-encode_lower, HasNo-encode_lower, string_in-escape}

-- ---- requests

further_all : (xs : List ℕ) → is_name xs ≡ true → list_all is_further xs ≡ true
further_all xs h = (and-both_true _ _ (and-both_true _ _ h).1).0

with_its_brace : (line : List ℕ) → begins_object line ≡ true → 123 ∷ drop 1 line ≡ line
with_its_brace [] h = absurd (false≢true h)
with_its_brace (b ∷ line) h = ap (λ z. z ∷ line) (sym (eqb-true b 123 h))

parts_of_request : (role line : List ℕ) → list_all is_further role ≡ true → request_parts (codes "\"as\":\"" ++ (role ++ (codes "\"," ++ drop 1 line))) ≡ Some (role, drop 1 line)
parts_of_request role line n =
    ap (option_and_then (λ (p : List ℕ × List ℕ). option_map {U = List ℕ × List ℕ} (λ text. (p.0, text)) (behind (codes ",") p.1)))
    (cut_at-HasNo 34 role (44 ∷ drop 1 line) (HasNo-list_all is_further 34 refl role n) refl)

pub request_parted : (q : Request) → IsRequest q → request_in (request_text q) ≡ Some (q.role, q.line)
request_parted q w =
    ap (option_and_then named_request) (parts_of_request q.role q.line (further_all q.role w.role))
    ∙ (ap (λ b. cond b (Some (q.role, 123 ∷ drop 1 q.line)) None) w.role ∙ ap (λ z. Some (q.role, z)) (with_its_brace q.line w.brace))

pub request_back : (q : Request) → IsRequest q → request_read (request_text q) ≡ Some q
request_back q w =
    ap (option_and_then (λ (p : Name × List ℕ). request_by p.0 p.1)) (request_parted q w)
    ∙ (ap (λ m. option_and_then (λ act. passing is_asked (record { role = q.role; line = q.line; act = act })) (act_plain m)) w.asks
    ∙ passing-true is_asked q (λ i. w.shared i && not (w.line i)))

record IsPart (text : List ℕ) (p : List ℕ × List ℕ) : Type 0 where
  rest : List ℕ
  name : is_name p.0 ≡ true
  brace : p.1 ≡ 123 ∷ rest
  is : text ≡ codes "\"as\":\"" ++ (p.0 ++ (codes "\"," ++ rest))

is_part : (text : List ℕ) (p : List ℕ × List ℕ) → request_in text ≡ Some p → IsPart text p
is_part text p h =
    let named = Found-option_and_then named_request (request_parts text) p h in
    let q = named.of in
    let first = Found-option_and_then (λ rest. option_and_then (λ (z : List ℕ × List ℕ). option_map {U = List ℕ × List ℕ} (λ t. (z.0, t)) (behind (codes ",") z.1)) (cut_at 34 rest))
    (behind (codes "\"as\":\"") text) q named.there in
    let second = Found-option_and_then (λ (z : List ℕ × List ℕ). option_map {U = List ℕ × List ℕ} (λ t. (z.0, t)) (behind (codes ",") z.1))
    (cut_at 34 first.of) q first.is in
    last q named.is first.of second.of (same-behind (codes "\"as\":\"") text first.of first.there) (same-cut_at 34 first.of second.of second.there) (behind (codes ",") second.of.1) refl second.is
  where
    last : (q : List ℕ × List ℕ) → named_request q ≡ Some p → (rest : List ℕ) (z : List ℕ × List ℕ) → text ≡ codes "\"as\":\"" ++ rest → rest ≡ z.0 ++ 34 ∷ z.1
        → (o : Option (List ℕ)) → behind (codes ",") z.1 ≡ o → option_map {U = List ℕ × List ℕ} (λ t. (z.0, t)) o ≡ Some q → IsPart text p
    last q n rest z a b None e k = absurd (not_None-Some q (sym k))
    last q n rest z a b (Some t) e k = test (is_name q.0) refl n
      where
        pair : (z.0, t) ≡ q
        pair = same-Some {X = List ℕ × List ℕ} (z.0, t) q k

        all : text ≡ codes "\"as\":\"" ++ (q.0 ++ (codes "\"," ++ q.1))
        all = a ∙ (ap (λ y. codes "\"as\":\"" ++ y) (b ∙ ap (λ y. z.0 ++ 34 ∷ y) (same-behind (codes ",") z.1 t e))
            ∙ ap (λ (y : List ℕ × List ℕ). codes "\"as\":\"" ++ (y.0 ++ (codes "\"," ++ y.1))) pair)

        test : (t : Bool) → is_name q.0 ≡ t → cond t (Some (q.0, 123 ∷ q.1)) None ≡ Some p → IsPart text p
        test true m l = let s = same-Some {X = List ℕ × List ℕ} (q.0, 123 ∷ q.1) p l in record {
          rest = q.1;
          name = ap (λ (y : List ℕ × List ℕ). is_name y.0) (sym s) ∙ m;
          brace = ap (λ (y : List ℕ × List ℕ). y.1) (sym s);
          is = all ∙ ap (λ (y : List ℕ × List ℕ). codes "\"as\":\"" ++ (y.0 ++ (codes "\"," ++ q.1))) s;
        }
        test false m l = absurd (not_None-Some p (sym l))

plain_is : (m : Message) (act : Act) → act_plain m ≡ Some act → m ≡ request None act
plain_is no_json act h = absurd (not_None-Some act (sym h))
plain_is too_long act h = absurd (not_None-Some act (sym h))
plain_is no_object act h = absurd (not_None-Some act (sym h))
plain_is (no_request id why) act h = absurd (not_None-Some act (sym h))
plain_is (request None a) act h = ap (request None) (same-Some a act h)
plain_is (request (Some id) a) act h = absurd (not_None-Some act (sym h))

-- it is the text of the request
pub record IsTextOf (text : List ℕ) (q : Request) : Type 0 where
  pub well : IsRequest q
  pub written : text ≡ request_text q

of_act : (text : List ℕ) (q : Request) (p : Name × List ℕ) → IsPart text p → (act : Act) → message_of p.1 ≡ request None act
    → Passes is_asked (record { role = p.0; line = p.1; act = act }) q → IsTextOf text q
of_act text q p x act m t =
    let same : record { role = p.0; line = p.1; act = act } ≡ q = t.same in
    let tests = and-both_true (is_shared q.act) (not (has_newline q.line)) t.passes in
    record {
      well = record {
        role = ap (λ (z : Request). is_name z.role) (sym same) ∙ x.name;
        shared = tests.0;
        brace = ap (λ (z : Request). begins_object z.line) (sym same) ∙ ap begins_object x.brace;
        line = turned (has_newline q.line) tests.1;
        asks = ap (λ (z : Request). message_of z.line) (sym same) ∙ (m ∙ ap (λ (z : Request). request None z.act) same);
      };
      written = x.is ∙ (ap (λ z. codes "\"as\":\"" ++ (p.0 ++ (codes "\"," ++ drop 1 z))) (sym x.brace) ∙ ap request_text same);
    }
  where
    turned : (b : Bool) → not b ≡ true → b ≡ false
    turned true h = absurd (false≢true h)
    turned false h = refl

of_parts : (text : List ℕ) (q : Request) (p : Name × List ℕ) → IsPart text p → request_by p.0 p.1 ≡ Some q → IsTextOf text q
of_parts text q p x k =
    let g = Found-option_and_then (λ act. passing is_asked (record { role = p.0; line = p.1; act = act })) (act_plain (message_of p.1)) q k in
    of_act text q p x g.of (plain_is (message_of p.1) g.of g.there) (Passes-passing is_asked (record { role = p.0; line = p.1; act = g.of }) q g.is)

pub request_sound : (text : List ℕ) (q : Request) → request_read text ≡ Some q → IsTextOf text q
request_sound text q h =
    let f = Found-option_and_then (λ (p : Name × List ℕ). request_by p.0 p.1) (request_in text) q h in
    of_parts text q f.of (is_part text f.of f.there) f.is

-- ---- names

bytes_same : (xs : List ℕ) → bytes_eq xs xs ≡ true
bytes_same xs = (bytes_eq-Decides xs xs).1 refl

-- what follows the place of a name
abbrev behind_place : Named → List ℕ
behind_place e = codes "\"by\":" ++ (compact_text (string e.ask.holder) ++ (codes ",\"digest\":\"" ++ (encode_lower e.ask.digest ++ (answer_key e.refused ++ (e.answer ++ codes "}")))))

abbrev spelling : Named → Spelled
spelling e = record { name = e.ask.name; epoch = e.ask.at.epoch; digits = decimal e.ask.at.count; rest = behind_place e }

abbrev is_epoch_digit : ℕ → Bool
is_epoch_digit b = is_between 48 57 b || is_between 97 102 b

spelled_back : (e : Named) → IsNamed e → spelled_in (name_text e) ≡ Some (spelling e)
spelled_back e w =
    let name = e.ask.name in let epoch = e.ask.at.epoch in let count = decimal e.ask.at.count in
    let last = 44 ∷ behind_place e in
    let letters : list_all is_letter name ≡ true = (and-both_true (length name == 22) (list_all is_letter name) w.name).1 in
    let digits : list_all is_epoch_digit epoch ≡ true = (and-both_true (length epoch == 32) (list_all is_epoch_digit epoch) w.epoch).1 in
    ap (option_and_then behind_name) (cut_at-HasNo 34 name (codes ",\"at\":\"" ++ ((epoch ++ 46 ∷ count) ++ 34 ∷ last)) (HasNo-list_all is_letter 34 refl name letters) refl)
    ∙ (ap (λ z. option_and_then (behind_epoch name) (cut_at 46 z)) (append_assoc epoch (46 ∷ count) (34 ∷ last))
    ∙ (ap (option_and_then (behind_epoch name)) (cut_at-HasNo 46 epoch (count ++ 34 ∷ last) (HasNo-list_all is_epoch_digit 46 refl epoch digits) refl)
    ∙ ap (option_and_then (behind_count name epoch)) (cut_at-HasNo 34 count last (HasNo-decimal_quote e.ask.at.count) refl)))

abbrev parts_written : Bool → (holder digest answer : List ℕ) → NameParts
parts_written refused holder digest answer = record { holder = escape holder; digits = encode_lower digest; refused = refused; answer = answer ++ codes "}" }

digest_back : (refused : Bool) (holder digest answer : List ℕ) → HasNo 34 (encode_lower digest)
    → behind_holder (escape holder, codes ",\"digest\":\"" ++ (encode_lower digest ++ (answer_key refused ++ (answer ++ codes "}")))) ≡ Some (parts_written refused holder digest answer)
digest_back true holder digest answer n = ap (option_and_then (behind_digest (escape holder))) (cut_at-HasNo 34 (encode_lower digest) (codes ",\"refused\":" ++ (answer ++ codes "}")) n refl)
digest_back false holder digest answer n = ap (option_and_then (behind_digest (escape holder))) (cut_at-HasNo 34 (encode_lower digest) (codes ",\"done\":" ++ (answer ++ codes "}")) n refl)

parts_back : (refused : Bool) (holder digest answer : List ℕ) → HasNo 34 (encode_lower digest)
    → name_parts (codes "\"by\":" ++ (compact_text (string holder) ++ (codes ",\"digest\":\"" ++ (encode_lower digest ++ (answer_key refused ++ (answer ++ codes "}"))))))
    ≡ Some (parts_written refused holder digest answer)
parts_back refused holder digest answer n =
    let later = codes ",\"digest\":\"" ++ (encode_lower digest ++ (answer_key refused ++ (answer ++ codes "}"))) in
    ap (λ z. option_and_then behind_holder (cut_quote false z)) (append_assoc (escape holder) (34 ∷ []) later)
    ∙ (ap (option_and_then behind_holder) (cut_quote-escape holder later) ∙ digest_back refused holder digest answer n)

named_back : (e : Named) → IsNamed e → named_in (spelling e) ≡ Some e
named_back e w =
    let answer : answer_in (e.answer ++ 125 ∷ []) ≡ Some e.answer =
    ap (passing is_answer) (but_last-push e.answer 125) ∙ passing-true is_answer e.answer (λ i. not (w.line i)) in
    ap (option_and_then (named_by (spelling e))) (parts_back e.refused e.ask.holder e.ask.digest e.answer (HasNo-encode_lower e.ask.digest w.digest))
    ∙ (λ i. named_of e.refused (passing-true is_random e.ask.name w.name i) (passing-true is_epoch e.ask.at.epoch w.epoch i) (answer i)
    (digest_of_32-encode_lower e.ask.digest w.digest i) (count_in-decimal e.ask.at.count w.count i) (string_in-escape e.ask.holder w.holder i))

pub name_back : (e : Named) → IsNamed e → name_in (name_text e) ≡ Some e
name_back e w =
    ap (option_and_then (passing (λ f. bytes_eq (name_text f) (name_text e)))) (ap (option_and_then named_in) (spelled_back e w) ∙ named_back e w)
    ∙ passing-true (λ f. bytes_eq (name_text f) (name_text e)) e (bytes_same (name_text e))

record AreThere (names epochs answers digests : Option (List ℕ)) (counts : Option ℕ) (holders : Option (List ℕ)) (e : Named) : Type 0 where
  name : names ≡ Some e.ask.name
  epoch : epochs ≡ Some e.ask.at.epoch
  answer : answers ≡ Some e.answer
  digest : digests ≡ Some e.ask.digest
  count : counts ≡ Some e.ask.at.count
  holder : holders ≡ Some e.ask.holder

are_there : (refused : Bool) (name epoch answer digest : Option (List ℕ)) (count : Option ℕ) (holder : Option (List ℕ)) (e : Named)
    → named_of refused name epoch answer digest count holder ≡ Some e → AreThere name epoch answer digest count holder e
are_there refused (Some name) (Some epoch) (Some answer) (Some digest) (Some count) (Some holder) e h =
    let s = same-Some (record { ask = record { holder = holder; name = name; at = record { epoch = epoch; count = count }; digest = digest }; refused = refused; answer = answer }) e h in
    record {
      name = ap (λ (z : Named). Some z.ask.name) s;
      epoch = ap (λ (z : Named). Some z.ask.at.epoch) s;
      answer = ap (λ (z : Named). Some z.answer) s;
      digest = ap (λ (z : Named). Some z.ask.digest) s;
      count = ap (λ (z : Named). Some z.ask.at.count) s;
      holder = ap (λ (z : Named). Some z.ask.holder) s;
    }
are_there refused _ _ _ _ _ _ e h = absurd (not_None-Some e (sym h))

-- it is the text of the name
pub record IsTextOfName (text : List ℕ) (e : Named) : Type 0 where
  pub well : IsNamed e
  pub written : text ≡ name_text e

pub name_sound : (text : List ℕ) (e : Named) → name_in text ≡ Some e → IsTextOfName text e
name_sound text e h =
    let p = Passed-option_and_then (λ f. bytes_eq (name_text f) text) (option_and_then named_in (spelled_in text)) e h in
    let s = Found-option_and_then named_in (spelled_in text) e p.there in
    let q = Found-option_and_then (named_by s.of) (name_parts s.of.rest) e s.is in
    let t = are_there q.of.refused (passing is_random s.of.name) (passing is_epoch s.of.epoch) (answer_in q.of.answer) (digest_of_32 q.of.digits) (count_in s.of.digits) (string_in q.of.holder) e q.is in
    record {
      well = record {
        name = (Passes-passing is_random s.of.name e.ask.name t.name).passes;
        epoch = (Passes-passing is_epoch s.of.epoch e.ask.at.epoch t.epoch).passes;
        count = (Passed-option_and_then is_count (option_and_then as_u64 (option_and_then as_number (option_and_then id_in (value_of s.of.digits)))) e.ask.at.count t.count).passes;
        holder = (Passed-option_and_then is_utf8 (option_and_then as_str (value_of (34 ∷ (q.of.holder ++ 34 ∷ [])))) e.ask.holder t.holder).passes;
        digest = (Passed-option_and_then is_digest (decoded (decode_sized q.of.digits 32)) e.ask.digest t.digest).passes;
        line = turned (has_newline e.answer) (Passes-passing is_answer (but_last q.of.answer) e.answer t.answer).passes;
      };
      written = sym ((bytes_eq-Decides (name_text e) text).0 p.passes);
    }
  where
    turned : (b : Bool) → not b ≡ true → b ≡ false
    turned true k = absurd (false≢true k)
    turned false k = refl

-- ---- positions

pub position_back : (p : ℕ) → is_count p ≡ true → position_in (position_text p) ≡ Some p
position_back p h =
    ap (option_and_then (passing (λ n. bytes_eq (position_text n) (position_text p))))
    (ap (option_and_then count_first) (cut_at-HasNo 125 (decimal p) [] (HasNo-decimal_brace p) refl) ∙ count_in-decimal p h)
    ∙ passing-true (λ n. bytes_eq (position_text n) (position_text p)) p (bytes_same (position_text p))

pub record IsTextOfPosition (text : List ℕ) (p : ℕ) : Type 0 where
  pub well : is_count p ≡ true
  pub written : text ≡ position_text p

pub position_sound : (text : List ℕ) (p : ℕ) → position_in text ≡ Some p → IsTextOfPosition text p
position_sound text p h =
    let t = Passed-option_and_then (λ n. bytes_eq (position_text n) text) (option_and_then count_first (between (codes "\"step\":") 125 text)) p h in
    let d = Found-option_and_then count_first (between (codes "\"step\":") 125 text) p t.there in
    record {
      well = (Passed-option_and_then is_count (option_and_then as_u64 (option_and_then as_number (option_and_then id_in (value_of d.of.0)))) p d.is).passes;
      written = sym ((bytes_eq-Decides (position_text p) text).0 t.passes);
    }

-- ---- texts

abbrev pub Is : List ℕ → Text → Type 0
Is text (of_request q) = IsTextOf text q
Is text (of_name e) = IsTextOfName text e
Is text (of_position p) = IsTextOfPosition text p

pub text_in-request_text : (q : Request) → IsRequest q → text_in (request_text q) ≡ Some (of_request q)
text_in-request_text q w = ap (λ o. if_some o (if_some (name_in (request_text q)) (option_map of_position (position_in (request_text q))) (λ e. Some (of_name e))) (λ z. Some (of_request z))) (request_back q w)

pub text_in-name_text : (e : Named) → IsNamed e → text_in (name_text e) ≡ Some (of_name e)
text_in-name_text e w = ap (λ o. if_some o (option_map of_position (position_in (name_text e))) (λ z. Some (of_name z))) (name_back e w)

pub text_in-position_text : (p : ℕ) → is_count p ≡ true → text_in (position_text p) ≡ Some (of_position p)
text_in-position_text p h = ap (option_map of_position) (position_back p h)

pub Is-text_in : (text : List ℕ) (t : Text) → text_in text ≡ Some t → Is text t
Is-text_in text t h = by_request (request_read text) refl h
  where
    by_position : (o : Option ℕ) → position_in text ≡ o → option_map of_position o ≡ Some t → Is text t
    by_position None e k = absurd (not_None-Some t (sym k))
    by_position (Some p) e k = subst (Is text) (same-Some (of_position p) t k) (position_sound text p e)

    by_name : (o : Option Named) → name_in text ≡ o → if_some o (option_map of_position (position_in text)) (λ z. Some (of_name z)) ≡ Some t → Is text t
    by_name None e k = by_position (position_in text) refl k
    by_name (Some n) e k = subst (Is text) (same-Some (of_name n) t k) (name_sound text n e)

    by_request : (o : Option Request) → request_read text ≡ o
        → if_some o (if_some (name_in text) (option_map of_position (position_in text)) (λ e. Some (of_name e))) (λ z. Some (of_request z)) ≡ Some t → Is text t
    by_request None e k = by_name (name_in text) refl k
    by_request (Some q) e k = subst (Is text) (same-Some (of_request q) t k) (request_sound text q e)
