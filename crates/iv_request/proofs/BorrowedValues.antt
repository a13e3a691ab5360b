-- The data of a JSON value whose texts are borrowed is that which serde_json reads, and so are its parts.
use Rattle.std.proofs.Common.{◌≡◌, ◌∙◌, ℕ, List, [], ◌∷◌, Bool, true, false, ◌&&◌, cond, Option, Some, None, option_map, option_and_then, bytes_eq, refl, sym, ap, subst}
use Rattle.std.specs.Borrow.{Bor}
use Rattle.std.specs.Prelude.{is_some, length, zero, suc, Vec}
use Rattle.std.specs.Vec.{vec_len}
use Rattle.std.specs.declared.alloc.Global.{Global}
use Rattle.std.proofs.lemmas.Slice.Eq.{bytes_eq-Decides}
use Rattle.json.specs.Token.{Token}
use Rattle.json.specs.Lex.{tokens}
use Rattle.json.specs.Json as json
use Rattle.json.specs.Json.{if_last, value}
use Rattle.json.specs.Find as find
use Rattle.serde_json.specs.Data.{Num, Data, number, array, object, item, Members, no_members, put}
use Rattle.json.specs.Value.{value_view}
use Rattle.json.specs.declared.value.Value.{Value}
use Rattle.serde_json.specs.Events.{items_len}
use Rattle.serde_json.specs.Find.{at, get, get_item, get_member}
use Rattle.serde_json.specs.Read.{number_of, of_json, of_items, of_members, read}
use Rattle.serde_json.proofs.Views.{get_member-put, get_member-put_other}
use Rattle.iv_request.specs.Documents.{value_data, items_data, number_or_null, data_of, items_of, members_of, fits, items_fit, members_fit}

mapped : {A B : Type 0} (f : A → B) (b : Bool) (x : A) → option_map f (cond b (Some x) None) ≡ cond b (Some (f x)) None
mapped f true x = refl
mapped f false x = refl

both : {A B : Type 0} (f : A → Option B) (b rest : Bool) (x : A) (y : B) → f x ≡ cond rest (Some y) None → option_and_then f (cond b (Some x) None) ≡ cond (b && rest) (Some y) None
both f true rest x y h = h
both f false rest x y h = refl

number_is : (n : Option Num) → option_map number n ≡ cond (is_some n) (Some (number_or_null n)) None
number_is None = refl
number_is (Some n) = refl

mutual
  pub of_json_is : (j : json.Json) → of_json j ≡ cond (fits j) (Some (data_of j)) None
  of_json_is json.null = refl
  of_json_is (json.boolean b) = refl
  of_json_is (json.number s) = number_is (number_of s)
  of_json_is (json.string s) = refl
  of_json_is (json.array js) = ap (option_map array) (of_items_is js) ∙ mapped array (items_fit js) (items_of js)
  of_json_is (json.object ms) = ap (option_map object) (of_members_is ms no_members) ∙ mapped object (members_fit ms) (members_of ms no_members)

  of_items_is : (js : json.Items) → of_items js ≡ cond (items_fit js) (Some (items_of js)) None
  of_items_is json.no_items = refl
  of_items_is (json.item j js) =
      ap (option_and_then (λ d. option_map (item d) (of_items js))) (of_json_is j)
      ∙ both (λ d. option_map (item d) (of_items js)) (fits j) (items_fit js) (data_of j) (item (data_of j) (items_of js))
      (ap (option_map (item (data_of j))) (of_items_is js) ∙ mapped (item (data_of j)) (items_fit js) (items_of js))

  of_members_is : (ms : json.Members) (found : Members) → of_members ms found ≡ cond (members_fit ms) (Some (members_of ms found)) None
  of_members_is json.no_members found = refl
  of_members_is (json.member k j ms) found =
      ap (option_and_then (λ d. of_members ms (put k d found))) (of_json_is j)
      ∙ both (λ d. of_members ms (put k d found)) (fits j) (members_fit ms) (data_of j) (members_of ms (put k (data_of j) found)) (of_members_is ms (put k (data_of j) found))

-- ---- a text that is read

abbrev whole : Option (json.Json × List Token) → Option Data
whole o = option_and_then of_json (option_and_then (λ p. if_last p.0 p.1) o)

pub read-fits : (text : List ℕ) (ts : List Token) (j : json.Json) → value 127 ts ≡ Some (j, []) → ts ≡ tokens text → fits j ≡ true → Some (data_of j) ≡ read text
read-fits text ts j h e f = sym (ap (λ us. whole (value 127 us)) (sym e) ∙ ap whole h ∙ of_json_is j ∙ ap (λ b. cond b (Some (data_of j)) None) f)

pub read-unfit : (text : List ℕ) (ts : List Token) (j : json.Json) → value 127 ts ≡ Some (j, []) → ts ≡ tokens text → fits j ≡ false → None ≡ read text
read-unfit text ts j h e f = sym (ap (λ us. whole (value 127 us)) (sym e) ∙ ap whole h ∙ of_json_is j ∙ ap (λ b. cond b (Some (data_of j)) None) f)

pub read-tokens_left : (text : List ℕ) (ts : List Token) (j : json.Json) (t : Token) (us : List Token) → value 127 ts ≡ Some (j, t ∷ us) → ts ≡ tokens text → None ≡ read text
read-tokens_left text ts j t us h e = sym (ap (λ us. whole (value 127 us)) (sym e) ∙ ap whole h)

-- ---- the value at a key

pub get_member-of_put : (q k : List ℕ) (d : Data) (ms : Members) (b : Bool) → bytes_eq k q ≡ b → get_member q (put k d ms) ≡ cond b (Some d) (get_member q ms)
get_member-of_put q k d ms true h = subst (λ x. get_member x (put k d ms) ≡ Some d) ((bytes_eq-Decides k q).0 h) (get_member-put k d ms)
get_member-of_put q k d ms false h = get_member-put_other q k d ms (λ e. apart (sym ((bytes_eq-Decides k q).1 (sym e)) ∙ h))
  where
    apart : true ≡ false → ⊥
    apart x = cc

-- the one found later, or the one found before
abbrev later : Option Data → Option Data → Option Data
later None before = before
later (Some d) before = Some d

later_one : (o : Option json.Json) (b : Bool) (j : json.Json) (before : Option Data)
    → later (option_map data_of o) (cond b (Some (data_of j)) before) ≡ later (option_map data_of (find.later_or o (cond b (Some j) None))) before
later_one None true j before = refl
later_one None false j before = refl
later_one (Some i) b j before = refl

member_is : (q : List ℕ) (ms : json.Members) (found : Members) → get_member q (members_of ms found) ≡ later (option_map data_of (find.get_member q ms)) (get_member q found)
member_is q json.no_members found = refl
member_is q (json.member k j ms) found =
    member_is q ms (put k (data_of j) found)
    ∙ ap (later (option_map data_of (find.get_member q ms))) (get_member-of_put q k (data_of j) found (bytes_eq k q) refl)
    ∙ later_one (find.get_member q ms) (bytes_eq k q) j (get_member q found)

later_none : (o : Option Data) → later o None ≡ o
later_none None = refl
later_none (Some d) = refl

number_has_none : (q : List ℕ) (n : Option Num) → get q (number_or_null n) ≡ None
number_has_none q None = refl
number_has_none q (Some n) = refl

pub get_is : (q : List ℕ) (j : json.Json) → get q (data_of j) ≡ option_map data_of (find.get q j)
get_is q json.null = refl
get_is q (json.boolean b) = refl
get_is q (json.number s) = number_has_none q (number_of s)
get_is q (json.string s) = refl
get_is q (json.array js) = refl
get_is q (json.object ms) = member_is q ms no_members ∙ later_none (option_map data_of (find.get_member q ms))

item_is : (n : ℕ) (js : json.Items) → get_item n (items_of js) ≡ option_map data_of (find.get_item n js)
item_is n json.no_items = refl
item_is zero (json.item j js) = refl
item_is (suc n) (json.item j js) = item_is n js

number_has_no_item : (n : ℕ) (x : Option Num) → at n (number_or_null x) ≡ None
number_has_no_item n None = refl
number_has_no_item n (Some x) = refl

at_is : (n : ℕ) (j : json.Json) → at n (data_of j) ≡ option_map data_of (find.at n j)
at_is n json.null = refl
at_is n (json.boolean b) = refl
at_is n (json.number s) = number_has_no_item n (number_of s)
at_is n (json.string s) = refl
at_is n (json.array js) = item_is n js
at_is n (json.object ms) = refl

mapped_twice : (o : Option (Bor (Value Global))) → option_map (λ v. value_data v.now) o ≡ option_map data_of (option_map (λ v. value_view v.now) o)
mapped_twice None = refl
mapped_twice (Some v) = refl

pub get-value_data : (r : Option (Bor (Value Global))) (q : List ℕ) (j : json.Json) → option_map (λ v. value_view v.now) r ≡ find.get q j → option_map (λ v. value_data v.now) r ≡ get q (data_of j)
get-value_data r q j h = mapped_twice r ∙ ap (option_map data_of) h ∙ sym (get_is q j)

pub at-value_data : (r : Option (Bor (Value Global))) (n : ℕ) (j : json.Json) → option_map (λ v. value_view v.now) r ≡ find.at n j → option_map (λ v. value_data v.now) r ≡ at n (data_of j)
at-value_data r n j h = mapped_twice r ∙ ap (option_map data_of) h ∙ sym (at_is n j)

-- ---- a list

items_len_is : (vs : List (Value Global)) → items_len (items_data vs) ≡ length vs
items_len_is [] = refl
items_len_is (v ∷ vs) = ap suc (items_len_is vs)

pub items_len-vec_len : (v : Vec (Value Global) Global) (n : ℕ) → n ≡ vec_len v → n ≡ items_len (items_data v.items)
items_len-vec_len v n h = h ∙ v.ok.0 ∙ sym (items_len_is v.items)
