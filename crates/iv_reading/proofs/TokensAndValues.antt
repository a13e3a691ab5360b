-- What is read token by token is what the reading of the whole value gives.
use Rattle.std.proofs.Common.{◌≡◌, ◌∙◌, ◌∷◌, ◌++◌, ◌+◌, ◌-◌, ◌<◌, ◌≤◌, ℕ, Bool, true, false, cond, ◌&&◌, List, [], length, Option, Some, None, option_map, option_and_then, refl, sym, ap, subst, arith, append-nil}
use Rattle.std.specs.Prelude.{is_some, map, IfSome}
use Rattle.std.proofs.lemmas.List.{map-append}
use Rattle.json.specs.Token.{Token}
use Rattle.json.specs.Json.{Json, Items, no_items, item, Members, no_members, member, parse_map, after_end_array, read_key, items, members, value, value_with}
use Rattle.json.specs.Json as json
use Rattle.json.specs.Reads.{Yields}
use Rattle.json.specs.declared.token.Token.{Token as ReadToken}
use Rattle.json.proofs.Grammar.{value_is, value-begin_array, value-begin_object, read_key-shorter, items_end, items_more, members_end, members_more}
use Rattle.serde_json.specs.Data.{Num, Data, put}
use Rattle.serde_json.specs.Data as serde_json
use Rattle.serde_json.specs.Find.{as_i64, as_u64}
use Rattle.iv_rows.specs.Cell.{num, text}
use Rattle.iv_rows.specs.Texts.{is_well_cell}
use Rattle.iv_rows.specs.View.{cell_of as view}
use Rattle.iv_rows.specs.declared.value.Value.{Value}
use Rattle.serde_json.specs.Read.{number_of, read}
use Rattle.json.specs.Lex.{tokens}
use Rattle.iv_request.specs.Documents.{number_or_null, data_of, items_of, members_of, fits, items_fit, members_fit}
use Rattle.iv_machine.specs.Act.{Command}
use Rattle.iv_request.specs.Request.{passing, each, list_of, cell_of, request}
use Rattle.iv_request.specs.Reading.{asked, reading_by}
use Rattle.iv_reading.specs.Pulled.{IsNext, Pulls, Adds, Closes, natural_by, items_after, HasRead, members_after, HasFound}
use Rattle.iv_request.proofs.Each.{behind-none, behind-cons}
use Rattle.iv_request.proofs.Keys.{both_true}
use Rattle.iv_request.proofs.BorrowedValues.{read-fits}
use Rattle.iv_reading.proofs.Lines.{reading_by-request}

-- ---- a value

pub IsNext-le : (a b : ℕ) (ts : List Token) (j : Json) (rest : List Token) → a ≤ b → IsNext a ts j rest → IsNext b ts j rest
IsNext-le a b ts j rest le h = record { read = λ depth d. h.read depth (omega arith); fit = h.fit }

pub pulls_deeper : {X : Type 0} (a b : ℕ) (f : Data → Option X) (ts : List Token) (x : X) (rest : List Token) → a ≤ b → Pulls a f ts x rest → Pulls b f ts x rest
pulls_deeper a b f ts x rest le h = (h.0, IsNext-le a b ts h.0 rest le h.1, h.2)

-- where an array ends no value begins
no_value_at : (A : List Token → Option (Items × List Token)) (O : List Token → Option (Members × List Token)) (ts rest : List Token) (j : Json) → value_with A O ts ≡ Some (j, rest) → after_end_array ts ≡ None
no_value_at A O [] rest j e = refl
no_value_at A O (Token.begin_object ∷ ts) rest j e = refl
no_value_at A O (Token.end_object ∷ ts) rest j e = refl
no_value_at A O (Token.begin_array ∷ ts) rest j e = refl
no_value_at A O (Token.end_array ∷ ts) rest j e = cc
no_value_at A O (Token.key s ∷ ts) rest j e = refl
no_value_at A O (Token.string s ∷ ts) rest j e = refl
no_value_at A O (Token.number s ∷ ts) rest j e = refl
no_value_at A O (Token.boolean b ∷ ts) rest j e = refl
no_value_at A O (Token.null ∷ ts) rest j e = refl
no_value_at A O (Token.bad ∷ ts) rest j e = refl

pub no_end : (depth : ℕ) (ts rest : List Token) (j : Json) → value depth ts ≡ Some (j, rest) → after_end_array ts ≡ None
no_end depth ts rest j h = no_value_at _ _ ts rest j (sym (value_is depth ts) ∙ h)

-- ---- the items of an array

one_item_after : (js : List Json) (j : Json) (more : Items) → items_after (js ++ j ∷ []) more ≡ items_after js (item j more)
one_item_after [] j more = refl
one_item_after (i ∷ js) j more = ap (item i) (one_item_after js j more)

after_one_item : (js : List Json) (j : Json) (r : Option (Items × List Token)) → parse_map (items_after js) (parse_map (item j) r) ≡ parse_map (items_after (js ++ j ∷ [])) r
after_one_item js j None = refl
after_one_item js j (Some p) = ap (λ js. Some (js, p.1)) (sym (one_item_after js j p.0))

pub nothing_before : {A : Type 0} (r : Option (A × List Token)) → r ≡ parse_map (λ a. a) r
nothing_before None = refl
nothing_before (Some p) = refl

pub HasRead-none : {X : Type 0} (levels : ℕ) (f : Data → Option X) (ts : List Token) → HasRead levels f ts [] ts
HasRead-none levels f ts = record {
  turns = length ts;
  done = [];
  enough = omega arith;
  read = λ depth d. nothing_before (items (value depth) (length ts) ts);
  fit = λ more. refl;
  made = λ more. behind-none (each f (items_of more));
}

made_one : {X : Type 0} (f : Data → Option X) (xs : List X) (x : X) (d : Data) (rest : Option (List X)) → f d ≡ Some x
    → option_map (λ ys. xs ++ ys) (option_and_then (λ x. option_map (λ ys. x ∷ ys) rest) (f d)) ≡ option_map (λ ys. (xs ++ x ∷ []) ++ ys) rest
made_one f xs x d rest e = ap (λ o. option_map (λ ys. xs ++ ys) (option_and_then (λ x. option_map (λ ys. x ∷ ys) rest) o)) e ∙ behind-cons xs x rest

pub one_read : {X : Type 0} (levels : ℕ) (f : Data → Option X) (first : List Token) (xs : List X) (ts : List Token) (x : X) (rest : List Token) → length rest < length ts
    → HasRead levels f first xs ts → Pulls levels f ts x rest → HasRead levels f first (xs ++ x ∷ []) rest
one_read levels f first xs ts x rest less h p = record {
  turns = h.turns - 1;
  done = h.done ++ p.0 ∷ [];
  enough = omega (arith, h.enough);
  read = λ depth d.
      let here = p.1.read depth d in
      h.read depth d
      ∙ ap (parse_map (items_after h.done)) (items_more (value depth) h.turns ts rest p.0 (omega (arith, h.enough)) (no_end depth ts rest p.0 here) here)
      ∙ after_one_item h.done p.0 (items (value depth) (h.turns - 1) rest);
  fit = λ more. ap items_fit (one_item_after h.done p.0 more) ∙ h.fit (item p.0 more) ∙ ap (λ b. b && items_fit more) p.1.fit;
  made = λ more. ap (λ js. each f (items_of js)) (one_item_after h.done p.0 more) ∙ h.made (item p.0 more) ∙ made_one f xs x (data_of p.0) (each f (items_of more)) p.2;
}

-- a value more is read into a list
pub HasRead-push : {X : Type 0} (levels : ℕ) (f : Data → Option X) (first ts us rest : List Token) (xs ys : List X) (x : X) → us ≡ ts → length rest < length us → ys ≡ xs ++ x ∷ []
    → HasRead levels f first xs ts → Pulls levels f us x rest → HasRead levels f first ys rest
HasRead-push levels f first ts us rest xs ys x e less pushed h p =
    subst (λ zs. HasRead levels f first zs rest) (sym pushed) (one_read levels f first xs us x rest less (subst (λ vs. HasRead levels f first xs vs) (sym e) h) p)

pub HasRead-push_map : {S X : Type 0} (levels : ℕ) (f : Data → Option X) (view : S → X) (first ts us rest : List Token) (vs ws : List S) (v : S) → us ≡ ts → length rest < length us → ws ≡ vs ++ v ∷ []
    → HasRead levels f first (map view vs) ts → Pulls levels f us (view v) rest → HasRead levels f first (map view ws) rest
HasRead-push_map levels f view first ts us rest vs ws v e less pushed h p =
    HasRead-push levels f first ts us rest (map view vs) (map view ws) (view v) e less (ap (map view) pushed ∙ map-append view vs (v ∷ [])) h p

behind_all : {X : Type 0} (xs : List X) → option_map (λ ys. xs ++ ys) (Some []) ≡ Some xs
behind_all xs = ap Some (append-nil xs)

-- the array is Pulls-Closes
pub Pulls-list_of : {X : Type 0} (levels : ℕ) (f : Data → Option X) (first : List Token) (xs : List X) (ts rest : List Token) → HasRead levels f first xs ts → after_end_array ts ≡ Some rest
    → Pulls (levels + 1) (list_of f) (Token.begin_array ∷ first) xs rest
Pulls-list_of levels f first xs ts rest h e =
    let js = items_after h.done no_items in
    let inner : (depth : ℕ) → levels ≤ depth → items (value depth) (length first) first ≡ Some (js, rest) =
    λ depth d. h.read depth d ∙ ap (parse_map (items_after h.done)) (items_end (value depth) h.turns ts rest h.enough e) in (
      json.array js,
      record {
        read = λ depth d. value-begin_array depth first (omega arith) ∙ ap (parse_map json.array) (inner (depth - 1) (omega arith));
        fit = h.fit no_items;
      },
      h.made no_items ∙ behind_all xs,
    )

-- an array of two
pub Pulls-two : {X Y : Type 0} (levels : ℕ) (f : Data → Option X) (g : Data → Option Y) (first ts us rest : List Token) (x y : X) (z : Y) → length ts < length first → length us < length ts
    → Pulls levels f first x ts → Pulls levels f ts y us → after_end_array us ≡ Some rest
    → ((a b : Data) → f a ≡ Some x → f b ≡ Some y → g (serde_json.array (serde_json.item a (serde_json.item b serde_json.no_items))) ≡ Some z)
    → Pulls (levels + 1) g (Token.begin_array ∷ first) z rest
Pulls-two levels f g first ts us rest x y z less lesser p q e makes =
    let js = item p.0 (item q.0 no_items) in
    let inner : (depth : ℕ) → levels ≤ depth → items (value depth) (length first) first ≡ Some (js, rest) =
    λ depth d.
    let here = p.1.read depth d in
    let there = q.1.read depth d in
    items_more (value depth) (length first) first ts p.0 (omega arith) (no_end depth first ts p.0 here) here
    ∙ ap (parse_map (item p.0))
    (items_more (value depth) (length first - 1) ts us q.0 (omega arith) (no_end depth ts us q.0 there) there
    ∙ ap (parse_map (item q.0)) (items_end (value depth) (length first - 1 - 1) us rest (omega arith) e)) in (
      json.array js,
      record {
        read = λ depth d. value-begin_array depth first (omega arith) ∙ ap (parse_map json.array) (inner (depth - 1) (omega arith));
        fit = both_true (fits p.0) (fits q.0 && true) p.1.fit (both_true (fits q.0) true q.1.fit refl);
      },
      makes (data_of p.0) (data_of q.0) p.2 q.2,
    )

-- ---- the members of an object

one_member_after : (ms : List (List ℕ × Json)) (m : List ℕ × Json) (more : Members) → members_after (ms ++ m ∷ []) more ≡ members_after ms (member m.0 m.1 more)
one_member_after [] m more = refl
one_member_after (n ∷ ms) m more = ap (member n.0 n.1) (one_member_after ms m more)

after_one_member : (ms : List (List ℕ × Json)) (m : List ℕ × Json) (r : Option (Members × List Token)) → parse_map (members_after ms) (parse_map (member m.0 m.1) r) ≡ parse_map (members_after (ms ++ m ∷ [])) r
after_one_member ms m None = refl
after_one_member ms m (Some p) = ap (λ ms. Some (ms, p.1)) (sym (one_member_after ms m p.0))

pub none_found : (levels : ℕ) (ts : List Token) → HasFound levels ts serde_json.no_members ts
none_found levels ts = record {
  turns = length ts;
  done = [];
  enough = omega arith;
  read = λ depth d. nothing_before (members (value depth) (length ts) ts);
  fit = λ more. refl;
  made = λ more. refl;
}

pub one_found : (levels : ℕ) (first : List Token) (found : serde_json.Members) (ts s rest : List Token) (k : List ℕ) (j : Json) → length rest < length s → HasFound levels first found ts
    → read_key ts ≡ Some (Some k, s) → IsNext levels s j rest → HasFound levels first (put k (data_of j) found) rest
one_found levels first found ts s rest k j less h e p =
    let lesser = read_key-shorter ts (Some k) s e in
    record {
      turns = h.turns - 1;
      done = h.done ++ (k, j) ∷ [];
      enough = omega (arith, h.enough);
      read = λ depth d.
          h.read depth d
          ∙ ap (parse_map (members_after h.done)) (members_more (value depth) h.turns k ts s rest j (omega (arith, h.enough)) e (p.read depth d))
          ∙ after_one_member h.done (k, j) (members (value depth) (h.turns - 1) rest);
      fit = λ more. ap members_fit (one_member_after h.done (k, j) more) ∙ h.fit (member k j more) ∙ ap (λ b. b && members_fit more) p.fit;
      made = λ more. ap (λ ms. members_of ms serde_json.no_members) (one_member_after h.done (k, j) more) ∙ h.made (member k j more);
    }

-- the object is Pulls-Closes
pub all_found : {X : Type 0} (levels : ℕ) (f : Data → Option X) (x : X) (first : List Token) (found : serde_json.Members) (ts rest : List Token) → HasFound levels first found ts → read_key ts ≡ Some (None, rest)
    → f (serde_json.object found) ≡ Some x → Pulls (levels + 1) f (Token.begin_object ∷ first) x rest
all_found levels f x first found ts rest h e made =
    let ms = members_after h.done no_members in
    let inner : (depth : ℕ) → levels ≤ depth → members (value depth) (length first) first ≡ Some (ms, rest) =
    λ depth d. h.read depth d ∙ ap (parse_map (members_after h.done)) (members_end (value depth) h.turns ts rest h.enough e) in (
      json.object ms,
      record {
        read = λ depth d. value-begin_object depth first (omega arith) ∙ ap (parse_map json.object) (inner (depth - 1) (omega arith));
        fit = h.fit no_members;
      },
      ap (λ ms. f (serde_json.object ms)) (h.made no_members) ∙ made,
    )

-- ---- what is no array and no object

pub pulls_number : {X : Type 0} (f : Data → Option X) (s : List ℕ) (ts : List Token) (n : Num) (x : X) → number_of s ≡ Some n → f (serde_json.number n) ≡ Some x → Pulls 0 f (Token.number s ∷ ts) x ts
pulls_number f s ts n x e made = (
  json.number s,
  record {
    read = λ depth d. value_is depth (Token.number s ∷ ts);
    fit = ap is_some e;
  },
  ap (λ m. f (number_or_null m)) e ∙ made,
)

pub Pulls-string : {X : Type 0} (f : Data → Option X) (s : List ℕ) (ts : List Token) (x : X) → f (serde_json.string s) ≡ Some x → Pulls 0 f (Token.string s ∷ ts) x ts
Pulls-string f s ts x made = (json.string s, record { read = λ depth d. value_is depth (Token.string s ∷ ts); fit = refl }, made)

pub Pulls-boolean : {X : Type 0} (f : Data → Option X) (b : Bool) (ts : List Token) (x : X) → f (serde_json.boolean b) ≡ Some x → Pulls 0 f (Token.boolean b ∷ ts) x ts
Pulls-boolean f b ts x made = (json.boolean b, record { read = λ depth d. value_is depth (Token.boolean b ∷ ts); fit = refl }, made)

-- where tokens begin is known by an equation
pub Pulls-same_tokens : {X : Type 0} (levels : ℕ) (f : Data → Option X) (ts us : List Token) (x : X) (rest : List Token) → ts ≡ us → Pulls levels f us x rest → Pulls levels f ts x rest
Pulls-same_tokens levels f ts us x rest e p = subst (λ vs. Pulls levels f vs x rest) (sym e) p

-- x passes
pub Pulls-passing : {X : Type 0} (levels : ℕ) (f : Data → Option X) (t : X → Bool) (ts : List Token) (x : X) (rest : List Token) → Pulls levels f ts x rest → t x ≡ true → Pulls levels (λ d. option_and_then (passing t) (f d)) ts x rest
Pulls-passing levels f t ts x rest p e = (p.0, p.1, ap (option_and_then (passing t)) p.2 ∙ ap (λ b. cond b (Some x) None) e)

pub Pulls-natural_by : (s : List ℕ) (r : Option ℕ) (ts us : List Token) → us ≡ Token.number s ∷ ts → r ≡ option_and_then as_u64 (number_of s) → IfSome r (λ n. Pulls 0 natural_by us n ts)
Pulls-natural_by s None ts us e h = tt
Pulls-natural_by s (Some n) ts us e h = by_number (number_of s) refl (sym h)
  where
    by_number : (o : Option Num) → number_of s ≡ o → option_and_then as_u64 o ≡ Some n → Pulls 0 natural_by us n ts
    by_number None a b = cc
    by_number (Some m) a b = Pulls-same_tokens 0 natural_by us (Token.number s ∷ ts) n ts e (pulls_number natural_by s ts m n a b)

pub Pulls-cell_of_number : (s : List ℕ) (r : Option Value) (ts us : List Token) → us ≡ Token.number s ∷ ts → IfSome r (λ v. option_map num (option_and_then as_i64 (number_of s)) ≡ Some (view v)) → IfSome r (λ v. Pulls 0 cell_of us (view v) ts)
Pulls-cell_of_number s None ts us e h = tt
Pulls-cell_of_number s (Some v) ts us e h = by_number (number_of s) refl h
  where
    by_number : (o : Option Num) → number_of s ≡ o → option_map num (option_and_then as_i64 o) ≡ Some (view v) → Pulls 0 cell_of us (view v) ts
    by_number None a b = cc
    by_number (Some m) a b = Pulls-same_tokens 0 cell_of us (Token.number s ∷ ts) (view v) ts e (pulls_number cell_of s ts m (view v) a b)

pub Pulls-cell_of_text : (s : List ℕ) (r : Option Value) (ts us : List Token) → us ≡ Token.string s ∷ ts → option_map view r ≡ passing is_well_cell (text s) → IfSome r (λ v. Pulls 0 cell_of us (view v) ts)
Pulls-cell_of_text s None ts us e h = tt
Pulls-cell_of_text s (Some v) ts us e h = Pulls-same_tokens 0 cell_of us (Token.string s ∷ ts) (view v) ts e (Pulls-string cell_of s ts (view v) (sym h))

-- from `first` on members were read that are P, and at `ts` more may come
abbrev pub Reaches : ℕ → (serde_json.Members → Type 0) → List Token → List Token → Type 0
Reaches levels P first ts = (found : serde_json.Members) × HasFound levels first found ts × P found

pub reach_none : (levels : ℕ) (P : serde_json.Members → Type 0) (ts : List Token) → P serde_json.no_members → Reaches levels P ts ts
reach_none levels P ts h = (serde_json.no_members, none_found levels ts, h)

pub Reaches-Adds : (levels : ℕ) (P Q : serde_json.Members → Type 0) (first ts s rest : List Token) (k : List ℕ) → length rest < length s → read_key ts ≡ Some (Some k, s)
    → ((found : serde_json.Members) → P found → Adds levels k found Q s rest) → Reaches levels P first ts → Reaches levels Q first rest
Reaches-Adds levels P Q first ts s rest k less e adds h =
    let a = adds h.0 h.2 in
    (put k (data_of a.0) h.0, one_found levels first h.0 ts s rest k a.0 less h.1 e a.1, a.2)

pub reach_end : (levels : ℕ) (P : serde_json.Members → Type 0) (first ts rest : List Token) → read_key ts ≡ Some (None, rest) → Reaches levels P first ts → Closes levels P first rest
reach_end levels P first ts rest e h = (h.0, ts, h.1, e, h.2)

-- ---- what an object makes

pub Pulls-Closes : {X : Type 0} (levels : ℕ) (f : Data → Option X) (P : serde_json.Members → Type 0) (r : Option X) (us ts rest : List Token) → us ≡ Token.begin_object ∷ ts → Closes levels P ts rest
    → IfSome r (λ x. (found : serde_json.Members) → P found → f (serde_json.object found) ≡ Some x) → IfSome r (λ x. Pulls (levels + 1) f us x rest)
Pulls-Closes levels f P None us ts rest e c makes = tt
Pulls-Closes levels f P (Some x) us ts rest e c makes =
    Pulls-same_tokens (levels + 1) f us (Token.begin_object ∷ ts) x rest e (all_found levels f x ts c.0 c.1 rest c.2 c.3 (makes c.0 c.4))

-- ---- a whole text

-- its value is next, and nothing is behind it
pub document_read : {X : Type 0} (levels : ℕ) (f : Data → Option X) (line : List ℕ) (ts : List Token) (x : X) → levels ≤ 127 → ts ≡ tokens line → Pulls levels f ts x [] → option_and_then f (read line) ≡ Some x
document_read levels f line ts x le e p = ap (option_and_then f) (sym (read-fits line ts p.0 (p.1.read 127 le) e p.1.fit)) ∙ p.2

-- no token was next
pub no_tokens-Yields : (r : Option ReadToken) (ts us : List Token) → is_some r ≡ false → Yields ts r us → ts ≡ []
no_tokens-Yields None ts us e h = h.0
no_tokens-Yields (Some t) ts us e h = cc

-- the command of a line
pub reading_by-Closes : {S : Type 0} (view : S → Command) (P : serde_json.Members → Type 0) (r : Option S) (line : List ℕ) (ts us rest : List Token) → ts ≡ tokens line → ts ≡ Token.begin_object ∷ us → Closes 4 P us rest → rest ≡ []
    → IfSome r (λ c. (found : serde_json.Members) → P found → request (serde_json.object found) ≡ Some (view c)) → IfSome r (λ c. reading_by (read line) ≡ asked (view c))
reading_by-Closes view P None line ts us rest e b c none makes = tt
reading_by-Closes view P (Some x) line ts us rest e b c none makes =
    reading_by-request (read line) (view x)
    (document_read 5 request line ts (view x) (omega arith) e (subst (λ vs. Pulls 5 request ts (view x) vs) none (Pulls-Closes 4 request P (Some (view x)) ts us rest b c makes)))
