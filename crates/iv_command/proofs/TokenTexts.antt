-- Tokens that a writer is given one after another, and texts that are appended.
use Rattle.std.proofs.Common.{◌≡◌, ℕ, ◌+◌, ◌<◌, ◌≤◌, List, [], ◌∷◌, ◌++◌, map, take, get_or, length, ap, ◌∙◌, sym, refl, add-one, append-nil, append_assoc}
use Rattle.std.specs.Fmt.{signed_decimal}
use Rattle.std.specs.Prelude.{ℤ, pos, negsuc, flat_map, Result, Ok, Err, OnOk}
use Rattle.std.proofs.lemmas.Grind.{flat_map-append}
use Rattle.std.proofs.lemmas.List.{take_all}
use Rattle.std.proofs.Math.Seq.{take-suc}
use Rattle.json.specs.Token.{Token, begin_array, end_array}
use Rattle.json.specs.Print.{print}
use Rattle.json.specs.Tree.{json_tokens, items_tokens}
use Rattle.json.specs.Written.{Written, Writes}
use Rattle.serde_json.specs.Data.{Data, array}
use Rattle.serde_json.specs.Find.{of_integer}
use Rattle.serde_json.specs.View.{items_of}
use Rattle.serde_json.specs.Written.{number_text, outline, items_outline, compact_text}
use Rattle.serde_json.proofs.Texts.{print-outline}
use Rattle.iv_command.specs.Tokens.{Adds, AddsValue}

pub map-map : {X Y Z : Type 0} (g : Y → Z) (f : X → Y) (xs : List X) → map g (map f xs) ≡ map (λ x. g (f x)) xs
map-map g f [] = refl
map-map g f (x ∷ xs) = ap (λ v. g (f x) ∷ v) (map-map g f xs)

-- the next text is made and appended
pub flat_map-take_next : {X Z : Type 0} (f : X → List Z) (xs : List X) (sofar part : List Z) (i : ℕ) (x : X) → sofar ≡ flat_map f (take i xs) → i < length xs → x ≡ get_or xs i x → part ≡ f x → sofar ++ part ≡ flat_map f (take (i + 1) xs)
flat_map-take_next f xs sofar part i x h l e k =
    ap (λ t. t ++ part) h ∙ (ap (λ t. flat_map f (take i xs) ++ t) (k ∙ (ap f e ∙ sym (append-nil (f (get_or xs i x)))))
    ∙ (sym (flat_map-append f (take i xs) (get_or xs i x ∷ [])) ∙ ap (flat_map f) (sym (rw add-one (take-suc xs i x l)))))

-- ---- tokens

-- the first token
pub Adds-first : (old new : Written) (t : Token) → new.before ≡ old.before → new.tokens ≡ old.tokens ++ t ∷ [] → Adds old new (t ∷ [])
Adds-first old new t b h = (b, h)

-- some tokens, and then some more
pub Adds-append : (old mid new : Written) (ts us : List Token) → Adds old mid ts → Adds mid new us → Adds old new (ts ++ us)
Adds-append old mid new ts us h k = (k.0 ∙ h.0, k.1 ∙ (ap (λ v. v ++ us) h.1 ∙ append_assoc old.tokens ts us))

-- some tokens, and then the last
pub Adds-push : {E : Type 0} (r : Result (Unit {0}) E) (old mid new : Written) (ts : List Token) (t : Token) → Adds old mid ts → Writes r mid new t → OnOk r (Adds old new (ts ++ t ∷ []))
Adds-push (Ok x) old mid new ts t h k = Adds-append old mid new ts (t ∷ []) h (k.room.0, k.ok)
Adds-push (Err e) old mid new ts t h k = tt

-- some tokens, and then some more, where they were taken
pub adds_then : {E : Type 0} (r : Result (Unit {0}) E) (old mid new : Written) (ts us : List Token) → Adds old mid ts → OnOk r (Adds mid new us) → OnOk r (Adds old new (ts ++ us))
adds_then (Ok x) old mid new ts us h k = Adds-append old mid new ts us h k
adds_then (Err e) old mid new ts us h k = tt

-- the tokens of each
abbrev pub each_tokens : {X : Type 0} → (X → Data) → List X → List Token
each_tokens f xs = flat_map (λ x. json_tokens (outline (f x))) xs

items_each : {X : Type 0} (f : X → Data) (xs : List X) → items_tokens (items_outline (items_of (map f xs))) ≡ each_tokens f xs ++ end_array ∷ []
items_each f [] = refl
items_each f (x ∷ xs) = let ts = json_tokens (outline (f x)) in ap (λ v. ts ++ v) (items_each f xs) ∙ sym (append_assoc ts (each_tokens f xs) (end_array ∷ []))

-- one more item
pub Adds-item : {X : Type 0} (f : X → Data) (xs : List X) (old mid new : Written) (i : ℕ) (x : X) → Adds old mid (begin_array ∷ each_tokens f (take i xs)) → i < length xs → x ≡ get_or xs i x → AddsValue mid new (f x) → Adds old new (begin_array ∷ each_tokens f (take (i + 1) xs))
Adds-item f xs old mid new i x h l e k =
    let more = Adds-append old mid new (begin_array ∷ each_tokens f (take i xs)) (json_tokens (outline (f x))) h k in
    let step = flat_map-take_next (λ y. json_tokens (outline (f y))) xs (each_tokens f (take i xs)) (json_tokens (outline (f x))) i x refl l e refl in
    (more.0, more.1 ∙ ap (λ v. old.tokens ++ begin_array ∷ v) step)

-- all items
pub AddsValue-items : {E X : Type 0} (r : Result (Unit {0}) E) (f : X → Data) (xs : List X) (old mid new : Written) (i : ℕ) → length xs ≤ i → Adds old mid (begin_array ∷ each_tokens f (take i xs)) → Writes r mid new end_array → OnOk r (AddsValue old new (array (items_of (map f xs))))
AddsValue-items (Err e) f xs old mid new i l h k = tt
AddsValue-items (Ok x) f xs old mid new i l h k =
    let all = Adds-push (Ok x) old mid new (begin_array ∷ each_tokens f (take i xs)) end_array h k in
    (all.0, all.1 ∙ ap (λ v. old.tokens ++ begin_array ∷ v) (ap (λ ys. each_tokens f ys ++ end_array ∷ []) (take_all i xs l) ∙ sym (items_each f xs)))

-- ---- what is print-AddsValue

-- a writer that began with nothing has the text of the value
pub print-AddsValue : (room : List ℕ) (first last : Written) (d : Data) → room ≡ [] → first.before ≡ room → first.tokens ≡ [] → AddsValue first last d → last.before ++ print last.tokens ≡ compact_text d
print-AddsValue room first last d e b t h =
    ap (λ v. v ++ print last.tokens) (h.0 ∙ (b ∙ e)) ∙ (ap print (h.1 ∙ ap (λ v. v ++ json_tokens (outline d)) t) ∙ print-outline d)

-- the text of a number is that of its integer
pub number_text-of_integer : (z : ℤ) → number_text (of_integer z) ≡ signed_decimal z
number_text-of_integer (pos n) = refl
number_text-of_integer (negsuc n) = refl
