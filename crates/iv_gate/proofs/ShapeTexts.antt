-- Each thing that is told of the shape is a request, and a client that comes in is told its greeting.
use Rattle.std.proofs.Common.{◌≡◌, ℕ, Bool, true, false, cond, ◌||◌, List, [], ◌∷◌, ◌++◌, map, refl, ap, ◌∙◌}
use Rattle.std.specs.Prelude.{bytes_eq, codes, filter}
use Rattle.std.specs.List.{AllByRecursion, list_any}
use Rattle.std.proofs.lemmas.List.{map-append}
use Rattle.std.proofs.lemmas.List.Concat.{flat_map-append}
use Rattle.std.proofs.lemmas.List.Elements.{filter-append}
use Rattle.iv_access.specs.Rights.{Name}
use Rattle.iv_message.specs.Told.{Told, made, placed, settled, welcome}
use Rattle.iv_clients.specs.Clients.{Shown, fresh, greeting, told}
use Rattle.iv_records.specs.Journal.{Entry, Request, is_shape, requests_in, shape_for, shape_of}
use Rattle.iv_clients.specs.Tokens.{Token}

-- ---- the shape

abbrev pub shape_in : List Request → List Told
shape_in qs = map (λ (q : Request). made q.role q.line) (filter (λ (q : Request). is_shape q.act) qs)

module _ (P : Told → Type 0) (k : (role line : List ℕ) → P (made role line)) where
  all_of : (qs : List Request) → AllByRecursion P (shape_in qs)
  all_of [] = tt
  all_of (q ∷ qs) = by (is_shape q.act) (all_of qs)
    where
      by : (b : Bool) → AllByRecursion P (shape_in qs)
          → AllByRecursion P (map (λ (x : Request). made x.role x.line) (cond b (q ∷ filter (λ (x : Request). is_shape x.act) qs) (filter (λ (x : Request). is_shape x.act) qs)))
      by true rest = (k q.role q.line, rest)
      by false rest = rest

  pub all_made : (role : Name) (es : List Entry) → AllByRecursion P (shape_for role es)
  all_made role es = by (bytes_eq role (codes "admin"))
    where
      by : (b : Bool) → AllByRecursion P (cond b (shape_of es) [])
      by true = all_of (requests_in es)
      by false = tt

pub shape_of-append : (es fs : List Entry) → shape_of (es ++ fs) ≡ shape_of es ++ shape_of fs
shape_of-append es fs =
    ap shape_in (flat_map-append (λ (e : Entry). e.requests) es fs)
    ∙ (ap (map (λ (x : Request). made x.role x.line)) (filter-append (λ (x : Request). is_shape x.act) (requests_in es) (requests_in fs))
    ∙ map-append (λ (x : Request). made x.role x.line) (filter (λ (x : Request). is_shape x.act) (requests_in es)) (filter (λ (x : Request). is_shape x.act) (requests_in fs)))

pub shape_for-append : (role : Name) (es fs : List Entry) → shape_for role (es ++ fs) ≡ shape_for role es ++ shape_for role fs
shape_for-append role es fs = by (bytes_eq role (codes "admin"))
  where
    by : (b : Bool) → cond b (shape_of (es ++ fs)) [] ≡ cond b (shape_of es) [] ++ cond b (shape_of fs) []
    by true = shape_of-append es fs
    by false = refl

pub shape_for-none : (role : Name) → shape_for role [] ≡ []
shape_for-none role = by (bytes_eq role (codes "admin"))
  where
    by : (b : Bool) → cond b (shape_of []) [] ≡ []
    by true = refl
    by false = refl

-- ---- tests of what is told

pub filter-all_false : (p : Told → Bool) (ts : List Told) → AllByRecursion (λ t. p t ≡ false) ts → filter p ts ≡ []
filter-all_false p [] a = refl
filter-all_false p (t ∷ ts) a = (λ i. cond (a.0 i) (t ∷ filter p ts) (filter p ts)) ∙ filter-all_false p ts a.1

pub filter-all_true : (p : Told → Bool) (ts : List Told) → AllByRecursion (λ t. p t ≡ true) ts → filter p ts ≡ ts
filter-all_true p [] a = refl
filter-all_true p (t ∷ ts) a = (λ i. cond (a.0 i) (t ∷ filter p ts) (filter p ts)) ∙ ap (λ z. t ∷ z) (filter-all_true p ts a.1)

pub list_any-all_false : (p : Told → Bool) (ts : List Told) → AllByRecursion (λ t. p t ≡ false) ts → list_any p ts ≡ false
list_any-all_false p [] a = refl
list_any-all_false p (t ∷ ts) a = (λ i. a.0 i || list_any p ts) ∙ list_any-all_false p ts a.1

-- ---- who comes in

pub AllByRecursion-greeting : (P : Told → Type 0) → ((role : Name) → P (welcome role)) → ((at : List ℕ) → P (placed at)) → ((role line : List ℕ) → P (made role line)) → P settled
    → (es : List Entry) (role : Name) (at : List ℕ) → AllByRecursion P (greeting es role at)
AllByRecursion-greeting P w l k s es role at = (w role, (l at, with_last (shape_for role es) (all_made P k role es)))
  where
    with_last : (ts : List Told) → AllByRecursion P ts → AllByRecursion P (ts ++ settled ∷ [])
    with_last [] a = (s, tt)
    with_last (t ∷ ts) a = (a.0, with_last ts a.1)

-- what is told when these entries are accepted, and comes of the client's own token
abbrev pub told_itself : List Entry → Told → Shown
told_itself es t = record { told = t; entries = es; answers = true }

told_all_itself : (es : List Entry) (ts : List Told) → map (λ (s : Shown). s.told) (map (told_itself es) ts) ≡ ts
told_all_itself es [] = refl
told_all_itself es (t ∷ ts) = ap (λ z. t ∷ z) (told_all_itself es ts)

pub told-fresh : (es : List Entry) (t : Token) (at : List ℕ) → told (fresh es t at) ≡ greeting es t.role at
told-fresh es t at = told_all_itself es (greeting es t.role at)

-- ---- where a test leads

pub cond-either : {X : Type 0} (P : X → Type 0) (b : Bool) (x y : X) → P x → P y → P (cond b x y)
cond-either P true x y p q = p
cond-either P false x y p q = q
