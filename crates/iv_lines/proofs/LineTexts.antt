-- Texts of lines that are appended, and that no refusal holds a float.
use Rattle.std.proofs.Common.{◌≡◌, ℕ, ◌≤◌, List, [], ◌∷◌, ◌++◌, map, false, take, length, ap, ◌∙◌, sym, refl}
use Rattle.std.specs.Prelude.{flat_map}
use Rattle.std.proofs.lemmas.List.{take_all}
use Rattle.serde_json.specs.Written.{has_float}
use Rattle.iv_machine.specs.Act as machine
use Rattle.iv_machine.specs.Act.{Refusal, refused}
use Rattle.iv_lines.specs.Texts.{reply_data}

pub flat_map-map : {X Y Z : Type 0} (g : Y → List Z) (f : X → Y) (xs : List X) → flat_map g (map f xs) ≡ flat_map (λ x. g (f x)) xs
flat_map-map g f [] = refl
flat_map-map g f (x ∷ xs) = ap (λ v. g (f x) ++ v) (flat_map-map g f xs)

pub flat_map-map_whole : {X Y Z : Type 0} (g : Y → List Z) (f : X → Y) (xs : List X) (sofar : List Z) (i : ℕ) → length xs ≤ i → sofar ≡ flat_map (λ x. g (f x)) (take i xs) → sofar ≡ flat_map g (map f xs)
flat_map-map_whole g f xs sofar i l h = h ∙ (ap (flat_map (λ x. g (f x))) (take_all i xs l) ∙ sym (flat_map-map g f xs))

-- ---- refusals

pub has_float-refused : (n : ℕ) (r : Refusal) → has_float (reply_data n (refused r)) ≡ false
has_float-refused n machine.no_session = refl
has_float-refused n machine.session_in_use = refl
has_float-refused n machine.unknown_role = refl
has_float-refused n machine.name_taken = refl
has_float-refused n machine.unknown_relation = refl
has_float-refused n machine.not_a_table = refl
has_float-refused n (machine.bad_row entry) = refl
has_float-refused n (machine.bad_query place why) = refl
has_float-refused n machine.not_administrator = refl
has_float-refused n (machine.not_owner rel) = refl
has_float-refused n (machine.missing_privilege p rel) = refl
has_float-refused n (machine.no_permissive rel test entry) = refl
has_float-refused n (machine.restrictive_failed policy rel test entry) = refl
has_float-refused n (machine.no_such_row entry) = refl
has_float-refused n machine.limit = refl
has_float-refused n machine.unknown_policy = refl
has_float-refused n machine.unknown_subscription = refl
has_float-refused n machine.too_many = refl
has_float-refused n machine.membership_loop = refl
