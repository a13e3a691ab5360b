-- The table of the code has the forms of the definitions.
use Rattle.std.proofs.Common.{◌≡◌, ◌∙◌, ℕ, List, [], ◌∷◌, ◌++◌, take, drop, map, Bool, true, false, cond, bytes_eq, Option, Some, None, option_map, refl, subst}
use Rattle.std.specs.Prelude.{codes, find}
use Rattle.std.specs.Borrow.{Bor}
use Rattle.std.proofs.lemmas.Slice.Eq.{bytes_eq-Decides}
use Rattle.iv_request.specs.Forms as asked
use Rattle.iv_request.specs.Forms.{form_of, forms}
use Rattle.iv_request.specs.Names.{form_seen}
use Rattle.iv_request.specs.declared.forms.Form.{Form}

seen_found : (text : List ℕ) (fs : List Form) → option_map form_seen (find (λ f. bytes_eq f.text.now text) fs) ≡ find (λ f. bytes_eq f.text text) (map form_seen fs)
seen_found text [] = refl
seen_found text (f ∷ fs) = part (bytes_eq f.text.now text) (seen_found text fs)
  where
    part : (b : Bool) → option_map form_seen (find (λ g. bytes_eq g.text.now text) fs) ≡ find (λ g. bytes_eq g.text text) (map form_seen fs)
        → option_map form_seen (cond b (Some f) (find (λ g. bytes_eq g.text.now text) fs)) ≡ cond b (Some (form_seen f)) (find (λ g. bytes_eq g.text text) (map form_seen fs))
    part true h = refl
    part false h = h

seen_twice : (r : Option (Bor Form)) → option_map (λ f. form_seen f.now) r ≡ option_map form_seen (option_map (λ f. f.now) r)
seen_twice None = refl
seen_twice (Some f) = refl

pub find-form_seen : (text : List ℕ) (r : Option (Bor Form)) (fs : List Form) → option_map (λ f. f.now) r ≡ find (λ f. bytes_eq f.text.now text) fs → option_map (λ f. form_seen f.now) r ≡ find (λ f. bytes_eq f.text text) (map form_seen fs)
find-form_seen text r fs h = seen_twice r ∙ (λ i. option_map form_seen (h i)) ∙ seen_found text fs

-- the forms as they stand in the code: that of writes first
abbrev pub write_first : List asked.Form
write_first = drop 12 (take 13 forms) ++ (take 12 forms ++ drop 13 forms)

in_order : (text : List ℕ) (b : Bool) → bytes_eq (codes "write") text ≡ b → find (λ f. bytes_eq f.text text) write_first ≡ form_of text
in_order text true e = subst (λ t. find (λ f. bytes_eq f.text t) write_first ≡ form_of t) ((bytes_eq-Decides (codes "write") text).0 e) refl
in_order text false e = rw e refl

pub form_of-find : (text : List ℕ) {o : Option asked.Form} → o ≡ find (λ f. bytes_eq f.text text) write_first → o ≡ form_of text
form_of-find text h = h ∙ in_order text (bytes_eq (codes "write") text) refl
