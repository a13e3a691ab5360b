-- A page that is answer_of-page_with.
use Rattle.std.proofs.Common.{◌≡◌, ℕ, Bool, false, cond, List, [], ◌++◌, length, Some, sym, subst, ap, ◌∙◌}
use Rattle.std.specs.Prelude.{Option}
use Rattle.iv_pages.specs.Asking.{Asked}
use Rattle.iv_pages.specs.Answer.{Served, has_body, page_head, refusal_answer, tag_of}
use Rattle.iv_pages.specs.declared.answers.Refusal.TheVariants.{NotFound}
use Rattle.iv_pages.specs.Kind.{kind_of}
use Rattle.iv_pages.specs.Place.{place_of}
use Rattle.iv_host.specs.Pages.{IsFile, IsPage, answer_of, file_at, found, gone, headed, missing, policy, served, whole}

pub IsFile-whole : (a : Asked) (place kind tag contents out : List ℕ) (size changed : ℕ) → kind ≡ kind_of place → tag ≡ tag_of size changed
    → out ≡ answer_of (served kind (Some tag) (length contents)) a contents → IsFile a place size changed out
IsFile-whole a place kind tag contents out size changed k t e =
    subst (IsFile a place size changed)
    (sym (e ∙ (ap (λ z. answer_of (served z (Some tag) (length contents)) a contents) k ∙ ap (λ z. answer_of (served (kind_of place) (Some z) (length contents)) a contents) t)))
    (whole contents)

pub IsFile-head : (a : Asked) (place kind tag out : List ℕ) (size changed : ℕ) → kind ≡ kind_of place → tag ≡ tag_of size changed
    → has_body (served kind (Some tag) size) a ≡ false → out ≡ page_head (served kind (Some tag) size) a → IsFile a place size changed out
IsFile-head a place kind tag out size changed k t h e =
    subst (IsFile a place size changed)
    (sym (e ∙ (ap (λ z. page_head (served z (Some tag) size) a) k ∙ ap (λ z. page_head (served (kind_of place) (Some z) size) a) t)))
    (headed (sym (ap (λ z. has_body (served z (Some tag) size) a) k ∙ ap (λ z. has_body (served (kind_of place) (Some z) size) a) t) ∙ h))

pub IsFile-NotFound : (a : Asked) (place out : List ℕ) (size changed : ℕ) → out ≡ refusal_answer NotFound a.only_head → IsFile a place size changed out
IsFile-NotFound a place out size changed e = subst (IsFile a place size changed) (sym e) gone

pub IsPage-IsFile : (a : Asked) (place read out : List ℕ) (size changed : ℕ) → place_of a.target ≡ Some place → read ≡ place → IsFile a read size changed out → IsPage a out
IsPage-IsFile a place read out size changed p e f = found place out size changed p (subst (λ (z : List ℕ). IsFile a z size changed out) e f)

pub IsPage-NotFound : (a : Asked) (out : List ℕ) → out ≡ refusal_answer NotFound a.only_head → IsPage a out
IsPage-NotFound a out e = subst (IsPage a) (sym e) missing

-- ---- its bytes

abbrev pub page_with : (kind : List ℕ) → Option (List ℕ) → (contents policy : List ℕ) → Served
page_with kind tag contents pol = record { kind = kind; tag = tag; length = length contents; policy = pol }

pub answer_of-page_with : (kind : List ℕ) (tag : Option (List ℕ)) (contents pol : List ℕ) (a : Asked) (o p q : List ℕ) (f : Bool) → o ≡ [] → pol ≡ policy
    → p ≡ o ++ page_head (page_with kind tag contents pol) a → f ≡ has_body (page_with kind tag contents pol) a → q ≡ p ++ cond f contents []
    → q ≡ answer_of (served kind tag (length contents)) a contents
answer_of-page_with kind tag contents pol a o p q f n e h b g =
    g ∙ (ap (λ z. z ++ cond f contents []) (h ∙ ap (λ z. z ++ page_head (page_with kind tag contents pol) a) n)
    ∙ (ap (λ z. page_head (page_with kind tag contents pol) a ++ cond z contents []) b
    ∙ ap (λ z. page_head (page_with kind tag contents z) a ++ cond (has_body (page_with kind tag contents z) a) contents []) e))
