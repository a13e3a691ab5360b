-- What a request for a page is answered, whole.
use Rattle.std.specs.Prelude.{◌≡◌, ℕ, false, if◌then◌else◌, List, [], ◌++◌, length, codes, Option, Some}
use Rattle.iv_pages.specs.Asking.{Asked}
use Rattle.iv_pages.specs.Answer.{Served, has_body, page_head, refusal_answer, tag_of}
use Rattle.iv_pages.specs.declared.answers.Refusal.TheVariants.{NotFound}
use Rattle.iv_pages.specs.Kind.{kind_of}
use Rattle.iv_pages.specs.Place.{place_of}

-- what pages may load and do (Content Security Policy Level 3)
unfoldable pub policy : List ℕ
policy = codes "default-src 'none'; script-src 'self'; style-src 'self'; connect-src 'self'; img-src 'self' data:; font-src 'self'; manifest-src 'self'; base-uri 'none'; form-action 'none'; frame-ancestors 'none'"

abbrev pub answer_of : Served → Asked → (contents : List ℕ) → List ℕ
answer_of p a contents = page_head p a ++ (if has_body p a then contents else [])

-- a file of this kind with so many bytes
abbrev pub served : (kind : List ℕ) → Option (List ℕ) → (count : ℕ) → Served
served kind tag count = record { kind = kind; tag = tag; length = count; policy = policy }

-- a file by the kind of the place that the target names, under the tag of its size and its last change
abbrev pub file_at : (place : List ℕ) (size changed count : ℕ) → Served
file_at place size changed count = served (kind_of place) (Some (tag_of size changed)) count

-- contents; the head of the answer says how many; that head alone, if they are not to follow; or that the file is there no more
pub data IsFile (a : Asked) (place : List ℕ) (size changed : ℕ) : List ℕ → Type 0 where
  whole : (contents : List ℕ) → IsFile a place size changed (answer_of (file_at place size changed (length contents)) a contents)
  headed : has_body (file_at place size changed size) a ≡ false → IsFile a place size changed (page_head (file_at place size changed size) a)
  gone : IsFile a place size changed (refusal_answer NotFound a.only_head)

-- a file of the place that the target names, or that there is no such page
pub data IsPage (a : Asked) : List ℕ → Type 0 where
  found : (place out : List ℕ) (size changed : ℕ) → place_of a.target ≡ Some place → IsFile a place size changed out → IsPage a out
  missing : IsPage a (refusal_answer NotFound a.only_head)
