-- Answers as bytes (RFC 9110, sections 8.8.3, 13.1.2, 15.4.5 and 15.5; RFC 9111, section 5.2.2.4; RFC 9112, sections 4 and 9.6).
use Rattle.std.specs.Prelude.{ℕ, ◌+◌, ◌==◌, ◌||◌, not, Bool, false, if◌then◌else◌, List, [], ◌∷◌, ◌++◌, length, take, drop, bytes_eq, codes, decimal, Option, Some, None}
use Rattle.std.specs.List.{list_any}
use Rattle.iv_pages.specs.declared.answers.Refusal.{Refusal}
use Rattle.iv_pages.specs.declared.answers.Refusal.TheVariants.{BadRequest, NotFound, MethodNotAllowed, TargetTooLong, FieldsTooLarge, Failed, Unavailable, VersionNotSupported}
use Rattle.iv_pages.specs.Asking.{Asked}
use Rattle.iv_pages.specs.Cut.{parts}

-- a file: its media type, its tag, its number of bytes, and the policy of its content
pub record Served : Type 0 where
  pub kind : List ℕ
  pub tag : Option (List ℕ)
  pub length : ℕ
  pub policy : List ℕ

-- ---- tags

-- a weak one: the bytes of a file, and the nanosecond since 1970 in which it changed last
abbrev pub tag_of : (size changed : ℕ) → List ℕ
tag_of size changed = codes "W/\"" ++ (decimal size ++ (codes "-" ++ (decimal changed ++ codes "\"")))

abbrev pub skip_blanks : List ℕ → List ℕ
skip_blanks [] = []
skip_blanks (b ∷ text) = if (b == 32) || (b == 9) then skip_blanks text else b ∷ text

-- without the mark of a weak tag
abbrev pub strong : List ℕ → List ℕ
strong tag = if bytes_eq (take 2 tag) (codes "W/") then drop 2 tag else tag

-- by weak comparison
abbrev pub is_tag : (tag part : List ℕ) → Bool
is_tag tag part = bytes_eq (strong (skip_blanks part)) (strong tag)

abbrev pub lists_tag : (tag list : List ℕ) → Bool
lists_tag tag list = list_any (is_tag tag) (parts 44 list)

-- who asks has what has this tag: `If-None-Match` is `*`, or lists it
abbrev pub is_known : (tag known : Option (List ℕ)) → Bool
is_known None known = false
is_known (Some tag) None = false
is_known (Some tag) (Some list) = bytes_eq list (codes "*") || lists_tag tag list

-- ---- fields

abbrev pub field_line : (name value : List ℕ) → List ℕ
field_line name value = name ++ (codes ": " ++ (value ++ codes "\r\n"))

abbrev pub tag_line : Option (List ℕ) → List ℕ
tag_line None = []
tag_line (Some tag) = field_line (codes "etag") tag

-- the connection ends after the answer, so what a request has after its head is never read as another
abbrev pub closing_lines : List ℕ
closing_lines =
    codes "cache-control: no-cache\r\nx-content-type-options: nosniff\r\nconnection: close\r\n\r\n"

-- ---- pages

abbrev pub ok_head : Served → List ℕ
ok_head p =
    codes "HTTP/1.1 200 OK\r\n"
    ++ (field_line (codes "content-type") p.kind
    ++ (field_line (codes "content-length") (decimal p.length)
    ++ (tag_line p.tag
    ++ (field_line (codes "content-security-policy") p.policy ++ closing_lines))))

abbrev pub not_modified : Served → List ℕ
not_modified p = codes "HTTP/1.1 304 Not Modified\r\n" ++ (tag_line p.tag ++ closing_lines)

abbrev pub page_head : Served → Asked → List ℕ
page_head p a = if is_known p.tag a.known then not_modified p else ok_head p

-- the contents follow the head, unless the head was asked for alone, or who asks has them
abbrev pub has_body : Served → Asked → Bool
has_body p a = if is_known p.tag a.known then false else not a.only_head

-- ---- refusals

abbrev pub status_words : Refusal → List ℕ
status_words BadRequest = codes "400 Bad Request"
status_words NotFound = codes "404 Not Found"
status_words MethodNotAllowed = codes "405 Method Not Allowed"
status_words TargetTooLong = codes "414 URI Too Long"
status_words FieldsTooLarge = codes "431 Request Header Fields Too Large"
status_words Failed = codes "500 Internal Server Error"
status_words Unavailable = codes "503 Service Unavailable"
status_words VersionNotSupported = codes "505 HTTP Version Not Supported"

abbrev pub allow_line : Refusal → List ℕ
allow_line MethodNotAllowed = codes "allow: GET, HEAD\r\n"
allow_line _ = []

abbrev pub refusal_head : Refusal → List ℕ
refusal_head why =
    codes "HTTP/1.1 "
    ++ (status_words why
    ++ (codes "\r\n"
    ++ (allow_line why
    ++ (field_line (codes "content-type") (codes "text/plain; charset=utf-8")
    ++ (field_line (codes "content-length") (decimal (length (status_words why) + 1)) ++ closing_lines)))))

-- its contents are its number and words
abbrev pub refusal_answer : Refusal → (only_head : Bool) → List ℕ
refusal_answer why only_head = refusal_head why ++ (if only_head then [] else status_words why ++ codes "\n")
