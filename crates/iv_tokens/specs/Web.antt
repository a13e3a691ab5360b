-- Web tokens that are known beside the tokens of the file (RFC 7519).
use Rattle.std.specs.Prelude.{◌≡◌, ℕ, ◌⊎◌, ◌&&◌, ◌||◌, Bool, false, if◌then◌else◌, List, [], ◌∷◌, ◌++◌, All, length, count_by, map, filter, find, nat_le, nat_lt, bytes_eq, Option, Some, None, option_map, Result, Ok, Err}
use Rattle.std.specs.List.{remove}
use Rattle.sha2.specs.Sha256.{sha256}
use Rattle.iv_clients.specs.Tokens.{Token, has_digest}
use Rattle.iv_jwt.specs.Tokens.{Granted, IsGranted, judged}
use Rattle.iv_jwt.specs.declared.tokens.Fault.{Fault}
use Rattle.iv_tokens.specs.declared.web.Judged.{Judged}
use Rattle.iv_tokens.specs.declared.web.Judged.TheVariants as answer
use Rattle.iv_tokens.specs.Entries.{Entry, IsOfEntry, holder_of, tokens_among, valid_at}

-- the token that was granted, held by whom it speaks of, the second at which it was presented, and that at which it ends
pub record Web : Type 0 where
  pub token : Token
  pub since : ℕ
  pub until : ℕ

-- the secret grants it at the second at which it was presented
pub record IsWeb (secret : List ℕ) (w : Web) : Type 0 where
  pub text : List ℕ
  pub digest : w.token.digest ≡ sha256 text
  pub granted : IsGranted secret w.since text (record { role = w.token.role; subject = w.token.user; expires = w.until })

abbrev pub AreWeb : (secret : List ℕ) → List Web → Type 0
AreWeb secret [] = Unit
AreWeb secret (w ∷ ws) = IsWeb secret w × AreWeb secret ws

-- from that second on, until its end
abbrev pub is_web_valid : (now : ℕ) → Web → Bool
is_web_valid now w = nat_le w.since now && nat_lt now w.until

abbrev pub web_tokens : List Web → List Token
web_tokens ws = map (λ w. w.token) ws

abbrev pub web_at : (now : ℕ) → List Web → List Token
web_at now ws = web_tokens (filter (is_web_valid now) ws)

-- ---- what is known

-- the entries that were read last, the secret, the web tokens that it granted, and the second for which tokens were handed on last, if that was
-- since they changed
pub record Known : Type 0 where
  pub entries : List Entry
  pub secret : List ℕ
  pub web : List Web
  pub handed : Option ℕ

-- the tokens that are known at a second: those of the file that are valid, and then web tokens
abbrev pub known_at : (now : ℕ) → Known → List Token
known_at now k = valid_at now k.entries ++ web_at now k.web

abbrev pub known_from : (secret : List ℕ) → List Entry → Known
known_from secret es = record { entries = es; secret = secret; web = []; handed = None }

abbrev pub read_anew : List Entry → Known → Known
read_anew es k = record k { entries = es; handed = None }

-- the tokens that were handed on last, if they are of what is known
abbrev pub handed_on : Known → Option (List Token)
handed_on k = option_map (λ now. known_at now k) k.handed

-- ---- a text that is presented

-- among the entries, or among the web tokens
abbrev pub is_among : (digest : List ℕ) → List Entry → List Web → Bool
is_among digest es ws = has_digest digest (tokens_among es) || has_digest digest (web_tokens ws)

-- web tokens that are known at a time: 1,024, and of one subject 16
abbrev pub is_full : (subject : List ℕ) → List Web → Bool
is_full subject ws = nat_le 1024 (length ws) || nat_le 16 (count_by (λ w. bytes_eq w.token.user subject) ws)

abbrev pub web_of : (now : ℕ) (digest : List ℕ) → Granted → Web
web_of now digest g = record { token = record { digest = digest; role = g.role; user = g.subject }; since = now; until = g.expires }

abbrev pub answer_of : List Web → (now : ℕ) (digest : List ℕ) → Result Granted Fault → Result Web Judged
answer_of ws now digest (Err why) = Err (answer.Refused why)
answer_of ws now digest (Ok g) = if is_full g.subject ws then Err answer.Full else Ok (web_of now digest g)

-- what becomes of a text: a web token that is known from now on, or why it is none
abbrev pub answer_to : List Entry → (secret : List ℕ) → List Web → (now : ℕ) (text : List ℕ) → Result Web Judged
answer_to es secret ws now text = if is_among (sha256 text) es ws then Err answer.Known else answer_of ws now (sha256 text) (judged secret now text)

abbrev pub told : Result Web Judged → Judged
told (Ok w) = answer.Granted
told (Err why) = why

-- what is known from then on
abbrev pub kept : Result Web Judged → Known → Known
kept (Ok w) k = record k { web = k.web ++ w ∷ []; handed = None }
kept (Err why) k = k

abbrev pub answer_by : Known → (now : ℕ) (text : List ℕ) → Result Web Judged
answer_by k now text = answer_to k.entries k.secret k.web now text

abbrev pub has_role : (role : List ℕ) → Result Granted Fault → Bool
has_role role (Ok g) = bytes_eq g.role role
has_role role (Err why) = false

-- whether the secret grants this role to a text
abbrev pub grants_role : (secret : List ℕ) (now : ℕ) (role text : List ℕ) → Bool
grants_role secret now role text = has_role role (judged secret now text)

-- without the web token of a place
abbrev pub without_web : ℕ → Known → Known
without_web at k = record k { web = remove k.web at; handed = None }

abbrev pub or_subject : Option (List ℕ) → Option Web → Option (List ℕ)
or_subject (Some holder) w = Some holder
or_subject None w = option_map (λ v. v.token.user) w

-- who holds the token of a digest: the holder of an entry, or else the subject of a web token
abbrev pub holder_with : List ℕ → Known → Option (List ℕ)
holder_with digest k = or_subject (holder_of digest k.entries) (find (λ w. bytes_eq w.token.digest digest) k.web)

-- ---- in other words

-- it is the digest of a text that the secret grants at this second, in this role
pub record IsOfWeb (secret : List ℕ) (now : ℕ) (t : Token) : Type 0 where
  pub text : List ℕ
  pub granted : Granted
  pub digest : t.digest ≡ sha256 text
  pub role : t.role ≡ granted.role
  pub is : IsGranted secret now text granted

-- what is known at a second is of the file, and its end is yet to come, or a web token that is granted at that second
abbrev pub IsKnown : (now : ℕ) → Known → Token → Type 0
IsKnown now k t = IsOfEntry now k.entries t ⊎ IsOfWeb k.secret now t

abbrev pub AllAreKnown : Type 0
AllAreKnown = (now : ℕ) (k : Known) → AreWeb k.secret k.web → All (IsKnown now k) (known_at now k)
